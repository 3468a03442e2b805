use Rattle.std.proofs.Common.{rules}
use Rattle.std.proofs.lemmas.Iterator.{YieldsList-from_slice}
use Rattle.std.proofs.lemmas.Iterator.Search.{position_from_yields_List}
use Rattle.uart_language.proofs.Lines.{is_end, end_is}
use Rattle.uart_language.proofs.text.line_end.Goals as goal

pub returns : goal.returns
returns c =
    rw c.unwrap_or.ensures (end_is c.args.bytes.now c.position.result (position_from_yields_List is_end _ _ c.position.result
    c.position.ensures.ran (YieldsList-from_slice c.args.bytes.now c.iter.ensures.rest) (λ x b q k. search rules)))
