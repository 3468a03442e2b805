use Rattle.std.proofs.Common.{rules}
use Rattle.std.proofs.lemmas.Iterator.{YieldsList-from_slice}
use Rattle.std.proofs.lemmas.Iterator.Search.{position_from_yields_List}
use Rattle.uart_judges.specs.TraceLines.{is_remark}
use Rattle.uart_judges.proofs.Ends.{position_is}
use Rattle.uart_judges.proofs.traces.lines.remark_start.Goals as goal

pub returns : goal.returns
returns c =
    rw c.unwrap_or.ensures (position_is is_remark c.args.line.now c.position.result
    (position_from_yields_List is_remark _ _ c.position.result c.position.ensures.ran
    (YieldsList-from_slice c.args.line.now c.iter.ensures.rest) (λ x b q k. search rules)))
