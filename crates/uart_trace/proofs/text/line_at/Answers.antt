use Rattle.std.proofs.Common.{rules}
use Rattle.std.specs.List.{slice_split}
use Rattle.std.proofs.lemmas.Iterator.Consumers.{nth_from_yields_List}
use Rattle.std.proofs.lemmas.Iterator.Splits.{YieldsList-from_slice_split}
use Rattle.uart_language.proofs.Lines.{word_from_get}
use Rattle.uart_trace.specs.Trace.{is_line_feed}
use Rattle.uart_trace.proofs.text.line_at.Goals as goal

pub returns : goal.returns
returns c =
    let e = nth_from_yields_List c.nth.result _ c.args.index c.nth.ensures.ran (YieldsList-from_slice_split _ is_line_feed
    c.args.bytes.now c.split.ensures.rest c.split.ensures.done c.split.ensures.closure (λ x b q k. search rules)) in
    rw c.unwrap_or.ensures (word_from_get (slice_split is_line_feed c.args.bytes.now) c.args.index c.nth.result _ e)
