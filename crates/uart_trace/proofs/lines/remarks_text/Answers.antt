use Rattle.std.proofs.Common.{[]}
use Rattle.uart_trace.proofs.Traces.{adds_last, adds_none, from_none}
use Rattle.uart_trace.proofs.lines.remarks_text.Goals as goal

pub loop-line-init : goal.loop-line-init
loop-line-init c = from_none c.new-text.result.items _ [] c.new-text.ensures.items (adds_none _)

pub loop-line-preserved : goal.loop-line-preserved
loop-line-preserved c = adds_last [] _ _ [] c.loop-line.invariant c.in_ok-push_remarks.ensures
