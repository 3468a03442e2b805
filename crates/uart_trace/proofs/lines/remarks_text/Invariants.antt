use Rattle.std.proofs.Common.{[]}
use Rattle.uart_trace.specs.Lines.{Adds}
use Rattle.uart_trace.proofs.lines.remarks_text.Given as goal

abbrev pub invariant-loop-line : goal.invariant-loop-line
invariant-loop-line l = Adds [] l.text.items []
