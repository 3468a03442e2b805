use Rattle.std.proofs.Common.{◌≡◌, length}
use Rattle.uart_judges.specs.TraceLines.{without_end}
use Rattle.uart_judges.proofs.traces.lines.without_end.Given as goal

abbrev pub invariant-loop-last : goal.invariant-loop-last
invariant-loop-last l = without_end l.rest ≡ without_end l.bytes

abbrev pub decreases-loop-last : goal.decreases-loop-last
decreases-loop-last l = length l.rest
