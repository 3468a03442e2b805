use Rattle.std.proofs.Common.{◌+◌, ◌≤◌, length}
use Rattle.uart_language.specs.Text.{lines_of}
use Rattle.uart_judges.proofs.Read.{CallsSoFar}
use Rattle.uart_judges.proofs.traces.parsing.read_trace.Given as goal

abbrev pub invariant-loop-rest : goal.invariant-loop-rest
invariant-loop-rest l = record {
  so_far : CallsSoFar (lines_of l.bytes) l.exchanges.items l.number l.is_first (lines_of l.rest);
  fits : l.number + length l.rest ≤ length l.bytes;
}

abbrev pub decreases-loop-rest : goal.decreases-loop-rest
decreases-loop-rest l = length l.rest
