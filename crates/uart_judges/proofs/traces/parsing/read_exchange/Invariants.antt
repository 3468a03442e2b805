use Rattle.std.proofs.Common.{◌+◌, ◌≤◌, length}
use Rattle.uart_language.specs.Text.{lines_of}
use Rattle.uart_judges.proofs.Read.{BodySoFar}
use Rattle.uart_judges.proofs.traces.parsing.read_exchange.Given as goal

abbrev pub invariant-loop-rest : goal.invariant-loop-rest
invariant-loop-rest l = record {
  so_far : BodySoFar l.call_line (lines_of l.bytes) l.accesses.items l.access_lines.items l.number (lines_of l.rest);
  forward : l.call_line ≤ l.number;
  fits : l.number + length l.rest ≤ l.call_line + length l.bytes;
}

abbrev pub decreases-loop-rest : goal.decreases-loop-rest
decreases-loop-rest l = length l.rest
