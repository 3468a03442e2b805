use Rattle.std.proofs.Common.{◌≡◌, ◌≤◌, ◌-◌, ◌++◌, List, length, drop}
use Rattle.uart_calls.specs.Links.{WriteLink, WriteChain, taken}
use Rattle.uart_calls.proofs.tests.generic.send_all.Given as goal

abbrev pub invariant-loop-done : goal.invariant-loop-done
invariant-loop-done g l = record {
  within : l.done ≤ length l.bytes;
  links : List (WriteLink g.row.W.Denot g.row.W-Error.Denot);
  chain : WriteChain g.W.Write.writes l.fn.writer links l.writer;
  joined : taken links ++ drop l.done l.bytes ≡ l.bytes;
}

abbrev pub decreases-loop-done : goal.decreases-loop-done
decreases-loop-done g l = length l.bytes - l.done
