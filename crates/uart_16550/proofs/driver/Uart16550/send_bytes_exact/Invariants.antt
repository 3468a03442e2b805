use Rattle.std.proofs.Common.{◌-◌, ◌≤◌, List, ℕ, length, drop}
use Rattle.uart_16550.specs.Grammar.{InOrder}
use Rattle.uart_16550.specs.Transmit.{IsCut, Round}
use Rattle.uart_16550.specs.Driver.{Made, settings}
use Rattle.uart_16550.proofs.driver.Uart16550.send_bytes_exact.Given as goal

abbrev pub invariant-loop-done : goal.invariant-loop-done
invariant-loop-done g l = record {
  within : l.done ≤ length l.bytes;
  pieces : List (List ℕ);
  cut : IsCut (settings l.fn.self) l.bytes pieces (drop l.done l.bytes);
  made : Made g.B.Backend.step (InOrder Round pieces) l.fn.self l.self;
}

abbrev pub decreases-loop-done : goal.decreases-loop-done
decreases-loop-done g l = length l.bytes - l.done
