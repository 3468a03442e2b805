use Rattle.std.proofs.Common.{◌-◌, ◌≤◌, ℕ, List, length, drop}
use Rattle.std.specs.List.{FoldsTo}
use Rattle.uart_16550.specs.Grammar.{InOrder}
use Rattle.uart_16550.specs.Transmit.{IsCut}
use Rattle.uart_16550.specs.Patience.{Awaited, RoundAfter, items_of, misses_of, keeps_waiting}
use Rattle.uart_16550.specs.Driver.{Made, settings}
use Rattle.uart_16550.proofs.driver.Uart16550.send_bytes_while.Given as goal

abbrev pub invariant-loop-done : goal.invariant-loop-done
invariant-loop-done g l = record {
  within : l.done ≤ length l.bytes;
  rounds : List (Awaited (List ℕ));
  cut : IsCut (settings l.fn.self) l.bytes (items_of rounds) (drop l.done l.bytes);
  asked : FoldsTo g.P.Patience.answers l.fn.patience (keeps_waiting (misses_of rounds)) l.patience;
  made : Made g.B.Backend.step (InOrder RoundAfter rounds) l.fn.self l.self;
}

abbrev pub decreases-loop-done : goal.decreases-loop-done
decreases-loop-done g l = length l.bytes - l.done
