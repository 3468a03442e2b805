use Rattle.std.proofs.Common.{◌≡◌, ℕ, List, take, drop}
use Rattle.std.specs.List.{FoldsTo}
use Rattle.uart_16550.specs.Grammar.{InOrder}
use Rattle.uart_16550.specs.Patience.{Awaited, ByteAfter, items_of, misses_of, keeps_waiting}
use Rattle.uart_16550.specs.Driver.{Made}
use Rattle.uart_16550.proofs.driver.Uart16550.receive_bytes_while.Given as goal

abbrev pub invariant-loop-done : goal.invariant-loop-done
invariant-loop-done g l = record {
  received : List (Awaited ℕ);
  bytes : take l.done l.buffer ≡ items_of received;
  asked : FoldsTo g.P.Patience.answers l.fn.patience (keeps_waiting (misses_of received)) l.patience;
  made : Made g.B.Backend.step (InOrder ByteAfter received) l.fn.self l.self;
  rest : drop l.done l.buffer ≡ drop l.done l.fn.buffer;
}
