use Rattle.std.proofs.Common.{◌≡◌, take, drop}
use Rattle.uart_16550.specs.Grammar.{InOrder}
use Rattle.uart_16550.specs.Receive.{Awaited}
use Rattle.uart_16550.specs.Driver.{Made}
use Rattle.uart_16550.proofs.driver.Uart16550.receive_bytes_exact.Given as goal

abbrev pub invariant-loop-done : goal.invariant-loop-done
invariant-loop-done g l = record {
  made : Made g.B.Backend.step (InOrder Awaited (take l.done l.buffer)) l.fn.self l.self;
  rest : drop l.done l.buffer ≡ drop l.done l.fn.buffer;
}
