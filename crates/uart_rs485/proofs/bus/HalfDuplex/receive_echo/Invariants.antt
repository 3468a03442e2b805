use Rattle.std.proofs.Common.{◌≡◌, take}
use Rattle.uart_16550.specs.Driver.{Made}
use Rattle.uart_16550.specs.Grammar.{InOrder}
use Rattle.uart_16550.specs.Receive.{Awaited}
use Rattle.uart_rs485.proofs.bus.HalfDuplex.receive_echo.Given as goal

abbrev pub invariant-loop-done : goal.invariant-loop-done
invariant-loop-done g l = record {
  made : Made g.B.Backend.step (InOrder Awaited (take l.done l.sent)) l.fn.self.uart l.self.uart;
  direction : l.self.direction ≡ l.fn.self.direction;
  sends : l.self.is_sending ≡ l.fn.self.is_sending;
}
