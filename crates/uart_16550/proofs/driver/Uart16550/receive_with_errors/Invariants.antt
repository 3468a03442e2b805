use Rattle.std.proofs.Common.{◌≡◌, take, drop}
use Rattle.uart_16550.specs.Grammar.{InOrder}
use Rattle.uart_16550.specs.Receive.{HitWithErrors}
use Rattle.uart_16550.specs.Driver.{Made}
use Rattle.uart_16550.proofs.driver.Uart16550.receive_with_errors.Given as goal

abbrev pub invariant-loop-taken : goal.invariant-loop-taken
invariant-loop-taken g l = record {
  made : Made g.B.Backend.step (InOrder HitWithErrors (take l.taken l.slots)) l.fn.self l.self;
  rest : drop l.taken l.slots ≡ drop l.taken l.fn.slots;
}
