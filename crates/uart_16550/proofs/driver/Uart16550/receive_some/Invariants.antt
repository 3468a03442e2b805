use Rattle.std.proofs.Common.{◌≡◌}
use Rattle.uart_16550.specs.Grammar.{Times}
use Rattle.uart_16550.specs.Receive.{Miss}
use Rattle.uart_16550.specs.Driver.{Made}
use Rattle.uart_16550.proofs.driver.Uart16550.receive_some.Given as goal

abbrev pub invariant-loop-turn : goal.invariant-loop-turn
invariant-loop-turn g l = record {
  made : Made g.B.Backend.step (Times l._turn Miss) l.fn.self l.self;
  same : l.buffer ≡ l.fn.buffer;
}
