use Rattle.uart_16550.specs.Grammar.{Times}
use Rattle.uart_16550.specs.Loopback.{TakesOne}
use Rattle.uart_16550.specs.Driver.{Made}
use Rattle.uart_16550.proofs.driver.Uart16550.drain_received.Given as goal

abbrev pub invariant-loop-turn : goal.invariant-loop-turn
invariant-loop-turn g l = Made g.B.Backend.step (Times l._turn TakesOne) l.fn.self l.self
