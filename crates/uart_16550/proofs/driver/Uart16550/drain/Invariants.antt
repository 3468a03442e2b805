use Rattle.uart_16550.specs.Grammar.{Times}
use Rattle.uart_16550.specs.Init.{Discards}
use Rattle.uart_16550.specs.Driver.{Did, Plain}
use Rattle.uart_16550.proofs.driver.Uart16550.drain.Given as goal

abbrev pub invariant-loop-turn : goal.invariant-loop-turn
invariant-loop-turn g l = Did g.B.Backend.step (Plain (Times l._turn Discards)) l.fn.self l.self
