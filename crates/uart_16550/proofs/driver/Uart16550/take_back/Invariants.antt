use Rattle.uart_16550.specs.Grammar.{Times}
use Rattle.uart_16550.specs.Loopback.{TakesOne}
use Rattle.uart_16550.specs.Driver.{Made}
use Rattle.uart_16550.proofs.driver.Uart16550.take_back.Given as goal

abbrev pub invariant-loop-count : goal.invariant-loop-count
invariant-loop-count g l = Made g.B.Backend.step (Times l.count TakesOne) l.fn.self l.self
