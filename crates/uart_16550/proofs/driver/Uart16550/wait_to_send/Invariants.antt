use Rattle.uart_16550.specs.Grammar.{Times}
use Rattle.uart_16550.specs.Transmit.{SendMiss}
use Rattle.uart_16550.specs.Driver.{Made}
use Rattle.uart_16550.proofs.driver.Uart16550.wait_to_send.Given as goal

abbrev pub invariant-loop-check : goal.invariant-loop-check
invariant-loop-check g l = Made g.B.Backend.step (Times l._check SendMiss) l.fn.self l.self
