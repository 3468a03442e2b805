use Rattle.std.proofs.Common.{take}
use Rattle.uart_16550.specs.Expansion.{SendsEach}
use Rattle.uart_16550.specs.Driver.{Made}
use Rattle.uart_16550.proofs.driver.Uart16550.send_singly.Given as goal

abbrev pub invariant-loop-done : goal.invariant-loop-done
invariant-loop-done g l = Made g.B.Backend.step (SendsEach (take l.done l.bytes)) l.fn.self l.self
