use Rattle.std.proofs.Common.{false}
use Rattle.uart_spec.specs.declared.registers.offsets.TheConstants as offsets
use Rattle.uart_16550.specs.Grammar.{Times, Asks}
use Rattle.uart_16550.specs.Driver.{Made}
use Rattle.uart_16550.proofs.driver.Uart16550.wait_for.Given as goal

abbrev pub invariant-loop-turn : goal.invariant-loop-turn
invariant-loop-turn g l = Made g.B.Backend.step (Times l._turn (Asks offsets.LSR l.bits.0 false)) l.fn.self l.self
