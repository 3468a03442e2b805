use Rattle.std.proofs.Common.{[], ◌∷◌}
use Rattle.uart_spec.specs.declared.registers.offsets.TheConstants as offsets
use Rattle.uart_spec.specs.declared.access.Access.TheVariants.{Write}
use Rattle.uart_16550.specs.Grammar.{Only, Times}
use Rattle.uart_16550.specs.Loopback.{test_byte}
use Rattle.uart_16550.specs.Driver.{Made}
use Rattle.uart_16550.proofs.driver.Uart16550.flood.Given as goal

abbrev pub invariant-loop-turn : goal.invariant-loop-turn
invariant-loop-turn g l = Made g.B.Backend.step (Times l._turn (Only (Write offsets.DATA test_byte ∷ []))) l.fn.self l.self
