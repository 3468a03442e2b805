use Rattle.std.proofs.Common.{refl, sym}
use lib.Bits.{or_zero_r}
use Rattle.uart_spec.specs.declared.registers.offsets.TheConstants as offsets
use Rattle.uart_spec.specs.declared.access.Access.TheVariants.{Read}
use Rattle.uart_16550.proofs.Making.{made_among, made_access}
use Rattle.uart_16550.proofs.driver.Uart16550.read_msr.Goals as goal

pub returns : goal.returns
returns g c =
    let answer = c.from_bits_retain-msr.ensures tt in
    made_among (λ l t. record { is = rw answer t.is })
    (made_access _ _ _ (Read offsets.MSR c.read.result) _ c.insert.new.self.0 c.read.ensures
    (sym (or_zero_r _)) (rw (c.insert.ensures tt, c.intersection.ensures tt, answer, or_zero_r) refl))
