use Rattle.std.proofs.Common.{ap, sym, ◌∙◌}
use Rattle.uart_spec.specs.Bits.{has}
use Rattle.uart_spec.specs.declared.registers.offsets.TheConstants as offsets
use Rattle.uart_16550.specs.declared.driver.status.TheConstants.{UNDRIVEN}
use Rattle.uart_16550.proofs.Making.{made_asks}
use Rattle.uart_16550.proofs.driver.Uart16550.is_gone.Goals as goal

pub returns : goal.returns
returns g c =
    made_asks offsets.MCR _ UNDRIVEN _ c.mcr.ensures (ap (has _) (sym (c.from_bits_retain.ensures tt)) ∙ sym (c.contains.ensures tt))
