use Rattle.std.proofs.Common.{sym}
use Rattle.uart_spec.specs.declared.registers.offsets.TheConstants as offsets
use Rattle.uart_spec.specs.declared.registers.line_status.TheConstants.LSR
use Rattle.uart_16550.proofs.Making.{made_asks}
use Rattle.uart_16550.proofs.driver.Uart16550.is_idle.Goals as goal

pub returns : goal.returns
returns g c = made_asks offsets.LSR _ LSR.TRANSMITTER_EMPTY.0 _ c.read_lsr.ensures (sym (c.contains.ensures tt))
