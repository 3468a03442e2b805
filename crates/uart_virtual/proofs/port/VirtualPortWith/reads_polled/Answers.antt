use Rattle.uart_virtual.proofs.Sizes.{within_port}
use Rattle.uart_virtual.proofs.port.VirtualPortWith.reads_polled.Goals as goal

-- a port takes no more memory than there can be, and its chip less than the port
pub has_interrupts_on-is_polled-requires : goal.has_interrupts_on-is_polled-requires
has_interrupts_on-is_polled-requires g c = within_port _ 9223372036854775808 (assumption c)
