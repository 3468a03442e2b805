use Rattle.uart_virtual.proofs.Sizes.{within_port}
use Rattle.uart_virtual.proofs.port.VirtualPortWith.output.Goals as goal

-- a port takes no more memory than there can be, and its chip less than the port
pub wire-requires : goal.wire-requires
wire-requires g c = within_port _ 9223372036854775808 (assumption c)
