use Rattle.uart_virtual.proofs.Sizes.{within_port}
use Rattle.uart_virtual.proofs.port.VirtualPortWith.passes.Goals as goal

-- a port takes no more memory than there can be, and its chip less than the port
pub wire_room-is_empty-requires : goal.wire_room-is_empty-requires
wire_room-is_empty-requires g c = within_port _ 9223372036854775808 (assumption c)

pub sends_at_once-requires : goal.sends_at_once-requires
sends_at_once-requires g c = within_port _ 9223372036854775808 (assumption c)
