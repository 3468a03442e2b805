use Rattle.uart_virtual.proofs.Sizes.{within_port}
use Rattle.uart_virtual.proofs.port.VirtualPortWith.receive_room.Goals as goal

pub receive_room-requires : goal.receive_room-requires
receive_room-requires g c = within_port _ 9223372036854775808 (assumption c)
