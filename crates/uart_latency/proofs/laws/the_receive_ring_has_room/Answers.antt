use Rattle.uart_latency.proofs.Room.{has_room}
use Rattle.uart_latency.proofs.laws.the_receive_ring_has_room.Goals as goal

pub returns : goal.returns
returns c = has_room
