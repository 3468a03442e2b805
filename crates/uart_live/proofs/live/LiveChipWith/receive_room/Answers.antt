use Rattle.uart_live.proofs.Sizes.{bytes_fit, characters_fit}
use Rattle.uart_live.proofs.live.LiveChipWith.receive_room.Goals as goal

-- the queues take no more memory than there can be
pub receive_room-requires-room-B-Fifo : goal.receive_room-requires-room-B-Fifo
receive_room-requires-room-B-Fifo g c κs = bytes_fit g.row.FIFO c.self.invariant.0

pub receive_room-requires-room-C-Fifo : goal.receive_room-requires-room-C-Fifo
receive_room-requires-room-C-Fifo g c κs = characters_fit g.row.FIFO c.self.invariant.0
