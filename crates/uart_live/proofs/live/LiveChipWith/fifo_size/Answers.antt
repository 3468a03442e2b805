use Rattle.uart_live.proofs.Sizes.{bytes_fit, characters_fit}
use Rattle.uart_live.proofs.live.LiveChipWith.fifo_size.Goals as goal

-- the queues take no more memory than there can be
pub transmitter-requires-room-B-Fifo : goal.transmitter-requires-room-B-Fifo
transmitter-requires-room-B-Fifo g c κs = bytes_fit g.row.FIFO c.self.invariant.0

pub transmitter-requires-room-C-Fifo : goal.transmitter-requires-room-C-Fifo
transmitter-requires-room-C-Fifo g c κs = characters_fit g.row.FIFO c.self.invariant.0

pub size-requires-room-Q-Fifo : goal.size-requires-room-Q-Fifo
size-requires-room-Q-Fifo g c κs = bytes_fit g.row.FIFO c.self.invariant.0
