use Rattle.uart_live.proofs.Sizes.{bytes_fit, characters_fit}
use Rattle.uart_live.proofs.live.LiveChipWith.outputs.Goals as goal

-- the queues take no more memory than there can be
pub is_loopback-requires-room-B-Fifo : goal.is_loopback-requires-room-B-Fifo
is_loopback-requires-room-B-Fifo g c κs = bytes_fit g.row.FIFO c.self.invariant.0

pub is_loopback-requires-room-C-Fifo : goal.is_loopback-requires-room-C-Fifo
is_loopback-requires-room-C-Fifo g c κs = characters_fit g.row.FIFO c.self.invariant.0

-- the queues take no more memory than there can be
pub mcr-requires-room-B-Fifo : goal.mcr-requires-room-B-Fifo
mcr-requires-room-B-Fifo g c κs = bytes_fit g.row.FIFO c.self.invariant.0

pub mcr-requires-room-C-Fifo : goal.mcr-requires-room-C-Fifo
mcr-requires-room-C-Fifo g c κs = characters_fit g.row.FIFO c.self.invariant.0
