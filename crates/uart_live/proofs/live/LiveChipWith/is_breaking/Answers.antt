use Rattle.uart_live.proofs.Sizes.{bytes_fit, characters_fit}
use Rattle.uart_live.proofs.live.LiveChipWith.is_breaking.Goals as goal

-- the queues take no more memory than there can be
pub lcr-requires-room-B-Fifo : goal.lcr-requires-room-B-Fifo
lcr-requires-room-B-Fifo g c κs = bytes_fit g.row.FIFO c.self.invariant.0

pub lcr-requires-room-C-Fifo : goal.lcr-requires-room-C-Fifo
lcr-requires-room-C-Fifo g c κs = characters_fit g.row.FIFO c.self.invariant.0
