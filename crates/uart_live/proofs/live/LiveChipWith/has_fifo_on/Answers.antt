use Rattle.uart_live.proofs.Sizes.{bytes_fit, characters_fit}
use Rattle.uart_live.proofs.live.LiveChipWith.has_fifo_on.Goals as goal

-- the queues take no more memory than there can be
pub fifo-requires-room-B-Fifo : goal.fifo-requires-room-B-Fifo
fifo-requires-room-B-Fifo g c κs = bytes_fit g.row.FIFO c.self.invariant.0

pub fifo-requires-room-C-Fifo : goal.fifo-requires-room-C-Fifo
fifo-requires-room-C-Fifo g c κs = characters_fit g.row.FIFO c.self.invariant.0
