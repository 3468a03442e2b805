use Rattle.uart_live.proofs.Sizes.{bytes_fit, characters_fit}
use Rattle.uart_live.proofs.live.LiveChipWith.has_output_interrupt_on.Goals as goal

-- the queues take no more memory than there can be
pub ier-requires-room-B-Fifo : goal.ier-requires-room-B-Fifo
ier-requires-room-B-Fifo g c κs = bytes_fit g.row.FIFO c.self.invariant.0

pub ier-requires-room-C-Fifo : goal.ier-requires-room-C-Fifo
ier-requires-room-C-Fifo g c κs = characters_fit g.row.FIFO c.self.invariant.0
