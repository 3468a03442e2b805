use Rattle.uart_live.proofs.Sizes.{bytes_fit, characters_fit}
use Rattle.uart_live.proofs.live.LiveChipWith.is_dlab_set.Goals as goal

-- the queues take no more memory than there can be
pub is_dlab_set-requires-room-B-Fifo : goal.is_dlab_set-requires-room-B-Fifo
is_dlab_set-requires-room-B-Fifo g c κs = bytes_fit g.row.FIFO c.self.invariant.0

pub is_dlab_set-requires-room-C-Fifo : goal.is_dlab_set-requires-room-C-Fifo
is_dlab_set-requires-room-C-Fifo g c κs = characters_fit g.row.FIFO c.self.invariant.0
