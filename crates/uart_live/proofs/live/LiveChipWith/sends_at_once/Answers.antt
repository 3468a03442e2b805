use Rattle.uart_live.proofs.Sizes.{bytes_fit, characters_fit}
use Rattle.uart_live.proofs.live.LiveChipWith.sends_at_once.Goals as goal

-- the queues take no more memory than there can be
pub sends_at_once-requires-room-B-Fifo : goal.sends_at_once-requires-room-B-Fifo
sends_at_once-requires-room-B-Fifo g c κs = bytes_fit g.row.FIFO c.self.invariant.0

pub sends_at_once-requires-room-C-Fifo : goal.sends_at_once-requires-room-C-Fifo
sends_at_once-requires-room-C-Fifo g c κs = characters_fit g.row.FIFO c.self.invariant.0
