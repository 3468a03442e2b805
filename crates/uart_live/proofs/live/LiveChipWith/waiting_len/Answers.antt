use Rattle.uart_live.proofs.Sizes.{bytes_fit, characters_fit}
use Rattle.uart_live.proofs.live.LiveChipWith.waiting_len.Goals as goal

-- the queues take no more memory than there can be
pub receiver-requires-room-B-Fifo : goal.receiver-requires-room-B-Fifo
receiver-requires-room-B-Fifo g c κs = bytes_fit g.row.FIFO c.self.invariant.0

pub receiver-requires-room-C-Fifo : goal.receiver-requires-room-C-Fifo
receiver-requires-room-C-Fifo g c κs = characters_fit g.row.FIFO c.self.invariant.0

pub waiting_len-requires-room-Q-Fifo : goal.waiting_len-requires-room-Q-Fifo
waiting_len-requires-room-Q-Fifo g c κs = characters_fit g.row.FIFO c.self.invariant.0
