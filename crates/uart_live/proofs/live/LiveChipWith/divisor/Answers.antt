use Rattle.uart_live.proofs.Sizes.{bytes_fit, characters_fit}
use Rattle.uart_live.proofs.live.LiveChipWith.divisor.Goals as goal

-- the queues take no more memory than there can be
pub divisor-requires-room-B-Fifo : goal.divisor-requires-room-B-Fifo
divisor-requires-room-B-Fifo g c κs = bytes_fit g.row.FIFO c.self.invariant.0

pub divisor-requires-room-C-Fifo : goal.divisor-requires-room-C-Fifo
divisor-requires-room-C-Fifo g c κs = characters_fit g.row.FIFO c.self.invariant.0
