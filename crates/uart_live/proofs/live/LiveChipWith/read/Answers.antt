use Rattle.uart_live.proofs.Lives.{live-read}
use Rattle.uart_live.proofs.Sizes.{bytes_fit, characters_fit}
use Rattle.uart_live.proofs.live.LiveChipWith.read.Goals as goal

pub invariant_of-self : goal.invariant_of-self
invariant_of-self g c =
    (c.self.invariant.0, rw c.read.ensures.after (live-read c.args.offset _ c.self.invariant.1))

-- the queues take no more memory than there can be
pub read-requires-room-B-Fifo : goal.read-requires-room-B-Fifo
read-requires-room-B-Fifo g c κs = bytes_fit g.row.FIFO c.self.invariant.0

pub read-requires-room-C-Fifo : goal.read-requires-room-C-Fifo
read-requires-room-C-Fifo g c κs = characters_fit g.row.FIFO c.self.invariant.0
