use Rattle.uart_live.proofs.Lives.{live-expire}
use Rattle.uart_live.proofs.Sizes.{bytes_fit, characters_fit}
use Rattle.uart_live.proofs.live.LiveChipWith.expire_timeout.Goals as goal

pub invariant_of-self : goal.invariant_of-self
invariant_of-self g c =
    (c.self.invariant.0, rw c.expire_timeout.ensures (live-expire _ c.self.invariant.1))

-- the queues take no more memory than there can be
pub expire_timeout-requires-room-B-Fifo : goal.expire_timeout-requires-room-B-Fifo
expire_timeout-requires-room-B-Fifo g c κs = bytes_fit g.row.FIFO c.self.invariant.0

pub expire_timeout-requires-room-C-Fifo : goal.expire_timeout-requires-room-C-Fifo
expire_timeout-requires-room-C-Fifo g c κs = characters_fit g.row.FIFO c.self.invariant.0
