use Rattle.std.proofs.Common.{rules}
use Rattle.std.proofs.Math.Facts.{Fits-lt-pow}
use Rattle.uart_live.proofs.Lives.{live-write}
use Rattle.uart_live.proofs.Sizes.{bytes_fit, characters_fit}
use Rattle.uart_live.proofs.live.LiveChipWith.write.Goals as goal

pub invariant_of-self : goal.invariant_of-self
invariant_of-self g c =
    (c.self.invariant.0, rw c.write.ensures (live-write c.args.offset c.args.value _ (search (rules, Fits-lt-pow)) c.self.invariant.1))

-- the queues take no more memory than there can be
pub write-requires-room-B-Fifo : goal.write-requires-room-B-Fifo
write-requires-room-B-Fifo g c κs = bytes_fit g.row.FIFO c.self.invariant.0

pub write-requires-room-C-Fifo : goal.write-requires-room-C-Fifo
write-requires-room-C-Fifo g c κs = characters_fit g.row.FIFO c.self.invariant.0
