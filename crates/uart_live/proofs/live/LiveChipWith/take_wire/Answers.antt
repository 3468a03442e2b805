use Rattle.uart_live.proofs.Lives.{live-take}
use Rattle.uart_live.proofs.Sizes.{bytes_fit, characters_fit}
use Rattle.uart_live.proofs.live.LiveChipWith.take_wire.Goals as goal

pub invariant_of-self : goal.invariant_of-self
invariant_of-self g c =
    (c.self.invariant.0, rw c.take_wire.ensures (live-take c.args.count _ c.self.invariant.1))

-- the queues take no more memory than there can be
pub take_wire-requires-room-B-Fifo : goal.take_wire-requires-room-B-Fifo
take_wire-requires-room-B-Fifo g c κs = bytes_fit g.row.FIFO c.self.invariant.0

pub take_wire-requires-room-C-Fifo : goal.take_wire-requires-room-C-Fifo
take_wire-requires-room-C-Fifo g c κs = characters_fit g.row.FIFO c.self.invariant.0
