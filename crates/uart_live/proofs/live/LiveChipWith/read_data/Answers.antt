use Rattle.uart_spec.specs.declared.registers.offsets.TheConstants as offsets
use Rattle.uart_live.proofs.Lives.{live-read, live-front}
use Rattle.uart_live.proofs.Sizes.{bytes_fit, characters_fit}
use Rattle.uart_live.proofs.live.LiveChipWith.read_data.Goals as goal

-- the queues take no more memory than there can be
pub is_dlab_set-requires-room-B-Fifo : goal.is_dlab_set-requires-room-B-Fifo
is_dlab_set-requires-room-B-Fifo g c κs = bytes_fit g.row.FIFO c.self.invariant.0

pub is_dlab_set-requires-room-C-Fifo : goal.is_dlab_set-requires-room-C-Fifo
is_dlab_set-requires-room-C-Fifo g c κs = characters_fit g.row.FIFO c.self.invariant.0

pub read-requires-room-B-Fifo : goal.read-requires-room-B-Fifo
read-requires-room-B-Fifo g c κs = bytes_fit g.row.FIFO c.self.invariant.0

pub read-requires-room-C-Fifo : goal.read-requires-room-C-Fifo
read-requires-room-C-Fifo g c κs = characters_fit g.row.FIFO c.self.invariant.0

pub receiver_mut-requires-room-B-Fifo : goal.receiver_mut-requires-room-B-Fifo
receiver_mut-requires-room-B-Fifo g c κs = bytes_fit g.row.FIFO c.self.invariant.0

pub receiver_mut-requires-room-C-Fifo : goal.receiver_mut-requires-room-C-Fifo
receiver_mut-requires-room-C-Fifo g c κs = characters_fit g.row.FIFO c.self.invariant.0

pub take_front-requires-room-R-ReceiverParts : goal.take_front-requires-room-R-ReceiverParts
take_front-requires-room-R-ReceiverParts g c κs = characters_fit g.row.FIFO c.self.invariant.0

pub invariant_of-self : goal.invariant_of-self
invariant_of-self g c = (c.self.invariant.0, rw c.read.ensures.after (live-read offsets.DATA c.self.inside.uart c.self.invariant.1))

pub invariant_of-self-2 : goal.invariant_of-self-2
invariant_of-self-2 g c = (
  c.self.invariant.0,
  rw (c.take_front.ensures.after, c.receiver_mut.ensures.value) (live-front c.self.inside.uart c.self.invariant.1),
)
