use Rattle.uart_live.proofs.Quick.{live-pass}
use Rattle.uart_live.proofs.Sizes.{bytes_fit, characters_fit}
use Rattle.uart_live.proofs.live.LiveChipWith.raise_thr_empty.Goals as goal

-- the queues take no more memory than there can be
pub transmitter_mut-transmitter-requires-room-B-Fifo : goal.transmitter_mut-transmitter-requires-room-B-Fifo
transmitter_mut-transmitter-requires-room-B-Fifo g c κs = bytes_fit g.row.FIFO c.self.invariant.0

pub transmitter_mut-transmitter-requires-room-C-Fifo : goal.transmitter_mut-transmitter-requires-room-C-Fifo
transmitter_mut-transmitter-requires-room-C-Fifo g c κs = characters_fit g.row.FIFO c.self.invariant.0

pub set_thr_pending-requires-room-Q-Fifo : goal.set_thr_pending-requires-room-Q-Fifo
set_thr_pending-requires-room-Q-Fifo g c κs = bytes_fit g.row.FIFO c.self.invariant.0

pub invariant_of-self : goal.invariant_of-self
invariant_of-self g c = (
  c.self.invariant.0,
  rw (c.set_thr_pending.ensures.after, c.transmitter_mut-transmitter.ensures.value) (live-pass c.self.inside.uart c.self.invariant.1),
)
