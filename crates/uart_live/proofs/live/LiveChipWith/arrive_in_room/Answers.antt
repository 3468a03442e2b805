use Rattle.std.proofs.Common.{◌≡◌, rules, refl, sym, subst}
use Rattle.uart_chip.specs.Chip.{ChipState, arrive_live}
use Rattle.uart_live.proofs.Lives.{live-arrival}
use Rattle.uart_live.specs.Live.{IsLive}
use Rattle.uart_live.specs.Size.{fifo_size}
use Rattle.uart_live.proofs.Sizes.{bytes_fit, characters_fit}
use Rattle.uart_live.proofs.live.LiveChipWith.arrive_in_room.Goals as goal

pub invariant_of-self : goal.invariant_of-self
invariant_of-self g c =
    let old : ChipState = c.self.inside.uart in
    let arrived : record old { receiver = c.set_unscheduled_lost.new.self } ≡ arrive_live c.args.byte 0 old = search rules in (
      c.self.invariant.0,
      subst (IsLive (fifo_size g.row.FIFO)) (sym arrived) (live-arrival c.args.byte 0 old refl c.self.invariant.1),
    )

-- the queues take no more memory than there can be
pub receiver-receiver-requires-room-B-Fifo : goal.receiver-receiver-requires-room-B-Fifo
receiver-receiver-requires-room-B-Fifo g c κs = bytes_fit g.row.FIFO c.self.invariant.0

pub receiver-receiver-requires-room-C-Fifo : goal.receiver-receiver-requires-room-C-Fifo
receiver-receiver-requires-room-C-Fifo g c κs = characters_fit g.row.FIFO c.self.invariant.0

pub fifo-requires-room-B-Fifo : goal.fifo-requires-room-B-Fifo
fifo-requires-room-B-Fifo g c κs = bytes_fit g.row.FIFO c.self.invariant.0

pub fifo-requires-room-C-Fifo : goal.fifo-requires-room-C-Fifo
fifo-requires-room-C-Fifo g c κs = characters_fit g.row.FIFO c.self.invariant.0

pub size-requires-room-Q-Fifo : goal.size-requires-room-Q-Fifo
size-requires-room-Q-Fifo g c κs = characters_fit g.row.FIFO c.self.invariant.0

pub is_loopback-requires-room-B-Fifo : goal.is_loopback-requires-room-B-Fifo
is_loopback-requires-room-B-Fifo g c κs = bytes_fit g.row.FIFO c.self.invariant.0

pub is_loopback-requires-room-C-Fifo : goal.is_loopback-requires-room-C-Fifo
is_loopback-requires-room-C-Fifo g c κs = characters_fit g.row.FIFO c.self.invariant.0

pub queue_len-requires-room-Q-Fifo : goal.queue_len-requires-room-Q-Fifo
queue_len-requires-room-Q-Fifo g c κs = characters_fit g.row.FIFO c.self.invariant.0

pub cut-byte-requires-room-P-ChipParts : goal.cut-byte-requires-room-P-ChipParts
cut-byte-requires-room-P-ChipParts g c κs = bytes_fit g.row.FIFO c.self.invariant.0

pub cut-byte-requires-room-P-ChipParts-2 : goal.cut-byte-requires-room-P-ChipParts-2
cut-byte-requires-room-P-ChipParts-2 g c κs = characters_fit g.row.FIFO c.self.invariant.0

pub cut-byte-requires-room-P-Transmitter-TransmitterParts : goal.cut-byte-requires-room-P-Transmitter-TransmitterParts
cut-byte-requires-room-P-Transmitter-TransmitterParts g c κs = bytes_fit g.row.FIFO c.self.invariant.0

pub cut-byte-requires-room-P-Receiver-ReceiverParts : goal.cut-byte-requires-room-P-Receiver-ReceiverParts
cut-byte-requires-room-P-Receiver-ReceiverParts g c κs = characters_fit g.row.FIFO c.self.invariant.0

pub receiver_mut-receiver-requires-room-B-Fifo : goal.receiver_mut-receiver-requires-room-B-Fifo
receiver_mut-receiver-requires-room-B-Fifo g c κs = bytes_fit g.row.FIFO c.self.invariant.0

pub receiver_mut-receiver-requires-room-C-Fifo : goal.receiver_mut-receiver-requires-room-C-Fifo
receiver_mut-receiver-requires-room-C-Fifo g c κs = characters_fit g.row.FIFO c.self.invariant.0

pub put-requires-room-Q-Fifo : goal.put-requires-room-Q-Fifo
put-requires-room-Q-Fifo g c κs = characters_fit g.row.FIFO c.self.invariant.0

pub set_timeout_ticks-requires-room-Q-Fifo : goal.set_timeout_ticks-requires-room-Q-Fifo
set_timeout_ticks-requires-room-Q-Fifo g c κs = characters_fit g.row.FIFO c.self.invariant.0

pub set_unscheduled_lost-requires-room-Q-Fifo : goal.set_unscheduled_lost-requires-room-Q-Fifo
set_unscheduled_lost-requires-room-Q-Fifo g c κs = characters_fit g.row.FIFO c.self.invariant.0
