-- Flow control by the chips in one direction: what they do by themselves so that no character is dropped on the way
-- from one end to the other. No call of the programs is needed for it. It may be so in both directions, or in one
-- alone.
use Rattle.std.specs.Prelude.{◌≡◌, ◌≤◌, ◌+◌, ◌-◌, ℕ, true, List, length, None}
use Rattle.std.specs.List.{AllByRecursion}
use Rattle.uart_spec.specs.FifoSize.{characters}
use Rattle.uart_chip.specs.Chip.{is_auto_flow}
use Rattle.uart_chip.specs.Receiver.{characters_of}
use Rattle.uart_chip.specs.Transmitter.{TransmitterState, shift_bytes}
use Rattle.uart_ring_runs.specs.RingRun.{RingState, ring_machine}
use Rattle.uart_link.specs.declared.call.Side.{Side}
use Rattle.uart_link.specs.declared.link.Link.{Link}
use Rattle.uart_link.specs.Cable.{settled}
use Rattle.uart_link.specs.Carried.{receiver_at, OfEnd}
use Rattle.uart_link.specs.Flow.{SeesLines, hold_of}
use Rattle.uart_link.specs.Link.{at_end, other, Step}

-- The receiver turns RTS off as soon as as many characters wait as its trigger level. The sender finds that with the
-- next change of its lines, and takes no next character from then on. What it shifts out goes on, and what is on the
-- cable arrives. So the FIFO has to have room for these besides what waits: one character less than the trigger
-- level, or more once RTS is off. A chip as a real 16750 turns RTS on again only once its FIFO is empty. It holds the
-- sender off for longer, so what is said here holds with it too.

-- how many characters a transmitter has begun to send: those on the wire, and the one in the shift register
abbrev pub begun : TransmitterState → ℕ
begun t = length t.wire + length (shift_bytes t.shift_register)

-- how many of an end have not arrived at the other one: those on the cable, and the one that is being shifted out,
-- once all has happened that is known of the schedule of the end that sends
abbrev pub under_way : (from to : RingState) → ℕ
under_way from to = begun (settled (ring_machine from)).chip.transmitter - (receiver_at to).arrived

-- the trigger level of an end's receiver, and how much its FIFO holds
abbrev pub level_at : RingState → ℕ
level_at s = characters_of (receiver_at s).size (receiver_at s).trigger

abbrev pub fifo_at : RingState → ℕ
fifo_at s = characters (receiver_at s).size

-- two ends at first: both chips have automatic flow control on, and the receiver's FIFO is on; the FIFO has room for
-- one character less than the trigger level and for the most that may be under way; and it has room for all that
-- waits and is under way now
pub record BeginsByChip (late : ℕ) (from to : RingState) : Type 0 where
  pub sends : is_auto_flow (ring_machine from).chip ≡ true
  pub receives : is_auto_flow (ring_machine to).chip ≡ true
  pub fifo : (ring_machine to).chip.fifo ≡ true
  pub fits : level_at to + late ≤ fifo_at to + 1
  pub room : length (receiver_at to).queue + under_way from to ≤ fifo_at to

-- a call that leaves MCR alone, which all but `adjust_rts` do; one of the sender finds the lines as the receiver
-- gives them, before anything else happens, and leaves at most so many characters under way
pub record IsFlowStep (late : ℕ) (end : Side) (step : Step) : Type 0 where
  pub leaves : hold_of step.call.call ≡ None
  pub lines : OfEnd end step.call.side (SeesLines step.call.moments.items)
  pub few : OfEnd end step.call.side (under_way (at_end end step.after) (at_end (other end) step.after) ≤ late)

-- a part of a run in which the chips control the flow in the direction from this end to the other one
pub record IsPacedByChip (late : ℕ) (end : Side) (a : Link) (steps : List Step) : Type 0 where
  pub begins : BeginsByChip late (at_end end a) (at_end (other end) a)
  pub each : AllByRecursion (IsFlowStep late end) steps
