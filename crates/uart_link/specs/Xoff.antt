-- Flow control by XOFF and XON in one direction: what both programs do so that no character is dropped on the way from
-- one end to the other. It may be so in both directions, or in one alone.
use Rattle.std.specs.Prelude.{◌≡◌, ◌⊎◌, ◌≤◌, ◌+◌, ⊤, ℕ, Bool, true, false, not, ◌&&◌, List, [], ◌∷◌, ◌++◌, length}
use Rattle.std.specs.Prelude.{Option, Some, None, option_to_list}
use Rattle.std.specs.List.{AllByRecursion}
use Rattle.uart_spec.specs.declared.baud.TheConstants.{FIFO_SIZE}
use Rattle.uart_chip.specs.Conserved.{waiting, out}
use Rattle.uart_ring.specs.Ring.{ring_fields}
use Rattle.uart_ring_runs.specs.declared.call.RingAnswer.{RingAnswer}
use Rattle.uart_ring_runs.specs.declared.call.RingAnswer.TheVariants as answers
use Rattle.uart_ring_runs.specs.declared.call.RingCall.{RingCall}
use Rattle.uart_ring_runs.specs.declared.call.RingCall.TheVariants as call
use Rattle.uart_ring_runs.specs.RingBytes.{to_send}
use Rattle.uart_ring_runs.specs.RingRun.{RingState, ring_machine}
use Rattle.uart_link.specs.declared.call.Side.{Side}
use Rattle.uart_link.specs.declared.link.Link.{Link}
use Rattle.uart_link.specs.Cable.{on_cable}
use Rattle.uart_link.specs.Carried.{receiver_at, all_sent, OfEnd}
use Rattle.uart_link.specs.Flow.{beyond, receive_room, arrived_in, since_at}
use Rattle.uart_link.specs.Link.{at_end, other, Step}
use Rattle.uart_link.specs.Progress.{of_side}

-- XOFF is an urgent byte. It waits behind what the chip that sends it holds, is on the cable, waits in the receiver at
-- the other end, and then in the receive ring there, until `obey_xoff` holds the transmit ring. Until then that end
-- sends on. From then on it sends no more of its ring; but what its transmitter holds may still come, which with a FIFO
-- of 16 is up to 17 characters, and so may urgent bytes, which no hold stops. The receiver's FIFO has room for 16, or
-- more. So the mark has to leave room for what comes before XOFF is told, for what is sent until the ring is held, for
-- urgent bytes, and for what is beyond 16.

-- the numbers that both programs keep to: the most characters that arrive at an end between two calls of `adjust_xoff`;
-- the most that arrive there or are on the cable from XOFF on until the other end holds its transmit ring; and the most
-- urgent bytes that the other end has to send from XOFF on
pub record XoffPace : Type 0 where
  pub between : ℕ
  pub until_held : ℕ
  pub urgent : ℕ

-- how much room they need, if this end sends
abbrev pub xoff_room : XoffPace → (from : RingState) → ℕ
xoff_room pace from = pace.between + pace.until_held + pace.urgent + beyond from

-- whether an end has told the other one XOFF, and not XON since; whether it holds its transmit ring; and how many
-- urgent bytes of it wait, which is one at most
abbrev pub has_told : RingState → Bool
has_told s = (ring_fields s).has_told_xoff

abbrev pub is_holding : RingState → Bool
is_holding s = (ring_fields s).is_held

abbrev pub urgent_at : RingState → ℕ
urgent_at s = length (option_to_list (ring_fields s).urgent)

-- ---- one call

-- the mark below which a call tells XOFF, if it adjusts that
abbrev pub xoff_hold_of : RingCall → Option ℕ
xoff_hold_of (call.AdjustXoff marks) = Some marks.hold
xoff_hold_of other = None

-- no urgent byte waits that would keep XOFF from being told, if it is not told already
abbrev pub MayTell : (urgent : Option ℕ) → (told : Bool) → Type 0
MayTell urgent told = (length (option_to_list urgent) ≡ 0) ⊎ (told ≡ true)

-- a call of the receiver that tells XOFF or XON as it has to, by what it finds and leaves at its end, and by the other
-- end: its mark is high enough; no urgent byte waits there that keeps it from telling XOFF; the handler has run, so
-- nothing waits in the receiver, or the receive ring is full; and few characters are on the cable
pub record AdjustsXoff (pace : XoffPace) (hold : ℕ) (before here there : RingState) : Type 0 where
  pub mark : xoff_room pace there ≤ hold
  pub may_tell : MayTell (ring_fields before).urgent (has_told before)
  pub served : (waiting (ring_machine here) ≡ []) ⊎ (receive_room here ≡ 0)
  pub near : length (on_cable (ring_machine there).chip (ring_machine here).chip) ≤ pace.until_held

-- the same of a call that may adjust XOFF or not
abbrev pub AdjustsXoffIfAny : XoffPace → Option ℕ → (before here there : RingState) → Type 0
AdjustsXoffIfAny pace None before here there = ⊤
AdjustsXoffIfAny pace (Some hold) before here there = AdjustsXoff pace hold before here there

-- a call of programs that keep to flow control from this end to the other one: one of the receiver that adjusts XOFF
-- has a high enough mark, and comes behind the handler, with no urgent byte in the way and few characters on the cable
abbrev pub IsXoffStep : XoffPace → Side → Step → Type 0
IsXoffStep pace end step =
    let to = other end in
    OfEnd to step.call.side
    (AdjustsXoffIfAny pace (xoff_hold_of step.call.call) (at_end to step.before) (at_end to step.after)
    (at_end end step.after))

-- ---- how many characters arrive

-- never have more than `most` arrived at an end since it last adjusted XOFF, if `since` have before these calls
abbrev pub AllXoffInTime : (end : Side) → (most since : ℕ) → List Step → Type 0
AllXoffInTime end most since [] = ⊤
AllXoffInTime end most since (step ∷ steps) =
    let now = since + arrived_in end step in
    (now ≤ most) × AllXoffInTime end most (since_at end step.call.side (xoff_hold_of step.call.call) now) steps

-- ---- from XOFF on

-- what is counted from the call on in which an end tells XOFF: how many characters had arrived there then; and how many
-- urgent bytes the other end has had to send since, with one that waited then
pub record SinceXoff : Type 0 where
  pub arrived : ℕ
  pub urgent : ℕ

-- at first
abbrev pub from_now_on : (from to : RingState) → SinceXoff
from_now_on from to = record { arrived = (receiver_at to).arrived; urgent = urgent_at from }

-- the urgent bytes that a call queued
abbrev pub urged_by : RingCall → RingAnswer → ℕ
urged_by (call.QueueUrgent byte) answer = 1
urged_by (call.AdjustXoff marks) (answers.Told (Some byte)) = 1
urged_by other answer = 0

-- an end tells XOFF in this call
abbrev pub tells_xoff : Side → Step → Bool
tells_xoff end step = not (has_told (at_end end step.before)) && has_told (at_end end step.after)

-- after a call: it begins anew if the call tells XOFF, and else so many urgent bytes more were queued
abbrev pub counted_on : (tells : Bool) → (now : SinceXoff) → (urged : ℕ) → SinceXoff → SinceXoff
counted_on true now urged since = now
counted_on false now urged since = record { arrived = since.arrived; urgent = since.urgent + urged }

-- the same if the characters come from this end
abbrev pub since_xoff : (end : Side) → Step → SinceXoff → SinceXoff
since_xoff end step since =
    let to = other end in
    counted_on (tells_xoff to step) (from_now_on (at_end end step.after) (at_end to step.after))
    (of_side end step.call.side (urged_by step.call.call step.answer)) since

-- this end holds its transmit ring, or few characters have left its chip since the other end told XOFF
abbrev pub HoldsInTime : XoffPace → SinceXoff → (from : RingState) → Type 0
HoldsInTime pace since from =
    (is_holding from ≡ true) ⊎ (length (ring_machine from).chip.transmitter.wire ≤ since.arrived + pace.until_held)

-- it obeys in time, and has had few urgent bytes to send
pub record ObeysInTime (pace : XoffPace) (since : SinceXoff) (from : RingState) : Type 0 where
  pub holds : HoldsInTime pace since from
  pub few : since.urgent ≤ pace.urgent

-- after each of these calls the sender has obeyed in time, and has had few urgent bytes to send, as long as the other
-- end wants it to hold
abbrev pub AllObeyed : XoffPace → (end : Side) → SinceXoff → List Step → Type 0
AllObeyed pace end since [] = ⊤
AllObeyed pace end since (step ∷ steps) =
    let now = since_xoff end step since in
    (has_told (at_end (other end) step.after) ≡ true → ObeysInTime pace now (at_end end step.after))
    × AllObeyed pace end now steps

-- ---- both programs

-- two ends at first: the receiver has not told XOFF, its FIFO is on, nothing waits in the receiver, and its receive
-- ring has room for what may still come
pub record BeginsByXoff (pace : XoffPace) (from to : RingState) : Type 0 where
  pub untold : has_told to ≡ false
  pub fifo : (ring_machine to).chip.fifo ≡ true
  pub empty : waiting (ring_machine to) ≡ []
  pub room : xoff_room pace from ≤ receive_room to

-- a part of a run in which both programs keep to these numbers in the direction from this end to the other one
pub record IsPacedByXoff (pace : XoffPace) (end : Side) (a : Link) (steps : List Step) : Type 0 where
  -- no more characters come between two adjustments than a FIFO of 16 holds
  pub few : pace.between ≤ FIFO_SIZE
  pub begins : BeginsByXoff pace (at_end end a) (at_end (other end) a)
  pub each : AllByRecursion (IsXoffStep pace end) steps
  pub in_time : AllXoffInTime (other end) pace.between 0 steps
  pub obeyed : AllObeyed pace end (from_now_on (at_end end a) (at_end (other end) a)) steps

-- ---- each end by itself

-- what a call tells goes out right behind what the transmitter holds, and before all that waits
abbrev pub TellsNext : RingCall → RingAnswer → (before after : RingState) → Type 0
TellsNext (call.AdjustXoff marks) (answers.Told (Some byte)) before after =
    all_sent after ≡ out (ring_machine before) ++ byte ∷ to_send before
TellsNext other answer before after = ⊤

-- a call that leaves the transmit ring held hands no byte of it to the chip: no more than urgent ones, which waited or
-- were queued
abbrev pub HoldsBack : RingCall → RingAnswer → (before after : RingState) → Type 0
HoldsBack c answer before after =
    is_holding after ≡ true →
    length (out (ring_machine after)) + urgent_at after ≤
    length (out (ring_machine before)) + (urgent_at before + urged_by c answer)

-- a call of this end does both
pub record TellsAndHolds (end : Side) (step : Step) : Type 0 where
  pub tells : OfEnd end step.call.side
      (TellsNext step.call.call step.answer (at_end end step.before) (at_end end step.after))
  pub holds : OfEnd end step.call.side
      (HoldsBack step.call.call step.answer (at_end end step.before) (at_end end step.after))

abbrev pub AllTellAndHold : Side → List Step → Type 0
AllTellAndHold end steps = AllByRecursion (TellsAndHolds end) steps
