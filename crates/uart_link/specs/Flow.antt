-- Flow control in one direction: what both programs do so that no character is dropped on the way from one end to the
-- other. It may be so in both directions, or in one alone.
use Rattle.std.specs.Prelude.{◌≡◌, ◌⊎◌, ◌≤◌, ◌<◌, ◌+◌, ◌-◌, ⊤, ℕ, true, List, [], ◌∷◌, ◌++◌, length, Option}
use Rattle.std.specs.Prelude.{Some, None}
use Rattle.std.specs.List.{AllByRecursion}
use Rattle.uart_spec.specs.declared.baud.TheConstants.{FIFO_SIZE}
use Rattle.uart_chip.specs.Conserved.{IsDrop, waiting}
use Rattle.uart_run.specs.Progress.{most_held}
use Rattle.uart_ring.specs.Ring.{ring_fields, free}
use Rattle.uart_ring_runs.specs.declared.call.RingCall.{RingCall}
use Rattle.uart_ring_runs.specs.declared.call.RingCall.TheVariants as call
use Rattle.uart_ring_runs.specs.RingRun.{RingState, ring_machine}
use Rattle.uart_link.specs.declared.call.Moment.{Moment}
use Rattle.uart_link.specs.declared.call.Moment.TheVariants as moment
use Rattle.uart_link.specs.declared.call.Side.{Side}
use Rattle.uart_link.specs.declared.call.Side.TheVariants.{Left, Right}
use Rattle.uart_link.specs.declared.link.Link.{Link}
use Rattle.uart_link.specs.Cable.{on_cable}
use Rattle.uart_link.specs.Carried.{receiver_at, to_be_taken, on_the_way, queued_at, bytes_gone, AllKeepOrderAt, OfEnd}
use Rattle.uart_link.specs.Link.{at_end, other, Step}

-- An end that is held back sends no more from its rings, but what its transmitter holds may still come, which with a
-- FIFO of 16 is up to 17 characters, 16 of the FIFO and one that is being shifted out; and those that are on the cable.
-- The receiver's FIFO has room for 16, or more. So the mark has to leave room for what is beyond 16, which is one more
-- with a FIFO of 16; for those on the cable, and for those that come before RTS is adjusted.

-- how many characters more than 16 the transmitter of an end may hold
abbrev pub beyond : RingState → ℕ
beyond s = most_held (ring_machine s).chip.transmitter - FIFO_SIZE

-- the numbers that both programs keep to: the most characters on the cable when an end adjusts RTS, and the most that
-- arrive at an end between two calls of `adjust_rts`
pub record Pace : Type 0 where
  pub on_cable : ℕ
  pub between : ℕ

-- how much room the receive ring of an end has
abbrev pub receive_room : RingState → ℕ
receive_room s = free (ring_fields s).receive

-- ---- one call

-- the mark below which a call holds the other end back, if the call adjusts RTS
abbrev pub hold_of : RingCall → Option ℕ
hold_of (call.AdjustRts marks) = Some marks.hold
hold_of other = None

-- a call of the receiver that adjusts RTS, by what it leaves at its end and at the other one: its mark is high enough;
-- the handler has run, so nothing waits in the receiver, or the receive ring is full; and few characters are on the
-- cable
pub record Adjusts (pace : Pace) (hold : ℕ) (here there : RingState) : Type 0 where
  pub mark : pace.on_cable + pace.between + beyond there ≤ hold
  pub served : (waiting (ring_machine here) ≡ []) ⊎ (receive_room here ≡ 0)
  pub near : length (on_cable (ring_machine there).chip (ring_machine here).chip) ≤ pace.on_cable

-- the same of a call that may adjust RTS or not
abbrev pub AdjustsIfAny : Pace → Option ℕ → (here there : RingState) → Type 0
AdjustsIfAny pace None here there = ⊤
AdjustsIfAny pace (Some hold) here there = Adjusts pace hold here there

-- the call finds the lines as the other end gives them: they come first
abbrev pub SeesLines : List Moment → Type 0
SeesLines moments = (others : List Moment) × (moments ≡ moment.Lines ∷ others)

-- a call of programs that keep to flow control from this end to the other one: one of the sender finds the lines as the
-- receiver gives them, and one of the receiver that adjusts RTS has a high enough mark, and comes behind the handler,
-- with few characters on the cable
pub record IsPacedStep (pace : Pace) (end : Side) (step : Step) : Type 0 where
  pub lines : OfEnd end step.call.side (SeesLines step.call.moments.items)
  pub adjusts : let to = other end in
      OfEnd to step.call.side
      (AdjustsIfAny pace (hold_of step.call.call) (at_end to step.after) (at_end end step.after))

-- ---- how many characters arrive

-- the number of characters that arrive at an end in a call
abbrev pub arrived_in : Side → Step → ℕ
arrived_in end step = (receiver_at (at_end end step.after)).arrived - (receiver_at (at_end end step.before)).arrived

-- the number since an end last adjusted RTS, after a call of that end: it begins again when the call adjusts RTS
abbrev pub since_call : Option ℕ → ℕ → ℕ
since_call None number = number
since_call (Some hold) number = 0

-- the same after a call of either end
abbrev pub since_at : (end side : Side) → Option ℕ → ℕ → ℕ
since_at Left Left hold number = since_call hold number
since_at Right Right hold number = since_call hold number
since_at end side hold number = number

-- never have more than `most` arrived at an end since it last adjusted RTS, if `since` have before these calls
abbrev pub AllInTime : (end : Side) → (most since : ℕ) → List Step → Type 0
AllInTime end most since [] = ⊤
AllInTime end most since (step ∷ steps) =
    let now = since + arrived_in end step in
    (now ≤ most) × AllInTime end most (since_at end step.call.side (hold_of step.call.call) now) steps

-- ---- both programs

-- two ends at first: the sender checks CTS before it sends; the receiver's FIFO is on, nothing waits in the receiver,
-- and its receive ring has room for what may still come
pub record BeginsPaced (pace : Pace) (from to : RingState) : Type 0 where
  pub checks : (ring_fields from).driver.config.check_cts_before_sending ≡ true
  pub fifo : (ring_machine to).chip.fifo ≡ true
  pub empty : waiting (ring_machine to) ≡ []
  pub room : pace.on_cable + pace.between + beyond from ≤ receive_room to

-- a part of a run in which both programs keep to these numbers in the direction from this end to the other one
pub record IsPaced (pace : Pace) (end : Side) (a : Link) (steps : List Step) : Type 0 where
  -- no more characters come between two adjustments than a FIFO of 16 holds
  pub few : pace.between ≤ FIFO_SIZE
  pub begins : BeginsPaced pace (at_end end a) (at_end (other end) a)
  pub each : AllByRecursion (IsPacedStep pace end) steps
  pub in_time : AllInTime (other end) pace.between 0 steps

-- ---- what follows

-- no character is dropped at an end
abbrev pub DropsNothing : Side → (a b : Link) → Type 0
DropsNothing end a b = IsDrop (ring_machine (at_end end a)) (ring_machine (at_end end b)) → ⊥

-- From one end to the other, in this order: what was taken or cleared, what waits to be taken, what is on its way. That
-- is what waited to be taken, what was on its way and what was queued, without exception.
abbrev pub CarriesAll : Side → Link → List Step → Link → Type 0
CarriesAll end a steps b =
    let to = other end in
    AllKeepOrderAt end steps →
    bytes_gone to steps ++ (to_be_taken (at_end to b) ++ on_the_way (at_end end b) (at_end to b)) ≡
    to_be_taken (at_end to a) ++ (on_the_way (at_end end a) (at_end to a) ++ queued_at end steps)

-- with flow control from an end to the other one no character is dropped there, and all is carried
pub record Delivers (end : Side) (a : Link) (steps : List Step) (b : Link) : Type 0 where
  pub drops_nothing : DropsNothing (other end) a b
  pub carries_all : CarriesAll end a steps b
