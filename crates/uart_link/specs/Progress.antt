-- Progress: if time passes, what is on the cable arrives, and both programs go on, all that was queued is taken.
use Rattle.std.specs.List.{AllByRecursion}
use Rattle.std.specs.Prelude.{◌≡◌, ◌⊎◌, ◌≤◌, ◌<◌, ◌+◌, ◌*◌, ⊤, ℕ, zero, suc, true, false, List, [], ◌∷◌, ◌++◌, length}
use Rattle.std.specs.Prelude.{None}
use Rattle.uart_spec.specs.Bits.{has_any}
use Rattle.uart_spec.specs.declared.registers.interrupt_enable.TheConstants.IER
use Rattle.uart_spec.specs.declared.registers.modem_status.TheConstants.MSR
use Rattle.uart_chip.specs.Chip.{ChipState}
use Rattle.uart_chip.specs.Conserved.{out}
use Rattle.uart_chip.specs.Receiver.{characters_of}
use Rattle.uart_chip.specs.Transmitter.{TransmitterState}
use Rattle.uart_run.specs.Progress.{HasRoom, IsUnheld, most_held}
use Rattle.uart_ring.specs.Ring.{ring_fields, sendable, waiting}
use Rattle.uart_ring.specs.declared.ring.receive.ReceiveMarks.{ReceiveMarks}
use Rattle.uart_ring.specs.declared.ring.service.HandleEnd.TheVariants.{Idle}
use Rattle.uart_ring.specs.declared.ring.service.TheConstants.{MAX_INTERRUPTS}
use Rattle.uart_ring_runs.specs.RingArmed.{IsRingArmed, RearmsRing}
use Rattle.uart_ring_runs.specs.RingBytes.{to_send}
use Rattle.uart_ring_runs.specs.RingRun.{RingState, ring_machine, taken_answer}
use Rattle.uart_ring_runs.specs.declared.call.RingAnswer.{RingAnswer}
use Rattle.uart_ring_runs.specs.declared.call.RingAnswer.TheVariants as answers
use Rattle.uart_ring_runs.specs.declared.call.RingCall.{RingCall}
use Rattle.uart_ring_runs.specs.declared.call.RingCall.TheVariants as call
use Rattle.uart_link.specs.declared.call.Moment.{Moment}
use Rattle.uart_link.specs.declared.call.Moment.TheVariants as moment
use Rattle.uart_link.specs.declared.call.Side.{Side}
use Rattle.uart_link.specs.declared.call.Side.TheVariants.{Left, Right}
use Rattle.uart_link.specs.declared.link.Link.{Link}
use Rattle.uart_link.specs.Cable.{on_cable, lines_from}
use Rattle.uart_link.specs.Carried.{queued_at, to_be_taken, on_the_way, bytes_gone, AllKeepOrderAt, OfEnd}
use Rattle.uart_link.specs.Flow.{SeesLines, DropsNothing, receive_room, hold_of, arrived_in}
use Rattle.uart_link.specs.Link.{at_end, other, Step}

-- ---- what a round is made of

-- the chip of an end, and its transmitter
abbrev pub chip_at : Side → Link → ChipState
chip_at end link = (ring_machine (at_end end link)).chip

abbrev pub transmitter_at : Side → Link → TransmitterState
transmitter_at end link = (chip_at end link).transmitter

-- the ticks that pass in these moments; how many characters may arrive in them
abbrev pub ticks_in : List Moment → ℕ
ticks_in [] = 0
ticks_in (moment.Ticks n ∷ moments) = n + ticks_in moments
ticks_in (_ ∷ moments) = ticks_in moments

abbrev pub arrives_in : List Moment → ℕ
arrives_in [] = 0
arrives_in (moment.Arrives ∷ moments) = 1 + arrives_in moments
arrives_in (_ ∷ moments) = arrives_in moments

-- this number at a call of the end; at a call of the other end nothing; and the sum over the moments of all calls
abbrev pub of_side : (end side : Side) → ℕ → ℕ
of_side Left Left number = number
of_side Right Right number = number
of_side end side number = 0

abbrev pub in_calls_at : (number_in : List Moment → ℕ) → Side → List Step → ℕ
in_calls_at number_in end [] = 0
in_calls_at number_in end (step ∷ steps) =
    of_side end step.call.side (number_in step.call.moments.items) + in_calls_at number_in end steps

-- the ticks that are enough for a transmitter to send all that it holds, which is 17 characters at most with a FIFO of
-- 16
abbrev pub enough_ticks : TransmitterState → ℕ
enough_ticks t = most_held t * t.char_ticks

-- these calls end with a `Next` of an end: all moments of its calls have happened
pub record EndInNext (end : Side) (steps : List Step) : Type 0 where
  pub others : List Step
  pub last : Step
  pub whole : steps ≡ others ++ last ∷ []
  pub side : last.call.side ≡ end
  pub call : last.call.call ≡ call.Next

-- time passes at an end: there are so many ticks in these calls
pub record PassTime (ticks : ℕ) (end : Side) (steps : List Step) : Type 0 where
  pub happened : EndInNext end steps
  -- at least so many ticks are in them
  pub enough : ticks ≤ in_calls_at ticks_in end steps

-- all arrives that is on the cable to an end when these calls begin: there are as many arrivals in them
pub record BringAll (end : Side) (steps : List Step) : Type 0 where
  pub happened : EndInNext end steps
  pub first : Step
  pub others : List Step
  -- these are the calls
  pub begin : steps ≡ first ∷ others
  -- there are as many arrivals as characters are on the cable when the first begins
  pub enough : length (on_cable (chip_at (other end) first.before) (chip_at end first.before)) ≤
      in_calls_at arrives_in end steps

-- a call with this answer served interrupts until none was pending: a `handle` that ended so, or a `service` of fewer
-- than it serves at most
abbrev pub ServedAll : RingCall → RingAnswer → Type 0
ServedAll (call.Handle limit) (answers.Handled handled) = handled.end ≡ Idle
ServedAll call.Service (answers.Count count) = count < MAX_INTERRUPTS
ServedAll other answer = ⊥

-- the handler of an end runs until no interrupt is pending
pub record HandlerRuns (end : Side) (step : Step) : Type 0 where
  pub side : step.call.side ≡ end
  pub served : ServedAll step.call.call step.answer

-- A chip whose DATA_READY is enabled tells of each character that waits: the FIFO is off, or the trigger level is one
-- character, as One is of a FIFO of 16, or a reception timeout is due if any waits, since none has come or was read for
-- four character times
abbrev pub IsEachTold : ChipState → Type 0
IsEachTold c =
    (c.fifo ≡ false) ⊎ (characters_of c.receiver.size c.receiver.trigger ≡ 1)
    ⊎ (c.receiver.timeout_ticks ≡ c.receiver.timeout_limit)

-- The handler runs and moves all that waits in the receiver: each character is told of, and DATA_READY is enabled,
-- which it is not while receiving is paused
pub record HandlesAll (end : Side) (step : Step) : Type 0 where
  pub runs : HandlerRuns end step
  -- DATA_READY is enabled after it
  pub enabled : has_any (chip_at end step.after).latches.ier IER.DATA_READY.0 ≡ true
  pub told : IsEachTold (chip_at end step.after)

-- The program of an end takes all that is in the receive ring: it has more slots than bytes come
pub record TakesAll (end : Side) (step : Step) : Type 0 where
  pub side : step.call.side ≡ end
  pub slots : ℕ
  pub call : step.call.call ≡ call.Take slots
  pub bytes : List ℕ
  pub answer : step.answer ≡ taken_answer bytes
  pub more_slots : length bytes < slots

-- RTS of an end is on, as the other end finds it
abbrev pub IsRtsOn : Side → Link → Type 0
IsRtsOn end link = has_any (lines_from (chip_at end link)) MSR.CTS.0 ≡ true

-- An end goes on to send: in a `resume_transmit` that finds the lines as the other end gives them. If its driver checks
-- CTS, the other end's RTS is on; and nothing that waits is held, and the chip is not stuck
pub record GoesOn (end : Side) (step : Step) : Type 0 where
  pub side : step.call.side ≡ end
  pub call : step.call.call ≡ call.ResumeTransmit
  pub lines : SeesLines step.call.moments.items
  pub clear : (ring_fields (at_end end step.before)).driver.config.check_cts_before_sending ≡ true →
      IsRtsOn (other end) step.before
  pub free : sendable (ring_fields (at_end end step.before)) ≡ waiting (ring_fields (at_end end step.before))

-- An end goes on to send in its handler. Its driver does not check CTS, and it finds the rings armed, as every call
-- that accepts a byte leaves them; and nothing that waits is held, and the chip is not stuck
pub record HandlesOn (end : Side) (step : Step) : Type 0 where
  pub runs : HandlerRuns end step
  pub unchecked : (ring_fields (at_end end step.before)).driver.config.check_cts_before_sending ≡ false
  pub armed : IsRingArmed (at_end end step.before)
  pub free : sendable (ring_fields (at_end end step.after)) ≡ waiting (ring_fields (at_end end step.after))

-- an end goes on to send, in the one way or the other
abbrev pub SendsOn : Side → Step → Type 0
SendsOn end step = GoesOn end step ⊎ HandlesOn end step

-- ---- rounds

-- among these calls comes such a one, and these follow after it
abbrev pub Comes : (Step → Type 0) → (List Step → Type 0) → List Step → Type 0
Comes Such Follow steps =
    (before : List Step) × (step : Step) × (after : List Step) × (steps ≡ before ++ step ∷ after) × Such step
    × Follow after

-- the first of these calls are such, and the others follow
abbrev pub Begin : (List Step → Type 0) → (List Step → Type 0) → List Step → Type 0
Begin Such Follow steps = (part rest : List Step) × (steps ≡ part ++ rest) × Such part × Follow rest

-- So many rounds, from one end to the other, each with so many ticks at the sender or more. In a round time passes at
-- the sender, all on the cable arrives, the receiver's handler runs, its program takes, and the sender goes on to send:
-- in this order, with any other calls before, between and after
abbrev pub HasRounds : (end : Side) → (ticks rounds : ℕ) → List Step → Type 0
HasRounds end ticks zero = λ steps. ⊤
HasRounds end ticks (suc rounds) =
    let to = other end in
    Begin (PassTime ticks end) (Begin (BringAll to) (Comes (HandlesAll to) (Comes (TakesAll to) (Comes (SendsOn end)
    (HasRounds end ticks rounds)))))

-- The two chips have room for all that is sent in such a part: the sender's wire, and the receiver's journal of
-- arrivals. Chips in software keep what they have sent, and what became of each arrival
pub record HasJournals (end : Side) (a : Link) (steps : List Step) : Type 0 where
  pub wire : HasRoom (length (to_send (at_end end a)) + length (queued_at end steps)) (ring_machine (at_end end a))
  -- the receiver's journal has room for all that may arrive
  pub arrivals :
      length (out (ring_machine (at_end end a))) + (length (to_send (at_end end a)) + length (queued_at end steps)) ≤
      length (chip_at (other end) a).receiver.marks

-- ---- the handler, RTS, and the interrupt of THR

-- no character arrives at an end in these calls
abbrev pub NoneArrives : Side → List Step → Type 0
NoneArrives end steps = AllByRecursion (λ step. arrived_in end step ≡ 0) steps

-- after such a run of the handler no character waits in the receiver, until the next one arrives
abbrev pub EmptiesReceiver : Side → List Step → Link → Type 0
EmptiesReceiver end steps b = Comes (HandlesAll end) (NoneArrives end) steps → (chip_at end b).receiver.queue ≡ []

-- an end lets the other one go on: in an `adjust_rts` after which the receive ring has as much room as both marks ask
pub record TurnsRtsOn (end : Side) (step : Step) : Type 0 where
  pub side : step.call.side ≡ end
  pub marks : ReceiveMarks
  pub call : step.call.call ≡ call.AdjustRts marks
  pub hold : marks.hold ≤ receive_room (at_end end step.after)
  pub release : marks.release ≤ receive_room (at_end end step.after)

-- no call of an end adjusts RTS
abbrev pub NoneAdjusts : Side → List Step → Type 0
NoneAdjusts end [] = ⊤
NoneAdjusts end (step ∷ steps) = OfEnd end step.call.side (hold_of step.call.call ≡ None) × NoneAdjusts end steps

-- RTS stays on that was turned on, until the end adjusts it again, if its chip does not turn it off by itself: it had
-- no automatic flow control at first, or that is off in the end
abbrev pub KeepsRtsOn : Side → Link → List Step → Link → Type 0
KeepsRtsOn end a steps b =
    Comes (TurnsRtsOn end) (NoneAdjusts end) steps →
    -- its chip had no automatic flow control at first, or that is off in the end
    ((chip_at end a).auto_flow ≡ false) ⊎ IsUnheld (ring_machine (at_end end b)) → IsRtsOn end b

-- a call of an end whose driver does not check CTS leaves its rings armed, if it finds them so or arms them; each call
-- does
abbrev pub LeavesArmed : Side → Step → Type 0
LeavesArmed end step =
    (ring_fields (at_end end step.before)).driver.config.check_cts_before_sending ≡ false →
    IsRingArmed (at_end end step.before) ⊎ RearmsRing step.call.call step.answer → IsRingArmed (at_end end step.after)

abbrev pub AllLeaveArmed : Side → List Step → Type 0
AllLeaveArmed end steps = AllByRecursion (λ step. OfEnd end step.call.side (LeavesArmed end step)) steps

-- ---- what follows

-- what the other end took, or cleared, begins with all that there was at first: what waited to be taken there, what was
-- on the cable, in the transmitter and in the rings of this end
abbrev pub TakesQueued : Side → Link → List Step → Type 0
TakesQueued end a steps =
    let to = other end in
    (later : List ℕ)
    × (bytes_gone to steps ≡ (to_be_taken (at_end to a) ++ on_the_way (at_end end a) (at_end to a)) ++ later)

-- the rounds that are enough: as many as bytes wait in the rings, and one more for what is in the transmitter and on
-- the cable
abbrev pub enough_rounds : RingState → ℕ
enough_rounds s = length (to_send s) + 1

-- If the sender's chip has no automatic flow control, no character is dropped at the other end, no call lets a byte
-- overtake or drops one, and there is room, all that was queued is taken within rounds enough with ticks enough. So at
-- most `enough_rounds` times `enough_ticks` have to pass
abbrev pub Progresses : Side → Link → List Step → Link → Type 0
Progresses end a steps b =
    -- the sender's chip has no automatic flow control
    (chip_at end a).auto_flow ≡ false → AllKeepOrderAt end steps → DropsNothing (other end) a b →
    HasJournals end a steps → HasRounds end (enough_ticks (transmitter_at end a)) (enough_rounds (at_end end a)) steps →
    TakesQueued end a steps
