-- What a link carries: where each byte is that was queued at one end.
use Rattle.std.specs.Prelude.{◌≡◌, ◌≢◌, ℕ, List, [], ◌∷◌, ◌++◌, map, filter}
use Rattle.uart_chip.specs.declared.receiver.Character.{Character}
use Rattle.uart_chip.specs.Transmitter.{held}
use Rattle.uart_chip.specs.Receiver.{ReceiverState}
use Rattle.uart_chip.specs.Conserved.{stands, waiting, out}
use Rattle.uart_run.specs.Ready.{Ready}
use Rattle.uart_run.specs.Uncut.{IsUncut}
use Rattle.uart_ring_runs.specs.RingRun.{RingState, ring_machine, under}
use Rattle.uart_ring_runs.specs.declared.call.RingAnswer.{RingAnswer}
use Rattle.uart_ring_runs.specs.declared.call.RingCall.{RingCall}
use Rattle.uart_ring_runs.specs.declared.call.RingCall.TheVariants as call
use Rattle.uart_ring_runs.specs.RingBytes.{to_send, to_take, queued_by, taken_by, KeepsOrder}
use Rattle.uart_link.specs.declared.call.Side.{Side}
use Rattle.uart_link.specs.declared.call.Side.TheVariants.{Left, Right}
use Rattle.uart_link.specs.declared.link.Link.{Link}
use Rattle.uart_link.specs.Brought.{numbered, IsBrought}
use Rattle.uart_link.specs.Cable.{on_cable}
use Rattle.uart_link.specs.Link.{at_end, other, Step}

-- ---- where bytes are

-- the bytes that are on their way from one end to the other, in the order in which they will arrive: on the cable, in
-- the transmitter, and waiting to be sent
abbrev pub on_the_way : (from to : RingState) → List ℕ
on_the_way from to =
    on_cable (ring_machine from).chip (ring_machine to).chip
    ++ (held (ring_machine from).chip.transmitter ++ to_send from)

-- the bytes that have come to an end and were not taken: in the receive ring, and in the receiver
abbrev pub to_be_taken : RingState → List ℕ
to_be_taken s = to_take s ++ waiting (ring_machine s)

-- all that has left an end or is to leave it, in order: what has left its chip, what its transmitter holds, and what
-- waits in its rings
abbrev pub all_sent : RingState → List ℕ
all_sent s = out (ring_machine s) ++ to_send s

-- the receiver of an end
abbrev pub receiver_at : RingState → ReceiverState
receiver_at s = (ring_machine s).chip.receiver

-- the bytes of these characters that a receiver has not dropped
abbrev pub not_dropped : ReceiverState → List Character → List ℕ
not_dropped r characters = map (λ character. character.byte) (filter (stands r) characters)

-- ---- the calls of one end

-- this of a call at the end; of a call at the other end nothing
abbrev pub of_end : {A : Type 0} → (end side : Side) → List A → List A
of_end Left Left items = items
of_end Right Right items = items
of_end end side items = []

abbrev pub OfEnd : (end side : Side) → Type 0 → Type 0
OfEnd Left Left Property = Property
OfEnd Right Right Property = Property
OfEnd end side Property = Unit {0}

-- the bytes that calls of an end queued
abbrev pub queued_at : Side → List Step → List ℕ
queued_at end [] = []
queued_at end (step ∷ steps) =
    of_end end step.call.side (queued_by step.call.call step.answer) ++ queued_at end steps

-- a byte that left a receive ring: a call returned it, or a `clear_receive` dropped it
pub data Gone : Type 0 where
  Taken : (byte : ℕ) → Gone
  Cleared : (byte : ℕ) → Gone

abbrev pub byte_of : Gone → ℕ
byte_of (Taken byte) = byte
byte_of (Cleared byte) = byte

-- those that a call returned
abbrev pub taken_among : List Gone → List ℕ
taken_among [] = []
taken_among (Taken byte ∷ gone) = byte ∷ taken_among gone
taken_among (Cleared byte ∷ gone) = taken_among gone

-- the bytes that left the receive ring in a call: those that it returned; or, if it clears the ring, all that were
-- there
abbrev pub left_in : RingCall → RingAnswer → (there : List ℕ) → List Gone
left_in call.ClearReceive a there = map Cleared there
left_in other a there = map Taken (taken_by other a)

-- promise: of each byte that left a receive ring it is said whether it was taken or cleared; an end that never clears
--   has taken all
-- with: gone_at, LinkConserves.taken
-- shown by: what_was_cleared_is_not_taken
-- refused: a_clear_drops_nothing, clears_of_the_transmit_ring_count

-- those that left the receive ring of an end, in order: taken or cleared; as bytes; and those that were taken
abbrev pub gone_at : Side → List Step → List Gone
gone_at end [] = []
gone_at end (step ∷ steps) =
    of_end end step.call.side (left_in step.call.call step.answer (to_take (at_end step.call.side step.before)))
    ++ gone_at end steps

abbrev pub bytes_gone : Side → List Step → List ℕ
bytes_gone end steps = map byte_of (gone_at end steps)

abbrev pub taken_at : Side → List Step → List ℕ
taken_at end steps = taken_among (gone_at end steps)

-- no call of an end clears its receive ring
abbrev pub NoneClears : Side → List Step → Type 0
NoneClears end [] = Unit {0}
NoneClears end (step ∷ steps) = OfEnd end step.call.side (step.call.call ≢ call.ClearReceive) × NoneClears end steps

-- an end that never clears its receive ring has taken all that left it
abbrev pub TakesAllGone : Side → List Step → Type 0
TakesAllGone end steps = NoneClears end steps → taken_at end steps ≡ bytes_gone end steps

-- no call of an end lets a byte overtake, or drops one that waits to be sent
abbrev pub AllKeepOrderAt : Side → List Step → Type 0
AllKeepOrderAt end [] = Unit {0}
AllKeepOrderAt end (step ∷ steps) = OfEnd end step.call.side (KeepsOrder step.call.call) × AllKeepOrderAt end steps

-- ---- what is carried

-- what has left an end and is to leave it grew by what was queued, if no call lets a byte overtake or drops one
abbrev pub Queues : Side → Link → List Step → Link → Type 0
Queues end a steps b =
    AllKeepOrderAt end steps → all_sent (at_end end b) ≡ all_sent (at_end end a) ++ queued_at end steps

-- From one end to the other, in this order: what was taken or cleared, what waits to be taken, what is on its way. That
-- is what waited to be taken, what was on its way and what was queued, less what the receiver has dropped.
abbrev pub Carries : Side → Link → List Step → Link → Type 0
Carries end a steps b =
    let to = other end in
    AllKeepOrderAt end steps →
    bytes_gone to steps ++ (to_be_taken (at_end to b) ++ on_the_way (at_end end b) (at_end to b)) ≡
    to_take (at_end to a) ++ not_dropped (receiver_at (at_end to b))
    ((receiver_at (at_end to a)).queue ++ numbered (receiver_at (at_end to a)).arrived
    (on_the_way (at_end end a) (at_end to a) ++ queued_at end steps))

-- ---- parts of runs

-- a session may go on at both ends, and no character is cut
pub record BothReady (a : Link) : Type 0 where
  pub left : Ready (under a.left)
  pub right : Ready (under a.right)

-- neither chip cuts characters to the word length
pub record NoneCut (a : Link) : Type 0 where
  pub left : IsUncut (under a.left)
  pub right : IsUncut (under a.right)

-- the cable is all that joins the two: each end's schedule has what has left the other
pub record IsJoined (a : Link) : Type 0 where
  pub left : IsBrought (ring_machine a.right).chip.transmitter.wire (ring_machine a.left)
  pub right : IsBrought (ring_machine a.left).chip.transmitter.wire (ring_machine a.right)
