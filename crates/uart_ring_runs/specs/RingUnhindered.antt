-- Progress in the middle of a session of ring calls: what a call of the driver needs so that it cannot stall stays true
-- from call to call. Calls of the rings themselves wait for nothing.
use Rattle.std.specs.Prelude.{◌≡◌, ℕ, ◌+◌, List, [], ◌∷◌, ◌++◌, length}
use Rattle.uart_run.specs.Chains.{EachLink}
use Rattle.uart_run.specs.Progress.{HasRoom, IsUnchecked}
use Rattle.uart_run.specs.Unhindered as run
use Rattle.uart_run.specs.Unhindered.{IsUnhindered, Ends}
use Rattle.uart_ring_runs.specs.declared.call.RingAnswer.{RingAnswer}
use Rattle.uart_ring_runs.specs.declared.call.RingAnswer.TheVariants as answer
use Rattle.uart_ring_runs.specs.declared.call.RingCall.{RingCall}
use Rattle.uart_ring_runs.specs.declared.call.RingCall.TheVariants as call
use Rattle.uart_ring_runs.specs.RingBytes.{to_send}
use Rattle.uart_ring_runs.specs.RingRun.{RingState, under, ring_machine, RingLink, RingChain}
use Rattle.uart_ring_runs.specs.RingSession.{AllWithinRingSession, RanRing}

-- ---- one call

-- how many bytes a call is to send, or adds at most to those that wait in the rings
abbrev pub to_add : RingCall → ℕ
to_add (call.Queue bytes) = length bytes.items
to_add (call.QueueUrgent byte) = 1
to_add (call.AdjustXoff marks) = 1
to_add (call.Driver c) = run.to_send c
to_add other = 0

-- a call of the driver that waits has not stalled; for one that sends this is said if CTS is not checked
abbrev pub RingEnds : (Unchecked : Type 0) → RingState → RingCall → RingAnswer → Type 0
RingEnds Unchecked s (call.Driver c) (answer.Driver a) = Ends Unchecked (under s) c a
RingEnds Unchecked s other a = Unit {0}

-- with room on the wire for what it is to send, the call ends
abbrev pub RingEndsWithRoom : RingState → RingCall → RingAnswer → RingState → Type 0
RingEndsWithRoom s c a t = HasRoom (to_add c) (ring_machine s) → RingEnds (IsUnchecked (under s)) s c a

-- ---- each call of a run

-- from a state of a run on in which no call is held up, whatever is called: each call ends for which there is room, and
-- none is held up in the last state
pub record RingCallsEnd (links : List RingLink) (t : RingState) : Type 0 where
  pub end : EachLink RingEndsWithRoom links
  pub unhindered : IsUnhindered (under t)

abbrev pub RingCallsSucceed : Type 0
RingCallsSucceed =
    (s t : RingState) (calls : List RingCall) (answers : List RingAnswer) (ran : RanRing s calls answers t)
    (front rest : List RingLink) (a : RingState) →
    -- these calls are the last of the run
    ran.run.links ≡ front ++ rest → RingChain a rest t → IsUnhindered (under a) → RingCallsEnd rest t

-- ---- each call of a session

-- the wire has room for all that is to be sent, also for what waits in the rings, and for n bytes more
abbrev pub HasRingRoom : ℕ → RingState → Type 0
HasRingRoom n s = HasRoom (length (to_send s) + n) (ring_machine s)

-- how many bytes some calls are to send, or add at most
abbrev pub all_to_add : List RingLink → ℕ
all_to_add [] = 0
all_to_add (link ∷ links) = to_add link.call + all_to_add links

-- each call of a session ends, if CTS is not checked where the session begins; and in the state after it none is held
-- up, and all that waits has room
pub record RingSessionEnds (s : RingState) (links : List RingLink) (t : RingState) : Type 0 where
  pub end : EachLink (λ before c a after. RingEnds (IsUnchecked (under s)) before c a) links
  pub unhindered : IsUnhindered (under t)
  pub room : HasRingRoom 0 t

-- so it is with each session in a run that begins in a state in which no call is held up, with room for all that waits
-- in the rings and all that its calls are to send or add
abbrev pub RingSessionsSucceed : Type 0
RingSessionsSucceed =
    (s t : RingState) (calls : List RingCall) (answers : List RingAnswer) (ran : RanRing s calls answers t)
    (front session rest : List RingLink) (a b : RingState) →
    -- these calls are a part of the run
    ran.run.links ≡ front ++ (session ++ rest) → RingChain s front a →
    RingChain a session b → RingChain b rest t → IsUnhindered (under a) → AllWithinRingSession a session →
    HasRingRoom (all_to_add session) a → RingSessionEnds a session b
