-- Progress in the middle of a session: what a call needs so that it cannot stall stays true from call to call.
use Rattle.std.specs.Prelude.{◌≡◌, ℕ, ◌+◌, false, List, [], ◌∷◌, ◌++◌, length}
use Rattle.uart_16550.specs.Expansion.{expansion}
use Rattle.uart_call.specs.declared.call.Call.{Call}
use Rattle.uart_call.specs.declared.call.Call.TheVariants as call
use Rattle.uart_call.specs.declared.call.Answer.{Answer}
use Rattle.uart_call.specs.declared.call.Answer.TheVariants.{Done, Count}
use Rattle.uart_run.specs.Chains.{EachLink}
use Rattle.uart_run.specs.Run.{State, machine_of, Link, Chain}
use Rattle.uart_run.specs.Ready.{Ready, is_narrow, test_answer}
use Rattle.uart_run.specs.Progress.{IsTimely, IsUnchecked, HasDivisor, HasRoom}
use Rattle.uart_run.specs.Session.{AllWithinSession, Ran}

-- no call is held up here but for want of room on the wire or of CTS: a session may begin, ticks come, the limit is
-- long enough, and the chip has no automatic flow control
pub record IsUnhindered (s : State) : Type 0 where
  pub ready : Ready s
  pub timely : IsTimely s
  -- the chip has no automatic flow control
  pub lacks_flow : (machine_of s).chip.auto_flow ≡ false

-- ---- one call

-- how many bytes a call is to send
abbrev pub to_send : Call → ℕ
to_send (call.TrySend byte) = 1
to_send (call.Send bytes) = length bytes.items
to_send (call.SendExact bytes) = length bytes.items
to_send (call.Write bytes) = length bytes.items
to_send (call.Text text) = length (expansion text.bytes)
to_send other = 0

-- a call that waits has not stalled; for one that sends this is said if CTS is not checked
abbrev pub Ends : (Unchecked : Type 0) → State → Call → Answer → Type 0
Ends Unchecked s (call.Init config) a = HasDivisor config → a ≡ Done
Ends Unchecked s (call.InitWith config setup) a = HasDivisor config → a ≡ Done
Ends Unchecked s (call.SetFrameWhenIdle config) a = HasDivisor config → a ≡ Done
Ends Unchecked s call.TestLoopback a = a ≡ test_answer (is_narrow (machine_of s).chip)
Ends Unchecked s call.Flush a = a ≡ Done
Ends Unchecked s (call.SendExact bytes) a = Unchecked → a ≡ Done
Ends Unchecked s (call.Write bytes) a = Unchecked → (count : ℕ) × (a ≡ Count count)
Ends Unchecked s (call.Text text) a = Unchecked → a ≡ Done
Ends Unchecked s other a = Unit {0}

-- with room on the wire for what it is to send, the call ends
abbrev pub EndsWithRoom : State → Call → Answer → State → Type 0
EndsWithRoom s call a t = HasRoom (to_send call) (machine_of s) → Ends (IsUnchecked s) s call a

-- ---- each call of a run

-- from a state of a run on in which no call is held up, whatever is called: each call ends for which there is room, and
-- none is held up in the last state
pub record CallsEnd (links : List Link) (t : State) : Type 0 where
  pub end : EachLink EndsWithRoom links
  pub unhindered : IsUnhindered t

abbrev pub CallsSucceed : Type 0
CallsSucceed =
    (s t : State) (calls : List Call) (answers : List Answer) (ran : Ran s calls answers t) (front rest : List Link)
    (a : State) →
    -- these calls are the last of the run
    ran.run.links ≡ front ++ rest → Chain a rest t → IsUnhindered a → CallsEnd rest t

-- ---- each call of a session

-- how many bytes some calls are to send
abbrev pub all_to_send : List Link → ℕ
all_to_send [] = 0
all_to_send (link ∷ links) = to_send link.call + all_to_send links

-- each call of a session ends, if CTS is not checked where the session begins; and in the state after it none is held
-- up, and what waits has room
pub record SessionEnds (s : State) (links : List Link) (t : State) : Type 0 where
  pub end : EachLink (λ before call a after. Ends (IsUnchecked s) before call a) links
  pub unhindered : IsUnhindered t
  pub room : HasRoom 0 (machine_of t)

-- so it is with each session in a run that begins in a state in which no call is held up, with room for all that its
-- calls are to send
abbrev pub SessionsSucceed : Type 0
SessionsSucceed =
    (s t : State) (calls : List Call) (answers : List Answer) (ran : Ran s calls answers t)
    (front session rest : List Link) (a b : State) →
    -- these calls are a part of the run
    ran.run.links ≡ front ++ (session ++ rest) → Chain s front a →
    Chain a session b → Chain b rest t → IsUnhindered a → AllWithinSession a session →
    HasRoom (all_to_send session) (machine_of a) → SessionEnds a session b
