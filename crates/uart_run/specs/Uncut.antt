-- What holds of a run over a machine without the option: no byte is cut. A machine from `Device16550::new` cuts none.
-- For it these definitions say the whole theorem without a word about cutting.
use Rattle.std.specs.Prelude.{◌≡◌, ◌⊎◌, false, ℕ, List, ◌++◌, map, filter}
use Rattle.uart_spec.specs.declared.errors.LoopbackError.TheVariants.{Stalled}
use Rattle.uart_chip.specs.declared.receiver.Character.{Character}
use Rattle.uart_call.specs.declared.call.Call.{Call}
use Rattle.uart_call.specs.declared.call.Call.TheVariants as call
use Rattle.uart_call.specs.declared.call.Answer.{Answer}
use Rattle.uart_call.specs.declared.call.Answer.TheVariants.{Done, LoopbackRefused}
use Rattle.uart_chip.specs.Machine.{MachineState}
use Rattle.uart_chip.specs.Conserved.{out, waiting, stands, arriving, between, entered}
use Rattle.uart_run.specs.Chains.{EachLink}
use Rattle.uart_run.specs.Run.{State, machine_of, Link, Chain, IsRun}
use Rattle.uart_run.specs.Served.{AllServe, IsFlushed}
use Rattle.uart_run.specs.Statuses.{Tells}
use Rattle.uart_run.specs.Ready.{Ready, IsUnbroken}
use Rattle.uart_run.specs.Progress.{IsTimely, IsUnheld, HasRoom}
use Rattle.uart_run.specs.Reported.{reported, received}
use Rattle.uart_run.specs.Session.{GoesOn, AllCalls, overflows, AllFollow}
use Rattle.uart_run.specs.Wired.{IsWired}

-- This second form follows from the first. It is stated so that nobody has to see that `map (cut_of c) bytes` is
-- `bytes`.

-- the machine does not cut characters to the word length
abbrev pub IsUncut : State → Type 0
IsUncut s = (machine_of s).chip.cuts ≡ false

-- what was in the receiver of the first machine, and then what arrived up to the second
abbrev pub entered_uncut : MachineState → MachineState → List Character
entered_uncut m n = m.chip.receiver.queue ++ arriving m.chip.receiver.arrived (between m n)

-- the same calls go on with a session as on any machine, and also a `set_frame_when_idle`, which waits until the
-- transmitter is empty
abbrev pub GoesOnUncut : (WritesControl : Type 0) → Call → Type 0
GoesOnUncut WritesControl (call.SetFrameWhenIdle config) = Unit {0}
GoesOnUncut WritesControl other = GoesOn WritesControl other

abbrev pub IsWithinUncut : State → Call → Type 0
IsWithinUncut s = GoesOnUncut (IsWired s)

abbrev pub IsUncutSession : State → List Link → Type 0
IsUncutSession s links = Ready s × AllCalls (IsWithinUncut s) links

-- the bytes of these that were not dropped, according to the second machine
abbrev pub kept_uncut : MachineState → MachineState → List ℕ
kept_uncut m n = map (λ character. character.byte) (filter (stands n.chip.receiver) (entered_uncut m n))

-- a session: the wire and the transmitter grew by what was reported, no data write met a full transmitter, and what
-- was received and what is in the receiver is what was kept; the other clauses are those of any machine, for the
-- characters that entered
pub record ConservesUncut (s : State) (links : List Link) (t : State) : Type 0 where
  pub ready : Ready t
  pub unbroken : IsUnbroken s → IsUnbroken t
  pub sent : out (machine_of t) ≡ out (machine_of s) ++ reported links
  pub no_overflow : overflows t ≡ overflows s
  pub kept : received links ++ waiting (machine_of t) ≡ kept_uncut (machine_of s) (machine_of t)
  pub all_entered : entered (machine_of s) (machine_of t) ≡ entered_uncut (machine_of s) (machine_of t)
  pub tells : Tells s links t
  pub served : AllServe links

-- a loopback test in a state in which a session may begin: it succeeds or stalls; if it succeeds, the transmitter is
-- empty and the wire has what was to be sent before it, and nothing else; and if ticks pass, the wire has room and
-- automatic flow control is off, it succeeds
pub record TestsUncut (s : State) (a : Answer) (t : State) : Type 0 where
  pub answers : Ready s → (a ≡ Done) ⊎ (a ≡ LoopbackRefused Stalled)
  pub leaves : Ready s → a ≡ Done → IsFlushed s t
  pub succeeds : IsTimely s → Ready s → IsUnheld (machine_of s) → HasRoom 0 (machine_of s) → a ≡ Done

-- what a loopback test that is one of the calls promises; this for each call of some links
abbrev pub FollowsUncut : State → Call → Answer → State → Type 0
FollowsUncut s call.TestLoopback a t = TestsUncut s a t
FollowsUncut s other a t = Unit {0}

abbrev pub AllFollowUncut : List Link → Type 0
AllFollowUncut = EachLink FollowsUncut

-- these calls, with these answers, lead from s to t; each does what is promised of it alone, and each session in them
-- conserves
pub record RanUncut (s : State) (calls : List Call) (answers : List Answer) (t : State) : Type 0 where
  pub run : IsRun s calls answers t
  pub follows : AllFollow run.links
  pub tests : AllFollowUncut run.links
  pub sessions : (front session rest : List Link) (a b : State) → run.links ≡ front ++ (session ++ rest) →
      Chain s front a → Chain a session b → Chain b rest t → IsUncutSession a session → ConservesUncut a session b
