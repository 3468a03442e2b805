-- Runs of ring calls over the machine: what each call does, and lists of calls.
use Rattle.std.specs.Prelude.{◌≡◌, ◌≤◌, ⊤, ℕ, List}
use Rattle.uart_spec.specs.declared.access.Access.{Access}
use Rattle.uart_16550.specs.Driver.{fields}
use Rattle.uart_call.specs.declared.call.TheConstants.{CALL_BYTES}
use Rattle.uart_call.specs.declared.call.Call.{Call}
use Rattle.uart_call.specs.declared.call.Answer.{Answer}
use Rattle.uart_call.specs.Calls.{IsRunnable}
use Rattle.uart_calls.specs.Meaning.{Called, IsOfDriver, meaning}
use Rattle.uart_chip.specs.Machine.{MachineState, MachineStep, at_mark}
use Rattle.uart_run.specs.Chains.{LinkOf, ChainOf}
use Rattle.uart_run.specs.Run.{State, machine_of}
use Rattle.uart_ring.specs.Ring.{RingDoing, RingDid, Stays, ring_fields, driver_of, with_driver}
use Rattle.uart_ring.specs.Transmit.{Queues, ResumesTransmit, Holds, Releases, QueuesUrgent, ClearsTransmit}
use Rattle.uart_ring.specs.Transmit.{SetsLowMark, TakesLow}
use Rattle.uart_ring.specs.Receive.{TakesBytes, ClearsReceive, AdjustsRts, AdjustsXoff, ObeysXoff}
use Rattle.uart_ring.specs.Storm.{TriesToHandle, Restarts}
use Rattle.uart_ring.specs.Service.{Services}
use Rattle.uart_ring.specs.Handle.{Retriggers, Handles}
use Rattle.uart_ring.specs.Status.{TakesLine, TakesModem}
use Rattle.uart_ring.specs.declared.ring.Uart16550Ring.{Uart16550Ring}
use Rattle.uart_ring_runs.specs.declared.call.RingCall.{RingCall}
use Rattle.uart_ring_runs.specs.declared.call.RingCall.TheVariants as call
use Rattle.uart_ring_runs.specs.declared.call.RingAnswer.{RingAnswer}
use Rattle.uart_ring_runs.specs.declared.call.RingAnswer.TheVariants.{Count, Bytes, Line, Modem, Done}
use Rattle.uart_ring_runs.specs.declared.call.RingAnswer.TheVariants as answers

-- there are at most as many slots as a call may have, and a call of the driver can be made through `inner_mut`
abbrev pub IsRingRunnable : RingCall → Type 0
IsRingRunnable (call.Take slots) = slots ≤ CALL_BYTES
IsRingRunnable (call.Driver c) = IsOfDriver c × IsRunnable c
IsRingRunnable other = ⊤

-- the call is one of the rings, and not of the driver under them
abbrev pub IsOfRings : RingCall → Type 0
IsOfRings (call.Driver c) = ⊥
IsOfRings other = ⊤

-- the rings over a driver with the machine in its state
abbrev pub RingState : Type 0
RingState = Uart16550Ring MachineState

-- the driver of a state under a terminal of its own, to which the definitions about driver and machine apply
abbrev pub under : RingState → State
under s = record { inner = driver_of s }

-- the machine of a state
abbrev pub ring_machine : RingState → MachineState
ring_machine s = machine_of (under s)

-- ---- one call

-- the ring call had some result, did over the backend what it does for this result, and had this answer for it
pub record RingCalled {B R : Type 0} (step : B → Access → B → Type 0) (G : R → RingDoing) (answer_of : R → RingAnswer)
    (answer : RingAnswer) (s t : Uart16550Ring B) : Type 0 where
  pub outcome : R
  pub answered : answer ≡ answer_of outcome
  pub did : RingDid step (G outcome) s t

-- the driver under the rings made this call, with this answer, and the rings are as they were
pub record DriverCalled {B : Type 0} (step : B → Access → B → Type 0) (c : Call) (answer : RingAnswer)
    (s t : Uart16550Ring B) : Type 0 where
  pub of_driver : IsOfDriver c
  pub outcome : Answer
  -- the answer is that of the driver
  pub answered : answer ≡ answers.Driver outcome
  pub called : Called step (meaning c) outcome (driver_of s) (driver_of t)
  -- the rings are as they were
  pub rings : ring_fields t ≡ with_driver (fields (driver_of t)) (ring_fields s)

-- bytes, bits of LSR and bits of MSR as answers
abbrev pub taken_answer : List ℕ → RingAnswer
taken_answer bytes = Bytes (record { items = bytes })

abbrev pub line_answer : ℕ → RingAnswer
line_answer bits = Line (record { 0 = bits })

abbrev pub modem_answer : ℕ → RingAnswer
modem_answer bits = Modem (record { 0 = bits })

-- `take` into a number of slots
abbrev pub TakesInto : {B : Type 0} → (B → Access → B → Type 0) → ℕ → RingAnswer → Uart16550Ring B →
    Uart16550Ring B → Type 0
TakesInto step slots = RingCalled step (TakesBytes slots) taken_answer

-- what each call does, over any backend; `Next` is for a device that has a schedule, and the rings do nothing
abbrev pub RingPerformed : {B : Type 0} → (B → Access → B → Type 0) → Uart16550Ring B → RingCall → RingAnswer →
    Uart16550Ring B → Type 0
RingPerformed step s (call.Queue bytes) answer t = RingCalled step (Queues bytes.items) Count answer s t
RingPerformed step s call.ResumeTransmit answer t = RingCalled step (λ (_ : ⊤). ResumesTransmit) (λ _. Done) answer s t
RingPerformed step s (call.Take slots) answer t = TakesInto step slots answer s t
RingPerformed step s call.Service answer t = RingCalled step Services Count answer s t
RingPerformed step s (call.Handle limit) answer t = RingCalled step (Handles limit) answers.Handled answer s t
RingPerformed step s call.Retrigger answer t = RingCalled step (λ (_ : ⊤). Retriggers) (λ _. Done) answer s t
RingPerformed step s call.TakeLine answer t = RingCalled step TakesLine line_answer answer s t
RingPerformed step s call.TakeModem answer t = RingCalled step TakesModem modem_answer answer s t
RingPerformed step s call.HoldTransmit answer t = RingCalled step (λ (_ : ⊤). Holds) (λ _. Done) answer s t
RingPerformed step s call.ReleaseTransmit answer t = RingCalled step (λ (_ : ⊤). Releases) (λ _. Done) answer s t
RingPerformed step s (call.QueueUrgent byte) answer t = RingCalled step (QueuesUrgent byte) answers.Replaced answer s t
RingPerformed step s call.ClearTransmit answer t = RingCalled step ClearsTransmit Count answer s t
RingPerformed step s call.ClearReceive answer t = RingCalled step ClearsReceive Count answer s t
RingPerformed step s (call.SetLowMark mark) answer t =
    RingCalled step (λ (_ : ⊤). SetsLowMark mark) (λ _. Done) answer s t
RingPerformed step s call.TakeLow answer t = RingCalled step TakesLow answers.Low answer s t
RingPerformed step s (call.TryHandle limit rounds) answer t =
    RingCalled step (TriesToHandle limit rounds) answers.Tried answer s t
RingPerformed step s (call.Restart interrupts) answer t =
    RingCalled step (λ (_ : ⊤). Restarts interrupts.0) (λ _. Done) answer s t
RingPerformed step s (call.AdjustRts marks) answer t =
    RingCalled step (λ (_ : ⊤). AdjustsRts marks) (λ _. Done) answer s t
RingPerformed step s (call.AdjustXoff marks) answer t = RingCalled step (AdjustsXoff marks) answers.Told answer s t
RingPerformed step s call.ObeyXoff answer t = RingCalled step ObeysXoff answers.Told answer s t
RingPerformed step s (call.Driver c) answer t = DriverCalled step c answer s t
RingPerformed step s call.Next answer t = RingCalled step (λ (_ : ⊤). Stays) (λ _. Done) answer s t

-- `Next` over the machine: the events up to the next Mark, which is removed, and no access
pub record RingGoesOn (answer : RingAnswer) (s t : RingState) : Type 0 where
  pub answered : answer ≡ Done
  pub machine : ring_machine t ≡ at_mark (ring_machine s)
  pub rings : ring_fields t ≡ ring_fields s

-- the state that a call leaves and the answer that it returns: `Next` goes on to the mark, and every other call is
-- made over the machine
abbrev pub RingCallStep : RingState → RingCall → RingAnswer → RingState → Type 0
RingCallStep s call.Next answer t = RingGoesOn answer s t
RingCallStep s other answer t = RingPerformed MachineStep s other answer t

-- ---- lists of calls

-- a call of a run, with its answer, between the states before and after it
abbrev pub RingLink : Type 0
RingLink = LinkOf RingState RingCall RingAnswer

-- the calls lead from the first state to the second, one after another
abbrev pub RingChain : RingState → List RingLink → RingState → Type 0
RingChain = ChainOf RingCallStep
