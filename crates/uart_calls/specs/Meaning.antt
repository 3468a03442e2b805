-- The meaning of each call: its outcome, what the driver did then, and the answer for this outcome.
use Rattle.std.specs.Prelude.{◌≡◌, ◌≤◌, ⊤, ℕ, Bool, List, [], ◌∷◌, Result, Ok, Err, length}
use Rattle.uart_spec.specs.declared.errors.ByteReceiveError.{ByteReceiveError}
use Rattle.uart_spec.specs.declared.errors.ByteSendError.{ByteSendError}
use Rattle.uart_spec.specs.declared.errors.ConfigurationError.{ConfigurationError}
use Rattle.uart_spec.specs.declared.errors.FifosOffError.{FifosOffError}
use Rattle.uart_spec.specs.declared.errors.FrameError.{FrameError}
use Rattle.uart_spec.specs.declared.errors.InitError.{InitError}
use Rattle.uart_spec.specs.declared.errors.InvalidDivisorError.{InvalidDivisorError}
use Rattle.uart_spec.specs.declared.errors.LoopbackError.{LoopbackError}
use Rattle.uart_spec.specs.declared.errors.RemoteReadyToReceiveError.{RemoteReadyToReceiveError}
use Rattle.uart_spec.specs.declared.errors.StalledError.{StalledError}
use Rattle.uart_spec.specs.declared.registers.offsets.TheConstants as offsets
use Rattle.uart_spec.specs.declared.access.Access.{Access}
use Rattle.uart_spec.specs.declared.access.Access.TheVariants.{Read}
use Rattle.uart_16550.specs.Grammar.{Language, Only}
use Rattle.uart_16550.specs.Driver.{Doing, Did, Saving}
use Rattle.uart_16550.specs.Receive.{ReadyToReceive, TryReceive, Receives, ReceivesExact, ReceivesWithErrors}
use Rattle.uart_16550.specs.Transmit.{ReadyToSend, TrySends, Sends, SendsExact}
use Rattle.uart_16550.specs.Init.{ChecksPresence, Inits}
use Rattle.uart_16550.specs.Frame.{SetsFrame, ShowsIdle, SetsBreak, SetsControl, SetsOutput}
use Rattle.uart_16550.specs.Setup.{InitsWith, SetsFrameWhenIdle, SetsTrigger, Quiesces, Restores}
use Rattle.uart_16550.specs.Attach.{Attaches}
use Rattle.uart_16550.specs.Configured.{ChecksConfigured}
use Rattle.uart_spec.specs.declared.errors.AttachError.{AttachError}
use Rattle.uart_spec.specs.declared.registers.modem_control.TheConstants.MCR
use Rattle.uart_16550.specs.Loopback.{TestsLoopback}
use Rattle.uart_16550.specs.Status.{TakesLsr, TakesMsr, Connects, ReadsDivisor, Enables, Disables, Retriggers, Dumps}
use Rattle.uart_16550.specs.Io.{Reads, Writes, Flushes, AnswersRead, AnswersWrite}
use Rattle.uart_16550.specs.Expansion.{SendsText}
use Rattle.uart_16550.specs.Tty.{inner_of}
use Rattle.uart_16550.specs.declared.driver.Uart16550.{Uart16550}
use Rattle.uart_16550.specs.declared.tty.Uart16550Tty.{Uart16550Tty}
use Rattle.uart_spec.specs.declared.received.Received.{Received}
use Rattle.uart_call.specs.declared.call.Call.{Call}
use Rattle.uart_call.specs.declared.call.Call.TheVariants as call
use Rattle.uart_call.specs.declared.call.Answer.{Answer}
use Rattle.uart_call.specs.declared.call.Answer.TheVariants.{Done, Flag, Count, Bytes, BytesWithErrors, Register}
use Rattle.uart_call.specs.declared.call.Answer.TheVariants.{Latch, Dump, Stalled}
use Rattle.uart_call.specs.declared.call.Answer.TheVariants.{ReceiveStalled, InitRefused, FrameRefused}
use Rattle.uart_call.specs.declared.call.Answer.TheVariants.{FrameWhenIdleRefused, FifosOff}
use Rattle.uart_call.specs.declared.call.Answer.TheVariants.{AttachRefused, NotConfigured, LoopbackRefused}
use Rattle.uart_call.specs.declared.call.Answer.TheVariants.{NotConnected, NoData, NotSent}
use Rattle.uart_call.specs.declared.call.TheConstants.{CALL_BYTES}

-- ---- the answer for an outcome

-- the answer that an outcome is returned as, one function for each kind of outcome
abbrev pub bytes_answer : List ℕ → Answer
bytes_answer bytes = Bytes (record { items = bytes })

abbrev pub with_errors_answer : List Received → Answer
with_errors_answer items = BytesWithErrors (record { items = items })

abbrev pub init_answer : Result (Unit {0}) InitError → Answer
init_answer (Ok x) = Done
init_answer (Err e) = InitRefused e

abbrev pub frame_answer : Result (Unit {0}) InvalidDivisorError → Answer
frame_answer (Ok x) = Done
frame_answer (Err e) = FrameRefused e

abbrev pub frame_when_idle_answer : Result (Unit {0}) FrameError → Answer
frame_when_idle_answer (Ok x) = Done
frame_when_idle_answer (Err e) = FrameWhenIdleRefused e

abbrev pub trigger_answer : Result (Unit {0}) FifosOffError → Answer
trigger_answer (Ok x) = Done
trigger_answer (Err e) = FifosOff

abbrev pub attach_answer : Result (ℕ × ℕ) AttachError → Answer
attach_answer (Ok latch) = Latch latch.0 latch.1
attach_answer (Err e) = AttachRefused e

abbrev pub configured_answer : Result (Unit {0}) ConfigurationError → Answer
configured_answer (Ok x) = Done
configured_answer (Err e) = NotConfigured e

abbrev pub loopback_answer : Result (Unit {0}) LoopbackError → Answer
loopback_answer (Ok x) = Done
loopback_answer (Err e) = LoopbackRefused e

abbrev pub connected_answer : Result (Unit {0}) RemoteReadyToReceiveError → Answer
connected_answer (Ok x) = Done
connected_answer (Err e) = NotConnected e

abbrev pub receive_ready_answer : Result (Unit {0}) ByteReceiveError → Answer
receive_ready_answer (Ok x) = Done
receive_ready_answer (Err e) = NoData

abbrev pub received_answer : Result ℕ ByteReceiveError → Answer
received_answer (Ok byte) = Register byte
received_answer (Err e) = NoData

abbrev pub sent_answer : Result (Unit {0}) ByteSendError → Answer
sent_answer (Ok x) = Done
sent_answer (Err e) = NotSent e

abbrev pub exact_answer : Result (Unit {0}) StalledError → Answer
exact_answer (Ok x) = Done
exact_answer (Err e) = Stalled e.done

abbrev pub count_answer : Result ℕ StalledError → Answer
count_answer (Ok count) = Count count
count_answer (Err e) = Stalled e.done

abbrev pub read_answer : (List ℕ × Result ℕ StalledError) → Answer
read_answer (bytes, Ok count) = bytes_answer bytes
read_answer (bytes, Err e) = Stalled e.done

abbrev pub receive_exact_answer : (List ℕ × Result (Unit {0}) StalledError) → Answer
receive_exact_answer (bytes, Ok x) = bytes_answer bytes
receive_exact_answer (bytes, Err e) = ReceiveStalled (record { items = bytes })

abbrev pub ready_answer : Result Bool StalledError → Answer
ready_answer (Ok ready) = Flag ready
ready_answer (Err e) = Stalled e.done

abbrev pub latch_answer : (ℕ × ℕ) → Answer
latch_answer (low, high) = Latch low high

-- ---- what the driver did, for calls that are not defined in uart_16550

-- no access, and the fields do not change
abbrev pub MakesNoAccess : Doing
MakesNoAccess f l after = (l ≡ []) × (after ≡ f)

-- the call makes no access and changes nothing, and the result is whether the driver takes the FIFO to be on
abbrev pub ShowsFifo : Bool → Doing
ShowsFifo on f l after = (on ≡ f.fifo) × MakesNoAccess f l after

-- the registers are checked against the configuration that the driver has stored, and these outputs
abbrev pub ChecksStored : (outputs : ℕ) → Result (Unit {0}) ConfigurationError → Doing
ChecksStored outputs result f l after = Saving (ChecksConfigured f.config outputs result) f l after

-- one read of a register, which returned this value
abbrev pub ShowsRegister : (register value : ℕ) → Language
ShowsRegister register value = Only (Read register value ∷ [])

-- a text of at most the bytes of a call, so that the count of a stall is exact
abbrev pub SendsShortText : List ℕ → Result (Unit {0}) StalledError → Language
SendsShortText text result s l = (length text ≤ CALL_BYTES) × SendsText text result s l

-- ---- the table

-- What a call means is in one table, for any step relation, so `perform` makes a call over any backend. A row is a case
-- of a type with one constructor, and not a record: the prover then computes a step as soon as the call is known.

-- a row: what the driver did if this was the outcome of the call, and the answer for the outcome
pub data Meaning : Type 1 where
  means : {Outcome : Type 0} → (Outcome → Doing) → (Outcome → Answer) → Meaning

-- the type of a row's outcomes, and what the driver did
abbrev pub outcome_of : Meaning → Type 0
outcome_of (means {Outcome = Outcome} doing answer) = Outcome

abbrev pub doing_of : (m : Meaning) → outcome_of m → Doing
doing_of (means doing answer) outcome = doing outcome

-- a call that makes a list of a language, saves what its reads clear, and changes nothing else
abbrev pub saves : {R : Type 0} → (R → Language) → (R → Answer) → Meaning
saves {R} lists answer = means {Outcome = R} (λ outcome. Saving (lists outcome)) answer

-- a call that returns nothing
abbrev pub tells_nothing : Doing → Meaning
tells_nothing doing = means {Outcome = Unit {0}} (λ outcome. doing) (λ outcome. Done)

-- each call; `Next` is for a device that has a schedule, and the driver does nothing
abbrev pub meaning : Call → Meaning
meaning call.Next = tells_nothing MakesNoAccess
meaning (call.Init config) = means (Inits config) init_answer
meaning (call.InitWith config setup) = means (InitsWith setup config) init_answer
meaning (call.SetFrame config) = means (SetsFrame config) frame_answer
meaning (call.SetFrameWhenIdle config) = means (SetsFrameWhenIdle config) frame_when_idle_answer
meaning (call.SetTriggerLevel level) = means (SetsTrigger level) trigger_answer
meaning call.Attach = means Attaches attach_answer
meaning (call.SetBreak on) = tells_nothing (Saving (SetsBreak on))
meaning (call.SetModemControl outputs) = tells_nothing (Saving (SetsControl outputs.0))
meaning (call.SetRts on) = tells_nothing (Saving (SetsOutput MCR.RTS.0 on))
meaning (call.SetDtr on) = tells_nothing (Saving (SetsOutput MCR.DTR.0 on))
meaning (call.Quiesce outputs fifos) = tells_nothing (Quiesces outputs.0 fifos)
meaning (call.Restore dump) = tells_nothing (Restores dump)
meaning (call.CheckConfigured outputs) = means (ChecksStored outputs.0) configured_answer
meaning call.TestLoopback = means TestsLoopback loopback_answer
meaning call.CheckPresent = saves ChecksPresence Flag
meaning call.CheckConnected = saves Connects connected_answer
meaning call.ReadyToReceive = saves ReadyToReceive receive_ready_answer
meaning call.ReadyToSend = saves ReadyToSend sent_answer
meaning call.TryReceive = saves TryReceive received_answer
meaning call.Flush = saves Flushes exact_answer
meaning call.ReadReady = saves AnswersRead ready_answer
meaning call.WriteReady = saves AnswersWrite ready_answer
meaning call.Ier = saves (ShowsRegister offsets.IER) Register
meaning call.Isr = saves (ShowsRegister offsets.ISR) Register
meaning call.Lcr = saves (ShowsRegister offsets.LCR) Register
meaning call.Mcr = saves (ShowsRegister offsets.MCR) Register
meaning call.Lsr = means TakesLsr Register
meaning call.Msr = means TakesMsr Register
meaning call.PeekModem = saves (ShowsRegister offsets.MSR) Register
meaning call.IsIdle = saves ShowsIdle Flag
meaning call.Spr = saves (ShowsRegister offsets.SPR) Register
meaning call.DllDlm = saves (λ latch. ReadsDivisor latch.0 latch.1) latch_answer
meaning call.FifoEnabled = means ShowsFifo Flag
meaning call.Dump = means Dumps Dump
meaning (call.TrySend byte) = saves (TrySends byte) sent_answer
meaning (call.Enable bits) = tells_nothing (Enables bits.0)
meaning (call.Disable bits) = tells_nothing (Disables bits.0)
meaning call.RetriggerInterrupts = tells_nothing (Saving Retriggers)
meaning (call.Receive slots) = saves (Receives slots) bytes_answer
meaning (call.ReceiveExact slots) = saves (λ got. ReceivesExact slots got.0 got.1) receive_exact_answer
meaning (call.ReceiveWithErrors slots) = saves (ReceivesWithErrors slots) with_errors_answer
meaning (call.Read slots) = saves (λ got. Reads slots got.0 got.1) read_answer
meaning (call.Send bytes) = saves (Sends bytes.items) Count
meaning (call.SendExact bytes) = saves (SendsExact bytes.items) exact_answer
meaning (call.Write bytes) = saves (Writes bytes.items) count_answer
meaning (call.Text text) = saves (SendsShortText text.bytes) exact_answer

-- ---- one call

-- the call is one of a driver: `Next` is one of a device that has a schedule, and `Text` one of a terminal
abbrev pub IsOfDriver : Call → Type 0
IsOfDriver call.Next = ⊥
IsOfDriver (call.Text text) = ⊥
IsOfDriver other = ⊤

-- the call had some outcome, for which this is the answer, and the driver did what it does for this outcome
pub record CalledAs {B R : Type 0} (step : B → Access → B → Type 0) (doing : R → Doing) (answer_of : R → Answer)
    (answer : Answer) (d e : Uart16550 B) : Type 0 where
  pub outcome : R
  pub answered : answer ≡ answer_of outcome
  pub did : Did step (doing outcome) d e

-- the call had some outcome, the driver did what belongs to that outcome, and the answer is the one for it
abbrev pub Called : {B : Type 0} → (B → Access → B → Type 0) → Meaning → Answer → Uart16550 B → Uart16550 B → Type 0
Called step (means doing answer_of) answer d e = CalledAs step doing answer_of answer d e

-- the driver under the terminal made this call, with this answer
abbrev pub Performed : {B : Type 0} → (B → Access → B → Type 0) → Uart16550Tty B → Call → Answer → Uart16550Tty B →
    Type 0
Performed step s call answer t = Called step (meaning call) answer (inner_of s) (inner_of t)
