-- Calls of the driver that are no calls of a run: each does what a call of a run does, and stands for it.
use Rattle.std.specs.Prelude.{◌≡◌, ◌≤◌, ◌⊎◌, ◌+◌, ◌-◌, ◌^◌, ℕ, zero, suc, Bool, true, false, List, [], ◌∷◌, ◌++◌}
use Rattle.std.specs.Prelude.{Result, Ok, Err, Option, Some, None, length, map, take, drop, min}
use Rattle.std.specs.List.{sum}
use Rattle.uart_spec.specs.Bits.{has}
use Rattle.uart_spec.specs.Config.{IsComputable}
use Rattle.uart_spec.specs.FifoSize.{characters}
use Rattle.uart_spec.specs.declared.config.Config.{Config}
use Rattle.uart_spec.specs.declared.errors.ByteReceiveError.{ByteReceiveError}
use Rattle.uart_spec.specs.declared.errors.FrameError.{FrameError}
use Rattle.uart_spec.specs.declared.errors.FrameError.TheVariants as frame_error
use Rattle.uart_spec.specs.declared.errors.InitError.{InitError}
use Rattle.uart_spec.specs.declared.errors.InitError.TheVariants as init_error
use Rattle.uart_spec.specs.declared.errors.InvalidDivisorError.{InvalidDivisorError}
use Rattle.uart_spec.specs.declared.errors.StalledError.{StalledError}
use Rattle.uart_spec.specs.declared.errors.Uart16550TtyError.{Uart16550TtyError}
use Rattle.uart_spec.specs.declared.errors.Uart16550TtyError.TheVariants as terminal_error
use Rattle.uart_spec.specs.declared.received.Received.{Received}
use Rattle.uart_spec.specs.declared.setup.FifoSize.{FifoSize}
use Rattle.uart_spec.specs.declared.setup.Setup.{Setup}
use Rattle.uart_16550.specs.Bursts.{SendsBurst}
use Rattle.uart_16550.specs.Checked.{IfComputable}
use Rattle.uart_16550.specs.Driver.{Did, Made, backend_of, fields}
use Rattle.uart_16550.specs.Expansion.{SendsText, expansion}
use Rattle.uart_16550.specs.Frame.{SetsFrame}
use Rattle.uart_16550.specs.Init.{Inits}
use Rattle.uart_16550.specs.Patience.{FlushesWhile, ReceivesWhile, SendsWhile}
use Rattle.uart_16550.specs.Receive.{TryReceiveWithErrors}
use Rattle.uart_16550.specs.Setup.{InitsWith, SetsFrameWhenIdle}
use Rattle.uart_16550.specs.Status.{ShowsGone}
use Rattle.uart_16550.specs.Transmit.{Sends}
use Rattle.uart_16550.specs.Tty.{Starts, TerminalMade, inner_of}
use Rattle.uart_16550.specs.declared.driver.Uart16550.{Uart16550}
use Rattle.uart_16550.specs.declared.patience.WaitError.{WaitError}
use Rattle.uart_call.specs.declared.call.Call.{Call}
use Rattle.uart_call.specs.declared.call.Call.TheVariants as call
use Rattle.uart_call.specs.declared.call.Answer.{Answer}
use Rattle.uart_call.specs.declared.call.Answer.TheVariants.{Count, Done, Flag, InitRefused, LoopbackRefused, NoData}
use Rattle.uart_call.specs.declared.call.Answer.TheVariants.{Register}
use Rattle.uart_call.specs.declared.call.TheConstants.{CALL_BYTES}
use Rattle.uart_calls.specs.Meaning.{exact_answer, frame_answer, frame_when_idle_answer, init_answer}
use Rattle.uart_calls.specs.Meaning.{with_errors_answer}
use Rattle.uart_chip.specs.Machine.{MachineState, MachineStep}
use Rattle.uart_run.specs.Progress.{IsUnchecked}
use Rattle.uart_run.specs.Ready.{BurstsFit, IsUnbroken, Ready}
use Rattle.uart_run.specs.Run.{State, CallStep, IsRun, machine_of}
use Rattle.uart_run.specs.ReceivedErrors.{under_terminal}
use Rattle.uart_run.specs.Wired.{IsWired}

-- a driver over the machine
abbrev pub Driver : Type 0
Driver = Uart16550 MachineState

-- a call of a run leads from the one driver to the other, with this answer
abbrev pub StandsFor : Driver → Call → Answer → Driver → Type 0
StandsFor d call answer e = CallStep (under_terminal d) call answer (under_terminal e)

-- ---- calls that send and receive

-- what was received, if anything was
abbrev pub found_in : Result Received ByteReceiveError → List Received
found_in (Ok received) = received ∷ []
found_in (Err e) = []

-- `try_receive_with_errors` stands for a `receive_with_errors` of one slot
abbrev pub ReceivesOne : Type 0
ReceivesOne =
    (d e : Driver) (result : Result Received ByteReceiveError) → Made MachineStep (TryReceiveWithErrors result) d e →
    StandsFor d (call.ReceiveWithErrors 1) (with_errors_answer (found_in result)) e

-- `send_gathered` stands for a `send_bytes` of its parts in one
abbrev pub SendsParts : Type 0
SendsParts =
    (d e : Driver) (bytes : List ℕ) (count : ℕ) → Made MachineStep (Sends bytes count) d e →
    StandsFor d (call.Send (record { items = bytes })) (Count count) e

-- `send_burst` stands for a `send_bytes` of as many of the bytes as the size has that it is given, if that is no larger
-- than the one that the driver takes the FIFOs for
abbrev pub SendsFront : Type 0
SendsFront =
    (d e : Driver) (size : FifoSize) (bytes : List ℕ) (count : ℕ) →
    -- the size is no larger than the one that the driver takes the FIFOs for
    characters size ≤ characters (fields d).size →
    Made MachineStep (SendsBurst size bytes count) d e →
    StandsFor d (call.Send (record { items = take (characters size) bytes })) (Count count) e

-- the driver, told that the FIFOs have this size
abbrev pub sized : FifoSize → Driver → Driver
sized size d = record d { fifo_size = size }

-- whatever size it is given, `send_burst` stands for a `send_bytes` of a driver that takes the FIFOs for that size
abbrev pub SendsSized : Type 0
SendsSized =
    (d e : Driver) (size : FifoSize) (bytes : List ℕ) (count : ℕ) → Made MachineStep (SendsBurst size bytes count) d e →
    StandsFor (sized size d) (call.Send (record { items = bytes })) (Count count) (sized size e)

-- the terminal's `write_raw_text` stands for a `write_text`, for bytes that need not be UTF-8
abbrev pub WritesBytes : Type 0
WritesBytes =
    (s t : State) (text spare : List ℕ) (result : Result (Unit {0}) StalledError) →
    -- the text is no longer than a call as data may have
    length text ≤ CALL_BYTES →
    TerminalMade MachineStep (SendsText text result) s t →
    CallStep s (call.Text (record { bytes = text; spare = spare })) (exact_answer result) t

-- ---- calls that ask their caller

-- Such a call makes the accesses of other calls, one after another, and asks after each that was in vain. So what holds
-- of a run holds of it, whatever its caller says and whenever.

-- calls of a run lead from the one driver to the other, with these answers
abbrev pub StandsForRun : Driver → List Call → List Answer → Driver → Type 0
StandsForRun d calls answers e = IsRun (under_terminal d) calls answers (under_terminal e)

-- a `send_bytes` of all bytes, and then one of those that are left, and so on, if they send so many
abbrev pub sends_of : List ℕ → (counts : List ℕ) → List Call
sends_of bytes [] = []
sends_of bytes (count ∷ counts) = call.Send (record { items = bytes }) ∷ sends_of (drop count bytes) counts

-- how many of these sent none
abbrev pub in_vain : (counts : List ℕ) → ℕ
in_vain [] = 0
in_vain (zero ∷ counts) = suc (in_vain counts)
in_vain (suc n ∷ counts) = in_vain counts

-- how many of so many bytes were sent
abbrev pub sent_by : Result (Unit {0}) WaitError → ℕ → ℕ
sent_by (Ok x) count = count
sent_by (Err e) count = e.done

-- `send_bytes_while` stands for `send_bytes` in turn, each of what is left; and its caller is asked after each that
-- sent none
abbrev pub SendsInTurn : Type 0
SendsInTurn =
    (d e : Driver) (bytes : List ℕ) (said : List Bool) (result : Result (Unit {0}) WaitError) →
    Made MachineStep (SendsWhile bytes said result) d e →
    (counts : List ℕ) × StandsForRun d (sends_of bytes counts) (map Count counts) e
    × (sum counts ≡ sent_by result (length bytes)) × (in_vain counts ≡ length said)

-- the answer of a `try_receive_byte` that found this byte, or none
abbrev pub answer_of : Option ℕ → Answer
answer_of (Some byte) = Register byte
answer_of None = NoData

-- the bytes that were found
abbrev pub found_of : List (Option ℕ) → List ℕ
found_of [] = []
found_of (Some byte ∷ others) = byte ∷ found_of others
found_of (None ∷ others) = found_of others

-- `receive_bytes_while` stands for one `try_receive_byte` after another; and its caller is asked after each that found
-- none
abbrev pub ReceivesInTurn : Type 0
ReceivesInTurn =
    (d e : Driver) (n : ℕ) (bytes : List ℕ) (said : List Bool) (result : Result (Unit {0}) WaitError) →
    Made MachineStep (ReceivesWhile n bytes said result) d e →
    (tries : List (Option ℕ)) × StandsForRun d (map (λ one. call.TryReceive) tries) (map answer_of tries) e
    × (found_of tries ≡ bytes) × (length tries ≡ length bytes + length said)

-- what each `is_idle` shows: that the transmitter is not empty, before each question, and in the end that it is, unless
-- the wait was in vain
abbrev pub looks_of : Result (Unit {0}) WaitError → (said : List Bool) → List Bool
looks_of (Ok x) said = map (λ (answer : Bool). false) said ++ true ∷ []
looks_of (Err e) said = map (λ (answer : Bool). false) said

-- `flush_while` stands for one `is_idle` after another; and its caller is asked after each that is false
abbrev pub LooksInTurn : Type 0
LooksInTurn =
    (d e : Driver) (said : List Bool) (result : Result (Unit {0}) WaitError) →
    Made MachineStep (FlushesWhile said result) d e →
    StandsForRun d (map (λ shown. call.IsIdle) (looks_of result said)) (map Flag (looks_of result said)) e

-- ---- texts of any length

-- a text as data has at most as many bytes as a call may have. One of any length is sent byte by byte

-- a `send_bytes` of one byte, and whether it was sent
abbrev pub sends_one : ℕ × Bool → Call
sends_one one = call.Send (record { items = one.0 ∷ [] })

abbrev pub counts_one : ℕ × Bool → Answer
counts_one (byte, true) = Count 1
counts_one (byte, false) = Count 0

-- the bytes that were sent
abbrev pub went_of : List (ℕ × Bool) → List ℕ
went_of [] = []
went_of ((byte, true) ∷ others) = byte ∷ went_of others
went_of ((byte, false) ∷ others) = went_of others

-- all of the text's expansion was sent; or a beginning of it, as long as the error reports, at most 2 ^ 64 - 1
abbrev pub IsTextSent : List ℕ → Result (Unit {0}) StalledError → List ℕ → Type 0
IsTextSent text (Ok x) went = went ≡ expansion text
IsTextSent text (Err e) went =
    (sent : ℕ) × (e.done ≡ min sent (2 ^ 64 - 1)) × (went ≡ take sent (expansion text))

-- `write_text` and `write_raw_text` of any text stand for `send_bytes` in turn, each of one byte
abbrev pub WritesInTurn : Type 0
WritesInTurn =
    (s t : State) (text : List ℕ) (result : Result (Unit {0}) StalledError) →
    TerminalMade MachineStep (SendsText text result) s t →
    (tries : List (ℕ × Bool)) × IsRun s (map sends_one tries) (map counts_one tries) t
    × IsTextSent text result (went_of tries)

-- ---- a call that reads

-- `is_gone` stands for a read of MCR, and returns whether it showed all bits set
abbrev pub ReadsControl : Type 0
ReadsControl =
    (d e : Driver) (gone : Bool) → Made MachineStep (ShowsGone gone) d e →
    (value : ℕ) × (has value 255 ≡ gone) × StandsFor d call.Mcr (Register value) e

-- ---- calls that take each configuration

-- nothing was done
pub record IsAsBefore (d e : Driver) : Type 0 where
  pub machine : backend_of e ≡ backend_of d
  pub driver : fields e ≡ fields d

-- for a configuration that is computable it stands for this call, and for another one for none: nothing is done
abbrev pub StandsIf : Config → Driver → Call → Answer → Driver → Type 0
StandsIf config d call answer e = (IsComputable config × StandsFor d call answer e) ⊎ IsAsBefore d e

abbrev pub ChecksInit : Type 0
ChecksInit =
    (d e : Driver) (config : Config) (result : Result (Unit {0}) InitError) →
    Did MachineStep
    (IfComputable config (λ cause. Err (init_error.InvalidBaudRate cause)) result (Inits config result)) d e →
    StandsIf config d (call.Init config) (init_answer result) e

abbrev pub ChecksInitWith : Type 0
ChecksInitWith =
    (d e : Driver) (config : Config) (setup : Setup) (result : Result (Unit {0}) InitError) →
    Did MachineStep
    (IfComputable config (λ cause. Err (init_error.InvalidBaudRate cause)) result (InitsWith setup config result)) d e →
    StandsIf config d (call.InitWith config setup) (init_answer result) e

abbrev pub ChecksFrame : Type 0
ChecksFrame =
    (d e : Driver) (config : Config) (result : Result (Unit {0}) InvalidDivisorError) →
    Did MachineStep (IfComputable config (λ cause. Err cause) result (SetsFrame config result)) d e →
    StandsIf config d (call.SetFrame config) (frame_answer result) e

abbrev pub ChecksFrameWhenIdle : Type 0
ChecksFrameWhenIdle =
    (d e : Driver) (config : Config) (result : Result (Unit {0}) FrameError) →
    Did MachineStep
    (IfComputable config (λ cause. Err (frame_error.InvalidBaudRate cause)) result
    (SetsFrameWhenIdle config result)) d e →
    StandsIf config d (call.SetFrameWhenIdle config) (frame_when_idle_answer result) e

-- ---- how a terminal is made

-- the calls that are made, and their answers: up to the first refusal
abbrev pub starts_of : Config → Result State Uart16550TtyError → List Call
starts_of config (Err (terminal_error.InitError e)) = call.Init config ∷ []
starts_of config other = call.Init config ∷ call.TestLoopback ∷ []

abbrev pub started_of : Result State Uart16550TtyError → List Answer
started_of (Ok terminal) = Done ∷ Done ∷ []
started_of (Err (terminal_error.InitError e)) = InitRefused e ∷ []
started_of (Err (terminal_error.TestError e)) = Done ∷ LoopbackRefused e ∷ []
started_of (Err (terminal_error.AddressError e)) = []

-- a terminal is made by an `init` and then a loopback test
abbrev pub StartsTerminal : Type 0
StartsTerminal =
    (d e : Driver) (config : Config) (result : Result State Uart16550TtyError) →
    Did MachineStep (Starts config result) d e →
    StandsForRun d (starts_of config result) (started_of result) e

-- ---- calls that end a session

-- Two calls stand for none: one fills the FIFOs on purpose, the other changes their size. They end a session, as a
-- loopback test does. What they come to is said of them by themselves.

-- the next session may begin behind such a call, if the driver takes the FIFOs for no larger than they are; there is a
-- break only if there was one; a wired machine stays wired; and the driver takes the FIFOs for what it took them for,
-- checks CTS only if it did, and the chip has automatic flow control exactly if it had it
pub record EndsSession (s t : State) : Type 0 where
  -- the next session may begin, if the driver takes the FIFOs for no larger than they are
  pub ready : BurstsFit t → Ready t
  pub unbroken : IsUnbroken s → IsUnbroken t
  pub wired : IsWired s → IsWired t
  pub takes : (fields (inner_of t)).size ≡ (fields (inner_of s)).size
  pub checks : IsUnchecked s → IsUnchecked t
  pub flow : (machine_of t).chip.auto_flow ≡ (machine_of s).chip.auto_flow
