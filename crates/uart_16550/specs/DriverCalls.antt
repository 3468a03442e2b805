-- The calls of a driver: the possible outcomes of each, and what it did for an outcome, as its contract says.
use Rattle.std.specs.Prelude.{ℕ, Bool, List, [], ◌∷◌, ◌++◌, Option, Result, option_to_list}
use Rattle.std.specs.declared.fmt.Error.{Error}
use Rattle.uart_spec.specs.Config.{IsComputable}
use Rattle.uart_spec.specs.declared.config.Config.{Config}
use Rattle.uart_spec.specs.declared.errors.AttachError.{AttachError}
use Rattle.uart_spec.specs.declared.errors.ByteReceiveError.{ByteReceiveError}
use Rattle.uart_spec.specs.declared.errors.ByteSendError.{ByteSendError}
use Rattle.uart_spec.specs.declared.errors.ConfigurationError.{ConfigurationError}
use Rattle.uart_spec.specs.declared.errors.FifoSizeError.{FifoSizeError}
use Rattle.uart_spec.specs.declared.errors.FifosOffError.{FifosOffError}
use Rattle.uart_spec.specs.declared.errors.FrameError.{FrameError}
use Rattle.uart_spec.specs.declared.errors.InitError.{InitError}
use Rattle.uart_spec.specs.declared.errors.InvalidDivisorError.{InvalidDivisorError}
use Rattle.uart_spec.specs.declared.errors.LoopbackError.{LoopbackError}
use Rattle.uart_spec.specs.declared.errors.RemoteReadyToReceiveError.{RemoteReadyToReceiveError}
use Rattle.uart_spec.specs.declared.errors.StalledError.{StalledError}
use Rattle.uart_spec.specs.declared.errors.Uart16550TtyError.{Uart16550TtyError}
use Rattle.uart_spec.specs.declared.registers.fifo_trigger_level.FifoTriggerLevel.{FifoTriggerLevel}
use Rattle.uart_spec.specs.declared.setup.FifoAction.{FifoAction}
use Rattle.uart_spec.specs.declared.setup.FifoSize.{FifoSize}
use Rattle.uart_spec.specs.declared.setup.Setup.{Setup}
use Rattle.uart_spec.specs.declared.access.Access.TheVariants.{Read}
use Rattle.uart_16550.specs.Grammar.{Language, Only}
use Rattle.uart_16550.specs.Driver.{Doing, Sets, with_fifo_size, with_limit}
use Rattle.uart_16550.specs.Receive.{ReadyToReceive, TryReceive, TryReceiveWithErrors}
use Rattle.uart_spec.specs.declared.received.Received.{Received}
use Rattle.uart_16550.specs.Transmit.{ReadyToSend, Sends, TrySends, SendsExact}
use Rattle.uart_16550.specs.Bursts.{SendsBurst}
use Rattle.uart_16550.specs.Configured.{ChecksConfigured}
use Rattle.uart_16550.specs.Status.{TakesLsr, TakesMsr, Connects, ReadsDivisor, Enables, Disables, Dumps}
use Rattle.uart_16550.specs.Status.{Retriggers, ShowsGone}
use Rattle.uart_16550.specs.Init.{ChecksPresence, Inits}
use Rattle.uart_16550.specs.Frame.{SetsFrame, ShowsIdle, SetsBreak, SetsControl, SetsOutput}
use Rattle.uart_16550.specs.Attach.{Attaches}
use Rattle.uart_16550.specs.Setup.{SetsTrigger, SetsFrameWhenIdle, InitsWith, Quiesces, Restores}
use Rattle.uart_16550.specs.Loopback.{TestsLoopback}
use Rattle.uart_16550.specs.Sizing.{FindsFifoSize, Enables64}
use Rattle.uart_16550.specs.Io.{Writes, Flushes, AnswersRead, AnswersWrite}
use Rattle.uart_16550.specs.Expansion.{SendsText, SendsStr}
use Rattle.uart_16550.specs.Tty.{Starts}
use Rattle.uart_16550.specs.Choice.{ReceivesInto, ReceivesWithErrorsInto, ReceivesExactInto, ReadsInto}
use Rattle.uart_16550.specs.Choice.{AsAnswered, ReceivesWhileInto}
use Rattle.uart_16550.specs.Patience.{SendsWhile, FlushesWhile}
use Rattle.uart_16550.specs.declared.patience.WaitError.{WaitError}
use Rattle.uart_spec.specs.declared.dump.ConfigRegisterDump.{ConfigRegisterDump}

-- The calls are in a table, because a clause cannot speak of every language. `init` is in it with a computable
-- configuration: at frequency 0 and baud rate 0 every divisor would solve the equation, so the call would have a
-- choice.

-- the calls that save what their reads clear, and change nothing else in the driver's fields
-- -- `read_register` is `ier`, `isr`, `lcr`, `mcr`, `spr` and `peek_modem`; `set_output` is `set_rts` and `set_dtr`
pub data SavingCall : Type 0 where
  read_register : (register : ℕ) → SavingCall
  check_connected dll_dlm check_present is_idle is_gone retrigger_interrupts : SavingCall
  check_configured : (config : Config) (outputs : ℕ) → SavingCall
  set_break : (on : Bool) → SavingCall
  set_modem_control : (bits : ℕ) → SavingCall
  set_output : (output : ℕ) (on : Bool) → SavingCall
  ready_to_receive try_receive_byte try_receive_with_errors ready_to_send : SavingCall
  receive_with_errors : (slots : List Received) → SavingCall
  receive_bytes receive_bytes_exact : (slots : List ℕ) → SavingCall
  try_send_byte : (byte : ℕ) → SavingCall
  send_bytes send_bytes_exact : (bytes : List ℕ) → SavingCall
  send_bytes_while : (bytes : List ℕ) (answers : List Bool) → SavingCall
  receive_bytes_while : (slots : List ℕ) (answers : List Bool) → SavingCall
  flush_while : (answers : List Bool) → SavingCall
  send_burst : (size : FifoSize) (bytes : List ℕ) → SavingCall
  send_gathered : (urgent : Option ℕ) (first second : List ℕ) → SavingCall
  read : (slots : List ℕ) → SavingCall
  write : (bytes : List ℕ) → SavingCall
  flush read_ready write_ready : SavingCall
  write_text write_str : (text : List ℕ) → SavingCall

-- the outcomes that a call which saves what it saw may have: what it returns and, for a call that fills slots, what is
-- in them after it
abbrev pub SavingOutcome : SavingCall → Type 0
SavingOutcome (read_register register) = ℕ
SavingOutcome check_connected = Result (Unit {0}) RemoteReadyToReceiveError
SavingOutcome dll_dlm = ℕ × ℕ
SavingOutcome check_present = Bool
SavingOutcome is_idle = Bool
SavingOutcome is_gone = Bool
SavingOutcome (check_configured config outputs) = Result (Unit {0}) ConfigurationError
SavingOutcome (set_break on) = Unit {0}
SavingOutcome (set_modem_control bits) = Unit {0}
SavingOutcome (set_output output on) = Unit {0}
SavingOutcome retrigger_interrupts = Unit {0}
SavingOutcome ready_to_receive = Result (Unit {0}) ByteReceiveError
SavingOutcome try_receive_byte = Result ℕ ByteReceiveError
SavingOutcome try_receive_with_errors = Result Received ByteReceiveError
SavingOutcome (receive_with_errors slots) = ℕ × List Received
SavingOutcome ready_to_send = Result (Unit {0}) ByteSendError
SavingOutcome (receive_bytes slots) = ℕ × List ℕ
SavingOutcome (receive_bytes_exact slots) = Result (Unit {0}) StalledError × List ℕ
SavingOutcome (try_send_byte byte) = Result (Unit {0}) ByteSendError
SavingOutcome (send_bytes bytes) = ℕ
SavingOutcome (send_burst size bytes) = ℕ
SavingOutcome (send_gathered urgent first second) = ℕ
SavingOutcome (send_bytes_exact bytes) = Result (Unit {0}) StalledError
SavingOutcome (send_bytes_while bytes answers) = Result (Unit {0}) WaitError
SavingOutcome (receive_bytes_while slots answers) = Result (Unit {0}) WaitError × List ℕ
SavingOutcome (flush_while answers) = Result (Unit {0}) WaitError
SavingOutcome (read slots) = Result ℕ StalledError × List ℕ
SavingOutcome (write bytes) = Result ℕ StalledError
SavingOutcome flush = Result (Unit {0}) StalledError
SavingOutcome read_ready = Result Bool StalledError
SavingOutcome write_ready = Result Bool StalledError
SavingOutcome (write_text text) = Result (Unit {0}) StalledError
SavingOutcome (write_str text) = Result (Unit {0}) Error

-- the lists of accesses that it may have made for this outcome
abbrev pub SavingLists : (call : SavingCall) → SavingOutcome call → Language
SavingLists (read_register register) value = Only (Read register value ∷ [])
SavingLists check_connected result = Connects result
SavingLists dll_dlm divisor = ReadsDivisor divisor.0 divisor.1
SavingLists check_present present = ChecksPresence present
SavingLists is_idle idle = ShowsIdle idle
SavingLists is_gone gone = ShowsGone gone
SavingLists (check_configured config outputs) result = ChecksConfigured config outputs result
SavingLists (set_break on) result = SetsBreak on
SavingLists (set_modem_control bits) result = SetsControl bits
SavingLists (set_output output on) result = SetsOutput output on
SavingLists retrigger_interrupts result = Retriggers
SavingLists ready_to_receive result = ReadyToReceive result
SavingLists try_receive_byte result = TryReceive result
SavingLists try_receive_with_errors result = TryReceiveWithErrors result
SavingLists (receive_with_errors slots) end = ReceivesWithErrorsInto slots end.1 end.0
SavingLists ready_to_send result = ReadyToSend result
SavingLists (receive_bytes slots) end = ReceivesInto slots end.1 end.0
SavingLists (receive_bytes_exact slots) end = ReceivesExactInto slots end.1 end.0
SavingLists (try_send_byte byte) result = TrySends byte result
SavingLists (send_bytes bytes) count = Sends bytes count
SavingLists (send_burst size bytes) count = SendsBurst size bytes count
SavingLists (send_gathered urgent first second) count = Sends (option_to_list urgent ++ (first ++ second)) count
SavingLists (send_bytes_exact bytes) result = SendsExact bytes result
SavingLists (send_bytes_while bytes answers) result = AsAnswered answers (λ said. SendsWhile bytes said result)
SavingLists (receive_bytes_while slots answers) end =
    AsAnswered answers (λ said. ReceivesWhileInto slots end.1 said end.0)
SavingLists (flush_while answers) result = AsAnswered answers (λ said. FlushesWhile said result)
SavingLists (read slots) end = ReadsInto slots end.1 end.0
SavingLists (write bytes) result = Writes bytes result
SavingLists flush result = Flushes result
SavingLists read_ready result = AnswersRead result
SavingLists write_ready result = AnswersWrite result
SavingLists (write_text text) result = SendsText text result
SavingLists (write_str text) result = SendsStr text result

-- the other calls; those that take a configuration, and `start` of a terminal, with one that is computable
pub data ChangingCall : Type 0 where
  lsr msr config_register_dump : ChangingCall
  enable_interrupts disable_interrupts : (bits : ℕ) → ChangingCall
  set_fifo_size : (size : FifoSize) → ChangingCall
  set_spin_limit : (limit : ℕ) → ChangingCall
  init start set_frame set_frame_when_idle : (config : Config) → IsComputable config → ChangingCall
  init_with : (setup : Setup) (config : Config) → IsComputable config → ChangingCall
  set_trigger_level : (level : FifoTriggerLevel) → ChangingCall
  quiesce : (outputs : ℕ) (fifos : FifoAction) → ChangingCall
  restore : (dump : ConfigRegisterDump) → ChangingCall
  test_loopback find_fifo_size enable_64_byte_fifos attach : ChangingCall

-- the outcomes that a call which changes fields may have
abbrev pub ChangingOutcome : ChangingCall → Type 0
ChangingOutcome lsr = ℕ
ChangingOutcome msr = ℕ
ChangingOutcome config_register_dump = ConfigRegisterDump
ChangingOutcome (enable_interrupts bits) = Unit {0}
ChangingOutcome (disable_interrupts bits) = Unit {0}
ChangingOutcome (set_fifo_size size) = Unit {0}
ChangingOutcome (set_spin_limit limit) = Unit {0}
ChangingOutcome (init config computable) = Result (Unit {0}) InitError
ChangingOutcome (start config computable) = Result (Unit {0}) Uart16550TtyError
ChangingOutcome (set_frame config computable) = Result (Unit {0}) InvalidDivisorError
ChangingOutcome (set_frame_when_idle config computable) = Result (Unit {0}) FrameError
ChangingOutcome (init_with setup config computable) = Result (Unit {0}) InitError
ChangingOutcome (set_trigger_level level) = Result (Unit {0}) FifosOffError
ChangingOutcome (quiesce outputs fifos) = Unit {0}
ChangingOutcome (restore dump) = Unit {0}
ChangingOutcome attach = Result (ℕ × ℕ) AttachError
ChangingOutcome test_loopback = Result (Unit {0}) LoopbackError
ChangingOutcome find_fifo_size = Result FifoSize FifoSizeError
ChangingOutcome enable_64_byte_fifos = Result Bool FifoSizeError

-- what it did for this outcome
abbrev pub ChangingDoing : (call : ChangingCall) → ChangingOutcome call → Doing
ChangingDoing lsr status = TakesLsr status
ChangingDoing msr status = TakesMsr status
ChangingDoing config_register_dump dump = Dumps dump
ChangingDoing (enable_interrupts bits) result = Enables bits
ChangingDoing (disable_interrupts bits) result = Disables bits
ChangingDoing (set_fifo_size size) result = Sets (with_fifo_size size)
ChangingDoing (set_spin_limit limit) result = Sets (with_limit limit)
ChangingDoing (init config computable) result = Inits config result
ChangingDoing (start config computable) result = Starts config result
ChangingDoing (set_frame config computable) result = SetsFrame config result
ChangingDoing (set_frame_when_idle config computable) result = SetsFrameWhenIdle config result
ChangingDoing (init_with setup config computable) result = InitsWith setup config result
ChangingDoing (set_trigger_level level) result = SetsTrigger level result
ChangingDoing (quiesce outputs fifos) result = Quiesces outputs fifos
ChangingDoing (restore dump) result = Restores dump
ChangingDoing attach result = Attaches result
ChangingDoing test_loopback result = TestsLoopback result
ChangingDoing find_fifo_size result = FindsFifoSize result
ChangingDoing enable_64_byte_fifos result = Enables64 result
