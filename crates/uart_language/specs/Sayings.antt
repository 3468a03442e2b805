-- The meaning of each line of a script.
use Rattle.std.specs.Prelude.{◌≡◌, ℕ, Bool, true, List, [], ◌∷◌, Option, Some, None, Ok, codes, ◌||◌}
use Rattle.arrayvec.specs.ArrayVec.{ArrayVec}
use Rattle.arrayvec.specs.ArrayString.{ArrayString}
use Rattle.uart_spec.specs.declared.config.Config.{Config}
use Rattle.uart_spec.specs.declared.config.TheConstants.Config.{DEFAULT}
use Rattle.uart_spec.specs.declared.config.BaudRate.{BaudRate}
use Rattle.uart_spec.specs.declared.registers.frame.WordLength.{WordLength}
use Rattle.uart_spec.specs.declared.registers.fifo_trigger_level.FifoTriggerLevel.{FifoTriggerLevel}
use Rattle.uart_spec.specs.declared.registers.interrupt_enable.IER.{IER}
use Rattle.uart_spec.specs.declared.registers.modem_control.MCR.{MCR}
use Rattle.uart_spec.specs.declared.dump.ConfigRegisterDump.{ConfigRegisterDump}
use Rattle.uart_spec.specs.declared.setup.FifoAction.{FifoAction}
use Rattle.uart_spec.specs.declared.setup.FifoSize.{FifoSize}
use Rattle.uart_spec.specs.declared.setup.Setup.{Setup}
use Rattle.uart_spec.specs.declared.setup.TransmitterWait.{TransmitterWait}
use Rattle.uart_events.specs.declared.event.Event.{Event}
use Rattle.uart_events.specs.declared.event.Event.TheVariants as event
use Rattle.uart_call.specs.declared.call.Call.{Call}
use Rattle.uart_call.specs.declared.call.Call.TheVariants as call
use Rattle.uart_language.specs.declared.words.Place.{Place}
use Rattle.uart_language.specs.declared.words.Word.{Word}
use Rattle.uart_language.specs.declared.words.Word.TheVariants as word
use Rattle.uart_language.specs.Words.{name_of, is_second, is_behind_limit}
use Rattle.uart_language.specs.Fields.{count_in, limit_in, ticks_in, byte_in, lines_in, bytes_in, text_in, errors_in}
use Rattle.uart_language.specs.Fields.{level_in, rate_in, cts_in, interrupts_in, word_length_in, check_in, wait_in}
use Rattle.uart_language.specs.Fields.{outputs_in, trigger_in, switch_in, fifos_in, dump_in, size_in}

-- what one line adds to a script: nothing, the driver's limit, the size that it takes the FIFOs for, an event, a call,
-- or a mark, which is an event and the call `Next`
pub data Saying : Type 0 where
  Nothing : Saying
  Limit : ℕ → Saying
  Size : FifoSize → Saying
  Happens : Event → Saying
  Calls : Call → Saying
  Marks : Saying

-- the events, and the calls, in what a line says
abbrev pub events_said : Saying → List Event
events_said (Happens e) = e ∷ []
events_said Marks = event.Mark ∷ []
events_said other = []

abbrev pub calls_said : Saying → List Call
calls_said (Calls c) = c ∷ []
calls_said Marks = call.Next ∷ []
calls_said other = []

-- a configuration with the fields of an `init` line, and the rest as in the default one
abbrev pub configured : Option FifoTriggerLevel → BaudRate → Bool → IER → WordLength → Config
configured level rate cts interrupts word_length = record DEFAULT {
  interrupts = interrupts;
  fifo_trigger_level = level;
  baud_rate = rate;
  data_bits = word_length;
  check_cts_before_sending = cts;
}

-- a configuration for a change of the frame: the fields of the line, and the rest as in the default one
abbrev pub framed : BaudRate → WordLength → Config
framed rate word_length = record DEFAULT { baud_rate = rate; data_bits = word_length }

-- a setup with the last fields of an `init-with` line
abbrev pub arranged : Bool → TransmitterWait → MCR → Setup
arranged checks wait outputs = record { checks_presence = checks; wait = wait; outputs = outputs }

-- bytes as a call holds them
abbrev pub array_of : List ℕ → ArrayVec ℕ
array_of bytes = record { items = bytes }

-- a text of these bytes; nothing is said about the room that it does not use
abbrev pub text_of : List ℕ → ArrayString
text_of bytes = record { bytes = bytes; spare = [] }

-- a call without the room that its text does not use
abbrev pub plain : Call → Call
plain (call.Text text) = call.Text (text_of text.bytes)
plain c = c

-- the call of a word without fields
abbrev pub bare_call : Word → Option Call
bare_call word.Loopback = Some call.TestLoopback
bare_call word.Present = Some call.CheckPresent
bare_call word.Connected = Some call.CheckConnected
bare_call word.ReadyReceive = Some call.ReadyToReceive
bare_call word.ReadySend = Some call.ReadyToSend
bare_call word.TryReceive = Some call.TryReceive
bare_call word.Flush = Some call.Flush
bare_call word.ReadReady = Some call.ReadReady
bare_call word.WriteReady = Some call.WriteReady
bare_call word.Ier = Some call.Ier
bare_call word.Isr = Some call.Isr
bare_call word.Lcr = Some call.Lcr
bare_call word.Mcr = Some call.Mcr
bare_call word.Lsr = Some call.Lsr
bare_call word.Msr = Some call.Msr
bare_call word.Spr = Some call.Spr
bare_call word.DllDlm = Some call.DllDlm
bare_call word.Fifo = Some call.FifoEnabled
bare_call word.Dump = Some call.Dump
bare_call word.Attach = Some call.Attach
bare_call word.PeekModem = Some call.PeekModem
bare_call word.IsIdle = Some call.IsIdle
bare_call word.RetriggerInterrupts = Some call.RetriggerInterrupts
bare_call other = None

-- what the words of a line after the first mean at its place, one case for each kind of line
pub data Means (place : Place) : List (List ℕ) → Saying → Type 0 where
  limit : {N : List ℕ} {n : ℕ} → is_second place ≡ true → limit_in N ≡ Ok n
      → Means place (codes "limit" ∷ N ∷ []) (Limit n)
  fifo_size : {SIZE : List ℕ} {size : FifoSize} → (is_second place || is_behind_limit place) ≡ true
      → size_in SIZE ≡ Ok size → Means place (codes "fifo-size" ∷ SIZE ∷ []) (Size size)
  tick : {N : List ℕ} {n : ℕ} → ticks_in N ≡ Ok n → Means place (codes "tick" ∷ N ∷ []) (Happens (event.Ticks n))
  arrive : {HH : List ℕ} {byte : ℕ} → byte_in HH ≡ Ok byte
      → Means place (codes "arrive" ∷ HH ∷ []) (Happens (event.Arrive byte 0))
  arrive_faulty : {HH E : List ℕ} {byte errors : ℕ} → byte_in HH ≡ Ok byte → errors_in E ≡ Ok errors
      → Means place (codes "arrive" ∷ HH ∷ E ∷ []) (Happens (event.Arrive byte errors))
  lines : {H : List ℕ} {lines : ℕ} → lines_in H ≡ Ok lines
      → Means place (codes "lines" ∷ H ∷ []) (Happens (event.Lines lines))
  access : Means place (codes "access" ∷ []) (Happens event.Access)
  next : Means place (codes "next" ∷ []) Marks
  init : {F BAUD C HH BITS : List ℕ} {level : Option FifoTriggerLevel} {rate : BaudRate} {cts : Bool} {interrupts : IER}
      {word_length : WordLength}
      → level_in F ≡ Ok level → rate_in BAUD ≡ Ok rate → cts_in C ≡ Ok cts → interrupts_in HH ≡ Ok interrupts
      → word_length_in BITS ≡ Ok word_length
      → Means place (codes "init" ∷ F ∷ BAUD ∷ C ∷ HH ∷ BITS ∷ [])
      (Calls (call.Init (configured level rate cts interrupts word_length)))
  init_with : {F BAUD C HH BITS P W OUT : List ℕ} {level : Option FifoTriggerLevel} {rate : BaudRate} {cts : Bool}
      {interrupts : IER} {word_length : WordLength} {checks : Bool} {wait : TransmitterWait} {outputs : MCR}
      → level_in F ≡ Ok level → rate_in BAUD ≡ Ok rate → cts_in C ≡ Ok cts → interrupts_in HH ≡ Ok interrupts
      → word_length_in BITS ≡ Ok word_length → check_in P ≡ Ok checks → wait_in W ≡ Ok wait
      → outputs_in OUT ≡ Ok outputs
      → Means place (codes "init-with" ∷ F ∷ BAUD ∷ C ∷ HH ∷ BITS ∷ P ∷ W ∷ OUT ∷ [])
      (Calls (call.InitWith (configured level rate cts interrupts word_length) (arranged checks wait outputs)))
  set_frame : {BAUD BITS : List ℕ} {rate : BaudRate} {word_length : WordLength}
      → rate_in BAUD ≡ Ok rate → word_length_in BITS ≡ Ok word_length
      → Means place (codes "set-frame" ∷ BAUD ∷ BITS ∷ []) (Calls (call.SetFrame (framed rate word_length)))
  set_frame_when_idle : {BAUD BITS : List ℕ} {rate : BaudRate} {word_length : WordLength}
      → rate_in BAUD ≡ Ok rate → word_length_in BITS ≡ Ok word_length
      → Means place (codes "set-frame-when-idle" ∷ BAUD ∷ BITS ∷ [])
      (Calls (call.SetFrameWhenIdle (framed rate word_length)))
  set_trigger_level : {F : List ℕ} {level : FifoTriggerLevel} → trigger_in F ≡ Ok level
      → Means place (codes "set-trigger-level" ∷ F ∷ []) (Calls (call.SetTriggerLevel level))
  set_break : {S : List ℕ} {on : Bool} → switch_in S ≡ Ok on
      → Means place (codes "set-break" ∷ S ∷ []) (Calls (call.SetBreak on))
  set_modem_control : {HH : List ℕ} {outputs : MCR} → outputs_in HH ≡ Ok outputs
      → Means place (codes "set-modem-control" ∷ HH ∷ []) (Calls (call.SetModemControl outputs))
  set_rts : {S : List ℕ} {on : Bool} → switch_in S ≡ Ok on
      → Means place (codes "set-rts" ∷ S ∷ []) (Calls (call.SetRts on))
  set_dtr : {S : List ℕ} {on : Bool} → switch_in S ≡ Ok on
      → Means place (codes "set-dtr" ∷ S ∷ []) (Calls (call.SetDtr on))
  quiesce : {HH A : List ℕ} {outputs : MCR} {fifos : FifoAction} → outputs_in HH ≡ Ok outputs → fifos_in A ≡ Ok fifos
      → Means place (codes "quiesce" ∷ HH ∷ A ∷ []) (Calls (call.Quiesce outputs fifos))
  restore : {HEX : List ℕ} {dump : ConfigRegisterDump} → dump_in HEX ≡ Ok dump
      → Means place (codes "restore" ∷ HEX ∷ []) (Calls (call.Restore dump))
  check_configured : {HH : List ℕ} {outputs : MCR} → outputs_in HH ≡ Ok outputs
      → Means place (codes "check-configured" ∷ HH ∷ []) (Calls (call.CheckConfigured outputs))
  bare : (w : Word) {c : Call} → bare_call w ≡ Some c → Means place (name_of w ∷ []) (Calls c)
  try_send : {HH : List ℕ} {byte : ℕ} → byte_in HH ≡ Ok byte
      → Means place (codes "try-send" ∷ HH ∷ []) (Calls (call.TrySend byte))
  enable : {HH : List ℕ} {interrupts : IER} → interrupts_in HH ≡ Ok interrupts
      → Means place (codes "enable" ∷ HH ∷ []) (Calls (call.Enable interrupts))
  disable : {HH : List ℕ} {interrupts : IER} → interrupts_in HH ≡ Ok interrupts
      → Means place (codes "disable" ∷ HH ∷ []) (Calls (call.Disable interrupts))
  receive : {N : List ℕ} {n : ℕ} → count_in N ≡ Ok n → Means place (codes "receive" ∷ N ∷ []) (Calls (call.Receive n))
  receive_exact : {N : List ℕ} {n : ℕ} → count_in N ≡ Ok n
      → Means place (codes "receive-exact" ∷ N ∷ []) (Calls (call.ReceiveExact n))
  receive_with_errors : {N : List ℕ} {n : ℕ} → count_in N ≡ Ok n
      → Means place (codes "receive-with-errors" ∷ N ∷ []) (Calls (call.ReceiveWithErrors n))
  read : {N : List ℕ} {n : ℕ} → count_in N ≡ Ok n → Means place (codes "read" ∷ N ∷ []) (Calls (call.Read n))
  send : {HEX bytes : List ℕ} → bytes_in HEX ≡ Ok bytes
      → Means place (codes "send" ∷ HEX ∷ []) (Calls (call.Send (array_of bytes)))
  send_exact : {HEX bytes : List ℕ} → bytes_in HEX ≡ Ok bytes
      → Means place (codes "send-exact" ∷ HEX ∷ []) (Calls (call.SendExact (array_of bytes)))
  write : {HEX bytes : List ℕ} → bytes_in HEX ≡ Ok bytes
      → Means place (codes "write" ∷ HEX ∷ []) (Calls (call.Write (array_of bytes)))
  text : {HEX bytes : List ℕ} → text_in HEX ≡ Ok bytes
      → Means place (codes "text" ∷ HEX ∷ []) (Calls (call.Text (text_of bytes)))
