-- What is printed.
use Rattle.std.specs.Prelude.{ℕ, Bool, ◌+◌, ◌*◌, ◌/◌, ◌%◌, true, false, List, [], ◌∷◌, ◌++◌, length, map, ◌==◌}
use Rattle.std.specs.Prelude.{codes, if◌then◌else◌}
use Rattle.std.specs.List.{flat_map}
use Rattle.std.specs.Char.{digit_char}
use Rattle.std.specs.Fmt.{decimal}
use Rattle.uart_spec.specs.declared.errors.AttachError.{AttachError}
use Rattle.uart_spec.specs.declared.errors.AttachError.TheVariants as attach
use Rattle.uart_spec.specs.declared.errors.ConfigurationError.{ConfigurationError}
use Rattle.uart_spec.specs.declared.errors.ConfigurationError.TheVariants as configuration
use Rattle.uart_spec.specs.declared.errors.FrameError.{FrameError}
use Rattle.uart_spec.specs.declared.errors.FrameError.TheVariants as frame
use Rattle.uart_spec.specs.declared.errors.InvalidDivisorError.{InvalidDivisorError}
use Rattle.uart_spec.specs.declared.errors.InvalidDivisorError.TheVariants as divisor
use Rattle.uart_spec.specs.declared.errors.InitError.{InitError}
use Rattle.uart_spec.specs.declared.errors.InitError.TheVariants as init
use Rattle.uart_spec.specs.declared.errors.ByteSendError.{ByteSendError}
use Rattle.uart_spec.specs.declared.errors.ByteSendError.TheVariants as send
use Rattle.uart_spec.specs.declared.errors.RemoteReadyToReceiveError.{RemoteReadyToReceiveError}
use Rattle.uart_spec.specs.declared.errors.RemoteReadyToReceiveError.TheVariants as remote
use Rattle.uart_spec.specs.declared.errors.LoopbackError.{LoopbackError}
use Rattle.uart_spec.specs.declared.errors.LoopbackError.TheVariants as loopback
use Rattle.uart_spec.specs.declared.dump.ConfigRegisterDump.{ConfigRegisterDump}
use Rattle.uart_events.specs.declared.event.ArrivalMark.{ArrivalMark}
use Rattle.uart_events.specs.declared.event.ArrivalMark.TheVariants as mark
use Rattle.uart_spec.specs.declared.received.Received.{Received}
use Rattle.uart_call.specs.declared.call.Answer.{Answer}
use Rattle.uart_call.specs.declared.call.Answer.TheVariants as answer
use Rattle.uart_language.specs.declared.cause.Cause.{Cause}
use Rattle.uart_language.specs.declared.cause.Cause.TheVariants.{BadByte, Misplaced, UnknownWord, WrongCount, BadWord}
use Rattle.uart_language.specs.declared.cause.Cause.TheVariants.{BadNumber, BadHex, TooManyBytes, BadText, TooLong}

-- what is wrong with a line, as it is printed
abbrev pub cause_text : Cause → List ℕ
cause_text BadByte = codes "bad byte"
cause_text Misplaced = codes "misplaced"
cause_text UnknownWord = codes "unknown word"
cause_text WrongCount = codes "wrong count"
cause_text BadWord = codes "bad word"
cause_text BadNumber = codes "bad number"
cause_text BadHex = codes "bad hex"
cause_text TooManyBytes = codes "too many bytes"
cause_text BadText = codes "bad text"
cause_text TooLong = codes "too long"

-- a byte in two lower-case hexadecimal digits
abbrev pub hex_byte : ℕ → List ℕ
hex_byte b = digit_char (b / 16) ∷ digit_char (b % 16) ∷ []

-- bytes in digits, or `-` if there are none
abbrev pub hex : List ℕ → List ℕ
hex bytes = if length bytes == 0 then codes "-" else flat_map hex_byte bytes

-- a byte and its errors after a slash; and some of them, or `-` if there are none
abbrev pub received_text : Received → List ℕ
received_text received = codes " " ++ hex_byte received.byte ++ codes "/" ++ hex_byte received.errors.0

abbrev pub all_received_text : List Received → List ℕ
all_received_text items = if length items == 0 then codes " -" else flat_map received_text items

-- ---- answers

-- refusals as they are printed
abbrev pub send_error_name : ByteSendError → List ℕ
send_error_name send.NoCapacity = codes "NoCapacity"
send_error_name send.RemoteNotClearToSend = codes "RemoteNotClearToSend"

abbrev pub remote_error_name : RemoteReadyToReceiveError → List ℕ
remote_error_name remote.NoRemoteConnectedNoDSR = codes "NoRemoteConnectedNoDSR"
remote_error_name remote.NoRemoteConnectedNoCD = codes "NoRemoteConnectedNoCD"
remote_error_name remote.RemoteNotClearToSend = codes "RemoteNotClearToSend"

abbrev pub divisor_error_text : InvalidDivisorError → List ℕ
divisor_error_text (divisor.NonInteger e) = codes "InvalidBaudRate NonInteger"
divisor_error_text (divisor.OutOfRange d) = codes "InvalidBaudRate OutOfRange " ++ decimal d

abbrev pub frame_error_text : FrameError → List ℕ
frame_error_text (frame.InvalidBaudRate e) = divisor_error_text e
frame_error_text frame.Stalled = codes "Stalled"

abbrev pub attach_error_name : AttachError → List ℕ
attach_error_name attach.DivisorLatchOpen = codes "DivisorLatchOpen"
attach_error_name attach.Loopback = codes "Loopback"
attach_error_name attach.NoDivisor = codes "NoDivisor"

-- what was expected, and what a register shows
abbrev pub difference_text : (expected shown : List ℕ) → List ℕ
difference_text expected shown = codes " expected " ++ expected ++ codes " shown " ++ shown

abbrev pub truth_text : Bool → List ℕ
truth_text true = codes "true"
truth_text false = codes "false"

abbrev pub configuration_error_text : ConfigurationError → List ℕ
configuration_error_text configuration.NoDivisor = codes "NoDivisor"
configuration_error_text (configuration.LineControl expected shown) =
    codes "LineControl" ++ difference_text (hex_byte expected.0) (hex_byte shown.0)
configuration_error_text (configuration.ModemControl expected shown) =
    codes "ModemControl" ++ difference_text (hex_byte expected.0) (hex_byte shown.0)
configuration_error_text (configuration.Interrupts expected shown) =
    codes "Interrupts" ++ difference_text (hex_byte expected.0) (hex_byte shown.0)
configuration_error_text (configuration.Divisor expected shown) =
    codes "Divisor" ++ difference_text (decimal expected) (decimal shown)
configuration_error_text (configuration.Fifos expected shown) =
    codes "Fifos" ++ difference_text (truth_text expected) (truth_text shown)

abbrev pub init_error_text : InitError → List ℕ
init_error_text init.DeviceNotPresent = codes "DeviceNotPresent"
init_error_text (init.InvalidBaudRate e) = divisor_error_text e
init_error_text init.Stalled = codes "Stalled"

abbrev pub loopback_error_text : LoopbackError → List ℕ
loopback_error_text (loopback.SendError e) = codes "SendError " ++ send_error_name e
loopback_error_text (loopback.UnexpectedLoopbackByte expected actual) =
    codes "UnexpectedLoopbackByte expected " ++ decimal expected ++ codes " actual " ++ decimal actual
loopback_error_text (loopback.UnexpectedLoopbackMsg expected actual) = codes "UnexpectedLoopbackMsg " ++ hex actual
loopback_error_text loopback.Stalled = codes "Stalled"

-- the two halves of a dump's line: registers by their names, and the divisor of the two latches
abbrev pub setup_text : ConfigRegisterDump → List ℕ
setup_text d =
    codes " ier " ++ hex_byte d.ier.0 ++ codes " isr " ++ hex_byte d.isr.0 ++ codes " lcr " ++ hex_byte d.lcr.0
    ++ codes " mcr " ++ hex_byte d.mcr.0

abbrev pub status_text : ConfigRegisterDump → List ℕ
status_text d =
    codes " lsr " ++ hex_byte d.lsr.0 ++ codes " msr " ++ hex_byte d.msr.0 ++ codes " spr " ++ hex_byte d.spr
    ++ codes " divisor " ++ decimal (256 * d.dlm + d.dll)

-- an answer as it is printed
abbrev pub answer_text : Answer → List ℕ
answer_text answer.Done = codes "ok"
answer_text (answer.Flag true) = codes "ok true"
answer_text (answer.Flag false) = codes "ok false"
answer_text (answer.Count n) = codes "ok " ++ decimal n
answer_text (answer.Bytes bytes) = codes "ok " ++ hex bytes.items
answer_text (answer.BytesWithErrors received) = codes "ok" ++ all_received_text received.items
answer_text (answer.Register byte) = codes "ok " ++ hex_byte byte
answer_text (answer.Latch low high) = codes "ok " ++ hex_byte low ++ codes " " ++ hex_byte high
answer_text (answer.Dump dump) = codes "ok" ++ setup_text dump ++ status_text dump
answer_text (answer.Stalled n) = codes "stalled " ++ decimal n
answer_text (answer.ReceiveStalled bytes) =
    codes "stalled " ++ decimal (length bytes.items) ++ codes " " ++ hex bytes.items
answer_text (answer.InitRefused e) = codes "err " ++ init_error_text e
answer_text (answer.FrameRefused e) = codes "err " ++ divisor_error_text e
answer_text (answer.FrameWhenIdleRefused e) = codes "err " ++ frame_error_text e
answer_text answer.FifosOff = codes "err FifosOffError"
answer_text (answer.AttachRefused e) = codes "err " ++ attach_error_name e
answer_text (answer.NotConfigured e) = codes "err " ++ configuration_error_text e
answer_text (answer.LoopbackRefused e) = codes "err " ++ loopback_error_text e
answer_text (answer.NotConnected e) = codes "err " ++ remote_error_name e
answer_text answer.NoData = codes "err ByteReceiveError"
answer_text (answer.NotSent e) = codes "err " ++ send_error_name e

-- a line, which ends with byte 0A
abbrev pub line : List ℕ → List ℕ
line text = text ++ 10 ∷ []

-- one line for each answer
abbrev pub answer_lines : List Answer → List ℕ
answer_lines answers = flat_map (λ a. line (answer_text a)) answers

-- ---- what is left

-- a mark as a letter
abbrev pub mark_letter : ArrivalMark → ℕ
mark_letter mark.Pending = 112
mark_letter mark.Waiting = 119
mark_letter mark.Read = 114
mark_letter mark.Discarded = 100
mark_letter mark.Dropped = 120

-- marks in letters, p w r d x, or `-` if there are none
abbrev pub marks_text : List ArrivalMark → List ℕ
marks_text marks = if length marks == 0 then codes "-" else map mark_letter marks

-- what was sent, what the transmitter holds, what is in the receiver, and what became of each arrival
abbrev pub final_lines : (wire held waiting : List ℕ) → List ArrivalMark → List ℕ
final_lines wire held waiting marks =
    line (codes "wire " ++ hex wire) ++ line (codes "held " ++ hex held) ++ line (codes "waiting " ++ hex waiting)
    ++ line (codes "marks " ++ marks_text marks)

-- everything that is printed for the answers and for what is left
abbrev pub printed : List Answer → (wire held waiting : List ℕ) → List ArrivalMark → List ℕ
printed answers wire held waiting marks = answer_lines answers ++ final_lines wire held waiting marks
