-- The findings at an entry of a recording, from the entries before it: a is what those show, as History defines it, and
-- s is the entry beside the set-up.
use Rattle.std.specs.Prelude.{ℕ, ◌+◌, ◌-◌, ◌*◌, ◌^◌, Bool, true, false, ◌==◌, ◌&&◌, ◌||◌, not, if◌then◌else◌, nat_lt}
use Rattle.std.specs.Prelude.{nat_le, min}
use Rattle.std.specs.Prelude.{Option, Some, None, is_some, List, [], ◌∷◌, bit_and}
use Rattle.uart_spec.specs.Bits.{has, has_any}
use Rattle.uart_spec.specs.Fields.{interrupt_code}
use Rattle.uart_spec.specs.declared.registers.fifo_control.TheConstants.FCR as fcr_bits
use Rattle.uart_spec.specs.declared.registers.interrupt_enable.IER.{IER}
use Rattle.uart_spec.specs.declared.registers.interrupt_enable.TheConstants.IER as ier_bits
use Rattle.uart_spec.specs.declared.registers.interrupt_status.ISR.{ISR}
use Rattle.uart_spec.specs.declared.registers.interrupt_status.TheConstants.ISR as isr_bits
use Rattle.uart_spec.specs.declared.registers.interrupt_type.InterruptType.{InterruptType}
use Rattle.uart_spec.specs.declared.registers.interrupt_type.InterruptType.TheVariants.{ReceptionTimeout}
use Rattle.uart_spec.specs.declared.registers.interrupt_type.InterruptType.TheVariants.{TransmitterHoldingRegisterEmpty}
use Rattle.uart_spec.specs.declared.registers.line_control.LCR.{LCR}
use Rattle.uart_spec.specs.declared.registers.line_control.TheConstants.LCR as lcr_bits
use Rattle.uart_spec.specs.declared.registers.line_status.LSR.{LSR}
use Rattle.uart_spec.specs.declared.registers.line_status.TheConstants.LSR as lsr_bits
use Rattle.uart_spec.specs.declared.registers.modem_control.MCR.{MCR}
use Rattle.uart_spec.specs.declared.registers.modem_control.TheConstants.MCR as mcr_bits
use Rattle.uart_spec.specs.declared.registers.modem_status.MSR.{MSR}
use Rattle.uart_spec.specs.declared.registers.modem_status.TheConstants.MSR as msr_bits
use Rattle.uart_judges.specs.Setups.{same_setup}
use Rattle.uart_judges.specs.Shows.{arrives, identified, identified_by, is_cut, receives, sends}
use Rattle.uart_judges.specs.Steps.{depth, enables, is_line_up, loops_back, step_empties}
use Rattle.uart_judges.specs.Unread.{front, second}
use Rattle.uart_judges.specs.History.{known, step_from}
use Rattle.uart_judges.specs.declared.audit.action.Action.{Action}
use Rattle.uart_judges.specs.declared.audit.action.Action.TheVariants.{Receives, Sends, ReadsDivisor, SetsDivisorLow}
use Rattle.uart_judges.specs.declared.audit.action.Action.TheVariants.{SetsDivisorHigh, IdentifiesInterrupt}
use Rattle.uart_judges.specs.declared.audit.action.Action.TheVariants.{ControlsFifo, ReadsLine, SetsLine}
use Rattle.uart_judges.specs.declared.audit.action.Action.TheVariants.{LooksAtLine, LooksAtModem}
use Rattle.uart_judges.specs.declared.audit.auditor.Auditor.{Auditor}
use Rattle.uart_judges.specs.declared.audit.auditor.Identified.{Identified}
use Rattle.uart_judges.specs.declared.audit.auditor.Latch.{Latch}
use Rattle.uart_judges.specs.declared.audit.auditor.Mark.{Mark}
use Rattle.uart_judges.specs.declared.audit.finding.Finding.{Finding}
use Rattle.uart_judges.specs.declared.audit.finding.Finding.TheVariants as found
use Rattle.uart_judges.specs.declared.audit.findings.TheConstants.{HANDLER_TIME}
use Rattle.uart_judges.specs.declared.audit.setup.Setup.{Setup}
use Rattle.uart_judges.specs.declared.audit.step.Step.{Step}
use Rattle.uart_judges.specs.declared.audit.unread.Arrived.{Arrived}
use Rattle.uart_judges.specs.declared.recording.entry.Entry.{Entry}

-- the finding where something holds
abbrev pub when : Bool → Finding → Option Finding
when holds finding = if holds then Some finding else None

-- ---- notes

-- the set-up at a transfer, where it differs from that of the transfer before
abbrev pub set_up : Option Setup → Setup → Option Finding
set_up None now = Some (found.SetUp now)
set_up (Some before) now = if same_setup before now then None else Some (found.SetUp now)

-- the set-up; the errors and changes that a read returned, and cleared
abbrev pub noted : Option Setup → Setup → Action → Option Finding
noted told now (Sends byte) = set_up told now
noted told now (Receives byte) = set_up told now
noted told now (LooksAtLine lsr) = when (has_any lsr.0 lsr_bits.LINE_ERRORS.0) (found.LineErrorsRead lsr)
noted told now (LooksAtModem msr) = when (has_any msr.0 msr_bits.CHANGES.0) (found.LineChangesRead msr)
noted told now _ = None

abbrev pub note : Auditor → Step → Option Finding
note a s = noted a.told s.setup s.action

-- ---- a byte that is sent

-- the bytes sent before since the transmitter had room
abbrev pub sent_before : Auditor → Step → ℕ
sent_before a s = if s.has_rested then 0 else a.sent

-- as many bytes as the transmitter has room for were sent before
abbrev pub room : Auditor → Step → Option Finding
room a s =
    if not (sends s.action) then None
    else when (nat_le (depth s.setup.has_fifo) (sent_before a s))
    (found.SentBeyondRoom (min (sent_before a s + 1) (2 ^ 64 - 1)) (depth s.setup.has_fifo))

-- LCR has SET_BREAK
abbrev pub is_in_break : Option LCR → Bool
is_in_break (Some lcr) = has lcr.0 lcr_bits.SET_BREAK.0
is_in_break None = false

-- the byte has more bits than a character
abbrev pub cuts : Option LCR → ℕ → Bool
cuts (Some lcr) byte = is_cut lcr byte
cuts None byte = false

-- loopback is on, a byte was sent in it before and not read back, and LSR showed an empty THR since
abbrev pub loops_again : Auditor → Setup → Bool
loops_again a now = loops_back now.modem && (a.has_looped && a.is_thr_empty)

-- a byte does not go out as it was given: in a break, in loopback, or since it is cut
abbrev pub given : Auditor → Setup → ℕ → Option Finding
given a now byte =
    if is_in_break now.line then Some (found.SentInBreak byte)
    else if loops_again a now then Some (found.SentInLoopback byte)
    else when (cuts now.line byte) (found.WordTooShort byte)

abbrev pub put_out : Auditor → Setup → Action → Option Finding
put_out a now (Sends byte) = given a now byte
put_out a now _ = None

abbrev pub output : Auditor → Step → Option Finding
output a s = put_out a s.setup s.action

-- MSR showed CTS clear since the byte before was sent
abbrev pub is_held : Option Bool → Bool
is_held (Some is_set) = not is_set
is_held None = false

-- no interrupt was seen; or that of modem status is enabled, which tells of CTS
abbrev pub asks_for_cts : Auditor → Setup → Bool
asks_for_cts a now = not a.has_signalled || enables ier_bits.MODEM_STATUS.0 now.interrupts

-- MSR showed CTS clear, it was set before, and the driver may ask for it
abbrev pub flow : Auditor → Step → Option Finding
flow a s =
    if not (sends s.action) then None
    else if loops_back s.setup.modem then None
    else when ((is_held a.cts && a.was_cts_set) && asks_for_cts a s.setup) found.SentWithoutCts

-- ---- interrupts that do not reach the processor

-- one of the four is enabled
abbrev pub enables_some : Option IER → Bool
enables_some (Some ier) = has_any ier.0 15
enables_some None = false

-- one of those that bytes cause is enabled: all but modem status
abbrev pub enables_bytes : Option IER → Bool
enables_bytes (Some ier) = has_any ier.0 7
enables_bytes None = false

-- IER is known, and all interrupts are off
abbrev pub are_off : Option IER → Bool
are_off interrupts = is_some interrupts && not (enables_some interrupts)

-- MCR has neither OUT2 nor loopback
abbrev pub is_cut_off : Option MCR → Bool
is_cut_off (Some mcr) = not (has_any mcr.0 24)
is_cut_off None = false

-- room was shown for a byte: LSR or ISR showed an empty THR, and nothing was sent since; or the byte fits beside those
-- that were sent since then, of which the first was judged
abbrev pub is_room_shown : Auditor → Step → Bool
is_room_shown a s =
    a.is_thr_empty || (nat_lt 0 (sent_before a s) && nat_lt (sent_before a s) (depth s.setup.has_fifo))

-- a byte is received, or one is sent for which no room was shown: an interrupt is to tell of it
abbrev pub relies : Auditor → Step → Bool
relies a s = if sends s.action then not (is_room_shown a s) else receives s.action

-- such a byte goes either way while such interrupts are enabled and OUT2 is off, and none was seen to reach the
-- processor
abbrev pub gate : Auditor → Step → Option Finding
gate a s =
    if a.has_signalled || is_line_up s then None
    else if not (relies a s) then None
    else when (enables_bytes s.setup.interrupts && is_cut_off s.setup.modem) found.InterruptsCutOff

-- ---- a read of DATA

-- no byte is known to wait: LSR showed none; or nothing was looked at since the read before. But a driver that has not
-- begun to work empties the receiver, and so does one that ISR told of a timeout
abbrev pub from_nothing : Bool → Option Bool → Option InterruptType → Option Finding
from_nothing again ready (Some ReceptionTimeout) = None
from_nothing again (Some false) _ = Some found.ReceivedFromEmpty
from_nothing again _ _ = when again found.ReceivedWithoutLook

abbrev pub taken_from_nothing : Auditor → Option Finding
taken_from_nothing a = if a.is_at_work then from_nothing a.has_taken a.ready a.data_interrupt else None

-- the recording has the byte that waits, with its errors. Else none is known to wait; or errors were not looked at
-- since the read before
abbrev pub taken_from : Option Arrived → Auditor → Option Finding
taken_from (Some oldest) a = None
taken_from None a = if a.waiting == 0 then taken_from_nothing a else when a.has_taken found.ErrorsNotRead

abbrev pub taken : Auditor → Step → Option Finding
taken a s = if not (receives s.action) then None else taken_from (front a.unread) a

-- ---- a character that arrived

-- the character behind the oldest one has this byte
abbrev pub is_next : Option Arrived → ℕ → Bool
is_next (Some arrived) byte = arrived.byte == byte
is_next None byte = false

-- DATA is read: the byte with its errors not seen; the byte behind it; another byte
abbrev pub arrived_and_read : Auditor → Arrived → ℕ → Option Finding
arrived_and_read a oldest byte =
    if oldest.byte == byte
    then when (not (oldest.errors.0 == 0) && not a.unread.is_front_seen) (found.ErrorsLost oldest)
    else if is_next (second a.unread) byte then Some (found.ArrivalSkipped oldest.byte)
    else Some (found.OtherByte oldest.byte byte)

-- LSR is read: it shows no byte; or not the errors, at the first look
abbrev pub arrived_and_shown : Auditor → Arrived → LSR → Option Finding
arrived_and_shown a oldest lsr =
    if not (has lsr.0 lsr_bits.DATA_READY.0) then Some (found.ArrivalGone oldest.byte)
    else when (not (has lsr.0 oldest.errors.0) && not a.unread.is_front_seen) (found.ErrorsHidden oldest)

abbrev pub arrived_at : Auditor → Option Arrived → Action → Option Finding
arrived_at a (Some oldest) (Receives byte) = arrived_and_read a oldest byte
arrived_at a (Some oldest) (LooksAtLine lsr) = arrived_and_shown a oldest lsr
arrived_at a _ _ = None

abbrev pub arrival : Auditor → Step → Option Finding
arrival a s = arrived_at a (front a.unread) s.action

-- LSR does not show that a character had no room
abbrev pub overrun_in : Bool → Action → Option Finding
overrun_in due (LooksAtLine lsr) = when (due && not (has lsr.0 lsr_bits.OVERRUN_ERROR.0)) found.OverrunHidden
overrun_in due _ = None

abbrev pub overrun : Auditor → Step → Option Finding
overrun a s = overrun_in a.is_overrun s.action

-- LSR shows no byte after an interrupt of received data, or after a write of FCR before which one waited
abbrev pub missing : Option Arrived → Option InterruptType → Bool → Option Finding
missing (Some oldest) interrupt gone = None
missing None (Some interrupt) gone = Some (found.InterruptWithoutData interrupt)
missing None None gone = when gone found.GoneAtFcr

abbrev pub empty_though_waiting : Auditor → Option Finding
empty_though_waiting a = missing (front a.unread) a.data_interrupt (a.is_controlled && nat_lt 0 a.waiting)

abbrev pub empty_in : Auditor → Action → Option Finding
empty_in a (LooksAtLine lsr) = if has lsr.0 lsr_bits.DATA_READY.0 then None else empty_though_waiting a
empty_in a _ = None

abbrev pub empty : Auditor → Step → Option Finding
empty a s = empty_in a s.action

-- ---- the divisor latch

-- the low byte of the divisor of a usual rate at 1.8432 MHz
abbrev pub is_usual_number : ℕ → Bool
is_usual_number low =
    (low == 1) || ((low == 2) || ((low == 3) || ((low == 6) || ((low == 12) || ((low == 24) || ((low == 48) ||
    ((low == 96) || (low == 192))))))))

-- the divisor of a usual rate at another clock, of those with such a low byte and a high byte below 16: 9600 baud at
-- 54 MHz, and the rates above and below it at 27, 108 and 216 MHz; 1200 at 18.432 MHz; 19,200 and 9600 at 408 MHz
abbrev pub is_of_other_clock : ℕ → Bool
is_of_other_clock divisor = (divisor == 352) || ((divisor == 960) || ((divisor == 1328) || (divisor == 2656)))

-- the low byte alone is the divisor of a usual rate, and with this high byte it is not
abbrev pub spoils_rate : (high : ℕ) → (low : Option ℕ) → Bool
spoils_rate high (Some low) = is_usual_number low && not (is_of_other_clock (256 * high + low))
spoils_rate high None = false

-- the high byte was written already, or this has bits of IER alone and spoils a usual rate
abbrev pub is_for_ier : Auditor → Step → ℕ → Bool
is_for_ier a s value =
    a.latch.is_high_new
    || (a.latch.has_low && (not (value == 0) && (nat_lt value 16 && spoils_rate value s.setup.divisor.low)))

abbrev pub is_zero : Option ℕ → Bool
is_zero (Some value) = value == 0
is_zero None = false

-- the low byte was written alone, and LSR not read meanwhile
abbrev pub has_low_alone : Latch → Bool
has_low_alone l = l.was_opened && (not l.has_looked && (l.has_low && not l.has_high))

-- the latch is closed: with a divisor of zero, or with the low byte written alone
abbrev pub closed : Auditor → Step → Option Finding
closed a s =
    if is_zero s.setup.divisor.low && is_zero s.setup.divisor.high then Some found.ZeroDivisor
    else when (has_low_alone a.latch) found.HighByteNotSet

-- LCR closes the latch, which is open
abbrev pub closes : Option Bool → LCR → Bool
closes (Some value) lcr = value && not (has lcr.0 lcr_bits.DLAB.0)
closes None lcr = false

-- the latch is taken for DATA or IER, since LSR was read while it is open or the byte was written already; or it is
-- closed too early
abbrev pub latched : Auditor → Step → Action → Option Finding
latched a s (SetsDivisorLow byte) = when (a.latch.has_looked || a.latch.is_low_new) (found.SentIntoLatch byte)
latched a s (SetsDivisorHigh value) = when (is_for_ier a s value) (found.InterruptsIntoLatch value)
latched a s ReadsDivisor = when a.latch.has_looked found.ReceivedFromLatch
latched a s (SetsLine lcr) = if closes s.setup.is_open lcr then closed a s else None
latched a s _ = None

abbrev pub latch : Auditor → Step → Option Finding
latch a s = latched a s s.action

-- ---- what is changed while bytes may be going out

-- word length, stop bits, parity if there is one, and break
abbrev pub frame : LCR → ℕ
frame lcr = if has lcr.0 lcr_bits.PARITY0.0 then bit_and lcr.0 127 else bit_and lcr.0 71

abbrev pub is_other_frame : Option LCR → LCR → Bool
is_other_frame (Some old) new = not (has old.0 lcr_bits.SET_BREAK.0) && not (frame old == frame new)
is_other_frame None new = false

abbrev pub is_other : Option ℕ → ℕ → Bool
is_other (Some old) new = not (old == new)
is_other None new = false

abbrev pub changed : Auditor → Step → Action → Option Finding
changed a s (SetsLine lcr) = when (is_other_frame s.setup.line lcr) found.FrameChangedWhileSending
changed a s (SetsDivisorLow value) = when (is_other s.setup.divisor.low value) found.DivisorChangedWhileSending
changed a s (SetsDivisorHigh value) = when (is_other s.setup.divisor.high value) found.DivisorChangedWhileSending
changed a s (ControlsFifo fcr) =
    when (nat_lt 0 a.sent && step_empties fcr_bits.TX_FIFO_RESET.0 s) found.ResetWhileSending
changed a s _ = None

abbrev pub change : Auditor → Step → Option Finding
change a s = if s.has_rested || (a.going_out == 0) then None else changed a s s.action

-- all interrupts are off, and no byte went either way since the driver was set up
abbrev pub is_at_rest : Auditor → Setup → Bool
is_at_rest a now = are_off now.interrupts && not a.is_at_work

-- a byte waits, and FCR empties the receiver, while the driver is not at rest
abbrev pub discard : Auditor → Step → Option Finding
discard a s =
    when ((nat_lt 0 a.waiting && not (is_at_rest a s.setup)) && step_empties fcr_bits.RX_FIFO_RESET.0 s)
    found.WaitingDiscarded

-- ---- interrupts

-- two interrupts are the same
abbrev pub is_same_interrupt : InterruptType → InterruptType → Bool
is_same_interrupt x y = interrupt_code x == interrupt_code y

-- ISR shows the interrupt that an earlier read identified, and that nothing served since
abbrev pub served_by : Option Identified → Option InterruptType → Option Finding
served_by (Some before) (Some now) = when (is_same_interrupt now before.interrupt) (found.NotServed before)
served_by _ _ = None

abbrev pub service : Auditor → Step → Option Finding
service a s = served_by a.unserved (identified_by s.action)

-- ISR shows no interrupt, though that of an empty transmitter was enabled while THR was empty
abbrev pub not_raised : Auditor → ISR → Option Finding
not_raised a isr =
    when (a.is_thr_due && has isr.0 isr_bits.INTERRUPT_STATUS.0)
    (if a.is_acknowledged then found.ThrEmptyNotRaisedAgain else found.ThrEmptyNotRaised)

-- LCR is not what was written while bytes were going out
abbrev pub ignored : Option LCR → LCR → Option Finding
ignored (Some written) read = when (not (written.0 == read.0)) (found.LineIgnored written read)
ignored None read = None

abbrev pub is_ignored : Auditor → LCR → Option Finding
is_ignored a read = ignored a.busy_line read

abbrev pub chip_at : Auditor → Action → Option Finding
chip_at a (IdentifiesInterrupt isr) = not_raised a isr
chip_at a (ReadsLine lcr) = is_ignored a lcr
chip_at a _ = None

abbrev pub chip : Auditor → Step → Option Finding
chip a s = chip_at a s.action

-- the interrupt stays after the read of ISR: all but that of an empty transmitter
abbrev pub stays_as : Option InterruptType → Bool
stays_as (Some TransmitterHoldingRegisterEmpty) = false
stays_as None = false
stays_as (Some interrupt) = true

abbrev pub stays : ISR → Bool
stays isr = stays_as (identified isr)

-- OUT2 is known to be on
abbrev pub is_connected : Option MCR → Bool
is_connected (Some mcr) = has mcr.0 mcr_bits.OUT_2_INT_ENABLE.0
is_connected None = false

-- the line is up, and ISR shows none; or it is down, OUT2 is on, and ISR shows one that stays
abbrev pub is_other_level : Option MCR → ISR → Bool → Bool
is_other_level mcr isr true = has isr.0 isr_bits.INTERRUPT_STATUS.0
is_other_level mcr isr false = stays isr && is_connected mcr

abbrev pub level_as : Option MCR → ISR → Option Bool → Option Finding
level_as mcr isr (Some up) = when (is_other_level mcr isr up) (found.LevelDiffers up)
level_as mcr isr None = None

-- MSR shows other lines than the modem inputs
abbrev pub lines_as : Option MSR → MSR → Option Finding
lines_as (Some inputs) shown =
    when (not (bit_and shown.0 msr_bits.LINES.0 == bit_and inputs.0 msr_bits.LINES.0)) (found.LinesDiffer inputs shown)
lines_as None shown = None

abbrev pub level_at : Auditor → Step → Action → Option Finding
level_at a s (IdentifiesInterrupt isr) = level_as s.setup.modem isr s.level
level_at a s (LooksAtModem msr) = if loops_back s.setup.modem then None else lines_as a.lines msr
level_at a s _ = None

abbrev pub level : Auditor → Step → Option Finding
level a s = level_at a s s.action

-- so much time passed since then that a handler has returned
abbrev pub is_long_since : Mark → ℕ → Bool
is_long_since mark now = nat_le HANDLER_TIME (now - mark.time)

-- the line was up after the latest access, in a handler, so long ago
abbrev pub left_up : Auditor → Step → Option Mark → Option ℕ → Option Finding
left_up a s (Some mark) (Some now) =
    if are_off s.setup.interrupts then None
    else when (a.is_handling && is_long_since mark now) (found.LeftWithLineUp mark.line)
left_up a s _ _ = None

-- a byte arrives meanwhile
abbrev pub line_up : Auditor → Step → Option Finding
line_up a s = if not (arrives s.action) then None else left_up a s a.up s.time

-- ---- all of it

-- the findings at a step, in this order
abbrev pub all_found : Auditor → Step → List (Option Finding)
all_found a s =
    note a s ∷ room a s ∷ output a s ∷ flow a s ∷ gate a s ∷ taken a s ∷ arrival a s ∷ overrun a s
    ∷ empty a s ∷ latch a s ∷ change a s ∷ discard a s ∷ service a s ∷ chip a s ∷ level a s ∷ line_up a s ∷ []

-- the findings at an entry, from the entries before it
abbrev pub findings_at : Entry → List Entry → List (Option Finding)
findings_at e past = all_found (known past) (step_from (known past) e)

-- the latch is open
abbrev pub is_open : Option Bool → Bool
is_open (Some value) = value
is_open None = false

-- the findings after the last entry
abbrev pub end_findings : Auditor → List (Option Finding)
end_findings a =
    when (is_open a.setup.is_open) found.LatchLeftOpen ∷ when (loops_back a.setup.modem) found.LoopbackLeftOn ∷ []
