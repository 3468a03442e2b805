-- What one action does or shows, whatever was before it.
use Rattle.std.specs.Prelude.{ℕ, ◌+◌, ◌^◌, Bool, true, false, ◌==◌, ◌&&◌, not, if◌then◌else◌, nat_le}
use Rattle.std.specs.Prelude.{Option, Some, None, find}
use Rattle.uart_spec.specs.Bits.{field, has}
use Rattle.uart_spec.specs.Fields.{interrupt_code}
use Rattle.uart_spec.specs.Orders.{interrupt_types}
use Rattle.uart_spec.specs.declared.registers.fifo_control.FCR.{FCR}
use Rattle.uart_spec.specs.declared.registers.fifo_control.TheConstants.FCR as fcr_bits
use Rattle.uart_spec.specs.declared.registers.fifo_trigger_level.FifoTriggerLevel.{FifoTriggerLevel}
use Rattle.uart_spec.specs.declared.registers.fifo_trigger_level.FifoTriggerLevel.TheVariants.{One, Four, Eight}
use Rattle.uart_spec.specs.declared.registers.fifo_trigger_level.FifoTriggerLevel.TheVariants.{Fourteen}
use Rattle.uart_spec.specs.declared.registers.interrupt_enable.IER.{IER}
use Rattle.uart_spec.specs.declared.registers.interrupt_status.ISR.{ISR}
use Rattle.uart_spec.specs.declared.registers.interrupt_status.TheConstants.ISR as isr_bits
use Rattle.uart_spec.specs.declared.registers.interrupt_type.InterruptType.{InterruptType}
use Rattle.uart_spec.specs.declared.registers.interrupt_type.InterruptType.TheVariants.{TransmitterHoldingRegisterEmpty}
use Rattle.uart_spec.specs.declared.registers.line_control.LCR.{LCR}
use Rattle.uart_spec.specs.declared.registers.line_control.TheConstants.LCR as lcr_bits
use Rattle.uart_spec.specs.declared.registers.line_status.TheConstants.LSR as lsr_bits
use Rattle.uart_spec.specs.declared.registers.modem_control.MCR.{MCR}
use Rattle.uart_judges.specs.declared.audit.action.Action.{Action}
use Rattle.uart_judges.specs.declared.audit.action.Action.TheVariants.{Receives, Sends, ReadsDivisor, SetsDivisorLow}
use Rattle.uart_judges.specs.declared.audit.action.Action.TheVariants.{SetsDivisorHigh, EnablesInterrupts}
use Rattle.uart_judges.specs.declared.audit.action.Action.TheVariants.{ShowsInterrupts, IdentifiesInterrupt}
use Rattle.uart_judges.specs.declared.audit.action.Action.TheVariants.{ControlsFifo, ReadsLine, SetsLine, ReadsModem}
use Rattle.uart_judges.specs.declared.audit.action.Action.TheVariants.{SetsModem, LooksAtLine, LooksAtModem, Arrives}
use Rattle.uart_judges.specs.declared.audit.action.Action.TheVariants.{MayReceive, MaySend, MayEnable}

-- the interrupt that a value of ISR identifies, if one is pending
abbrev pub identified : ISR → Option InterruptType
identified isr = find (λ one. (field 0 1 isr.0 == 0) && (field 1 3 isr.0 == interrupt_code one)) interrupt_types

-- the trigger level in a value of FCR
abbrev pub level_of : FCR → FifoTriggerLevel
level_of fcr =
    if field 6 2 fcr.0 == 0 then One
    else if field 6 2 fcr.0 == 1 then Four
    else if field 6 2 fcr.0 == 2 then Eight
    else Fourteen

-- the byte has more bits than a character that is sent with this line control
abbrev pub is_cut : LCR → ℕ → Bool
is_cut lcr byte = nat_le (2 ^ (5 + field 0 2 lcr.0)) byte

-- a byte is given to the transmitter
abbrev pub sends : Action → Bool
sends (Sends byte) = true
sends _ = false

-- a byte is taken from the receiver
abbrev pub receives : Action → Bool
receives (Receives byte) = true
receives _ = false

-- a byte is given to the transmitter, or may be: it is not known whether offset 0 is DATA
abbrev pub may_send : Action → Bool
may_send MaySend = true
may_send x = sends x

-- a byte is taken from the receiver, or may be
abbrev pub may_receive : Action → Bool
may_receive MayReceive = true
may_receive x = receives x

-- LSR is read
abbrev pub looks_at_line : Action → Bool
looks_at_line (LooksAtLine lsr) = true
looks_at_line _ = false

-- MSR is read
abbrev pub looks_at_modem : Action → Bool
looks_at_modem (LooksAtModem msr) = true
looks_at_modem _ = false

-- a character arrives
abbrev pub arrives : Action → Bool
arrives (Arrives byte errors) = true
arrives _ = false

-- FCR is written
abbrev pub controls_fifo : Action → Bool
controls_fifo (ControlsFifo fcr) = true
controls_fifo _ = false

-- MCR is written
abbrev pub sets_modem : Action → Bool
sets_modem (SetsModem mcr) = true
sets_modem _ = false

-- IER, FCR, LCR or MCR is written
abbrev pub configures : Action → Bool
configures (EnablesInterrupts ier) = true
configures (ControlsFifo fcr) = true
configures (SetsLine lcr) = true
configures (SetsModem mcr) = true
configures _ = false

-- the interrupt that is identified, if ISR is read
abbrev pub identified_by : Action → Option InterruptType
identified_by (IdentifiesInterrupt isr) = identified isr
identified_by _ = None

-- ISR shows that no interrupt is pending
abbrev pub shows_none : Action → Bool
shows_none (IdentifiesInterrupt isr) = has isr.0 isr_bits.INTERRUPT_STATUS.0
shows_none _ = false

-- the interrupt is that the transmitter is empty
abbrev pub is_thr_empty : Option InterruptType → Bool
is_thr_empty (Some TransmitterHoldingRegisterEmpty) = true
is_thr_empty _ = false

-- ISR identifies that the transmitter is empty
abbrev pub identifies_thr_empty : Action → Bool
identifies_thr_empty x = is_thr_empty (identified_by x)

-- THR is shown to be empty: LSR has THR_EMPTY, or ISR identifies that interrupt
abbrev pub shows_thr_empty : Action → Bool
shows_thr_empty (LooksAtLine lsr) = has lsr.0 lsr_bits.THR_EMPTY.0
shows_thr_empty x = identifies_thr_empty x

-- nothing is going out: LSR has TRANSMITTER_EMPTY
abbrev pub shows_idle : Action → Bool
shows_idle (LooksAtLine lsr) = has lsr.0 lsr_bits.TRANSMITTER_EMPTY.0
shows_idle _ = false

-- whether the FIFOs are on: a write of FCR sets it, and a read of ISR shows it
abbrev pub fifo_of : Action → Option Bool
fifo_of (ControlsFifo fcr) = Some (has fcr.0 fcr_bits.FIFO_ENABLE.0)
fifo_of (IdentifiesInterrupt isr) = Some (has isr.0 isr_bits.FIFOS_ENABLED.0)
fifo_of _ = None

-- the value of LCR that is written or read
abbrev pub line_of : Action → Option LCR
line_of (SetsLine lcr) = Some lcr
line_of (ReadsLine lcr) = Some lcr
line_of _ = None

-- the divisor latch is opened
abbrev pub opens : Action → Bool
opens (SetsLine lcr) = has lcr.0 lcr_bits.DLAB.0
opens _ = false

-- the low byte of the divisor that is written
abbrev pub low_of : Action → Option ℕ
low_of (SetsDivisorLow value) = Some value
low_of _ = None

-- the high byte of the divisor that is written
abbrev pub high_of : Action → Option ℕ
high_of (SetsDivisorHigh value) = Some value
high_of _ = None

-- the low byte of the divisor is written
abbrev pub sets_low : Action → Bool
sets_low (SetsDivisorLow value) = true
sets_low _ = false

-- the high byte of the divisor is written
abbrev pub sets_high : Action → Bool
sets_high (SetsDivisorHigh value) = true
sets_high _ = false

-- the latch is opened, or a byte of the divisor is read
abbrev pub begins_divisor : Action → Bool
begins_divisor ReadsDivisor = true
begins_divisor x = opens x

-- the value of MCR that is written or read
abbrev pub modem_of : Action → Option MCR
modem_of (SetsModem mcr) = Some mcr
modem_of (ReadsModem mcr) = Some mcr
modem_of _ = None

-- the value of IER that is written or read
abbrev pub interrupts_of : Action → Option IER
interrupts_of (EnablesInterrupts ier) = Some ier
interrupts_of (ShowsInterrupts ier) = Some ier
interrupts_of _ = None

-- a write of IER without this bit, or one that may be: it is not known whether offset 1 is IER
abbrev pub may_disable : ℕ → Action → Bool
may_disable bit (EnablesInterrupts ier) = not (has ier.0 bit)
may_disable bit MayEnable = true
may_disable bit _ = false

-- the trigger level that is set
abbrev pub trigger_of : Action → Option FifoTriggerLevel
trigger_of (ControlsFifo fcr) = if has fcr.0 fcr_bits.FIFO_ENABLE.0 then Some (level_of fcr) else None
trigger_of _ = None
