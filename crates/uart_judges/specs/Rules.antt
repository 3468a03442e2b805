-- What holds of a value that is read, whatever the time that passed: when it breaks a rule, and which one is reported.
use Rattle.std.specs.Prelude.{ℕ, ◌+◌, Bool, true, false, not, ◌&&◌, ◌||◌, Option, Some, None, ◌==◌, bit_and, bit_or}
use Rattle.std.specs.Prelude.{if◌then◌else◌}
use Rattle.uart_spec.specs.Bits.{has_any, flag}
use Rattle.uart_spec.specs.declared.registers.interrupt_enable.TheConstants.IER
use Rattle.uart_spec.specs.declared.registers.interrupt_status.TheConstants.ISR
use Rattle.uart_spec.specs.declared.registers.interrupt_type.InterruptType.{InterruptType}
use Rattle.uart_spec.specs.declared.registers.interrupt_type.InterruptType.TheVariants.{ReceiverLineStatus}
use Rattle.uart_spec.specs.declared.registers.interrupt_type.InterruptType.TheVariants.{ReceivedDataReady}
use Rattle.uart_spec.specs.declared.registers.interrupt_type.InterruptType.TheVariants.{ReceptionTimeout}
use Rattle.uart_spec.specs.declared.registers.interrupt_type.InterruptType.TheVariants.{TransmitterHoldingRegisterEmpty}
use Rattle.uart_spec.specs.declared.registers.interrupt_type.InterruptType.TheVariants.{ModemStatus}
use Rattle.uart_spec.specs.declared.registers.interrupt_type.InterruptType.TheVariants.{DmaReceptionEndOfTransfer}
use Rattle.uart_spec.specs.declared.registers.interrupt_type.InterruptType.TheVariants.{DmaTransmissionEndOfTransfer}
use Rattle.uart_spec.specs.declared.registers.line_status.TheConstants.LSR
use Rattle.uart_spec.specs.declared.registers.modem_control.TheConstants.MCR
use Rattle.uart_spec.specs.declared.registers.modem_status.TheConstants.MSR
use Rattle.uart_spec.specs.declared.registers.offsets.TheConstants as offsets
use Rattle.uart_chip.specs.Chip.{identification}
use Rattle.uart_chip.specs.Modem.{looped_lines}
use Rattle.uart_judges.specs.declared.replay.known.Known.{Known}
use Rattle.uart_judges.specs.declared.replay.known.Sender.{Sender}
use Rattle.uart_judges.specs.declared.replay.known.Sender.TheVariants.{Unknown, ThrEmpty, Idle}
use Rattle.uart_judges.specs.declared.replay.rule.Rule.{Rule}
use Rattle.uart_judges.specs.declared.replay.rule.Rule.TheVariants.{Keeps, FifoBits, Interrupt, EmptyBits}
use Rattle.uart_judges.specs.declared.replay.rule.Rule.TheVariants.{ErrorAlone, FifoError, StillWaits}
use Rattle.uart_judges.specs.declared.replay.rule.Rule.TheVariants.{ThrStaysEmpty, StaysIdle, LoopedLines, LoopedData}
use Rattle.uart_judges.specs.Latches.{shown}
use Rattle.uart_judges.specs.Known.{known_or, takes}
use Rattle.uart_judges.specs.Looped.{excludes}

-- ---- latches

-- a register that keeps what is written to it has this value
abbrev pub broken_latch : Option ℕ → ℕ → Option Rule
broken_latch None value = None
broken_latch (Some kept) value = if value == kept then None else Some (Keeps kept)

-- ---- ISR

-- bits 6 and 7 of ISR are both set while the FIFOs are on, and else clear
abbrev pub breaks_fifo_bits : Option Bool → ℕ → Bool
breaks_fifo_bits fifo value =
    let on = known_or fifo (has_any value ISR.FIFOS_ENABLED.0) in
    not (bit_and value ISR.FIFOS_ENABLED.0 == flag on ISR.FIFOS_ENABLED.0)

-- some of these interrupts may be enabled
abbrev pub may_be_enabled : (ier : Option ℕ) → ℕ → Bool
may_be_enabled None interrupts = true
may_be_enabled (Some ier) interrupts = has_any ier interrupts

-- this may be the interrupt that is shown: it is enabled, and a reception timeout needs a FIFO
abbrev pub may_be_pending : Option InterruptType → Known → Bool
may_be_pending None k = true
may_be_pending (Some ReceiverLineStatus) k = may_be_enabled k.latches.ier IER.RECEIVER_LINE_STATUS.0
may_be_pending (Some ReceivedDataReady) k = may_be_enabled k.latches.ier IER.DATA_READY.0
may_be_pending (Some ReceptionTimeout) k =
    may_be_enabled k.latches.ier IER.DATA_READY.0 && known_or k.fifo true
may_be_pending (Some TransmitterHoldingRegisterEmpty) k = may_be_enabled k.latches.ier IER.THR_EMPTY.0
may_be_pending (Some ModemStatus) k = may_be_enabled k.latches.ier IER.MODEM_STATUS.0
may_be_pending (Some DmaReceptionEndOfTransfer) k = false
may_be_pending (Some DmaTransmissionEndOfTransfer) k = false

-- ISR has this value while this interrupt is shown, which it may be
abbrev pub may_show : ℕ → Option InterruptType → Known → Bool
may_show value pending k =
    let on = has_any value ISR.FIFOS_ENABLED.0 in
    (bit_or (identification pending) (flag on ISR.FIFOS_ENABLED.0) == value) && may_be_pending pending k

-- ISR may have this value
abbrev pub is_explained : ℕ → Known → Bool
is_explained value k =
    may_show value None k || may_show value (Some ReceiverLineStatus) k || may_show value (Some ReceivedDataReady) k ||
    may_show value (Some ReceptionTimeout) k || may_show value (Some TransmitterHoldingRegisterEmpty) k ||
    may_show value (Some ModemStatus) k

-- the first rule that a value of ISR breaks
abbrev pub broken_isr : ℕ → Known → Option Rule
broken_isr value k =
    if breaks_fifo_bits k.fifo value then Some FifoBits
    else if not (is_explained value k) then Some Interrupt
    else None

-- ---- LSR

-- the bits of LSR that only a waiting character sets
abbrev pub character_bits : ℕ
character_bits = LSR.CHARACTER_ERRORS.0 + LSR.FIFO_DATA_ERROR.0

-- an error of a character is shown, and none waits
abbrev pub has_error_alone : ℕ → Bool
has_error_alone lsr = not (has_any lsr LSR.DATA_READY.0) && has_any lsr character_bits

-- the first rule that the receiver's bits break: of a chip whose errors LSR has cleared, none is set while no character
-- waits
abbrev pub broken_receiver : ℕ → Known → Option Rule
broken_receiver lsr k =
    if k.is_looked && has_error_alone lsr then Some ErrorAlone
    else if has_any lsr LSR.FIFO_DATA_ERROR.0 && not (known_or k.fifo true) then Some FifoError
    else if k.waits && not (has_any lsr LSR.DATA_READY.0) then Some StillWaits
    else None

-- the first rule that the transmitter's bits break
abbrev pub broken_sender : ℕ → Sender → Option Rule
broken_sender lsr Unknown = None
broken_sender lsr ThrEmpty = if has_any lsr LSR.THR_EMPTY.0 then None else Some ThrStaysEmpty
broken_sender lsr Idle = if has_any lsr LSR.TRANSMITTER_EMPTY.0 then None else Some StaysIdle

-- the first, or if there is none the second
abbrev pub first_of_two : Option Rule → Option Rule → Option Rule
first_of_two None second = second
first_of_two (Some rule) second = Some rule

-- the first rule that a value of LSR breaks
abbrev pub broken_lsr : ℕ → Known → Option Rule
broken_lsr lsr k =
    if has_any lsr LSR.TRANSMITTER_EMPTY.0 && not (has_any lsr LSR.THR_EMPTY.0) then Some EmptyBits
    else first_of_two (broken_receiver lsr k) (broken_sender lsr k.sender)

-- ---- MSR

-- in loopback the lines are the outputs of MCR
abbrev pub broken_msr : ℕ → Option ℕ → Option Rule
broken_msr msr None = None
broken_msr msr (Some mcr) =
    if has_any mcr MCR.LOOP_BACK.0 && not (bit_and msr MSR.LINES.0 == looped_lines mcr) then Some LoopedLines else None

-- ---- DATA, or the low byte of the divisor

-- what is read in loopback is what was written and has not come back, in order
abbrev pub broken_data : ℕ → Known → Option Rule
broken_data value k =
    if takes k && excludes k.looped value then Some LoopedData else broken_latch (shown offsets.DATA k.latches) value

-- ---- any register

-- the first rule that a value breaks if a read of this register returns it
abbrev pub broken : ℕ → ℕ → Known → Option Rule
broken offset value k =
    if offset == offsets.DATA then broken_data value k
    else if offset == offsets.ISR then broken_isr value k
    else if offset == offsets.LSR then broken_lsr value k
    else if offset == offsets.MSR then broken_msr value k.latches.mcr
    else broken_latch (shown offset k.latches) value
