-- The interrupt line by its causes, once a reception timeout is due.
use Rattle.std.proofs.Common.{◌≡◌, ℕ, Bool, true, false, not, ◌&&◌, ◌||◌, ◌==◌, nat_lt, nat_le, length, bit_and, bit_or}
use Rattle.std.proofs.Common.{Some, None, is_some, refl, ap, sym, ◌∙◌, arith, if◌then◌else◌}
use Rattle.std.proofs.lemmas.Grind.{common_steps}
use Rattle.std.specs.List.{list_any}
use lib.Bits.{or_zero_r}
use Rattle.uart_chip.proofs.Bits.{and_or}
use Rattle.uart_chip.proofs.Sizes.{some_characters}
use Rattle.uart_chip.specs.Chip.{ChipState, interrupt, is_transmitter_empty, line_status}
use Rattle.uart_chip.specs.Receiver.{characters_of, front_errors, has_errors, is_data_pending, is_timed_out, unreported}
use Rattle.uart_chip.specs.Status.{receiver_status}
use Rattle.uart_live.specs.Quick.{when_due}
use Rattle.uart_spec.specs.Bits.{flag, has_any}
use Rattle.uart_spec.specs.declared.registers.fifo_trigger_level.FifoTriggerLevel.{FifoTriggerLevel}
use Rattle.uart_spec.specs.declared.registers.interrupt_enable.TheConstants.IER
use Rattle.uart_spec.specs.declared.registers.interrupt_type.InterruptType.{InterruptType}
use Rattle.uart_spec.specs.declared.registers.interrupt_type.InterruptType.TheVariants.{ReceiverLineStatus, ReceivedDataReady}
use Rattle.uart_spec.specs.declared.registers.interrupt_type.InterruptType.TheVariants.{ReceptionTimeout}
use Rattle.uart_spec.specs.declared.registers.interrupt_type.InterruptType.TheVariants.{TransmitterHoldingRegisterEmpty, ModemStatus}
use Rattle.uart_spec.specs.declared.registers.line_status.TheConstants.LSR
use Rattle.uart_spec.specs.declared.setup.FifoSize.{FifoSize}

-- ---- the errors of the line are those of the receiver

errors_by : (a e : ℕ) (d f g : Bool) →
    bit_and (bit_or (bit_or a (bit_or e (flag d LSR.THR_EMPTY.0)))
    (bit_or (flag f LSR.TRANSMITTER_EMPTY.0) (flag g LSR.FIFO_DATA_ERROR.0))) LSR.LINE_ERRORS.0 ≡
    bit_and (bit_or a e) LSR.LINE_ERRORS.0
errors_by a e true true true = simp (and_or, or_zero_r) refl
errors_by a e true true false = simp (and_or, or_zero_r) refl
errors_by a e true false true = simp (and_or, or_zero_r) refl
errors_by a e true false false = simp (and_or, or_zero_r) refl
errors_by a e false true true = simp (and_or, or_zero_r) refl
errors_by a e false true false = simp (and_or, or_zero_r) refl
errors_by a e false false true = simp (and_or, or_zero_r) refl
errors_by a e false false false = simp (and_or, or_zero_r) refl

pub errors_shown : (c : ChipState) →
    has_any (receiver_status c.receiver.queue c.receiver.is_overrun c.receiver.is_front_reported) LSR.LINE_ERRORS.0 ≡
    has_any (line_status c) LSR.LINE_ERRORS.0
errors_shown c =
    ap (λ (n : ℕ). not (n == 0))
    (sym (errors_by (bit_or (flag (nat_lt 0 (length c.receiver.queue)) LSR.DATA_READY.0) (flag c.receiver.is_overrun LSR.OVERRUN_ERROR.0))
    (front_errors c.receiver.queue c.receiver.is_front_reported) (length c.transmitter.queue == 0)
    (is_transmitter_empty c.transmitter.queue c.transmitter.shift_register)
    (c.fifo && list_any has_errors (unreported c.receiver.queue c.receiver.is_front_reported))))

-- ---- the causes

up_is : (a b d e f : Bool) (p q r s t : InterruptType) →
    is_some (if a then Some p else if b then Some q else if d then Some r else if e then Some s else if f then Some t else None) ≡
    (a || (b || (d || (e || f))))
up_is true b d e f p q r s t = refl
up_is false true d e f p q r s t = refl
up_is false false true e f p q r s t = refl
up_is false false false true f p q r s t = refl
up_is false false false false true p q r s t = refl
up_is false false false false false p q r s t = refl

-- each character that waits is a cause
waits : (on fifo : Bool) (waiting : ℕ) (size : FifoSize) (trigger : FifoTriggerLevel) (limit : ℕ) →
    ((on && (if fifo then nat_le (characters_of size trigger) waiting else nat_lt 0 waiting)) ||
    (on && (fifo && (nat_lt 0 waiting && (limit == limit))))) ≡ (on && nat_lt 0 waiting)
waits false fifo waiting size trigger limit = refl
waits true false waiting size trigger limit = either (nat_lt 0 waiting)
  where
    either : (b : Bool) → (b || false) ≡ b
    either true = refl
    either false = refl
waits true true waiting size trigger limit =
    let some = some_characters size trigger in grind (arith, common_steps)

grouped : (a b d e f g : Bool) → (b || d) ≡ g → (a || (b || (d || (e || f)))) ≡ (g || (e || (a || f)))
grouped true true d e f true h = refl
grouped true true d e f false h = absurd (cc)
grouped true false true e f true h = refl
grouped true false true e f false h = absurd (cc)
grouped true false false true f false h = refl
grouped true false false false f false h = refl
grouped true false false e f true h = absurd (cc)
grouped false true d e f true h = refl
grouped false true d e f false h = absurd (cc)
grouped false false true e f true h = refl
grouped false false true e f false h = absurd (cc)
grouped false false false true f false h = refl
grouped false false false false f false h = refl
grouped false false false e f true h = absurd (cc)

pub up_when_due : (b : Bool) (c : ChipState) → is_some (interrupt (when_due b c)) ≡
    ((has_any c.latches.ier IER.DATA_READY.0 && nat_lt 0 (length c.receiver.queue)) ||
    ((has_any c.latches.ier IER.THR_EMPTY.0 && b) ||
    ((has_any c.latches.ier IER.RECEIVER_LINE_STATUS.0 && has_any (line_status c) LSR.LINE_ERRORS.0) ||
    (has_any c.latches.ier IER.MODEM_STATUS.0 && not (c.modem.deltas == 0)))))
up_when_due b c =
    let d : ChipState = when_due b c in
    let on : Bool = has_any c.latches.ier IER.DATA_READY.0 in
    let errors : Bool = has_any c.latches.ier IER.RECEIVER_LINE_STATUS.0 && has_any (line_status c) LSR.LINE_ERRORS.0 in
    let ready : Bool = on && is_data_pending c.fifo c.receiver in
    let timeout : Bool = on && is_timed_out d.fifo d.receiver in
    let empty : Bool = has_any c.latches.ier IER.THR_EMPTY.0 && b in
    let lines : Bool = has_any c.latches.ier IER.MODEM_STATUS.0 && not (c.modem.deltas == 0) in
    up_is errors ready timeout empty lines ReceiverLineStatus ReceivedDataReady ReceptionTimeout TransmitterHoldingRegisterEmpty
    ModemStatus ∙
    grouped errors ready timeout empty lines (on && nat_lt 0 (length c.receiver.queue))
    (waits on c.fifo (length c.receiver.queue) c.receiver.size c.receiver.trigger c.receiver.timeout_limit)
