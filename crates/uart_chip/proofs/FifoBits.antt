-- What the bits of ISR that show the FIFOs say, beside the code of any interrupt.
use Rattle.std.proofs.Common.{◌≡◌, ℕ, Bool, true, false, not, ◌&&◌, ◌==◌, Option, Some, refl, ◌∙◌, ap, bit_and, bit_or}
use Rattle.uart_spec.specs.Bits.{has, has_any, flag}
use Rattle.uart_spec.specs.declared.registers.interrupt_status.TheConstants.ISR
use Rattle.uart_spec.specs.declared.registers.interrupt_type.InterruptType.{InterruptType}
use Rattle.uart_spec.specs.declared.registers.interrupt_type.InterruptType.TheVariants.{ReceiverLineStatus}
use Rattle.uart_chip.specs.Chip.{identification}

-- ISR, of FIFOs that are on or off, and that a chip with the switch has made 64 or not
abbrev pub isr_of : (on holds_64 : Bool) → Option InterruptType → ℕ
isr_of on holds_64 pending =
    bit_or (identification pending) (bit_or (flag on ISR.FIFOS_ENABLED.0) (flag (on && holds_64) ISR.FIFO_64_ENABLED.0))

-- no code of an interrupt has one of these bits
pub fifo_bits : (on holds_64 : Bool) (pending : Option InterruptType) →
    bit_and (isr_of on holds_64 pending) ISR.FIFOS_ENABLED.0 ≡ flag on ISR.FIFOS_ENABLED.0
fifo_bits true true (Some ReceiverLineStatus) = refl
fifo_bits true false (Some ReceiverLineStatus) = refl
fifo_bits false _ (Some ReceiverLineStatus) = refl
fifo_bits _ _ _ = refl

pub all_shown : (on holds_64 : Bool) (pending : Option InterruptType) →
    has (isr_of on holds_64 pending) ISR.FIFOS_ENABLED.0 ≡ on
all_shown on holds_64 pending = ap (λ (bits : ℕ). bits == ISR.FIFOS_ENABLED.0) (fifo_bits on holds_64 pending) ∙ all on
  where
    all : (on : Bool) → (flag on ISR.FIFOS_ENABLED.0 == ISR.FIFOS_ENABLED.0) ≡ on
    all true = refl
    all false = refl

pub any_shown : (on holds_64 : Bool) (pending : Option InterruptType) →
    has_any (isr_of on holds_64 pending) ISR.FIFOS_ENABLED.0 ≡ on
any_shown on holds_64 pending = ap (λ (bits : ℕ). not (bits == 0)) (fifo_bits on holds_64 pending) ∙ any on
  where
    any : (on : Bool) → not (flag on ISR.FIFOS_ENABLED.0 == 0) ≡ on
    any true = refl
    any false = refl

-- nor the bit that shows 64
pub size_shown : (on holds_64 : Bool) (pending : Option InterruptType) →
    has_any (isr_of on holds_64 pending) ISR.FIFO_64_ENABLED.0 ≡ (on && holds_64)
size_shown true true (Some ReceiverLineStatus) = refl
size_shown true false (Some ReceiverLineStatus) = refl
size_shown false _ (Some ReceiverLineStatus) = refl
size_shown _ _ _ = refl
