-- The codes of ISR and FCR, as they are read and as they are defined.
use Rattle.std.proofs.Common.{◌≡◌, ◌==◌, ◌&&◌, ℕ, false, refl, arith, Option, Some, None}
use Rattle.std.proofs.lemmas.Bool.Decides.{nat_tests}
use Rattle.uart_spec.specs.Bits.{IsOnlyIfAny, field}
use Rattle.uart_spec.specs.Fields.{Identifies, interrupt_code, trigger_code}
use Rattle.uart_spec.specs.declared.registers.fifo_control.FCR.{FCR}
use Rattle.uart_spec.specs.declared.registers.fifo_trigger_level.FifoTriggerLevel.{FifoTriggerLevel}
use Rattle.uart_spec.specs.declared.registers.fifo_trigger_level.FifoTriggerLevel.TheVariants.{One, Four, Eight, Fourteen}
use Rattle.uart_spec.specs.declared.registers.interrupt_status.ISR.{ISR}
use Rattle.uart_spec.specs.declared.registers.interrupt_type.InterruptType.{InterruptType}
use Rattle.uart_spec.specs.declared.registers.interrupt_type.InterruptType.TheVariants.{ReceiverLineStatus, ReceivedDataReady}
use Rattle.uart_spec.specs.declared.registers.interrupt_type.InterruptType.TheVariants.{ReceptionTimeout, TransmitterHoldingRegisterEmpty}
use Rattle.uart_spec.specs.declared.registers.interrupt_type.InterruptType.TheVariants.{ModemStatus, DmaReceptionEndOfTransfer}
use Rattle.uart_spec.specs.declared.registers.interrupt_type.InterruptType.TheVariants.{DmaTransmissionEndOfTransfer}
use Rattle.uart_judges.specs.Shows.{identified, level_of}

-- the level with this code is the one that is defined
pub level_is : (fcr : FCR) (level : FifoTriggerLevel) → field 6 2 fcr.0 ≡ trigger_code level → level ≡ level_of fcr
level_is fcr One e = simp e
level_is fcr _ e = simp e

-- the interrupt that is identified is the one that is defined
pub some_is : (isr : ISR) (one : InterruptType) → field 0 1 isr.0 ≡ 0 → field 1 3 isr.0 ≡ interrupt_code one →
    Some one ≡ identified isr
some_is isr ReceiverLineStatus p c = simp (p, c)
some_is isr _ p c = simp (p, c)

-- a test that fails
both_not : (a b c : ℕ) → ((a ≡ 0) × (b ≡ c) → ⊥) → ((a == 0) && (b == c)) ≡ false
both_not a b c neither = grind (arith, nat_tests)

fails : (isr : ISR) → ((one : InterruptType) → Identifies isr.0 one → ⊥) → (one : InterruptType) →
    ((field 0 1 isr.0 == 0) && (field 1 3 isr.0 == interrupt_code one)) ≡ false
fails isr none one = both_not (field 0 1 isr.0) (field 1 3 isr.0) (interrupt_code one) (none one)

none_is : (isr : ISR) → ((one : InterruptType) → Identifies isr.0 one → ⊥) → None ≡ identified isr
none_is isr none =
    simp (
      fails isr none ReceiverLineStatus,
      fails isr none ReceivedDataReady,
      fails isr none ReceptionTimeout,
      fails isr none TransmitterHoldingRegisterEmpty,
      fails isr none ModemStatus,
      fails isr none DmaReceptionEndOfTransfer,
      fails isr none DmaTransmissionEndOfTransfer,
    )

some_is_not_none : {A B : Type 0} {x : A} → None ≡ Some x → B
some_is_not_none e = cc

-- what is read is what is defined
pub identified_is : (isr : ISR) (o : Option InterruptType) → IsOnlyIfAny (Identifies isr.0) o → o ≡ identified isr
identified_is isr (Some one) only = let e : Identifies isr.0 one = (only one).0 refl in some_is isr one e.0 e.1
identified_is isr None only = none_is isr (λ one is. some_is_not_none ((only one).1 is))
