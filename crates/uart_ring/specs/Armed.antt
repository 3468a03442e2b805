-- Why no bytes stay in the transmit ring with no interrupt to come: what accesses show of the THR-empty interrupt.
use Rattle.std.specs.Prelude.{◌≡◌, ◌==◌, ◌⊎◌, ℕ, Bool, true, false, not, ◌&&◌, ◌||◌, ⊤, List, [], ◌∷◌, if◌then◌else◌}
use Rattle.uart_spec.specs.declared.access.Access.{Access}
use Rattle.uart_spec.specs.declared.access.Access.TheVariants.{Read, Write}
use Rattle.uart_spec.specs.Bits.{has, field}
use Rattle.uart_spec.specs.Fields.{interrupt_code}
use Rattle.uart_spec.specs.declared.registers.interrupt_enable.TheConstants.IER
use Rattle.uart_spec.specs.declared.registers.interrupt_type.InterruptType.TheVariants.{TransmitterHoldingRegisterEmpty}
use Rattle.uart_spec.specs.declared.registers.line_status.TheConstants.LSR
use Rattle.uart_spec.specs.declared.registers.modem_status.TheConstants.MSR
use Rattle.uart_spec.specs.declared.registers.offsets.TheConstants as offsets
use Rattle.uart_ring.specs.Ring.{RingDoing, RingFields, sendable}

-- 'Armed' is a property of accesses, and not of a chip: what was written to IER, what a look showed, which interrupt a
-- read of ISR acknowledged. So it holds over every backend that keeps IER. What a chip makes of it is a law of that
-- chip.

-- what is known of the chip's THR-empty interrupt: that it is enabled; that it is due, which means pending, or to
-- come once the chip has sent what it holds
pub record ThrEmpty : Type 0 where
  pub enabled : Bool
  pub due : Bool

-- ISR identifies this interrupt, so the read acknowledges it
abbrev pub shows_thr_empty : ℕ → Bool
shows_thr_empty isr = (field 0 1 isr == 0) && (field 1 3 isr == interrupt_code TransmitterHoldingRegisterEmpty)

-- whether it is due after a read: a transmitter without room holds a byte, and a read of ISR may acknowledge the
-- interrupt
abbrev pub due_after_read : (offset answer : ℕ) → Bool → Bool
due_after_read offset answer due =
    if offset == offsets.LSR then not (has answer LSR.THR_EMPTY.0) || due
    else if offset == offsets.ISR then not (shows_thr_empty answer) && due
    else due

-- what is known after an access: a byte that was written to DATA is held, IER keeps what is written to it, the outputs
-- in MCR have no part in it, and after a write of another register nothing is known; after a list of accesses
abbrev pub known_after : ThrEmpty → Access → ThrEmpty
known_after known (Read offset answer) =
    record { enabled = known.enabled; due = due_after_read offset answer known.due }
known_after known (Write offset value) =
    if offset == offsets.DATA then record { enabled = known.enabled; due = true }
    else if offset == offsets.IER then record { enabled = has value IER.THR_EMPTY.0; due = known.due }
    else if offset == offsets.MCR then known
    else record { enabled = false; due = false }

abbrev pub known_after_all : ThrEmpty → List Access → ThrEmpty
known_after_all known [] = known
known_after_all known (access ∷ accesses) = known_after_all (known_after known access) accesses

-- a read of IER shows THR_EMPTY if it is known to be enabled
abbrev pub IsTrueOfIer : ThrEmpty → Access → Type 0
IsTrueOfIer known (Read offset answer) = offset ≡ offsets.IER → known.enabled ≡ true → has answer IER.THR_EMPTY.0 ≡ true
IsTrueOfIer known (Write offset value) = ⊤

-- each read of IER shows what is known of THR_EMPTY
abbrev pub KeepsIer : ThrEmpty → List Access → Type 0
KeepsIer known [] = ⊤
KeepsIer known (access ∷ accesses) = IsTrueOfIer known access × KeepsIer (known_after known access) accesses

-- the rings are armed: there is nothing that may be sent, or the THR-empty interrupt is enabled and due
abbrev pub IsArmed : ThrEmpty → RingFields → Type 0
IsArmed known f = (sendable f ≡ []) ⊎ ((known.enabled ≡ true) × (known.due ≡ true))

-- no read of ISR, and no write of another register than DATA and MCR
abbrev pub IsHarmless : Access → Type 0
IsHarmless (Read offset answer) = (offset == offsets.ISR) ≡ false
IsHarmless (Write offset value) = (offset ≡ offsets.DATA) ⊎ (offset ≡ offsets.MCR)

-- no access reads ISR or writes a register other than DATA and MCR
abbrev pub AllHarmless : List Access → Type 0
AllHarmless [] = ⊤
AllHarmless (access ∷ accesses) = IsHarmless access × AllHarmless accesses

-- a call that does not check CTS leaves the rings armed, if they were armed before it and the chip keeps IER
abbrev pub LeavesArmed : RingDoing
LeavesArmed f l after =
    f.driver.config.check_cts_before_sending ≡ false → (known : ThrEmpty) → KeepsIer known l →
    IsArmed known f → IsArmed (known_after_all known l) after

-- a call that does not check CTS leaves the rings armed, however it found them
abbrev pub Arms : RingDoing
Arms f l after =
    f.driver.config.check_cts_before_sending ≡ false → (known : ThrEmpty) → IsArmed (known_after_all known l) after

-- a read of MSR in this list shows that CTS is clear
abbrev pub ShowsCtsClear : List Access → Type 0
ShowsCtsClear [] = ⊥
ShowsCtsClear (Read offset answer ∷ accesses) =
    ((offset ≡ offsets.MSR) × (has answer MSR.CTS.0 ≡ false)) ⊎ ShowsCtsClear accesses
ShowsCtsClear (Write offset value ∷ accesses) = ShowsCtsClear accesses

-- a call, whether it checks CTS or not, leaves the rings armed, however it found them, unless it read that CTS is clear
abbrev pub ArmsUnlessHeld : RingDoing
ArmsUnlessHeld f l after = (known : ThrEmpty) → IsArmed (known_after_all known l) after ⊎ ShowsCtsClear l
