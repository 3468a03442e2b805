-- Whether the chip shows what was written to it, register by register.
use Rattle.std.specs.Prelude.{◌≡◌, ◌≢◌, ◌⊎◌, ◌+◌, ◌*◌, ℕ, Bool, List, [], ◌∷◌, Option, Some, None, Result, Ok, Err}
use Rattle.std.specs.Int.RustNames.{bit_or}
use Rattle.bitflags.specs.Sets.{without}
use Rattle.uart_spec.specs.Bits.{has}
use Rattle.uart_spec.specs.Config.{IsComputable}
use Rattle.uart_spec.specs.declared.access.Access.{Access}
use Rattle.uart_spec.specs.declared.access.Access.TheVariants.{Read, Write}
use Rattle.uart_spec.specs.declared.config.Config.{Config}
use Rattle.uart_spec.specs.declared.errors.ConfigurationError.{ConfigurationError}
use Rattle.uart_spec.specs.declared.errors.ConfigurationError.TheVariants.{NoDivisor, LineControl, ModemControl}
use Rattle.uart_spec.specs.declared.errors.ConfigurationError.TheVariants.{Interrupts, Divisor, Fifos}
use Rattle.uart_spec.specs.declared.errors.InvalidDivisorError.{InvalidDivisorError}
use Rattle.uart_spec.specs.declared.registers.interrupt_status.TheConstants.ISR
use Rattle.uart_spec.specs.declared.registers.line_control.TheConstants.LCR
use Rattle.uart_spec.specs.declared.registers.offsets.TheConstants as offsets
use Rattle.uart_16550.specs.Grammar.{Language, Only, Then}
use Rattle.uart_16550.specs.Frame.{unlooped}
use Rattle.uart_16550.specs.Init.{DivisorOf, frame_bits}

-- what a check finds: nothing, or what is wrong
abbrev pub Verdict : Type 0
Verdict = Result (Unit {0}) ConfigurationError

-- one read of a register, which shows what is right; or which shows something else, and this is the error for it
abbrev pub Shows : (register : ℕ) → (IsRight : ℕ → Type 0) → (fault : ℕ → ConfigurationError) → Verdict → Language
Shows register IsRight fault (Ok x) s l = (shown : ℕ) × IsRight shown × (l ≡ Read register shown ∷ [])
Shows register IsRight fault (Err e) s l =
    (shown : ℕ) × (IsRight shown → ⊥) × (e ≡ fault shown) × (l ≡ Read register shown ∷ [])

-- the first check, and then, if it found nothing, the second
abbrev pub InTurn : (P Q : Verdict → Language) → Verdict → Language
InTurn P Q (Ok x) s l = Then (P (Ok x)) (Q (Ok x)) s l
InTurn P Q (Err e) s l = P (Err e) s l ⊎ Then (P (Ok tt)) (Q (Err e)) s l

-- ---- registers that are read

-- LCR shows this frame, with or without a break
abbrev pub ShowsFrame : (frame : ℕ) → Verdict → Language
ShowsFrame frame = Shows offsets.LCR (λ shown. without 8 shown LCR.SET_BREAK.0 ≡ frame)
    (λ shown. LineControl (record { 0 = frame }) (record { 0 = shown }))

-- MCR shows these outputs
abbrev pub ShowsOutputs : (outputs : ℕ) → Verdict → Language
ShowsOutputs outputs = Shows offsets.MCR (λ shown. shown ≡ outputs)
    (λ shown. ModemControl (record { 0 = outputs }) (record { 0 = shown }))

-- IER shows these interrupts
abbrev pub ShowsInterrupts : (interrupts : ℕ) → Verdict → Language
ShowsInterrupts interrupts = Shows offsets.IER (λ shown. shown ≡ interrupts)
    (λ shown. Interrupts (record { 0 = interrupts }) (record { 0 = shown }))

-- ---- the divisor latch

-- LCR is written with this value, and shows it
abbrev pub KeepsLine : (value : ℕ) → Verdict → Language
KeepsLine value result = Then (Only (Write offsets.LCR value ∷ [])) (Shows offsets.LCR (λ shown. shown ≡ value)
    (λ shown. LineControl (record { 0 = value }) (record { 0 = shown })) result)

-- LCR shows that the latch was opened; or not, and then LCR is written back
abbrev pub OpensLatch : (lcr : ℕ) → Verdict → Language
OpensLatch lcr (Ok x) = KeepsLine (bit_or lcr LCR.DLAB.0) (Ok x)
OpensLatch lcr (Err e) = Then (KeepsLine (bit_or lcr LCR.DLAB.0) (Err e)) (Only (Write offsets.LCR lcr ∷ []))

-- the divisor that was read is this one, or not; no access
abbrev pub IsDivisor : (divisor shown : ℕ) → Verdict → Language
IsDivisor divisor shown (Ok x) s l = (shown ≡ divisor) × (l ≡ [])
IsDivisor divisor shown (Err e) s l = (shown ≢ divisor) × (e ≡ Divisor divisor shown) × (l ≡ [])

-- the open latch is read; LCR shows that it was closed; and then the divisor is compared
abbrev pub ReadsLatch : (divisor lcr : ℕ) → Verdict → Language
ReadsLatch divisor lcr result s l = (low : ℕ) × (high : ℕ) ×
    Then (Only (Read offsets.DLL low ∷ Read offsets.DLM high ∷ []))
    (InTurn (KeepsLine lcr) (IsDivisor divisor (256 * high + low)) result) s l

-- LCR is read, and then the latch opened and read. If it was not opened, it is not read
abbrev pub ShowsDivisor : (divisor : ℕ) → Verdict → Language
ShowsDivisor divisor result s l = (lcr : ℕ) ×
    Then (Only (Read offsets.LCR lcr ∷ [])) (InTurn (OpensLatch lcr) (ReadsLatch divisor lcr) result) s l

-- ---- the FIFOs

-- a look at ISR while no interrupt is enabled, so that none is acknowledged
abbrev pub fifo_look : (interrupts isr : ℕ) → List Access
fifo_look interrupts isr = Write offsets.IER 0 ∷ Read offsets.ISR isr ∷ Write offsets.IER interrupts ∷ []

-- ISR shows that the FIFOs are on exactly if the driver takes them to be on
abbrev pub ShowsFifos : (interrupts : ℕ) → Verdict → Language
ShowsFifos interrupts (Ok x) s l = (isr : ℕ) × (has isr ISR.FIFOS_ENABLED.0 ≡ s.fifo) × (l ≡ fifo_look interrupts isr)
ShowsFifos interrupts (Err e) s l = (isr : ℕ) × (has isr ISR.FIFOS_ENABLED.0 ≢ s.fifo)
    × (e ≡ Fifos s.fifo (has isr ISR.FIFOS_ENABLED.0)) × (l ≡ fifo_look interrupts isr)

-- ---- all of it

-- the registers in turn. What is only read comes first, so that a fault there is found before anything is written
abbrev pub ShowsAll : (frame outputs interrupts divisor : ℕ) → Verdict → Language
ShowsAll frame outputs interrupts divisor =
    InTurn (ShowsFrame frame) (InTurn (ShowsOutputs outputs) (InTurn (ShowsInterrupts interrupts)
    (InTurn (ShowsDivisor divisor) (ShowsFifos interrupts))))

-- the divisor of a configuration, or none if there is none or none can be computed
abbrev pub IsDivisorIfAny : Config → Option ℕ → Type 0
IsDivisorIfAny config (Some divisor) = IsComputable config × DivisorOf config (Ok divisor)
IsDivisorIfAny config None = IsComputable config → (cause : InvalidDivisorError) × DivisorOf config (Err cause)

-- `check_configured`: the registers show the configuration and these outputs, without loopback; or one does not, and
-- the error has what was asked for and what it shows; or the configuration has no divisor, and no access was made
abbrev pub ChecksConfigured : Config → (outputs : ℕ) → Verdict → Language
ChecksConfigured config outputs (Ok x) s l = (divisor : ℕ) × IsDivisorIfAny config (Some divisor)
    × ShowsAll (frame_bits config) (unlooped outputs) config.interrupts.0 divisor (Ok x) s l
ChecksConfigured config outputs (Err e) s l =
    (IsDivisorIfAny config None × (e ≡ NoDivisor) × (l ≡ []))
    ⊎ ((divisor : ℕ) × IsDivisorIfAny config (Some divisor)
    × ShowsAll (frame_bits config) (unlooped outputs) config.interrupts.0 divisor (Err e) s l)
