-- Accesses to the eight registers, paths of accesses, and the bits of their answers that the driver saves.
use Rattle.std.specs.Prelude.{◌≡◌, ℕ, List, [], ◌∷◌, ◌==◌, if◌then◌else◌}
use Rattle.std.specs.Int.RustNames.{bit_and, bit_or}
use Rattle.uart_spec.specs.declared.access.Access.{Access}
use Rattle.uart_spec.specs.declared.access.Access.TheVariants.{Read, Write}
use Rattle.uart_spec.specs.declared.registers.line_status.TheConstants.LSR
use Rattle.uart_spec.specs.declared.registers.modem_status.TheConstants.MSR
use Rattle.uart_spec.specs.declared.registers.offsets.TheConstants as offsets

-- these accesses lead from one state of the backend to another, one step after another
abbrev pub Path : {S : Type 0} → (S → Access → S → Type 0) → S → List Access → S → Type 0
Path step a [] b = b ≡ a
Path {S} step a (access ∷ accesses) b = (mid : S) × step a access mid × Path step mid accesses b

-- the bits of this register, among those of the mask, that one access read
abbrev pub saved_of : ℕ → ℕ → Access → ℕ
saved_of register mask (Read offset answer) = if offset == register then bit_and answer mask else 0
saved_of register mask (Write offset value) = 0

-- the union of these bits over a list
abbrev pub saved : ℕ → ℕ → List Access → ℕ
saved register mask [] = 0
saved register mask (access ∷ accesses) = bit_or (saved_of register mask access) (saved register mask accesses)

-- the line errors that a list saw: LSR bits 1 to 4
abbrev pub saved_lsr : List Access → ℕ
saved_lsr = saved offsets.LSR LSR.LINE_ERRORS.0

-- the changes of modem lines that the reads of MSR returned
abbrev pub saved_msr : List Access → ℕ
saved_msr = saved offsets.MSR MSR.CHANGES.0
