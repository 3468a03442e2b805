-- The accesses of a session in blocks, and what each block writes to the data register and reads from it.
--
-- The laws are proved by blocks, and not by calls. There is a handful of kinds of blocks. Each kind is shown once over the
-- machine, and one induction composes them. A call then needs one lemma about lists, without a machine in it.
use Rattle.std.specs.Prelude.{◌≡◌, ℕ, ◌≤◌, Bool, true, ◌||◌, ◌==◌, List, [], ◌∷◌, ◌++◌, length, map, bit_or}
use Rattle.std.specs.List.{AllByRecursion}
use Rattle.uart_spec.specs.declared.access.Access.{Access}
use Rattle.uart_spec.specs.declared.access.Access.TheVariants.{Read, Write}
use Rattle.uart_spec.specs.Bits.{has_any}
use Rattle.uart_spec.specs.declared.registers.line_control.TheConstants.LCR
use Rattle.uart_spec.specs.declared.registers.line_status.TheConstants.LSR
use Rattle.uart_spec.specs.declared.registers.offsets.TheConstants as offsets

-- a look at the line status; one that shows data, and the byte taken; one that shows room, with checks of the modem lines, and the bytes
-- written; another access; the divisor latch read under DLAB
pub data Block : Type 0 where
  Look : (line : ℕ) → Block
  Hit : (line byte : ℕ) → Block
  Burst : (line : ℕ) (checks : List Access) (bytes : List ℕ) → Block
  Other : (access : Access) → Block
  Divisor : (lcr low high : ℕ) → Block

-- the accesses of a block
abbrev pub accesses_of : Block → List Access
accesses_of (Look line) = Read offsets.LSR line ∷ []
accesses_of (Hit line byte) = Read offsets.LSR line ∷ Read offsets.DATA byte ∷ []
accesses_of (Burst line checks bytes) = Read offsets.LSR line ∷ (checks ++ map (Write offsets.DATA) bytes)
accesses_of (Other access) = access ∷ []
accesses_of (Divisor lcr low high) =
    Read offsets.LCR lcr ∷ Write offsets.LCR (bit_or lcr LCR.DLAB.0) ∷ Read offsets.DLL low ∷ Read offsets.DLM high ∷
    Write offsets.LCR lcr ∷ []

-- the accesses of some blocks, one after the other
abbrev pub flat : List Block → List Access
flat [] = []
flat (block ∷ blocks) = accesses_of block ++ flat blocks

-- an access that touches neither the data nor the line status nor a mode
abbrev pub is_quiet : Access → Bool
is_quiet (Read offset answer) =
    (offset == offsets.IER) ||
    ((offset == offsets.ISR) ||
    ((offset == offsets.LCR) || ((offset == offsets.MCR) || ((offset == offsets.MSR) || (offset == offsets.SPR)))))
is_quiet (Write offset value) = (offset == offsets.IER) || (offset == offsets.SPR)

-- only such accesses
abbrev pub AllQuiet : List Access → Type 0
AllQuiet accesses = AllByRecursion (λ (access : Access). is_quiet access ≡ true) accesses

-- a block as a driver makes it that writes at most so many bytes after one look
abbrev pub IsFit : (most : ℕ) → Block → Type 0
IsFit most (Look line) = Unit {0}
IsFit most (Hit line byte) = has_any line LSR.DATA_READY.0 ≡ true
IsFit most (Burst line checks bytes) = (has_any line LSR.THR_EMPTY.0 ≡ true) × AllQuiet checks × (length bytes ≤ most)
IsFit most (Other access) = is_quiet access ≡ true
IsFit most (Divisor lcr low high) = Unit {0}

-- each of these blocks fits
abbrev pub AllFit : (most : ℕ) → List Block → Type 0
AllFit most blocks = AllByRecursion (IsFit most) blocks

-- the bytes written to the data register
abbrev pub written_in : Block → List ℕ
written_in (Burst line checks bytes) = bytes
written_in _ = []

-- the same of some blocks, in order
abbrev pub data_written : List Block → List ℕ
data_written [] = []
data_written (block ∷ blocks) = written_in block ++ data_written blocks

-- the bytes read from the data register; under DLAB none is
abbrev pub read_in : Block → List ℕ
read_in (Hit line byte) = byte ∷ []
read_in _ = []

-- the same of some blocks, in order
abbrev pub data_read : List Block → List ℕ
data_read [] = []
data_read (block ∷ blocks) = read_in block ++ data_read blocks
