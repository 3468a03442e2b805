-- What the contracts of the accesses come to: whether LCR is as written, what is read from the receiver, how long it
-- takes.
use Rattle.std.specs.Prelude.{◌≡◌, ◌+◌, ◌*◌, ◌≤◌, ◌==◌, ◌⊎◌, ℕ, true, false, List, [], ◌∷◌, ◌++◌, Some, length, map}
use Rattle.std.specs.Prelude.{if◌then◌else◌}
use Rattle.uart_spec.specs.declared.access.Access.{Access}
use Rattle.uart_spec.specs.declared.access.Access.TheVariants.{Read, Write}
use Rattle.uart_spec.specs.declared.registers.offsets.TheConstants as offsets
use Rattle.uart_design_ware.specs.declared.fault.DesignWareFault.TheVariants.{LineControlIgnored}
use Rattle.uart_design_ware.specs.declared.kept.KeptCharacter.{KeptCharacter}
use Rattle.uart_design_ware.specs.declared.kept.TheConstants.{KEPT}
use Rattle.uart_design_ware.specs.Held.{Held}
use Rattle.uart_design_ware.specs.Line.{shows_line}
use Rattle.uart_design_ware.specs.Serving.{Answers, Performs, is_latch}

-- the byte that an access read from DATA, or none
abbrev pub read_from_data : Access → List ℕ
read_from_data (Read offset answer) = if offset == offsets.DATA then answer ∷ [] else []
read_from_data (Write offset value) = []

-- the bytes that a list read from DATA
abbrev pub taken : List Access → List ℕ
taken [] = []
taken (access ∷ accesses) = read_from_data access ++ taken accesses

-- the bytes of the characters that are kept
abbrev pub bytes_of : List KeptCharacter → List ℕ
bytes_of kept = map (λ character. character.byte) kept

-- LCR was written and read back, and showed what was written. Behind that IER alone may be written
pub record IsTaken (line : ℕ) (l : List Access) : Type 0 where
  pub before : List Access
  pub behind : List Access
  pub shown : ℕ
  pub is : l ≡ before ++ Write offsets.LCR line ∷ Read offsets.LCR shown ∷ behind
  pub shows : shows_line shown line ≡ true
  pub last : (behind ≡ []) ⊎ ((value : ℕ) × (behind ≡ Write offsets.IER value ∷ []))

-- after each write of LCR by the driver LCR is as written, or there is a fault that says that it is not
abbrev pub LineIsTakenOrTold : Type 0
LineIsTakenOrTold = (line : ℕ) (h after : Held) (l : List Access) → Performs offsets.LCR line h l after →
    IsTaken line l ⊎ (after.fault ≡ Some LineControlIgnored)

-- what a write of LCR reads from DATA is kept, in order, behind what was kept before
abbrev pub LineKeepsBytes : Type 0
LineKeepsBytes = (line : ℕ) (h after : Held) (l : List Access) → Performs offsets.LCR line h l after →
    bytes_of after.kept ≡ bytes_of h.kept ++ taken l

-- a read of DATA by the driver returns the first byte of those that are kept and, behind them, those that it reads, and
-- the others stay. If DATA cannot be reached, it returns 0, and nothing is read
abbrev pub DataHandsOn : Type 0
DataHandsOn = (answer : ℕ) (h after : Held) (l : List Access) →
    -- the offset of DATA is not that of the divisor latch now
    is_latch offsets.DATA h ≡ false →
    Answers offsets.DATA answer h l after →
    ((answer ≡ 0) × (taken l ≡ []) × (bytes_of after.kept ≡ bytes_of h.kept))
    ⊎ (bytes_of h.kept ++ taken l ≡ answer ∷ bytes_of after.kept)

-- a read of LSR by the driver reads nothing from DATA, and all that is kept stays
abbrev pub StatusTakesNothing : Type 0
StatusTakesNothing = (answer : ℕ) (h after : Held) (l : List Access) → Answers offsets.LSR answer h l after →
    (taken l ≡ []) × (bytes_of after.kept ≡ bytes_of h.kept)

-- the most accesses that a write of LCR makes under this patience
abbrev pub most_accesses : ℕ → ℕ
most_accesses patience = patience * 6 + 3 + 2 * KEPT

-- a write of LCR is bounded, if no more characters are kept than there is room for. Nor are there more afterwards
abbrev pub LineIsBounded : Type 0
LineIsBounded = (line : ℕ) (h after : Held) (l : List Access) →
    -- no more characters are kept than there is room for
    length h.kept ≤ KEPT →
    Performs offsets.LCR line h l after → (length l ≤ most_accesses h.patience) × (length after.kept ≤ KEPT)
