-- Registers as sets of bits, and fields of neighbouring bits.
use Rattle.std.specs.Prelude.{◌≡◌, ℕ, ◌+◌, ◌/◌, ◌%◌, ◌^◌, ◌<◌, ◌≤◌, Bool, ◌==◌, not, ◌↔◌, ◌⊎◌, Option, Some, List}
use Rattle.std.specs.Prelude.{if◌then◌else◌}
use Rattle.std.specs.Int.RustNames.{bit_and}
use Rattle.bitflags.specs.Sets.{known_bits}

-- whether all of these bits are set in the value
abbrev pub has : ℕ → ℕ → Bool
has value bits = bit_and value bits == bits

-- the value has at least one of these bits
abbrev pub has_any : ℕ → ℕ → Bool
has_any value bits = not (bit_and value bits == 0)

-- no bit outside of the mask is set
abbrev pub IsWithin : ℕ → ℕ → Type 0
IsWithin value mask = bit_and value mask ≡ value

-- these bits if the flag is set, else no bits
abbrev pub flag : Bool → ℕ → ℕ
flag on bits = if on then bits else 0

-- the number in a field, which is given by its lowest bit and its width
abbrev pub field : (lowest width value : ℕ) → ℕ
field lowest width value = value / 2 ^ lowest % 2 ^ width

-- the eight bits are the same in both values, except those of a field
abbrev pub SameOutside : (lowest width old new : ℕ) → Type 0
SameOutside lowest width old new =
    (place : ℕ) →
    -- it is one of the eight bits
    place < 8 →
    -- it is none of the field
    (place < lowest) ⊎ (lowest + width ≤ place) → field place 1 new ≡ field place 1 old

-- no byte has a bit that is not in the table of named bits
abbrev pub NamesEachByte : List (List ℕ × ℕ) → Type 0
NamesEachByte table = (byte : ℕ) → byte < 256 → bit_and byte (known_bits table) ≡ byte

-- this value and no other has the property
abbrev pub IsOnly : {A : Type 0} → (A → Type 0) → A → Type 0
IsOnly {A} P x = (y : A) → (x ≡ y) ↔ P y

-- the one value that has the property, or none if no value has it
abbrev pub IsOnlyIfAny : {A : Type 0} → (A → Type 0) → Option A → Type 0
IsOnlyIfAny {A} P o = (y : A) → (o ≡ Some y) ↔ P y
