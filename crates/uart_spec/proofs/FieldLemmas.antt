-- A field that is written over, with the other places kept by a mask.
use Rattle.std.proofs.Common.{◌≡◌, ℕ, ◌+◌, ◌*◌, ◌/◌, ◌%◌, ◌^◌, ◌<◌, Bool, true, ◌==◌, ◌||◌, ◌&&◌, nat_lt, nat_le, refl, arith, ◌∙◌, ap}
use Rattle.std.proofs.Common.{bit_and, bit_or}
use Rattle.std.proofs.lemmas.Grind.{common_steps}
use Rattle.std.proofs.lemmas.Bool.{agree_below, agree_below_at}
use Rattle.std.proofs.lemmas.Bool.Decides.{nat_tests}
use Rattle.std.proofs.lemmas.Nat.{and_mask, or_shr, or_mod, and_shr, and_mod, mod_below}
use Rattle.std.specs.Int.Bits.{and_zero_r}
use Rattle.uart_spec.specs.Bits.{field, SameOutside}
use Rattle.uart_spec.specs.Fields.{trigger_code, word_length_code, parity_code, parity_places}
use Rattle.uart_spec.specs.declared.registers.fifo_trigger_level.FifoTriggerLevel.{FifoTriggerLevel}
use Rattle.uart_spec.specs.declared.registers.fifo_trigger_level.FifoTriggerLevel.TheVariants.{One, Four, Eight, Fourteen}
use Rattle.uart_spec.specs.declared.registers.frame.WordLength.{WordLength}
use Rattle.uart_spec.specs.declared.registers.frame.WordLength.TheVariants.{FiveBits, SixBits, SevenBits, EightBits}
use Rattle.uart_spec.specs.declared.registers.frame.Parity.{Parity}
use Rattle.uart_spec.specs.declared.registers.frame.Parity.TheVariants.{Disabled, Odd, Even, Forced1, Forced0}

pub field_or : (lowest width a b : ℕ) → field lowest width (bit_or a b) ≡ bit_or (field lowest width a) (field lowest width b)
field_or lowest width a b = rw (or_shr a b lowest) (or_mod (a / 2 ^ lowest) (b / 2 ^ lowest) width)

pub field_and : (lowest width a b : ℕ) → field lowest width (bit_and a b) ≡ bit_and (field lowest width a) (field lowest width b)
field_and lowest width a b = rw (and_shr a b lowest) (and_mod (a / 2 ^ lowest) (b / 2 ^ lowest) width)

-- a field of a value that is masked and joined with a code
pub field_masked : (lowest width value mask code : ℕ) →
    field lowest width (bit_or (bit_and value mask) code) ≡ bit_or (bit_and (field lowest width value) (field lowest width mask))
    (field lowest width code)
field_masked lowest width value mask code =
    field_or lowest width (bit_and value mask) code ∙ ap (λ low. bit_or low (field lowest width code)) (field_and lowest width value mask)

-- a field that the mask has none of shows the code
pub field_written : (lowest width value mask code : ℕ) → field lowest width mask ≡ 0 →
    field lowest width (bit_or (bit_and value mask) code) ≡ field lowest width code
field_written lowest width value mask code clear =
    field_masked lowest width value mask code ∙ rw (clear, and_zero_r (field lowest width value)) refl

-- a place that the mask has and the code has not is kept
pub place_kept : (place value mask code : ℕ) → field place 1 mask ≡ 1 → field place 1 code ≡ 0 →
    field place 1 (bit_or (bit_and value mask) code) ≡ field place 1 value
place_kept place value mask code kept clear =
    let digit : field place 1 value < 2 = mod_below (value / 2 ^ place) (2 ^ 1) (omega arith) in
    let one = and_mask (field place 1 value) 1 in
    field_masked place 1 value mask code ∙ rw (kept, clear) (grind (arith, common_steps, one))

-- whether the mask has each place outside of the field, and the code has none of them
abbrev pub keeps_outside : (lowest width mask code : ℕ) → Bool
keeps_outside lowest width mask code =
    agree_below
    (λ place. (nat_le lowest place && nat_lt place (lowest + width)) || ((field place 1 mask == 1) && (field place 1 code == 0)))
    (λ _. true) 8

pub same_outside : (lowest width mask code value : ℕ) → keeps_outside lowest width mask code ≡ true →
    SameOutside lowest width value (bit_or (bit_and value mask) code)
same_outside lowest width mask code value keeps place below outside =
    let test =
    agree_below_at
    (λ place. (nat_le lowest place && nat_lt place (lowest + width)) || ((field place 1 mask == 1) && (field place 1 code == 0)))
    (λ _. true) 8 place keeps below in
    place_kept place value mask code (grind (arith, nat_tests)) (grind (arith, nat_tests))

pub trigger_others : (value : ℕ) (level : FifoTriggerLevel) →
    SameOutside 6 2 value (bit_or (bit_and value 63) (trigger_code level * 64 % 256))
trigger_others value One = same_outside 6 2 63 0 value refl
trigger_others value Four = same_outside 6 2 63 64 value refl
trigger_others value Eight = same_outside 6 2 63 128 value refl
trigger_others value Fourteen = same_outside 6 2 63 192 value refl

pub word_length_own : (value : ℕ) (length : WordLength) →
    field 0 2 (bit_or (bit_and value 252) (word_length_code length)) ≡ word_length_code length
word_length_own value FiveBits = field_written 0 2 value 252 0 refl
word_length_own value SixBits = field_written 0 2 value 252 1 refl
word_length_own value SevenBits = field_written 0 2 value 252 2 refl
word_length_own value EightBits = field_written 0 2 value 252 3 refl

pub word_length_others : (value : ℕ) (length : WordLength) → SameOutside 0 2 value (bit_or (bit_and value 252) (word_length_code length))
word_length_others value FiveBits = same_outside 0 2 252 0 value refl
word_length_others value SixBits = same_outside 0 2 252 1 value refl
word_length_others value SevenBits = same_outside 0 2 252 2 value refl
word_length_others value EightBits = same_outside 0 2 252 3 value refl

pub parity_own : (value : ℕ) (parity : Parity) →
    field 3 (parity_places parity) (bit_or (bit_and value 199) (parity_code parity * 8 % 256)) ≡ parity_code parity
parity_own value Disabled = field_written 3 1 value 199 0 refl
parity_own value Odd = field_written 3 3 value 199 8 refl
parity_own value Even = field_written 3 3 value 199 24 refl
parity_own value Forced1 = field_written 3 3 value 199 40 refl
parity_own value Forced0 = field_written 3 3 value 199 56 refl

pub parity_others : (value : ℕ) (parity : Parity) → SameOutside 3 3 value (bit_or (bit_and value 199) (parity_code parity * 8 % 256))
parity_others value Disabled = same_outside 3 3 199 0 value refl
parity_others value Odd = same_outside 3 3 199 8 value refl
parity_others value Even = same_outside 3 3 199 24 value refl
parity_others value Forced1 = same_outside 3 3 199 40 value refl
parity_others value Forced0 = same_outside 3 3 199 56 value refl

pub factor_own : (value factor : ℕ) → factor < 16 → field 0 4 (bit_or (bit_and value 240) factor) ≡ factor
factor_own value factor below = field_written 0 4 value 240 factor refl ∙ grind (arith, common_steps)

pub factor_others : (value factor : ℕ) → factor < 16 → SameOutside 0 4 value (bit_or (bit_and value 240) factor)
factor_others value factor below =
    same_outside 0 4 240 factor value (agree_below_at (keeps_outside 0 4 240) (λ _. true) 16 factor refl below)
