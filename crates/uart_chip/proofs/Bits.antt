-- Bits of registers that are put together.
use Rattle.std.proofs.Common.{◌≡◌, ℕ, zero, suc, ◌*◌, ◌%◌, ◌^◌, ◌<◌, max, min, Bool, true, false, not, ◌==◌, ◌||◌, ◌&&◌, refl, arith, sym}
use Rattle.std.proofs.Common.{◌∙◌, ap, bit_and, bit_or, ◌+◌}
use Rattle.std.proofs.lemmas.Grind.{common_steps}
use Rattle.std.specs.Int.{bit_at}
use Rattle.std.proofs.lemmas.Nat.Bits.{same_from_bits, bit_at_or, bit_at_and, and_pow, bit_at-lt}
use Rattle.std.proofs.lemmas.Nat.{pow_pos}
use Rattle.std.specs.Int.Bits.{and_zero_l}
use lib.Bits.{or_zero_r}
use Rattle.uart_spec.specs.Bits.{has, has_any, field, IsOnly, flag}
use Rattle.uart_spec.specs.Fields.{trigger_code, HasTrigger}
use Rattle.uart_spec.specs.declared.registers.fifo_trigger_level.FifoTriggerLevel.{FifoTriggerLevel}
use Rattle.uart_spec.specs.declared.registers.line_control.TheConstants.LCR
use Rattle.uart_chip.specs.Chip.{word_length, cut_to, level_of, trigger_level}

-- ---- joins

pub or_assoc : (a b c : ℕ) → bit_or (bit_or a b) c ≡ bit_or a (bit_or b c)
or_assoc a b c = same_from_bits _ _ (λ i. simp bit_at_or (omega arith))

-- a mask of a join
pub and_or : (a b mask : ℕ) → bit_and (bit_or a b) mask ≡ bit_or (bit_and a mask) (bit_and b mask)
and_or a b mask = same_from_bits _ _ (λ i. simp (bit_at_and, bit_at_or) (omega arith))

-- the divisor latch has nothing to do with the word length
pub word_same : (lcr : ℕ) → word_length (bit_or lcr LCR.DLAB.0) ≡ word_length lcr
word_same lcr = ap (λ (more : ℕ). 5 + more) (and_or lcr LCR.DLAB.0 LCR.WORD_LENGTH.0 ∙ or_zero_r (bit_and lcr LCR.WORD_LENGTH.0))

-- ---- one bit

-- a digit times a power is a digit
digit_test : (v p : ℕ) → v < 2 → 0 < p → not (v * p == 0) ≡ (v == 1)
digit_test zero p h k = grind (arith, common_steps)
digit_test (suc zero) p h k = grind (arith, common_steps)
digit_test (suc (suc v)) p h k = absurd (omega arith)

whole_test : (v p : ℕ) → v < 2 → 0 < p → (v * p == p) ≡ (v == 1)
whole_test zero p h k = grind (arith, common_steps)
whole_test (suc zero) p h k = grind (arith, common_steps)
whole_test (suc (suc v)) p h k = absurd (omega arith)

max_test : (x y : ℕ) → x < 2 → y < 2 → (max x y == 1) ≡ (x == 1 || y == 1)
max_test zero zero h k = refl
max_test zero (suc zero) h k = refl
max_test (suc zero) zero h k = refl
max_test (suc zero) (suc zero) h k = refl
max_test (suc (suc x)) y h k = absurd (omega arith)
max_test zero (suc (suc y)) h k = absurd (omega arith)
max_test (suc zero) (suc (suc y)) h k = absurd (omega arith)

min_one : (v w : ℕ) → v < 2 → w ≡ 1 → (min v w == 1) ≡ (v == 1)
min_one zero w h e = rw e refl
min_one (suc zero) w h e = rw e refl
min_one (suc (suc v)) w h e = absurd (omega arith)

pub has_bit : (k n : ℕ) → has_any n (2 ^ k) ≡ (bit_at n k == 1)
has_bit k n = rw (and_pow n k) (digit_test (bit_at n k) (2 ^ k) (bit_at-lt n k) (pow_pos k))

-- a single bit is there wholly or not at all
pub has_one : (k n : ℕ) → has n (2 ^ k) ≡ has_any n (2 ^ k)
has_one k n = rw (and_pow n k) (whole_test (bit_at n k) (2 ^ k) (bit_at-lt n k) (pow_pos k)) ∙ sym (has_bit k n)

-- a join has a bit where one part has it
pub has_or : (k a b : ℕ) → has_any (bit_or a b) (2 ^ k) ≡ (has_any a (2 ^ k) || has_any b (2 ^ k))
has_or k a b =
    let p = has_bit k a in
    let q = has_bit k b in
    let r = has_bit k (bit_or a b) in
    let m = max_test (bit_at a k) (bit_at b k) (bit_at-lt a k) (bit_at-lt b k) in
    let e : (bit_at (bit_or a b) k == 1) ≡ (max (bit_at a k) (bit_at b k) == 1) = ap (λ v. v == 1) (bit_at_or a b k) in
    r ∙ (e ∙ (m ∙ sym (ap (λ u. u || has_any b (2 ^ k)) p ∙ ap (λ v. (bit_at a k == 1) || v) q)))

-- a mask that has the bit leaves it as it is
pub has_and : (k a mask : ℕ) → bit_at mask k ≡ 1 → has_any (bit_and a mask) (2 ^ k) ≡ has_any a (2 ^ k)
has_and k a mask e =
    has_bit k (bit_and a mask) ∙
    (ap (λ v. v == 1) (bit_at_and a mask k) ∙ (min_one (bit_at a k) (bit_at mask k) (bit_at-lt a k) e ∙ sym (has_bit k a)))

-- a mask that lacks the bit takes it away
pub has_not : (k a mask : ℕ) → bit_at mask k ≡ 0 → has_any (bit_and a mask) (2 ^ k) ≡ false
has_not k a mask e =
    has_bit k (bit_and a mask) ∙
    (ap (λ v. v == 1) (bit_at_and a mask k) ∙ (ap (λ v. min (bit_at a k) v == 1) e ∙ grind (arith, common_steps)))

pub has_none : (k : ℕ) → has_any 0 (2 ^ k) ≡ false
has_none k = ap (λ v. not (v == 0)) (and_zero_l (2 ^ k))

pub has_flag : (b : Bool) (bits mask : ℕ) → has_any (flag b bits) mask ≡ (b && has_any bits mask)
has_flag true bits mask = refl
has_flag false bits mask = ap (λ v. not (v == 0)) (and_zero_l mask)

-- ---- the word length

field_bits : (value : ℕ) → field 0 2 value ≡ bit_and value LCR.WORD_LENGTH.0
field_bits value = grind (arith, common_steps)

-- with this code in LCR a byte is cut so
pub cut_with : (cuts : Bool) (lcr code byte : ℕ) → cuts ≡ true → field 0 2 lcr ≡ code →
    byte % 2 ^ (5 + code) ≡ cut_to cuts (word_length lcr) byte
cut_with cuts lcr code byte on e =
    sym (ap (λ (b : Bool). cut_to b (word_length lcr) byte) on ∙ ap (λ (more : ℕ). byte % 2 ^ (5 + more)) (sym (field_bits lcr) ∙ e))

-- ---- the trigger level

coded : (code : ℕ) → code < 4 → code ≡ trigger_code (level_of code)
coded (suc (suc (suc (suc n)))) h = absurd (omega arith)
coded _ h = refl

-- the only level whose code is in FCR
pub only_level : (fcr : ℕ) (level : FifoTriggerLevel) → IsOnly (HasTrigger 6 fcr) level → level ≡ trigger_level fcr
only_level fcr level only = (only (trigger_level fcr)).1 (coded (field 6 2 fcr) (grind (arith, common_steps)))
