-- Registers whose bits lie within a mask.
use Rattle.std.proofs.Common.{◌≡◌, ℕ, ◌≤◌, max, min, Bool, true, false, arith, sym, ◌∙◌, ap, bit_and, bit_or}
use Rattle.std.specs.Int.{bit_at}
use Rattle.std.specs.Int.Bits.{and_self}
use Rattle.std.proofs.lemmas.Nat.{and_assoc, and_le_r}
use Rattle.std.proofs.lemmas.Nat.Bits.{bit_at_or, bit_at_and, same_from_bits}
use Rattle.uart_spec.specs.Bits.{IsWithin, flag}

-- what a mask leaves lies within it
pub within_and : (value mask : ℕ) → IsWithin (bit_and value mask) mask
within_and value mask = and_assoc mask value mask ∙ ap (λ m. bit_and value m) (and_self mask)

-- a join is within the mask of its parts
pub within_or : (a b mask : ℕ) → IsWithin a mask → IsWithin b mask → IsWithin (bit_or a b) mask
within_or a b mask p q = same_from_bits (bit_and (bit_or a b) mask) (bit_or a b) at
  where
    at : (i : ℕ) → bit_at (bit_and (bit_or a b) mask) i ≡ bit_at (bit_or a b) i
    at i =
        let x : min (bit_at a i) (bit_at mask i) ≡ bit_at a i = sym (bit_at_and a mask i) ∙ ap (λ n. bit_at n i) p in
        let y : min (bit_at b i) (bit_at mask i) ≡ bit_at b i = sym (bit_at_and b mask i) ∙ ap (λ n. bit_at n i) q in
        bit_at_and (bit_or a b) mask i ∙
        (ap (λ n. min n (bit_at mask i)) (bit_at_or a b i) ∙
        (joined (bit_at a i) (bit_at b i) (bit_at mask i) x y ∙ sym (bit_at_or a b i)))
      where
        joined : (x y z : ℕ) → min x z ≡ x → min y z ≡ y → min (max x y) z ≡ max x y
        joined x y z p q = omega arith

-- a flag's bits are within the mask that they are within when it is set
pub within_flag : (on : Bool) (bits mask : ℕ) → IsWithin bits mask → IsWithin 0 mask → IsWithin (flag on bits) mask
within_flag true bits mask p q = p
within_flag false bits mask p q = q

-- what lies within a mask is no larger
pub within-le : (value mask : ℕ) → IsWithin value mask → value ≤ mask
within-le value mask p = let h : bit_and value mask ≤ mask = and_le_r value mask in omega (arith, h, p)

-- four flags that are joined
pub within_flags : (a b c d : Bool) (p q r s mask : ℕ) → IsWithin p mask → IsWithin q mask → IsWithin r mask → IsWithin s mask →
    IsWithin 0 mask →
    IsWithin (bit_or (bit_or (flag a p) (flag b q)) (bit_or (flag c r) (flag d s))) mask
within_flags a b c d p q r s mask p_in q_in r_in s_in none =
    within_or (bit_or (flag a p) (flag b q)) (bit_or (flag c r) (flag d s)) mask
    (within_or (flag a p) (flag b q) mask (within_flag a p mask p_in none) (within_flag b q mask q_in none))
    (within_or (flag c r) (flag d s) mask (within_flag c r mask r_in none) (within_flag d s mask s_in none))
