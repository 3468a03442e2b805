-- The time of a character, from the divisor; and a quotient of a product, from that of one of its factors.
use Rattle.std.proofs.Common.{◌≡◌, ℕ, ◌+◌, ◌*◌, ◌<◌, ◌≤◌, ◌⊎◌, inl, inr, sym, subst, arith, ap}
use Rattle.std.proofs.Common.{Option, None, Some, SomeIff, IfSome, IfNone}
use Rattle.std.proofs.lemmas.Bool.{cases_lt}
use Rattle.std.proofs.Math.Nat.{mul-le-mul_left}

-- at frequency f and rate b, with prescaler p and divisor d, of so many halves of bits
pub time_of : (f b p d halves : ℕ) → 16 * (p + 1) * b * d ≡ f → 2 * b * (8 * (p + 1) * d * halves) ≡ f * halves
time_of f b p d halves exact = omega (arith, ap (λ n. n * halves) exact)

-- v is q times p and r, and r times t, with m, is s times p and u: so v times t, with m, is q times t and s, times p, and u
pub scaled_low : (v t p m q r s u : ℕ) → q * p + r ≡ v → s * p + u ≡ r * t + m → (q * t + s) * p ≤ v * t + m
scaled_low v t p m q r s u whole rest = omega (arith, ap (λ (n : ℕ). n * t) whole, rest)

pub scaled_high : (v t p m q r s u : ℕ) → q * p + r ≡ v → s * p + u ≡ r * t + m → u < p →
    v * t + m < (q * t + s + 1) * p
scaled_high v t p m q r s u whole rest below = omega (arith, ap (λ (n : ℕ). n * t) whole, rest, below)

-- and if q times t, or that and s, is too much, so is the quotient
pub scaled_over : (limit v t p m q r : ℕ) → q * p + r ≡ v → limit ≤ q * t → limit * p ≤ v * t + m
scaled_over limit v t p m q r whole over =
    omega (arith, ap (λ (n : ℕ). n * t) whole, mul-le-mul_left p over)

pub scaled_over_sum : (limit v t p m q r s u : ℕ) → q * p + r ≡ v → s * p + u ≡ r * t + m → limit ≤ q * t + s →
    limit * p ≤ v * t + m
scaled_over_sum limit v t p m q r s u whole rest over =
    omega (arith, ap (λ (n : ℕ). n * t) whole, rest, mul-le-mul_left p over)

-- what is not below is at least as much
pub le_of_not : (m n : ℕ) → ¬ (m < n) → n ≤ m
le_of_not m n is = of (cases_lt m n)
  where
    of : (m < n) ⊎ (n ≤ m) → n ≤ m
    of (inl less) = absurd (is less)
    of (inr more) = more

-- what a test of a sum or a product says of the result
pub if_some : (o : Option ℕ) (P : Type 0) (w : ℕ) (Q : ℕ → Type 0) → SomeIff o P w → Q w → IfSome o Q
if_some None P w Q is holds = tt
if_some (Some x) P w Q (fits, same) holds = subst Q (sym same) holds

pub if_none : (o : Option ℕ) (m n w : ℕ) (R : Type 0) → SomeIff o (m < n) w → (n ≤ m → R) → IfNone o R
if_none None m n w R is holds = holds (le_of_not m n is)
if_none (Some x) m n w R is holds = tt

pub none_so : (o : Option ℕ) (R : Type 0) → R → IfNone o R
none_so None R holds = holds
none_so (Some x) R holds = tt
