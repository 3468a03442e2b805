-- The numbers of `Divisor` are the divisors of 115,200 that the divisor latch holds, each once.
use Rattle.std.proofs.Common.{◌≡◌, ℕ, zero, suc, ◌*◌, ◌/◌, ◌%◌, ◌<◌, ◌≤◌, Bool, true, false, not, ◌==◌, ◌||◌, nat_lt, ◌⊎◌, inl, inr, List}
use Rattle.std.proofs.Common.{[], ◌∷◌, Option, Some, refl, subst, sym, ◌∙◌, ap, arith, lit≤}
use Rattle.std.proofs.lemmas.Bool.{agree_below_at, cases_Bool, cases_lt}
use Rattle.std.proofs.Math.Nat.{mul-le-mul_left, mul-le-mul_right, mul-mod_left, mul-mod_right, mul-div_cancel}
use Rattle.std.proofs.lemmas.Bool.Decides.{nat_tests}
use Rattle.std.proofs.lemmas.Grind.{common_steps}
use Rattle.std.specs.List.{find}
use Rattle.std.specs.Option.{is_some}
use Rattle.uart_spec.specs.Divisors.{number, IsDivisor, divisors}
use Rattle.uart_spec.specs.declared.registers.divisors.Divisor.{Divisor}
use Rattle.uart_spec.specs.declared.registers.divisors.Divisor.TheVariants.{Divisor1}

-- the case of a number
abbrev pub find_divisor : ℕ → Option Divisor
find_divisor n = find (λ divisor. number divisor == n) divisors

pub find_divisor-number : (divisor : Divisor) → find_divisor (number divisor) ≡ Some divisor
find_divisor-number Divisor1 = refl
find_divisor-number _ = refl

pub number_once : (a b : Divisor) → number a ≡ number b → a ≡ b
number_once a b same =
    let found : Some a ≡ Some b = sym (find_divisor-number a) ∙ (ap find_divisor same ∙ find_divisor-number b) in
    cc

pub number_divides : (divisor : Divisor) → IsDivisor (number divisor)
number_divides Divisor1 = (lit≤ tt, (115200, refl))
number_divides divisor = (lit≤ tt, (115200 / number divisor, refl))

-- a test that found something found a case of that number
pub found_is : (some : List Divisor) (n : ℕ) → is_some (find (λ divisor. number divisor == n) some) ≡ true →
    (divisor : Divisor) × (number divisor ≡ n)
found_is [] n holds = absurd (cc)
found_is (divisor ∷ rest) n holds =
    elim (cases_Bool (number divisor == n)) [
      | inl same ↦ (divisor, grind (arith, nat_tests))
      | inr other ↦ found_is rest n (rw other at holds)
    ]

-- of two factors of 115,200 one is below 340
pub small_factor : (n rate : ℕ) → n * rate ≡ 115200 → (n < 340) ⊎ (rate < 340)
small_factor n rate product =
    elim (cases_lt n 340) [
      | inl small ↦ inl small
      | inr large ↦ elim (cases_lt rate 340) [
        | inl small ↦ inr small
        | inr also_large ↦ absurd (omega (arith, mul-le-mul_left 340 also_large, mul-le-mul_right rate large))
      ]
    ]

pub from_or : (a b : Bool) → (a || b) ≡ true → a ≡ false → b ≡ true
from_or false b either not_a = either
from_or true b either not_a = cc

-- whether a case has this number, if the number divides 115,200
abbrev pub is_found : ℕ → Bool
is_found n = not (115200 % n == 0) || is_some (find_divisor n)

-- whether a case has the number that times this is 115,200, if there is one that the divisor latch holds
abbrev pub is_other_found : ℕ → Bool
is_other_found rate = not (115200 % rate == 0) || (nat_lt 65535 (115200 / rate) || is_some (find_divisor (115200 / rate)))

pub fits : (n : ℕ) → n ≤ 65535 → nat_lt 65535 n ≡ false
fits n below = grind (arith, nat_tests)

pub positive : (n rate : ℕ) → n * rate ≡ 115200 → 0 < rate
positive n zero product = grind (arith, common_steps)
positive n (suc rate) product = omega arith

pub small_found : (n rate : ℕ) → n * rate ≡ 115200 → n < 340 → is_some (find_divisor n) ≡ true
small_found n rate product small =
    let found = agree_below_at is_found (λ _. true) 340 n refl small in
    let divides : 115200 % n ≡ 0 = rw product at (mul-mod_right n rate) in
    from_or (not (115200 % n == 0)) (is_some (find_divisor n)) found (ap (λ rest. not (rest == 0)) divides)

pub large_found : (n rate : ℕ) → n * rate ≡ 115200 → n ≤ 65535 → rate < 340 → is_some (find_divisor n) ≡ true
large_found n rate product below small =
    let found = agree_below_at is_other_found (λ _. true) 340 rate refl small in
    let divides : 115200 % rate ≡ 0 = rw product at (mul-mod_left n rate) in
    let other : 115200 / rate ≡ n = rw product at (mul-div_cancel n (positive n rate product)) in
    let in_latch_or_found =
    from_or (not (115200 % rate == 0)) (nat_lt 65535 (115200 / rate) || is_some (find_divisor (115200 / rate))) found
    (ap (λ rest. not (rest == 0)) divides) in
    let at_n = subst (λ m. (nat_lt 65535 m || is_some (find_divisor m)) ≡ true) other in_latch_or_found in
    from_or (nat_lt 65535 n) (is_some (find_divisor n)) at_n (fits n below)

pub number_every : (n : ℕ) → IsDivisor n → (divisor : Divisor) × (number divisor ≡ n)
number_every n (below, (rate, product)) =
    found_is divisors n (elim (small_factor n rate product) [
      | inl small ↦ small_found n rate product small
      | inr small ↦ large_found n rate product below small
    ])
