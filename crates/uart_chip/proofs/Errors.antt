-- How many characters of a queue have errors.
use Rattle.std.proofs.Common.{◌≡◌, ℕ, zero, suc, ◌+◌, ◌<◌, ◌≤◌, Bool, true, false, ◌||◌, List, [], ◌∷◌, ◌++◌, length, nat_lt, if◌then◌else◌}
use Rattle.std.proofs.Common.{refl, sym, ap, ◌∙◌, arith, drop, Some, slice_get}
use Rattle.uart_events.specs.declared.event.ArrivalMark.{ArrivalMark}
use Rattle.uart_events.specs.declared.event.ArrivalMark.TheVariants.{Discarded}
use Rattle.std.proofs.lemmas.Grind.{common_steps}
use Rattle.std.specs.List.{list_any}
use Rattle.uart_chip.specs.Receiver.{has_errors, unreported, discard, set_mark}
use Rattle.uart_chip.specs.Errors.{error_count, error_weight, known_errors}
use Rattle.uart_chip.specs.declared.receiver.Character.{Character}

above : (n : ℕ) → nat_lt 0 (1 + n) ≡ true
above n = grind (arith, common_steps)

none : (n : ℕ) → n ≡ 0 + n
none n = omega arith

shifted : (k n : ℕ) → nat_lt 0 n ≡ nat_lt k (k + n)
shifted k n = grind (arith, common_steps)

any_more : (b more : Bool) (n : ℕ) → more ≡ nat_lt 0 n → (b || more) ≡ nat_lt 0 ((if b then 1 else 0) + n)
any_more true more n e = sym (above n)
any_more false more n e = e ∙ ap (λ k. nat_lt 0 k) (none n)

-- some character has errors where their number is above 0
pub any_of_all : (xs : List Character) → list_any has_errors xs ≡ nat_lt 0 (error_count xs)
any_of_all [] = refl
any_of_all (x ∷ xs) = any_more (has_errors x) (list_any has_errors xs) (error_count xs) (any_of_all xs)

-- some character has errors that were not reported where more have errors than those that were
pub any_of_count : (xs : List Character) (reported : Bool) →
    nat_lt (known_errors xs reported) (error_count xs) ≡ list_any has_errors (unreported xs reported)
any_of_count [] true = refl
any_of_count [] false = refl
any_of_count (x ∷ xs) true = sym (any_of_all xs ∙ shifted (error_weight x) (error_count xs))
any_of_count (x ∷ xs) false = sym (any_of_all (x ∷ xs))

weight_most : (x : Character) → error_weight x ≤ 1
weight_most x = go (has_errors x)
  where
    go : (b : Bool) → (if b then 1 else 0) ≤ 1
    go true = omega arith
    go false = omega arith

-- one more character
pub count_put : (xs : List Character) (x : Character) → error_count (xs ++ x ∷ []) ≡ error_count xs + error_weight x
count_put [] x = omega arith
count_put (y ∷ ys) x = let e = count_put ys x in omega (arith, e)

-- no more have errors than there are
pub count_most : (xs : List Character) → error_count xs ≤ length xs
count_most [] = omega arith
count_most (x ∷ xs) = let e = count_most xs in let f = weight_most x in omega (arith, e, f)

-- and one more
pub count_fits : (xs : List Character) (x : Character) (n : ℕ) → n ≡ error_count xs → length xs < 256 → n + error_weight x < 257
count_fits xs x n is few = let e = count_most xs in let f = weight_most x in omega (arith, e, f, is, few)

-- the next character is discarded
pub discard_next : (i : ℕ) (xs : List Character) (x : Character) (marks : List ArrivalMark) → Some x ≡ slice_get xs i →
    discard (drop (suc i) xs) (set_mark x.origin Discarded marks) ≡ discard (drop i xs) marks
discard_next i [] x marks is = absurd cc
discard_next zero (y ∷ ys) x marks is = let same : x ≡ y = cc in ap (λ (z : Character). discard ys (set_mark z.origin Discarded marks)) same
discard_next (suc i) (y ∷ ys) x marks is = discard_next i ys x marks is
