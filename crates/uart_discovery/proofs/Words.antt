-- The parts of a text.
use Rattle.std.proofs.Common.{◌≡◌, ℕ, zero, suc, ◌≤◌, Bool, true, false, not, List, [], ◌∷◌, Option, Some, None}
use Rattle.std.proofs.Common.{refl, Bor, cond, length, ltb, arith}
use Rattle.std.specs.Prelude.{unwrap_or, option_map, slice_get, slice_index_or}
use Rattle.std.specs.List.{position_or_len}
use Rattle.std.proofs.lemmas.List.Sums.{prefix_len-le-length}

-- the part that an iterator gives, or the empty one
pub part_from_get : (parts : List (List ℕ)) (k : ℕ) (r : Option (Bor (List ℕ))) (d : Bor (List ℕ))
    → option_map (λ x. x.now) r ≡ slice_get parts k → (unwrap_or r d).now ≡ slice_index_or parts k d.now
part_from_get [] k None d e = refl
part_from_get [] k (Some x) d e = absurd cc
part_from_get (w ∷ parts) zero None d e = absurd cc
part_from_get (w ∷ parts) zero (Some x) d e = cc
part_from_get (w ∷ parts) (suc k) r d e = part_from_get parts k r d e

unwrap_first : (first n : ℕ) (b : Bool) → ltb first n ≡ b → first ≤ n
    → unwrap_or (cond b (Some first) None) n ≡ first
unwrap_first first n true e le = refl
unwrap_first first n false e le = grind (arith, e, le)

-- the first place at which a test passes, or the length
pub count_from_position : (test : ℕ → Bool) (word : List ℕ) (r : Option ℕ)
    → r ≡ cond (ltb (position_or_len test word) (length word)) (Some (position_or_len test word)) None
    → unwrap_or r (length word) ≡ position_or_len test word
count_from_position test word r e =
    rw e (unwrap_first (position_or_len test word) (length word) _ refl (prefix_len-le-length (λ x. not (test x)) word))

is_some_first : (first n : ℕ) (b : Bool) → Some n ≡ cond b (Some first) None → n ≡ first
is_some_first first n true e = cc
is_some_first first n false e = absurd cc

-- where a test passes first, if it passes
pub is_first : (test : ℕ → Bool) (word : List ℕ) (n : ℕ)
    → Some n ≡ cond (ltb (position_or_len test word) (length word)) (Some (position_or_len test word)) None
    → n ≡ position_or_len test word
is_first test word n e = is_some_first (position_or_len test word) n (ltb (position_or_len test word) (length word)) e
