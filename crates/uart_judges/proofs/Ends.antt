-- Where a line of a trace ends: before its remark, and before the spaces at its end.
use Rattle.std.proofs.Common.{◌≡◌, ◌≢◌, ℕ, ◌≤◌, Bool, true, false, cond, ltb, eqb, ◌&&◌, List, [], ◌∷◌, ◌++◌, length, Option, Some, None}
use Rattle.std.proofs.Common.{refl, sym, ap, ◌∙◌, arith, inl, inr}
use Rattle.std.specs.Prelude.{unwrap_or}
use Rattle.std.specs.List.{list_all, position_or_len}
use Rattle.std.proofs.lemmas.Bool.{cases_lt, lt-ltb, le-ltb, ne_eqb}
use Rattle.std.proofs.lemmas.List.{nil_from_length}
use Rattle.std.proofs.lemmas.List.Folds.{list_all-append}
use Rattle.std.proofs.lemmas.List.Sums.{prefix_len-le-length}
use Rattle.std.proofs.Math.Bool.{and-false}
use Rattle.uart_judges.specs.TraceLines.{is_space, without_end}

and_true : (b : Bool) → (b && (true && true)) ≡ b
and_true true = refl
and_true false = refl

spaces_more : (xs : List ℕ) (b : ℕ) → is_space b ≡ true → list_all is_space (xs ++ b ∷ []) ≡ list_all is_space xs
spaces_more xs b is =
    list_all-append is_space xs (b ∷ []) ∙ ap (λ t. list_all is_space xs && (t && true)) is ∙ and_true (list_all is_space xs)

no_spaces : (xs : List ℕ) (b : ℕ) → is_space b ≡ false → list_all is_space (xs ++ b ∷ []) ≡ false
no_spaces xs b is =
    list_all-append is_space xs (b ∷ []) ∙ ap (λ t. list_all is_space xs && (t && true)) is ∙ and-false (list_all is_space xs)

pub end_space : (xs : List ℕ) (b : ℕ) → is_space b ≡ true → without_end (xs ++ b ∷ []) ≡ without_end xs
unfolding without_end
end_space [] b is = ap (λ t. cond (t && true) [] (b ∷ [])) is
end_space (x ∷ xs) b is =
    ap (λ t. cond t [] (x ∷ without_end (xs ++ b ∷ []))) (spaces_more (x ∷ xs) b is) ∙
    ap (λ (l : List ℕ). cond (list_all is_space (x ∷ xs)) [] (x ∷ l)) (end_space xs b is)

pub end_other : (xs : List ℕ) (b : ℕ) → is_space b ≡ false → without_end (xs ++ b ∷ []) ≡ xs ++ b ∷ []
unfolding without_end
end_other [] b is = ap (λ t. cond (t && true) [] (b ∷ [])) is
end_other (x ∷ xs) b is =
    ap (λ t. cond t [] (x ∷ without_end (xs ++ b ∷ []))) (no_spaces (x ∷ xs) b is) ∙ ap (λ (l : List ℕ). x ∷ l) (end_other xs b is)

pub end_none : without_end [] ≡ []
unfolding without_end
end_none = refl

-- where the first element that passes is, or the length
pub position-le : (p : ℕ → Bool) (xs : List ℕ) → position_or_len p xs ≤ length xs
position-le p xs = prefix_len-le-length _ xs

pub position_is : (p : ℕ → Bool) (xs : List ℕ) (r : Option ℕ) → r ≡ cond (ltb (position_or_len p xs) (length xs))
    (Some (position_or_len p xs)) None → unwrap_or r (length xs) ≡ position_or_len p xs
position_is p xs r e = elim (cases_lt (position_or_len p xs) (length xs)) [
  | inl lt ↦ rw (e, lt-ltb _ _ lt) refl
  | inr le ↦ rw (e, le-ltb _ _ le) (omega (arith, position-le p xs))
]

-- ---- a loop that takes one space after the other off the end

pub ends_here : (rest before all : List ℕ) (b : ℕ) → rest ≡ before ++ b ∷ [] → (b ≢ 32) → without_end rest ≡ without_end all →
    rest ≡ without_end all
ends_here rest before all b is other same =
    is ∙ sym (end_other before b (ne_eqb b 32 other)) ∙ sym (ap without_end is) ∙ same

pub ends_before : (rest before all : List ℕ) (b : ℕ) → rest ≡ before ++ b ∷ [] → b ≡ 32 → without_end rest ≡ without_end all →
    without_end before ≡ without_end all
ends_before rest before all b is space same =
    sym (end_space before b (ap (λ k. eqb k 32) space)) ∙ sym (ap without_end is) ∙ same

pub ends_empty : (rest all : List ℕ) → length rest ≡ 0 → without_end rest ≡ without_end all → rest ≡ without_end all
ends_empty rest all none same =
    let nothing : rest ≡ [] = nil_from_length rest (omega (arith, none)) in
    nothing ∙ sym end_none ∙ sym (ap without_end nothing) ∙ same
