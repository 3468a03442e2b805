-- Reading digits one after the other, as a loop does.
use Rattle.std.proofs.Common.{◌≡◌, ℕ, suc, ◌+◌, ◌*◌, ◌^◌, ◌<◌, ◌≤◌, Bool, true, List, [], ◌∷◌, length, get_or, drop}
use Rattle.std.proofs.Common.{sym, ap, subst, ◌∙◌, arith, add-one, drop-cons}
use Rattle.std.specs.List.{list_all}
use Rattle.std.specs.Char.{digit_value}
use Rattle.std.specs.Str.Parse.{digits_value, digits_value_after}
use Rattle.std.proofs.Math.Nat.{pow-le-pow_right}
use Rattle.std.proofs.lemmas.Nat.{pow-add}
use Rattle.std.proofs.lemmas.List.{nil_from_length, length-drop}
use Rattle.std.proofs.lemmas.Bool.{and_parts}

head_is : (p : ℕ → Bool) (x : ℕ) (xs : List ℕ) → list_all p (x ∷ xs) ≡ true → (p x ≡ true) × (list_all p xs ≡ true)
head_is p x xs e = and_parts (p x) (list_all p xs) e

-- what is read of a number before place i
pub record DigitsRead (radix : ℕ) (p : ℕ → Bool) (word : List ℕ) (value i : ℕ) : Type 0 where
  pub below : value < radix ^ i
  pub same : digits_value_after radix value (drop i word) ≡ digits_value radix word
  pub digits : list_all p (drop i word) ≡ true

pub is_digit_at : (radix : ℕ) (p : ℕ → Bool) (word : List ℕ) (value i d : ℕ) → i < length word → d ≡ get_or word i 0
    → DigitsRead radix p word value i → p d ≡ true
is_digit_at radix p word value i d lt e r =
    let split : drop i word ≡ get_or word i 0 ∷ drop (suc i) word = drop-cons word i 0 lt in
    rw e ((head_is p (get_or word i 0) (drop (suc i) word) (subst (λ (w : List ℕ). list_all p w ≡ true) split r.digits)).0)

pub is_read : (radix : ℕ) (p : ℕ → Bool) (word : List ℕ) (value i : ℕ) → length word ≤ i → DigitsRead radix p word value i
    → value ≡ digits_value radix word
is_read radix p word value i le r =
    let nothing : drop i word ≡ [] = nil_from_length (drop i word) (omega (arith, length-drop i word)) in
    sym (ap (digits_value_after radix value) nothing) ∙ r.same

-- with one more digit, in each radix
pub reads_on_16 : (p : ℕ → Bool) (word : List ℕ) (value i d v : ℕ) → i < length word → d ≡ get_or word i 0 → v ≡ digit_value d
    → v < 16 → DigitsRead 16 p word value i → DigitsRead 16 p word (value * 16 + v) (i + 1)
reads_on_16 p word value i d v lt e ve small r =
    let split : drop i word ≡ d ∷ drop (i + 1) word = rw (e, add-one) (drop-cons word i 0 lt) in
    record {
      below = rw (pow-add 16 i 1) (omega (arith, r.below));
      same = rw ve (sym (ap (digits_value_after 16 value) split) ∙ r.same);
      digits = (head_is p d (drop (i + 1) word) (subst (λ (w : List ℕ). list_all p w ≡ true) split r.digits)).1;
    }

pub reads_on_10 : (p : ℕ → Bool) (word : List ℕ) (value i d v : ℕ) → i < length word → d ≡ get_or word i 0 → v ≡ digit_value d
    → v < 10 → DigitsRead 10 p word value i → DigitsRead 10 p word (value * 10 + v) (i + 1)
reads_on_10 p word value i d v lt e ve small r =
    let split : drop i word ≡ d ∷ drop (i + 1) word = rw (e, add-one) (drop-cons word i 0 lt) in
    record {
      below = rw (pow-add 10 i 1) (omega (arith, r.below));
      same = rw ve (sym (ap (digits_value_after 10 value) split) ∙ r.same);
      digits = (head_is p d (drop (i + 1) word) (subst (λ (w : List ℕ). list_all p w ≡ true) split r.digits)).1;
    }

-- what is read before the last of so many digits is small
pub small_before_16 : (p : ℕ → Bool) (word : List ℕ) (value i : ℕ) → i < length word → length word ≤ 16
    → DigitsRead 16 p word value i → value < 16 ^ 15
small_before_16 p word value i lt short r =
    omega (arith, r.below, pow-le-pow_right {n = 16} (omega arith) {i = i} {j = 15} (omega arith))

pub small_before_10 : (p : ℕ → Bool) (word : List ℕ) (value i : ℕ) → i < length word → length word ≤ 9
    → DigitsRead 10 p word value i → value < 10 ^ 8
small_before_10 p word value i lt short r =
    omega (arith, r.below, pow-le-pow_right {n = 10} (omega arith) {i = i} {j = 8} (omega arith))
