-- Reading digits one after the other, as a loop does.
use Rattle.std.proofs.Common.{◌≡◌, ℕ, suc, ◌+◌, ◌-◌, ◌*◌, ◌^◌, ◌<◌, ◌≤◌, Bool, true, false, List, [], ◌∷◌, ◌++◌, length, get_or, take, drop}
use Rattle.std.proofs.Common.{refl, sym, ap, subst, ◌∙◌, arith, add-one, drop-cons, append_assoc, Err, inl, inr}
use Rattle.std.specs.List.{list_all}
use Rattle.std.specs.Char.{is_ascii_digit, is_ascii_hexdigit, digit_value}
use Rattle.std.specs.Str.Parse.{digits_value, digits_value_after}
use Rattle.std.proofs.Math.Nat.{pow-le-pow_right}
use Rattle.std.proofs.lemmas.Nat.{pow-add}
use Rattle.std.proofs.lemmas.List.{append-nil, nil_from_length, take_all, length-drop, length-append}
use Rattle.std.specs.Str.{IsUtf8, is_utf8}
use Rattle.std.proofs.lemmas.Str.{is_utf8-from_IsUtf8, IsUtf8-from_is_utf8}
use Rattle.std.proofs.lemmas.Bool.{and_parts, cases_Bool}
use Rattle.uart_call.specs.declared.call.TheConstants.{CALL_BYTES}
use Rattle.uart_language.specs.declared.cause.Cause.TheVariants.{BadText}
use Rattle.uart_language.specs.declared.limits.TheConstants.{MOST_DIGITS}
use Rattle.uart_language.specs.Fields.{pairs_of, bytes_in, text_in}
use Rattle.uart_language.proofs.Results.{read}

pub head_is : (p : ℕ → Bool) (x : ℕ) (xs : List ℕ) → list_all p (x ∷ xs) ≡ true → (p x ≡ true) × (list_all p xs ≡ true)
head_is p x xs e = and_parts (p x) (list_all p xs) e

-- what is read of a number before place i
pub record DigitsRead (word : List ℕ) (value i : ℕ) : Type 0 where
  pub below : value < 10 ^ i
  pub same : digits_value_after 10 value (drop i word) ≡ digits_value 10 word
  pub digits : list_all is_ascii_digit (drop i word) ≡ true

pub is_digit_at : (word : List ℕ) (value i d : ℕ) → i < length word → d ≡ get_or word i 0 → DigitsRead word value i
    → is_ascii_digit d ≡ true
is_digit_at word value i d lt e r =
    let split : drop i word ≡ get_or word i 0 ∷ drop (suc i) word = drop-cons word i 0 lt in
    rw e ((head_is is_ascii_digit (get_or word i 0) (drop (suc i) word)
    (subst (λ (w : List ℕ). list_all is_ascii_digit w ≡ true) split r.digits)).0)

pub small_before : (word : List ℕ) (value i : ℕ) → i < length word → length word ≤ MOST_DIGITS → DigitsRead word value i → value < 10 ^ 18
small_before word value i lt short r = omega (arith, r.below, pow-le-pow_right {n = 10} (omega arith) {i = i} {j = 18} (omega arith))

pub reads_on : (word : List ℕ) (value i d v : ℕ) → i < length word → d ≡ get_or word i 0 → v ≡ digit_value d → v < 10
    → DigitsRead word value i → DigitsRead word (value * 10 + v) (i + 1)
reads_on word value i d v lt e ve small r =
    let split : drop i word ≡ d ∷ drop (i + 1) word = rw (e, add-one) (drop-cons word i 0 lt) in
    record {
      below = rw (pow-add 10 i 1) (omega (arith, r.below));
      same = rw ve (sym (ap (digits_value_after 10 value) split) ∙ r.same);
      digits = (head_is is_ascii_digit d (drop (i + 1) word) (subst (λ (w : List ℕ). list_all is_ascii_digit w ≡ true) split r.digits)).1;
    }

pub is_read : (word : List ℕ) (value i : ℕ) → length word ≤ i → DigitsRead word value i → value ≡ digits_value 10 word
is_read word value i le r =
    let nothing : drop i word ≡ [] = nil_from_length (drop i word) (omega (arith, length-drop i word)) in
    sym (ap (digits_value_after 10 value) nothing) ∙ r.same

-- what is read of pairs of digits
pub record PairsRead (word bytes rest : List ℕ) : Type 0 where
  pub same : bytes ++ pairs_of rest ≡ pairs_of word
  pub digits : list_all is_ascii_hexdigit rest ≡ true
  pub fits : 2 * length bytes + length rest < 2 * CALL_BYTES + 2

pub pairs_on : (word bytes rest : List ℕ) (high low : ℕ) → 2 ≤ length rest → high ≡ digit_value (get_or rest 0 0)
    → low ≡ digit_value (get_or rest 1 0) → PairsRead word bytes rest
    → PairsRead word (bytes ++ (16 * high + low) ∷ []) (take (length rest - 2) (drop 2 rest))
unfolding pairs_of
pairs_on word bytes [] high low h he le r = absurd (omega arith)
pairs_on word bytes (a ∷ []) high low h he le r = absurd (omega arith)
pairs_on word bytes (a ∷ b ∷ rest) high low h he le r =
    let whole : take (length (a ∷ b ∷ rest) - 2) rest ≡ rest = take_all (length (a ∷ b ∷ rest) - 2) rest (omega arith) in
    let first = head_is is_ascii_hexdigit a (b ∷ rest) r.digits in
    rw whole (record {
      same = rw (he, le, append_assoc) r.same;
      digits = (head_is is_ascii_hexdigit b rest first.1).1;
      fits = omega (arith, r.fits, length-append bytes ((16 * high + low) ∷ []));
    })

pub are_digits : (word bytes rest : List ℕ) → 2 ≤ length rest → PairsRead word bytes rest
    → (is_ascii_hexdigit (get_or rest 0 0) ≡ true) × (is_ascii_hexdigit (get_or rest 1 0) ≡ true)
are_digits word bytes [] h r = absurd (omega arith)
are_digits word bytes (a ∷ []) h r = absurd (omega arith)
are_digits word bytes (a ∷ b ∷ rest) h r =
    let first = head_is is_ascii_hexdigit a (b ∷ rest) r.digits in
    (first.0, (head_is is_ascii_hexdigit b rest first.1).0)

pub are_read : (word bytes rest : List ℕ) → length rest < 2 → PairsRead word bytes rest → bytes ≡ pairs_of word
unfolding pairs_of
are_read word bytes [] h r = sym (append-nil bytes) ∙ r.same
are_read word bytes (a ∷ []) h r = sym (append-nil bytes) ∙ r.same
are_read word bytes (a ∷ b ∷ rest) h r = absurd (omega arith)

pub text_is : (word bytes at text start new : List ℕ) → read bytes ≡ bytes_in word → at ≡ bytes → (text ≡ at) × IsUtf8 at → start ≡ []
    → new ≡ start ++ text → read new ≡ text_in word
unfolding text_in
text_is word bytes at text start new e a t s n =
    let utf8 : is_utf8 bytes ≡ true = rw (← a) (is_utf8-from_IsUtf8 at t.1) in
    let same : new ≡ bytes = n ∙ ap (λ (x : List ℕ). x ++ text) s ∙ t.0 ∙ a in
    rw (← e, utf8, same) refl

pub no_text : (word bytes at : List ℕ) → read bytes ≡ bytes_in word → at ≡ bytes → (IsUtf8 at → ⊥) → Err BadText ≡ text_in word
unfolding text_in
no_text word bytes at e a h = elim (cases_Bool (is_utf8 at)) [
  | inl passes ↦ absurd (h (IsUtf8-from_is_utf8 at passes))
  | inr fails ↦ let utf8 : is_utf8 bytes ≡ false = rw (← a) fails in rw (← e, utf8) refl
]
