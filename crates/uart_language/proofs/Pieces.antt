-- Bytes that a reader gives and a writer takes, piece by piece.
use Rattle.std.proofs.Common.{◌≡◌, ℕ, ◌+◌, ◌-◌, ◌≤◌, Bool, true, false, eqb, ◌&&◌, ◌||◌, List, ◌++◌, length, take, drop, Option, Some, None}
use Rattle.std.proofs.Common.{refl, sym, ap, ◌∙◌, arith, append_assoc}
use Rattle.std.specs.Io.KnownBytes.{Appends, Consumes}
use Rattle.std.proofs.Math.Seq.{take-add}
use Rattle.std.proofs.lemmas.List.{length-append, length-take, take_all, length-drop}
use Rattle.std.proofs.lemmas.Bool.{ne_eqb}

pub appends_more : (a b c : Option (List ℕ)) (m n : ℕ) (bytes : List ℕ) → Appends a b (take m bytes) → Appends b c (take n (drop m bytes))
    → Appends a c (take (m + n) bytes)
appends_more None b c m n bytes p q = tt
appends_more (Some x) None c m n bytes p q = absurd p
appends_more (Some x) (Some y) None m n bytes p q = absurd q
appends_more (Some x) (Some y) (Some z) m n bytes p q = q ∙ rw (p, append_assoc) (ap (λ (t : List ℕ). x ++ t) (sym (take-add m n bytes)))

pub consumes_more : (a b c : Option (List ℕ)) (x y : List ℕ) → Consumes a b x → Consumes b c y → Consumes a c (x ++ y)
consumes_more None b c x y p q = tt
consumes_more (Some u) None c x y p q = absurd p
consumes_more (Some u) (Some v) None x y p q = absurd q
consumes_more (Some u) (Some v) (Some w) x y p q = p ∙ rw (q, append_assoc) refl

-- a write of what is left is one of the front of it
pub take_left : (m n : ℕ) (bytes : List ℕ) → take n (take (length bytes - m) (drop m bytes)) ≡ take n (drop m bytes)
take_left m n bytes = ap (take n) (take_all (length bytes - m) (drop m bytes) (omega (arith, length-drop m bytes)))

pub none_failed : (old new b : Bool) (n : ℕ) → new ≡ (old || (eqb n 0 && b)) → (n ≡ 0 → ⊥) → new ≡ old
none_failed true new b n e h = e
none_failed false new b n e h = let some : eqb n 0 ≡ false = ne_eqb n 0 h in e ∙ rw some refl

-- what was read into the room that was left does not exceed the most
pub within_most : (text chunk buf : List ℕ) (most room count : ℕ) → room ≤ most - length text → length text ≤ most
    → length buf ≡ length (take room chunk) → length (text ++ take count buf) ≤ most
within_most text chunk buf most room count le fits e =
    omega (arith, length-append text (take count buf), length-take count buf, length-take room chunk)
