-- Bytes that are received into slots that lie in two parts.
use Rattle.std.proofs.Common.{◌≡◌, ◌<◌, ◌≤◌, ◌-◌, ◌+◌, ◌⊎◌, ℕ, List, [], ◌∷◌, ◌++◌, length, sym, arith, inl, inr}
use Rattle.std.proofs.Common.{length-append, append_assoc, append-nil, min}
use Rattle.uart_spec.specs.declared.access.Access.{Access}
use Rattle.uart_16550.specs.Grammar.{Settings}
use Rattle.uart_16550.specs.Receive.{Receives, Hit}
use Rattle.uart_16550.proofs.Languages.{in_order_append}

-- the first part, and then the second if the first is full, or else nothing: this is one receiving into both
pub receives_on : (slots m r : ℕ) (xs ys : List ℕ) (s : Settings) (l k : List Access) → m ≤ slots →
    ((length xs ≡ m) × (r ≡ slots - m)) ⊎ ((length xs < m) × (r ≡ 0)) → Receives m xs s l → Receives r ys s k →
    Receives slots (xs ++ ys) s (l ++ k)
receives_on slots m r xs ys s l k fits (inl full) (inl t) (inl u) =
    inl (omega (arith, length-append xs ys, full.0, full.1, fits, u.0), in_order_append Hit xs ys s l k t.1 u.1)
receives_on slots m r xs ys s l k fits (inl full) (inl t) (inr u) =
    inr (
      omega (arith, length-append xs ys, full.0, full.1, fits, u.0),
      record {
        front = l ++ u.1.front;
        back = u.1.back;
        whole = rw u.1.whole (sym (append_assoc l u.1.front u.1.back));
        first = in_order_append Hit xs ys s l u.1.front t.1 u.1.first;
        second = u.1.second;
      },
    )
receives_on slots m r xs ys s l k fits (inl full) (inr t) u = absurd (omega (arith, full.0, t.0))
receives_on slots m r xs ys s l k fits (inr few) (inl t) u = absurd (omega (arith, few.0, t.0))
receives_on slots m r xs [] s l k fits (inr few) (inr t) (inl u) =
    let none : k ≡ [] = u.1.is in
    rw (none, append-nil xs, append-nil l) (inr (omega (arith, t.0, fits), t.1))
receives_on slots m r xs (y ∷ ys) s l k fits (inr few) (inr t) (inl u) = absurd (omega (arith, few.1, u.0))
receives_on slots m r xs ys s l k fits (inr few) (inr t) (inr u) = absurd (omega (arith, few.1, u.0))

-- how many bytes came into both, and that a part has no more slots than there are
pub counted_both : (xs ys : List ℕ) (b a : ℕ) → length xs ≡ b → length ys ≡ a → b + a ≡ length (xs ++ ys)
counted_both xs ys b a front back = omega (arith, length-append xs ys, front, back)

pub least_within : (m slots others : ℕ) → m ≡ min slots others → m ≤ slots
least_within m slots others is = omega (arith, is)
