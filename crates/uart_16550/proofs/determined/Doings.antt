-- What calls do is determined.
use Rattle.std.proofs.Common.{◌≡◌, List, sym, ◌∙◌, ap, subst, inl, inr, ◌⊎◌}
use Rattle.uart_spec.specs.declared.access.Access.{Access}
use Rattle.uart_16550.specs.Choice.{PartAtRead, LeavesNoChoice}
use Rattle.uart_16550.specs.Grammar.{Language, Settings}
use Rattle.uart_16550.specs.Driver.{Doing, Fields, settings_of, saving, Saving, Plain, Sets, Next}
use Rattle.uart_16550.proofs.determined.Parting.{SameOrPart, Determined, so, so_sym, so_then, so_front}

-- from these fields, each list of the first and each of the second are one list, with the same fields after it, and this
-- holds; or they part at a read
pub record Does (C : Type 0) (f : Fields) (G H : Doing) : Type 0 where
  pub at : (l m : List Access) (a b : Fields) → G f l a → H f m b → SameOrPart (C × (a ≡ b)) l m

-- the law, from what every two results come to
pub no_choice : {R : Type 0} {G : R → Doing} → ((f : Fields) (a b : R) → Does (a ≡ b) f (G a) (G b)) → LeavesNoChoice G
no_choice {R} {G} h f a b l m after after' p q = law ((h f a b).at l m after after' p q)
  where
    law : SameOrPart ((a ≡ b) × (after ≡ after')) l m → ((a ≡ b) × (l ≡ m) × (after ≡ after')) ⊎ PartAtRead l m
    law (inl same) = inl (same.0.0, same.1, same.0.1)
    law (inr part) = inr part

pub does_so : {C D : Type 0} {f : Fields} {G H : Doing} → (C → D) → Does C f G H → Does D f G H
does_so k h = record { at = λ l m a b p q. so (λ r. (k r.0, r.1)) (h.at l m a b p q) }

pub does_sym : {C : Type 0} {f : Fields} {G H : Doing} → Does ⊥ f G H → Does C f H G
does_sym h = record { at = λ l m a b p q. so_sym (so (λ r. r.0) (h.at m l b a q p)) }

pub does_saving : {C : Type 0} (f : Fields) (L M : Language) → Determined C (L (settings_of f)) (M (settings_of f)) →
    Does C f (Saving L) (Saving M)
does_saving {C} f L M h = record { at = λ l m a b p q. at l m a b p.1 q.1 (h.at l m p.0 q.0) }
  where
    at : (l m : List Access) (a b : Fields) → a ≡ saving f l → b ≡ saving f m → SameOrPart C l m → SameOrPart (C × (a ≡ b)) l m
    at l m a b p q (inl same) = inl ((same.0, p ∙ ap (saving f) same.1 ∙ sym q), same.1)
    at l m a b p q (inr part) = inr part

pub does_plain : {C : Type 0} (f : Fields) (L M : Language) → Determined C (L (settings_of f)) (M (settings_of f)) →
    Does C f (Plain L) (Plain M)
does_plain f L M h = record { at = λ l m a b p q. so (λ r. (r, p.1 ∙ sym q.1)) (h.at l m p.0 q.0) }

pub does_set : (f : Fields) (change : Fields → Fields) → Does (Unit {0}) f (Sets change) (Sets change)
does_set f change = record { at = λ l m a b p q. inl ((tt, p.1 ∙ sym q.1), p.0 ∙ sym q.0) }

-- one after the other: the second may rest on what the first decides
pub does_next : {C D : Type 0} {f : Fields} {G G' H H' : Doing} → Does C f G G' → (C → (mid : Fields) → Does D mid H H') →
    Does D f (Next G H) (Next G' H')
does_next {C} {D} {f} {G} {G'} {H} {H'} p q = record {
  at = λ l m a b t w.
      so_then t.whole w.whole (p.at t.front w.front t.mid w.mid t.first w.first)
      (λ r. let N : Fields → Type 0 = λ mid. H' mid w.back b in (q r.0 t.mid).at t.back w.back a b t.second (subst N (sym r.1) w.second));
}

pub does_front : {D : Type 0} {f : Fields} {G H K : Doing} → Does ⊥ f G K → Does D f (Next G H) K
does_front h = record { at = λ l m a b t w. so_front t.back t.whole (so (λ r. r.0) (h.at t.front m t.mid b t.first w)) }

-- a call that saves what it reads, and changes nothing else
pub saving_determined : {R : Type 0} (L : R → Language) → ((s : Settings) (a b : R) → Determined (a ≡ b) (L a s) (L b s)) →
    LeavesNoChoice (λ a. Saving (L a))
saving_determined L h = no_choice (λ f a b. does_saving f (L a) (L b) (h (settings_of f) a b))
