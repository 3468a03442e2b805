-- Paths and saved bits, one list after another.
use Rattle.std.proofs.Common.{◌≡◌, ℕ, List, [], ◌∷◌, ◌++◌, refl, subst, arith, bit_and, bit_or}
use Rattle.std.proofs.lemmas.Nat.Bits.{same_from_bits, bit_at_or, bit_at_and}
use lib.Bits.{or_zero_r}
use Rattle.uart_spec.specs.Access.{Path, saved_of, saved}
use Rattle.uart_spec.specs.declared.access.Access.{Access}

pub or_assoc : (a b c : ℕ) → bit_or (bit_or a b) c ≡ bit_or a (bit_or b c)
or_assoc a b c =
    same_from_bits _ _ (λ i. rw (bit_at_or (bit_or a b) c i, bit_at_or a b i, bit_at_or a (bit_or b c) i, bit_at_or b c i) (omega arith))

pub path_then : {S : Type 0} (step : S → Access → S → Type 0) (a b c : S) (xs ys : List Access) → Path step a xs b → Path step b ys c →
    Path step a (xs ++ ys) c
path_then {S} step a b c [] ys p q = let P : S → Type 0 = (λ s. Path step s ys c) in subst P p q
path_then step a b c (x ∷ xs) ys p q = (p.0, p.1, path_then step p.0 b c xs ys p.2 q)

pub saved-append : (register mask : ℕ) (xs ys : List Access) →
    saved register mask (xs ++ ys) ≡ bit_or (saved register mask xs) (saved register mask ys)
saved-append register mask [] ys = refl
saved-append register mask (x ∷ xs) ys =
    rw (saved-append register mask xs ys, or_assoc (saved_of register mask x) (saved register mask xs) (saved register mask ys))

-- a status joined with what is saved of it and what was saved before is the status joined with what was saved before
pub or_saved : (status old mask : ℕ) → bit_or status (bit_or old (bit_or (bit_and status mask) 0)) ≡ bit_or status old
or_saved status old mask = rw (or_zero_r (bit_and status mask)) (same_from_bits _ _ (λ i.
    rw (
      bit_at_or status (bit_or old (bit_and status mask)) i,
      bit_at_or old (bit_and status mask) i,
      bit_at_and status mask i,
      bit_at_or status old i,
    ) (omega arith)))
