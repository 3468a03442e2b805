-- What the test of a mask says: a value with a bit outside of it differs from its part within.
use Rattle.std.proofs.Common.{◌≡◌, ◌∙◌, ℕ, Bool, true, false, not, bit_and, eqb, refl, sym}
use Rattle.std.proofs.lemmas.Bool.{eqb-true, eqb-false}
use Rattle.uart_spec.specs.Bits.{IsWithin}
use Rattle.uart_live.proofs.Sends.{unset}

pub turned : (b : Bool) → not b ≡ false → b ≡ true
turned true e = refl
turned false e = absurd (cc)

pub is_within : (value mask part : ℕ) (differs : Bool) → part ≡ bit_and value mask → differs ≡ not (eqb part value) →
    differs ≡ false → IsWithin value mask
is_within value mask part differs p d e = sym p ∙ eqb-true part value (turned (eqb part value) (sym d ∙ e))

pub not_within : (value mask part : ℕ) (differs : Bool) → part ≡ bit_and value mask → differs ≡ not (eqb part value) →
    differs ≡ true → IsWithin value mask → ⊥
not_within value mask part differs p d e within =
    eqb-false part value (unset (eqb part value) (sym d ∙ e)) (p ∙ within)
