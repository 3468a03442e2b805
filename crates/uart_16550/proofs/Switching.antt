-- A bit that is set or cleared, and the others.
use Rattle.std.proofs.Common.{◌≡◌, ◌==◌, ◌-◌, ℕ, true, false, refl, sym, ◌∙◌, ap, bit_and}
use Rattle.std.specs.Int.Bits.{and_self}
use Rattle.std.proofs.lemmas.Nat.{and_assoc, and_or_self, and_or_apart}
use lib.Bits.{and_zero_r}
use Rattle.uart_16550.specs.Frame.{switched, ChangesOnly, ChangesOutput}

-- the bit is one of eight
pub changes_only : (bit : ℕ) → bit_and bit (255 - bit) ≡ 0 → bit_and (255 - bit) bit ≡ 0 → (0 == bit) ≡ false → (bit == bit) ≡ true →
    ChangesOnly bit
changes_only bit none none' some same true value = (
  ap (λ (n : ℕ). n == bit) (and_or_self bit value) ∙ same,
  and_or_apart (255 - bit) value bit none,
)
changes_only bit none none' some same false value = (
  ap (λ (n : ℕ). n == bit) (and_assoc bit value (255 - bit) ∙ (ap (bit_and value) none' ∙ and_zero_r value)) ∙ some,
  and_assoc (255 - bit) value (255 - bit) ∙ ap (bit_and value) (and_self (255 - bit)),
)

pub changes_break : ChangesOnly 64
changes_break = changes_only 64 refl refl refl refl

-- and without loopback
changes_output : (bit : ℕ) → ChangesOnly bit → bit_and 239 bit ≡ bit → bit_and 239 (255 - bit) ≡ bit_and (255 - bit) 239 → ChangesOutput bit
changes_output bit changes through swap on mcr =
    let value = switched on bit mcr in
    let only = changes on mcr in (
      ap (λ (n : ℕ). n == bit) (and_assoc bit value 239 ∙ ap (bit_and value) through) ∙ only.0,
      and_assoc (255 - bit) value 239 ∙ (ap (bit_and value) swap ∙ (sym (and_assoc 239 value (255 - bit))
          ∙ (ap (λ (n : ℕ). bit_and n 239) only.1 ∙ (and_assoc 239 mcr (255 - bit)
          ∙ (ap (bit_and mcr) (sym swap) ∙ sym (and_assoc (255 - bit) mcr 239)))))),
    )

pub changes_rts : ChangesOutput 2
changes_rts = changes_output 2 (changes_only 2 refl refl refl refl) refl refl

pub changes_dtr : ChangesOutput 1
changes_dtr = changes_output 1 (changes_only 1 refl refl refl refl) refl refl
