use Rattle.std.proofs.Common.{◌≡◌, ℕ, ◌≤◌, refl, arith, inl, inr}
use Rattle.std.proofs.lemmas.Bool.{cases_eq}
use Rattle.uart_spec.specs.Fields.{word_length_bits}
use Rattle.uart_language.specs.Fields.{number_in, word_length_of, word_length_in}
use Rattle.uart_language.proofs.Results.{made_ok}
use Rattle.uart_language.proofs.fields.word_length_in.Goals as goal

has_bits : (n : ℕ) → 5 ≤ n → n ≤ 8 → word_length_bits (word_length_of n) ≡ n
has_bits n low high = elim (cases_eq n 5) [
  | inl e ↦ rw e refl
  | inr a ↦ elim (cases_eq n 6) [
    | inl e ↦ rw e refl
    | inr b ↦ elim (cases_eq n 7) [
      | inl e ↦ rw e refl
      | inr d ↦ let e : n ≡ 8 = omega arith in rw e refl
    ]
  ]
]

pub returns : goal.returns
unfolding word_length_in
returns c =
    made_ok (number_in 5 8 c.args.word.now) c.in_ok-bits.bits word_length_of c.from_integer.result c.in_ok-bits.ensures.value
    (c.from_integer.ensures.known _ (has_bits _ c.in_ok-bits.ensures.range.0 c.in_ok-bits.ensures.range.1))
