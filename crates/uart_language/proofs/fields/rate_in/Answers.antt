use Rattle.std.proofs.Common.{◌≡◌, ℕ, false, eqb, refl, sym, ap, ◌∙◌}
use Rattle.std.proofs.lemmas.Bool.{ne_eqb}
use Rattle.uart_spec.specs.declared.config.BaudRate.{BaudRate}
use Rattle.uart_spec.specs.declared.config.BaudRate.TheVariants.{Baud115200, Baud57600, Baud38400, Baud9600, Baud4800, Baud2400, Baud1200}
use Rattle.uart_spec.specs.declared.config.BaudRate.TheVariants.{Baud600, Baud300, Baud150, Baud110, Custom}
use Rattle.uart_spec.specs.BaudRate.{to_integer, IsNamed}
use Rattle.uart_language.specs.declared.limits.TheConstants.{MOST_RATE}
use Rattle.uart_language.specs.Fields.{number_in, rate_of, rate_in}
use Rattle.uart_language.proofs.Results.{made_ok}
use Rattle.uart_language.proofs.fields.rate_in.Goals as goal

-- the named case of the number, if there is one
abbrev IsOf : ℕ → BaudRate → Type 0
IsOf n rate = (named : BaudRate) → IsNamed named → to_integer named ≡ n → rate ≡ named

-- no case with a name has the number of a rate without one
none : (n r m : ℕ) (named : BaudRate) → IsOf n (Custom r) → IsNamed named → to_integer named ≡ m → eqb n m ≡ false
none n r m (Custom k) of is e = absurd cc
none n r m named of is e = ne_eqb n m (λ h. let same : Custom r ≡ named = of named is (e ∙ sym h) in absurd cc)

is_rate : (n : ℕ) (rate : BaudRate) → to_integer rate ≡ n → IsOf n rate → rate ≡ rate_of n
is_rate n (Custom r) value of =
    rw (
      none n r 115200 Baud115200 of refl refl,
      none n r 57600 Baud57600 of refl refl,
      none n r 38400 Baud38400 of refl refl,
      none n r 9600 Baud9600 of refl refl,
      none n r 4800 Baud4800 of refl refl,
      none n r 2400 Baud2400 of refl refl,
      none n r 1200 Baud1200 of refl refl,
      none n r 600 Baud600 of refl refl,
      none n r 300 Baud300 of refl refl,
      none n r 150 Baud150 of refl refl,
      none n r 110 Baud110 of refl refl,
    ) (ap Custom value)
is_rate n named value of = rw (← value) refl

pub returns : goal.returns
unfolding rate_in
returns c =
    made_ok (number_in 1 MOST_RATE c.args.word.now) c.in_ok-rate.rate rate_of c.from_integer.result c.in_ok-rate.ensures.value
    (is_rate _ _ c.from_integer.ensures.number c.from_integer.ensures.named)
