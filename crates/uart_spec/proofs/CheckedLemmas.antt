-- An answer of the arithmetic is one of the form that tests its arguments before.
use Rattle.std.proofs.Common.{◌≡◌, ℕ, Option, Result, Ok, Err, inl, inr, subst}
use Rattle.uart_spec.specs.Baud.{IsBaudRateAnswer, IsDivisorAnswer}
use Rattle.uart_spec.specs.Checked.{IsAccepted, IsCheckedDivisor, IsCheckedRate}
use Rattle.uart_spec.specs.declared.errors.InvalidDivisorError.{InvalidDivisorError}
use Rattle.uart_spec.specs.declared.errors.NonIntegerBaudRateError.{NonIntegerBaudRateError}

-- of the baud rate, for a factor that is the same
pub rate_of_same : (f d : ℕ) (p q : Option ℕ) (r : Result ℕ NonIntegerBaudRateError) → q ≡ p → IsAccepted f d p →
    IsBaudRateAnswer f d q r → IsCheckedRate f d p r
rate_of_same f d p q r same accepted answer = of r (subst (λ n. IsBaudRateAnswer f d n r) same answer)
  where
    of : (s : Result ℕ NonIntegerBaudRateError) → IsBaudRateAnswer f d p s → IsCheckedRate f d p s
    of (Ok rate) is = (accepted, is)
    of (Err error) (none, is) = (inr none, is)

-- of the divisor
pub divisor_of_same : (f b : ℕ) (p q : Option ℕ) (r : Result ℕ InvalidDivisorError) → q ≡ p → IsAccepted f b p →
    IsDivisorAnswer f b q r → IsCheckedDivisor f b p r
divisor_of_same f b p q r same accepted answer = of r (subst (λ n. IsDivisorAnswer f b n r) same answer)
  where
    of : (s : Result ℕ InvalidDivisorError) → IsDivisorAnswer f b p s → IsCheckedDivisor f b p s
    of (Ok divisor) is = (accepted, is)
    of (Err error) is = inl (accepted, is)
