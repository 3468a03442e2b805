-- The arithmetic of the baud rate generator.
use Rattle.std.specs.Prelude.{◌≡◌, ◌≢◌, ℕ, ◌+◌, ◌-◌, ◌*◌, ◌<◌, ◌≤◌, Option, unwrap_or, Result, Ok, Err}
use Rattle.uart_spec.specs.declared.errors.InvalidDivisorError.{InvalidDivisorError}
use Rattle.uart_spec.specs.declared.errors.InvalidDivisorError.TheVariants.{NonInteger, OutOfRange}
use Rattle.uart_spec.specs.declared.errors.NonIntegerBaudRateError.{NonIntegerBaudRateError}

-- the prescaler division factor, 0 if there is none
abbrev pub prescaler : Option ℕ → ℕ
prescaler factor = unwrap_or factor 0

-- the clock frequency at which a divisor gives a baud rate: 16 times the prescaler plus 1, times rate, times divisor
abbrev pub frequency_of : (baud_rate divisor : ℕ) → Option ℕ → ℕ
frequency_of baud_rate divisor factor = 16 * (prescaler factor + 1) * baud_rate * divisor

-- the baud rate that this divisor gives exactly; or an error with the arguments, if it gives no whole one
abbrev pub IsBaudRateAnswer : (frequency divisor : ℕ) → Option ℕ → Result ℕ NonIntegerBaudRateError → Type 0
IsBaudRateAnswer frequency divisor factor (Ok baud_rate) = frequency_of baud_rate divisor factor ≡ frequency
IsBaudRateAnswer frequency divisor factor (Err error) =
    ((baud_rate : ℕ) → frequency_of baud_rate divisor factor ≢ frequency)
    × (error ≡ record { frequency = frequency; divisor = divisor; prescaler_division_factor = factor })

-- the divisor that gives exactly this baud rate, if it fits into the divisor latch; an error with the divisor if it
-- does not fit; an error with the arguments if no whole divisor does
abbrev pub IsDivisorAnswer : (frequency baud_rate : ℕ) → Option ℕ → Result ℕ InvalidDivisorError → Type 0
IsDivisorAnswer frequency baud_rate factor (Ok divisor) =
    (frequency_of baud_rate divisor factor ≡ frequency) × (1 ≤ divisor) × (divisor ≤ 65535)
IsDivisorAnswer frequency baud_rate factor (Err (OutOfRange divisor)) =
    (frequency_of baud_rate divisor factor ≡ frequency) × (65535 < divisor)
IsDivisorAnswer frequency baud_rate factor (Err (NonInteger error)) =
    ((divisor : ℕ) → frequency_of baud_rate divisor factor ≢ frequency)
    × (error ≡ record { frequency = frequency; baud_rate = baud_rate; prescaler_division_factor = factor })

-- how far two numbers are apart
abbrev pub distance : ℕ → ℕ → ℕ
distance a b = (a - b) + (b - a)

-- a factor gives the rate of the frequency divided by the factor, and the ticks are the rate that is wanted. Of the
-- factors that are at least 1 it is the one whose rate is nearest to that, and the larger one if two are equally near.
-- The two differences are `distance (ticks * factor) frequency / factor`; they are compared crosswise
pub record IsNearestFactor (frequency ticks factor : ℕ) : Type 0 where
  pub some : 1 ≤ factor
  pub nearest : (other : ℕ) → 1 ≤ other →
      distance (ticks * factor) frequency * other ≤ distance (ticks * other) frequency * factor
  pub largest : (other : ℕ) → factor < other →
      distance (ticks * factor) frequency * other < distance (ticks * other) frequency * factor

-- no divisor gives a rate that is nearer to this baud rate, and no larger one a rate that is as near
abbrev pub IsNearestDivisor : (frequency baud_rate : ℕ) → Option ℕ → (divisor : ℕ) → Type 0
IsNearestDivisor frequency baud_rate factor divisor =
    IsNearestFactor frequency (16 * (prescaler factor + 1) * baud_rate) divisor

-- the frequencies differ by at most so many thousandths of the exact one. The two baud rates have the same ratio: the
-- one that the divisor gives, and the one that was asked for. So these differ by as many thousandths
abbrev pub IsNear : (frequency exact per_mille : ℕ) → Type 0
IsNear frequency exact per_mille = 1000 * distance exact frequency ≤ per_mille * exact
