-- The configurations for which a divisor can be computed.
use Rattle.std.specs.Prelude.{◌≡◌, ◌*◌, ◌^◌, ◌<◌, ◌≤◌, ◌⊎◌, ℕ, Result, Ok, Err}
use Rattle.uart_spec.specs.Baud.{prescaler, frequency_of, distance, IsDivisorAnswer, IsNearestDivisor, IsNear}
use Rattle.uart_spec.specs.declared.errors.NearestDivisorError.{NearestDivisorError}
use Rattle.uart_spec.specs.declared.errors.NearestDivisorError.TheVariants.{TooFar, OutOfRange}
use Rattle.uart_spec.specs.BaudRate.{to_integer}
use Rattle.uart_spec.specs.declared.config.Config.{Config}

-- frequency and baud rate are not zero, and the prescaler division factor is absent or at most 15
pub record IsComputable (config : Config) : Type 0 where
  pub frequency : 0 < config.frequency
  pub baud_rate : 0 < to_integer config.baud_rate
  pub prescaler_division_factor : prescaler config.prescaler_division_factor ≤ 15

-- the frequency at which this divisor gives the configured baud rate exactly
abbrev pub exact_frequency : Config → (divisor : ℕ) → ℕ
exact_frequency config divisor = frequency_of (to_integer config.baud_rate) divisor config.prescaler_division_factor

-- no divisor is nearer to what the configuration asks for
abbrev pub IsNearestFor : Config → (divisor : ℕ) → Type 0
IsNearestFor config divisor =
    IsNearestDivisor config.frequency (to_integer config.baud_rate) config.prescaler_division_factor divisor

-- the divisor fits into the divisor latch, and the frequency at which it is exact into 32 bits
abbrev pub Fits : Config → (divisor : ℕ) → Type 0
Fits config divisor = (divisor ≤ 65535) × (exact_frequency config divisor < 2 ^ 32)

-- no divisor gives a rate that is near enough
abbrev pub NoneIsNear : Config → (per_mille : ℕ) → Type 0
NoneIsNear config per_mille =
    (divisor : ℕ) → 1 ≤ divisor →
    per_mille * exact_frequency config divisor < 1000 * distance (exact_frequency config divisor) config.frequency

-- the configuration with the frequency at which the nearest divisor is exact, so that it is the one that the exact
-- arithmetic computes, and the rate is near enough; or the nearest divisor, which does not fit, or fits and is too far
-- off, as each other divisor then is
abbrev pub IsNearestAnswer : Config → (per_mille : ℕ) → Result Config NearestDivisorError → Type 0
IsNearestAnswer config per_mille (Ok near) = (divisor : ℕ) × IsNearestFor config divisor
    × (near ≡ record config { frequency = exact_frequency config divisor })
    × IsDivisorAnswer near.frequency (to_integer near.baud_rate) near.prescaler_division_factor (Ok divisor)
    × IsNear config.frequency near.frequency per_mille
IsNearestAnswer config per_mille (Err (TooFar divisor)) = IsNearestFor config divisor × Fits config divisor
    × NoneIsNear config per_mille
IsNearestAnswer config per_mille (Err (OutOfRange divisor)) = IsNearestFor config divisor
    × ((65535 < divisor) ⊎ (2 ^ 32 ≤ exact_frequency config divisor))
