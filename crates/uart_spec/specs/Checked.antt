-- The arithmetic of the baud rate generator for arguments that it does not have to accept.
use Rattle.std.specs.Prelude.{◌≡◌, ◌≢◌, ℕ, ◌<◌, ◌≤◌, ◌^◌, ◌⊎◌, Option, Result, Ok, Err}
use Rattle.uart_spec.specs.Baud.{prescaler, frequency_of, IsBaudRateAnswer, IsDivisorAnswer}
use Rattle.uart_spec.specs.BaudRate.{IsNamed, to_integer}
use Rattle.uart_spec.specs.Config.{IsComputable, IsNearestAnswer}
use Rattle.uart_spec.specs.Dump.{divisor_of}
use Rattle.uart_spec.specs.declared.config.BaudRate.{BaudRate}
use Rattle.uart_spec.specs.declared.config.Config.{Config}
use Rattle.uart_spec.specs.declared.dump.ConfigRegisterDump.{ConfigRegisterDump}
use Rattle.uart_spec.specs.declared.errors.InvalidDivisorError.{InvalidDivisorError}
use Rattle.uart_spec.specs.declared.errors.InvalidDivisorError.TheVariants.{NonInteger, OutOfRange}
use Rattle.uart_spec.specs.declared.errors.NearestDivisorError.{NearestDivisorError}
use Rattle.uart_spec.specs.declared.errors.NearestDivisorError.TheVariants as nearest
use Rattle.uart_spec.specs.declared.errors.NonIntegerBaudRateError.{NonIntegerBaudRateError}

-- the arithmetic accepts two numbers and a prescaler division factor: no number is zero, and the factor is absent or at
-- most 15
pub record IsAccepted (first second : ℕ) (prescaler_division_factor : Option ℕ) : Type 0 where
  pub one : 0 < first
  pub other : 0 < second
  pub factor : prescaler prescaler_division_factor ≤ 15

-- the arithmetic does not accept them: a number is zero, or the factor is above 15
abbrev pub IsNotAccepted : (one other : ℕ) → Option ℕ → Type 0
IsNotAccepted one other factor = (one ≡ 0) ⊎ (other ≡ 0) ⊎ (15 < prescaler factor)

-- the frequency at which a divisor gives a baud rate
pub record IsFrequency (baud_rate divisor : ℕ) (factor : Option ℕ) (frequency : ℕ) : Type 0 where
  pub accepted : IsAccepted baud_rate divisor factor
  pub is : frequency ≡ frequency_of baud_rate divisor factor

-- the arithmetic does not accept these, or the frequency does not fit into 32 bits
abbrev pub HasNoFrequency : (baud_rate divisor : ℕ) → Option ℕ → Type 0
HasNoFrequency baud_rate divisor factor =
    IsNotAccepted baud_rate divisor factor ⊎ (2 ^ 32 ≤ frequency_of baud_rate divisor factor)

-- the baud rate of a divisor; or an error with the arguments, if it is no whole one or the arithmetic does not accept
-- them
abbrev pub IsCheckedRate : (frequency divisor : ℕ) → Option ℕ → Result ℕ NonIntegerBaudRateError → Type 0
IsCheckedRate frequency divisor factor (Ok baud_rate) =
    IsAccepted frequency divisor factor × IsBaudRateAnswer frequency divisor factor (Ok baud_rate)
IsCheckedRate frequency divisor factor (Err error) =
    (IsNotAccepted frequency divisor factor ⊎ ((baud_rate : ℕ) → frequency_of baud_rate divisor factor ≢ frequency))
    × (error ≡ record { frequency = frequency; divisor = divisor; prescaler_division_factor = factor })

-- why the arithmetic does not accept a frequency and a baud rate: no divisor gives a baud rate of zero, or has a factor
-- above 15; otherwise a frequency of zero has the divisor 0, which does not fit into the divisor latch
abbrev pub IsRefusal : (frequency baud_rate : ℕ) → Option ℕ → InvalidDivisorError → Type 0
IsRefusal frequency baud_rate factor (NonInteger error) =
    ((baud_rate ≡ 0) ⊎ (15 < prescaler factor))
    × (error ≡ record { frequency = frequency; baud_rate = baud_rate; prescaler_division_factor = factor })
IsRefusal frequency baud_rate factor (OutOfRange divisor) =
    (frequency ≡ 0) × (0 < baud_rate) × (prescaler factor ≤ 15) × (divisor ≡ 0)

-- the answer of the arithmetic if it accepts these, and otherwise why it does not
abbrev pub IsCheckedDivisor : (frequency baud_rate : ℕ) → Option ℕ → Result ℕ InvalidDivisorError → Type 0
IsCheckedDivisor frequency baud_rate factor (Ok divisor) =
    IsAccepted frequency baud_rate factor × IsDivisorAnswer frequency baud_rate factor (Ok divisor)
IsCheckedDivisor frequency baud_rate factor (Err error) =
    (IsAccepted frequency baud_rate factor × IsDivisorAnswer frequency baud_rate factor (Err error))
    ⊎ IsRefusal frequency baud_rate factor error

-- the answer of `nearest` for a computable configuration, and otherwise an error that has the divisor 0
abbrev pub IsCheckedNearest : Config → (per_mille : ℕ) → Result Config NearestDivisorError → Type 0
IsCheckedNearest config per_mille result =
    (IsComputable config × IsNearestAnswer config per_mille result)
    ⊎ (IsNotAccepted config.frequency (to_integer config.baud_rate) config.prescaler_division_factor
    × (result ≡ Err (nearest.OutOfRange 0)))

-- the baud rate of a dump, as `IsCheckedRate` says it of the divisor there, with its name if it has one
abbrev pub IsCheckedDumpRate : Config → ConfigRegisterDump → Result BaudRate NonIntegerBaudRateError → Type 0
IsCheckedDumpRate config dump (Ok rate) =
    IsCheckedRate config.frequency (divisor_of dump) config.prescaler_division_factor (Ok (to_integer rate))
    × ((named : BaudRate) → IsNamed named → to_integer named ≡ to_integer rate → rate ≡ named)
IsCheckedDumpRate config dump (Err e) =
    IsCheckedRate config.frequency (divisor_of dump) config.prescaler_division_factor (Err e)
