-- The divisor and the baud rate of a register dump.
use Rattle.std.specs.Prelude.{◌≡◌, ℕ, ◌+◌, ◌*◌, Result, Ok, Err}
use Rattle.uart_spec.specs.Baud.{IsBaudRateAnswer}
use Rattle.uart_spec.specs.BaudRate.{to_integer, IsNamed}
use Rattle.uart_spec.specs.declared.config.Config.{Config}
use Rattle.uart_spec.specs.declared.config.BaudRate.{BaudRate}
use Rattle.uart_spec.specs.declared.dump.ConfigRegisterDump.{ConfigRegisterDump}
use Rattle.uart_spec.specs.declared.errors.NonIntegerBaudRateError.{NonIntegerBaudRateError}

-- the divisor that a dump shows
abbrev pub divisor_of : ConfigRegisterDump → ℕ
divisor_of dump = 256 * dump.dlm + dump.dll

-- the baud rate that a dump's divisor gives, with its name if it has one; or an error if it is not a whole number
abbrev pub IsDumpRate : Config → ConfigRegisterDump → Result BaudRate NonIntegerBaudRateError → Type 0
IsDumpRate config dump (Ok rate) =
    IsBaudRateAnswer config.frequency (divisor_of dump) config.prescaler_division_factor (Ok (to_integer rate))
    × ((named : BaudRate) → IsNamed named → to_integer named ≡ to_integer rate → rate ≡ named)
IsDumpRate config dump (Err e) =
    IsBaudRateAnswer config.frequency (divisor_of dump) config.prescaler_division_factor (Err e)
