-- Calls that take each configuration, and do nothing for one that is not computable.
use Rattle.std.specs.Prelude.{◌≡◌, ◌⊎◌, List, []}
use Rattle.uart_spec.specs.BaudRate.{to_integer}
use Rattle.uart_spec.specs.Checked.{IsRefusal}
use Rattle.uart_spec.specs.Config.{IsComputable}
use Rattle.uart_spec.specs.declared.access.Access.{Access}
use Rattle.uart_spec.specs.declared.config.Config.{Config}
use Rattle.uart_spec.specs.declared.errors.InvalidDivisorError.{InvalidDivisorError}
use Rattle.uart_16550.specs.Driver.{Doing, Fields}

-- why there is no divisor for a configuration that is not computable
abbrev pub IsRefusalOf : Config → InvalidDivisorError → Type 0
IsRefusalOf config cause =
    IsRefusal config.frequency (to_integer config.baud_rate) config.prescaler_division_factor cause

-- a call does this for a configuration that is computable. For another one it does nothing, and its result tells why
-- there is no divisor
abbrev pub IfComputable : {R : Type 0} → Config → (InvalidDivisorError → R) → R → Doing → Doing
IfComputable config refused result G f l after =
    (IsComputable config × G f l after)
    ⊎ ((cause : InvalidDivisorError) × IsRefusalOf config cause × (result ≡ refused cause) × (l ≡ []) × (after ≡ f))
