-- Which machines can be built, and why others are refused.
use Rattle.std.specs.Prelude.{ℕ, Bool, true, false, not, ◌&&◌, ◌==◌, nat_le, nat_lt, bit_and, List, Option, Some}
use Rattle.std.specs.Prelude.{position, if◌then◌else◌}
use Rattle.std.specs.Option.{option_map, option_or}
use Rattle.uart_events.specs.declared.event.Event.{Event}
use Rattle.uart_events.specs.declared.event.Event.TheVariants.{Arrive, Lines}
use Rattle.uart_events.specs.declared.event.BuildError.{BuildError}
use Rattle.uart_events.specs.declared.event.TheConstants.{MAX_CHAR_TICKS, MAX_WIRE_CAPACITY}
use Rattle.uart_events.specs.declared.event.BuildError.TheVariants.{BadTicks, BadWire, BadErrors, BadLines}
use Rattle.uart_spec.specs.declared.registers.line_status.TheConstants.LSR
use Rattle.uart_spec.specs.declared.registers.modem_status.TheConstants.MSR
use Rattle.uart_spec.specs.Bits.{IsWithin}

-- some bit is outside of the mask
abbrev pub is_outside : ℕ → ℕ → Bool
is_outside value mask = not (bit_and value mask == value)

-- an arrival with a bit that is not an error of a character
abbrev pub has_bad_errors : Event → Bool
has_bad_errors (Arrive byte errors) = is_outside errors LSR.CHARACTER_ERRORS.0
has_bad_errors _ = false

-- a change of lines with a bit that is not a line
abbrev pub has_bad_lines : Event → Bool
has_bad_lines (Lines inputs) = is_outside inputs MSR.LINES.0
has_bad_lines _ = false

-- an arrival has only errors of a character, and a change of the lines only lines
abbrev pub IsLegal : Event → Type 0
IsLegal (Arrive byte errors) = IsWithin errors LSR.CHARACTER_ERRORS.0
IsLegal (Lines inputs) = IsWithin inputs MSR.LINES.0
IsLegal _ = Unit {0}

-- the event is an arrival
abbrev pub is_arrival : Event → Bool
is_arrival (Arrive byte errors) = true
is_arrival _ = false

-- why no machine is built, however much memory there is: the first reason in the order ticks, wire, errors, lines
abbrev pub refusal : ℕ → ℕ → List Event → Option BuildError
refusal char_ticks capacity events =
    let errors = option_map BadErrors (position has_bad_errors events) in
    let lines = option_map BadLines (position has_bad_lines events) in
    if not (nat_le 1 char_ticks && nat_le char_ticks MAX_CHAR_TICKS) then Some BadTicks
    else if nat_lt MAX_WIRE_CAPACITY capacity then Some BadWire
    else option_or errors lines
