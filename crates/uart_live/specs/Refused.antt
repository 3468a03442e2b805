-- Why no live chip is made.
use Rattle.std.specs.Prelude.{ℕ, not, ◌&&◌, nat_le, nat_lt, Option, Some, None, if◌then◌else◌}
use Rattle.uart_events.specs.declared.event.TheConstants.{MAX_CHAR_TICKS}
use Rattle.uart_live.specs.declared.fixed.TheConstants.{WIRE_ROOM}
use Rattle.uart_live.specs.declared.errors.ChipError.{ChipError}
use Rattle.uart_live.specs.declared.errors.ChipError.TheVariants.{BadFifo, BadTicks, BadWire}
use Rattle.uart_live.specs.Size.{is_size}

-- why no chip is made, if none is: no FIFO holds so many characters, or else the ticks of a character are not in their
-- range, or else the wire has room for too much
abbrev pub refusal : (count char_ticks capacity : ℕ) → Option ChipError
refusal count char_ticks capacity =
    if not (is_size count) then Some BadFifo
    else if not (nat_le 1 char_ticks && nat_le char_ticks MAX_CHAR_TICKS) then Some BadTicks
    else if nat_lt WIRE_ROOM capacity then Some BadWire
    else None
