-- What a guest does most often, and what a chip then does in few steps: reads of LSR that show no error, and bytes that
-- are taken as soon as they are written.
use Rattle.std.specs.Prelude.{ℕ, Bool, true, ◌||◌, Option, Some, None, if◌then◌else◌}
use Rattle.std.specs.List.{list_any}
use Rattle.uart_chip.specs.Chip.{ChipState, line_status, with_thr_pending}
use Rattle.uart_chip.specs.Receiver.{has_errors}
use Rattle.uart_live.specs.Held.{expire}
use Rattle.uart_spec.specs.Bits.{has_any}
use Rattle.uart_spec.specs.declared.registers.line_status.TheConstants.LSR

-- what a read of LSR returns, if it shows no error and no character that waits has one
abbrev pub clear_status : ChipState → Option ℕ
clear_status c =
    if list_any has_errors c.receiver.queue || has_any (line_status c) LSR.LINE_ERRORS.0 then None
    else Some (line_status c)

-- a byte that was written to DATA was taken past the wire: THR became empty, which is an interrupt, and nothing else is
-- new
abbrev pub passed : ChipState → ChipState
passed c = record c { transmitter = record c.transmitter { is_thr_pending = true } }

-- a chip whose reception timeout is due, and whose THR-empty interrupt is pending, or is not
abbrev pub when_due : (is_thr_pending : Bool) → ChipState → ChipState
when_due is_thr_pending c = with_thr_pending is_thr_pending (expire c)
