-- The line status register by its parts: what the transmitter shows in it, and what the receiver does.
use Rattle.std.specs.Prelude.{ℕ, Bool, ◌&&◌, List, length, Option, ◌==◌, nat_lt, bit_or}
use Rattle.std.specs.List.{list_any}
use Rattle.uart_chip.specs.declared.receiver.Character.{Character}
use Rattle.uart_chip.specs.declared.transmitter.Shifting.{Shifting}
use Rattle.uart_chip.specs.Receiver.{front_errors, has_errors, unreported}
use Rattle.uart_chip.specs.Chip.{is_transmitter_empty}
use Rattle.uart_spec.specs.Bits.{flag}
use Rattle.uart_spec.specs.declared.registers.line_status.TheConstants.LSR

-- whether THR and whether the transmitter are empty
abbrev pub transmitter_status : List ℕ → Option Shifting → ℕ
transmitter_status queue place =
    bit_or (flag (length queue == 0) LSR.THR_EMPTY.0) (flag (is_transmitter_empty queue place) LSR.TRANSMITTER_EMPTY.0)

-- whether a character waits, whether one was lost, and the errors of the front
abbrev pub receiver_status : List Character → (overrun reported : Bool) → ℕ
receiver_status queue overrun reported =
    bit_or (bit_or (flag (nat_lt 0 (length queue)) LSR.DATA_READY.0) (flag overrun LSR.OVERRUN_ERROR.0))
    (front_errors queue reported)

-- whether a character in the FIFO has errors that were not reported
abbrev pub fifo_status : (fifo : Bool) → List Character → (reported : Bool) → ℕ
fifo_status fifo queue reported = flag (fifo && list_any has_errors (unreported queue reported)) LSR.FIFO_DATA_ERROR.0
