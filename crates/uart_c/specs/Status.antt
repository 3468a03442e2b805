-- What the calls of C return.
use Rattle.std.specs.Prelude.{ℕ, Bool, not, ◌&&◌, ◌||◌, ◌==◌, nat_le, nat_lt, if◌then◌else◌}
use Rattle.uart_c.specs.declared.queue.TheConstants.{WIRE_ROOM}
use Rattle.uart_c.specs.declared.codes.TheConstants.{UART_OK, UART_BAD_FIFO, UART_BAD_TICKS, UART_BAD_WIRE}
use Rattle.uart_events.specs.declared.event.TheConstants.{MAX_CHAR_TICKS}

-- whether a chip is made: the first reason against it, or `UART_OK`
abbrev pub new_status : (char_ticks wire_capacity : ℕ) → ℕ
new_status char_ticks wire_capacity =
    if not (nat_le 1 char_ticks && nat_le char_ticks MAX_CHAR_TICKS) then UART_BAD_TICKS
    else if nat_lt WIRE_ROOM wire_capacity then UART_BAD_WIRE
    else UART_OK

-- whether a chip can be made with FIFOs of so many characters
abbrev pub is_fifo_size : (characters : ℕ) → Bool
is_fifo_size characters =
    ((characters == 16) || (characters == 32)) || ((characters == 64) || (characters == 128))

-- whether a chip with FIFOs of so many characters is made: the first reason against it, or `UART_OK`
abbrev pub sized_status : (fifo_size char_ticks wire_capacity : ℕ) → ℕ
sized_status fifo_size char_ticks wire_capacity =
    if is_fifo_size fifo_size then new_status char_ticks wire_capacity else UART_BAD_FIFO
