-- Whether the data of C are those of a sound chip.
use Rattle.std.specs.Prelude.{◌≡◌, ℕ, ◌*◌, ◌<◌, Bool, ◌&&◌, ◌==◌}
use Rattle.uart_c.specs.Queue.{fifo_size_of, wire_of}
use Rattle.uart_c.specs.State.{chip_data}
use Rattle.uart_c.specs.Status.{new_status}
use Rattle.uart_c.specs.declared.chip.UartChip.{UartChip}
use Rattle.uart_c.specs.declared.codes.TheConstants.{UART_OK}
use Rattle.uart_chip.specs.Chip.{ChipState, fresh, with_size}
use Rattle.uart_spec.specs.Bits.{IsWithin}
use Rattle.uart_spec.specs.FifoSize.{characters}
use Rattle.uart_spec.specs.declared.setup.FifoSize.{FifoSize}
use Rattle.uart_events.specs.declared.event.Chip.{Chip}
use Rattle.uart_live.specs.Laws.{Act, Write, Arrive, ArriveHolding, SetLines, after}
use Rattle.uart_live.specs.Live.{IsLive}
use Rattle.uart_live.specs.Saved.{is_live}
use Rattle.uart_live.specs.declared.sound.TheConstants.{TIMEOUT_CHARACTERS}
use Rattle.uart_spec.specs.declared.registers.line_status.TheConstants.LSR
use Rattle.uart_spec.specs.declared.registers.modem_status.TheConstants.MSR

-- sound as a live chip is, with FIFOs of the size that they have
abbrev pub IsLiveChip : ChipState → Type 0
IsLiveChip c = IsLive c.transmitter.size c

-- whether the data are those of a live chip, the limit of its idle ticks is four character times, and its FIFOs have
-- one size
abbrev pub is_sound : UartChip → Bool
is_sound c =
    is_live (fifo_size_of c.transmitter.fifo_size) (chip_data c) (wire_of c.transmitter.wire) &&
    ((c.receiver.timeout_limit == TIMEOUT_CHARACTERS * c.transmitter.char_ticks) &&
    (characters (fifo_size_of c.receiver.fifo_size) == characters (fifo_size_of c.transmitter.fifo_size)))

-- the call is one that is not refused; a value that is written is a byte
abbrev pub IsAccepted : Act → Type 0
IsAccepted (Write offset value) = value < 256
IsAccepted (Arrive byte errors) = IsWithin errors LSR.CHARACTER_ERRORS.0
IsAccepted (ArriveHolding byte errors) = IsWithin errors LSR.CHARACTER_ERRORS.0
IsAccepted (SetLines inputs) = IsWithin inputs MSR.LINES.0
IsAccepted _ = Unit {0}

-- a chip that is made is sound, with FIFOs of any size
abbrev pub MadeChipsAreSound : Type 0
MadeChipsAreSound =
    (size : FifoSize) (model : Chip) (char_ticks wire_capacity : ℕ) (cuts : Bool) →
    -- the number of ticks and the room of the wire are not refused
    new_status char_ticks wire_capacity ≡ UART_OK →
    IsLiveChip (record (with_size size (fresh model char_ticks wire_capacity 0)) { cuts = cuts })

-- a sound chip stays sound, whatever is done with it
abbrev pub SoundChipsStaySound : Type 0
SoundChipsStaySound = (act : Act) (c : ChipState) → IsAccepted act → IsLiveChip c → IsLiveChip (after act c)
