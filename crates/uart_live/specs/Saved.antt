-- Whether data are those of a live chip with FIFOs of some size.
use Rattle.std.specs.Prelude.{ℕ, ◌*◌, Bool, true, not, ◌&&◌, ◌==◌, nat_le, bit_and, List, length, Option, Some, None}
use Rattle.std.specs.List.{list_all}
use Rattle.uart_chip.specs.declared.chip.ChipData.{ChipData}
use Rattle.uart_chip.specs.declared.chip.Latches.{Latches}
use Rattle.uart_events.specs.declared.event.Chip.{Chip}
use Rattle.uart_events.specs.declared.event.Chip.TheVariants.{Uart16550A, Uart16450}
use Rattle.uart_events.specs.declared.event.TheConstants.{MAX_CHAR_TICKS, MAX_WIRE_CAPACITY}
use Rattle.uart_chip.specs.declared.modem.ModemData.{ModemData}
use Rattle.uart_chip.specs.declared.receiver.Character.{Character}
use Rattle.uart_chip.specs.declared.receiver.ReceiverData.{ReceiverData}
use Rattle.uart_chip.specs.declared.transmitter.Shifting.{Shifting}
use Rattle.uart_chip.specs.declared.transmitter.TransmitterData.{TransmitterData}
use Rattle.uart_chip.specs.Masks.{ier_bits, mcr_bits}
use Rattle.uart_chip.specs.Receiver.{is_unscheduled}
use Rattle.uart_chip.specs.Transmitter.{room}
use Rattle.uart_live.specs.declared.sound.TheConstants.{TIMEOUT_CHARACTERS}
use Rattle.uart_spec.specs.declared.registers.line_status.TheConstants.LSR
use Rattle.uart_spec.specs.declared.registers.modem_status.TheConstants.MSR
use Rattle.uart_spec.specs.declared.setup.FifoSize.{FifoSize}

-- no bit outside of the mask is set
abbrev pub is_within : ℕ → ℕ → Bool
is_within value mask = bit_and value mask == value

-- a character without a schedule, with only errors of a character
abbrev pub is_live_character : Character → Bool
is_live_character character = is_unscheduled character.origin && is_within character.errors LSR.CHARACTER_ERRORS.0

-- the queue fits, its characters may be there, and the idle ticks end when a reception timeout is due
abbrev pub is_sound_receiver : FifoSize → Bool → ℕ → ReceiverData → Bool
is_sound_receiver size fifo char_ticks r =
    nat_le (length r.queue.items) (room fifo size) &&
    (list_all is_live_character r.queue.items && nat_le r.timeout_ticks (TIMEOUT_CHARACTERS * char_ticks))

-- a character in the shift register has at least one tick left, and at most its whole time
abbrev pub is_ticking : ℕ → Option Shifting → Bool
is_ticking char_ticks None = true
is_ticking char_ticks (Some s) = nat_le 1 s.ticks_left && nat_le s.ticks_left char_ticks

-- the ticks of a character are in their range
abbrev pub is_char_time : ℕ → Bool
is_char_time char_ticks = nat_le 1 char_ticks && nat_le char_ticks MAX_CHAR_TICKS

-- whether the transmitter is sound, as a test of its data
abbrev pub is_sound_transmitter : FifoSize → Bool → TransmitterData → List ℕ → Bool
is_sound_transmitter size fifo t wire =
    is_char_time t.char_ticks && (is_ticking t.char_ticks t.shift_register &&
    (nat_le (length t.queue.items) (room fifo size) &&
    (nat_le (length wire) t.wire_capacity && nat_le t.wire_capacity MAX_WIRE_CAPACITY)))

-- whether the modem lines and their changes are sound: none has a bit that is not its own
abbrev pub is_sound_modem : ModemData → Bool
is_sound_modem m =
    is_within m.inputs.0 MSR.LINES.0 && (is_within m.lines.0 MSR.LINES.0 && is_within m.deltas.0 MSR.CHANGES.0)

-- whether the latches are sound: IER and MCR have no bit that the chip does not keep
abbrev pub is_sound_latches : Latches → Bool
is_sound_latches l = is_within l.ier.0 ier_bits && is_within l.mcr.0 mcr_bits

-- only a chip that has a FIFO has it on
abbrev pub is_implemented : Chip → Bool → Bool
is_implemented Uart16550A fifo = true
is_implemented Uart16450 fifo = not fifo

-- whether all of these tests succeed; exactly the data of a chip that is `IsLive`, with FIFOs of this size, pass them
abbrev pub is_live : FifoSize → ChipData → List ℕ → Bool
is_live size c wire =
    is_sound_latches c.latches && (is_implemented c.model c.fifo && (is_sound_modem c.modem &&
    (is_sound_receiver size c.fifo c.transmitter.char_ticks c.receiver &&
    is_sound_transmitter size c.fifo c.transmitter wire)))
