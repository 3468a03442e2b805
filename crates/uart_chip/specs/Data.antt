-- The parts of a chip as plain data. They are those of chips whose FIFOs hold 16 characters: the arrays of the data do.
use Rattle.std.specs.Prelude.{ℕ, ◌*◌, false, List, []}
use Rattle.uart_spec.specs.declared.setup.FifoSize.TheVariants.{Sixteen}
use Rattle.uart_chip.specs.declared.transmitter.TransmitterData.{TransmitterData}
use Rattle.uart_chip.specs.declared.receiver.ReceiverData.{ReceiverData}
use Rattle.uart_chip.specs.declared.modem.ModemData.{ModemData}
use Rattle.uart_chip.specs.Transmitter.{TransmitterState}
use Rattle.uart_chip.specs.Receiver.{ReceiverState}
use Rattle.uart_chip.specs.Modem.{ModemState}

-- the transmitter with these data, and with these bytes on its wire
abbrev pub transmitter_of : TransmitterData → List ℕ → TransmitterState
transmitter_of t wire =
    record {
      size = Sixteen;
      queue = t.queue.items;
      shift_register = t.shift_register;
      wire = wire;
      capacity = t.wire_capacity;
      char_ticks = t.char_ticks;
      overflows = t.overflows;
      is_thr_pending = t.is_thr_pending;
    }

-- the receiver with these data, of a chip whose characters take this number of ticks, without a schedule
abbrev pub receiver_of : ℕ → ReceiverData → ReceiverState
receiver_of char_ticks r =
    record {
      size = Sixteen;
      queue = r.queue.items;
      is_overrun = r.is_overrun;
      is_front_reported = r.is_front_reported;
      last_byte = r.last_byte;
      timeout_ticks = r.timeout_ticks;
      timeout_limit = 4 * char_ticks;
      trigger = r.trigger;
      arrived = 0;
      marks = [];
      is_unscheduled_lost = false;
    }

-- a receiver of such a chip, without its schedule
abbrev pub without_schedule : ℕ → ReceiverState → ReceiverState
without_schedule char_ticks r =
    record r { timeout_limit = 4 * char_ticks; arrived = 0; marks = []; is_unscheduled_lost = false }

-- the modem lines with these data
abbrev pub modem_of : ModemData → ModemState
modem_of m = record { inputs = m.inputs.0; lines = m.lines.0; deltas = m.deltas.0 }
