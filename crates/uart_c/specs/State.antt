-- The chip that the data of C are.
use Rattle.std.specs.Prelude.{ℕ, Option, Some, None, if◌then◌else◌, ◌==◌}
use Rattle.uart_c.specs.Queue.{is_on, fifo_size_of, bytes_of, characters_of, wire_of, capacity_of}
use Rattle.uart_c.specs.declared.chip.UartChip.{UartChip}
use Rattle.uart_c.specs.declared.chip.UartLatches.{UartLatches}
use Rattle.uart_c.specs.declared.modem.UartModem.{UartModem}
use Rattle.uart_c.specs.declared.receiver.UartReceiver.{UartReceiver}
use Rattle.uart_c.specs.declared.transmitter.UartTransmitter.{UartTransmitter}
use Rattle.uart_events.specs.declared.event.Chip.{Chip}
use Rattle.uart_events.specs.declared.event.Chip.TheVariants.{Uart16550A, Uart16450}
use Rattle.uart_chip.specs.declared.chip.ChipData.{ChipData}
use Rattle.uart_chip.specs.declared.chip.Latches.{Latches}
use Rattle.uart_chip.specs.declared.modem.ModemData.{ModemData}
use Rattle.uart_chip.specs.declared.receiver.ReceiverData.{ReceiverData}
use Rattle.uart_chip.specs.declared.transmitter.Shifting.{Shifting}
use Rattle.uart_chip.specs.declared.transmitter.TransmitterData.{TransmitterData}
use Rattle.uart_chip.specs.Chip.{ChipState, LatchesState}
use Rattle.uart_chip.specs.Data as parts
use Rattle.uart_chip.specs.Modem.{ModemState}
use Rattle.uart_chip.specs.Receiver as receiver
use Rattle.uart_chip.specs.Receiver.{ReceiverState}
use Rattle.uart_chip.specs.Snapshot as snapshot
use Rattle.uart_chip.specs.Transmitter.{TransmitterState}
use Rattle.uart_spec.specs.declared.registers.fifo_trigger_level.FifoTriggerLevel.{FifoTriggerLevel}
use Rattle.uart_spec.specs.declared.registers.fifo_trigger_level.FifoTriggerLevel.TheVariants.{One, Four, Eight}
use Rattle.uart_spec.specs.declared.registers.fifo_trigger_level.FifoTriggerLevel.TheVariants.{Fourteen}
use Rattle.uart_spec.specs.declared.setup.FifoSize.TheVariants.{Sixteen}

-- ---- the data of C as a live chip is saved

-- the latches as a live chip saves them
abbrev pub latches_data : UartLatches → Latches
latches_data l =
    record {
      ier = record { 0 = l.ier };
      lcr = record { 0 = l.lcr };
      mcr = record { 0 = l.mcr };
      scr = l.scr;
      dll = l.dll;
      dlm = l.dlm;
    }

-- the modem lines as a live chip saves them
abbrev pub modem_data : UartModem → ModemData
modem_data m =
    record { inputs = record { 0 = m.inputs }; lines = record { 0 = m.lines }; deltas = record { 0 = m.deltas } }

-- the trigger level for so many characters; any other number counts as fourteen
abbrev pub trigger_of : (characters : ℕ) → FifoTriggerLevel
trigger_of characters =
    if characters == 1 then One else if characters == 4 then Four else if characters == 8 then Eight else Fourteen

-- the number of characters by which C names a trigger level: as many as it is for with a FIFO of 16
abbrev pub number_of : FifoTriggerLevel → ℕ
number_of level = receiver.characters_of Sixteen level

-- the receiver as a live chip saves it, without the limit of its idle ticks
abbrev pub receiver_data : UartReceiver → ReceiverData
receiver_data r =
    record {
      queue = record { items = characters_of (fifo_size_of r.fifo_size) r.queue };
      is_overrun = is_on r.is_overrun;
      is_front_reported = is_on r.is_front_reported;
      last_byte = r.last_byte;
      timeout_ticks = r.timeout_ticks;
      trigger = trigger_of r.trigger;
    }

-- the character that is being shifted out
abbrev pub place_of : UartTransmitter → Option Shifting
place_of t =
    if is_on t.is_shifting then Some (record { byte = t.shift_byte; ticks_left = t.ticks_left }) else None

-- the transmitter as a live chip saves it, without the bytes on its wire
abbrev pub transmitter_data : UartTransmitter → TransmitterData
transmitter_data t =
    record {
      queue = record { items = bytes_of (fifo_size_of t.fifo_size) t.queue };
      shift_register = place_of t;
      wire_capacity = capacity_of t.wire;
      char_ticks = t.char_ticks;
      overflows = t.overflows;
      is_thr_pending = is_on t.is_thr_pending;
    }

-- 0 is a 16450, and any other number a 16550A
abbrev pub model_of : ℕ → Chip
model_of model = if is_on model then Uart16550A else Uart16450

-- the chip as a live chip is saved
abbrev pub chip_data : UartChip → ChipData
chip_data c =
    record {
      model = model_of c.model;
      latches = latches_data c.latches;
      fifo = is_on c.fifo;
      transmitter = transmitter_data c.transmitter;
      receiver = receiver_data c.receiver;
      modem = modem_data c.modem;
      cuts = is_on c.cuts;
    }

-- ---- the chip of these data

-- the data of a saved chip have no sizes of FIFOs and no limit of idle ticks: those of C do

-- the transmitter; the receiver, without a schedule: no arrivals and no marks, as after power-on; the modem lines; the
-- latches
abbrev pub transmitter_of : UartTransmitter → TransmitterState
transmitter_of t =
    record (parts.transmitter_of (transmitter_data t) (wire_of t.wire)) { size = fifo_size_of t.fifo_size }

abbrev pub receiver_of : UartReceiver → ReceiverState
receiver_of r =
    record (parts.receiver_of 0 (receiver_data r))
    { size = fifo_size_of r.fifo_size; timeout_limit = r.timeout_limit }

abbrev pub modem_of : UartModem → ModemState
modem_of m = parts.modem_of (modem_data m)

abbrev pub latches_of : UartLatches → LatchesState
latches_of l = snapshot.latches_of (latches_data l)

-- the chip that a struct of C is, whatever bytes it holds
abbrev pub chip_of : UartChip → ChipState
chip_of c =
    record (snapshot.chip_of (chip_data c) (wire_of c.transmitter.wire))
    { transmitter = transmitter_of c.transmitter; receiver = receiver_of c.receiver }
