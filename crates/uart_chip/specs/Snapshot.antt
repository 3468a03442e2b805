-- The whole chip as plain data.
use Rattle.std.specs.Prelude.{ℕ, false, List}
use Rattle.uart_chip.specs.declared.chip.ChipData.{ChipData}
use Rattle.uart_chip.specs.declared.chip.Latches.{Latches}
use Rattle.uart_chip.specs.Chip.{LatchesState, ChipState}
use Rattle.uart_chip.specs.Data.{transmitter_of, receiver_of, without_schedule, modem_of}

-- the latches as bytes
abbrev pub latches_of : Latches → LatchesState
latches_of l = record { ier = l.ier.0; lcr = l.lcr.0; mcr = l.mcr.0; scr = l.scr; dll = l.dll; dlm = l.dlm }

-- the chip that these data describe, with these bytes on its wire and without a schedule; such a chip has no automatic
-- flow control, and no switch of the size
abbrev pub chip_of : ChipData → List ℕ → ChipState
chip_of c wire =
    record {
      model = c.model;
      latches = latches_of c.latches;
      fifo = c.fifo;
      transmitter = transmitter_of c.transmitter wire;
      receiver = receiver_of c.transmitter.char_ticks c.receiver;
      modem = modem_of c.modem;
      cuts = c.cuts;
      auto_flow = false;
      has_size_switch = false;
    }

-- a chip without its schedule
abbrev pub unscheduled : ChipState → ChipState
unscheduled c = record c { receiver = without_schedule c.transmitter.char_ticks c.receiver }
