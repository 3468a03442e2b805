-- A chip of which every part is that of another one without its schedule.
use Rattle.std.proofs.Common.{◌≡◌, Bool, refl}
use Rattle.uart_chip.specs.Transmitter.{TransmitterState}
use Rattle.uart_chip.specs.Receiver.{ReceiverState}
use Rattle.uart_chip.specs.Modem.{ModemState}
use Rattle.uart_chip.specs.Chip.{ChipState}
use Rattle.uart_chip.specs.Data.{without_schedule}
use Rattle.uart_chip.specs.Snapshot.{unscheduled}

pub same_parts : (c : ChipState) (t : TransmitterState) (r : ReceiverState) (m : ModemState) (flow switch : Bool) → t ≡ c.transmitter →
    r ≡ without_schedule c.transmitter.char_ticks c.receiver → m ≡ c.modem → flow ≡ c.auto_flow → switch ≡ c.has_size_switch →
    record c { transmitter = t; receiver = r; modem = m; auto_flow = flow; has_size_switch = switch } ≡ unscheduled c
same_parts c t r m flow switch e f g h k = rw (e, f, g, h, k) refl
