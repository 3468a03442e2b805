use Rattle.uart_live.proofs.Sizes.{bytes_fit, characters_fit}
use Rattle.uart_live.proofs.live.LiveChipWith.interrupts_when_due.Goals as goal

-- the queues take no more memory than there can be
pub interrupts_when_due-requires-room-P-ChipParts : goal.interrupts_when_due-requires-room-P-ChipParts
interrupts_when_due-requires-room-P-ChipParts g c κs = bytes_fit g.row.FIFO c.self.invariant.0

pub interrupts_when_due-requires-room-P-ChipParts-2 : goal.interrupts_when_due-requires-room-P-ChipParts-2
interrupts_when_due-requires-room-P-ChipParts-2 g c κs = characters_fit g.row.FIFO c.self.invariant.0

pub interrupts_when_due-requires-room-P-Transmitter-TransmitterParts : goal.interrupts_when_due-requires-room-P-Transmitter-TransmitterParts
interrupts_when_due-requires-room-P-Transmitter-TransmitterParts g c κs = bytes_fit g.row.FIFO c.self.invariant.0

pub interrupts_when_due-requires-room-P-Receiver-ReceiverParts : goal.interrupts_when_due-requires-room-P-Receiver-ReceiverParts
interrupts_when_due-requires-room-P-Receiver-ReceiverParts g c κs = characters_fit g.row.FIFO c.self.invariant.0
