use Rattle.uart_live.proofs.Sizes.{bytes_fit, characters_fit}
use Rattle.uart_live.proofs.live.LiveChipWith.cut.Goals as goal

-- the queues take no more memory than there can be
pub cut-requires-room-P-ChipParts : goal.cut-requires-room-P-ChipParts
cut-requires-room-P-ChipParts g c κs = bytes_fit g.row.FIFO c.self.invariant.0

pub cut-requires-room-P-ChipParts-2 : goal.cut-requires-room-P-ChipParts-2
cut-requires-room-P-ChipParts-2 g c κs = characters_fit g.row.FIFO c.self.invariant.0

pub cut-requires-room-P-Transmitter-TransmitterParts : goal.cut-requires-room-P-Transmitter-TransmitterParts
cut-requires-room-P-Transmitter-TransmitterParts g c κs = bytes_fit g.row.FIFO c.self.invariant.0

pub cut-requires-room-P-Receiver-ReceiverParts : goal.cut-requires-room-P-Receiver-ReceiverParts
cut-requires-room-P-Receiver-ReceiverParts g c κs = characters_fit g.row.FIFO c.self.invariant.0
