use Rattle.std.proofs.Common.{◌+◌, ◌≤◌, arith}
use Rattle.uart_chip.specs.Jumps.{moves}
use Rattle.uart_chip.proofs.soundness.Idle.{moves-most}
use Rattle.uart_live.specs.Size.{fifo_size}
use Rattle.uart_live.proofs.Lives.{live-ticks}
use Rattle.uart_spec.specs.FifoSize.{characters}
use Rattle.uart_live.proofs.Sizes.{bytes_fit, characters_fit}
use Rattle.uart_live.proofs.live.LiveChipWith.ticks.Goals as goal

pub invariant_of-self : goal.invariant_of-self
invariant_of-self g c =
    (c.self.invariant.0, rw c.ticks.ensures.after (live-ticks c.args.count _ c.self.invariant.1))

pub returns-clause-most : goal.returns-clause-most
returns-clause-most g c =
    let chip = c.self.invariant.1.whole.sound.chip in
    let few = moves-most c.self.inside.uart.fifo c.self.inside.uart.transmitter chip.transmitter in
    let most : moves c.self.inside.uart.transmitter ≤ characters (fifo_size g.row.FIFO) + 1 = rw c.self.invariant.1.size at few in
    omega (arith, most, c.ticks.ensures.most)

-- the queues take no more memory than there can be
pub ticks-requires-room-B-Fifo : goal.ticks-requires-room-B-Fifo
ticks-requires-room-B-Fifo g c κs = bytes_fit g.row.FIFO c.self.invariant.0

pub ticks-requires-room-C-Fifo : goal.ticks-requires-room-C-Fifo
ticks-requires-room-C-Fifo g c κs = characters_fit g.row.FIFO c.self.invariant.0
