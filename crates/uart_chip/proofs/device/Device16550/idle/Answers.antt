use Rattle.std.proofs.Common.{arith, ap, drop}
use Rattle.uart_spec.specs.FifoSize.{characters}
use Rattle.uart_chip.specs.Machine.{MachineState}
use Rattle.uart_chip.proofs.soundness.Idle.{whole_ticks, moves-most}
use Rattle.uart_chip.proofs.device.Device16550.idle.Goals as goal

pub invariant_of-self : goal.invariant_of-self
invariant_of-self c = (
  c.self.invariant.0,
  whole_ticks c.args.n c.self.inside.uart c.ticks.new.self
      (drop c.self.inside.cursor c.self.inside.schedule.items) c.ticks.ensures.after c.self.invariant.1,
)

pub returns-clause-most : goal.returns-clause-most
returns-clause-most c =
    let most = moves-most c.self.inside.uart.fifo c.self.inside.uart.transmitter c.self.invariant.1.sound.chip.transmitter in
    let same = ap (λ (m : MachineState). characters m.chip.transmitter.size) c.self.view_is in
    omega (arith, most, same, c.ticks.ensures.most)
