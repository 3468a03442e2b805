use Rattle.std.proofs.Common.{◌<◌, length, arith}
use Rattle.uart_chip.specs.Machine.{at_mark}
use Rattle.uart_chip.proofs.soundness.Schedules.{goes_on, mark_performs}
use Rattle.uart_chip.proofs.device.Device16550.next.Goals as goal

pub loop-self-preserved : goal.loop-self-preserved
loop-self-preserved c =
    let within : c.loop-self.self-inside.cursor < length c.loop-self.self-inside.schedule.items = omega arith in
    goes_on at_mark _ _ _ _ _ _ within c.index.ensures c.perform.ensures (mark_performs _ _ _ c.in_default.not-Mark) c.loop-self.invariant
