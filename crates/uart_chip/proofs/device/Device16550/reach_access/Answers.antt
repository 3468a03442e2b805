use Rattle.std.proofs.Common.{◌<◌, length, arith}
use Rattle.uart_chip.proofs.soundness.Sounds.{whole_tick}
use Rattle.uart_chip.specs.Machine.{at_access}
use Rattle.uart_chip.proofs.soundness.Schedules.{goes_on, access_performs}
use Rattle.uart_chip.proofs.device.Device16550.reach_access.Goals as goal

pub loop-self-preserved : goal.loop-self-preserved
loop-self-preserved c =
    let within : c.loop-self.self-inside.cursor < length c.loop-self.self-inside.schedule.items = omega arith in
    goes_on at_access _ _ _ _ _ _ within c.index.ensures c.perform.ensures
    (access_performs _ _ _ c.in_default.not-Access c.in_default.not-Mark) c.loop-self.invariant

pub invariant_of-self-2 : goal.invariant_of-self-2
invariant_of-self-2 c = (omega arith, rw c.tick.ensures (whole_tick _ _ c.loop-self.invariant.whole))
