use Rattle.uart_link.proofs.Names.{◌<◌, length, arith, at_access, whole_tick, wired-ticks}
use Rattle.uart_chip.proofs.soundness.Schedules.{access_performs}
use Rattle.uart_link.proofs.Schedules.{goes_on}
use Rattle.uart_link.proofs.device.CabledChip.reach_access.Goals as goal

pub loop-self-preserved : goal.loop-self-preserved
loop-self-preserved c =
    let within : c.loop-self.self-inside.cursor < length c.loop-self.self-inside.events.items = omega arith in
    record {
      way = goes_on at_access _ _ _ _ _ _ _ within c.index.ensures c.perform.ensures
          (λ others m. access_performs _ others _ c.in_default.not-Access m) c.loop-self.invariant.way;
      room = c.loop-self.invariant.room;
    }

pub invariant_of-self-2 : goal.invariant_of-self-2
invariant_of-self-2 c = (
  omega arith,
  c.loop-self.invariant.room,
  record {
    whole = rw c.tick.ensures (whole_tick _ _ c.loop-self.invariant.way.known.whole);
    unmarked = c.loop-self.invariant.way.known.unmarked;
    wired = rw c.tick.ensures (wired-ticks 1 c.loop-self.self-inside.uart c.loop-self.invariant.way.known.wired);
  },
)
