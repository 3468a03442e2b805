use Rattle.uart_link.proofs.Names.{◌<◌, ◌∙◌, length, arith, settled}
use Rattle.uart_link.proofs.Schedules.{goes_on, settle_performs, settled_all}
use Rattle.uart_link.proofs.device.CabledChip.settle.Goals as goal

pub loop-self-preserved : goal.loop-self-preserved
loop-self-preserved c =
    let within : c.loop-self.self-inside.cursor < length c.loop-self.self-inside.events.items = omega arith in
    record {
      way = goes_on settled _ _ _ _ _ _ _ within c.index.ensures c.perform.ensures (λ others m. settle_performs _ others _ m)
          c.loop-self.invariant.way;
      room = c.loop-self.invariant.room;
    }

pub returns : goal.returns
returns c =
    let here = c.loop-self.self-inside in
    settled_all here.uart here.events.items here.cursor here.remaining (omega arith) c.loop-self.invariant.way.known ∙
    c.loop-self.invariant.way.same
