use Rattle.std.proofs.Common.{◌-◌, ap, sym}
use Rattle.uart_live.proofs.Wires.{wire_facts}
use Rattle.uart_live.proofs.fixed.FixedWireWire.room.Goals as goal

pub returns : goal.returns
returns c =
    let q = c.self.inside in
    let facts = wire_facts q.start q.count q.limit q.slots c.self.invariant in
    rw (← c.self.view_is) (ap (λ n. q.limit - n) (sym facts.2))
