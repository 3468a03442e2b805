use Rattle.std.proofs.Common.{◌≤◌, min, take, drop, ap, ◌∙◌, arith}
use Rattle.uart_live.specs.Ring.{window}
use Rattle.uart_chip.specs.Wire.{WireState}
use Rattle.uart_live.proofs.Rings.{window_after_take, drop_least}
use Rattle.uart_live.proofs.Wires.{wire_facts}
use Rattle.uart_live.proofs.fixed.FixedWireWire.take.Goals as goal

pub returns-clause-bytes : goal.returns-clause-bytes
returns-clause-bytes c =
    let q = c.self.inside in
    let facts = wire_facts q.start q.count q.limit q.slots c.self.invariant in
    let least : min c.args.count q.count ≤ q.count = omega arith in
    let count = min c.args.count q.count in
    let taken = window_after_take 64 q.start q.count (take 64 q.slots) c.self.invariant.0 facts.1 facts.0 count least in
    rw c.min-count.ensures (taken ∙
    (drop_least c.args.count q.count (window q.start q.count (take 64 q.slots)) facts.2 ∙
    ap (λ (w : WireState). drop c.args.count w.bytes) c.self.view_is))
