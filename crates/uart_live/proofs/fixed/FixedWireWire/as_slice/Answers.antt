use Rattle.std.proofs.Common.{◌-◌, take, drop, ap, ◌∙◌, refl, arith}
use Rattle.std.proofs.lemmas.List.{length-drop, take_all}
use Rattle.uart_chip.specs.Wire.{WireState}
use Rattle.uart_live.proofs.Rings.{window_of_twice}
use Rattle.uart_live.proofs.Wires.{wire_facts}
use Rattle.uart_live.proofs.fixed.FixedWireWire.as_slice.Goals as goal

pub returns : goal.returns
returns c =
    let q = c.self.inside in
    let facts = wire_facts q.start q.count q.limit q.slots c.self.invariant in
    let rest = length-drop q.start q.slots in
    ap (λ xs. take q.count xs) (take_all (128 - q.start) (drop q.start q.slots) (omega (arith, rest, c.self.invariant.3))) ∙
    window_of_twice 64 q.start q.count (take 64 q.slots) c.self.invariant.0 facts.1 facts.0 q.slots
    refl c.self.invariant.4 c.self.invariant.3 ∙
    ap (λ (w : WireState). w.bytes) c.self.view_is
