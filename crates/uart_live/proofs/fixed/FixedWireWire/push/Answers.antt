use Rattle.std.proofs.Common.{◌<◌, ◌+◌, ◌%◌, [], ◌∷◌, ◌++◌, take, length, ap, ◌∙◌, arith}
use Rattle.std.proofs.lemmas.List.{length-set}
use Rattle.uart_live.specs.Ring.{window}
use Rattle.uart_chip.specs.Wire.{WireState}
use Rattle.uart_live.proofs.Rings.{window_after_push, both_set}
use Rattle.uart_live.proofs.Wires.{wire_facts}
use Rattle.uart_live.proofs.fixed.FixedWireWire.push.Goals as goal

pub invariant_of-self : goal.invariant_of-self
invariant_of-self c =
    let q = c.self.inside in
    let facts = wire_facts q.start q.count q.limit q.slots c.self.invariant in
    let same = ap (λ (w : WireState). length w.bytes) c.self.view_is in
    let most = ap (λ (w : WireState). w.capacity) c.self.view_is in
    let place = (q.start + q.count) % 64 in
    let below : place < 64 = omega arith in (
      c.self.invariant.0,
      omega (arith, c.requires, facts.2, same, most),
      c.self.invariant.2,
      length-set _ _ _ ∙ (length-set q.slots place c.args.byte ∙ c.self.invariant.3),
      (both_set 64 place q.slots c.args.byte below c.self.invariant.4).1,
    )

pub returns-clause-bytes : goal.returns-clause-bytes
returns-clause-bytes c =
    let q = c.self.inside in
    let facts = wire_facts q.start q.count q.limit q.slots c.self.invariant in
    let same = ap (λ (w : WireState). length w.bytes) c.self.view_is in
    let most = ap (λ (w : WireState). w.capacity) c.self.view_is in
    let place = (q.start + q.count) % 64 in
    let below : place < 64 = omega arith in
    let has_room : q.count < 64 = omega (arith, c.requires, facts.2, same, most, c.self.invariant.2) in
    ap (λ xs. window q.start (q.count + 1) xs) (both_set 64 place q.slots c.args.byte below c.self.invariant.4).0 ∙
    (window_after_push 64 q.start q.count (take 64 q.slots) c.self.invariant.0 facts.1 facts.0 c.args.byte has_room ∙
    ap (λ (w : WireState). w.bytes ++ c.args.byte ∷ []) c.self.view_is)
