use Rattle.std.proofs.Common.{◌≡◌, ℕ, length, refl, subst}
use Rattle.uart_ring.specs.Line.{InTurn, RaisesAt}
use Rattle.uart_ring.proofs.Lines.{at_set, stands_within, stands_behind, turns_more}
use Rattle.uart_ring.proofs.line.raise_each.Goals as goal

pub loop-port-init : goal.loop-port-init
loop-port-init g c = refl

pub loop-port-preserved : goal.loop-port-preserved
loop-port-preserved g c =
    turns_more _ c.loop-port.port-index _ c.loop-port.ports _ c.loop-port.invariant
    (at_set _ c.loop-port.port-index _ c.port-item.result _ (stands_within _ _ _ c.loop-port.auto.ports c.loop-port-test.true)
    c.raise.ensures)

pub returns : goal.returns
returns g c =
    let all : c.loop-port.port-index ≡ length c.args.ports.now =
    stands_behind _ _ c.loop-port.auto.port-index-end c.loop-port-test.false in
    let P : ℕ → Type 0 = λ n. InTurn (RaisesAt g.B.Backend.step) n c.args.ports.now c.loop-port.ports in
    subst P all c.loop-port.invariant
