use Rattle.std.proofs.Common.{◌≡◌, refl, ◌∙◌, arith}
use Rattle.std.proofs.lemmas.Grind.{common_steps}
use Rattle.uart_spec.specs.Bits.{has}
use Rattle.uart_spec.specs.declared.registers.modem_control.TheConstants.MCR
use Rattle.uart_16550.proofs.Making.{made_among, made_only}
use Rattle.uart_16550.proofs.Doings.{did_made}
use Rattle.uart_ring.specs.Ring.{unchanged}
use Rattle.uart_ring.specs.Receive.{MakesRts}
use Rattle.uart_ring.proofs.RingDoings.{ring_did}
use Rattle.uart_ring.proofs.Rts.{other_written}
use Rattle.uart_ring.proofs.ring.Uart16550Ring.make_rts.Goals as goal

pub returns-then-contains-on : goal.returns-then-contains-on
returns-then-contains-on g c =
    let mcr = c.mcr-mcr.result.0 in
    let differs : has mcr MCR.RTS.0 ≡ c.args.on → ⊥ = grind (arith, common_steps, c.contains.ensures, c.if-contains-on.true) in
    ring_did unchanged _ _ (did_made {L = MakesRts c.args.on} (made_among
    (λ l t. (mcr, t.is ∙ other_written (has mcr MCR.RTS.0) c.args.on _ mcr differs c.with_rts.ensures))
    (made_only _ _ c.mcr-mcr.ensures c.set_modem_control.ensures))) refl
