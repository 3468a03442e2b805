use Rattle.std.proofs.Common.{refl, ◌∙◌}
use Rattle.uart_16550.proofs.Doings.{did_made, did_among}
use Rattle.uart_ring.specs.Ring.{unchanged, with_rounds, with_stuck}
use Rattle.uart_ring.proofs.RegisterBits.{eight_bits}
use Rattle.uart_ring.proofs.RingDoings.{ring_did, ring_then}
use Rattle.uart_ring.proofs.ring.Uart16550Ring.look_once_more.Goals as goal

pub returns-in-None : goal.returns-in-None
returns-in-None g c =
    let shown = c.in-None.ensures in
    ring_did (with_rounds 0) _ _ (did_among (λ f l after t. (_, shown.0, shown.1, t)) (did_made c.isr-isr.ensures)) refl

pub returns-in-Some : goal.returns-in-Some
returns-in-Some g c =
    let all = c.all.ensures tt ∙ eight_bits _ _ _ _ _ _ _ _ in
    let off = rw all at c.disable_interrupts.ensures in
    ring_then
    (ring_did unchanged _ (record c.args.self.now { uart = c.isr-isr.new.self })
    (did_among (λ f l after t. (_, c.in-Some.ensures, t)) (did_made c.isr-isr.ensures)) refl)
    (ring_did (with_stuck c.in-Some.error) _ _ off refl)
