use Rattle.std.proofs.Common.{refl, ◌∙◌}
use Rattle.uart_ring.specs.Ring.{unchanged}
use Rattle.uart_ring.proofs.RegisterBits.{eight_bits}
use Rattle.uart_ring.proofs.RingDoings.{ring_did, ring_among}
use Rattle.uart_ring.proofs.Storms.{already_stuck, not_stuck}
use Rattle.uart_ring.proofs.ring.Uart16550Ring.try_handle.Goals as goal

pub returns-in-None : goal.returns-in-None
returns-in-None g c =
    let handled = rw c.max.ensures at c.handle_round.ensures in
    ring_among (λ l t. not_stuck _ _ _ _ l _ c.in-None.is t) handled

pub returns-in-Some : goal.returns-in-Some
returns-in-Some g c =
    let all = c.all.ensures tt ∙ eight_bits _ _ _ _ _ _ _ _ in
    let off = rw all at c.disable_interrupts.ensures in
    ring_among (λ l t. already_stuck _ _ _ _ l _ c.in-Some.is t) (ring_did unchanged _ _ off refl)
