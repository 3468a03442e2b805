use Rattle.std.proofs.Common.{refl, ◌∙◌}
use Rattle.uart_16550.proofs.Doings.{did_made}
use Rattle.uart_ring.specs.Ring.{unchanged}
use Rattle.uart_ring.proofs.RegisterBits.{eight_bits}
use Rattle.uart_ring.proofs.RingDoings.{ring_did, ring_then, ring_among}
use Rattle.uart_ring.proofs.ring.Uart16550Ring.lower_line.Goals as goal

pub returns : goal.returns
returns g c =
    let all = c.all.ensures tt ∙ eight_bits _ _ _ _ _ _ _ _ in
    let off = rw all at c.disable_interrupts.ensures in
    let handled = c.try_handle-handled.new.self in
    ring_among (λ l t. t) (ring_then c.try_handle-handled.ensures
    (ring_then (ring_did unchanged handled (record handled { uart = c.ier-enabled.new.self }) (did_made c.ier-enabled.ensures) refl)
    (ring_did unchanged (record handled { uart = c.ier-enabled.new.self }) _ off refl)))
