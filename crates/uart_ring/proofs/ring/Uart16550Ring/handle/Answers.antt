use Rattle.uart_ring.proofs.RingDoings.{ring_then, ring_among}
use Rattle.uart_ring.proofs.ring.Uart16550Ring.handle.Goals as goal

pub returns : goal.returns
returns g c = ring_among (λ l t. (_, t)) (ring_then c.serve_up_to-round.ensures c.retrigger_unless_idle.ensures)
