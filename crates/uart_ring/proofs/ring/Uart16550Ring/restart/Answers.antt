use Rattle.std.proofs.Common.{refl, None}
use Rattle.uart_ring.specs.Ring.{restarted}
use Rattle.uart_ring.proofs.RingDoings.{ring_did, ring_then, ring_among}
use Rattle.uart_ring.proofs.ring.Uart16550Ring.restart.Goals as goal

pub returns : goal.returns
returns g c =
    let enables = rw c.not_paused-enabled.ensures at c.enable_interrupts.ensures in
    let forgotten = record c.args.self.now { uart = c.enable_interrupts.new.self; rounds = 0; stuck = None } in
    ring_among (λ l t. t) (ring_then (ring_did restarted c.args.self.now forgotten enables refl) c.resume_transmit.ensures)
