use Rattle.std.proofs.Common.{refl}
use Rattle.uart_ring.specs.Ring.{unchanged}
use Rattle.uart_ring.proofs.RingDoings.{ring_did, ring_then, ring_among}
use Rattle.uart_ring.proofs.ring.Uart16550Ring.config_register_dump.Goals as goal

pub returns : goal.returns
returns g c =
    let dumped = record c.args.self.now { uart = c.config_register_dump-dump.new.self } in
    ring_among (λ l t. t)
    (ring_then (ring_did unchanged c.args.self.now dumped c.config_register_dump-dump.ensures refl) c.resume_transmit.ensures)
