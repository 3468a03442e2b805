use Rattle.std.proofs.Common.{refl}
use Rattle.uart_16550.proofs.Doings.{did_made}
use Rattle.uart_ring.specs.Ring.{unchanged}
use Rattle.uart_ring.proofs.RingDoings.{ring_did}
use Rattle.uart_ring.proofs.ring.Uart16550Ring.retrigger.Goals as goal

pub returns : goal.returns
returns g c = ring_did unchanged _ _ (did_made c.retrigger_interrupts.ensures) refl
