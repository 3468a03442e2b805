use Rattle.uart_ring.proofs.RingDoings.{ring_then}
use Rattle.uart_ring.proofs.ring.Uart16550Ring.serve_data.Goals as goal

pub returns : goal.returns
returns g c = ring_then c.fill_receive_ring.ensures c.send_on_if.ensures
