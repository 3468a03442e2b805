use Rattle.uart_ring.proofs.Transfers.{took}
use Rattle.uart_ring.proofs.ring.Uart16550Ring.take.Goals as goal

pub returns-clause-did : goal.returns-clause-did
returns-clause-did g c =
    took _ _ _ _ _ _ _ c.read_into-count.ensures.count c.read_into-count.ensures.read c.read_into-count.ensures.items c.end_pause.ensures
