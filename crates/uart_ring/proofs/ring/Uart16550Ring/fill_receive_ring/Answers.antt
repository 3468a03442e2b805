use Rattle.std.proofs.Common.{ap, arith}
use Rattle.uart_spec.specs.FifoSize.{characters}
use Rattle.uart_ring.proofs.Transfers.{filled}
use Rattle.uart_ring.proofs.ring.Uart16550Ring.fill_receive_ring.Goals as goal

pub returns : goal.returns
returns g c =
    filled c.min-slots.result _ _ _ _ _ _
    (omega (
      arith,
      c.min-slots.ensures,
      c.characters-most.ensures,
      ap characters c.fifo_size.ensures,
      c.capacity.ensures.capacity,
      c.len-len.ensures.len,
    ))
    c.receive_from-count.ensures.received (omega (arith, c.min.ensures, c.len-len.ensures.len)) c.pause_if_full.ensures
