use Rattle.std.specs.Prelude.{false}
use Rattle.uart_ring.specs.Ring.{RingDid}
use Rattle.uart_ring.specs.Service.{ServesTimes}
use Rattle.uart_ring.proofs.ring.Uart16550Ring.serve_up_to.Given as goal

abbrev pub invariant-loop-served : goal.invariant-loop-served
invariant-loop-served g l = RingDid g.B.Backend.step (ServesTimes l.fn.sends l.served false l.has_room) l.fn.self l.self
