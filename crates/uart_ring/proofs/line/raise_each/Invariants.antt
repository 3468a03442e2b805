use Rattle.uart_ring.specs.Line.{InTurn, RaisesAt}
use Rattle.uart_ring.proofs.line.raise_each.Given as goal

abbrev pub invariant-loop-port : goal.invariant-loop-port
invariant-loop-port g l = InTurn (RaisesAt g.B.Backend.step) l.port-index l.initial.ports l.ports
