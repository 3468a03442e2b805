use Rattle.uart_ring.specs.Line.{LowersAt, ServesInTurn}
use Rattle.uart_ring.proofs.line.lower_each.Given as goal

abbrev pub invariant-loop-port : goal.invariant-loop-port
invariant-loop-port g l =
    ServesInTurn (LowersAt g.B.Backend.step l.limit l.rounds) l.port-index l.has_served l.initial.ports l.ports
