use Rattle.std.proofs.Common.{◌≡◌}
use Rattle.uart_ring.specs.Line.{ServesInTurn, InTurn}
use Rattle.uart_ring.proofs.line.handle_line.Given as goal

abbrev pub invariant-loop-port : goal.invariant-loop-port
invariant-loop-port g l =
    ServesInTurn (g.P.LinePorts.lowers l.limit l.rounds) l.port l.has_served l.initial.ports l.ports
    × (g.P.LinePorts.number l.ports ≡ g.P.LinePorts.number l.fn.ports)

abbrev pub invariant-loop-port-2 : goal.invariant-loop-port-2
invariant-loop-port-2 g l =
    InTurn g.P.LinePorts.raises l.port l.initial.ports l.ports
    × (g.P.LinePorts.number l.ports ≡ g.P.LinePorts.number l.fn.ports)
