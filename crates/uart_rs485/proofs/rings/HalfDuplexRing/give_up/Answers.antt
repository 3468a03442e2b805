use Rattle.uart_rs485.proofs.RingDoingsAtBus.{ring_bus_then, rings_given_up}
use Rattle.uart_rs485.proofs.rings.HalfDuplexRing.give_up.Goals as goal

pub returns : goal.returns
returns g c =
    rings_given_up _ _ c.args.self _
    (ring_bus_then (ring_bus_then c.take_line-status.ensures c.turn.ensures) c.clear_transmit.ensures)
