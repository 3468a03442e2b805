use Rattle.std.proofs.Common.{refl}
use Rattle.uart_rs485.specs.Bus.{unchanged}
use Rattle.uart_rs485.proofs.BusDoings.{bus_did, bus_then, given_up}
use Rattle.uart_rs485.proofs.bus.HalfDuplex.give_up.Goals as goal

pub returns : goal.returns
returns g c =
    let looked = record c.args.self { uart = c.lsr-status.new.self } in
    given_up _ c.args.self _ (bus_then (bus_did unchanged c.args.self looked c.lsr-status.ensures refl) c.turn.ensures)
