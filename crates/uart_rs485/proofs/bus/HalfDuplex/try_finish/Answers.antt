use Rattle.std.proofs.Common.{true, refl}
use Rattle.uart_16550.specs.Frame.{ShowsIdle}
use Rattle.uart_16550.proofs.Doings.{did_made}
use Rattle.uart_rs485.specs.Bus.{unchanged}
use Rattle.uart_rs485.proofs.BusDoings.{bus_did, bus_then}
use Rattle.uart_rs485.proofs.bus.HalfDuplex.try_finish.Goals as goal

pub returns : goal.returns
returns g c =
    let looked = record c.args.self.now { uart = c.is_idle.new.self } in
    bus_then (bus_did unchanged c.args.self.now looked (did_made {L = ShowsIdle true} c.if-not-is_idle.ensures) refl) c.turn.ensures
