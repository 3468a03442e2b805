use Rattle.std.proofs.Common.{refl}
use Rattle.uart_spec.specs.declared.registers.offsets.TheConstants as offsets
use Rattle.uart_16550.specs.Frame.{unlooped}
use Rattle.uart_16550.specs.Grammar.{Modifies}
use Rattle.uart_16550.proofs.Doings.{did_made}
use Rattle.uart_16550.proofs.Making.{made_among, made_only}
use Rattle.uart_rs485.specs.Bus.{with_sends}
use Rattle.uart_rs485.specs.Directions.{turned}
use Rattle.uart_rs485.proofs.BusDoings.{bus_among, bus_did}
use Rattle.uart_rs485.proofs.bus.HalfDuplex.turn.Goals as goal

pub returns : goal.returns
returns g c =
    let made = made_among {M = Modifies offsets.MCR (λ mcr. unlooped (turned c.args.self.now.direction c.args.sends mcr))}
    (λ l t. (_, rw c.turned.ensures at t.is)) (made_only _ _ c.mcr-outputs.ensures c.set_modem_control.ensures) in
    bus_among (λ l t. t) (bus_did (with_sends c.args.sends) c.args.self.now _ (did_made made) refl)
