use Rattle.std.proofs.Common.{refl, subst}
use Rattle.uart_spec.specs.declared.registers.offsets.TheConstants as offsets
use Rattle.uart_16550.specs.Driver.{Made}
use Rattle.uart_16550.specs.Frame.{unlooped}
use Rattle.uart_16550.specs.Grammar.{Language, Modifies}
use Rattle.uart_16550.specs.declared.driver.Uart16550.{Uart16550}
use Rattle.uart_16550.proofs.Making.{made_among, made_only}
use Rattle.uart_rs485.specs.Directions.{turned}
use Rattle.uart_rs485.specs.Rings.{rings_with_sends}
use Rattle.uart_rs485.proofs.RingDoingsAtBus.{ring_bus_among, ring_made}
use Rattle.uart_rs485.proofs.rings.HalfDuplexRing.turn.Goals as goal

pub returns : goal.returns
returns g c =
    let L : Language = Modifies offsets.MCR (λ mcr. unlooped (turned c.args.self.now.direction c.args.sends mcr)) in
    let made = made_among {M = L} (λ l t. (_, rw c.turned.ensures at t.is))
    (made_only _ _ c.mcr-outputs.ensures c.set_modem_control.ensures) in
    let P : Uart16550 _ → Type 0 = λ driver. Made g.B.Backend.step L driver c.set_modem_control.new.self in
    ring_bus_among (λ l t. t) (ring_made (rings_with_sends c.args.sends) c.args.self.now _
    (subst P c.inner_mut-uart.ensures.value made) refl refl)
