use Rattle.std.proofs.Common.{◌≡◌, true, false, is_some, refl, subst, arith, ◌∙◌, sym, ap}
use Rattle.uart_16550.specs.Driver.{Made}
use Rattle.uart_16550.specs.Frame.{ShowsIdle}
use Rattle.uart_16550.specs.declared.driver.Uart16550.{Uart16550}
use Rattle.uart_rs485.specs.Rings.{same}
use Rattle.uart_rs485.proofs.RingDoingsAtBus.{nothing_waits, ring_bus_among, ring_bus_then, ring_made}
use Rattle.uart_rs485.proofs.rings.HalfDuplexRing.try_finish.Goals as goal

pub returns : goal.returns
returns g c =
    let ring = c.args.self.now.ring in
    let urgent : is_some ring.urgent ≡ false = ap is_some (sym c.urgent.ensures) ∙ (sym c.is_some.ensures ∙ c.if-is_some.false) in
    let none = nothing_waits ring.urgent ring.transmit.items
    (omega (arith, c.transmit_len.ensures.len, c.if-transmit_len-gt0.false)) urgent in
    let looked = record c.args.self.now { ring = record ring { uart = c.is_idle.new.self } } in
    let P : Uart16550 _ → Type 0 = λ driver. Made g.B.Backend.step (ShowsIdle true) driver c.is_idle.new.self in
    let look = ring_made same c.args.self.now looked (subst P c.inner_mut.ensures.value c.if-not-is_idle.ensures) refl refl in
    ring_bus_among (λ l t. (none, t)) (ring_bus_then look c.turn.ensures)
