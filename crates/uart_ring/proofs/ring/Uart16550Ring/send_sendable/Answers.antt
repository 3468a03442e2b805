use Rattle.std.proofs.Common.{ap, inl, length, refl, sym}
use Rattle.uart_16550.proofs.Making.{made_among, made_none}
use Rattle.uart_ring.specs.Ring.{ring_fields}
use Rattle.uart_ring.proofs.Sending.{none_if_stuck}
use Rattle.uart_ring.proofs.ring.Uart16550Ring.send_sendable.Goals as goal

pub returns-then-is_some-clause-made : goal.returns-then-is_some-clause-made
returns-then-is_some-clause-made g c =
    let f = ring_fields c.args.self.now in
    let none = none_if_stuck f.stuck f.is_held f.urgent f.transmit.items (sym c.if-is_some.ensures) in
    made_among (λ l t. inl (ap length none, refl, t.is)) made_none
