use Rattle.std.proofs.Common.{inl, inr, refl}
use Rattle.uart_16550.proofs.Making.{made_then, made_among}
use Rattle.uart_16550.proofs.driver.Uart16550.find_size.Goals as goal

pub returns-then-not-drain_received : goal.returns-then-not-drain_received
returns-then-not-drain_received g c = made_among (λ l t. inl (refl, t)) c.if-not-drain_received.ensures

pub returns-then-not-wait_for : goal.returns-then-not-wait_for
returns-then-not-wait_for g c =
    made_among (λ l t. inr (inl (refl, t)))
    (made_then c.if-not-drain_received.ensures (made_then c.flood.ensures c.if-not-wait_for.ensures))

pub returns-in-Some : goal.returns-in-Some
returns-in-Some g c =
    let tells = rw c.in-Some.is at c.largest_up_to.ensures in
    made_among (λ l t. inr (inr (c.take_back-returned.result, tells, t)))
    (made_then c.if-not-drain_received.ensures
    (made_then c.flood.ensures (made_then c.if-not-wait_for.ensures c.take_back-returned.ensures)))

pub returns-in-None : goal.returns-in-None
returns-in-None g c =
    let none = rw c.in-None.is at c.largest_up_to.ensures in
    made_among (λ l t. inr (inr (c.take_back-returned.result, (refl, none), t)))
    (made_then c.if-not-drain_received.ensures
    (made_then c.flood.ensures (made_then c.if-not-wait_for.ensures c.take_back-returned.ensures)))
