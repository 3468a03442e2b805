use Rattle.std.proofs.Common.{◌≡◌, Err, inr, inl, rules}
use Rattle.uart_16550.proofs.Making.{made_then, made_among}
use Rattle.uart_16550.proofs.Loopbacks.{exchanged}
use Rattle.uart_16550.proofs.driver.Uart16550.exchange.Goals as goal

pub returns-in_err-exchange_byte : goal.returns-in_err-exchange_byte
returns-in_err-exchange_byte g c =
    let is : c.from_residual.result ≡ Err c.in_err-exchange_byte.field-0.0 = search rules in
    rw is (made_among (λ l t. inr (inl t)) (made_then c.if-not-drain_received.ensures c.in_err-exchange_byte.ensures))

pub returns : goal.returns
returns g c =
    made_among (exchanged _ _)
    (made_then c.if-not-drain_received.ensures (made_then c.in_ok-exchange_byte.ensures c.exchange_message.ensures))
