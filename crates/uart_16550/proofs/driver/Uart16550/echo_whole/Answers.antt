use Rattle.std.proofs.Common.{inr, length, Ok}
use Rattle.uart_16550.specs.Grammar.{Then}
use Rattle.uart_16550.specs.Receive.{ReceivesExact}
use Rattle.uart_16550.specs.Transmit.{SendsAll}
use Rattle.uart_16550.specs.Loopback.{test_message}
use Rattle.uart_16550.proofs.Making.{made_then, made_among}
use Rattle.uart_16550.proofs.driver.Uart16550.echo_whole.Goals as goal

pub returns-in_default-receive_bytes_exact-clause-made : goal.returns-in_default-receive_bytes_exact-clause-made
returns-in_default-receive_bytes_exact-clause-made g c =
    made_among (λ l t. inr (_, _, t)) (made_then c.in-Ok.ensures.made c.in_default-receive_bytes_exact.ensures.made)

pub returns-clause-made : goal.returns-clause-made
returns-clause-made g c =
    made_among {L = Then (SendsAll test_message) (ReceivesExact {T = Unit {0}} (length test_message) _ (Ok tt))}
    (λ l t. (t.second.0, record { front = t.front; back = t.back; whole = t.whole; first = t.first; second = t.second.1 }))
    (made_then c.in-Ok.ensures.made c.in-Ok-receive_bytes_exact.ensures.made)
