use Rattle.std.proofs.Common.{refl}
use Rattle.uart_16550.proofs.Making.{made_then, made_among}
use Rattle.uart_16550.proofs.driver.Uart16550.exchange_byte.Goals as goal

pub returns-in_default-receive_one : goal.returns-in_default-receive_one
returns-in_default-receive_one g c = made_then c.in_default.ensures c.in_default-receive_one.ensures

pub returns-then-actual-eq-TEST_BYTE : goal.returns-then-actual-eq-TEST_BYTE
returns-then-actual-eq-TEST_BYTE g c =
    made_then c.in_default.ensures (made_among (λ l t. rw c.if-actual-eq-TEST_BYTE.true at t) c.in-Some.ensures)

pub returns : goal.returns
returns g c = made_among (λ l t. (refl, c.if-actual-eq-TEST_BYTE.false, t)) (made_then c.in_default.ensures c.in-Some.ensures)
