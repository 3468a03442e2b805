use Rattle.std.proofs.Common.{◌≡◌, sym}
use Rattle.std.proofs.lemmas.Bool.{not-false}
use Rattle.std.proofs.lemmas.Slice.Eq.{bytes_eq-Decides}
use Rattle.uart_16550.specs.Loopback.{test_message}
use Rattle.uart_16550.proofs.Making.{made_among}
use Rattle.uart_16550.proofs.driver.Uart16550.exchange_message.Goals as goal

pub returns : goal.returns
returns g c =
    let same : c.in-Some.actual ≡ test_message = (bytes_eq-Decides _ _).0 (not-false _ (sym c.if-ne.ensures)) in
    made_among (λ l t. rw same at t) c.in-Some.ensures.made
