use Rattle.std.proofs.Common.{refl, sym}
use Rattle.uart_16550.proofs.Making.{made_then, made_among}
use Rattle.uart_16550.proofs.driver.Uart16550.try_receive_with_errors.Goals as goal

pub returns : goal.returns
returns g c =
    let shows = sym (c.if-not-contains.ensures tt) in
    made_among (λ l t. (_, shows, c.intersection-errors.ensures tt, rw (t.whole, t.first.is, t.second.is) refl))
    (made_then c.read_lsr-lsr.ensures c.read_register-byte.ensures)
