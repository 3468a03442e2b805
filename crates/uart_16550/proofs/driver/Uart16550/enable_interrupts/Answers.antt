use Rattle.std.proofs.Common.{refl}
use Rattle.uart_16550.proofs.Doings.{did_then, did_among, did_unsaved}
use Rattle.uart_16550.proofs.driver.Uart16550.enable_interrupts.Goals as goal

pub returns : goal.returns
returns g c =
    let bits = c.union-enabled.ensures tt in
    did_among (λ f l after t. (_, rw (t.whole, t.first.0.is, t.second.0, bits) refl, rw (t.first.1, bits) at t.second.1))
    (did_then (did_unsaved _ refl refl c.ier.ensures) c.store_interrupts.ensures)
