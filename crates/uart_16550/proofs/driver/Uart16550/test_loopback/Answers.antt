use Rattle.std.proofs.Common.{refl, inl, inr}
use Rattle.uart_16550.proofs.Making.{made_then, made_only}
use Rattle.uart_16550.proofs.Doings.{did_then, did_made, did_among}
use Rattle.uart_16550.proofs.Loopbacks.{tested}
use Rattle.uart_16550.proofs.driver.Uart16550.test_loopback.Goals as goal

pub returns-then-not-wait_for : goal.returns-then-not-wait_for
returns-then-not-wait_for g c =
    did_among (λ f l after t. (_, _, inl (refl, t)))
    (did_made (made_then (made_only _ _ c.mcr-mcr.ensures c.ier-ier.ensures) c.if-not-wait_for.ensures))

pub returns : goal.returns
returns g c =
    let entered = c.enter_loopback-before.ensures in
    did_among (λ f l after t. (_, _, inr t))
    (did_then (did_made (made_then (made_only _ _ c.mcr-mcr.ensures c.ier-ier.ensures) c.if-not-wait_for.ensures))
    (tested _ _ _ _ (record { list = entered.list; path = entered.path; does = entered.does })
    (did_then (did_made c.exchange-outcome.ensures) c.leave_loopback.ensures)))
