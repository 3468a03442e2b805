use Rattle.std.proofs.Common.{◌≡◌, arith, [], ◌∷◌, Some}
use Rattle.uart_16550.specs.Transmit.{SendsSome}
use Rattle.uart_16550.proofs.Making.{made_then, made_among}
use Rattle.uart_16550.proofs.Loopbacks.{echoed}
use Rattle.uart_16550.proofs.driver.Uart16550.echo.Goals as goal

pub returns : goal.returns
returns g c =
    let one : c.in_ok-send_some.field-0 ≡ 1 = omega (arith, c.in_ok-send_some.ensures.count) in
    made_among (echoed _ _ _)
    (made_then
    (made_among {L = SendsSome (c.args.byte ∷ []) (Some c.in_ok-send_some.field-0)}
    (λ l t. rw one at t.1) c.in_ok-send_some.ensures.made) c.receive_one.ensures)
