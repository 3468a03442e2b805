use Rattle.std.proofs.Common.{[], refl, Ok, Err}
use Rattle.uart_16550.proofs.Doings.{did_then, did_made, did_among}
use Rattle.uart_16550.proofs.Inits.{given_at, frame_written}
use Rattle.uart_16550.proofs.driver.Uart16550.set_frame_when_idle.Goals as goal

pub returns-in-Err : goal.returns-in-Err
returns-in-Err g c =
    let given = given_at c.args.config.now (Err c.in-Err.cause) _ c.to_integer-baud_rate.ensures ((c.in-Err.ensures _).0 refl) in
    record { list = []; path = refl; does = (given, refl, refl) }

pub returns-then-not-wait_for : goal.returns-then-not-wait_for
returns-then-not-wait_for g c =
    let given = given_at c.args.config.now (Ok c.in-Ok.divisor) _ c.to_integer-baud_rate.ensures ((c.in-Ok.ensures _).0 refl) in
    did_among (λ f l after t. (c.in-Ok.divisor, given, t)) (did_made c.if-not-wait_for.ensures)

pub returns : goal.returns
returns g c =
    let given = given_at c.args.config.now (Ok c.in-Ok.divisor) _ c.to_integer-baud_rate.ensures ((c.in-Ok.ensures _).0 refl) in
    did_among (λ f l after t. (c.in-Ok.divisor, given, t))
    (did_then (did_made c.if-not-wait_for.ensures)
    (did_then c.store_frame.ensures (did_made (frame_written c.args.config.now _ _ c.frame_of.ensures c.write_frame.ensures))))
