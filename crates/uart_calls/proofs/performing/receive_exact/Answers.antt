use Rattle.std.proofs.Common.{refl, Ok, Err}
use Rattle.uart_16550.proofs.Doings.{did_made}
use Rattle.uart_calls.proofs.performing.receive_exact.Goals as goal

pub returns-in-Ok : goal.returns-in-Ok
returns-in-Ok g c =
    let did = did_made c.in-Ok.ensures.made in
    record { outcome = (c.copied.result.items, Ok tt); answered = refl; did = rw c.copied.ensures did }

pub returns-in-Err : goal.returns-in-Err
returns-in-Err g c =
    let did = did_made c.in-Err.ensures.made in
    record { outcome = (c.copied-in-Err.result.items, Err c.in-Err.stall); answered = refl; did = rw c.copied-in-Err.ensures did }
