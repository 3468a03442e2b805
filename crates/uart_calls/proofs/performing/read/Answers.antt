use Rattle.std.proofs.Common.{refl, Ok, Err, []}
use Rattle.uart_16550.proofs.Doings.{did_made}
use Rattle.uart_calls.proofs.performing.read.Goals as goal

pub returns-in-Ok : goal.returns-in-Ok
returns-in-Ok g c =
    let did = did_made c.in-Ok.ensures.reads in
    record { outcome = (c.copied.result.items, Ok c.in-Ok.count); answered = refl; did = rw c.copied.ensures did }

pub returns-in-Err : goal.returns-in-Err
returns-in-Err g c = record { outcome = ([], Err c.in-Err.stall); answered = refl; did = did_made c.in-Err.ensures.reads }
