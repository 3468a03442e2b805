use Rattle.std.proofs.Common.{sym}
use Rattle.uart_design_ware.specs.Faults.{opens_latch}
use Rattle.uart_design_ware.specs.Line.{DiscardsUnreadable, KeepsWaiting}
use Rattle.uart_design_ware.proofs.Doings.{did_then, did_any, did_if, did_else}
use Rattle.uart_design_ware.proofs.state.DesignWare.make_room.Goals as goal

pub returns-then-contains : goal.returns-then-contains
returns-then-contains g c =
    let opens = rw (c.from_bits_retain.ensures tt) at (sym (c.if-contains.ensures tt)) in
    did_any c.load.result (did_then c.load.ensures
    (did_if (λ h. opens_latch c.load.result) DiscardsUnreadable KeepsWaiting opens c.discard_unreadable.ensures))

pub returns-else-contains : goal.returns-else-contains
returns-else-contains g c =
    let opens = rw (c.from_bits_retain.ensures tt) at (sym (c.if-contains.ensures tt)) in
    did_any c.load.result (did_then c.load.ensures
    (did_else (λ h. opens_latch c.load.result) DiscardsUnreadable KeepsWaiting opens c.keep_waiting.ensures))
