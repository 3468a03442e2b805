use Rattle.std.proofs.Common.{ℕ, sym, ◌∙◌, ap}
use Rattle.uart_spec.specs.Bits.{has}
use Rattle.uart_spec.specs.declared.registers.line_status.TheConstants.LSR
use Rattle.uart_design_ware.specs.Held.{held}
use Rattle.uart_design_ware.specs.Doing.{Nothing}
use Rattle.uart_design_ware.specs.Line.{ResetsReceiver}
use Rattle.uart_design_ware.proofs.Doings.{did_then, did_any, did_if}
use Rattle.uart_design_ware.proofs.state.DesignWare.discard_unreadable.Goals as goal

pub returns-then-contains : goal.returns-then-contains
returns-then-contains g c =
    let lsr = c.look.result.0 in
    let looked = c.look.new.self in
    let stored = c.store.ensures in
    let list = rw (c.bits.ensures tt, c.union-control.ensures tt) at stored.does.0 in
    let after = stored.does.1 ∙ ap (λ (n : ℕ). record (held looked) { cleared = n }) (c.insert.ensures tt) in
    did_any lsr (did_then c.look.ensures
    (did_if (λ h. has lsr LSR.DATA_READY.0) ResetsReceiver Nothing (sym (c.if-contains.ensures tt))
    (record { list = stored.list; path = stored.path; does = (list, after) })))
