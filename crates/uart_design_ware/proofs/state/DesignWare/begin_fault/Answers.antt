use Rattle.std.proofs.Common.{refl, sym, Some}
use Rattle.uart_spec.specs.declared.registers.offsets.TheConstants as offsets
use Rattle.uart_design_ware.specs.Doing.{Nothing, Writes}
use Rattle.uart_design_ware.specs.Faults.{opens_latch, with_fault}
use Rattle.uart_design_ware.proofs.Doings.{did_then, did_set, did_any, did_else}
use Rattle.uart_design_ware.proofs.state.DesignWare.begin_fault.Goals as goal

pub returns-then-not-contains : goal.returns-then-not-contains
returns-then-not-contains g c =
    let old = c.args.self.now in
    let shows = rw (c.from_bits_retain.ensures tt) at (sym (c.if-not-contains.ensures tt)) in
    did_then (did_set g.R.Backend.step (with_fault (Some c.args.fault)) old (record old { fault = Some c.args.fault }) refl refl)
    (did_any c.load.result (did_then c.load.ensures
    (did_else (λ h. opens_latch c.load.result) Nothing (Writes offsets.IER 0) shows c.store.ensures)))
