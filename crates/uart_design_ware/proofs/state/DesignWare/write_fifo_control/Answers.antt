use Rattle.std.proofs.Common.{ℕ, refl, ◌∙◌, ap, subst}
use Rattle.bitflags.specs.Sets.{without}
use Rattle.uart_spec.specs.declared.registers.offsets.TheConstants as offsets
use Rattle.uart_design_ware.specs.Held.{held}
use Rattle.uart_design_ware.specs.Doing.{Did, Writes}
use Rattle.uart_design_ware.specs.Serving.{resets}
use Rattle.uart_design_ware.proofs.Doings.{did_then, did_set}
use Rattle.uart_design_ware.proofs.state.DesignWare.write_fifo_control.Goals as goal

pub returns : goal.returns
returns g c =
    let control = c.args.control.0 in
    let emptied = c.empty_kept.new.self in
    let remembered = c.difference-self.ensures tt ∙ ap (λ (n : ℕ). without 8 control n) (c.union-resets.ensures tt) in
    let P : ℕ → Type 0 = λ n.
    Did g.R.Backend.step (Writes offsets.FCR n) (record emptied { fifo_control = c.difference-self.result }) c.store.new.self in
    did_then c.empty_kept.ensures
    (did_then (did_set g.R.Backend.step (λ h. record h { fifo_control = without 8 control resets }) emptied
    (record emptied { fifo_control = c.difference-self.result }) refl
    (ap (λ (n : ℕ). record (held emptied) { fifo_control = n }) remembered))
    (subst P (c.bits.ensures tt) c.store.ensures))
