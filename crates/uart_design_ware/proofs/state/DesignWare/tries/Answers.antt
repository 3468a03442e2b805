use Rattle.std.proofs.Common.{◌==◌, ℕ, ◌∙◌, ap, subst}
use Rattle.bitflags.specs.Sets.{without}
use Rattle.uart_spec.specs.declared.access.Access.TheVariants.{Read, Write}
use Rattle.uart_spec.specs.declared.registers.line_control.TheConstants.LCR
use Rattle.uart_spec.specs.declared.registers.offsets.TheConstants as offsets
use Rattle.uart_design_ware.specs.Doing.{Did, Writes}
use Rattle.uart_design_ware.proofs.Doings.{did_any, did_where, did_two}
use Rattle.uart_design_ware.proofs.state.DesignWare.tries.Goals as goal

pub returns : goal.returns
returns g c =
    let line = c.args.line.0 in
    let shown = c.load.result in
    let read = c.bits-2.ensures tt ∙ c.difference.ensures tt
    ∙ ap (λ (n : ℕ). without 8 n LCR.PARITY2.0) (c.from_bits_retain-shown.ensures tt) in
    let wanted = c.bits-3.ensures tt ∙ c.difference-2.ensures tt in
    let shows = ap (λ (n : ℕ). n == c.bits-3.result) read ∙ ap (λ (n : ℕ). without 8 shown LCR.PARITY2.0 == n) wanted in
    let P : ℕ → Type 0 = λ n. Did g.R.Backend.step (Writes offsets.LCR n) c.args.self.now c.store.new.self in
    let stored = subst P (c.bits.ensures tt) c.store.ensures in
    did_any shown (did_where shows (did_two (Write offsets.LCR line) (Read offsets.LCR shown) stored c.load.ensures))
