use Rattle.std.proofs.Common.{◌≡◌, ◌⊎◌, inl, inr, false, ap, sym, ◌∙◌}
use Rattle.uart_c.specs.Port.{shown, told_of}
use Rattle.uart_c.specs.State.{chip_of}
use Rattle.uart_chip.specs.Chip.{ChipState}
use Rattle.uart_virtual.proofs.Sends.{told_alike, todo_alike}
use Rattle.uart_virtual.specs.Port.{is_up, settle}
use Rattle.uart_virtual.specs.declared.told.Todo.{Todo}
use Rattle.uart_virtual.specs.declared.told.Told.{Told}
use Rattle.uart_c.proofs.port.conclude.Goals.{then-is_on, else-is_on}
use Rattle.uart_c.proofs.port.conclude.Goals as goal

pub returns-clause-told : goal.returns-clause-told
returns-clause-told c =
    let old : ChipState = chip_of c.args.port.now.chip in
    let told : Told = told_of c.args.port.now.told in
    let alike : (told.line ≡ false) ⊎ (c.if-is_on.was_up ≡ is_up old) = elim c.if-is_on.branch [
      | then-is_on w ↦ inr (w.was_up-is ∙ w.is_interrupting-was_up.ensures)
      | else-is_on w ↦ inl (sym c.is_on.ensures ∙ w.if-is_on.false)
    ] in
    c.finish.ensures.told ∙ told_alike c.args.kind c.if-is_on.was_up (is_up old) (settle old) told alike

pub returns-clause-todo : goal.returns-clause-todo
returns-clause-todo c =
    let old : ChipState = chip_of c.args.port.now.chip in
    let told : Told = told_of c.args.port.now.told in
    let alike : (told.line ≡ false) ⊎ (c.if-is_on.was_up ≡ is_up old) = elim c.if-is_on.branch [
      | then-is_on w ↦ inr (w.was_up-is ∙ w.is_interrupting-was_up.ensures)
      | else-is_on w ↦ inl (sym c.is_on.ensures ∙ w.if-is_on.false)
    ] in
    c.finish.ensures.todo ∙
    ap (λ (todo : Todo). shown todo) (todo_alike c.args.kind c.if-is_on.was_up (is_up old) (settle old) told alike)
