use Rattle.std.proofs.Common.{◌≡◌, ap, sym, ◌∙◌}
use Rattle.uart_c.specs.Port.{kept, shown, told_of}
use Rattle.uart_c.specs.State.{chip_of}
use Rattle.uart_c.specs.declared.port.UartTold.{UartTold}
use Rattle.uart_c.proofs.Told.{told_kept}
use Rattle.uart_chip.specs.Chip.{ChipState}
use Rattle.uart_virtual.specs.Port.{tell, todo_of, told_after, todo_after}
use Rattle.uart_virtual.specs.declared.told.Seen.{Seen}
use Rattle.uart_virtual.specs.declared.told.Todo.{Todo}
use Rattle.uart_virtual.specs.declared.told.Told.{Told}
use Rattle.uart_c.proofs.port.decide.Goals as goal

pub returns-clause-told : goal.returns-clause-told
returns-clause-told c =
    let chip : ChipState = chip_of c.args.port.now.chip in
    ap (λ (t : UartTold). told_of t) c.of-port.ensures ∙
    (told_kept _ ∙
    (c.tell.ensures.told ∙ (ap (λ (seen : Seen). told_after c.args.kind c.args.was_up seen c.known-told.result) c.seen.ensures ∙
    ap (λ (told : Told). tell c.args.kind c.args.was_up chip told) c.known-told.ensures)))

pub returns-clause-todo : goal.returns-clause-todo
returns-clause-todo c =
    let chip : ChipState = chip_of c.args.port.now.chip in
    c.shown.ensures ∙
    ap (λ (todo : Todo). shown todo)
    (c.tell.ensures.todo ∙ (ap (λ (seen : Seen). todo_after c.args.kind c.args.was_up seen c.known-told.result) c.seen.ensures ∙
    ap (λ (told : Told). todo_of c.args.kind c.args.was_up chip told) c.known-told.ensures))

pub returns-clause-canonical : goal.returns-clause-canonical
returns-clause-canonical c w =
    (w, c.of-port.ensures ∙ ap (λ (told : Told). kept told) (sym (ap (λ (t : UartTold). told_of t) c.of-port.ensures ∙ told_kept _)))
