use Rattle.std.proofs.Common.{◌≡◌, Bool, not, ◌&&◌, ap, sym, ◌∙◌}
use Rattle.uart_c.specs.Port.{shown, told_of}
use Rattle.uart_c.specs.State.{chip_of}
use Rattle.uart_chip.specs.Chip.{ChipState, is_loopback}
use Rattle.uart_virtual.specs.Port.{PortCall, Write, is_up, kind_of, settle, stays_up, tell, todo_of}
use Rattle.uart_virtual.specs.declared.told.Kind.{Kind}
use Rattle.uart_virtual.specs.declared.told.Todo.{Todo}
use Rattle.uart_virtual.specs.declared.told.Told.{Told}
use Rattle.uart_c.proofs.port.write_slowly.Goals.{then-is_interrupting, else-is_interrupting}
use Rattle.uart_c.proofs.port.write_slowly.Goals as goal

pub returns-clause-after : goal.returns-clause-after
returns-clause-after c =
    let old : ChipState = chip_of c.args.port.now.chip in
    let d : ChipState = chip_of c.write_and_raise.new.chip in
    let told : Told = told_of c.args.port.now.told in
    let call : PortCall = Write c.args.offset c.args.value in
    let up : c.if-is_interrupting.was_up ≡ (is_up d && not (is_loopback d.latches)) = elim c.if-is_interrupting.branch [
      | then-is_interrupting w ↦
          w.was_up-is ∙ ap (λ (b : Bool). not b) w.is_loopback.ensures ∙
          ap (λ (b : Bool). b && not (is_loopback d.latches)) (sym w.if-is_interrupting.true ∙ c.is_interrupting.ensures)
      | else-is_interrupting w ↦
          w.was_up-is ∙ w.if-is_interrupting.false ∙
          ap (λ (b : Bool). b && not (is_loopback d.latches)) (sym w.if-is_interrupting.false ∙ c.is_interrupting.ensures)
    ] in
    ap (λ (x : ChipState). record { chip = x; told = told_of c.finish.new.port.told }) c.finish.ensures.chip ∙
    ap (λ (t : Told). record { chip = settle d; told = t }) (c.finish.ensures.told ∙
    ap (λ (b : Bool). tell c.kind_of_write.result b (settle d) told) up ∙
    ap (λ (kind : Kind). tell kind (stays_up call d) (settle d) told) c.kind_of_write.ensures) ∙
    ap (λ (x : ChipState). record { chip = settle x; told = tell (kind_of call old) (stays_up call x) (settle x) told })
    c.write_and_raise.ensures.after

pub returns-clause-todo : goal.returns-clause-todo
returns-clause-todo c =
    let old : ChipState = chip_of c.args.port.now.chip in
    let d : ChipState = chip_of c.write_and_raise.new.chip in
    let told : Told = told_of c.args.port.now.told in
    let call : PortCall = Write c.args.offset c.args.value in
    let up : c.if-is_interrupting.was_up ≡ (is_up d && not (is_loopback d.latches)) = elim c.if-is_interrupting.branch [
      | then-is_interrupting w ↦
          w.was_up-is ∙ ap (λ (b : Bool). not b) w.is_loopback.ensures ∙
          ap (λ (b : Bool). b && not (is_loopback d.latches)) (sym w.if-is_interrupting.true ∙ c.is_interrupting.ensures)
      | else-is_interrupting w ↦
          w.was_up-is ∙ w.if-is_interrupting.false ∙
          ap (λ (b : Bool). b && not (is_loopback d.latches)) (sym w.if-is_interrupting.false ∙ c.is_interrupting.ensures)
    ] in
    c.finish.ensures.todo ∙
    ap (λ (todo : Todo). shown todo) (ap (λ (b : Bool). todo_of c.kind_of_write.result b (settle d) told) up ∙
    ap (λ (kind : Kind). todo_of kind (stays_up call d) (settle d) told) c.kind_of_write.ensures ∙
    ap (λ (x : ChipState). todo_of (kind_of call old) (stays_up call x) (settle x) told) c.write_and_raise.ensures.after)

pub returns-clause-canonical : goal.returns-clause-canonical
returns-clause-canonical c w = c.finish.ensures.canonical (c.write_and_raise.ensures.canonical w.0, w.1)
