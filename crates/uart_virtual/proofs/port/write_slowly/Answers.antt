use Rattle.std.proofs.Common.{◌≡◌, ◌∙◌, ap, sym, Bool, not, ◌&&◌}
use Rattle.uart_chip.specs.Chip.{ChipState, is_loopback}
use Rattle.uart_virtual.specs.declared.told.Kind.{Kind}
use Rattle.uart_virtual.specs.Port.{PortCall, Write, is_up, kind_of, settle, tell, todo_of}
use Rattle.uart_virtual.proofs.Times.{paced-happen}
use Rattle.uart_virtual.proofs.port.write_slowly.Goals.{then-is_interrupting, else-is_interrupting}
use Rattle.uart_virtual.proofs.port.write_slowly.Goals as goal

pub finish-requires : goal.finish-requires
finish-requires g c = (
  assumption c,
  (
    c.is_interrupting.ensures.live,
    rw c.write_and_raise.ensures (paced-happen (Write c.args.offset c.args.value) c.args.chip.now c.requires.still.paced),
  ),
)

pub returns-clause-told : goal.returns-clause-told
returns-clause-told g c =
    let call : PortCall = Write c.args.offset c.args.value in
    let old : ChipState = c.args.chip.now in
    let d : ChipState = c.write_and_raise.new.chip in
    let inside : Bool = is_loopback d.latches in
    let was_up : c.if-is_interrupting.was_up ≡ (is_up d && not inside) = elim c.if-is_interrupting.branch [
      | then-is_interrupting w ↦
          w.was_up-is ∙ (ap (λ (b : Bool). not b) w.is_loopback.ensures ∙
          ap (λ (up : Bool). up && not inside) (sym w.if-is_interrupting.true ∙ c.is_interrupting.ensures.pending))
      | else-is_interrupting w ↦
          w.was_up-is ∙ (w.if-is_interrupting.false ∙
          ap (λ (up : Bool). up && not inside) (sym w.if-is_interrupting.false ∙ c.is_interrupting.ensures.pending))
    ] in
    c.finish.ensures.told ∙
    (ap (λ (kind : Kind). tell kind c.if-is_interrupting.was_up (settle d) c.args.told.now) c.kind_of_write.ensures ∙
    (ap (λ (up : Bool). tell (kind_of call old) up (settle d) c.args.told.now) was_up ∙
    ap (λ (x : ChipState). tell (kind_of call old) (is_up x && not (is_loopback x.latches)) (settle x) c.args.told.now)
    c.write_and_raise.ensures))

pub returns-clause-todo : goal.returns-clause-todo
returns-clause-todo g c =
    let call : PortCall = Write c.args.offset c.args.value in
    let old : ChipState = c.args.chip.now in
    let d : ChipState = c.write_and_raise.new.chip in
    let inside : Bool = is_loopback d.latches in
    let was_up : c.if-is_interrupting.was_up ≡ (is_up d && not inside) = elim c.if-is_interrupting.branch [
      | then-is_interrupting w ↦
          w.was_up-is ∙ (ap (λ (b : Bool). not b) w.is_loopback.ensures ∙
          ap (λ (up : Bool). up && not inside) (sym w.if-is_interrupting.true ∙ c.is_interrupting.ensures.pending))
      | else-is_interrupting w ↦
          w.was_up-is ∙ (w.if-is_interrupting.false ∙
          ap (λ (up : Bool). up && not inside) (sym w.if-is_interrupting.false ∙ c.is_interrupting.ensures.pending))
    ] in
    c.finish.ensures.todo ∙
    (ap (λ (kind : Kind). todo_of kind c.if-is_interrupting.was_up (settle d) c.args.told.now) c.kind_of_write.ensures ∙
    (ap (λ (up : Bool). todo_of (kind_of call old) up (settle d) c.args.told.now) was_up ∙
    ap (λ (x : ChipState). todo_of (kind_of call old) (is_up x && not (is_loopback x.latches)) (settle x) c.args.told.now)
    c.write_and_raise.ensures))
