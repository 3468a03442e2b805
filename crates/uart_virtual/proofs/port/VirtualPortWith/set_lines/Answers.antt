use Rattle.std.proofs.Common.{◌∙◌, ap, refl, Ok}
use Rattle.uart_spec.specs.Bits.{IsWithin}
use Rattle.uart_spec.specs.declared.registers.modem_status.TheConstants.MSR
use Rattle.uart_chip.specs.Chip.{ChipState}
use Rattle.uart_virtual.specs.declared.told.Kind.{Kind}
use Rattle.uart_virtual.specs.declared.told.Told.{Told}
use Rattle.uart_virtual.specs.declared.told.Todo.{Todo}
use Rattle.uart_virtual.specs.Port.{PortState, PortCall, SetLines, after, todo, kind_of, settle, is_up, tell, todo_of}
use Rattle.uart_virtual.proofs.Masks.{is_within, not_within}
use Rattle.uart_virtual.proofs.Times.{paced-happen}
use Rattle.uart_virtual.proofs.Sizes.{within_port}
use Rattle.uart_virtual.proofs.port.VirtualPortWith.set_lines.Goals as goal

-- a port takes no more memory than there can be, and its chip less than the port
pub set_lines-set-requires : goal.set_lines-set-requires
set_lines-set-requires g c = within_port _ 9223372036854775808 (assumption c)

pub finish_unmoved-todo-requires : goal.finish_unmoved-todo-requires
finish_unmoved-todo-requires g c =
    let within : IsWithin c.args.inputs.0 MSR.LINES.0 =
    is_within c.args.inputs.0 MSR.LINES.0 _ _ (c.intersection.ensures tt) c.ne.ensures c.if-ne.false in
    let same = (c.set_lines-set.ensures.accepted within).1 in (
      within_port _ 9223372036854775808 (assumption c),
      (
        rw same (paced-happen (SetLines c.args.inputs.0) c.self.inside.chip c.self.invariant.still.paced),
        rw same c.self.invariant.still.unmoved,
      ),
    )

pub invariant_of-self : goal.invariant_of-self
invariant_of-self g c = record { told = c.finish_unmoved-todo.ensures.holds; still = c.finish_unmoved-todo.ensures.still }

pub returns-then-ne-clause-accepted : goal.returns-then-ne-clause-accepted
returns-then-ne-clause-accepted g c = λ within.
    absurd (not_within c.args.inputs.0 MSR.LINES.0 _ _ (c.intersection.ensures tt) c.ne.ensures c.if-ne.true within)

pub returns-then-ne-clause-todo : goal.returns-then-ne-clause-todo
returns-then-ne-clause-todo g c = λ within.
    absurd (not_within c.args.inputs.0 MSR.LINES.0 _ _ (c.intersection.ensures tt) c.ne.ensures c.if-ne.true within)

pub returns-clause-accepted : goal.returns-clause-accepted
returns-clause-accepted g c = λ within.
    let p : PortState = record { chip = c.self.inside.chip; told = c.self.inside.told } in
    let call : PortCall = SetLines c.args.inputs.0 in
    let kind : Kind = kind_of call p.chip in
    let came : ChipState = c.set_lines-set.new.self in (
      refl,
      ap (λ (x : ChipState). record { chip = x; told = c.finish_unmoved-todo.new.told }) c.finish_unmoved-todo.ensures.after ∙
          (ap (λ (told : Told). record { chip = settle came; told = told }) c.finish_unmoved-todo.ensures.told ∙
          (ap (λ (x : ChipState). record { chip = settle x; told = tell kind (is_up x) (settle x) p.told })
          (c.set_lines-set.ensures.accepted within).1 ∙
          ap (λ (q : PortState). after call q) c.self.view_is)),
    )

pub returns-clause-todo : goal.returns-clause-todo
returns-clause-todo g c = λ within.
    let p : PortState = record { chip = c.self.inside.chip; told = c.self.inside.told } in
    let call : PortCall = SetLines c.args.inputs.0 in
    let kind : Kind = kind_of call p.chip in
    ap (λ (it : Todo). Ok it) (c.finish_unmoved-todo.ensures.todo ∙
    (ap (λ (x : ChipState). todo_of kind (is_up x) (settle x) p.told) (c.set_lines-set.ensures.accepted within).1 ∙
    ap (λ (q : PortState). todo call q) c.self.view_is))

pub returns-clause-refused : goal.returns-clause-refused
returns-clause-refused g c = λ other.
    absurd (other (is_within c.args.inputs.0 MSR.LINES.0 _ _ (c.intersection.ensures tt) c.ne.ensures c.if-ne.false))
