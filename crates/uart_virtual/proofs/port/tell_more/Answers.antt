use Rattle.std.proofs.Common.{◌∙◌, sym, ap}
use Rattle.uart_virtual.specs.declared.told.Kind.{Kind}
use Rattle.uart_virtual.specs.Port.{tell, todo_of}
use Rattle.uart_virtual.proofs.More.{told_unmoved, todo_unmoved}
use Rattle.uart_virtual.proofs.port.tell_more.Goals as goal

pub decide_at-requires : goal.decide_at-requires
decide_at-requires g c = (assumption c, (c.requires.paced, sym c.requires.up))

pub returns-then-was_up-clause-told : goal.returns-then-was_up-clause-told
returns-then-was_up-clause-told g c =
    told_unmoved c.args.chip.now c.args.told.now c.args.was_up c.requires.told c.requires.up c.if-was_up.true c.nothing_new.ensures.told

pub returns-then-was_up-clause-todo : goal.returns-then-was_up-clause-todo
returns-then-was_up-clause-todo g c =
    todo_unmoved c.args.chip.now c.args.told.now c.args.was_up c.nothing_new.result c.requires.told c.requires.up c.if-was_up.true
    c.nothing_new.ensures.todo

pub returns-else-was_up-clause-told : goal.returns-else-was_up-clause-told
returns-else-was_up-clause-told g c =
    c.decide_at.ensures.told ∙
    ap (λ (kind : Kind). tell kind c.args.was_up c.args.chip.now c.args.told.now) c.kind_of_read-kind.ensures

pub returns-else-was_up-clause-todo : goal.returns-else-was_up-clause-todo
returns-else-was_up-clause-todo g c =
    c.decide_at.ensures.todo ∙
    ap (λ (kind : Kind). todo_of kind c.args.was_up c.args.chip.now c.args.told.now) c.kind_of_read-kind.ensures
