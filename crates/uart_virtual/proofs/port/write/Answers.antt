use Rattle.std.proofs.Common.{◌∙◌, ap, sym, ℕ}
use Rattle.uart_virtual.specs.Port.{Write, kind_of, settle, stays_up, tell, todo_of, written}
use Rattle.uart_virtual.proofs.port.write.Goals as goal

pub returns-then-is_fast-clause-after : goal.returns-then-is_fast-clause-after
returns-then-is_fast-clause-after g c =
    c.send.ensures.after ∙
    ap (λ (offset : ℕ). settle (written offset c.args.value c.args.chip.now)) (sym (c.is_fast.ensures.fast c.if-is_fast.true).0)

pub returns-then-is_fast-clause-told : goal.returns-then-is_fast-clause-told
returns-then-is_fast-clause-told g c =
    c.send.ensures.told ∙
    ap (λ (offset : ℕ). tell (kind_of (Write offset c.args.value) c.args.chip.now)
    (stays_up (Write offset c.args.value) (written offset c.args.value c.args.chip.now))
    (settle (written offset c.args.value c.args.chip.now)) c.args.told.now)
    (sym (c.is_fast.ensures.fast c.if-is_fast.true).0)

pub returns-then-is_fast-clause-todo : goal.returns-then-is_fast-clause-todo
returns-then-is_fast-clause-todo g c =
    c.send.ensures.todo ∙
    ap (λ (offset : ℕ). todo_of (kind_of (Write offset c.args.value) c.args.chip.now)
    (stays_up (Write offset c.args.value) (written offset c.args.value c.args.chip.now))
    (settle (written offset c.args.value c.args.chip.now)) c.args.told.now)
    (sym (c.is_fast.ensures.fast c.if-is_fast.true).0)
