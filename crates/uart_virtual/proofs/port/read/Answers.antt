use Rattle.std.proofs.Common.{◌∙◌, ap, sym, ℕ}
use Rattle.uart_chip.specs.Chip.{answer, after_read}
use Rattle.uart_virtual.specs.Port.{Read, kind_of, settle, stays_up, tell, todo_of}
use Rattle.uart_virtual.proofs.port.read.Goals as goal

pub look_idle-requires : goal.look_idle-requires
look_idle-requires g c = (assumption c, (c.requires.told, (c.requires.still, c.is_idle_look.ensures.down c.if-is_idle_look.true)))

pub returns-then-is_idle_look-clause-value : goal.returns-then-is_idle_look-clause-value
returns-then-is_idle_look-clause-value g c =
    c.look_idle.ensures.value ∙
    ap (λ (offset : ℕ). answer offset c.args.chip.now) (sym (c.is_idle_look.ensures.isr c.if-is_idle_look.true))

pub returns-then-is_idle_look-clause-after : goal.returns-then-is_idle_look-clause-after
returns-then-is_idle_look-clause-after g c =
    c.look_idle.ensures.after ∙
    ap (λ (offset : ℕ). settle (after_read offset c.args.chip.now)) (sym (c.is_idle_look.ensures.isr c.if-is_idle_look.true))

pub returns-then-is_idle_look-clause-told : goal.returns-then-is_idle_look-clause-told
returns-then-is_idle_look-clause-told g c =
    c.look_idle.ensures.told ∙
    ap (λ (offset : ℕ). tell (kind_of (Read offset) c.args.chip.now) (stays_up (Read offset) (after_read offset c.args.chip.now))
    (settle (after_read offset c.args.chip.now)) c.args.told.now)
    (sym (c.is_idle_look.ensures.isr c.if-is_idle_look.true))

pub returns-then-is_idle_look-clause-todo : goal.returns-then-is_idle_look-clause-todo
returns-then-is_idle_look-clause-todo g c =
    c.look_idle.ensures.todo ∙
    ap (λ (offset : ℕ). todo_of (kind_of (Read offset) c.args.chip.now) (stays_up (Read offset) (after_read offset c.args.chip.now))
    (settle (after_read offset c.args.chip.now)) c.args.told.now)
    (sym (c.is_idle_look.ensures.isr c.if-is_idle_look.true))
