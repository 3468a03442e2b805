use Rattle.std.proofs.Common.{◌≡◌, ◌%◌, Bool, true, false, refl, ap, ◌∙◌}
use mir.Val.{bool_byte}
use Rattle.uart_c.specs.Port as port_spec
use Rattle.uart_c.specs.Port.{asked}
use Rattle.uart_spec.specs.Bits.{flag}
use Rattle.uart_spec.specs.declared.baud.TheConstants.{NUM_REGISTERS}
use Rattle.uart_virtual.specs.Clock.{can_wait, owed_after, todo_now}
use Rattle.uart_virtual.specs.Port.{PortCall, Write}
use Rattle.uart_virtual.specs.declared.told.Todo.{Todo}
use Rattle.uart_c.proofs.clock.uart_clock_after_write.Goals as goal

byte_flag : (b : Bool) → bool_byte b ≡ flag b 1
byte_flag true = refl
byte_flag false = refl

pub returns-clause-waits : goal.returns-clause-waits
returns-clause-waits c value =
    let call : PortCall = Write (c.args.offset % NUM_REGISTERS) value in
    byte_flag c.after_write-waits.result ∙
    ap (λ (waits : Bool). flag waits 1)
    (c.after_write-waits.ensures.waits value ∙ ap (λ (t : Todo). can_wait call t) c.asked-left.ensures)

pub returns-clause-todo : goal.returns-clause-todo
returns-clause-todo c value =
    let call : PortCall = Write (c.args.offset % NUM_REGISTERS) value in
    c.shown.ensures ∙
    ap (λ (t : Todo). port_spec.shown t)
    (c.after_write-waits.ensures.todo ∙
    (ap (λ (waits : Bool). todo_now waits c.asked-left.result) (c.after_write-waits.ensures.waits value) ∙
    ap (λ (t : Todo). todo_now (can_wait call t) t) c.asked-left.ensures))

pub returns-clause-owed : goal.returns-clause-owed
returns-clause-owed c value =
    let call : PortCall = Write (c.args.offset % NUM_REGISTERS) value in
    byte_flag c.after_write-waits.new.self.is_owed ∙
    ap (λ (owed : Bool). flag owed 1)
    (c.after_write-waits.ensures.owed ∙
    (ap (λ (waits : Bool). owed_after c.known-owed.result.is_owed waits c.asked-left.result) (c.after_write-waits.ensures.waits value) ∙
    (ap (λ (t : Todo). owed_after c.known-owed.result.is_owed (can_wait call t) t) c.asked-left.ensures ∙
    ap (λ (b : Bool). owed_after b (can_wait call (asked c.args.todo.now)) (asked c.args.todo.now)) c.known-owed.ensures)))
