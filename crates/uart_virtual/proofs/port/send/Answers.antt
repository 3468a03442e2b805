use Rattle.std.proofs.Common.{◌∙◌, ◌||◌, ap, sym, Bool}
use Rattle.uart_spec.specs.declared.registers.offsets.TheConstants as offsets
use Rattle.uart_chip.specs.Chip.{ChipState, after_write}
use Rattle.uart_virtual.specs.declared.told.Kind.{Kind}
use Rattle.uart_virtual.specs.Port.{PortCall, Write, is_up, tell, todo_of, settle, kind_of}
use Rattle.uart_virtual.proofs.Sends.{settle-sent}
use Rattle.uart_virtual.proofs.Writes.{level_sent, others, stays_sent}
use Rattle.uart_virtual.proofs.port.send.Goals as goal

pub decide_at-requires : goal.decide_at-requires
decide_at-requires g c = (
  assumption c,
  (
    rw c.send_at_once.ensures
        (settle-sent c.args.value c.args.chip.now c.requires.live.whole.sound.chip c.requires.still c.requires.sends).1.paced,
    ap (λ (up : Bool). up || c.has_output_interrupt_on-is_on.result) c.interrupts_when_due-was_up.ensures.up ∙
        (ap (λ (on : Bool). others c.args.chip.now || on) c.has_output_interrupt_on-is_on.ensures.on ∙
        (sym (level_sent c.args.value c.args.chip.now c.requires.still) ∙ ap (λ (x : ChipState). is_up x) (sym c.send_at_once.ensures))),
  ),
)

pub returns-clause-after : goal.returns-clause-after
returns-clause-after g c =
    rw c.send_at_once.ensures
    (sym (settle-sent c.args.value c.args.chip.now c.requires.live.whole.sound.chip c.requires.still c.requires.sends).0)

pub returns-clause-still : goal.returns-clause-still
returns-clause-still g c =
    rw c.send_at_once.ensures
    (settle-sent c.args.value c.args.chip.now c.requires.live.whole.sound.chip c.requires.still c.requires.sends).1

pub returns-clause-told : goal.returns-clause-told
returns-clause-told g c =
    let old : ChipState = c.args.chip.now in
    let call : PortCall = Write offsets.DATA c.args.value in
    let d : ChipState = after_write offsets.DATA c.args.value old in
    let e = settle-sent c.args.value old c.requires.live.whole.sound.chip c.requires.still c.requires.sends in
    c.decide_at.ensures.told ∙
    (ap (λ (kind : Kind). tell kind c.interrupts_when_due-was_up.result c.send_at_once.new.self c.args.told.now)
    c.kind_of_write-kind.ensures ∙
    (ap (λ (x : ChipState). tell (kind_of call old) c.interrupts_when_due-was_up.result x c.args.told.now)
    (c.send_at_once.ensures ∙ sym e.0) ∙
    ap (λ (up : Bool). tell (kind_of call old) up (settle d) c.args.told.now)
    (c.interrupts_when_due-was_up.ensures.up ∙ stays_sent c.args.value old c.requires.still c.requires.sends)))

pub returns-clause-todo : goal.returns-clause-todo
returns-clause-todo g c =
    let old : ChipState = c.args.chip.now in
    let call : PortCall = Write offsets.DATA c.args.value in
    let d : ChipState = after_write offsets.DATA c.args.value old in
    let e = settle-sent c.args.value old c.requires.live.whole.sound.chip c.requires.still c.requires.sends in
    c.decide_at.ensures.todo ∙
    (ap (λ (kind : Kind). todo_of kind c.interrupts_when_due-was_up.result c.send_at_once.new.self c.args.told.now)
    c.kind_of_write-kind.ensures ∙
    (ap (λ (x : ChipState). todo_of (kind_of call old) c.interrupts_when_due-was_up.result x c.args.told.now)
    (c.send_at_once.ensures ∙ sym e.0) ∙
    ap (λ (up : Bool). todo_of (kind_of call old) up (settle d) c.args.told.now)
    (c.interrupts_when_due-was_up.ensures.up ∙ stays_sent c.args.value old c.requires.still c.requires.sends)))
