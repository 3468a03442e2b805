use Rattle.std.proofs.Common.{Bool, ap, sym, ◌∙◌}
use Rattle.uart_c.proofs.Quick.{settle-sent}
use Rattle.uart_c.specs.Port.{shown, told_of}
use Rattle.uart_c.specs.State.{chip_of}
use Rattle.uart_c.specs.declared.chip.UartChip.{UartChip}
use Rattle.uart_chip.specs.Chip.{ChipState}
use Rattle.uart_spec.specs.declared.registers.offsets.TheConstants as offsets
use Rattle.uart_virtual.proofs.Writes.{stays_sent}
use Rattle.uart_virtual.specs.Port.{PortCall, Write, happen, kind_of, settle, tell, todo_of}
use Rattle.uart_virtual.specs.declared.told.Kind.{Kind}
use Rattle.uart_virtual.specs.declared.told.Todo.{Todo}
use Rattle.uart_virtual.specs.declared.told.Told.{Told}
use Rattle.uart_c.proofs.port.send.Goals as goal

pub returns-clause-after : goal.returns-clause-after
returns-clause-after c =
    let old : ChipState = chip_of c.args.port.now.chip in
    let told : Told = told_of c.args.port.now.told in
    let call : PortCall = Write offsets.DATA c.args.value in
    let d : ChipState = happen call old in
    let sent = c.send_at_once.ensures.after ∙ sym (settle-sent c.args.value old c.requires.still c.requires.sends) in
    let tells = c.report.ensures.told ∙
    (ap (λ (x : ChipState). tell c.kind_of_write-kind.result c.interrupts_when_due-was_up.result x told) sent ∙
    (ap (λ (kind : Kind). tell kind c.interrupts_when_due-was_up.result (settle d) told) c.kind_of_write-kind.ensures ∙
    ap (λ (up : Bool). tell (kind_of call old) up (settle d) told)
    (c.interrupts_when_due-was_up.ensures ∙ stays_sent c.args.value old c.requires.still c.requires.sends))) in
    ap (λ (x : ChipState). record { chip = x; told = told_of c.report.new.port.told })
    (ap (λ (u : UartChip). chip_of u) c.report.ensures.chip ∙ sent) ∙
    ap (λ (t : Told). record { chip = settle d; told = t }) tells

pub returns-clause-todo : goal.returns-clause-todo
returns-clause-todo c =
    let old : ChipState = chip_of c.args.port.now.chip in
    let told : Told = told_of c.args.port.now.told in
    let call : PortCall = Write offsets.DATA c.args.value in
    let d : ChipState = happen call old in
    let sent = c.send_at_once.ensures.after ∙ sym (settle-sent c.args.value old c.requires.still c.requires.sends) in
    c.report.ensures.todo ∙
    ap (λ (todo : Todo). shown todo)
    (ap (λ (x : ChipState). todo_of c.kind_of_write-kind.result c.interrupts_when_due-was_up.result x told) sent ∙
    (ap (λ (kind : Kind). todo_of kind c.interrupts_when_due-was_up.result (settle d) told) c.kind_of_write-kind.ensures ∙
    ap (λ (up : Bool). todo_of (kind_of call old) up (settle d) told)
    (c.interrupts_when_due-was_up.ensures ∙ stays_sent c.args.value old c.requires.still c.requires.sends)))

pub returns-clause-canonical : goal.returns-clause-canonical
returns-clause-canonical c w = c.report.ensures.canonical (c.send_at_once.ensures.canonical w.0, w.1)
