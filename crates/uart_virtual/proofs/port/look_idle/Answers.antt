use Rattle.std.proofs.Common.{◌≡◌, ◌∙◌, ap, sym, false, ℕ, bit_or}
use Rattle.uart_spec.specs.Bits.{flag}
use Rattle.uart_spec.specs.declared.registers.interrupt_status.TheConstants.ISR
use Rattle.uart_virtual.specs.Port.{is_up}
use Rattle.uart_virtual.proofs.Looks.{idle_answer, idle_after, idle_told, idle_todo}
use Rattle.uart_virtual.proofs.port.look_idle.Goals as goal

pub nothing_new-todo-requires : goal.nothing_new-todo-requires
nothing_new-todo-requires g c = (assumption c, (c.requires.told, c.requires.still.paced))

pub returns-clause-value : goal.returns-clause-value
returns-clause-value g c =
    let down : is_up c.args.chip.now ≡ false = sym c.requires.told.line ∙ c.requires.down in
    c.shown_idle-value.ensures ∙
    (ap (λ fifo. bit_or ISR.INTERRUPT_STATUS.0 (flag fifo ISR.FIFOS_ENABLED.0)) c.has_fifo_on-fifo.ensures ∙
    idle_answer c.args.chip.now c.nothing_new-todo.ensures.live down)

pub returns-clause-after : goal.returns-clause-after
returns-clause-after g c =
    let down : is_up c.args.chip.now ≡ false = sym c.requires.told.line ∙ c.requires.down in
    idle_after c.args.chip.now c.nothing_new-todo.ensures.live c.requires.still down

pub returns-clause-holds : goal.returns-clause-holds
returns-clause-holds g c = record { line = c.requires.told.line; room = c.requires.told.room }

pub returns-clause-told : goal.returns-clause-told
returns-clause-told g c =
    let down : is_up c.args.chip.now ≡ false = sym c.requires.told.line ∙ c.requires.down in
    idle_told c.args.chip.now c.args.told.now c.nothing_new-todo.ensures.live c.requires.still down c.requires.told

pub returns-clause-todo : goal.returns-clause-todo
returns-clause-todo g c =
    let down : is_up c.args.chip.now ≡ false = sym c.requires.told.line ∙ c.requires.down in
    idle_todo c.args.chip.now c.args.told.now c.nothing_new-todo.result c.nothing_new-todo.ensures.live c.requires.still down
    c.nothing_new-todo.ensures.todo
