use Rattle.std.proofs.Common.{◌≡◌, true, ◌∙◌, sym, subst}
use Rattle.uart_chip.specs.Chip.{ChipState, answer, after_read}
use Rattle.uart_live.specs.Live.{IsLive}
use Rattle.uart_live.specs.Size.{fifo_size}
use Rattle.uart_virtual.specs.Port.{Read, settle_ticks, is_up, idle, is_quiet, tell, todo_of}
use Rattle.uart_virtual.proofs.Times.{paced-happen, unmoved-read, still_read, still_ticks}
use Rattle.uart_virtual.proofs.Quiet.{IsQuiet, quiet_read, quiet_told, quiet_kind, quiet_tell, quiet_todo}
use Rattle.uart_virtual.proofs.port.read_any.Goals as goal

pub nothing_new-todo-requires : goal.nothing_new-todo-requires
nothing_new-todo-requires g c = (
  assumption c,
  (
    let old : ChipState = c.args.chip.now in
        let quiet : is_quiet c.args.offset (answer c.args.offset old) ≡ true =
        subst (λ v. is_quiet c.args.offset v ≡ true) c.read-value.ensures.answers (sym c.is_quiet.ensures ∙ c.if-is_quiet.true) in
        rw c.read-value.ensures.after
        (quiet_told c.args.offset old c.args.told.now (quiet_read c.args.offset old quiet) c.requires.told),
    rw c.read-value.ensures.after (paced-happen (Read c.args.offset) c.args.chip.now c.requires.still.paced),
  ),
)

pub finish_read-todo-requires : goal.finish_read-todo-requires
finish_read-todo-requires g c = (
  assumption c,
  (
    rw c.read-value.ensures.after (paced-happen (Read c.args.offset) c.args.chip.now c.requires.still.paced),
    rw c.read-value.ensures.after (unmoved-read c.args.offset c.args.chip.now c.requires.still.unmoved),
  ),
)

pub returns-then-is_quiet-clause-after : goal.returns-then-is_quiet-clause-after
returns-then-is_quiet-clause-after g c =
    let old : ChipState = c.args.chip.now in
    let d : ChipState = after_read c.args.offset old in
    let quiet : is_quiet c.args.offset (answer c.args.offset old) ≡ true =
    subst (λ v. is_quiet c.args.offset v ≡ true) c.read-value.ensures.answers (sym c.is_quiet.ensures ∙ c.if-is_quiet.true) in
    let q : IsQuiet c.args.offset old = quiet_read c.args.offset old quiet in
    let live : IsLive (fifo_size g.row.FIFO) d =
    subst (IsLive (fifo_size g.row.FIFO)) c.read-value.ensures.after c.nothing_new-todo.ensures.live in
    c.read-value.ensures.after ∙
    sym (still_ticks (settle_ticks d.transmitter.size) d live.whole.sound.chip (still_read c.args.offset old q.other c.requires.still))

pub returns-then-is_quiet-clause-still : goal.returns-then-is_quiet-clause-still
returns-then-is_quiet-clause-still g c =
    let old : ChipState = c.args.chip.now in
    let quiet : is_quiet c.args.offset (answer c.args.offset old) ≡ true =
    subst (λ v. is_quiet c.args.offset v ≡ true) c.read-value.ensures.answers (sym c.is_quiet.ensures ∙ c.if-is_quiet.true) in
    rw c.read-value.ensures.after (still_read c.args.offset old (quiet_read c.args.offset old quiet).other c.requires.still)

pub returns-then-is_quiet-clause-told : goal.returns-then-is_quiet-clause-told
returns-then-is_quiet-clause-told g c =
    let old : ChipState = c.args.chip.now in
    let d : ChipState = after_read c.args.offset old in
    let quiet : is_quiet c.args.offset (answer c.args.offset old) ≡ true =
    subst (λ v. is_quiet c.args.offset v ≡ true) c.read-value.ensures.answers (sym c.is_quiet.ensures ∙ c.if-is_quiet.true) in
    let q : IsQuiet c.args.offset old = quiet_read c.args.offset old quiet in
    let live : IsLive (fifo_size g.row.FIFO) d =
    subst (IsLive (fifo_size g.row.FIFO)) c.read-value.ensures.after c.nothing_new-todo.ensures.live in
    quiet_tell (Read c.args.offset) old d c.args.told.now (quiet_kind c.args.offset old q)
    (still_ticks (settle_ticks d.transmitter.size) d live.whole.sound.chip (still_read c.args.offset old q.other c.requires.still))
    (subst (λ (x : ChipState). tell idle (is_up x) x c.args.told.now ≡ c.args.told.now) c.read-value.ensures.after
    c.nothing_new-todo.ensures.told)

pub returns-then-is_quiet-clause-todo : goal.returns-then-is_quiet-clause-todo
returns-then-is_quiet-clause-todo g c =
    let old : ChipState = c.args.chip.now in
    let d : ChipState = after_read c.args.offset old in
    let quiet : is_quiet c.args.offset (answer c.args.offset old) ≡ true =
    subst (λ v. is_quiet c.args.offset v ≡ true) c.read-value.ensures.answers (sym c.is_quiet.ensures ∙ c.if-is_quiet.true) in
    let q : IsQuiet c.args.offset old = quiet_read c.args.offset old quiet in
    let live : IsLive (fifo_size g.row.FIFO) d =
    subst (IsLive (fifo_size g.row.FIFO)) c.read-value.ensures.after c.nothing_new-todo.ensures.live in
    quiet_todo (Read c.args.offset) old d c.args.told.now c.nothing_new-todo.result (quiet_kind c.args.offset old q)
    (still_ticks (settle_ticks d.transmitter.size) d live.whole.sound.chip (still_read c.args.offset old q.other c.requires.still))
    (subst (λ (x : ChipState). c.nothing_new-todo.result ≡ todo_of idle (is_up x) x c.args.told.now) c.read-value.ensures.after
    c.nothing_new-todo.ensures.todo)
