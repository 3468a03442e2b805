use Rattle.std.proofs.Common.{◌≡◌, Bool, true, false, not, ◌==◌, length, ◌∙◌, ap, sym, subst}
use Rattle.std.proofs.lemmas.Bool.{ne_eqb}
use Rattle.uart_chip.specs.Chip.{ChipState, take_wire}
use Rattle.uart_chip.specs.Transmitter.{held}
use Rattle.uart_live.specs.Live.{IsLive}
use Rattle.uart_live.specs.Size.{fifo_size}
use Rattle.uart_virtual.specs.declared.told.Kind.{Kind}
use Rattle.uart_virtual.specs.Port.{TakeOutput, settle, settle_ticks, is_up, idle, tell, todo_of}
use Rattle.uart_virtual.proofs.Times.{still_take, still_ticks}
use Rattle.uart_virtual.proofs.Quiet.{take_kind, quiet_tell, quiet_todo}
use Rattle.uart_virtual.proofs.port.take.Goals as goal

pub returns-then-held-eq0-clause-after : goal.returns-then-held-eq0-clause-after
returns-then-held-eq0-clause-after g c =
    let none : length (held c.args.chip.now.transmitter) ≡ 0 = sym c.held_len-held.ensures ∙ c.if-held-eq0.true in
    let d : ChipState = take_wire c.args.count c.args.chip.now in
    let live : IsLive (fifo_size g.row.FIFO) d =
    subst (IsLive (fifo_size g.row.FIFO)) c.take_wire.ensures c.nothing_new.ensures.live in
    c.take_wire.ensures ∙
    sym (still_ticks (settle_ticks d.transmitter.size) d live.whole.sound.chip
    (still_take c.args.count c.args.chip.now none c.requires.still))

pub returns-then-held-eq0-clause-told : goal.returns-then-held-eq0-clause-told
returns-then-held-eq0-clause-told g c =
    let none : length (held c.args.chip.now.transmitter) ≡ 0 = sym c.held_len-held.ensures ∙ c.if-held-eq0.true in
    let d : ChipState = take_wire c.args.count c.args.chip.now in
    let live : IsLive (fifo_size g.row.FIFO) d =
    subst (IsLive (fifo_size g.row.FIFO)) c.take_wire.ensures c.nothing_new.ensures.live in
    quiet_tell (TakeOutput c.args.count) c.args.chip.now d c.args.told.now (take_kind c.args.count c.args.chip.now none)
    (still_ticks (settle_ticks d.transmitter.size) d live.whole.sound.chip (still_take c.args.count c.args.chip.now none c.requires.still))
    (subst (λ (x : ChipState). tell idle (is_up x) x c.args.told.now ≡ c.args.told.now) c.take_wire.ensures c.nothing_new.ensures.told)

pub returns-then-held-eq0-clause-todo : goal.returns-then-held-eq0-clause-todo
returns-then-held-eq0-clause-todo g c =
    let none : length (held c.args.chip.now.transmitter) ≡ 0 = sym c.held_len-held.ensures ∙ c.if-held-eq0.true in
    let d : ChipState = take_wire c.args.count c.args.chip.now in
    let live : IsLive (fifo_size g.row.FIFO) d =
    subst (IsLive (fifo_size g.row.FIFO)) c.take_wire.ensures c.nothing_new.ensures.live in
    quiet_todo (TakeOutput c.args.count) c.args.chip.now d c.args.told.now c.nothing_new.result
    (take_kind c.args.count c.args.chip.now none)
    (still_ticks (settle_ticks d.transmitter.size) d live.whole.sound.chip (still_take c.args.count c.args.chip.now none c.requires.still))
    (subst (λ (x : ChipState). c.nothing_new.result ≡ todo_of idle (is_up x) x c.args.told.now) c.take_wire.ensures
    c.nothing_new.ensures.todo)

pub returns-else-held-eq0-clause-told : goal.returns-else-held-eq0-clause-told
returns-else-held-eq0-clause-told g c =
    let d : ChipState = take_wire c.args.count c.args.chip.now in
    let some : (length (held c.args.chip.now.transmitter) == 0) ≡ false =
    ne_eqb (length (held c.args.chip.now.transmitter)) 0 (λ none. c.if-held-eq0.false (c.held_len-held.ensures ∙ none)) in
    let kind : Kind = record idle { brings = true } in
    c.finish.ensures.told ∙
    (ap (λ (up : Bool). tell kind up (settle c.take_wire.new.self) c.args.told.now) c.is_interrupting-was_up.ensures.pending ∙
    (ap (λ (x : ChipState). tell kind (is_up x) (settle x) c.args.told.now) c.take_wire.ensures ∙
    ap (λ (none : Bool). tell (record idle { brings = not none }) (is_up d) (settle d) c.args.told.now) (sym some)))

pub returns-else-held-eq0-clause-todo : goal.returns-else-held-eq0-clause-todo
returns-else-held-eq0-clause-todo g c =
    let d : ChipState = take_wire c.args.count c.args.chip.now in
    let some : (length (held c.args.chip.now.transmitter) == 0) ≡ false =
    ne_eqb (length (held c.args.chip.now.transmitter)) 0 (λ none. c.if-held-eq0.false (c.held_len-held.ensures ∙ none)) in
    let kind : Kind = record idle { brings = true } in
    c.finish.ensures.todo ∙
    (ap (λ (up : Bool). todo_of kind up (settle c.take_wire.new.self) c.args.told.now) c.is_interrupting-was_up.ensures.pending ∙
    (ap (λ (x : ChipState). todo_of kind (is_up x) (settle x) c.args.told.now) c.take_wire.ensures ∙
    ap (λ (none : Bool). todo_of (record idle { brings = not none }) (is_up d) (settle d) c.args.told.now) (sym some)))
