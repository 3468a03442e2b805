use Rattle.std.proofs.Common.{◌≡◌, ◌∙◌, ap, sym, true}
use Rattle.uart_spec.specs.declared.registers.offsets.TheConstants as offsets
use Rattle.uart_chip.specs.Chip.{ChipState, after_read}
use Rattle.uart_live.proofs.Lives.{live-expire, live-read}
use Rattle.uart_live.specs.Held.{expire}
use Rattle.uart_live.specs.Live.{IsLive}
use Rattle.uart_live.specs.Size.{fifo_size}
use Rattle.uart_virtual.specs.declared.told.Kind.{Kind}
use Rattle.uart_virtual.specs.Port.{PortState, IsStill, Read, after, todo, tell, todo_of, is_up, reads_last}
use Rattle.uart_virtual.specs.declared.port.Answer.{Answer}
use Rattle.uart_virtual.proofs.Inputs.{level_last, did_read_last, last_todo, same_answer}
use Rattle.uart_virtual.proofs.Times.{paced-happen, still-expire, unmoved-read}
use Rattle.uart_virtual.proofs.Sizes.{within_port}
use Rattle.uart_virtual.proofs.port.VirtualPortWith.read_last.Goals as goal

pub decide_at-todo-requires : goal.decide_at-todo-requires
decide_at-todo-requires g c = (
  within_port _ 9223372036854775808 (assumption c),
  (
    let p : PortState = record { chip = c.self.inside.chip; told = c.self.inside.told } in
        let last : reads_last p ≡ true =
        ap (λ (q : PortState). reads_last q) c.self.view_is ∙ (sym c.reads_last.ensures ∙ c.if-not-reads_last.false) in
        let d : ChipState = after_read offsets.DATA p.chip in
        let chip : c.expire_timeout.new.self ≡ expire d =
        c.expire_timeout.ensures ∙ ap (λ (x : ChipState). expire x) c.read_data-value.ensures.after in
        let up : c.is_interrupting-level.result ≡ is_up d =
        c.is_interrupting-level.ensures.pending ∙ ap (λ (x : ChipState). is_up x) c.read_data-value.ensures.after in
        let still : IsStill (expire d) =
        still-expire d (paced-happen (Read offsets.DATA) p.chip c.self.invariant.still.paced)
        (unmoved-read offsets.DATA p.chip c.self.invariant.still.unmoved) in
        rw chip still.paced,
    let p : PortState = record { chip = c.self.inside.chip; told = c.self.inside.told } in
        let last : reads_last p ≡ true =
        ap (λ (q : PortState). reads_last q) c.self.view_is ∙ (sym c.reads_last.ensures ∙ c.if-not-reads_last.false) in
        let d : ChipState = after_read offsets.DATA p.chip in
        let chip : c.expire_timeout.new.self ≡ expire d =
        c.expire_timeout.ensures ∙ ap (λ (x : ChipState). expire x) c.read_data-value.ensures.after in
        let up : c.is_interrupting-level.result ≡ is_up d =
        c.is_interrupting-level.ensures.pending ∙ ap (λ (x : ChipState). is_up x) c.read_data-value.ensures.after in
        up ∙ (level_last p last ∙ ap (λ (x : ChipState). is_up x) (sym chip)),
  ),
)

pub invariant_of-self : goal.invariant_of-self
invariant_of-self g c =
    let p : PortState = record { chip = c.self.inside.chip; told = c.self.inside.told } in
    let last : reads_last p ≡ true =
    ap (λ (q : PortState). reads_last q) c.self.view_is ∙ (sym c.reads_last.ensures ∙ c.if-not-reads_last.false) in
    let d : ChipState = after_read offsets.DATA p.chip in
    let chip : c.expire_timeout.new.self ≡ expire d =
    c.expire_timeout.ensures ∙ ap (λ (x : ChipState). expire x) c.read_data-value.ensures.after in
    let up : c.is_interrupting-level.result ≡ is_up d =
    c.is_interrupting-level.ensures.pending ∙ ap (λ (x : ChipState). is_up x) c.read_data-value.ensures.after in
    let still : IsStill (expire d) =
    still-expire d (paced-happen (Read offsets.DATA) p.chip c.self.invariant.still.paced)
    (unmoved-read offsets.DATA p.chip c.self.invariant.still.unmoved) in
    record { told = c.decide_at-todo.ensures.holds; still = rw chip still }

pub returns-clause-read : goal.returns-clause-read
returns-clause-read g c = λ _.
    let p : PortState = record { chip = c.self.inside.chip; told = c.self.inside.told } in
    let last : reads_last p ≡ true =
    ap (λ (q : PortState). reads_last q) c.self.view_is ∙ (sym c.reads_last.ensures ∙ c.if-not-reads_last.false) in
    let d : ChipState = after_read offsets.DATA p.chip in
    let chip : c.expire_timeout.new.self ≡ expire d =
    c.expire_timeout.ensures ∙ ap (λ (x : ChipState). expire x) c.read_data-value.ensures.after in
    let up : c.is_interrupting-level.result ≡ is_up d =
    c.is_interrupting-level.ensures.pending ∙ ap (λ (x : ChipState). is_up x) c.read_data-value.ensures.after in
    let w : IsLive (fifo_size g.row.FIFO) (expire d) = live-expire _ (live-read offsets.DATA p.chip c.read_data-value.ensures.live) in
    did_read_last p c.expire_timeout.new.self c.decide_at-todo.new.told c.is_interrupting-level.result w c.self.invariant chip up
    (c.decide_at-todo.ensures.told ∙
    ap (λ (kind : Kind). tell kind c.is_interrupting-level.result c.expire_timeout.new.self p.told) c.kind_of_read-kind.ensures) ∙
    ap (λ (q : PortState). after (Read offsets.DATA) q) c.self.view_is

pub returns-clause-todo : goal.returns-clause-todo
returns-clause-todo g c = λ it same.
    let p : PortState = record { chip = c.self.inside.chip; told = c.self.inside.told } in
    let last : reads_last p ≡ true =
    ap (λ (q : PortState). reads_last q) c.self.view_is ∙ (sym c.reads_last.ensures ∙ c.if-not-reads_last.false) in
    let d : ChipState = after_read offsets.DATA p.chip in
    let chip : c.expire_timeout.new.self ≡ expire d =
    c.expire_timeout.ensures ∙ ap (λ (x : ChipState). expire x) c.read_data-value.ensures.after in
    let up : c.is_interrupting-level.result ≡ is_up d =
    c.is_interrupting-level.ensures.pending ∙ ap (λ (x : ChipState). is_up x) c.read_data-value.ensures.after in
    let w : IsLive (fifo_size g.row.FIFO) (expire d) = live-expire _ (live-read offsets.DATA p.chip c.read_data-value.ensures.live) in
    ap (λ (answer : Answer). answer.todo) (sym (same_answer (record {
      value = c.read_data-value.result;
      todo = c.decide_at-todo.result;
    }) it same)) ∙
    (c.decide_at-todo.ensures.todo ∙
    (ap (λ (kind : Kind). todo_of kind c.is_interrupting-level.result c.expire_timeout.new.self p.told) c.kind_of_read-kind.ensures ∙
    (last_todo p c.expire_timeout.new.self c.is_interrupting-level.result w c.self.invariant chip up ∙
    ap (λ (q : PortState). todo (Read offsets.DATA) q) c.self.view_is)))

-- a port takes no more memory than there can be, and its chip less than the port
pub read_data-value-requires : goal.read_data-value-requires
read_data-value-requires g c = within_port _ 9223372036854775808 (assumption c)

pub is_interrupting-level-requires : goal.is_interrupting-level-requires
is_interrupting-level-requires g c = within_port _ 9223372036854775808 (assumption c)

pub expire_timeout-requires : goal.expire_timeout-requires
expire_timeout-requires g c = within_port _ 9223372036854775808 (assumption c)
