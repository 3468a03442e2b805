use Rattle.std.proofs.Common.{◌≡◌, ◌∙◌, ap, sym, true}
use Rattle.uart_spec.specs.declared.registers.offsets.TheConstants as offsets
use Rattle.uart_chip.specs.Chip.{ChipState, after_read}
use Rattle.uart_live.proofs.Lives.{live-expire, live-read}
use Rattle.uart_live.specs.Held.{expire}
use Rattle.uart_live.specs.Live.{IsLive}
use Rattle.uart_live.specs.Size.{fifo_size}
use Rattle.uart_virtual.specs.Port.{PortState, Read, after, todo, is_up, reads_more}
use Rattle.uart_virtual.specs.declared.port.Answer.{Answer}
use Rattle.uart_virtual.proofs.Inputs.{did_read_last, last_todo, same_answer}
use Rattle.uart_virtual.proofs.More.{LeavesMore, leaves_more, more_parts}
use Rattle.uart_virtual.proofs.Sizes.{within_port}
use Rattle.uart_virtual.proofs.port.VirtualPortWith.read_more.Goals as goal

pub tell_more-todo-requires : goal.tell_more-todo-requires
tell_more-todo-requires g c = (
  within_port _ 9223372036854775808 (assumption c),
  (
    let p : PortState = record { chip = c.self.inside.chip; told = c.self.inside.told } in
        let more : reads_more p ≡ true =
        ap (λ (q : PortState). reads_more q) c.self.view_is ∙ (sym c.reads_more.ensures ∙ c.if-not-reads_more.false) in
        let chip : c.expire_timeout.new.self ≡ expire (after_read offsets.DATA p.chip) =
        c.expire_timeout.ensures ∙ ap (λ (x : ChipState). expire x) c.read_data-value.ensures.after in
        rw chip (leaves_more p c.self.invariant (more_parts p more)).still.paced,
    (
      let p : PortState = record { chip = c.self.inside.chip; told = c.self.inside.told } in
          let more : reads_more p ≡ true =
          ap (λ (q : PortState). reads_more q) c.self.view_is ∙ (sym c.reads_more.ensures ∙ c.if-not-reads_more.false) in
          let chip : c.expire_timeout.new.self ≡ expire (after_read offsets.DATA p.chip) =
          c.expire_timeout.ensures ∙ ap (λ (x : ChipState). expire x) c.read_data-value.ensures.after in
          rw chip (leaves_more p c.self.invariant (more_parts p more)).told,
      let p : PortState = record { chip = c.self.inside.chip; told = c.self.inside.told } in
          let more : reads_more p ≡ true =
          ap (λ (q : PortState). reads_more q) c.self.view_is ∙ (sym c.reads_more.ensures ∙ c.if-not-reads_more.false) in
          let chip : c.expire_timeout.new.self ≡ expire (after_read offsets.DATA p.chip) =
          c.expire_timeout.ensures ∙ ap (λ (x : ChipState). expire x) c.read_data-value.ensures.after in
          rw chip (leaves_more p c.self.invariant (more_parts p more)).up,
    ),
  ),
)

pub invariant_of-self : goal.invariant_of-self
invariant_of-self g c =
    let p : PortState = record { chip = c.self.inside.chip; told = c.self.inside.told } in
    let more : reads_more p ≡ true =
    ap (λ (q : PortState). reads_more q) c.self.view_is ∙ (sym c.reads_more.ensures ∙ c.if-not-reads_more.false) in
    let chip : c.expire_timeout.new.self ≡ expire (after_read offsets.DATA p.chip) =
    c.expire_timeout.ensures ∙ ap (λ (x : ChipState). expire x) c.read_data-value.ensures.after in
    let left : LeavesMore p = leaves_more p c.self.invariant (more_parts p more) in
    record { told = c.tell_more-todo.ensures.holds; still = rw chip left.still }

pub returns-clause-read : goal.returns-clause-read
returns-clause-read g c = λ _.
    let p : PortState = record { chip = c.self.inside.chip; told = c.self.inside.told } in
    let d : ChipState = after_read offsets.DATA p.chip in
    let chip : c.expire_timeout.new.self ≡ expire d =
    c.expire_timeout.ensures ∙ ap (λ (x : ChipState). expire x) c.read_data-value.ensures.after in
    let up : c.is_interrupting-was_up.result ≡ is_up d =
    c.is_interrupting-was_up.ensures.pending ∙ ap (λ (x : ChipState). is_up x) c.read_data-value.ensures.after in
    let w : IsLive (fifo_size g.row.FIFO) (expire d) = live-expire _ (live-read offsets.DATA p.chip c.read_data-value.ensures.live) in
    did_read_last p c.expire_timeout.new.self c.tell_more-todo.new.told c.is_interrupting-was_up.result w c.self.invariant chip up
    c.tell_more-todo.ensures.told ∙
    ap (λ (q : PortState). after (Read offsets.DATA) q) c.self.view_is

pub returns-clause-todo : goal.returns-clause-todo
returns-clause-todo g c = λ it same.
    let p : PortState = record { chip = c.self.inside.chip; told = c.self.inside.told } in
    let d : ChipState = after_read offsets.DATA p.chip in
    let chip : c.expire_timeout.new.self ≡ expire d =
    c.expire_timeout.ensures ∙ ap (λ (x : ChipState). expire x) c.read_data-value.ensures.after in
    let up : c.is_interrupting-was_up.result ≡ is_up d =
    c.is_interrupting-was_up.ensures.pending ∙ ap (λ (x : ChipState). is_up x) c.read_data-value.ensures.after in
    let w : IsLive (fifo_size g.row.FIFO) (expire d) = live-expire _ (live-read offsets.DATA p.chip c.read_data-value.ensures.live) in
    ap (λ (answer : Answer). answer.todo) (sym (same_answer (record {
      value = c.read_data-value.result;
      todo = c.tell_more-todo.result;
    }) it same)) ∙
    (c.tell_more-todo.ensures.todo ∙
    (last_todo p c.expire_timeout.new.self c.is_interrupting-was_up.result w c.self.invariant chip up ∙
    ap (λ (q : PortState). todo (Read offsets.DATA) q) c.self.view_is))

-- a port takes no more memory than there can be, and its chip less than the port
pub read_data-value-requires : goal.read_data-value-requires
read_data-value-requires g c = within_port _ 9223372036854775808 (assumption c)

pub is_interrupting-was_up-requires : goal.is_interrupting-was_up-requires
is_interrupting-was_up-requires g c = within_port _ 9223372036854775808 (assumption c)

pub expire_timeout-requires : goal.expire_timeout-requires
expire_timeout-requires g c = within_port _ 9223372036854775808 (assumption c)
