use Rattle.std.proofs.Common.{◌≡◌, ◌∙◌, ℕ, Bool, true, false, refl, ap, sym, if◌then◌else◌}
use Rattle.uart_chip.specs.Chip.{ChipState, arrive_live}
use Rattle.uart_live.proofs.Sizes.{bytes_fit, characters_fit}
use Rattle.uart_live.specs.Held.{is_due, expire, arrive_holding}
use Rattle.uart_live.proofs.Lives.{live-expire}
use Rattle.uart_live.proofs.live.LiveChipWith.arrive_holding_timeout.Goals as goal

-- the queues take no more memory than there can be
pub is_timed_out-is_due-requires-room-B-Fifo : goal.is_timed_out-is_due-requires-room-B-Fifo
is_timed_out-is_due-requires-room-B-Fifo g c κs = bytes_fit g.row.FIFO c.self.invariant.0

pub is_timed_out-is_due-requires-room-C-Fifo : goal.is_timed_out-is_due-requires-room-C-Fifo
is_timed_out-is_due-requires-room-C-Fifo g c κs = characters_fit g.row.FIFO c.self.invariant.0

pub expire_timeout-requires-room-B-Fifo : goal.expire_timeout-requires-room-B-Fifo
expire_timeout-requires-room-B-Fifo g c κs = bytes_fit g.row.FIFO c.self.invariant.0

pub expire_timeout-requires-room-C-Fifo : goal.expire_timeout-requires-room-C-Fifo
expire_timeout-requires-room-C-Fifo g c κs = characters_fit g.row.FIFO c.self.invariant.0

pub invariant_of-self : goal.invariant_of-self
invariant_of-self g c = (c.self-2.invariant.0, rw c.expire_timeout.ensures (live-expire _ c.self-2.invariant.1))

pub returns-then-is_due-clause-accepted : goal.returns-then-is_due-clause-accepted
returns-then-is_due-clause-accepted g c = λ within.
    let old : ChipState = c.args.self.now in
    let due : is_due old ≡ true =
    sym (ap (λ (x : ChipState). is_due x) c.self.view_is) ∙ (sym c.is_timed_out-is_due.ensures ∙ c.if-is_due.true) in
    let later : ChipState = arrive_live c.args.byte c.args.errors.0 old in
    let held : arrive_holding c.args.byte c.args.errors.0 old ≡ expire later =
    ap (λ (b : Bool). if b then expire later else later) due in (
      refl,
      c.expire_timeout.ensures ∙
          (ap (λ (x : ChipState). expire x) (c.self-2.view_is ∙ (c.arrive.ensures.accepted within).1) ∙ sym held),
    )

pub returns-then-is_due-clause-refused : goal.returns-then-is_due-clause-refused
returns-then-is_due-clause-refused g c = λ other.
    let no = sym c.in_ok-arrive.was ∙ (c.arrive.ensures.refused other).0 in absurd (cc)

pub returns-else-is_due-clause-accepted : goal.returns-else-is_due-clause-accepted
returns-else-is_due-clause-accepted g c = λ within.
    let old : ChipState = c.args.self.now in
    let due : is_due old ≡ false =
    sym (ap (λ (x : ChipState). is_due x) c.self.view_is) ∙ (sym c.is_timed_out-is_due.ensures ∙ c.if-is_due.false) in
    let later : ChipState = arrive_live c.args.byte c.args.errors.0 old in
    let held : arrive_holding c.args.byte c.args.errors.0 old ≡ later =
    ap (λ (b : Bool). if b then expire later else later) due in
    (refl, (c.arrive.ensures.accepted within).1 ∙ sym held)
