use Rattle.std.proofs.Common.{rules, ◌≡◌, ◌∙◌, ℕ, None, ap, refl}
use Rattle.uart_chip.specs.Chip.{fresh, with_size}
use Rattle.uart_live.specs.Refused.{refusal}
use Rattle.uart_live.specs.Size.{fifo_size}
use Rattle.uart_live.proofs.Lives.{live-fresh, passes, sized, few_ticks}
use Rattle.uart_live.proofs.Sizes.{size_bound, bytes_fit, characters_fit}
use Rattle.uart_live.proofs.live.LiveChipWith.new.Goals as goal

pub returns-clause-built : goal.returns-clause-built
returns-clause-built g c =
    c.with_parts-uart.ensures 0 refl ∙
    ap (λ (n : ℕ). with_size (fifo_size g.row.FIFO) (fresh c.args.chip c.args.char_ticks n 0)) c.new-2.ensures.capacity

pub invariant_of-result : goal.invariant_of-result
invariant_of-result g c =
    let none : refusal g.row.FIFO c.args.char_ticks c.args.wire_capacity ≡ None = search rules in (
      size_bound g.row.FIFO (sized g.row.FIFO c.args.char_ticks c.args.wire_capacity none),
      rw (c.with_parts-uart.ensures 0 refl, c.new-2.ensures.capacity)
          (live-fresh c.args.chip (fifo_size g.row.FIFO) c.args.char_ticks c.args.wire_capacity
          (passes g.row.FIFO c.args.char_ticks c.args.wire_capacity none)),
    )

-- the queues take no more memory than there can be
pub with_parts-uart-requires-room-B-Fifo : goal.with_parts-uart-requires-room-B-Fifo
with_parts-uart-requires-room-B-Fifo g c κs =
    bytes_fit g.row.FIFO (size_bound g.row.FIFO (sized g.row.FIFO c.args.char_ticks c.args.wire_capacity (search rules)))

pub with_parts-uart-requires-room-C-Fifo : goal.with_parts-uart-requires-room-C-Fifo
with_parts-uart-requires-room-C-Fifo g c κs =
    characters_fit g.row.FIFO (size_bound g.row.FIFO (sized g.row.FIFO c.args.char_ticks c.args.wire_capacity (search rules)))

-- memory, and a FIFO of a size
pub new-requires : goal.new-requires
new-requires g c =
    let none : refusal g.row.FIFO c.args.char_ticks c.args.wire_capacity ≡ None = search rules in
    let fifo = sized g.row.FIFO c.args.char_ticks c.args.wire_capacity none in
    (bytes_fit g.row.FIFO (size_bound g.row.FIFO fifo), fifo)

pub new-requires-3 : goal.new-requires-3
new-requires-3 g c =
    let none : refusal g.row.FIFO c.args.char_ticks c.args.wire_capacity ≡ None = search rules in
    let fifo = sized g.row.FIFO c.args.char_ticks c.args.wire_capacity none in
    (characters_fit g.row.FIFO (size_bound g.row.FIFO fifo), fifo)

pub with_parts-uart-requires-clause-char_ticks : goal.with_parts-uart-requires-clause-char_ticks
with_parts-uart-requires-clause-char_ticks g c =
    let none : refusal g.row.FIFO c.args.char_ticks c.args.wire_capacity ≡ None = search rules in
    few_ticks g.row.FIFO c.args.char_ticks c.args.wire_capacity none
