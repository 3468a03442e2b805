use Rattle.std.proofs.Common.{rules, tests, ◌≡◌, List, ℕ, length, IfOk, arith, subst, slice_get}
use Rattle.std.proofs.lemmas.Iterator.{YieldsList-from_range, items_from_collect}
use Rattle.std.proofs.lemmas.Iterator.Consumers.{YieldsList-from_filter_map}
use Rattle.uart_chip.specs.Transmitter.{held}
use Rattle.uart_play.proofs.Picked.{picks_all}
use Rattle.uart_play.proofs.playing.held_of.Goals as goal

pub returns : goal.returns
returns c =
    let xs = (held c.args.machine.now.chip.transmitter) in
    subst (λ (all : List ℕ). IfOk c.collect.result (λ items. items.items ≡ all)) (picks_all xs)
    (items_from_collect _ c.collect.ensures.ran (YieldsList-from_filter_map _ (slice_get xs)
    (YieldsList-from_range 0 c.held_len.result (length xs) (cc) (omega (arith, c.held_len.ensures)))
    c.filter_map.ensures.closure (λ x r q k. search (rules, tests))))
