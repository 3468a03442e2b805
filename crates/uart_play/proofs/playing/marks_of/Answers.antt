use Rattle.std.proofs.Common.{rules, tests, ◌≡◌, List, length, IfOk, arith, subst, slice_get}
use Rattle.std.proofs.lemmas.Iterator.{YieldsList-from_range, items_from_collect}
use Rattle.std.proofs.lemmas.Iterator.Consumers.{YieldsList-from_filter_map}
use Rattle.uart_events.specs.declared.event.ArrivalMark.{ArrivalMark}
use Rattle.uart_play.proofs.Picked.{picks_all}
use Rattle.uart_play.proofs.playing.marks_of.Goals as goal

pub returns : goal.returns
returns c =
    let xs = c.args.machine.now.chip.receiver.marks in
    subst (λ (all : List ArrivalMark). IfOk c.collect.result (λ items. items.items ≡ all)) (picks_all xs)
    (items_from_collect _ c.collect.ensures.ran (YieldsList-from_filter_map _ (slice_get xs)
    (YieldsList-from_range 0 c.arrivals.result (length xs) (cc) (omega (arith, c.arrivals.ensures)))
    c.filter_map.ensures.closure (λ x r q k. search (rules, tests))))
