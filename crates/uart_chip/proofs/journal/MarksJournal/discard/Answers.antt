use Rattle.std.proofs.Common.{rules, ◌≡◌, ◌+◌, suc, Some, slice_get, drop, ap, ◌∙◌, arith}
use Rattle.uart_chip.specs.Receiver.{discard, set_mark}
use Rattle.uart_events.specs.declared.event.ArrivalMark.TheVariants.{Discarded}
use Rattle.uart_chip.proofs.Errors.{discard_next}
use Rattle.uart_chip.proofs.journal.MarksJournal.discard.Goals as goal

pub loop-i-preserved : goal.loop-i-preserved
loop-i-preserved g c =
    let xs = g.Q.Fifo.items c.args.characters.now in
    let i = c.loop-i.i in
    let here : Some c.unwrap-origin.result ≡ slice_get xs i = search rules in
    let next : i + 1 ≡ suc i = omega arith in
    record {
      told =
          ap (λ ms. discard (drop (i + 1) xs) ms) c.set_mark.ensures ∙
          (ap (λ k. discard (drop k xs) (set_mark c.unwrap-origin.result.origin Discarded c.loop-i.self)) next ∙
          (discard_next i xs c.unwrap-origin.result c.loop-i.self here ∙ c.loop-i.invariant.told));
      end = search rules;
    }
