use Rattle.std.proofs.Common.{◌≡◌, replicate}
use Rattle.uart_events.specs.declared.event.ArrivalMark.TheVariants.{Pending}
use Rattle.uart_chip.proofs.journal.Marks.new.Given as goal

abbrev pub invariant-loop : goal.invariant-loop
invariant-loop l = l.list.items ≡ replicate l.counter Pending
