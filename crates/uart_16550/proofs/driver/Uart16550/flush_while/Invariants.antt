use Rattle.std.proofs.Common.{false}
use Rattle.std.specs.List.{FoldsTo}
use Rattle.uart_16550.specs.Grammar.{Times}
use Rattle.uart_16550.specs.Patience.{keeps_waiting, ShowsEmpty}
use Rattle.uart_16550.specs.Driver.{Made}
use Rattle.uart_16550.proofs.driver.Uart16550.flush_while.Given as goal

abbrev pub invariant-loop-poll : goal.invariant-loop-poll
invariant-loop-poll g l = record {
  asked : FoldsTo g.P.Patience.answers l.fn.patience (keeps_waiting l._poll) l.patience;
  made : Made g.B.Backend.step (Times l._poll (ShowsEmpty false)) l.fn.self l.self;
}
