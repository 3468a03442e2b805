use Rattle.std.specs.List.{FoldsTo}
use Rattle.uart_16550.specs.Grammar.{Times}
use Rattle.uart_16550.specs.Transmit.{SendMiss}
use Rattle.uart_16550.specs.Patience.{keeps_waiting}
use Rattle.uart_16550.specs.Driver.{Made}
use Rattle.uart_16550.proofs.driver.Uart16550.wait_to_send_while.Given as goal

abbrev pub invariant-loop-turn : goal.invariant-loop-turn
invariant-loop-turn g l = record {
  asked : FoldsTo g.P.Patience.answers l.fn.patience (keeps_waiting l._turn) l.patience;
  made : Made g.B.Backend.step (Times l._turn SendMiss) l.fn.self l.self;
}
