use Rattle.std.specs.List.{FoldsTo}
use Rattle.uart_16550.specs.Grammar.{Times}
use Rattle.uart_16550.specs.Receive.{Miss}
use Rattle.uart_16550.specs.Patience.{keeps_waiting}
use Rattle.uart_16550.specs.Driver.{Made}
use Rattle.uart_16550.proofs.driver.Uart16550.receive_one_while.Given as goal

abbrev pub invariant-loop-poll : goal.invariant-loop-poll
invariant-loop-poll g l = record {
  asked : FoldsTo g.P.Patience.answers l.fn.caller (keeps_waiting l._poll) l.caller;
  made : Made g.B.Backend.step (Times l._poll Miss) l.fn.self l.self;
}
