use Rattle.uart_link.proofs.Names.{take, RunOf, LinkCallStep}
use Rattle.uart_link.proofs.link.run_link.Given as goal

abbrev pub invariant-loop-i : goal.invariant-loop-i
invariant-loop-i l = RunOf LinkCallStep l.fn.link (take l.i l.calls) (take l.i l.answers) l.link
