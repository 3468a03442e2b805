use Rattle.uart_run.proofs.Names.{take, IsRun}
use Rattle.uart_run.proofs.running.run.Given as goal

abbrev pub invariant-loop-i : goal.invariant-loop-i
invariant-loop-i l = IsRun l.fn.uart (take l.i l.calls) (take l.i l.answers) l.uart
