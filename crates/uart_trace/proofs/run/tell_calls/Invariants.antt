use Rattle.std.proofs.Common.{take}
use Rattle.uart_trace.specs.Told.{TellsInTurn}
use Rattle.uart_trace.proofs.run.tell_calls.Given as goal

abbrev pub invariant-loop-i : goal.invariant-loop-i
invariant-loop-i g l = TellsInTurn g.L.Listener.begins g.L.Listener.hears g.L.Listener.ends l.fn.uart (take l.i l.calls) l.uart
