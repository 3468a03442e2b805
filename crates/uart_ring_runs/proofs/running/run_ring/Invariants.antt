use Rattle.uart_ring_runs.proofs.Names.{take, RunOf, RingCallStep}
use Rattle.uart_ring_runs.proofs.running.run_ring.Given as goal

abbrev pub invariant-loop-i : goal.invariant-loop-i
invariant-loop-i l = RunOf RingCallStep l.fn.ring (take l.i l.calls) (take l.i l.answers) l.ring
