use Rattle.uart_ring_runs.proofs.Names.{arith, run_nothing, run_step, RingCallStep}
use Rattle.uart_ring_runs.proofs.RingSessions.{ran_ring}
use Rattle.uart_ring_runs.proofs.running.run_ring.Goals as goal

pub loop-i-init : goal.loop-i-init
loop-i-init c = run_nothing RingCallStep _

pub loop-i-preserved : goal.loop-i-preserved
loop-i-preserved c =
    run_step RingCallStep _ _ (omega arith) (omega arith) c.index-calls-i.is c.loop-i.invariant c.run_ring_call.ensures

pub returns : goal.returns
returns c =
    let whole = rw (c.backend.ensures, c.inner.ensures) at c.fifo_enabled-fifo.ensures.whole in
    ran_ring _ _ _ _ c.loop-i.i (omega arith) (omega arith) whole.sound c.loop-i.invariant
