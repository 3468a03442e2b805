use Rattle.uart_run.proofs.Names.{arith, CallStep}
use Rattle.uart_run.proofs.{Chains.run_nothing, Chains.run_step, Chains.run_whole, Follows.ran, Uncuts.ran_uncut}
use Rattle.uart_run.proofs.running.run.Goals as goal

pub loop-i-init : goal.loop-i-init
loop-i-init c = run_nothing CallStep _

pub loop-i-preserved : goal.loop-i-preserved
loop-i-preserved c =
    run_step CallStep _ _ (omega arith) (omega arith) c.index-calls-i.is c.loop-i.invariant c.run_call.ensures

pub returns-clause-ran : goal.returns-clause-ran
returns-clause-ran c =
    let whole = rw (c.backend.ensures, c.inner.ensures) at c.fifo_enabled-fifo.ensures.whole in
    ran _ _ _ _ whole.sound (run_whole CallStep _ _ _ _ c.loop-i.i (omega arith) (omega arith) c.loop-i.invariant)

pub returns-clause-uncut : goal.returns-clause-uncut
returns-clause-uncut c =
    let whole = rw (c.backend.ensures, c.inner.ensures) at c.fifo_enabled-fifo.ensures.whole in
    ran_uncut _ _ _ _ whole.sound
    (ran _ _ _ _ whole.sound (run_whole CallStep _ _ _ _ c.loop-i.i (omega arith) (omega arith) c.loop-i.invariant))
