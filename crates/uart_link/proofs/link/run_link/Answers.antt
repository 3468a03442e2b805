use Rattle.uart_link.proofs.Names.{arith, run_nothing, run_step, LinkCallStep}
use Rattle.uart_link.proofs.LinkSounds.{ran_link}
use Rattle.uart_link.proofs.link.run_link.Goals as goal

pub loop-i-init : goal.loop-i-init
loop-i-init c = run_nothing LinkCallStep _

pub loop-i-preserved : goal.loop-i-preserved
loop-i-preserved c =
    run_step LinkCallStep _ _ (omega arith) (omega arith) c.index-calls-i.is c.loop-i.invariant c.make_link_call.ensures

pub returns : goal.returns
returns c =
    let left = rw (c.backend.ensures, c.inner.ensures) at c.arrivals-left.ensures.whole in
    let right = rw (c.backend-2.ensures, c.inner-2.ensures) at c.arrivals-right.ensures.whole in
    let wired_left = rw (c.backend.ensures, c.inner.ensures) at c.arrivals-left.ensures.wired in
    let wired_right = rw (c.backend-2.ensures, c.inner-2.ensures) at c.arrivals-right.ensures.wired in
    ran_link _ _ _ _ c.loop-i.i (omega arith) (omega arith) left.sound right.sound wired_left wired_right c.loop-i.invariant
