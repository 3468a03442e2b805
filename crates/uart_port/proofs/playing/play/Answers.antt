use Rattle.std.proofs.Common.{◌≡◌, rules, arith, None}
use Rattle.uart_port.specs.Playing.{fault_in}
use Rattle.uart_port.proofs.Plays.{nothing_begun, begun_more, stopped, whole, none_mapped}
use Rattle.uart_port.proofs.playing.play.Goals as goal

pub loop-i-init : goal.loop-i-init
loop-i-init g c = nothing_begun _ _ _

pub loop-i-preserved : goal.loop-i-preserved
loop-i-preserved g c =
    let fault = rw (c.access.ensures, c.backend.ensures, c.inner.ensures) at c.fault.ensures in
    let clear : fault_in c.perform-answer.new.uart ≡ None = rw (← fault) (none_mapped _ c.fault.result (search rules)) in
    begun_more g.F.PortFile.step _ _ _ c.args.calls.now c.loop-i.i _ c.perform-answer.result _ _ _ (omega arith) c.index-calls-i.is
    (rw (← c.call.ensures.writer) at c.loop-i.invariant) c.perform-answer.ensures clear c.in_ok-answer.ensures.printed

pub returns-then-is_some : goal.returns-then-is_some
returns-then-is_some g c =
    let fault = rw (c.access.ensures, c.backend.ensures, c.inner.ensures) at c.fault.ensures in
    stopped g.F.PortFile.step _ _ _ c.args.calls.now c.loop-i.i _ c.perform-answer.result _ _ (omega arith) c.index-calls-i.is
    (rw (← c.call.ensures.writer) at c.loop-i.invariant) c.perform-answer.ensures (rw (← fault) (search rules))

pub returns : goal.returns
returns g c = whole g.F.PortFile.step _ _ c.args.calls.now c.loop-i.i _ _ (omega arith) c.loop-i.invariant
