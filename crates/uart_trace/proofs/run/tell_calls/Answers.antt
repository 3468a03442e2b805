use Rattle.std.proofs.Common.{arith}
use Rattle.uart_trace.proofs.Telling.{tells_all, tells_more, tells_nothing}
use Rattle.uart_trace.proofs.run.tell_calls.Goals as goal

pub loop-i-init : goal.loop-i-init
loop-i-init g c = tells_nothing g.L.Listener.begins g.L.Listener.hears g.L.Listener.ends _

pub loop-i-preserved : goal.loop-i-preserved
loop-i-preserved g c =
    tells_more g.L.Listener.begins g.L.Listener.hears g.L.Listener.ends _ _ _ c.args.calls.now _ _ (omega arith) c.index-calls-i.is
    c.loop-i.invariant c.tell_call.ensures

pub returns : goal.returns
returns g c =
    tells_all g.L.Listener.begins g.L.Listener.hears g.L.Listener.ends _ _ c.args.calls.now c.loop-i.i (omega arith) c.loop-i.invariant
