use Rattle.std.proofs.Common.{◌∙◌, arith}
use Rattle.uart_language.proofs.Pieces.{appends_more, none_failed, take_left}
use Rattle.uart_language.proofs.streams.write_all.Goals as goal

pub loop-done-preserved : goal.loop-done-preserved
loop-done-preserved g c = (
  appends_more _ _ _ c.loop-done.done c.in-Ok.count c.args.bytes.now c.loop-done.invariant.0
      (rw (take_left c.loop-done.done c.in-Ok.count c.args.bytes.now) at c.in-Ok.ensures.bytes),
  none_failed _ _ _ c.in-Ok.count c.in-Ok.ensures.fault c.in-Ok.count-test.1 ∙ c.loop-done.invariant.1,
  omega (arith, c.in-Ok.ensures.bound),
)
