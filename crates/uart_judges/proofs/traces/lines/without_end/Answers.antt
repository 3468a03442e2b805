use Rattle.uart_judges.proofs.Ends.{ends_here, ends_before, ends_empty}
use Rattle.uart_judges.proofs.traces.lines.without_end.Goals as goal

pub returns-then-last-ne32 : goal.returns-then-last-ne32
returns-then-last-ne32 c = ends_here _ _ _ _ c.in-Some.ensures.cases.0 c.if-last-ne32.true c.loop-last.invariant

pub loop-last-preserved : goal.loop-last-preserved
loop-last-preserved c = ends_before _ _ _ _ c.in-Some.ensures.cases.0 c.if-last-ne32.false c.loop-last.invariant

pub returns : goal.returns
returns c = ends_empty _ _ c.in_default.ensures.cases c.loop-last.invariant
