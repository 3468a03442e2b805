use Rattle.std.proofs.Common.{rules}
use Rattle.uart_judges.proofs.Printed.{nothing, strays}
use Rattle.uart_judges.proofs.findings.verifying.stray_line.Goals as goal

pub returns-in-None : goal.returns-in-None
returns-in-None c =
    nothing _ _ _ _ _ c.in_ok-trace.ensures.read (rw c.deref.ensures.value at c.in_ok-judge.ensures.calls) c.in-None.is
    c.new.ensures.items

pub returns : goal.returns
returns c =
    strays _ _ _ _ _ _ c.in_ok-trace.ensures.read (rw c.deref.ensures.value at c.in_ok-judge.ensures.first) c.in-Some.is
    (search (rules, c.in_ok-push_stray-in-Some.ensures, c.in_ok-push-in-Some.ensures.items, c.new-line.ensures.items))
