use Rattle.std.proofs.Common.{◌≡◌, true, false, rules, tests}
use Rattle.std.specs.Prelude.{bytes_eq, codes}
use Rattle.uart_trace.proofs.Traces.{begins_next, begins_other, from_none}
use Rattle.uart_trace.proofs.lines.begin_text.Goals as goal

pub returns-then-eq : goal.returns-then-eq
returns-then-eq c =
    let is : bytes_eq c.args.line.now (codes "next") ≡ true = search (rules, tests) in
    from_none c.new-text.result.items _ _ c.new-text.ensures.items (begins_next _ _ c.args.line.now is c.in_ok-push_remark.ensures)

pub returns : goal.returns
returns c =
    let other : bytes_eq c.args.line.now (codes "next") ≡ false = search (rules, tests) in
    from_none c.new-text.result.items _ _ c.new-text.ensures.items (begins_other _ _ c.args.line.now other c.in_ok-push_line.ensures)
