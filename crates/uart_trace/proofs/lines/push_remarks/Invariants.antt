use Rattle.std.proofs.Common.{◌≡◌, ◌++◌, map}
use Rattle.std.specs.List.{flat_map}
use Rattle.uart_trace.specs.Lines.{remark_line}
use Rattle.uart_trace.proofs.lines.push_remarks.Given as goal

abbrev pub invariant-loop-line : goal.invariant-loop-line
invariant-loop-line l = l.out.items ≡ l.fn.out.items ++ flat_map remark_line (map (λ line. line.now) l.yielded)
