use Rattle.std.proofs.Common.{arith}
use Rattle.std.proofs.lemmas.Grind.{common_steps}
use Rattle.uart_trace.specs.Lines.{IsOneLine}
use Rattle.uart_trace.proofs.Traces.{adds_access, line_is_line}
use Rattle.uart_trace.proofs.lines.push_access_line.Goals as goal

pub returns : goal.returns
returns c =
    let remark : IsOneLine c.line_at.result.now = rw c.line_at.ensures (line_is_line c.args.remark.now 0) in
    adds_access _ _ c.args.access c.line_at.result.now remark (grind (arith, common_steps))
