use Rattle.std.proofs.Common.{arith}
use Rattle.std.proofs.lemmas.Grind.{common_steps}
use Rattle.uart_trace.proofs.Traces.{adds_line}
use Rattle.uart_trace.proofs.lines.push_line.Goals as goal

pub returns : goal.returns
returns c = adds_line _ _ c.args.line.now c.requires (grind (arith, common_steps))
