use Rattle.std.proofs.Common.{arith, ◌∷◌}
use Rattle.std.proofs.lemmas.Grind.{common_steps}
use Rattle.uart_trace.proofs.Traces.{adds_line}
use Rattle.uart_trace.proofs.lines.push_answer.Goals as goal

pub returns : goal.returns
returns c = adds_line _ _ (61 ∷ 32 ∷ c.args.answer.now) c.requires (grind (arith, common_steps))
