use Rattle.std.proofs.Common.{◌≡◌, ◌++◌, take}
use Rattle.uart_language.specs.Output.{answer_lines}
use Rattle.uart_language.proofs.rendering.push_answers.Given as goal

abbrev pub invariant-loop-answer : goal.invariant-loop-answer
invariant-loop-answer l = l.out.items ≡ l.fn.out.items ++ answer_lines (take l.answer-index l.answers)
