use Rattle.std.proofs.Common.{◌≡◌, ◌++◌, take, map}
use Rattle.uart_language.specs.Output.{mark_letter}
use Rattle.uart_language.proofs.rendering.push_marks.Given as goal

abbrev pub invariant-loop-mark : goal.invariant-loop-mark
invariant-loop-mark l = l.out.items ≡ l.fn.out.items ++ map mark_letter (take l.mark-index l.marks)
