use Rattle.std.proofs.Common.{◌≡◌, length}
use Rattle.uart_play.proofs.playing.empty_answers.Given as goal

abbrev pub invariant-loop-i : goal.invariant-loop-i
invariant-loop-i l = length l.answers.items ≡ l._i
