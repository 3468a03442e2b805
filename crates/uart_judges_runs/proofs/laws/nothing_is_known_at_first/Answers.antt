use Rattle.uart_judges_runs.proofs.Unfounded.{known_at_first, known_for_at_first}
use Rattle.uart_judges_runs.proofs.laws.nothing_is_known_at_first.Goals as goal

pub returns : goal.returns
returns c = record {
  taken = λ fifo. known_at_first fifo;
  causes = λ causes line. known_for_at_first causes line;
}
