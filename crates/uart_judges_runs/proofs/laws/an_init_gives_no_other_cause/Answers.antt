use Rattle.uart_judges_runs.proofs.Initialised.{eight_fit, initialised_gives}
use Rattle.uart_judges_runs.proofs.laws.an_init_gives_no_other_cause.Goals as goal

pub returns : goal.returns
returns c = record {
  given = λ causes config calls state is stored set asks. initialised_gives causes config calls state is stored set asks;
  eight = λ config byte eight few. eight_fit config byte eight few;
}
