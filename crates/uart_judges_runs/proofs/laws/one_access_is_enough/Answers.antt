use Rattle.uart_judges_runs.proofs.Lost.{begins_looked, begins_read, begins_written}
use Rattle.uart_judges_runs.proofs.laws.one_access_is_enough.Goals as goal

pub returns : goal.returns
returns c = record {
  read = λ old new e value model is step. begins_read old new e value model is step;
  written = λ old new e value model is step. begins_written old new e value model is step;
  looked = λ old new e value model closed is step. begins_looked old new e value model closed is step;
}
