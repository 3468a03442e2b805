use Rattle.uart_16550.specs.DriverCalls.{SavingLists}
use Rattle.uart_16550.proofs.determined.Calls.{saving_leaves_no_choice, changing_leaves_no_choice}
use Rattle.uart_16550.proofs.determined.Backends.{one_outcome, one_outcome_saving}
use Rattle.uart_16550.proofs.laws.calls_have_one_outcome.Goals as goal

pub returns : goal.returns
returns g c = record {
  saving = λ one call. one_outcome_saving (SavingLists call) (saving_leaves_no_choice call) one;
  changing = λ one call. one_outcome (changing_leaves_no_choice call) one;
}
