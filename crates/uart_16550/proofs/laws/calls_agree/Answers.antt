use Rattle.uart_16550.specs.DriverCalls.{SavingLists}
use Rattle.uart_16550.proofs.determined.Calls.{saving_leaves_no_choice, changing_leaves_no_choice}
use Rattle.uart_16550.proofs.determined.Backends.{agree, agree_saving}
use Rattle.uart_16550.proofs.laws.calls_agree.Goals as goal

pub returns : goal.returns
returns g c = record {
  saving = λ call. agree_saving (SavingLists call) (saving_leaves_no_choice call);
  changing = λ call. agree (changing_leaves_no_choice call);
}
