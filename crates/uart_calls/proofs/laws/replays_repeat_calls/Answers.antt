use Rattle.uart_16550.specs.DriverCalls.{SavingLists}
use Rattle.uart_16550.proofs.determined.Calls.{saving_leaves_no_choice, changing_leaves_no_choice}
use Rattle.uart_calls.proofs.Repeats.{repeat, repeat_saving}
use Rattle.uart_calls.proofs.laws.replays_repeat_calls.Goals as goal

pub returns : goal.returns
returns g c = record {
  saving = λ call. repeat_saving (SavingLists call) (saving_leaves_no_choice call);
  changing = λ call. repeat (changing_leaves_no_choice call);
}
