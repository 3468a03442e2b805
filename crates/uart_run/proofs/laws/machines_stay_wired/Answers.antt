use Rattle.uart_run.proofs.Names.{refl}
use Rattle.uart_run.proofs.Wired.{wired-ticks, wired_mark, wired_step}
use Rattle.uart_run.proofs.laws.machines_stay_wired.Goals as goal

pub returns : goal.returns
returns c = record {
  new = λ cuts chip char_ticks room events. refl;
  ticking = λ n machine wired. wired-ticks n machine.chip wired;
  marks = wired_mark;
  accesses = wired_step;
}
