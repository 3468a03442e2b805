use Rattle.uart_run.proofs.Names.{refl}
use Rattle.uart_run.proofs.ReadyTicks.{ready_ticks}
use Rattle.uart_run.proofs.laws.idle_keeps_ready.Goals as goal

pub returns : goal.returns
returns c n machine = ready_ticks n machine _ refl
