use Rattle.uart_live.proofs.Holds.{only_interrupts}
use Rattle.uart_live.proofs.laws.only_interrupts_show_holding.Goals as goal

pub returns : goal.returns
returns c = only_interrupts
