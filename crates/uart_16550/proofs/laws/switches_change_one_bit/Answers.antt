use Rattle.uart_16550.proofs.Switching.{changes_rts, changes_dtr, changes_break}
use Rattle.uart_16550.proofs.laws.switches_change_one_bit.Goals as goal

pub returns : goal.returns
returns c = record { rts = changes_rts; dtr = changes_dtr; set_break = changes_break }
