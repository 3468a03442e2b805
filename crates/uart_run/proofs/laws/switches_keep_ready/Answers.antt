use Rattle.uart_run.proofs.Switched.{switch_rts, switch_dtr, switch_break}
use Rattle.uart_run.proofs.laws.switches_keep_ready.Goals as goal

pub returns : goal.returns
returns c = record { rts = switch_rts; dtr = switch_dtr; set_break = switch_break }
