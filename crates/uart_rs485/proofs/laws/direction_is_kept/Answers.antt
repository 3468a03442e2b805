use Rattle.uart_rs485.proofs.Keeping.{calls_keep, keeps_from_new}
use Rattle.uart_rs485.proofs.laws.direction_is_kept.Goals as goal

pub returns : goal.returns
returns c = record { from_new = keeps_from_new; calls = calls_keep }
