use Rattle.uart_latency.proofs.Quick.{behind_others}
use Rattle.uart_latency.proofs.laws.visits_behind_others_begin_late_by_them.Goals as goal

pub returns : goal.returns
returns c = behind_others
