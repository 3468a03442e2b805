use Rattle.uart_virtual.proofs.Tells.{told_stays}
use Rattle.uart_virtual.proofs.laws.level_is_told.Goals as goal

pub returns-clause-stays : goal.returns-clause-stays
returns-clause-stays c = told_stays
