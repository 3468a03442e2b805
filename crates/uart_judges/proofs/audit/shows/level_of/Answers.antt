use Rattle.std.proofs.Common.{refl}
use Rattle.uart_judges.proofs.Shown.{level_is}
use Rattle.uart_judges.proofs.audit.shows.level_of.Goals as goal

pub returns : goal.returns
returns c = level_is _ _ ((c.fifo_trigger_level.ensures c.fifo_trigger_level.result).0 refl)
