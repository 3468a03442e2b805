use Rattle.uart_live.proofs.Journals.{none_set}
use Rattle.uart_live.proofs.fixed.NoMarksJournal.set_mark.Goals as goal

pub returns : goal.returns
returns c = none_set c.args._origin c.args._mark
