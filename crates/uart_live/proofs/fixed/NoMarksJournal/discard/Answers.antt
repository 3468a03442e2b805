use Rattle.uart_live.proofs.Journals.{none_discarded}
use Rattle.uart_live.proofs.fixed.NoMarksJournal.discard.Goals as goal

pub returns : goal.returns
returns g c = none_discarded (g.Q.Fifo.items c.args._characters.now)
