use Rattle.uart_judges.proofs.Shown.{identified_is}
use Rattle.uart_judges.proofs.audit.shows.identified.Goals as goal

pub returns : goal.returns
returns c = identified_is c.args.isr _ c.interrupt_type.ensures
