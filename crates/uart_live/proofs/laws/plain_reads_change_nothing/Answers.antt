use Rattle.uart_live.proofs.Orders.{plain_reads}
use Rattle.uart_live.proofs.laws.plain_reads_change_nothing.Goals as goal

pub returns : goal.returns
returns c = plain_reads
