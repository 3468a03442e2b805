use Rattle.uart_chip.proofs.lasting.FifoSizes.{same_size, same_size-event, same_size-lacking, same_size-read, same_size-write}
use Rattle.uart_chip.proofs.laws.only_the_switch_resizes.Goals as goal

pub returns-clause-events : goal.returns-clause-events
returns-clause-events c = same_size-event

pub returns-clause-reads : goal.returns-clause-reads
returns-clause-reads c = same_size-read

pub returns-clause-writes : goal.returns-clause-writes
returns-clause-writes c = same_size-write

pub returns-clause-without_switch : goal.returns-clause-without_switch
returns-clause-without_switch c = same_size-lacking

pub returns-clause-without_dlab : goal.returns-clause-without_dlab
returns-clause-without_dlab c = same_size
