use Rattle.uart_chip.proofs.lasting.Flows.{flow-event, flow-read, flow-write, flow-path, flow-mark, held_only_with_flow}
use Rattle.uart_chip.proofs.laws.only_with_auto_flow_has_it.Goals as goal

pub returns-clause-events : goal.returns-clause-events
returns-clause-events c = flow-event

pub returns-clause-reads : goal.returns-clause-reads
returns-clause-reads c = flow-read

pub returns-clause-writes : goal.returns-clause-writes
returns-clause-writes c = flow-write

pub returns-clause-accesses : goal.returns-clause-accesses
returns-clause-accesses c = flow-path

pub returns-clause-marks : goal.returns-clause-marks
returns-clause-marks c = flow-mark

pub returns-clause-lacking : goal.returns-clause-lacking
returns-clause-lacking c = held_only_with_flow
