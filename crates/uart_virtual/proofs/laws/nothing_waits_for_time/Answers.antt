use Rattle.uart_virtual.proofs.Waits.{held_full, waiting_interrupts}
use Rattle.uart_virtual.proofs.laws.nothing_waits_for_time.Goals as goal

pub returns-clause-held : goal.returns-clause-held
returns-clause-held c = held_full

pub returns-clause-waiting : goal.returns-clause-waiting
returns-clause-waiting c = waiting_interrupts
