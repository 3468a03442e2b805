use Rattle.uart_live.proofs.Holds.{held_stay, due_interrupts}
use Rattle.uart_live.proofs.laws.held_timeouts_stay.Goals as goal

pub returns-clause-due : goal.returns-clause-due
returns-clause-due c = held_stay

pub returns-clause-interrupting : goal.returns-clause-interrupting
returns-clause-interrupting c = due_interrupts
