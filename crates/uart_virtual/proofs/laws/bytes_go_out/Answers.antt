use Rattle.uart_virtual.proofs.Empties.{emptied_interrupts}
use Rattle.uart_virtual.proofs.Tells.{bytes_go, fcr_keeps}
use Rattle.uart_virtual.proofs.Waits.{empty_takes, slow_host_shows}
use Rattle.uart_virtual.proofs.laws.bytes_go_out.Goals as goal

pub returns-clause-out : goal.returns-clause-out
returns-clause-out c = bytes_go

pub returns-clause-taken : goal.returns-clause-taken
returns-clause-taken c = empty_takes

pub returns-clause-fcr : goal.returns-clause-fcr
returns-clause-fcr c = fcr_keeps

pub returns-clause-slow : goal.returns-clause-slow
returns-clause-slow c = slow_host_shows

pub returns-clause-emptied : goal.returns-clause-emptied
returns-clause-emptied c = emptied_interrupts
