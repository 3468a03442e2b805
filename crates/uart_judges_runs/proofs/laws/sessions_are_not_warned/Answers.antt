use Rattle.uart_judges_runs.proofs.Sessions.{goes_session}
use Rattle.uart_judges_runs.proofs.laws.sessions_are_not_warned.Goals as goal

pub returns : goal.returns
returns c calls fields accesses old new past entries begins session knows is =
    (goes_session calls fields old new accesses
    (record { dlab = begins.dlab; loopback = begins.loopback; fifos = begins.fifo }) session past entries is knows).0
