use Rattle.uart_run.proofs.refining.PortRuns.{session_refines, session_keeps_all, session_loses_nothing}
use Rattle.uart_run.proofs.laws.sessions_lose_nothing_silently.Goals as goal

pub returns-clause-loses_nothing : goal.returns-clause-loses_nothing
returns-clause-loses_nothing c =
    let whole = rw c.backend.ensures at c.fifo_enabled-fifo.ensures.whole in
    λ links after session chain.
    session_loses_nothing _ after links (session_refines _ after links whole.sound session chain)

pub returns-clause-keeps_all : goal.returns-clause-keeps_all
returns-clause-keeps_all c =
    let whole = rw c.backend.ensures at c.fifo_enabled-fifo.ensures.whole in
    λ some last after session chain is untold.
    session_keeps_all _ after some last (session_refines _ after _ whole.sound session chain) chain is untold
