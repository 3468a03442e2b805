use Rattle.uart_run.proofs.ExactErrors.{received_exactly}
use Rattle.uart_run.proofs.laws.received_errors_are_exact.Goals as goal

pub returns : goal.returns
returns c =
    let whole = rw c.backend.ensures at c.fifo_enabled-fifo.ensures.whole in
    λ after slots items ready on made. received_exactly _ after slots items whole.sound ready on made
