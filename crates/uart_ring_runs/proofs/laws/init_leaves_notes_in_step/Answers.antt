use Rattle.uart_ring_runs.proofs.NotedInit.{init_steps}
use Rattle.uart_ring_runs.proofs.laws.init_leaves_notes_in_step.Goals as goal

pub returns : goal.returns
returns c =
    let whole = rw (c.backend-2.ensures, c.backend.ensures) at c.fifo_enabled-fifo.ensures.whole in
    λ config level after off model is did. init_steps c.args.uart.now after config level whole.sound off model is did
