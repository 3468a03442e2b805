use Rattle.uart_latency.proofs.KeepsAll.{keeps_all}
use Rattle.uart_latency.proofs.laws.what_is_not_dropped_is_kept.Goals as goal

pub returns : goal.returns
returns c =
    let whole = rw (c.backend.ensures, c.inner.ensures) at c.fifo_enabled-fifo.ensures.whole in
    λ links t conserves none. keeps_all c.args.ring.now t links whole.sound conserves none
