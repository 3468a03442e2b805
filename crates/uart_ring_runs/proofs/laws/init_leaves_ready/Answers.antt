use Rattle.uart_ring_runs.proofs.RingReady.{init_leaves, init_fits, init_unhinders}
use Rattle.uart_ring_runs.proofs.laws.init_leaves_ready.Goals as goal

pub returns : goal.returns
returns c =
    let whole = rw c.backend.ensures at c.fifo_enabled-fifo.ensures.whole in
    record {
      ready = λ config after ring fits did same.
          (init_leaves _ after config ring whole.sound did same).ready (init_fits _ after config ring did same fits);
      wired = λ config after ring did same. (init_leaves _ after config ring whole.sound did same).wired;
      unhindered = λ config after ring fits timely lacks did same.
          init_unhinders _ after config ring whole.sound fits timely lacks did same;
    }
