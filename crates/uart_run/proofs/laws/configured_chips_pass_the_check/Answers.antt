use Rattle.uart_run.proofs.Configured.{init_checks, init_with_checks}
use Rattle.uart_run.proofs.laws.configured_chips_pass_the_check.Goals as goal

pub returns : goal.returns
returns c =
    let whole = rw c.backend.ensures at c.fifo_enabled-fifo.ensures.whole in record {
      init = init_checks _ whole.sound;
      init_with = init_with_checks _ whole.sound;
    }
