use Rattle.uart_run.proofs.{Follows.ran, Uncuts.ran_uncut}
use Rattle.uart_run.proofs.laws.calls_in_turn_are_runs.Goals as goal

pub returns : goal.returns
returns c =
    let whole = rw c.backend.ensures at c.fifo_enabled-fifo.ensures.whole in
    record {
      ran = λ calls answers t is. ran _ t calls answers whole.sound is;
      uncut = λ calls answers t is whole_bytes. ran_uncut _ t calls answers whole.sound (ran _ t calls answers whole.sound is) whole_bytes;
    }
