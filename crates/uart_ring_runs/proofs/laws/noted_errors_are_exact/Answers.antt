use Rattle.uart_ring_runs.proofs.NotedSessions.{notes_exactly, taken_exactly, step_begins, byte_begins}
use Rattle.uart_ring_runs.proofs.laws.noted_errors_are_exact.Goals as goal

pub returns : goal.returns
returns c =
    let whole = rw (c.backend-2.ensures, c.backend.ensures, c.inner.ensures) at c.fifo_enabled-fifo.ensures.whole in
    record {
      begins = step_begins c.args.ring.now whole.sound;
      with_a_byte = byte_begins c.args.ring.now whole.sound;
      session = λ before links t begins within own chain. notes_exactly c.args.ring.now t before links whole.sound begins within own chain;
      taken = λ characters slots count items t holds noted did errors.
          taken_exactly c.args.ring.now t characters slots count items holds noted did errors;
    }
