use Rattle.uart_run.proofs.Names.{backend_of}
use Rattle.uart_run.proofs.{ExactErrors.overruns_stand, ExactErrors.flag_stands, Overruns.flag_looked}
use Rattle.uart_run.proofs.laws.overruns_tell_where_a_byte_is_lost.Goals as goal

pub returns : goal.returns
returns c =
    let whole = rw c.backend.ensures at c.fifo_enabled-fifo.ensures.whole in record {
      stand = λ after slots items ready on flag made. overruns_stand _ after slots items whole.sound ready on flag made;
      looks = λ line after step. flag_looked (backend_of c.args.uart.now) after line step;
      accesses = flag_stands _ whole.sound;
    }
