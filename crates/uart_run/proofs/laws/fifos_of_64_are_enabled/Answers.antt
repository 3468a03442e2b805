use Rattle.uart_run.proofs.Names.{under_terminal}
use Rattle.uart_run.proofs.sizing.Enabling.{enables, enables_off, ends}
use Rattle.uart_run.proofs.laws.fifos_of_64_are_enabled.Goals as goal

pub returns : goal.returns
returns c =
    let whole = rw c.backend.ensures at c.fifo_enabled-fifo.ensures.whole in
    let before = under_terminal c.args.uart.now in
    record {
      off = λ after enabled off did. enables_off before (under_terminal after) enabled did.list off did.does did.path;
      on =
          λ after enabled ready on did.
          enables before (under_terminal after) whole.sound ready on enabled did.list did.does did.path;
      ends =
          λ after enabled timely unheld room did.
          ends before (under_terminal after) enabled did.list whole.sound timely unheld room did.does did.path;
    }
