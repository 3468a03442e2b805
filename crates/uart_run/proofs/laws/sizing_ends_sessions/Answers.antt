use Rattle.uart_run.proofs.Names.{under_terminal}
use Rattle.uart_run.proofs.sizing.SessionEnds.{enabling_ends, finding_ends}
use Rattle.uart_run.proofs.laws.sizing_ends_sessions.Goals as goal

pub returns : goal.returns
returns c =
    let whole = rw c.backend.ensures at c.fifo_enabled-fifo.ensures.whole in
    let before = under_terminal c.args.uart.now in
    record {
      find_fifo_size =
          λ after found ready did. finding_ends before (under_terminal after) whole.sound ready found did.list did.does did.path;
      enable_64_byte_fifos =
          λ after enabled ready did. enabling_ends before (under_terminal after) whole.sound ready enabled did.list did.does did.path;
    }
