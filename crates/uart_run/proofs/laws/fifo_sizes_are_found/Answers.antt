use Rattle.uart_run.proofs.Names.{under_terminal}
use Rattle.uart_run.proofs.{sizing.Finding.finds_off, sizing.Finding.finds_size, sizing.Finding.may_find, sizing.Lacking.finds_none}
use Rattle.uart_run.proofs.{sizing.Succeeding.never, sizing.Succeeding.size_found}
use Rattle.uart_run.proofs.laws.fifo_sizes_are_found.Goals as goal

pub returns : goal.returns
returns c =
    let whole = rw c.backend.ensures at c.fifo_enabled-fifo.ensures.whole in
    let before = under_terminal c.args.uart.now in
    record {
      off = λ after found off did. finds_off before (under_terminal after) found did.list off did.does did.path;
      may = λ ready on. may_find before whole.sound ready on;
      on = λ after found may on did. finds_size before (under_terminal after) whole.sound may on found did.list did.does did.path;
      none =
          λ after found plain model on did.
          finds_none before (under_terminal after) whole.sound plain model found did.list on did.does did.path;
      ends =
          λ after found plain on timely unheld room did stalled.
          never before (under_terminal after) whole.sound plain on timely unheld room found did.list stalled did.does did.path;
      succeeds =
          λ after found may on timely unheld room did.
          size_found before (under_terminal after) whole.sound may on timely unheld room found did.list did.does did.path;
    }
