use Rattle.uart_16550.specs.Driver.{settings_of}
use Rattle.uart_run.proofs.CallBlocks.{most_in}
use Rattle.uart_judges_runs.proofs.CallLists.{goes_list, list_of, fits_at_once}
use Rattle.uart_judges_runs.proofs.laws.calls_are_not_warned.Goals as goal

pub returns : goal.returns
returns c call before after accesses answer past entries steady list taken knows is =
    (goes_list before.size before.fifo (most_in (settings_of before)) accesses (fits_at_once before)
    (list_of call before after accesses answer steady list) taken past entries is knows).0
