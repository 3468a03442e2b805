use Rattle.uart_run.proofs.Names.{backend_of, at_least_16}
use Rattle.uart_run.proofs.laws.smallest_size_fits.Goals as goal

pub returns : goal.returns
returns c uart smallest = rw smallest (at_least_16 (backend_of uart).chip.transmitter.size)
