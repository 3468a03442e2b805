use Rattle.uart_latency.proofs.Room.{same_levels}
use Rattle.uart_latency.proofs.laws.levels_are_those_of_the_chip.Goals as goal

pub returns : goal.returns
returns c = same_levels
