use Rattle.std.proofs.Common.{arith}
use Rattle.uart_chip.proofs.Sizes.{at_most_256}
use Rattle.uart_virtual.specs.Port.{settle_ticks}
use Rattle.uart_virtual.proofs.port.settle_ticks.Goals as goal

pub returns : goal.returns
unfolding settle_ticks
returns c = let most = at_most_256 c.args.size in omega (arith, most)
