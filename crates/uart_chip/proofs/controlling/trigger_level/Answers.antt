use Rattle.uart_chip.proofs.Bits.{only_level}
use Rattle.uart_chip.proofs.controlling.trigger_level.Goals as goal

pub returns : goal.returns
returns c = only_level c.args.fcr.0 _ c.fifo_trigger_level.ensures
