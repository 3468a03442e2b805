use Rattle.std.proofs.Common.{rules}
use Rattle.uart_chip.proofs.Status.{joins}
use Rattle.uart_chip.proofs.controlling.lsr.Goals as goal

pub returns : goal.returns
returns g c =
    joins (g.P.ChipParts.state c.args.parts.now) c.union-2.result.0 c.status.result.0 c.status-2.result.0 c.fifo_error.result.0
    (search rules) (search rules) (search rules) (search rules)
