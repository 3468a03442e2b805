use Rattle.std.proofs.Common.{rules}
use Rattle.uart_chip.proofs.Status.{shows}
use Rattle.uart_chip.proofs.controlling.read_line_status.Goals as goal

pub returns-clause-answers : goal.returns-clause-answers
returns-clause-answers g c =
    shows (g.P.ChipParts.state c.args.parts.now) c.bits.result c.status.result.0 c.status-2.result.0 (search rules) (search rules)
    (search rules) (search rules)
