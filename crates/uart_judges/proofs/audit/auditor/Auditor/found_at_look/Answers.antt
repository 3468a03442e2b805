use Rattle.uart_judges.proofs.Frequent.{looked}
use Rattle.uart_judges.proofs.audit.auditor.Auditor.found_at_look.Goals as goal

pub returns : goal.returns
returns c lsr is =
    looked c.args.self.now c.args.step.now lsr c.note.result c.arrival.result c.overrun.result c.empty.result is
    c.note.ensures c.arrival.ensures c.overrun.ensures c.empty.ensures
