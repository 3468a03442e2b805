use Rattle.uart_judges.proofs.Frequent.{received_one}
use Rattle.uart_judges.proofs.audit.auditor.Auditor.found_at_receipt.Goals as goal

pub returns : goal.returns
returns c byte is =
    received_one c.args.self.now c.args.step.now byte c.note.result c.gate.result c.taken.result c.arrival.result is
    c.note.ensures c.gate.ensures c.taken.ensures c.arrival.ensures
