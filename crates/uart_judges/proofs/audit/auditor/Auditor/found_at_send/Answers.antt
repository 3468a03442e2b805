use Rattle.uart_judges.proofs.Frequent.{sent_one}
use Rattle.uart_judges.proofs.audit.auditor.Auditor.found_at_send.Goals as goal

pub returns : goal.returns
returns c byte is =
    sent_one c.args.self.now c.args.step.now byte c.note.result c.room.result c.output.result c.flow.result c.gate.result is
    c.note.ensures c.room.ensures c.output.ensures c.flow.ensures c.gate.ensures
