use Rattle.std.proofs.Common.{◌∙◌, ap}
use Rattle.uart_judges.specs.OfChip.{answer_in}
use Rattle.uart_judges.proofs.OfChip.{answers_received, answers_sent}
use Rattle.uart_judges.proofs.audit.auditor.Auditor.answers_at_data.Goals as goal

pub returns-clause-sent : goal.returns-clause-sent
returns-clause-sent c byte is =
    answers_sent c.args.self.now c.args.step.now byte c.answer_in.result is (c.answer_in.ensures ∙ ap answer_in c.arrival.ensures)

pub returns-clause-received : goal.returns-clause-received
returns-clause-received c byte is =
    answers_received c.args.self.now c.args.step.now byte c.answer_in.result is (c.answer_in.ensures ∙ ap answer_in c.arrival.ensures)
