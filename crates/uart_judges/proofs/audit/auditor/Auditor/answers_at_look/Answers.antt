use Rattle.std.proofs.Common.{◌∙◌, ap}
use Rattle.uart_judges.specs.OfChip.{answer_in}
use Rattle.uart_judges.proofs.OfChip.{answers_looked}
use Rattle.uart_judges.proofs.audit.auditor.Auditor.answers_at_look.Goals as goal

pub returns : goal.returns
returns c lsr is =
    answers_looked c.args.self.now c.args.step.now lsr c.answer_in.result c.overrun.result c.empty.result is
    (c.answer_in.ensures ∙ ap answer_in c.arrival.ensures) c.overrun.ensures c.empty.ensures
