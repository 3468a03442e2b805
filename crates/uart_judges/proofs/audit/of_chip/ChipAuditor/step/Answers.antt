use Rattle.uart_judges.proofs.OfChip.{step_answers, step_seen}
use Rattle.uart_judges.proofs.audit.of_chip.ChipAuditor.step.Goals as goal

pub returns-clause-answers : goal.returns-clause-answers
returns-clause-answers c past e =
    step_answers c.args.self.now.seen c.step_of-step.result c.args.entry.now c.answers-answers.result c.answers-answers.ensures
    c.step_of-step.ensures past e

pub returns-clause-seen : goal.returns-clause-seen
returns-clause-seen c past e =
    step_seen c.args.self.now.seen c.go_on_for_chip.new.self c.step_of-step.result c.args.entry.now c.go_on_for_chip.ensures
    c.step_of-step.ensures past e
