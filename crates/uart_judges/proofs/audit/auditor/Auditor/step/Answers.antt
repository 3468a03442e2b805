use Rattle.uart_judges.proofs.Audited.{step_found, step_known}
use Rattle.uart_judges.proofs.audit.auditor.Auditor.step.Goals as goal

pub returns-clause-findings : goal.returns-clause-findings
returns-clause-findings c past e =
    step_found c.args.self.now c.step_of-step.result c.args.entry.now c.findings-findings.result
    c.findings-findings.ensures c.step_of-step.ensures past e

pub returns-clause-known : goal.returns-clause-known
returns-clause-known c past e =
    step_known c.args.self.now c.go_on.new.self c.step_of-step.result c.args.entry.now c.go_on.ensures c.step_of-step.ensures past e
