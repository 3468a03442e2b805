-- Whose fault a finding is.
use Rattle.uart_judges.specs.declared.audit.finding.Finding.{Finding}
use Rattle.uart_judges.specs.declared.audit.finding.Finding.TheVariants.{SetUp, LineErrorsRead, LineChangesRead}
use Rattle.uart_judges.specs.declared.audit.finding.Finding.TheVariants.{LatchLeftOpen, LoopbackLeftOn}
use Rattle.uart_judges.specs.declared.audit.finding.Finding.TheVariants.{OtherByte, ArrivalSkipped, ArrivalGone}
use Rattle.uart_judges.specs.declared.audit.finding.Finding.TheVariants.{ErrorsHidden, OverrunHidden}
use Rattle.uart_judges.specs.declared.audit.finding.Finding.TheVariants.{InterruptWithoutData, GoneAtFcr}
use Rattle.uart_judges.specs.declared.audit.finding.Finding.TheVariants.{ThrEmptyNotRaised, ThrEmptyNotRaisedAgain}
use Rattle.uart_judges.specs.declared.audit.finding.Finding.TheVariants.{LineIgnored, LinesDiffer, LevelDiffers}
use Rattle.uart_judges.specs.declared.audit.finding.Severity.{Severity}
use Rattle.uart_judges.specs.declared.audit.finding.Severity.TheVariants.{Note, Warning, Answer}

-- what a read or a write shows, and how a recording ends, is a note; what the recording contradicts is an answer of the
-- chip; all else is a warning
abbrev pub severity : Finding → Severity
severity (SetUp setup) = Note
severity (LineErrorsRead lsr) = Note
severity (LineChangesRead msr) = Note
severity LatchLeftOpen = Note
severity LoopbackLeftOn = Note
severity (OtherByte arrived read) = Answer
severity (ArrivalSkipped byte) = Answer
severity (ArrivalGone byte) = Answer
severity (ErrorsHidden arrived) = Answer
severity OverrunHidden = Answer
severity (InterruptWithoutData interrupt) = Answer
severity GoneAtFcr = Answer
severity ThrEmptyNotRaised = Answer
severity ThrEmptyNotRaisedAgain = Answer
severity (LineIgnored written read) = Answer
severity (LinesDiffer inputs shown) = Answer
severity (LevelDiffers up) = Answer
severity _ = Warning
