-- What of the findings is about the chip, and what of the entries these depend on.
use Rattle.std.specs.Prelude.{Bool, true, false, if◌then◌else◌, Option, Some, None, List, [], ◌∷◌, ◌++◌}
use Rattle.uart_judges.specs.Findings.{arrival, chip, empty, level, overrun}
use Rattle.uart_judges.specs.History.{known, next}
use Rattle.uart_judges.specs.Severities.{severity}
use Rattle.uart_judges.specs.declared.audit.auditor.Auditor.{Auditor}
use Rattle.uart_judges.specs.declared.audit.finding.Finding.{Finding}
use Rattle.uart_judges.specs.declared.audit.finding.Severity.{Severity}
use Rattle.uart_judges.specs.declared.audit.finding.Severity.TheVariants.{Answer}
use Rattle.uart_judges.specs.declared.audit.step.Step.{Step}

-- ---- findings

-- the findings in these places, in order
abbrev pub one : Option Finding → List Finding
one None = []
one (Some finding) = finding ∷ []

abbrev pub present : List (Option Finding) → List Finding
present [] = []
present (found ∷ others) = one found ++ present others

-- the finding, if it is an answer of the chip that the recording contradicts
abbrev pub is_answer : Severity → Bool
is_answer Answer = true
is_answer _ = false

abbrev pub answer_in : Option Finding → Option Finding
answer_in None = None
answer_in (Some finding) = if is_answer (severity finding) then Some finding else None

-- the answers among the findings in these places, in order
abbrev pub answers_in : List (Option Finding) → List Finding
answers_in [] = []
answers_in (found ∷ others) = one (answer_in found) ++ answers_in others

-- the places in which an answer can be
abbrev pub answers_at : Auditor → Step → List (Option Finding)
answers_at a s = answer_in (arrival a s) ∷ overrun a s ∷ empty a s ∷ chip a s ∷ level a s ∷ []

-- ---- what they depend on

-- what is known of this; all else is as if nothing was given
abbrev pub for_chip : Auditor → Auditor
for_chip a =
    record (known []) {
      setup = a.setup;
      sent_at = a.sent_at;
      going_out = a.going_out;
      is_thr_empty = a.is_thr_empty;
      is_acknowledged = a.is_acknowledged;
      is_thr_due = a.is_thr_due;
      waiting = a.waiting;
      unread = a.unread;
      is_overrun = a.is_overrun;
      is_controlled = a.is_controlled;
      data_interrupt = a.data_interrupt;
      busy_line = a.busy_line;
      lines = a.lines;
    }

-- goes on by a step in this alone
abbrev pub next_for_chip : Auditor → Step → Auditor
next_for_chip a s =
    let b : Auditor = next a s in
    record a {
      setup = b.setup;
      sent_at = b.sent_at;
      going_out = b.going_out;
      is_thr_empty = b.is_thr_empty;
      is_acknowledged = b.is_acknowledged;
      is_thr_due = b.is_thr_due;
      waiting = b.waiting;
      unread = b.unread;
      is_overrun = b.is_overrun;
      is_controlled = b.is_controlled;
      data_interrupt = b.data_interrupt;
      busy_line = b.busy_line;
      lines = b.lines;
    }
