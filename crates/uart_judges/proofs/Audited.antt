-- The judge goes on as what is known does, and finds what is defined.
use Rattle.std.proofs.Common.{◌≡◌, ◌∙◌, refl, ap, List, ◌∷◌, Option}
use Rattle.uart_judges.specs.Findings.{all_found, findings_at}
use Rattle.uart_judges.specs.History.{known, known_of, next, step_from, steps}
use Rattle.uart_judges.specs.declared.audit.auditor.Auditor.{Auditor}
use Rattle.uart_judges.specs.declared.audit.finding.Finding.{Finding}
use Rattle.uart_judges.specs.declared.audit.step.Step.{Step}
use Rattle.uart_judges.specs.declared.recording.entry.Entry.{Entry}

-- from what is known of some steps the judge goes on to what is known of one more
pub next_known : (s : Step) (past : List Step) → next (known_of past) s ≡ known_of (s ∷ past)
next_known s past = refl

pub step_found : (old : Auditor) (s : Step) (e : Entry) (result : List (Option Finding)) → result ≡ all_found old s →
    s ≡ step_from old e → (past : List Entry) → old ≡ known past → result ≡ findings_at e past
step_found old s e result f t past k =
    f ∙ (ap (λ (s : Step). all_found old s) t ∙ ap (λ (a : Auditor). all_found a (step_from a e)) k)

pub step_known : (old new : Auditor) (s : Step) (e : Entry) → new ≡ next old s → s ≡ step_from old e →
    (past : List Entry) → old ≡ known past → new ≡ known (e ∷ past)
step_known old new s e n t past k =
    n ∙ (ap (λ (s : Step). next old s) t
    ∙ (ap (λ (a : Auditor). next a (step_from a e)) k ∙ next_known (step_from (known past) e) (steps past)))
