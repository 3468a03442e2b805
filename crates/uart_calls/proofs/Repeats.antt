-- A call over a replay of another backend's answers repeats the call.
use Rattle.std.proofs.Common.{◌≡◌, ℕ, true, List, [], ◌∷◌, ◌++◌, sym, ◌∙◌, ap, subst, inl, inr, ◌⊎◌}
use Rattle.uart_spec.specs.declared.access.Access.{Access}
use Rattle.uart_spec.specs.declared.access.Access.TheVariants.{Read, Write}
use Rattle.uart_16550.specs.Choice.{PartAtRead, LeavesNoChoice, answers}
use Rattle.uart_16550.specs.Grammar.{Language}
use Rattle.uart_16550.specs.Driver.{Doing, Fields, Saving, fields}
use Rattle.uart_calls.specs.Replay.{AnswersInTurn, FedBy, Repeats, RepeatsSaving}
use Rattle.uart_calls.proofs.Replays.{fed_path, replays_show}
use Rattle.uart_16550.proofs.determined.Repeated.{same_first}
use Rattle.uart_16550.proofs.determined.Backends.{answers_append, saved}

no_head : (a : ℕ) (xs : List ℕ) → [] ≡ a ∷ xs → ⊥
no_head a xs e = cc

-- after a front of accesses a tape returns what follows their answers on it
fed_after : (xs more : List ℕ) (front rest : List Access) (register a b : ℕ) (left : List ℕ) → xs ≡ answers front ++ (a ∷ more) →
    FedBy xs (front ++ Read register b ∷ rest) left → a ≡ b
fed_after [] more [] rest register a b left e (between, taken, fed) = absurd (no_head a more e)
fed_after (x ∷ xs) more [] rest register a b left e (between, taken, fed) = sym (same_first e) ∙ sym taken.0
fed_after [] more (Read offset answer ∷ front) rest register a b left e (between, taken, fed) = absurd (no_head answer _ e)
fed_after (x ∷ xs) more (Read offset answer ∷ front) rest register a b left e (between, taken, fed) =
    fed_after between more front rest register a b left (taken.1 ∙ same_tail x answer xs _ e) fed
  where
    same_tail : (x y : ℕ) (xs ys : List ℕ) → x ∷ xs ≡ y ∷ ys → xs ≡ ys
    same_tail x y xs ys e = cc
fed_after xs more (Write offset value ∷ front) rest register a b left e (between, taken, fed) =
    fed_after between more front rest register a b left (written xs taken ∙ e) fed
  where
    written : (xs : List ℕ) → AnswersInTurn xs (Write offset value) between → between ≡ xs
    written [] t = t
    written (x ∷ xs) t = t

-- so two lists do not part if the reads of the second returned what those of the first returned
never_part : (l m : List Access) (left : List ℕ) → FedBy (answers l) m left → PartAtRead l m → ⊥
never_part l m left fed part =
    let F : List Access → Type 0 = λ x. FedBy (answers l) x left in
    let whole : answers l ≡ answers part.front ++ (part.answer ∷ answers part.rest) =
    ap answers part.is_one ∙ answers_append part.front (Read part.register part.answer ∷ part.rest) in
    part.differs
    (fed_after (answers l) (answers part.rest) part.front part.other_rest part.register part.answer part.other_answer left whole
    (subst F part.is_other fed))

pub repeat : {R B : Type 0} {G : R → Doing} {step : B → Access → B → Type 0} → LeavesNoChoice G → Repeats G step
repeat {R} {B} {G} {step} law a b old new before after p q same on_tape =
    let F : Fields → Type 0 = λ f. G b f q.list (fields after) in
    let A : List ℕ → Type 0 = λ xs. FedBy xs q.list after.backend.answers in
    let fed = subst A on_tape (fed_path before.backend after.backend q.list q.path) in
    same_call fed (law (fields old) a b p.list q.list (fields new) (fields after) p.does (subst F (sym same) q.does))
  where
    same_call : FedBy (answers p.list) q.list after.backend.answers →
        ((a ≡ b) × (p.list ≡ q.list) × (fields new ≡ fields after)) ⊎ PartAtRead p.list q.list →
        (a ≡ b) × (fields new ≡ fields after) × (after.backend.whole ≡ true → after.backend.made ≡ before.backend.made ++ p.list)
    same_call fed (inl (outcome, list, left)) = (
      outcome,
      left,
      λ whole. (replays_show before.backend after.backend q.list q.path whole).made ∙
          ap (λ l. before.backend.made ++ l) (sym list),
    )
    same_call fed (inr part) = absurd (never_part p.list q.list after.backend.answers fed part)

pub repeat_saving : {R B : Type 0} (L : R → Language) {step : B → Access → B → Type 0} → LeavesNoChoice (λ a. Saving (L a)) →
    RepeatsSaving L step
repeat_saving L law a b old new before after p q same on_tape =
    repeat {G = λ r. Saving (L r)} law a b old new before after
    (record { list = p.list; path = p.path; does = saved p })
    (record { list = q.list; path = q.path; does = saved q }) same on_tape
