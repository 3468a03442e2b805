-- A run has one outcome, and a script one output.
use Rattle.std.proofs.Common.{◌≡◌, ℕ, List, [], ◌∷◌, Option, Result, Ok, Err, refl, sym, ◌∙◌, ap, subst, arith, length}
use Rattle.std.specs.Prelude.{All}
use Rattle.std.proofs.lemmas.List.Elements.{All-head, All-tail}
use Rattle.std.specs.Io.KnownBytes.{Appends}
use Rattle.uart_16550.specs.Choice.{LeavesNoChoice, IsFunction, IsSame}
use Rattle.uart_16550.specs.Tty.{inner_of}
use Rattle.uart_16550.specs.declared.driver.Uart16550.{Uart16550}
use Rattle.uart_16550.proofs.determined.Repeated.{same_first, same_others}
use Rattle.uart_16550.proofs.determined.Backends.{one_outcome}
use Rattle.uart_call.specs.declared.call.Call.{Call}
use Rattle.uart_call.specs.declared.call.Call.TheVariants as call
use Rattle.uart_call.specs.declared.call.Answer.{Answer}
use Rattle.uart_chip.specs.Machine.{MachineState, MachineStep, at_mark}
use Rattle.uart_call.specs.Calls.{IsRunnable}
use Rattle.uart_calls.specs.Meaning.{Meaning, Called, doing_of, meaning}
use Rattle.uart_calls.proofs.NoChoice.{meaning_leaves_no_choice}
use Rattle.uart_run.specs.Chains.{calls_of, answers_of}
use Rattle.uart_run.specs.Run.{State, machine_of, CallStep, Link, Chain, IsRun}
use Rattle.uart_language.specs.Script.{Plan, IsScript}
use Rattle.uart_play.specs.ScriptOutput.{IsFirst, output_of}
use Rattle.uart_language.specs.Reading.{Fault}
use Rattle.uart_play.specs.Play.{IsPlayed, Outcome}
use Rattle.uart_play.specs.OneOutcome.{IsSameState}
use Rattle.uart_language.proofs.Exact.{script_is_read}
use Rattle.uart_language.proofs.Playable.{playable}

-- the machine's step is a function
machine_is_function : IsFunction MachineStep
machine_is_function =
    record { read = λ s t u register a b p q. (p.1 ∙ sym q.1, p.0 ∙ sym q.0); write = λ s t u register value p q. p ∙ sym q }

-- one call of the driver
called_one : (m : Meaning) → LeavesNoChoice (doing_of m) → (a b : Answer) (d e x y : Uart16550 MachineState) →
    Called MachineStep m a d e → Called MachineStep m b x y → IsSame d x → (a ≡ b) × IsSame e y
called_one (Meaning.means doing answer_of) law a b d e x y p q same =
    let r = one_outcome {G = doing} law machine_is_function p.outcome q.outcome d e x y p.did q.did same in
    (p.answered ∙ ap answer_of r.0 ∙ sym q.answered, r.1)

-- one call of a run
step_one : (s t x y : State) (a b : Answer) → IsSameState s x → (c : Call) → IsRunnable c → CallStep s c a t → CallStep x c b y →
    (a ≡ b) × IsSameState t y
step_one s t x y a b same call.Next ok p q =
    (p.answered ∙ sym q.answered, (p.driver ∙ same.0 ∙ sym q.driver, p.machine ∙ ap at_mark same.1 ∙ sym q.machine))
step_one s t x y a b same c ok p q =
    called_one (meaning c) (meaning_leaves_no_choice c ok) a b (inner_of s) (inner_of t) (inner_of x) (inner_of y) p q same

-- lists of calls
chains_one : (s t x y : State) (ps qs : List Link) → All IsRunnable (calls_of ps) → calls_of ps ≡ calls_of qs → Chain s ps t →
    Chain x qs y → IsSameState s x → (answers_of ps ≡ answers_of qs) × IsSameState t y
chains_one s t x y [] [] all same p q start =
    let T : State → Type 0 = λ z. IsSameState z y in
    let Y : State → Type 0 = λ z. IsSameState s z in
    (refl, subst T (sym p) (subst Y (sym q) start))
chains_one s t x y [] (q ∷ qs) all same h k start = absurd (omega (arith, ap length same))
chains_one s t x y (p ∷ ps) [] all same h k start = absurd (omega (arith, ap length same))
chains_one s t x y (p ∷ ps) (q ∷ qs) all same h k start =
    let T : State → Type 0 = λ z. IsSameState z q.before in
    let Y : State → Type 0 = λ z. IsSameState s z in
    let C : Call → Type 0 = λ c. CallStep q.before c q.answer q.after in
    let here : IsSameState p.before q.before = subst T (sym h.0) (subst Y (sym k.0) start) in
    let runs : IsRunnable p.call = All-head IsRunnable p.call (calls_of ps) all in
    let first = step_one p.before p.after q.before q.after p.answer q.answer here p.call runs h.1 (subst C (sym (same_first same)) k.1) in
    let rest = chains_one p.after t q.after y ps qs (All-tail IsRunnable p.call (calls_of ps) all) (same_others same) h.2 k.2 first.1 in
    (ap (λ a. a ∷ answers_of ps) first.0 ∙ ap (λ later. q.answer ∷ later) rest.0, rest.1)

pub runs_one : (s t x y : State) (calls : List Call) (answers other_answers : List Answer) → All IsRunnable calls →
    IsRun s calls answers t → IsRun x calls other_answers y → IsSameState s x → (answers ≡ other_answers) × IsSameState t y
runs_one s t x y calls answers other_answers all p q start =
    let A : List Call → Type 0 = λ cs. All IsRunnable cs in
    let r = chains_one s t x y p.links q.links (subst A (sym p.calls_same) all)
    (p.calls_same ∙ sym q.calls_same) p.chain q.chain start in
    (sym p.answers_same ∙ r.0 ∙ q.answers_same, r.1)

-- scripts
inside : Plan → Result Plan Fault → Plan
inside other (Ok plan) = plan
inside other (Err fault) = other

plan_one : (input : List ℕ) (p q : Plan) → IsScript input p → IsScript input q → p ≡ q
unfolding inside
plan_one input p q h k = ap (inside p) (sym (script_is_read input p h) ∙ script_is_read input q k)

firsts_same : (plan : Plan) (s x : State) → IsFirst plan s → IsFirst plan x → IsSameState s x
firsts_same plan s x p q = (p.driver ∙ sym q.driver, p.machine ∙ sym q.machine)

-- what was played of one input has one output
played_one : (input : List ℕ) (writes other_writes : List ℕ → Type 0) (p : IsPlayed input writes) (q : IsPlayed input other_writes) →
    p.output ≡ q.output
played_one input writes other_writes p q =
    let same = plan_one input p.plan q.plan p.script q.script in
    let F : Plan → Type 0 = λ plan. IsFirst plan q.printed.first in
    let R : Plan → Type 0 = λ plan. IsRun q.printed.first plan.calls q.printed.answers q.printed.last in
    let start = firsts_same p.plan p.printed.first q.printed.first p.printed.begins (subst F (sym same) q.printed.begins) in
    let r = runs_one p.printed.first p.printed.last q.printed.first q.printed.last p.plan.calls p.printed.answers q.printed.answers
    (playable input p.plan p.script).calls p.printed.ran (subst R (sym same) q.printed.ran) start in
    p.printed.is ∙ ap (λ answers. output_of answers (machine_of p.printed.last)) r.0 ∙ ap (output_of q.printed.answers) r.1.1
    ∙ sym q.printed.is

pub outputs_one : (input : List ℕ) (old new other_old other_new : Option (List ℕ)) → Outcome input (Ok tt) old new →
    Outcome input (Ok tt) other_old other_new →
    (output : List ℕ) × Appends old new output × Appends other_old other_new output
outputs_one input old new other_old other_new p q =
    let A : List ℕ → Type 0 = λ output. Appends other_old other_new output in
    (p.output, p.written, subst A (sym (played_one input (Appends old new) A p q)) q.written)
