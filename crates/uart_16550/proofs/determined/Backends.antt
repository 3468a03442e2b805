-- What the law gives over backends.
use Rattle.std.proofs.Common.{◌≡◌, ℕ, List, [], ◌∷◌, ◌++◌, refl, sym, ◌∙◌, ap, subst, append_assoc, inl, inr, ◌⊎◌}
use Rattle.std.proofs.lemmas.List.{append_cancel_left}
use Rattle.std.specs.Int.NonZero.{non_zero_u64_get}
use Rattle.uart_spec.specs.Access.{Path}
use Rattle.uart_spec.specs.declared.access.Access.{Access}
use Rattle.uart_spec.specs.declared.access.Access.TheVariants.{Read, Write}
use Rattle.uart_16550.specs.Choice.{PartAtRead, LeavesNoChoice, answers, IsAnsweredFrom, Agree, AgreeSaving, IsFunction, IsSame}
use Rattle.uart_16550.specs.Choice.{HasOneOutcome, HasOneOutcomeSaving}
use Rattle.uart_16550.specs.Grammar.{Language}
use Rattle.uart_16550.specs.Driver.{Made, Doing, Fields, Saving, fields, backend_of}
use Rattle.uart_16550.specs.declared.driver.Uart16550.{Uart16550}
use Rattle.uart_16550.proofs.determined.Repeated.{same_first}

-- over one stream
pub answers_append : (l m : List Access) → answers (l ++ m) ≡ answers l ++ answers m
answers_append [] m = refl
answers_append (Read offset answer ∷ l) m = ap (λ xs. answer ∷ xs) (answers_append l m)
answers_append (Write offset value ∷ l) m = answers_append l m

-- a list whose reads return the front of the stream, cut at a read
cut_at : (stream : List ℕ) (l front rest : List Access) (register answer : ℕ) → IsAnsweredFrom stream l →
    l ≡ front ++ Read register answer ∷ rest →
    (more : List ℕ) × (stream ≡ answers front ++ (answer ∷ more))
cut_at stream l front rest register answer fed is = (
  answers rest ++ fed.0,
  fed.1 ∙ ap (λ x. answers x ++ fed.0) is ∙ ap (λ xs. xs ++ fed.0) (answers_append front (Read register answer ∷ rest))
      ∙ append_assoc (answers front) (answer ∷ answers rest) fed.0,
)

-- the reads of lists that part at a read do not return the front of one stream
pub never_part : (stream : List ℕ) (l m : List Access) → IsAnsweredFrom stream l → IsAnsweredFrom stream m → PartAtRead l m → ⊥
never_part stream l m p q part =
    let a = cut_at stream l part.front part.rest part.register part.answer p part.is_one in
    let b = cut_at stream m part.front part.other_rest part.register part.other_answer q part.is_other in
    part.differs (same_first
    (append_cancel_left (answers part.front) (part.answer ∷ a.0) (part.other_answer ∷ b.0) (sym a.1 ∙ b.1)))

pub agree : {R B C : Type 0} {G : R → Doing} {step : B → Access → B → Type 0} {other_step : C → Access → C → Type 0} → LeavesNoChoice G →
    Agree G step other_step
agree {R} {B} {C} {G} law stream a b old new other_old other_new p q same x y =
    let F : Fields → Type 0 = λ f. G b f q.list (fields other_new) in
    same_call (law (fields old) a b p.list q.list (fields new) (fields other_new) p.does (subst F (sym same) q.does))
  where
    same_call : ((a ≡ b) × (p.list ≡ q.list) × (fields new ≡ fields other_new)) ⊎ PartAtRead p.list q.list →
        (a ≡ b) × (p.list ≡ q.list) × (fields new ≡ fields other_new)
    same_call (inl all) = all
    same_call (inr part) = absurd (never_part stream p.list q.list x y part)

-- what a call does that saves what it reads
pub saved : {B : Type 0} {step : B → Access → B → Type 0} {L : Language} {old new : Uart16550 B} → (p : Made step L old new) →
    Saving L (fields old) p.list (fields new)
saved p = (
  p.fits,
  λ i. record {
    config = p.config i;
    fifo = p.fifo i;
    size = p.size i;
    lsr = p.lsr i;
    msr = p.msr i;
    limit = non_zero_u64_get (p.limit i);
  },
)

pub agree_saving : {R B C : Type 0} (L : R → Language) {step : B → Access → B → Type 0} {other_step : C → Access → C → Type 0} →
    LeavesNoChoice (λ a. Saving (L a)) → AgreeSaving L step other_step
agree_saving {R} {B} {C} L {step} {other_step} law stream a b old new other_old other_new p q same x y =
    agree {G = λ r. Saving (L r)} law stream a b old new other_old other_new
    (record { list = p.list; path = p.path; does = saved p })
    (record { list = q.list; path = q.path; does = saved q }) same x y

-- over a backend whose step is a function, one list leads to one state
path_one : {B : Type 0} {step : B → Access → B → Type 0} → IsFunction step → (s t u : B) (l : List Access) → Path step s l t →
    Path step s l u → t ≡ u
path_one one s t u [] p q = p ∙ sym q
path_one {B} {step} one s t u (Read register answer ∷ l) p q =
    let P : B → Type 0 = λ x. Path step x l u in
    path_one one p.0 t u l p.2 (subst P (sym (one.read s p.0 q.0 register answer answer p.1 q.1).1) q.2)
path_one {B} {step} one s t u (Write register value ∷ l) p q =
    let P : B → Type 0 = λ x. Path step x l u in path_one one p.0 t u l p.2 (subst P (sym (one.write s p.0 q.0 register value p.1 q.1)) q.2)

-- and a read after it returns one value
path_reads : {B : Type 0} {step : B → Access → B → Type 0} → IsFunction step →
    (s t u : B) (front rest other_rest : List Access) (register a b : ℕ) →
    Path step s (front ++ Read register a ∷ rest) t → Path step s (front ++ Read register b ∷ other_rest) u → a ≡ b
path_reads one s t u [] rest other_rest register a b p q = (one.read s p.0 q.0 register a b p.1 q.1).0
path_reads {B} {step} one s t u (Read offset answer ∷ front) rest other_rest register a b p q =
    let P : B → Type 0 = λ x. Path step x (front ++ Read register b ∷ other_rest) u in
    path_reads one p.0 t u front rest other_rest register a b p.2 (subst P (sym (one.read s p.0 q.0 offset answer answer p.1 q.1).1) q.2)
path_reads {B} {step} one s t u (Write offset value ∷ front) rest other_rest register a b p q =
    let P : B → Type 0 = λ x. Path step x (front ++ Read register b ∷ other_rest) u in
    path_reads one p.0 t u front rest other_rest register a b p.2 (subst P (sym (one.write s p.0 q.0 offset value p.1 q.1)) q.2)

-- so its paths never part
never_parted : {B : Type 0} {step : B → Access → B → Type 0} → IsFunction step → (s t u : B) (l m : List Access) → Path step s l t →
    Path step s m u → PartAtRead l m → ⊥
never_parted {B} {step} one s t u l m p q part =
    let P : List Access → Type 0 = λ x. Path step s x t in
    let Q : List Access → Type 0 = λ x. Path step s x u in
    part.differs (path_reads one s t u part.front part.rest part.other_rest part.register part.answer part.other_answer
    (subst P part.is_one p) (subst Q part.is_other q))

pub one_outcome : {R B : Type 0} {G : R → Doing} {step : B → Access → B → Type 0} → LeavesNoChoice G → IsFunction step →
    HasOneOutcome G step
one_outcome {R} {B} {G} {step} law one a b old new other_old other_new p q same =
    let F : Fields → Type 0 = λ f. G b f q.list (fields other_new) in
    let S : B → Type 0 = λ s. Path step s q.list (backend_of other_new) in
    same_call (subst S (sym same.1) q.path)
    (law (fields old) a b p.list q.list (fields new) (fields other_new) p.does (subst F (sym same.0) q.does))
  where
    same_call : Path step (backend_of old) q.list (backend_of other_new) →
        ((a ≡ b) × (p.list ≡ q.list) × (fields new ≡ fields other_new)) ⊎ PartAtRead p.list q.list →
        (a ≡ b) × IsSame new other_new
    same_call path (inl (outcome, list, after)) =
        let P : List Access → Type 0 = λ l. Path step (backend_of old) l (backend_of new) in
        (outcome, (after, path_one one (backend_of old) (backend_of new) (backend_of other_new) q.list (subst P list p.path) path))
    same_call path (inr part) =
        absurd (never_parted one (backend_of old) (backend_of new) (backend_of other_new) p.list q.list p.path path part)

pub one_outcome_saving : {R B : Type 0} (L : R → Language) {step : B → Access → B → Type 0} → LeavesNoChoice (λ a. Saving (L a)) →
    IsFunction step → HasOneOutcomeSaving L step
one_outcome_saving L law one a b old new other_old other_new p q same =
    one_outcome {G = λ r. Saving (L r)} law one a b old new other_old other_new
    (record { list = p.list; path = p.path; does = saved p })
    (record { list = q.list; path = q.path; does = saved q }) same
