-- What `lsr` and `msr` tell in a session, carried over its calls.
use Rattle.uart_run.proofs.Names.{◌≡◌, ℕ, Bool, List, [], ◌∷◌, ◌++◌, take, Option, refl, sym, ◌∙◌, ap, subst, bit_or, Path, Access, Read}
use Rattle.uart_run.proofs.Names.{Doing, Fields, fields, TakesLsr, TakesMsr, inner_of, Call, Answer, Register, CalledAs, Character}
use Rattle.uart_run.proofs.Names.{MachineState, MachineStep, reported_front, IsTold, AllTold, State, machine_of, CallStep, Link, Chain}
use Rattle.uart_run.proofs.Names.{reported, received, AllNoLsr, AllNoMsr, TellsLine, TellsNoOtherDrop, TellsNoOtherChange, Modes, fixed}
use Rattle.uart_run.proofs.Names.{cut_of, IsOpen, taken_entered, look_clears, status_clears}
use Rattle.uart_spec.specs.declared.registers.offsets.TheConstants as offsets
use Rattle.uart_call.specs.declared.call.Call.TheVariants as call
use Rattle.uart_run.specs.Statuses.{receiver_of, Tells}
use Rattle.uart_chip.proofs.statuses.StatusLaws.{LsrTells, lsr_tells, MsrTells, msr_tells}
use Rattle.uart_run.proofs.{Chains.step_is, Chains.ended, CallLaws.Passes, CallLaws.InSession, FrameLaws.GoOn, FrameLaws.AllAt}
use Rattle.uart_run.proofs.{FrameLaws.session_fits, FrameLaws.in_session-gone, FrameLaws.same_cut, SessionCalls.goes_chain}

-- ---- lists of calls

within-front : (Within : State → Call → Type 0) (xs ys : List Link) → AllAt Within (xs ++ ys) → AllAt Within xs
within-front Within [] ys h = tt
within-front Within (x ∷ xs) ys h = (h.0, within-front Within xs ys h.1)

register_is : (v w : ℕ) → Register v ≡ Register w → v ≡ w
register_is v w e = cc

-- calls without `lsr` or without `msr` in turn, and then that one, which told this
pub record After (T : MachineState → MachineState → List Access → List ℕ → List Character → ℕ → ℕ → Type 0) (kept : ℕ) (s t : State)
    (value : ℕ) : Type 0 where
  pub made : List Access
  pub written : List ℕ
  pub takes : List Character
  pub tells : T (machine_of s) (machine_of t) made written takes kept value

-- that call: it read its register once, told what it read and what was saved, and left nothing saved
record Took (register : ℕ) (saved : Fields → ℕ) (s : State) (a : Answer) (t : State) : Type 0 where
  pub status : ℕ
  pub path : Path MachineStep (machine_of s) (Read register status ∷ []) (machine_of t)
  pub told : a ≡ Register (bit_or status (saved (fields (inner_of s))))
  pub emptied : saved (fields (inner_of t)) ≡ 0

takes_status : (register : ℕ) (saved : Fields → ℕ) (Takes : ℕ → Doing) → ((result : ℕ) (f : Fields) (l : List Access) (after : Fields) →
    Takes result f l after → (status : ℕ) × (l ≡ Read register status ∷ []) × (result ≡ bit_or status (saved f)) × (saved after ≡ 0)) →
    (s t : State) (a : Answer) → CalledAs MachineStep Takes Register a (inner_of s) (inner_of t) → Took register saved s a t
takes_status register saved Takes does s t a step =
    let took = does step.outcome _ _ _ step.did.does in
    record {
      status = took.0;
      path = rw took.1 at step.did.path;
      told = step.answered ∙ ap (λ v. Register v) took.2;
      emptied = took.3;
    }

-- what `lsr` and `msr` have in common: the register and what is saved of it, what the call tells, and that no such call comes before
record IsStatus (x : Modes) (register : ℕ) (saved : Fields → ℕ)
    (T : MachineState → MachineState → List Access → List ℕ → List Character → ℕ → ℕ → Type 0) (c : Call) (NoneOf : List Link → Type 0) :
    Type 0 where
  pub took : (s t : State) (a : Answer) → CallStep s c a t → Took register saved s a t
  pub tells : (s n t : State) (links : List Link) → IsOpen x → NoneOf links →
      (p : Passes x (AllNoLsr links) (AllNoMsr links) s n (reported links) (received links)) (status value : ℕ) →
      Path MachineStep (machine_of n) (Read register status ∷ []) (machine_of t) → value ≡ bit_or status (saved (fields (inner_of n))) →
      T (machine_of s) (machine_of t) (p.made ++ Read register status ∷ []) (reported links) p.passed.takes (saved (fields (inner_of s)))
      value

lsr_status : (x : Modes) → IsStatus x offsets.LSR (λ f. f.lsr) (LsrTells x) call.Lsr AllNoLsr
lsr_status x = record {
  took = takes_status offsets.LSR (λ f. f.lsr) TakesLsr (λ result f l after t. (t.0, t.1, t.2, ap (λ (g : Fields). g.lsr) t.3));
  tells = λ s n t links w none p status value path told. lsr_tells x _ _ _ _ _ _ status _ _ value w p.passed.passed path (p.lsr none) told;
}

msr_status : (x : Modes) → IsStatus x offsets.MSR (λ f. f.msr) (MsrTells x) call.Msr AllNoMsr
msr_status x = record {
  took = takes_status offsets.MSR (λ f. f.msr) TakesMsr (λ result f l after t. (t.0, t.1, t.2, ap (λ (g : Fields). g.msr) t.3));
  tells = λ s n t links w none p status value path told. msr_tells x _ _ _ _ _ _ status _ _ value w p.passed.passed path (p.msr none) told;
}

-- ---- `lsr`

all_told-append : (fifo : Bool) (old : Option Character) (line : ℕ) (xs ys : List Character) → AllTold fifo old line xs →
    AllTold fifo old line ys → AllTold fifo old line (xs ++ ys)
all_told-append fifo old line [] ys h k = k
all_told-append fifo old line (x ∷ xs) ys h k = (h.0, all_told-append fifo old line xs ys h.1 k)

-- the one in front
first_told : (fifo : Bool) (old : Option Character) (line : ℕ) (queue : List Character) →
    ((f : Character) (others : List Character) → queue ≡ f ∷ others → IsTold fifo old line f) → AllTold fifo old line (take 1 queue)
first_told fifo old line [] h = tt
first_told fifo old line (f ∷ others) h = (h f others refl, tt)

tells_line-by : {kept : ℕ} (x : Modes) (s t : State) (value : ℕ) → cut_of (machine_of s).chip ≡ x.cut → After (LsrTells x) kept s t value →
    TellsLine s t value
tells_line-by x s t value cut a =
    let old = reported_front (receiver_of s) in
    let queue = (receiver_of t).queue in
    let all : AllTold x.fifo old value (a.takes ++ take 1 queue) =
    all_told-append x.fifo old value a.takes (take 1 queue) a.tells.taken_told (first_told x.fifo old value queue a.tells.front_told) in
    record {
      drop = a.tells.drop_told;
      taken = a.takes;
      was_taken = taken_entered x (machine_of s) (machine_of t) a.made a.written a.takes cut a.tells.passed;
      errors = rw a.tells.passed.went.modes.fifo all;
    }

pub tells_line : {kept : ℕ} (x : Modes) (s t : State) (value : ℕ) → InSession x s → After (LsrTells x) kept s t value → TellsLine s t value
tells_line x s t value w a = tells_line-by x s t value w.stands.modes.cut a

-- ---- in a session

-- the same in the modes that the session has come to
record AfterIn (T : Modes → MachineState → MachineState → List Access → List ℕ → List Character → ℕ → ℕ → Type 0) (x : Modes) (kept : ℕ)
    (s t : State) (value : ℕ) : Type 0 where
  pub modes : Modes
  pub same : fixed modes ≡ fixed x
  pub after : After (T modes) kept s t value

module _ {Within : State → Call → Type 0} {cut : ℕ → ℕ} (k : GoOn Within cut) {register : ℕ} {saved : Fields → ℕ}
    {T : Modes → MachineState → MachineState → List Access → List ℕ → List Character → ℕ → ℕ → Type 0} {c : Call}
    {NoneOf : List Link → Type 0} (i : (x : Modes) → IsStatus x register saved (T x) c NoneOf) where
  status_after : (x : Modes) (s n t : State) (links : List Link) (value : ℕ) → x.cut ≡ cut → InSession x s → AllAt Within links →
      NoneOf links → Chain s links n → CallStep n c (Register value) t → AfterIn T x (saved (fields (inner_of s))) s t value
  status_after x s n t links value same w within none chain step =
      let g = goes_chain k x s n links same w within chain in
      let p = g.passes in
      let took = (i x).took n t (Register value) step in
      record {
        modes = g.modes;
        same = g.same;
        after = record {
          made = p.made ++ Read register took.status ∷ [];
          written = reported links;
          takes = p.passed.takes;
          tells = (i g.modes).tells s n t links g.open_modes none p took.status value took.path (register_is value _ took.told);
        };
      }

  -- the session ends with that call
  at_end : (x : Modes) (s t : State) (some : List Link) (last : Link) (value : ℕ) → x.cut ≡ cut → InSession x s →
      AllAt Within (some ++ last ∷ []) → Chain s (some ++ last ∷ []) t → NoneOf some → last.call ≡ c → last.answer ≡ Register value →
      AfterIn T x (saved (fields (inner_of s))) s t value
  at_end x s t some last value same w within chain none is answered =
      ended CallStep s t some last c (Register value) (λ u. AfterIn T x (saved (fields (inner_of s))) s u value)
      (λ n u before step. status_after x s n u some value same w (within-front Within some (last ∷ []) within) none before step)
      chain is answered

  -- and it begins with one
  since_first : (x : Modes) (s t : State) (first : Link) (some : List Link) (last : Link) (value : ℕ) → x.cut ≡ cut → InSession x s →
      AllAt Within (first ∷ (some ++ last ∷ [])) → Chain s (first ∷ (some ++ last ∷ [])) t → NoneOf some → first.call ≡ c →
      last.call ≡ c → last.answer ≡ Register value →
      Took register saved first.before first.answer first.after
      × (y : Modes) × AfterIn T y (saved (fields (inner_of first.after))) first.after t value
  since_first x s t first some last value same w within chain none begins is answered =
      let W : State → Type 0 = λ v. InSession x v in
      let here = subst W (sym chain.0) w in
      let step = step_is CallStep first.before first.after first.call c first.answer first.answer begins refl chain.1 in
      let g = k.go x first.before first.after first.call first.answer same here within.0 chain.1 in
      let fits = session_fits x first.before first.after first.call first.answer here chain.1 in
      let after = in_session-gone x _ _ first.before first.after _ _ here g fits in (
        (i x).took first.before first.after first.answer step,
        g.modes,
        at_end g.modes first.after t some last value (same_cut x g.modes g.same ∙ same) after within.1 chain.2 none is answered,
      )

no_other_drop : (x : Modes) (first : Link) (t : State) (value : ℕ) → Took offsets.LSR (λ f. f.lsr) first.before first.answer first.after →
    After (LsrTells x) (fields (inner_of first.after)).lsr first.after t value → TellsNoOtherDrop first.after t value
no_other_drop x first t value took a = a.tells.told_drop took.emptied
    (ap (λ (m : MachineState). m.chip.receiver.is_overrun) took.path.2
    ∙ look_clears (machine_of first.before) took.path.0 took.status took.path.1)

no_other_change : (x : Modes) (first : Link) (t : State) (value : ℕ) → Took offsets.MSR (λ f. f.msr) first.before first.answer first.after →
    After (MsrTells x) (fields (inner_of first.after)).msr first.after t value → TellsNoOtherChange first.after t value
no_other_change x first t value took a = a.tells.exactly_told took.emptied
    (ap (λ (m : MachineState). m.chip.modem.deltas) took.path.2
    ∙ status_clears (machine_of first.before) took.path.0 took.status took.path.1)

pub tells_in : {Within : State → Call → Type 0} {cut : ℕ → ℕ} (k : GoOn Within cut) (x : Modes) (s t : State) (links : List Link) →
    x.cut ≡ cut → InSession x s → AllAt Within links → Chain s links t → Tells s links t
tells_in k x s t links same w within chain = record {
  line = λ some last value is none c a.
      let e = at_end k lsr_status x s t some last value same w (rw is at within) (rw is at chain) none c a in
      tells_line-by e.modes s t value (w.stands.modes.cut ∙ sym (same_cut x e.modes e.same)) e.after;
  only_drops = λ first some last value is none b c a.
      let both = since_first k lsr_status x s t first some last value same w (rw is at within) (rw is at chain) none b c a in
      no_other_drop both.2.modes first t value both.0 both.2.after;
  changes = λ some last value is none c a.
      (at_end k msr_status x s t some last value same w (rw is at within) (rw is at chain) none c a).after.tells.changes_told;
  only_changes = λ first some last value is none b c a.
      let both = since_first k msr_status x s t first some last value same w (rw is at within) (rw is at chain) none b c a in
      no_other_change both.2.modes first t value both.0 both.2.after;
}
