-- What `take_line` and `take_modem` tell in a session.
use Rattle.uart_ring_runs.proofs.Names.{◌≡◌, ℕ, Bool, min, not, ◌==◌, List, [], ◌∷◌, ◌++◌, take, Option, refl, arith, sym, ◌∙◌, ap, subst}
use Rattle.uart_ring_runs.proofs.Names.{bit_and, bit_or, Path, Access, Read, has_any, Fields, Character, MachineState, MachineStep}
use Rattle.uart_ring_runs.proofs.Names.{reported_front, IsTold, AllTold, each-append, Modes, fixed, look_clears, status_clears}
use Rattle.uart_ring_runs.proofs.Names.{taken_entered, step_is, ended, InSession, same_cut, RingDoing, RingFields, ring_fields, TakesLine}
use Rattle.uart_ring_runs.proofs.Names.{TakesModem, RingCall, RingAnswer, RingState, under, ring_machine, RingCalled, RingCallStep}
use Rattle.uart_ring_runs.proofs.Names.{RingLink, RingChain, line_answer, modem_answer, RingTells, NeitherIs, AllWithinRingSession}
use Rattle.std.specs.Int.{bit_at}
use Rattle.std.proofs.lemmas.Nat.Bits.{same_from_bits, bit_at_or, bit_at_and}
use Rattle.uart_spec.specs.Bits.{IsWithin}
use Rattle.uart_spec.specs.declared.registers.line_status.TheConstants.LSR
use Rattle.uart_spec.specs.declared.registers.modem_status.TheConstants.MSR
use Rattle.uart_spec.specs.declared.registers.offsets.TheConstants as offsets
use Rattle.uart_chip.proofs.statuses.StatusLaws.{LsrTells, lsr_tells, MsrTells, msr_tells, told-by, all_told-by}
use Rattle.uart_run.proofs.StatusSessions.{After}
use Rattle.uart_ring_runs.specs.declared.call.RingCall.TheVariants as call
use Rattle.uart_ring_runs.specs.declared.call.RingAnswer.TheVariants.{Line, Modem}
use Rattle.uart_run.specs.Statuses.{TellsLine}
use Rattle.uart_ring_runs.proofs.RingLasts.{first_within, within-front}
use Rattle.uart_ring_runs.proofs.RingGoes.{ChainGoes, line_of_driver, modem_of_driver, ring_goes_call, ring_goes_chain, in_session-gone}

-- ---- bits

-- a status, joined with what was saved and noted, has all that it has with the masked part of those
wider : (e status noted saved mask : ℕ) → IsWithin e (bit_or status (bit_and (bit_or noted saved) mask)) →
    IsWithin e (bit_or (bit_or status saved) noted)
wider e status noted saved mask h = same_from_bits _ _ (λ i. at i)
  where
    at : (i : ℕ) → bit_at (bit_and e (bit_or (bit_or status saved) noted)) i ≡ bit_at e i
    at i =
        let p : min (bit_at e i) (bit_at (bit_or status (bit_and (bit_or noted saved) mask)) i) ≡ bit_at e i =
        sym (bit_at_and e (bit_or status (bit_and (bit_or noted saved) mask)) i) ∙ ap (λ n. bit_at n i) h in
        let a = bit_at_or status (bit_and (bit_or noted saved) mask) i in
        let b = bit_at_and (bit_or noted saved) mask i in
        let c = bit_at_or noted saved i in
        let d = bit_at_and e (bit_or (bit_or status saved) noted) i in
        let f = bit_at_or (bit_or status saved) noted i in
        let g = bit_at_or status saved i in
        omega (arith, p, a, b, c, d, f, g)

-- the two are the same in each part of the mask
abbrev SameWithin : (mask a b : ℕ) → Type 0
SameWithin mask a b = (part : ℕ) → IsWithin part mask → bit_and b part ≡ bit_and a part

same_within : (status noted saved mask : ℕ) →
    SameWithin mask (bit_or status (bit_and (bit_or noted saved) mask)) (bit_or (bit_or status saved) noted)
same_within status noted saved mask part h = same_from_bits _ _ (λ i. at i)
  where
    at : (i : ℕ) → bit_at (bit_and (bit_or (bit_or status saved) noted) part) i ≡
        bit_at (bit_and (bit_or status (bit_and (bit_or noted saved) mask)) part) i
    at i =
        let p : min (bit_at part i) (bit_at mask i) ≡ bit_at part i = sym (bit_at_and part mask i) ∙ ap (λ n. bit_at n i) h in
        let a = bit_at_and (bit_or (bit_or status saved) noted) part i in
        let b = bit_at_or (bit_or status saved) noted i in
        let c = bit_at_or status saved i in
        let d = bit_at_and (bit_or status (bit_and (bit_or noted saved) mask)) part i in
        let e = bit_at_or status (bit_and (bit_or noted saved) mask) i in
        let f = bit_at_and (bit_or noted saved) mask i in
        let g = bit_at_or noted saved i in
        omega (arith, p, a, b, c, d, e, f, g)

-- ---- what is told by the masked part is told by the whole

lsr_tells-wider : (x : Modes) (m o : MachineState) (made : List Access) (ws : List ℕ) (ts : List Character) (kept a b : ℕ) →
    ((e : ℕ) → IsWithin e a → IsWithin e b) → SameWithin LSR.LINE_ERRORS.0 a b →
    LsrTells x m o made ws ts kept a → LsrTells x m o made ws ts kept b
lsr_tells-wider x m o made ws ts kept a b h same t =
    let k : has_any b LSR.OVERRUN_ERROR.0 ≡ has_any a LSR.OVERRUN_ERROR.0 = ap (λ v. not (v == 0)) (same LSR.OVERRUN_ERROR.0 refl) in
    record {
      passed = t.passed;
      cleared = t.cleared;
      drop_told = λ d. k ∙ t.drop_told d;
      told_drop = λ none quiet e. t.told_drop none quiet (sym k ∙ e);
      taken_told = all_told-by x.fifo (reported_front m.chip.receiver) a b h (λ e. k ∙ e) ts t.taken_told;
      front_told = λ f others i. told-by x.fifo (reported_front m.chip.receiver) a b h (λ e. k ∙ e) f (t.front_told f others i);
    }

msr_tells-wider : (x : Modes) (m o : MachineState) (made : List Access) (ws : List ℕ) (ts : List Character) (kept a b : ℕ) →
    ((e : ℕ) → IsWithin e a → IsWithin e b) → SameWithin MSR.CHANGES.0 a b →
    MsrTells x m o made ws ts kept a → MsrTells x m o made ws ts kept b
msr_tells-wider x m o made ws ts kept a b h same t = record {
  passed = t.passed;
  cleared = t.cleared;
  changes_told = h _ t.changes_told;
  exactly_told = λ none quiet. same MSR.CHANGES.0 refl ∙ t.exactly_told none quiet;
}

-- the bits of an answer
abbrev bits_of : RingAnswer → ℕ
bits_of (Line line) = line.0
bits_of (Modem modem) = modem.0
bits_of other = 0

-- ---- the two calls

-- what the driver saved of a register and what the rings noted, of which these bits are still to be told
pub record StatusRegister : Type 0 where
  pub offset : ℕ
  pub mask : ℕ
  pub saved : RingFields → ℕ
  pub noted : RingFields → ℕ

abbrev untold : StatusRegister → RingState → ℕ
untold r s = bit_and (bit_or (r.noted (ring_fields s)) (r.saved (ring_fields s))) r.mask

-- such a call: it read its register once, told what it read, what was saved and what was noted, and left nothing to be told
record RingTook (r : StatusRegister) (s : RingState) (a : RingAnswer) (t : RingState) : Type 0 where
  pub status : ℕ
  pub path : Path MachineStep (ring_machine s) (Read r.offset status ∷ []) (ring_machine t)
  pub told : bits_of a ≡ bit_or (bit_or status (r.saved (ring_fields s))) (r.noted (ring_fields s))
  pub emptied : untold r t ≡ 0

ring_takes : (r : StatusRegister) (Takes : ℕ → RingDoing) (answer_of : ℕ → RingAnswer) →
    ((result : ℕ) (f : RingFields) (l : List Access) (after : RingFields) → Takes result f l after → (status : ℕ)
    × (l ≡ Read r.offset status ∷ []) × (bits_of (answer_of result) ≡ bit_or (bit_or status (r.saved f)) (r.noted f))) →
    ((result : ℕ) (f : RingFields) (l : List Access) (after : RingFields) → Takes result f l after →
    bit_and (bit_or (r.noted after) (r.saved after)) r.mask ≡ 0) →
    (s t : RingState) (a : RingAnswer) → RingCalled MachineStep Takes answer_of a s t → RingTook r s a t
ring_takes r Takes answer_of does empties s t a step =
    let took = does step.outcome _ _ _ step.did.does in
    record {
      status = took.0;
      path = rw took.1 at step.did.path;
      told = ap bits_of step.answered ∙ took.2;
      emptied = empties step.outcome _ _ _ step.did.does;
    }

-- what `take_line` and `take_modem` have in common: the register, what the call tells, and that no such call comes before, nor the
-- driver's own that tells the same
record IsRingStatus (r : StatusRegister)
    (T : Modes → MachineState → MachineState → List Access → List ℕ → List Character → ℕ → ℕ → Type 0) (c d : RingCall)
    (answer_of : ℕ → RingAnswer) : Type 0 where
  pub took : (s t : RingState) (a : RingAnswer) → RingCallStep s c a t → RingTook r s a t
  pub tells : (x : Modes) (s n t : RingState) (links : List RingLink) → NeitherIs c d links → (g : ChainGoes x links s n) (status : ℕ) →
      Path MachineStep (ring_machine n) (Read r.offset status ∷ []) (ring_machine t) →
      T g.modes (ring_machine s) (ring_machine t) (g.made ++ Read r.offset status ∷ []) g.written g.passed.takes (untold r s)
      (bit_or status (untold r n))
  pub wider : (y : Modes) (m o : MachineState) (made : List Access) (ws : List ℕ) (ts : List Character) (kept a b : ℕ) →
      ((e : ℕ) → IsWithin e a → IsWithin e b) → SameWithin r.mask a b → T y m o made ws ts kept a → T y m o made ws ts kept b

abbrev line_register : StatusRegister
line_register = record { offset = offsets.LSR; mask = LSR.LINE_ERRORS.0; saved = λ f. f.driver.lsr; noted = λ f. f.line }

abbrev modem_register : StatusRegister
modem_register = record { offset = offsets.MSR; mask = MSR.CHANGES.0; saved = λ f. f.driver.msr; noted = λ f. f.modem }

took_line : (s t : RingState) (a : RingAnswer) → RingCallStep s call.TakeLine a t → RingTook line_register s a t
took_line =
    ring_takes line_register TakesLine line_answer (λ _ f _ _ d. (d.2.0.0, d.2.0.1, d.1 ∙ ap (λ v. bit_or v f.line) d.2.0.2))
    (λ _ _ _ _ d. rw (ap (λ (g : RingFields). g.line) d.2.1, ap (λ (g : Fields). g.lsr) d.2.0.3) refl)

took_modem : (s t : RingState) (a : RingAnswer) → RingCallStep s call.TakeModem a t → RingTook modem_register s a t
took_modem =
    ring_takes modem_register TakesModem modem_answer (λ _ f _ _ d. (d.2.0.0, d.2.0.1, d.1 ∙ ap (λ v. bit_or v f.modem) d.2.0.2))
    (λ _ _ _ _ d. rw (ap (λ (g : RingFields). g.modem) d.2.1, ap (λ (g : Fields). g.msr) d.2.0.3) refl)

line_status : IsRingStatus line_register LsrTells call.TakeLine line_of_driver line_answer
line_status = record {
  took = took_line;
  tells = λ x s n t _ none g status path. lsr_tells g.modes _ _ _ _ _ _ status _ _ _ g.open_modes g.passed.passed path (g.line none) refl;
  wider = λ y m o. lsr_tells-wider y m o;
}

modem_status : IsRingStatus modem_register MsrTells call.TakeModem modem_of_driver modem_answer
modem_status = record {
  took = took_modem;
  tells = λ x s n t _ none g status path. msr_tells g.modes _ _ _ _ _ _ status _ _ _ g.open_modes g.passed.passed path (g.modem none) refl;
  wider = λ y m o. msr_tells-wider y m o;
}

-- ---- in a session

-- what is told, in the modes that the session has come to
record ToldIn (T : Modes → MachineState → MachineState → List Access → List ℕ → List Character → ℕ → ℕ → Type 0) (x : Modes) (kept : ℕ)
    (s t : RingState) (value : ℕ) : Type 0 where
  pub modes : Modes
  pub same : fixed modes ≡ fixed x
  pub after : After (T modes) kept (under s) (under t) value

module _ {r : StatusRegister} {T : Modes → MachineState → MachineState → List Access → List ℕ → List Character → ℕ → ℕ → Type 0}
    {c d : RingCall} {answer_of : ℕ → RingAnswer} (i : IsRingStatus r T c d answer_of) where
  -- what such a call tells after calls without one
  ring_status_after : (x : Modes) (s n t : RingState) (links : List RingLink) (value : ℕ) → InSession x (under s) →
      AllWithinRingSession s links → NeitherIs c d links → RingChain s links n → RingCallStep n c (answer_of value) t →
      ToldIn T x (untold r s) s t (bits_of (answer_of value))
  ring_status_after x s n t links value w within none chain step =
      let g = ring_goes_chain x s n links w within chain in
      let took = i.took n t (answer_of value) step in
      let made = g.made ++ Read r.offset took.status ∷ [] in
      let noted = r.noted (ring_fields n) in
      let saved = r.saved (ring_fields n) in
      let Told : ℕ → Type 0 = λ v. T g.modes (ring_machine s) (ring_machine t) made g.written g.passed.takes (untold r s) v in
      record {
        modes = g.modes;
        same = g.same;
        after = record {
          made = made;
          written = g.written;
          takes = g.passed.takes;
          tells = subst Told (sym took.told) (i.wider g.modes _ _ made g.written g.passed.takes (untold r s) _ _
              (λ e h. wider e took.status noted saved r.mask h) (same_within took.status noted saved r.mask)
              (i.tells x s n t links none g took.status took.path));
        };
      }

  -- the session ends with that call
  ring_at_end : (x : Modes) (s t : RingState) (some : List RingLink) (last : RingLink) (value : ℕ) → InSession x (under s) →
      AllWithinRingSession s (some ++ last ∷ []) → RingChain s (some ++ last ∷ []) t → NeitherIs c d some → last.call ≡ c →
      last.answer ≡ answer_of value → ToldIn T x (untold r s) s t (bits_of (answer_of value))
  ring_at_end x s t some last value w within chain none is answered =
      ended RingCallStep s t some last c (answer_of value) (λ u. ToldIn T x (untold r s) s u (bits_of (answer_of value)))
      (λ n u before step. ring_status_after x s n u some value w (within-front s some (last ∷ []) within) none before step)
      chain is answered

  -- and it begins with one
  ring_since_first : (x : Modes) (s t : RingState) (first : RingLink) (some : List RingLink) (last : RingLink) (value : ℕ) →
      InSession x (under s) → AllWithinRingSession s (first ∷ (some ++ last ∷ [])) → RingChain s (first ∷ (some ++ last ∷ [])) t →
      NeitherIs c d some → first.call ≡ c → last.call ≡ c → last.answer ≡ answer_of value →
      RingTook r first.before first.answer first.after
      × (y : Modes) × ToldIn T y (untold r first.after) first.after t (bits_of (answer_of value))
  ring_since_first x s t first some last value w within chain none begins is answered =
      let W : RingState → Type 0 = λ v. InSession x (under v) in
      let here = subst W (sym chain.0) w in
      let j = first_within s t first (some ++ last ∷ []) within chain in
      let step = step_is RingCallStep first.before first.after first.call c first.answer first.answer begins refl chain.1 in
      let g = ring_goes_call x first.before first.after first.call first.answer here j.here chain.1 in
      let after = in_session-gone x _ _ _ _ first.before first.after _ here g in (
        i.took first.before first.after first.answer step,
        g.modes,
        ring_at_end g.modes first.after t some last value after j.later chain.2 none is answered,
      )

-- the character in front is told
first_told : (fifo : Bool) (old : Option Character) (line : ℕ) (queue : List Character) →
    ((f : Character) (others : List Character) → queue ≡ f ∷ others → IsTold fifo old line f) → AllTold fifo old line (take 1 queue)
first_told fifo old line [] h = tt
first_told fifo old line (f ∷ others) h = (h f others refl, tt)

-- a line status at the end of a session
line_told : {kept : ℕ} (x y : Modes) (s t : RingState) (value : ℕ) → InSession x (under s) → fixed y ≡ fixed x →
    After (LsrTells y) kept (under s) (under t) value → TellsLine (under s) (under t) value
line_told x y s t value w same a =
    let m = ring_machine s in
    let n = ring_machine t in
    let old = reported_front m.chip.receiver in
    let queue = n.chip.receiver.queue in
    let all : AllTold y.fifo old value (a.takes ++ take 1 queue) =
    each-append (IsTold y.fifo old value) a.takes (take 1 queue) a.tells.taken_told
    (first_told y.fifo old value queue a.tells.front_told) in
    record {
      drop = a.tells.drop_told;
      taken = a.takes;
      was_taken = taken_entered y m n a.made a.written a.takes (w.stands.modes.cut ∙ sym (same_cut x y same)) a.tells.passed;
      errors = rw a.tells.passed.went.modes.fifo all;
    }

pub ring_tells : (x : Modes) (s t : RingState) (links : List RingLink) → InSession x (under s) → AllWithinRingSession s links →
    RingChain s links t → RingTells s links t
ring_tells x s t links w within chain = record {
  line = λ some last value is none c a.
      let e = ring_at_end line_status x s t some last value w (rw is at within) (rw is at chain) none c a in
      line_told x e.modes s t value w e.same e.after;
  only_drops = λ first some last value is none b c a.
      let both = ring_since_first line_status x s t first some last value w (rw is at within) (rw is at chain) none b c a in
      both.2.after.tells.told_drop both.0.emptied (ap (λ (m : MachineState). m.chip.receiver.is_overrun) both.0.path.2 ∙
      look_clears (ring_machine first.before) both.0.path.0 both.0.status both.0.path.1);
  changes = λ some last value is none c a.
      (ring_at_end modem_status x s t some last value w (rw is at within) (rw is at chain) none c a).after.tells.changes_told;
  only_changes = λ first some last value is none b c a.
      let both = ring_since_first modem_status x s t first some last value w (rw is at within) (rw is at chain) none b c a in
      both.2.after.tells.exactly_told both.0.emptied (ap (λ (m : MachineState). m.chip.modem.deltas) both.0.path.2 ∙
      status_clears (ring_machine first.before) both.0.path.0 both.0.status both.0.path.1);
}
