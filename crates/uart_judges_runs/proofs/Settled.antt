-- What the judge knows while nothing gives another cause, and that a harmless step leaves it so and has no warning without a cause.
use Rattle.std.proofs.Common.{◌≡◌, ℕ, Bool, true, false, not, ◌&&◌, ◌==◌, ◌⊎◌, inl, inr, Option, Some, None, refl, sym}
use Rattle.std.proofs.Common.{◌∙◌, ap, arith, if◌then◌else◌, bit_and, bit_or, is_some}
use Rattle.std.specs.Prelude.{nat_lt, find}
use Rattle.std.specs.Option.{option_or}
use Rattle.std.specs.Int.{bit_at}
use Rattle.std.proofs.lemmas.Bool.{and_left, and_right}
use Rattle.std.proofs.lemmas.Grind.{common_steps}
use Rattle.std.proofs.lemmas.Nat.{and_assoc}
use Rattle.std.proofs.Math.Bool.{or-false}
use lib.Bits.{or_zero_r}
use Rattle.uart_spec.specs.Bits.{field, has, has_any}
use Rattle.uart_spec.specs.Fields.{interrupt_code}
use Rattle.uart_spec.specs.Orders.{interrupt_types}
use Rattle.uart_spec.specs.declared.registers.fifo_control.TheConstants.FCR as fcr_bits
use Rattle.uart_spec.specs.declared.registers.interrupt_enable.IER.{IER}
use Rattle.uart_spec.specs.declared.registers.interrupt_status.ISR.{ISR}
use Rattle.uart_spec.specs.declared.registers.interrupt_status.TheConstants.ISR as isr_bits
use Rattle.uart_spec.specs.declared.registers.interrupt_type.InterruptType.{InterruptType}
use Rattle.uart_spec.specs.declared.registers.line_control.LCR.{LCR}
use Rattle.uart_spec.specs.declared.registers.line_control.TheConstants.LCR as lcr_bits
use Rattle.uart_spec.specs.declared.registers.line_status.TheConstants.LSR as lsr_bits
use Rattle.uart_spec.specs.declared.registers.modem_control.MCR.{MCR}
use Rattle.uart_spec.specs.declared.registers.modem_status.TheConstants.MSR as msr_bits
use Rattle.uart_chip.proofs.Bits.{and_or, has_bit, has_one, has_or}
use Rattle.uart_judges.specs.Actions.{action}
use Rattle.uart_judges.specs.Findings.{all_found, arrived_at, asks_for_cts, cuts, enables_bytes, enables_some}
use Rattle.uart_judges.specs.Findings.{frame, is_cut_off, is_held, is_in_break, is_other_frame, is_zero, put_out, when}
use Rattle.uart_judges.specs.History.{cts_after, next, next_since, step_from}
use Rattle.uart_judges.specs.Setups.{next_is_open}
use Rattle.uart_judges.specs.Shows.{arrives, fifo_of, high_of, identified, identified_by, interrupts_of, is_cut, line_of, low_of, modem_of}
use Rattle.uart_judges.specs.Shows.{sends, shows_none}
use Rattle.uart_judges.specs.Steps.{cts_in, loops_back}
use Rattle.uart_judges.specs.Unread.{after_arrival, and, arrived_after, front, maybe_taken, seen, unknown, unread_after}
use Rattle.uart_judges.specs.declared.audit.action.Action.{Action}
use Rattle.uart_judges.specs.declared.audit.action.Action.TheVariants.{Arrives, Receives, Sends, SetsDivisorLow, SetsDivisorHigh}
use Rattle.uart_judges.specs.declared.audit.action.Action.TheVariants.{ControlsFifo, ReadsLine, SetsLine, ReadsModem, SetsModem}
use Rattle.uart_judges.specs.declared.audit.action.Action.TheVariants.{EnablesInterrupts, ShowsInterrupts, IdentifiesInterrupt}
use Rattle.uart_judges.specs.declared.audit.action.Action.TheVariants.{LooksAtLine, LooksAtModem, MayReceive, MaySend}
use Rattle.uart_judges.specs.declared.audit.auditor.Auditor.{Auditor}
use Rattle.uart_judges.specs.declared.audit.finding.Finding.TheVariants as found
use Rattle.uart_judges.specs.declared.audit.setup.Setup.{Setup}
use Rattle.uart_judges.specs.declared.audit.step.Step.{Step}
use Rattle.uart_judges.specs.declared.audit.unread.Arrived.{Arrived}
use Rattle.uart_judges.specs.declared.audit.unread.Unread.{Unread}
use Rattle.uart_judges.specs.declared.recording.entry.Entry.{Entry}
use Rattle.uart_judges_runs.specs.Causes.{Causes, Fits, line_while}
use Rattle.uart_judges_runs.specs.Lost.{IsSo}
use Rattle.uart_judges_runs.specs.Recorded.{NoneIs}
use Rattle.uart_judges_runs.proofs.Founded as founded
use Rattle.uart_judges_runs.proofs.Founded.{Founded, StaysFrame, all_founded, is_of_caller}
use Rattle.uart_judges_runs.proofs.Steps.{opens_latch}

-- ---- LCR

pub dlab_while : (opened : Bool) (line : ℕ) → has line lcr_bits.DLAB.0 ≡ false → has (line_while opened line) lcr_bits.DLAB.0 ≡ opened
dlab_while true line e = opens_latch line
dlab_while false line e = e

same_if : (b d : Bool) (x y v w : ℕ) → b ≡ d → x ≡ v → y ≡ w → (if b then x else y) ≡ (if d then v else w)
same_if b d x y v w p q r = rw (p, q, r) refl

-- the divisor latch has nothing to do with the frame
frame_opened : (line : ℕ) → frame (record { 0 = bit_or line lcr_bits.DLAB.0 }) ≡ frame (record { 0 = line })
frame_opened line =
    same_if _ _ _ _ _ _
    (has_one 3 (bit_or line 128) ∙ (has_or 3 line 128 ∙ (or-false (has_any line 8) ∙ sym (has_one 3 line))))
    (and_or line 128 127 ∙ or_zero_r (bit_and line 127)) (and_or line 128 71 ∙ or_zero_r (bit_and line 71))

frame_while : (opened : Bool) (line : ℕ) → frame (record { 0 = line_while opened line }) ≡ frame (record { 0 = line })
frame_while true line = frame_opened line
frame_while false line = refl

-- ---- ISR

even_not : (v : ℕ) → (v == 1) ≡ true → (v == 0) ≡ false
even_not v e = grind (arith, common_steps)

no_interrupt : (isr : ISR) (b : Bool) → b ≡ false →
    find (λ (one : InterruptType). b && (field 1 3 isr.0 == interrupt_code one)) interrupt_types ≡ None
no_interrupt isr b e = rw e refl

pub none_identified : (isr : ISR) → has isr.0 isr_bits.INTERRUPT_STATUS.0 ≡ true → identified isr ≡ None
none_identified isr e =
    no_interrupt isr (field 0 1 isr.0 == 0) (even_not (bit_at isr.0 0) (sym (has_bit 0 isr.0) ∙ (sym (has_one 0 isr.0) ∙ e)))

-- ---- IER

less_bits : (v : ℕ) → has_any v 15 ≡ false → has_any v 7 ≡ false
less_bits v e =
    let none : bit_and v 15 ≡ 0 = grind (arith, common_steps) in
    let fewer : bit_and v 7 ≡ 0 = sym (and_assoc 7 v 15) ∙ ap (λ (w : ℕ). bit_and w 7) none in
    ap (λ (w : ℕ). not (w == 0)) fewer

no_bytes : (o : Option IER) → enables_some o ≡ false → enables_bytes o ≡ false
no_bytes None e = refl
no_bytes (Some ier) e = less_bits ier.0 e

-- ---- what is known

-- between two accesses: DLAB is on; MSR showed CTS clear, or may have; LSR showed a byte, and DATA was not read since
pub record Stage : Type 0 where
  pub opened : Bool
  pub held : Bool
  pub looked : Bool

-- the errors of the oldest character were seen; or it is not known
abbrev pub IsSeen : Unread → Type 0
IsSeen u = (u.is_front_seen ≡ true) ⊎ ((u.is_known ≡ false) × (front u ≡ None))

pub record Settled (c : Causes) (line : ℕ) (f : Stage) (a : Auditor) : Type 0 where
  pub dlab : IsSo a.setup.is_open (λ on. on ≡ f.opened)
  pub lcr : IsSo a.setup.line (λ lcr. lcr.0 ≡ line_while f.opened line)
  pub interrupts : c.interrupts_are_on ≡ false → enables_some a.setup.interrupts ≡ false
  pub not_handling : (c.interrupts_are_on && c.isr_is_read) ≡ false → a.is_handling ≡ false
  pub out2 : c.out2_is_off ≡ false → is_cut_off a.setup.modem ≡ false
  pub divisor : c.divisor_is_zero ≡ false → (is_zero a.setup.divisor.low && is_zero a.setup.divisor.high) ≡ false
  pub fifos : c.fifos_are_off ≡ false → IsSo a.setup.has_fifo (λ on. on ≡ true)
  pub clear : (c.cts_is_unchecked && c.msr_is_read) ≡ false → f.held ≡ false → (is_held a.cts && a.was_cts_set) ≡ false
  pub seen : c.fifos_are_off ≡ false → f.looked ≡ true → IsSeen a.unread

-- ---- what an action is to be

abbrev pub Harmless : Causes → (line : ℕ) → Stage → Action → Type 0
Harmless c line f (Receives byte) = c.fifos_are_off ≡ false → f.looked ≡ true
Harmless c line f (Sends byte) =
    (f.opened ≡ false) × (c.bytes_are_cut ≡ false → Fits line byte) × ((c.cts_is_unchecked && c.msr_is_read) ≡ false → f.held ≡ false)
Harmless c line f (SetsDivisorLow value) = ⊥
Harmless c line f (SetsDivisorHigh value) = ⊥
Harmless c line f (EnablesInterrupts ier) = c.interrupts_are_on ≡ false → enables_some (Some ier) ≡ false
Harmless c line f (ShowsInterrupts ier) = c.interrupts_are_on ≡ false → enables_some (Some ier) ≡ false
Harmless c line f (IdentifiesInterrupt isr) =
    ((c.interrupts_are_on && c.isr_is_read) ≡ false → has isr.0 isr_bits.INTERRUPT_STATUS.0 ≡ true)
    × (c.fifos_are_off ≡ false → has isr.0 isr_bits.FIFOS_ENABLED.0 ≡ true)
Harmless c line f (ControlsFifo fcr) = c.fifos_are_off ≡ false → has fcr.0 fcr_bits.FIFO_ENABLE.0 ≡ true
Harmless c line f (ReadsLine lcr) = lcr.0 ≡ line_while f.opened line
Harmless c line f (SetsLine lcr) = lcr.0 ≡ line_while (has lcr.0 lcr_bits.DLAB.0) line
Harmless c line f (ReadsModem mcr) = c.out2_is_off ≡ false → is_cut_off (Some mcr) ≡ false
Harmless c line f (SetsModem mcr) = ⊥
Harmless c line f (LooksAtLine lsr) = f.opened ≡ false
Harmless c line f _ = Unit {0}

-- what is so after it
abbrev opened_at : Action → Bool → Bool
opened_at (SetsLine lcr) before = has lcr.0 lcr_bits.DLAB.0
opened_at _ before = before

abbrev held_at : Action → Bool → Bool
held_at (LooksAtModem msr) before = not (has msr.0 msr_bits.CTS.0)
held_at _ before = before

abbrev looked_at : Action → Bool → Bool
looked_at (LooksAtLine lsr) before = has lsr.0 lsr_bits.DATA_READY.0
looked_at (Receives byte) before = false
looked_at (ControlsFifo fcr) before = false
looked_at _ before = before

abbrev pub at : Action → Stage → Stage
at x f = record { opened = opened_at x f.opened; held = held_at x f.held; looked = looked_at x f.looked }

-- ---- what is known after it

module _ (c : Causes) (line : ℕ) (f : Stage) (off : has line lcr_bits.DLAB.0 ≡ false) where
  dlab_next : (o : Option Bool) (x : Action) → Harmless c line f x → IsSo o (λ on. on ≡ f.opened) →
      IsSo (next_is_open o x) (λ on. on ≡ opened_at x f.opened)
  dlab_next o (SetsLine lcr) h so = refl
  dlab_next o (ReadsLine lcr) h so = ap (λ (v : ℕ). has v lcr_bits.DLAB.0) h ∙ dlab_while f.opened line off
  dlab_next None (LooksAtLine lsr) h so = sym h
  dlab_next (Some on) (LooksAtLine lsr) h so = so
  dlab_next o _ h so = so

  line_next : (l : Option LCR) (x : Action) → Harmless c line f x → IsSo l (λ lcr. lcr.0 ≡ line_while f.opened line) →
      IsSo (option_or (line_of x) l) (λ lcr. lcr.0 ≡ line_while (opened_at x f.opened) line)
  line_next l (SetsLine lcr) h so = h
  line_next l (ReadsLine lcr) h so = h
  line_next l _ h so = so

  interrupts_next : (i : Option IER) (x : Action) → Harmless c line f x → c.interrupts_are_on ≡ false → enables_some i ≡ false →
      enables_some (option_or (interrupts_of x) i) ≡ false
  interrupts_next i (EnablesInterrupts ier) h none e = h none
  interrupts_next i (ShowsInterrupts ier) h none e = h none
  interrupts_next i _ h none e = e

  since_none : (b r h : Bool) → b ≡ false → h ≡ false → next_since b r h ≡ false
  since_none b r h e g = rw (e, g) refl

  handling_next : (b : Bool) (x : Action) → Harmless c line f x → (c.interrupts_are_on && c.isr_is_read) ≡ false → b ≡ false →
      next_since b (shows_none x) (is_some (identified_by x)) ≡ false
  handling_next b (IdentifiesInterrupt isr) h none e =
      since_none b (shows_none (IdentifiesInterrupt isr)) _ e (ap is_some (none_identified isr (h.0 none)))
  handling_next b _ h none e = since_none b false false e refl

  out2_next : (m : Option MCR) (x : Action) → Harmless c line f x → c.out2_is_off ≡ false → is_cut_off m ≡ false →
      is_cut_off (option_or (modem_of x) m) ≡ false
  out2_next m (ReadsModem mcr) h on e = h on
  out2_next m (SetsModem mcr) h on e = absurd h
  out2_next m _ h on e = e

  divisor_next : (low high : Option ℕ) (x : Action) → Harmless c line f x → (is_zero low && is_zero high) ≡ false →
      (is_zero (option_or (low_of x) low) && is_zero (option_or (high_of x) high)) ≡ false
  divisor_next low high (SetsDivisorLow value) h e = absurd h
  divisor_next low high (SetsDivisorHigh value) h e = absurd h
  divisor_next low high _ h e = e

  fifos_next : (o : Option Bool) (x : Action) → Harmless c line f x → c.fifos_are_off ≡ false → IsSo o (λ on. on ≡ true) →
      IsSo (option_or (fifo_of x) o) (λ on. on ≡ true)
  fifos_next o (ControlsFifo fcr) h on so = h on
  fifos_next o (IdentifiesInterrupt isr) h on so = h.1 on
  fifos_next o _ h on so = so

  kept_and : (b d : Bool) → (b && d) ≡ false → (b && next_since d false false) ≡ false
  kept_and true true e = absurd (cc)
  kept_and true false e = refl
  kept_and false d e = refl

  clear_next : (cts : Option Bool) (was looped : Bool) (x : Action) → (f.held ≡ false → (is_held cts && was) ≡ false) →
      held_at x f.held ≡ false → (is_held (cts_after cts x) && next_since was false (cts_in looped x)) ≡ false
  clear_next cts was looped (LooksAtModem msr) clear e = and_left (not (has msr.0 msr_bits.CTS.0)) _ e
  clear_next cts was looped (Sends byte) clear e = refl
  clear_next cts was looped MaySend clear e = refl
  clear_next cts was looped _ clear e = kept_and (is_held cts) was (clear e)

  seen_look : (u : Unread) (o : Option Arrived) → IsSeen (seen u o)
  seen_look u None = inr (refl, refl)
  seen_look u (Some oldest) = inl refl

  seen_if : (b : Bool) (u v : Unread) → IsSeen u → IsSeen v → IsSeen (if b then u else v)
  seen_if true u v p q = p
  seen_if false u v p q = q

  seen_else : (b : Bool) (u v : Unread) → b ≡ false → IsSeen v → IsSeen (if b then u else v)
  seen_else true u v e p = absurd (cc)
  seen_else false u v e p = p

  seen_and : (u : Unread) (new : Arrived) → u.is_front_seen ≡ true → IsSeen (and u new)
  seen_and u new e = seen_if (nat_lt u.count 16) _ u (inl e) (inl e)

  seen_known : (u : Unread) (fifo : Option Bool) (oldest : Option Arrived) (new : Arrived) → IsSo fifo (λ on. on ≡ true) →
      u.is_front_seen ≡ true → IsSeen (arrived_after u fifo oldest new)
  seen_known u (Some true) oldest new so e = seen_and u new e
  seen_known u (Some false) oldest new so e = absurd (cc)
  seen_known u None None new so e = seen_and u new e
  seen_known u None (Some oldest) new so e = inr (refl, refl)

  seen_arrival : (u : Unread) (fifo : Option Bool) (new : Arrived) → IsSo fifo (λ on. on ≡ true) → IsSeen u →
      IsSeen (after_arrival u fifo new)
  seen_arrival u fifo new so (inl e) = seen_if u.is_known _ u (seen_known u fifo (front u) new so e) (inl e)
  seen_arrival u fifo new so (inr (k, n)) = seen_else u.is_known _ u k (inr (k, n))

  seen_maybe : (u : Unread) (o : Option Arrived) → IsSeen u → IsSeen (maybe_taken u o)
  seen_maybe u None p = p
  seen_maybe u (Some oldest) p = inr (refl, refl)

  seen_next : (u : Unread) (s : Step) (x : Action) → IsSo s.setup.has_fifo (λ on. on ≡ true) → (f.looked ≡ true → IsSeen u) →
      looked_at x f.looked ≡ true → IsSeen (unread_after u s x)
  seen_next u s (LooksAtLine lsr) so seen e = rw e (seen_look u (front u))
  seen_next u s (Receives byte) so seen e = absurd (cc)
  seen_next u s (ControlsFifo fcr) so seen e = absurd (cc)
  seen_next u s (Sends byte) so seen e = seen_if (loops_back s.setup.modem) unknown u (inr (refl, refl)) (seen e)
  seen_next u s MaySend so seen e = seen_if (loops_back s.setup.modem) unknown u (inr (refl, refl)) (seen e)
  seen_next u s MayReceive so seen e = seen_maybe u (front u) (seen e)
  seen_next u s (Arrives byte errors) so seen e =
      seen_if (loops_back s.setup.modem) unknown _ (inr (refl, refl)) (seen_arrival u s.setup.has_fifo _ so (seen e))
  seen_next u s _ so seen e = seen e

  pub settled_next : (a : Auditor) (e : Entry) → Harmless c line f (action a.setup.is_open e.happening) → Settled c line f a →
      Settled c line (at (action a.setup.is_open e.happening) f) (next a (step_from a e))
  settled_next a e h k =
      let s = step_from a e in
      record {
        dlab = dlab_next a.setup.is_open s.action h k.dlab;
        lcr = line_next a.setup.line s.action h k.lcr;
        interrupts = λ none. interrupts_next a.setup.interrupts s.action h none (k.interrupts none);
        not_handling = λ none. handling_next a.is_handling s.action h none (k.not_handling none);
        out2 = λ on. out2_next a.setup.modem s.action h on (k.out2 on);
        divisor = λ some. divisor_next a.setup.divisor.low a.setup.divisor.high s.action h (k.divisor some);
        fifos = λ on. fifos_next a.setup.has_fifo s.action h on (k.fifos on);
        clear = λ checks. clear_next a.cts a.was_cts_set (loops_back a.setup.modem) s.action (k.clear checks);
        seen = λ on. seen_next a.unread s s.action (k.fifos on) (k.seen on);
      }

  -- ---- and what is found

  module _ (not_in_break : c.break_is_sent ≡ false → has line lcr_bits.SET_BREAK.0 ≡ false) (a : Auditor) (s : Step) where
    unbroken : (l : Option LCR) → IsSo l (λ lcr. lcr.0 ≡ line_while f.opened line) → f.opened ≡ false → c.break_is_sent ≡ false →
        is_in_break l ≡ false
    unbroken None so shut e = refl
    unbroken (Some lcr) so shut e =
        ap (λ (v : ℕ). has v lcr_bits.SET_BREAK.0) (so ∙ ap (λ (b : Bool). line_while b line) shut) ∙ not_in_break e

    whole : (l : Option LCR) (byte : ℕ) → IsSo l (λ lcr. lcr.0 ≡ line_while f.opened line) → f.opened ≡ false → Fits line byte →
        cuts l byte ≡ false
    whole None byte so shut fits = refl
    whole (Some lcr) byte so shut fits =
        ap (λ (v : ℕ). is_cut (record { 0 = v }) byte) (so ∙ ap (λ (b : Bool). line_while b line) shut) ∙ fits

    output_at : (now : Setup) (x : Action) → IsSo now.line (λ lcr. lcr.0 ≡ line_while f.opened line) → Harmless c line f x →
        Founded c (put_out a now x)
    output_at now (Sends byte) so h =
        founded.given_founded c a now byte (unbroken now.line so h.0) (λ e. whole now.line byte so h.0 (h.1 e))
    output_at now _ so h = founded.nothing c

    flow_at : (x : Action) → Harmless c line f x →
        ((c.cts_is_unchecked && c.msr_is_read) ≡ false → f.held ≡ false → (is_held a.cts && a.was_cts_set) ≡ false) →
        Founded c (if not (sends x) then None
        else if loops_back s.setup.modem then None
        else when ((is_held a.cts && a.was_cts_set) && asks_for_cts a s.setup) found.SentWithoutCts)
    flow_at (Sends byte) h clear = founded.flow_founded c a s false (λ checks. clear checks (h.2 checks))
    flow_at _ h clear = founded.nothing c

    front_seen : (oldest : Arrived) → front a.unread ≡ Some oldest → IsSeen a.unread → a.unread.is_front_seen ≡ true
    front_seen oldest is (inl e) = e
    front_seen oldest is (inr (k, n)) = absurd (let g : Some oldest ≡ None = sym is ∙ n in cc)

    arrival_at : (o : Option Arrived) (x : Action) → front a.unread ≡ o → Harmless c line f x →
        (c.fifos_are_off ≡ false → f.looked ≡ true → IsSeen a.unread) → Founded c (arrived_at a o x)
    arrival_at (Some oldest) (Receives byte) is h seen =
        founded.read_founded c a oldest byte (λ on. front_seen oldest is (seen on (h on)))
    arrival_at None (Receives byte) is h seen = founded.nothing c
    arrival_at o x is h seen = founded.shown_founded c a o x refl

    equal : (m n : ℕ) → m ≡ n → (m == n) ≡ true
    equal m n e = grind (arith, common_steps)

    same_frame : (l : Option LCR) (lcr : LCR) → IsSo l (λ lcr. lcr.0 ≡ line_while f.opened line) →
        lcr.0 ≡ line_while (has lcr.0 lcr_bits.DLAB.0) line → is_other_frame l lcr ≡ false
    same_frame None lcr so is = refl
    same_frame (Some old) lcr so is =
        let frame_of : ℕ → ℕ = λ v. frame (record { 0 = v }) in
        let same : frame old ≡ frame lcr =
        ap frame_of so ∙ (frame_while f.opened line ∙ sym (ap frame_of is ∙ frame_while (has lcr.0 lcr_bits.DLAB.0) line)) in
        and_right (not (has old.0 lcr_bits.SET_BREAK.0)) _ (ap not (equal (frame old) (frame lcr) same))

    frame_at : (x : Action) → IsSo s.setup.line (λ lcr. lcr.0 ≡ line_while f.opened line) → Harmless c line f x → StaysFrame s x
    frame_at (SetsLine lcr) so h = same_frame s.setup.line lcr so h
    frame_at _ so h = tt

    none_at : (x : Action) → Harmless c line f x → (c.interrupts_are_on && c.isr_is_read) ≡ false → identified_by x ≡ None
    none_at (IdentifiesInterrupt isr) h none = none_identified isr (h.0 none)
    none_at _ h none = refl

  pub founded_step : (c.break_is_sent ≡ false → has line lcr_bits.SET_BREAK.0 ≡ false) → (a : Auditor) (e : Entry) →
      Harmless c line f (action a.setup.is_open e.happening) → Settled c line f a → NoneIs (is_of_caller c) (all_found a (step_from a e))
  founded_step free a e h k =
      let s = step_from a e in
      all_founded c a s (record {
        output = output_at free a s s.setup s.action k.lcr h;
        flow = flow_at free a s s.action h k.clear;
        gate = founded.gate_founded c a s (λ none. no_bytes a.setup.interrupts (k.interrupts none)) k.out2;
        arrival = arrival_at free a s (front a.unread) s.action refl h k.seen;
        latch = founded.latched_founded c a s s.action k.divisor;
        change = founded.founded_if c _ _ _ (founded.nothing c)
            (founded.changed_founded c a s s.action (frame_at free a s s.action k.lcr h));
        service = founded.served_founded c a.unserved (identified_by s.action) (none_at free a s s.action h);
        line_up = founded.founded_if c (not (arrives s.action)) _ _ (founded.nothing c)
            (founded.left_up_founded c a s a.up s.time k.not_handling);
      })
