-- What the judge knows of a session, and what changes nothing of it.
use Rattle.std.proofs.Common.{◌≡◌, ◌≤◌, ◌+◌, ◌-◌, ◌^◌, ℕ, Bool, true, false, not, ◌&&◌}
use Rattle.std.proofs.Common.{Option, Some, None, refl, sym, ◌∙◌, ap, subst, arith, if◌then◌else◌, min}
use Rattle.std.specs.Prelude.{nat_le, nat_lt}
use Rattle.std.specs.Option.{option_or}
use Rattle.std.proofs.lemmas.Bool.{and_right}
use Rattle.uart_spec.specs.Bits.{has}
use Rattle.uart_spec.specs.declared.registers.fifo_control.TheConstants.FCR as fcr_bits
use Rattle.uart_spec.specs.declared.registers.interrupt_status.TheConstants.ISR as isr_bits
use Rattle.uart_spec.specs.declared.registers.line_control.TheConstants.LCR as lcr_bits
use Rattle.uart_spec.specs.declared.registers.modem_control.MCR.{MCR}
use Rattle.uart_spec.specs.declared.registers.modem_control.TheConstants.MCR as mcr_bits
use Rattle.uart_spec.specs.declared.setup.FifoSize.{FifoSize}
use Rattle.uart_spec.specs.declared.setup.FifoSize.TheVariants.{Sixteen}
use Rattle.uart_chip.specs.Transmitter.{room as room_of}
use Rattle.uart_judges.specs.Actions.{action}
use Rattle.uart_judges.specs.Findings.{changed, is_at_rest, is_open, latched, put_out, sent_before, taken_from, when}
use Rattle.uart_judges.specs.History.{next, next_count, next_latch, next_since, step_from, waiting_after}
use Rattle.uart_judges.specs.Setups.{next_is_open}
use Rattle.uart_judges.specs.Shows.{fifo_of, modem_of, receives, sends}
use Rattle.uart_judges.specs.Steps.{action_empties, depth, least_depth, loops_back, shows_room}
use Rattle.uart_judges.specs.Unread.{front}
use Rattle.uart_judges.specs.declared.audit.action.Action.{Action}
use Rattle.uart_judges.specs.declared.audit.action.Action.TheVariants.{Receives, Sends, ReadsDivisor, SetsDivisorLow, SetsDivisorHigh}
use Rattle.uart_judges.specs.declared.audit.action.Action.TheVariants.{ControlsFifo, ReadsLine, SetsLine, ReadsModem, SetsModem}
use Rattle.uart_judges.specs.declared.audit.action.Action.TheVariants.{IdentifiesInterrupt, LooksAtLine}
use Rattle.uart_judges.specs.declared.audit.auditor.Auditor.{Auditor}
use Rattle.uart_judges.specs.declared.audit.finding.Finding.TheVariants as found
use Rattle.uart_judges.specs.declared.audit.step.Step.{Step}
use Rattle.uart_judges.specs.declared.recording.entry.Happening.{Happening}
use Rattle.uart_judges.specs.declared.recording.entry.Happening.TheVariants.{Access, Arrive, Interrupt, Lines}
use Rattle.uart_judges_runs.specs.Calls.{KnowsAsTaken}
use Rattle.uart_judges_runs.proofs.Recordings.{IsOther, Stays}
use Rattle.uart_judges_runs.proofs.Spared.{Spared, SixSpared, all_spared, nothing, spared_if}

-- ---- the six findings, as functions of the action

pub record SixAt (size : FifoSize) (a : Auditor) (s : Step) (x : Action) : Type 0 where
  pub room : Spared size (if not (sends x) then None
      else when (nat_le (depth s.setup.has_fifo) (sent_before a s))
      (found.SentBeyondRoom (min (sent_before a s + 1) (2 ^ 64 - 1)) (depth s.setup.has_fifo)))
  pub output : Spared size (put_out a s.setup x)
  pub taken : Spared size (if not (receives x) then None else taken_from (front a.unread) a)
  pub latch : Spared size (latched a s x)
  pub change : Spared size (changed a s x)
  pub discard : action_empties fcr_bits.RX_FIFO_RESET.0 s.setup.has_fifo x ≡ false

pub six_at : (size : FifoSize) (a : Auditor) (s : Step) (x : Action) → s.action ≡ x → SixAt size a s x → SixSpared size a s
six_at size a s x is six =
    let h = subst (λ (x : Action). SixAt size a s x) (sym is) six in
    record {
      room = h.room;
      output = h.output;
      taken = h.taken;
      latch = h.latch;
      change = spared_if _ _ _ nothing h.change;
      discard = discarded (nat_lt 0 a.waiting && not (is_at_rest a s.setup)) _ h.discard;
    }
  where
    discarded : {size : FifoSize} → (b c : Bool) → c ≡ false → Spared size (when (b && c) found.WaitingDiscarded)
    discarded b c e = rw (and_right b c e) nothing

-- ---- what changes nothing of a session

-- it touches no data, writes no mode, and shows the modes as they are taken to be
abbrev pub IsStill : Bool → Action → Type 0
IsStill fifo (Receives byte) = ⊥
IsStill fifo (Sends byte) = ⊥
IsStill fifo ReadsDivisor = ⊥
IsStill fifo (SetsDivisorLow value) = ⊥
IsStill fifo (SetsDivisorHigh value) = ⊥
IsStill fifo (ControlsFifo fcr) = ⊥
IsStill fifo (SetsLine lcr) = ⊥
IsStill fifo (SetsModem mcr) = ⊥
IsStill fifo (ReadsLine lcr) = has lcr.0 lcr_bits.DLAB.0 ≡ false
IsStill fifo (ReadsModem mcr) = has mcr.0 mcr_bits.LOOP_BACK.0 ≡ false
IsStill fifo (IdentifiesInterrupt isr) = has isr.0 isr_bits.FIFOS_ENABLED.0 ≡ fifo
IsStill fifo _ = Unit {0}

still_at : {size : FifoSize} → (fifo : Bool) (a : Auditor) (s : Step) (x : Action) → IsStill fifo x → SixAt size a s x
still_at fifo a s (Receives byte) i = absurd i
still_at fifo a s (Sends byte) i = absurd i
still_at fifo a s ReadsDivisor i = absurd i
still_at fifo a s (SetsDivisorLow value) i = absurd i
still_at fifo a s (SetsDivisorHigh value) i = absurd i
still_at fifo a s (ControlsFifo fcr) i = absurd i
still_at fifo a s (SetsLine lcr) i = absurd i
still_at fifo a s (SetsModem mcr) i = absurd i
still_at fifo a s _ i = record { room = nothing; output = nothing; taken = nothing; latch = nothing; change = nothing; discard = refl }

still_sends : (fifo : Bool) (x : Action) → IsStill fifo x → sends x ≡ false
still_sends fifo (Sends byte) i = absurd i
still_sends fifo _ i = refl

still_receives : (fifo : Bool) (x : Action) → IsStill fifo x → receives x ≡ false
still_receives fifo (Receives byte) i = absurd i
still_receives fifo _ i = refl

closed_after : (o : Option Bool) → is_open o ≡ false → is_open (next_is_open o (LooksAtLine (record { 0 = 0 }))) ≡ false
closed_after None e = refl
closed_after (Some value) e = e

still_open : (fifo : Bool) (o : Option Bool) (x : Action) → IsStill fifo x → is_open o ≡ false → is_open (next_is_open o x) ≡ false
still_open fifo o (SetsLine lcr) i e = absurd i
still_open fifo o (ReadsLine lcr) i e = i
still_open fifo o (LooksAtLine lsr) i e = closed_after o e
still_open fifo o _ i e = e

-- once LSR was looked at, the latch is taken for closed
still_looked : (fifo : Bool) (o : Option Bool) (x : Action) → IsStill fifo x → o ≡ Some false → next_is_open o x ≡ Some false
still_looked fifo o (SetsLine lcr) i e = absurd i
still_looked fifo o (ReadsLine lcr) i e = ap Some i
still_looked fifo o (LooksAtLine lsr) i e = rw e refl
still_looked fifo o _ i e = e

still_loop : (fifo : Bool) (m : Option MCR) (x : Action) → IsStill fifo x → loops_back m ≡ false →
    loops_back (option_or (modem_of x) m) ≡ false
still_loop fifo m (SetsModem mcr) i e = absurd i
still_loop fifo m (ReadsModem mcr) i e = i
still_loop fifo m _ i e = e

room_of_same : (fifo on : Bool) → on ≡ fifo → room_of fifo Sixteen ≤ depth (Some on)
room_of_same true true e = omega arith
room_of_same true false e = absurd (cc)
room_of_same false true e = omega arith
room_of_same false false e = omega arith

still_room : (fifo : Bool) (h : Option Bool) (x : Action) → IsStill fifo x → room_of fifo Sixteen ≤ depth h →
    room_of fifo Sixteen ≤ depth (option_or (fifo_of x) h)
still_room fifo h (ControlsFifo fcr) i e = absurd i
still_room fifo h (IdentifiesInterrupt isr) i e = room_of_same fifo _ i
still_room fifo h _ i e = e

pub knows_still : (fifo : Bool) (a : Auditor) (s : Step) → IsStill fifo s.action → KnowsAsTaken fifo a → KnowsAsTaken fifo (next a s)
knows_still fifo a s i k = record {
  dlab = still_open fifo a.setup.is_open s.action i k.dlab;
  loopback = still_loop fifo a.setup.modem s.action i k.loopback;
  room = still_room fifo a.setup.has_fifo s.action i k.room;
}

pub spared_still : {size : FifoSize} → (fifo : Bool) (a : Auditor) (s : Step) → IsStill fifo s.action → SixSpared size a s
spared_still fifo a s i = six_at _ a s s.action refl (still_at fifo a s s.action i)

-- an entry that is no access is still
pub other_still : (fifo : Bool) (o : Option Bool) (h : Happening) → IsOther h → IsStill fifo (action o h)
other_still fifo o (Access x) i = absurd i
other_still fifo o _ i = tt

pub stays_knows : (size : FifoSize) (fifo : Bool) → Stays size (KnowsAsTaken fifo)
stays_knows size fifo e i a k =
    let s = step_from a e in
    let still : IsStill fifo s.action = other_still fifo a.setup.is_open e.happening i in
    (all_spared size a s (spared_still fifo a s still), knows_still fifo a s still k)

-- ---- while bytes are sent

-- LSR showed room, and so many bytes were sent since, at most
pub record Sending (fifo : Bool) (k : ℕ) (a : Auditor) : Type 0 where
  pub knows : KnowsAsTaken fifo a
  pub looked : a.setup.is_open ≡ Some false
  pub sent : a.sent ≤ k

count_still : (b k : ℕ) (r h : Bool) → h ≡ false → b ≤ k → next_count b r h ≤ k
count_still b k true h e few = rw e (omega arith)
count_still b k false h e few = rw e few

pub sending_still : (fifo : Bool) (k : ℕ) (a : Auditor) (s : Step) → IsStill fifo s.action → Sending fifo k a →
    Sending fifo k (next a s)
sending_still fifo k a s i w = record {
  knows = knows_still fifo a s i w.knows;
  looked = still_looked fifo a.setup.is_open s.action i w.looked;
  sent = count_still a.sent k (shows_room s) (sends s.action) (still_sends fifo s.action i) w.sent;
}

pub stays_sending : (size : FifoSize) (fifo : Bool) (k : ℕ) → Stays size (Sending fifo k)
stays_sending size fifo k e i a w =
    let s = step_from a e in
    let still : IsStill fifo s.action = other_still fifo a.setup.is_open e.happening i in
    (all_spared size a s (spared_still fifo a s still), sending_still fifo k a s still w)

-- ---- while a byte is read

-- LSR showed a byte, and none was read since
pub record Reading (fifo : Bool) (a : Auditor) : Type 0 where
  pub knows : KnowsAsTaken fifo a
  pub looked : a.setup.is_open ≡ Some false
  pub waiting : 1 ≤ a.waiting
  pub looked_for_errors : a.has_taken ≡ false

pub since_none : (b r h : Bool) → b ≡ false → h ≡ false → next_since b r h ≡ false
since_none b r h e f = rw (e, f) refl

one_more : (n : ℕ) (h : Option Bool) → 1 ≤ n → 1 ≤ min (n + 1) (least_depth h)
one_more n (Some true) few = omega arith
one_more n _ few = omega arith

still_waits : (b : Bool) (n m : ℕ) → 1 ≤ n → 1 ≤ m → 1 ≤ (if b then n else m)
still_waits true n m p q = p
still_waits false n m p q = q

other_waits : (o : Option Bool) (n : ℕ) (s : Step) (h : Happening) → IsOther h → 1 ≤ n → 1 ≤ waiting_after n s (action o h)
other_waits o n s (Access x) i p = absurd i
other_waits o n s (Arrive byte errors) i p = still_waits _ _ _ (one_more n s.setup.has_fifo p) p
other_waits o n s (Interrupt is_raised) i p = p
other_waits o n s (Lines inputs) i p = p

pub stays_reading : (size : FifoSize) (fifo : Bool) → Stays size (Reading fifo)
stays_reading size fifo e i a w =
    let s = step_from a e in
    let still : IsStill fifo s.action = other_still fifo a.setup.is_open e.happening i in (
      all_spared size a s (spared_still fifo a s still),
      record {
        knows = knows_still fifo a s still w.knows;
        looked = still_looked fifo a.setup.is_open s.action still w.looked;
        waiting = other_waits a.setup.is_open a.waiting s e.happening i w.waiting;
        looked_for_errors = since_none a.has_taken _ _ w.looked_for_errors (still_receives fifo s.action still);
      },
    )

-- ---- while the divisor is read

-- DLAB is on, and nothing was done with the divisor since
pub record Opened (fifo : Bool) (a : Auditor) : Type 0 where
  pub opened : a.setup.is_open ≡ Some true
  pub loopback : loops_back a.setup.modem ≡ false
  pub room : room_of fifo Sixteen ≤ depth a.setup.has_fifo
  pub not_looked : a.latch.has_looked ≡ false
  pub not_low : a.latch.has_low ≡ false

-- beside accesses DLAB stays as it is, and so does the divisor
other_open : (o : Option Bool) (h : Happening) → IsOther h → next_is_open o (action o h) ≡ o
other_open o (Access x) i = absurd i
other_open o _ i = refl

pub record LatchKept (a : Auditor) (x : Action) : Type 0 where
  pub looked : (next_latch a.latch x).has_looked ≡ false
  pub low : (next_latch a.latch x).has_low ≡ false

other_latch : (o : Option Bool) (a : Auditor) (h : Happening) → IsOther h → a.latch.has_looked ≡ false → a.latch.has_low ≡ false →
    LatchKept a (action o h)
other_latch o a (Access x) i p q = absurd i
other_latch o a _ i p q =
    record { looked = since_none a.latch.has_looked false false p refl; low = since_none a.latch.has_low false false q refl }

pub stays_opened : (size : FifoSize) (fifo : Bool) → Stays size (Opened fifo)
stays_opened size fifo e i a w =
    let s = step_from a e in
    let still : IsStill fifo s.action = other_still fifo a.setup.is_open e.happening i in
    let kept = other_latch a.setup.is_open a e.happening i w.not_looked w.not_low in (
      all_spared size a s (spared_still fifo a s still),
      record {
        opened = other_open a.setup.is_open e.happening i ∙ w.opened;
        loopback = still_loop fifo a.setup.modem s.action still w.loopback;
        room = still_room fifo a.setup.has_fifo s.action still w.room;
        not_looked = kept.looked;
        not_low = kept.low;
      },
    )
