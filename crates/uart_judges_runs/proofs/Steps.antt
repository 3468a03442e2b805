-- The single accesses of a session.
use Rattle.std.proofs.Common.{◌≡◌, ◌≤◌, ◌<◌, ◌+◌, ℕ, zero, suc, Bool, true, false, not, ◌&&◌, ◌==◌}
use Rattle.std.proofs.Common.{Option, Some, None, refl, sym, ◌∙◌, ap, subst, arith, if◌then◌else◌, max, bit_or}
use Rattle.std.proofs.lemmas.Bool.{and_left, and_right, or_left, or_right}
use Rattle.std.proofs.lemmas.Grind.{common_steps}
use Rattle.uart_spec.specs.Bits.{has, has_any}
use Rattle.uart_spec.specs.declared.access.Access.{Access as RegisterAccess}
use Rattle.uart_spec.specs.declared.access.Access.TheVariants.{Read, Write}
use Rattle.uart_spec.specs.declared.registers.fifo_control.FCR.{FCR}
use Rattle.uart_spec.specs.declared.registers.fifo_control.TheConstants.FCR as fcr_bits
use Rattle.uart_spec.specs.declared.registers.interrupt_enable.TheConstants.IER as ier_bits
use Rattle.uart_spec.specs.declared.registers.line_control.LCR.{LCR}
use Rattle.uart_spec.specs.declared.registers.line_control.TheConstants.LCR as lcr_bits
use Rattle.uart_spec.specs.declared.registers.line_status.TheConstants.LSR as lsr_bits
use Rattle.uart_spec.specs.declared.registers.offsets.TheConstants as offsets
use Rattle.uart_spec.specs.declared.setup.FifoSize.{FifoSize}
use Rattle.uart_spec.specs.declared.setup.FifoSize.TheVariants.{Sixteen}
use Rattle.uart_chip.specs.Transmitter.{room as room_of}
use Rattle.uart_chip.proofs.Bits.{has_one, has_or}
use Rattle.uart_chip.proofs.conservation.Blocks.{is_quiet}
use Rattle.uart_judges.specs.Actions.{action, data_read, data_written, ier_read}
use Rattle.std.specs.Option.{option_or}
use Rattle.uart_judges.specs.Findings.{all_found, closed, closes, cuts, given, has_low_alone, is_in_break, is_open, is_zero, loops_again}
use Rattle.uart_judges.specs.Findings.{sent_before, taken_from, taken_from_nothing, when}
use Rattle.uart_judges.specs.History.{next, next_count, next_since, step_from, waiting_after}
use Rattle.uart_judges.specs.Setups.{next_is_open}
use Rattle.uart_judges.specs.Shows.{fifo_of, looks_at_line, modem_of, opens as opens_action, receives, sends, sets_low, shows_thr_empty}
use Rattle.uart_judges.specs.Steps.{action_empties, depth, empties, enables, errors_in, loops_back, shows_room}
use Rattle.uart_judges.specs.Unread.{front}
use Rattle.uart_judges.specs.declared.audit.action.Action.{Action}
use Rattle.uart_judges.specs.declared.audit.action.Action.TheVariants.{Receives, Sends, ReadsDivisor, SetsLine, LooksAtLine, ControlsFifo}
use Rattle.uart_judges.specs.declared.audit.action.Action.TheVariants.{ReadsLine}
use Rattle.uart_judges.specs.declared.audit.auditor.Auditor.{Auditor}
use Rattle.uart_judges.specs.declared.audit.finding.Finding.{Finding}
use Rattle.uart_judges.specs.declared.audit.finding.Finding.TheVariants as found
use Rattle.uart_judges.specs.declared.audit.step.Step.{Step}
use Rattle.uart_judges.specs.declared.audit.unread.Arrived.{Arrived}
use Rattle.uart_judges.specs.declared.recording.entry.Entry.{Entry}
use Rattle.uart_judges.specs.declared.recording.entry.Happening.{Happening}
use Rattle.uart_judges.specs.declared.recording.entry.Happening.TheVariants.{Access}
use Rattle.uart_judges_runs.specs.Calls.{IsTaken, KnowsAsTaken, Shows}
use Rattle.uart_judges_runs.specs.Recorded.{NoneIs}
use Rattle.uart_judges_runs.proofs.Recordings.{Moves}
use Rattle.uart_judges_runs.proofs.Kept.{IsStill, Opened, Reading, Sending, knows_still, sending_still, since_none, six_at, spared_still}
use Rattle.uart_judges_runs.proofs.Spared.{Spared, all_spared, another, nothing, of_calls, room_spared, spared_if, spared_when}

-- ---- still accesses

-- an access that touches neither the data nor the line status nor a mode, and shows the modes as they are taken to be
quiet_read : (fifo : Bool) (o : Option Bool) (n value : ℕ) → is_quiet (Read n value) ≡ true → Shows fifo false n value → is_open o ≡ false →
    IsStill fifo (action o (Access (Read n value)))
quiet_read fifo o zero value q t c = absurd (cc)
quiet_read fifo (Some true) (suc zero) value q t c = absurd (cc)
quiet_read fifo o (suc (suc zero)) value q t c = t.fifos refl
quiet_read fifo o (suc (suc (suc zero))) value q t c = t.dlab refl refl
quiet_read fifo o (suc (suc (suc (suc zero)))) value q t c = t.loopback refl
quiet_read fifo o (suc (suc (suc (suc (suc (suc (suc (suc n)))))))) value q t c =
    absurd (grind (arith, common_steps))
quiet_read fifo o _ value q t c = tt

quiet_write : (fifo : Bool) (o : Option Bool) (n value : ℕ) → is_quiet (Write n value) ≡ true → is_open o ≡ false →
    IsStill fifo (action o (Access (Write n value)))
quiet_write fifo None (suc zero) value q c = tt
quiet_write fifo (Some false) (suc zero) value q c = tt
quiet_write fifo o (suc (suc (suc (suc (suc zero))))) value q c = tt
quiet_write fifo o (suc (suc (suc (suc (suc (suc zero)))))) value q c = tt
quiet_write fifo o (suc (suc (suc (suc (suc (suc (suc zero))))))) value q c = tt
quiet_write fifo o (suc (suc (suc (suc (suc (suc (suc (suc n)))))))) value q c =
    absurd (grind (arith, common_steps))
quiet_write fifo o _ value q c = absurd (cc)

quiet_still : (fifo : Bool) (o : Option Bool) (x : RegisterAccess) → is_quiet x ≡ true → IsTaken fifo false x → is_open o ≡ false →
    IsStill fifo (action o (Access x))
quiet_still fifo o (Read n value) q t c = quiet_read fifo o n value q t c
quiet_still fifo o (Write n value) q t c = quiet_write fifo o n value q c

still_as : (fifo : Bool) (o : Option Bool) (e : Entry) (x : RegisterAccess) → e.happening ≡ Access x →
    IsStill fifo (action o (Access x)) → IsStill fifo (action o e.happening)
still_as fifo o e x is still = subst (λ (h : Happening). IsStill fifo (action o h)) (sym is) still

pub moves_quiet : (size : FifoSize) (fifo : Bool) (x : RegisterAccess) → is_quiet x ≡ true → IsTaken fifo false x →
    Moves size (KnowsAsTaken fifo) x (KnowsAsTaken fifo)
moves_quiet size fifo x q t e is a k =
    let s = step_from a e in
    let still : IsStill fifo s.action = still_as fifo a.setup.is_open e x is (quiet_still fifo a.setup.is_open x q t k.dlab) in
    (all_spared size a s (spared_still fifo a s still), knows_still fifo a s still k)

pub sending_quiet : (size : FifoSize) (fifo : Bool) (k : ℕ) (x : RegisterAccess) → is_quiet x ≡ true → IsTaken fifo false x →
    Moves size (Sending fifo k) x (Sending fifo k)
sending_quiet size fifo k x q t e is a w =
    let s = step_from a e in
    let still : IsStill fifo s.action = still_as fifo a.setup.is_open e x is (quiet_still fifo a.setup.is_open x q t w.knows.dlab) in
    (all_spared size a s (spared_still fifo a s still), sending_still fifo k a s still w)

-- ---- looks at LSR

pub moves_look : (size : FifoSize) (fifo : Bool) (line : ℕ) → Moves size (KnowsAsTaken fifo) (Read offsets.LSR line) (KnowsAsTaken fifo)
moves_look size fifo line e is a k =
    let s = step_from a e in
    let still : IsStill fifo s.action = still_as fifo a.setup.is_open e (Read offsets.LSR line) is tt in
    (all_spared size a s (spared_still fifo a s still), knows_still fifo a s still k)

is_look : (o : Option Bool) (e : Entry) (line : ℕ) → e.happening ≡ Access (Read offsets.LSR line) →
    action o e.happening ≡ LooksAtLine (record { 0 = line })
is_look o e line is = ap (action o) is

looked_now : (o : Option Bool) (x : Action) (line : ℕ) → x ≡ LooksAtLine (record { 0 = line }) → is_open o ≡ false →
    next_is_open o x ≡ Some false
looked_now None x line is e = rw is refl
looked_now (Some true) x line is e = absurd (cc)
looked_now (Some false) x line is e = rw is refl

-- ---- what is known after an access, by its action

knows_at : (fifo : Bool) (a : Auditor) (s : Step) (x : Action) → s.action ≡ x → is_open (next_is_open a.setup.is_open x) ≡ false →
    loops_back (option_or (modem_of x) a.setup.modem) ≡ false → room_of fifo Sixteen ≤ depth (option_or (fifo_of x) a.setup.has_fifo) →
    KnowsAsTaken fifo (next a s)
knows_at fifo a s x is dlab loopback room = record {
  dlab = subst (λ (x : Action). is_open (next_is_open a.setup.is_open x) ≡ false) (sym is) dlab;
  loopback = subst (λ (x : Action). loops_back (option_or (modem_of x) a.setup.modem) ≡ false) (sym is) loopback;
  room = subst (λ (x : Action). room_of fifo Sixteen ≤ depth (option_or (fifo_of x) a.setup.has_fifo)) (sym is) room;
}

-- ---- a byte is read

waits_shown : (line n : ℕ) → has_any line lsr_bits.DATA_READY.0 ≡ true → 1 ≤ (if has line lsr_bits.DATA_READY.0 then max n 1 else 0)
waits_shown line n shows = rw (has_one 0 line ∙ shows) (omega arith)

since_reset : (b r h : Bool) → r ≡ true → h ≡ false → next_since b r h ≡ false
since_reset b r h e f = rw (e, f) (and_right b false refl)

pub reading_begins : (size : FifoSize) (fifo : Bool) (line : ℕ) → has_any line lsr_bits.DATA_READY.0 ≡ true →
    Moves size (KnowsAsTaken fifo) (Read offsets.LSR line) (Reading fifo)
reading_begins size fifo line shows e is a k =
    let s = step_from a e in
    let look : s.action ≡ LooksAtLine (record { 0 = line }) = is_look a.setup.is_open e line is in
    let made = moves_look size fifo line e is a k in (
      made.0,
      record {
        knows = made.1;
        looked = looked_now a.setup.is_open s.action line look k.dlab;
        waiting = subst (λ (x : Action). 1 ≤ waiting_after a.waiting s x) (sym look) (waits_shown line a.waiting shows);
        looked_for_errors = since_reset a.has_taken _ _ (ap (errors_in (enables ier_bits.RECEIVER_LINE_STATUS.0 s.setup.interrupts)) look)
            (ap receives look);
      },
    )

some_wait : {size : FifoSize} → (n : ℕ) (x y : Option Finding) → 1 ≤ n → Spared size y → Spared size (if n == 0 then x else y)
some_wait n x y few p = let e : (n == 0) ≡ false = grind (arith, common_steps) in rw e p

errors_looked : (size : FifoSize) (oldest : Option Arrived) (a : Auditor) → 1 ≤ a.waiting → a.has_taken ≡ false →
    Spared size (taken_from oldest a)
errors_looked size (Some oldest) a few e = nothing
errors_looked size None a few e =
    some_wait a.waiting (taken_from_nothing a) (when a.has_taken found.ErrorsNotRead) few
    (subst (λ (b : Bool). Spared size (when b found.ErrorsNotRead)) (sym e) nothing)

pub reading_ends : (size : FifoSize) (fifo : Bool) (byte : ℕ) → Moves size (Reading fifo) (Read offsets.DATA byte) (KnowsAsTaken fifo)
reading_ends size fifo byte e is a w =
    let s = step_from a e in
    let x : s.action ≡ Receives byte = ap (action a.setup.is_open) is ∙ ap (λ (o : Option Bool). data_read o byte) w.looked in (
      all_spared size a s (six_at size a s (Receives byte) x (record {
        room = nothing;
        output = nothing;
        taken = errors_looked size (front a.unread) a w.waiting w.looked_for_errors;
        latch = nothing;
        change = nothing;
        discard = refl;
      })),
      knows_at fifo a s (Receives byte) x w.knows.dlab w.knows.loopback w.knows.room,
    )

-- ---- bytes are sent

count_reset : (b : ℕ) (r h : Bool) → r ≡ true → h ≡ false → next_count b r h ≤ 0
count_reset b r h e f = rw (e, f) (omega arith)

pub sending_begins : (size : FifoSize) (fifo : Bool) (line : ℕ) → has_any line lsr_bits.THR_EMPTY.0 ≡ true →
    Moves size (KnowsAsTaken fifo) (Read offsets.LSR line) (Sending fifo 0)
sending_begins size fifo line shows e is a k =
    let s = step_from a e in
    let look : s.action ≡ LooksAtLine (record { 0 = line }) = is_look a.setup.is_open e line is in
    let made = moves_look size fifo line e is a k in
    let shown : shows_thr_empty s.action ≡ true = ap shows_thr_empty look ∙ (has_one 5 line ∙ shows) in (
      made.0,
      record {
        knows = made.1;
        looked = looked_now a.setup.is_open s.action line look k.dlab;
        sent = count_reset a.sent (shows_room s) (sends s.action) (or_right s.has_rested _ (or_left _ _ shown)) (ap sends look);
      },
    )

few_before : (b : Bool) (n k : ℕ) → n ≤ k → (if b then 0 else n) ≤ k
few_before true n k p = omega arith
few_before false n k p = p

not_first : {size : FifoSize} → (b : Bool) (x y : Option Finding) → b ≡ false → Spared size y → Spared size (if b then x else y)
not_first b x y e p = rw e p

goes_out : {size : FifoSize} → (a : Auditor) (s : Step) (byte : ℕ) → loops_back s.setup.modem ≡ false → Spared size (given a s.setup byte)
goes_out a s byte e =
    let f : loops_again a s.setup ≡ false = and_left (loops_back s.setup.modem) (a.has_looped && a.is_thr_empty) e in
    let looped : Option Finding = Some (found.SentInLoopback byte) in
    let cut : Option Finding = when (cuts s.setup.line byte) (found.WordTooShort byte) in
    let rest : Spared _ (if loops_again a s.setup then looped else cut) =
    not_first (loops_again a s.setup) looped cut f (spared_when (cuts s.setup.line byte) (found.WordTooShort byte) refl) in
    spared_if (is_in_break s.setup.line) (Some (found.SentInBreak byte)) (if loops_again a s.setup then looped else cut)
    (another {f = found.SentInBreak byte} refl) rest

count_one : (b k : ℕ) (r h : Bool) → h ≡ true → b ≤ k → next_count b r h ≤ k + 1
count_one b k true h e few = rw e (omega arith)
count_one b k false h e few = rw e (omega arith)

pub sending_sends : (size : FifoSize) (fifo : Bool) (k byte : ℕ) → k < room_of fifo size →
    Moves size (Sending fifo k) (Write offsets.DATA byte) (Sending fifo (k + 1))
sending_sends size fifo k byte room e is a w =
    let s = step_from a e in
    let x : s.action ≡ Sends byte = ap (action a.setup.is_open) is ∙ ap (λ (o : Option Bool). data_written o byte) w.looked in
    let few : sent_before a s ≤ k = few_before s.has_rested a.sent k w.sent in
    let fits : sent_before a s < room_of fifo size = omega (arith, few, room) in (
      all_spared size a s (six_at size a s (Sends byte) x (record {
        room = room_spared fifo s.setup.has_fifo (sent_before a s) fits w.knows.room;
        output = goes_out a s byte w.knows.loopback;
        taken = nothing;
        latch = nothing;
        change = nothing;
        discard = refl;
      })),
      record {
        knows = knows_at fifo a s (Sends byte) x w.knows.dlab w.knows.loopback w.knows.room;
        looked = ap (next_is_open a.setup.is_open) x ∙ w.looked;
        sent = count_one a.sent k (shows_room s) (sends s.action) (ap sends x) w.sent;
      },
    )

-- ---- the divisor is read

not_closing : {size : FifoSize} → (o : Option Bool) (lcr : LCR) (x : Option Finding) → is_open o ≡ false →
    Spared size (if closes o lcr then x else None)
not_closing None lcr x e = nothing
not_closing (Some true) lcr x e = absurd (cc)
not_closing (Some false) lcr x e = nothing

pub opens_latch : (lcr : ℕ) → has (bit_or lcr lcr_bits.DLAB.0) lcr_bits.DLAB.0 ≡ true
opens_latch lcr = has_one 7 (bit_or lcr 128) ∙ (has_or 7 lcr 128 ∙ or_right (has_any lcr 128) (has_any 128 128) refl)

pub opens : (size : FifoSize) (fifo : Bool) (lcr : ℕ) →
    Moves size (KnowsAsTaken fifo) (Write offsets.LCR (bit_or lcr lcr_bits.DLAB.0)) (Opened fifo)
opens size fifo lcr e is a k =
    let s = step_from a e in
    let v : LCR = record { 0 = bit_or lcr lcr_bits.DLAB.0 } in
    let x : s.action ≡ SetsLine v = ap (action a.setup.is_open) is in
    let on = opens_latch lcr in (
      all_spared size a s (six_at size a s (SetsLine v) x (record {
        room = nothing;
        output = nothing;
        taken = nothing;
        latch = not_closing s.setup.is_open v (closed a s) k.dlab;
        change = spared_when _ _ refl;
        discard = refl;
      })),
      record {
        opened = ap (next_is_open a.setup.is_open) x ∙ ap Some on;
        loopback = subst (λ (x : Action). loops_back (option_or (modem_of x) a.setup.modem) ≡ false) (sym x) k.loopback;
        room = subst (λ (x : Action). room_of fifo Sixteen ≤ depth (option_or (fifo_of x) a.setup.has_fifo)) (sym x) k.room;
        not_looked = since_reset a.latch.has_looked _ _ (ap opens_action x ∙ on) (ap looks_at_line x);
        not_low = since_reset a.latch.has_low _ _ (ap opens_action x ∙ on) (ap sets_low x);
      },
    )

from_latch : {size : FifoSize} → (a : Auditor) → a.latch.has_looked ≡ false → Spared size (when a.latch.has_looked found.ReceivedFromLatch)
from_latch a e = rw e nothing

reads_divisor : (size : FifoSize) (fifo : Bool) (e : Entry) (a : Auditor) → action a.setup.is_open e.happening ≡ ReadsDivisor →
    Opened fifo a →
    NoneIs (of_calls size) (all_found a (step_from a e)) × Opened fifo (next a (step_from a e))
reads_divisor size fifo e a x w =
    let s = step_from a e in (
      all_spared size a s (six_at size a s ReadsDivisor x (record {
        room = nothing;
        output = nothing;
        taken = nothing;
        latch = from_latch a w.not_looked;
        change = nothing;
        discard = refl;
      })),
      record {
        opened = ap (next_is_open a.setup.is_open) x ∙ w.opened;
        loopback = subst (λ (x : Action). loops_back (option_or (modem_of x) a.setup.modem) ≡ false) (sym x) w.loopback;
        room = subst (λ (x : Action). room_of fifo Sixteen ≤ depth (option_or (fifo_of x) a.setup.has_fifo)) (sym x) w.room;
        not_looked = since_none a.latch.has_looked _ _ w.not_looked (ap looks_at_line x);
        not_low = since_none a.latch.has_low _ _ w.not_low (ap sets_low x);
      },
    )

pub reads_low : (size : FifoSize) (fifo : Bool) (low : ℕ) → Moves size (Opened fifo) (Read offsets.DLL low) (Opened fifo)
reads_low size fifo low e is a w =
    reads_divisor size fifo e a (ap (action a.setup.is_open) is ∙ ap (λ (o : Option Bool). data_read o low) w.opened) w

pub reads_high : (size : FifoSize) (fifo : Bool) (high : ℕ) → Moves size (Opened fifo) (Read offsets.DLM high) (Opened fifo)
reads_high size fifo high e is a w =
    reads_divisor size fifo e a (ap (action a.setup.is_open) is ∙ ap (λ (o : Option Bool). ier_read o high) w.opened) w

never : {size : FifoSize} → (b : Bool) (f : Finding) → b ≡ false → Spared size (when b f)
never b f e = rw e nothing

closed_spared : {size : FifoSize} → (a : Auditor) (s : Step) → a.latch.has_low ≡ false → Spared size (closed a s)
closed_spared a s e =
    let l = a.latch in
    let f : has_low_alone l ≡ false =
    and_right l.was_opened (not l.has_looked && (l.has_low && not l.has_high))
    (and_right (not l.has_looked) (l.has_low && not l.has_high) (and_left l.has_low (not l.has_high) e)) in
    let rest : Spared _ (when (has_low_alone l) found.HighByteNotSet) = never (has_low_alone l) found.HighByteNotSet f in
    spared_if (is_zero s.setup.divisor.low && is_zero s.setup.divisor.high) (Some found.ZeroDivisor)
    (when (has_low_alone l) found.HighByteNotSet) (another {f = found.ZeroDivisor} refl) rest

pub closes_again : (size : FifoSize) (fifo : Bool) (lcr : ℕ) → has lcr lcr_bits.DLAB.0 ≡ false →
    Moves size (Opened fifo) (Write offsets.LCR lcr) (KnowsAsTaken fifo)
closes_again size fifo lcr off e is a w =
    let s = step_from a e in
    let v : LCR = record { 0 = lcr } in
    let x : s.action ≡ SetsLine v = ap (action a.setup.is_open) is in (
      all_spared size a s (six_at size a s (SetsLine v) x (record {
        room = nothing;
        output = nothing;
        taken = nothing;
        latch = spared_if _ _ _ (closed_spared a s w.not_low) nothing;
        change = spared_when _ _ refl;
        discard = refl;
      })),
      knows_at fifo a s (SetsLine v) x off w.loopback w.room,
    )

-- ---- LCR is looked at while the latch is open

looks_spared : (size : FifoSize) (a : Auditor) (s : Step) (v : LCR) → s.action ≡ ReadsLine v → NoneIs (of_calls size) (all_found a s)
looks_spared size a s v x = all_spared size a s (six_at size a s (ReadsLine v) x (record {
  room = nothing;
  output = nothing;
  taken = nothing;
  latch = nothing;
  change = nothing;
  discard = refl;
}))

-- and shows that it is
pub shows_open : (size : FifoSize) (fifo : Bool) (shown : ℕ) → has shown lcr_bits.DLAB.0 ≡ true →
    Moves size (Opened fifo) (Read offsets.LCR shown) (Opened fifo)
shows_open size fifo shown on e is a w =
    let s = step_from a e in
    let v : LCR = record { 0 = shown } in
    let x : s.action ≡ ReadsLine v = ap (action a.setup.is_open) is in (
      looks_spared size a s v x,
      record {
        opened = ap (next_is_open a.setup.is_open) x ∙ ap Some on;
        loopback = subst (λ (x : Action). loops_back (option_or (modem_of x) a.setup.modem) ≡ false) (sym x) w.loopback;
        room = subst (λ (x : Action). room_of fifo Sixteen ≤ depth (option_or (fifo_of x) a.setup.has_fifo)) (sym x) w.room;
        not_looked = since_none a.latch.has_looked _ _ w.not_looked (ap looks_at_line x);
        not_low = since_none a.latch.has_low _ _ w.not_low (ap sets_low x);
      },
    )

-- or that it is not
pub shows_shut : (size : FifoSize) (fifo : Bool) (shown : ℕ) → has shown lcr_bits.DLAB.0 ≡ false →
    Moves size (Opened fifo) (Read offsets.LCR shown) (KnowsAsTaken fifo)
shows_shut size fifo shown off e is a w =
    let s = step_from a e in
    let v : LCR = record { 0 = shown } in
    let x : s.action ≡ ReadsLine v = ap (action a.setup.is_open) is in
    (looks_spared size a s v x, knows_at fifo a s (ReadsLine v) x off w.loopback w.room)

-- the latch is closed that was not open
pub stays_shut : (size : FifoSize) (fifo : Bool) (lcr : ℕ) → has lcr lcr_bits.DLAB.0 ≡ false →
    Moves size (KnowsAsTaken fifo) (Write offsets.LCR lcr) (KnowsAsTaken fifo)
stays_shut size fifo lcr off e is a k =
    let s = step_from a e in
    let v : LCR = record { 0 = lcr } in
    let x : s.action ≡ SetsLine v = ap (action a.setup.is_open) is in (
      all_spared size a s (six_at size a s (SetsLine v) x (record {
        room = nothing;
        output = nothing;
        taken = nothing;
        latch = not_closing s.setup.is_open v (closed a s) k.dlab;
        change = spared_when _ _ refl;
        discard = refl;
      })),
      knows_at fifo a s (SetsLine v) x off k.loopback k.room,
    )

-- ---- the trigger level

-- FCR leaves the FIFOs on, and resets none
pub record IsLevel (value : ℕ) : Type 0 where
  pub on : has value fcr_bits.FIFO_ENABLE.0 ≡ true
  pub keeps_received : has value fcr_bits.RX_FIFO_RESET.0 ≡ false
  pub keeps_queued : has value fcr_bits.TX_FIFO_RESET.0 ≡ false

empties_none : (reset value : ℕ) (h : Option Bool) → has value fcr_bits.FIFO_ENABLE.0 ≡ true → has value reset ≡ false →
    room_of true Sixteen ≤ depth h → empties reset h (record { 0 = value }) ≡ false
empties_none reset value None on e room = rw (on, e) refl
empties_none reset value (Some true) on e room = rw (on, e) refl
empties_none reset value (Some false) on e room = absurd (omega arith)

reset_spared : {size : FifoSize} → (b c : Bool) → c ≡ false → Spared size (when (b && c) found.ResetWhileSending)
reset_spared b c e = rw (and_right b c e) nothing

pub sets_level : (size : FifoSize) (value : ℕ) → IsLevel value →
    Moves size (KnowsAsTaken true) (Write offsets.FCR value) (KnowsAsTaken true)
sets_level size value level e is a k =
    let s = step_from a e in
    let v : FCR = record { 0 = value } in
    let x : s.action ≡ ControlsFifo v = ap (action a.setup.is_open) is in
    let none : (reset : ℕ) → has value reset ≡ false → action_empties reset s.setup.has_fifo (ControlsFifo v) ≡ false =
    λ reset off. empties_none reset value s.setup.has_fifo level.on off k.room in (
      all_spared size a s (six_at size a s (ControlsFifo v) x (record {
        room = nothing;
        output = nothing;
        taken = nothing;
        latch = nothing;
        change = reset_spared _ _
            (ap (action_empties fcr_bits.TX_FIFO_RESET.0 s.setup.has_fifo) x ∙ none fcr_bits.TX_FIFO_RESET.0 level.keeps_queued);
        discard = none fcr_bits.RX_FIFO_RESET.0 level.keeps_received;
      })),
      knows_at true a s (ControlsFifo v) x k.dlab k.loopback (on_room _ level.on),
    )
  where
    on_room : (on : Bool) → on ≡ true → room_of true Sixteen ≤ depth (Some on)
    on_room true e = omega arith
    on_room false e = absurd (cc)
