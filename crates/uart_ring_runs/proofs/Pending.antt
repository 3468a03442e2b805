-- How many interrupts a chip may still show without news from outside, and what events and accesses do to that.
use Rattle.uart_ring_runs.proofs.Names.{◌≡◌, ℕ, ◌+◌, ◌≤◌, ◌<◌, ◌==◌, ◌-◌, ◌||◌, zero, suc, Bool, true, false, not, nat_lt, List, [], ◌∷◌}
use Rattle.uart_ring_runs.proofs.Names.{◌++◌, length, length-append, Option, Some, None, refl, sym, ◌∙◌, ap, subst, arith, nat_tests}
use Rattle.uart_ring_runs.proofs.Names.{has_any, Event, Ticks, Arrive, Lines, Mark, Gate, Character, Shifting, TransmitterState, shift}
use Rattle.uart_ring_runs.proofs.Names.{refill, room, ReceiverState, enter, replace, front_errors, ChipState, LatchesState, tick, ticks}
use Rattle.uart_ring_runs.proofs.Names.{arrive, change_lines, is_loopback, is_held_off, MachineState, perform, before_access, after_access}
use Rattle.uart_ring_runs.proofs.Names.{both_if, news}
use Rattle.uart_spec.specs.declared.registers.interrupt_enable.TheConstants.IER
use Rattle.uart_chip.specs.Transmitter as transmitter
use Rattle.uart_chip.specs.Receiver as receiver

-- ---- what is left to be shown

abbrev pub one_if : Bool → ℕ
one_if true = 1
one_if false = 0

pub one_most : (b : Bool) → one_if b ≤ 1
one_most true = omega arith
one_most false = omega arith

-- an error of the line
abbrev pub line_left : ReceiverState → ℕ
line_left r = one_if (r.is_overrun || not (front_errors r.queue r.is_front_reported == 0))

-- that the transmitter's queue becomes empty, and that it has
abbrev pub sent_left : TransmitterState → ℕ
sent_left t = one_if t.is_thr_pending + one_if (not (length t.queue == 0))

-- data, as long as its interrupt is enabled
abbrev pub data_left : LatchesState → ℕ
data_left l = one_if (has_any l.ier IER.DATA_READY.0)

-- a change of the modem lines
abbrev pub modem_left : ChipState → ℕ
modem_left c = one_if (not (c.modem.deltas == 0))

abbrev pub left : ChipState → ℕ
left c = line_left c.receiver + (data_left c.latches + (sent_left c.transmitter + modem_left c))

pub left_most : (c : ChipState) → left c ≤ 5
left_most c =
    let a = one_most (c.receiver.is_overrun || not (front_errors c.receiver.queue c.receiver.is_front_reported == 0)) in
    let b = one_most (has_any c.latches.ier IER.DATA_READY.0) in
    let d = one_most c.transmitter.is_thr_pending in
    let e = one_most (not (length c.transmitter.queue == 0)) in
    let f = one_most (not (c.modem.deltas == 0)) in
    omega (arith, a, b, d, e, f)

-- ---- events

-- from one chip to another there were at most so many news: of each kind no more is left than before and what they may have brought;
-- the latches are as they were, and data that waited still waits
pub record Drifts (c d : ChipState) (most : ℕ) : Type 0 where
  pub errors : ℕ
  pub changes : ℕ
  pub brought : errors + changes ≤ most
  pub line : line_left d.receiver ≤ line_left c.receiver + errors
  pub modem : modem_left d ≤ modem_left c + changes
  pub sent : sent_left d.transmitter ≤ sent_left c.transmitter
  pub latches : d.latches ≡ c.latches
  pub waits : 0 < length c.receiver.queue → 0 < length d.receiver.queue

pub news-append : (xs ys : List Event) → news (xs ++ ys) ≡ news xs + news ys
news-append [] ys = omega arith
news-append (Arrive byte errors ∷ xs) ys = let e = news-append xs ys in omega (arith, e)
news-append (Lines inputs ∷ xs) ys = let e = news-append xs ys in omega (arith, e)
news-append (_ ∷ xs) ys = news-append xs ys

drifts-none : (c : ChipState) → Drifts c c 0
drifts-none c = record {
  errors = 0;
  changes = 0;
  brought = omega arith;
  line = omega arith;
  modem = omega arith;
  sent = omega arith;
  latches = refl;
  waits = λ w. w;
}

drifts-trans : (c d e : ChipState) (j k : ℕ) → Drifts c d j → Drifts d e k → Drifts c e (j + k)
drifts-trans c d e j k a b = record {
  errors = a.errors + b.errors;
  changes = a.changes + b.changes;
  brought = omega (arith, a.brought, b.brought);
  line = omega (arith, a.line, b.line);
  modem = omega (arith, a.modem, b.modem);
  sent = omega (arith, a.sent, b.sent);
  latches = b.latches ∙ a.latches;
  waits = λ w. b.waits (a.waits w);
}

-- ---- a tick

-- the shift register takes nothing out of the queue
abbrev AsQueued : List ℕ → Bool → TransmitterState → Type 0
AsQueued queue pending t = (t.queue ≡ queue) × (t.is_thr_pending ≡ pending)

shifted : (loopback : Bool) (place : Option Shifting) (t : TransmitterState) → AsQueued t.queue t.is_thr_pending (shift loopback place t)
shifted loopback None t = (refl, refl)
shifted loopback (Some s) t =
    let P : TransmitterState → Type 0 = AsQueued t.queue t.is_thr_pending in
    both_if P (record t { shift_register = Some (record { byte = s.byte; ticks_left = s.ticks_left - 1 }) }) _ (nat_lt 1 s.ticks_left)
    (refl, refl)
    (both_if P (record t { shift_register = None }) _ loopback (refl, refl)
    (both_if P (record t { shift_register = None; wire = t.wire ++ s.byte ∷ [] }) t (nat_lt (length t.wire) t.capacity) (refl, refl)
    (refl, refl)))

refilled : (place : Option Shifting) (queue : List ℕ) (t : TransmitterState) → t.queue ≡ queue →
    sent_left (refill place queue t) ≤ sent_left t
refilled (Some s) queue t e = omega arith
refilled None [] t e = omega arith
refilled None (x ∷ []) t e =
    let some : one_if (not (length t.queue == 0)) ≡ 1 = rw e refl in
    let bound : 1 + 0 ≤ one_if t.is_thr_pending + one_if (not (length t.queue == 0)) = omega (arith, some) in bound
refilled None (x ∷ y ∷ xs) t e =
    let some : (length t.queue == 0) ≡ false = let n = ap length e in grind (arith, nat_tests) in
    let most = one_most (not (length (y ∷ xs) == 0)) in
    let one : one_if (not (length t.queue == 0)) ≡ 1 = ap (λ b. one_if (not b)) some in
    let bound : one_if t.is_thr_pending + one_if (not (length (y ∷ xs) == 0)) ≤
    one_if t.is_thr_pending + one_if (not (length t.queue == 0)) = omega (arith, most, one) in bound

sent_shift : (loopback : Bool) (t : TransmitterState) → sent_left (shift loopback t.shift_register t) ≡ sent_left t
sent_shift loopback t =
    let s = shifted loopback t.shift_register t in λ i. one_if (s.1 i) + one_if (not (length (s.0 i) == 0))

sent_tick : (loopback held_off : Bool) (t : TransmitterState) → sent_left (transmitter.tick loopback held_off t) ≤ sent_left t
sent_tick loopback true t = let same = sent_shift loopback t in omega (arith, same)
sent_tick loopback false t =
    let u : TransmitterState = shift loopback t.shift_register t in
    let less = refilled u.shift_register u.queue u refl in
    let same = sent_shift loopback t in
    omega (arith, less, same)

drifts-tick : (c : ChipState) → is_loopback c.latches ≡ false → Drifts c (tick c) 0
drifts-tick c off = record {
  errors = 0;
  changes = 0;
  brought = omega arith;
  line = rw off (omega arith);
  modem = omega arith;
  sent = sent_tick (is_loopback c.latches) (is_held_off c) c.transmitter;
  latches = refl;
  waits = rw off (λ w. w);
}

drifts-ticks : (n : ℕ) (c : ChipState) → is_loopback c.latches ≡ false → Drifts c (ticks n c) 0
drifts-ticks zero c off = drifts-none c
drifts-ticks (suc n) c off =
    let first = drifts-ticks n c off in
    let still : is_loopback (ticks n c).latches ≡ false = ap is_loopback first.latches ∙ off in
    drifts-trans c (ticks n c) (tick (ticks n c)) 0 0 first (drifts-tick (ticks n c) still)

-- ---- an arrival

replaced_waits : (queue : List Character) (new : Character) (r : ReceiverState) → 0 < length r.queue →
    0 < length (replace queue new r).queue
replaced_waits [] new r w = w
replaced_waits (old ∷ others) new r w = omega arith

entered_waits : (fifo : Bool) (new : Character) (r : ReceiverState) → 0 < length r.queue → 0 < length (enter fifo new r).queue
entered_waits fifo new r w =
    let P : ReceiverState → Type 0 = λ s. 0 < length s.queue in
    both_if P _ _ (nat_lt (length r.queue) (room fifo r.size)) (omega (arith, length-append r.queue (new ∷ [])))
    (both_if P _ _ fifo w (replaced_waits r.queue new r w))

arrived_waits : (loopback fifo : Bool) (byte errors : ℕ) (r : ReceiverState) → 0 < length r.queue →
    0 < length (receiver.arrive loopback fifo byte errors r).queue
arrived_waits loopback fifo byte errors r w =
    let P : ReceiverState → Type 0 = λ s. 0 < length s.queue in both_if P _ _ loopback w (entered_waits fifo _ _ w)

drifts-event : (event : Event) (c : ChipState) → is_loopback c.latches ≡ false → Drifts c (perform event c) (news (event ∷ []))
drifts-event (Ticks n) c off = drifts-ticks n c off
drifts-event (Arrive byte errors) c off =
    let r : ReceiverState = (arrive byte errors c).receiver in
    let most = one_most (r.is_overrun || not (front_errors r.queue r.is_front_reported == 0)) in
    record {
      errors = 1;
      changes = 0;
      brought = omega arith;
      line = omega (arith, most);
      modem = omega arith;
      sent = omega arith;
      latches = refl;
      waits = arrived_waits (is_loopback c.latches) c.fifo _ errors c.receiver;
    }
drifts-event (Lines inputs) c off =
    let most = one_most (not ((change_lines inputs c).modem.deltas == 0)) in
    record {
      errors = 0;
      changes = 1;
      brought = omega arith;
      line = omega arith;
      modem = omega (arith, most);
      sent = omega arith;
      latches = refl;
      waits = λ w. w;
    }
drifts-event Gate c off = drifts-none c
drifts-event Mark c off = drifts-none c

-- ---- the events before an access

pub record Comes (events : List Event) (c : ChipState) : Type 0 where
  pub came : List Event
  pub whole : events ≡ came ++ after_access events
  pub drifts : Drifts c (before_access events c) (news came)

comes : (events : List Event) (c : ChipState) → is_loopback c.latches ≡ false → Comes events c
comes [] c off = record { came = []; whole = refl; drifts = drifts-tick c off }
comes (Gate ∷ events) c off = record { came = Gate ∷ []; whole = refl; drifts = drifts-none c }
comes (Mark ∷ events) c off = record { came = []; whole = refl; drifts = drifts-tick c off }
comes (event ∷ events) c off =
    let first = drifts-event event c off in
    let rest = comes events (perform event c) (ap is_loopback first.latches ∙ off) in
    record {
      came = event ∷ rest.came;
      whole = ap (λ es. event ∷ es) rest.whole;
      drifts = subst (Drifts c (before_access (event ∷ events) c)) (sym (news-append (event ∷ []) rest.came))
          (drifts-trans c (perform event c) _ (news (event ∷ [])) (news rest.came) first rest.drifts);
    }

-- what happens to the machine before an access
pub waited : (m : MachineState) → is_loopback m.chip.latches ≡ false → Comes m.ahead m.chip
waited m off = comes m.ahead m.chip off
