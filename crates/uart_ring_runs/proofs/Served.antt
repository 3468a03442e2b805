-- What serving one interrupt does to what is left to be shown, if no byte moves.
use Rattle.uart_ring_runs.proofs.Names.{◌≡◌, ◌⊎◌, ℕ, ◌+◌, ◌≤◌, ◌<◌, ◌==◌, ◌||◌, ◌&&◌, Bool, true, false, not, nat_lt, MatchBool, List, []}
use Rattle.uart_ring_runs.proofs.Names.{◌∷◌, ◌++◌, length, append_assoc, Option, Some, None, inl, inr, refl, sym, ◌∙◌, ap, subst, arith}
use Rattle.uart_ring_runs.proofs.Names.{bit_and, bit_or, if◌then◌else◌, and_parts, false≢true, AllByRecursion, list_any, nat_tests, without}
use Rattle.uart_ring_runs.proofs.Names.{Path, has, has_any, flag, IsOnlyIfAny, Identifies, Access, Read, Write, NoCapacity}
use Rattle.uart_ring_runs.proofs.Names.{RemoteNotClearToSend, InterruptType, Event, Settings, Then, Asks, LinesAllow, SendMiss, Sends}
use Rattle.uart_ring_runs.proofs.Names.{Character, ier_bits, ReceiverState, report, front_errors, has_errors, unreported, is_data_pending}
use Rattle.uart_ring_runs.proofs.Names.{is_timed_out, ChipState, LatchesState, interrupt, is_thr_empty, after_read, enable, is_dlab_set}
use Rattle.uart_ring_runs.proofs.Names.{is_loopback, line_status, is_transmitter_empty, isr_of, MachineState, MachineStep, at_access}
use Rattle.uart_ring_runs.proofs.Names.{some_characters, ReadMove, read_move, has_and, has_not, has_one, has_or, path_as, look_data}
use Rattle.uart_ring_runs.proofs.Names.{shows_64, news}
use Rattle.uart_spec.specs.declared.registers.interrupt_enable.TheConstants.IER
use Rattle.uart_spec.specs.declared.registers.interrupt_type.InterruptType.TheVariants as interrupts
use Rattle.uart_spec.specs.declared.registers.line_status.TheConstants.LSR
use Rattle.uart_spec.specs.declared.registers.offsets.TheConstants as offsets
use Rattle.uart_16550.proofs.Languages.{some_limit}
use Rattle.uart_chip.proofs.AccessMoves as move
use Rattle.uart_ring_runs.proofs.Pending.{Drifts, one_if, line_left, sent_left, data_left, modem_left, left, waited, news-append}
use Rattle.uart_ring_runs.proofs.RingEdges.{named}

-- ---- an access

-- DLAB and loopback are off
pub record IsOpenAt (m : MachineState) : Type 0 where
  pub dlab : is_dlab_set m.chip.latches ≡ false
  pub loopback : is_loopback m.chip.latches ≡ false

-- from one machine to another so many interrupts were served: what is left to be shown, and these, were left or were brought
pub record Leaves (m n : MachineState) (served : ℕ) : Type 0 where
  pub came : List Event
  pub ahead : m.ahead ≡ came ++ n.ahead
  pub fewer : left n.chip + served ≤ left m.chip + news came
  pub open_at : IsOpenAt n

pub leaves-trans : (m n o : MachineState) (j k : ℕ) → Leaves m n j → Leaves n o k → Leaves m o (j + k)
leaves-trans m n o j k a b = record {
  came = a.came ++ b.came;
  ahead = a.ahead ∙ (ap (λ es. a.came ++ es) b.ahead ∙ sym (append_assoc a.came b.came o.ahead));
  fewer = let e = news-append a.came b.came in omega (arith, a.fewer, b.fewer, e);
  open_at = b.open_at;
}

pub leaves-none : (m : MachineState) → IsOpenAt m → Leaves m m 0
leaves-none m o = record { came = []; ahead = refl; fewer = omega arith; open_at = o }

-- an effect that leaves no more of any kind
record Calm (c d : ChipState) : Type 0 where
  pub line : line_left d.receiver ≤ line_left c.receiver
  pub readable : data_left d.latches ≤ data_left c.latches
  pub sent : sent_left d.transmitter ≤ sent_left c.transmitter
  pub modem : modem_left d ≤ modem_left c
  pub dlab : is_dlab_set d.latches ≡ is_dlab_set c.latches
  pub loopback : is_loopback d.latches ≡ is_loopback c.latches

-- what is left after an effect, and so many interrupts, were left before the events that led up to it, or were brought by them
abbrev LeavesBy : MachineState → ChipState → ℕ → Type 0
LeavesBy m d served =
    (most : ℕ) → Drifts m.chip (at_access m).chip most → left d + served ≤ left m.chip + most

calm_step : (m n : MachineState) (d : ChipState) (served : ℕ) → IsOpenAt m → n ≡ record { chip = d; ahead = (at_access m).ahead } →
    Calm (at_access m).chip d → LeavesBy m d served → Leaves m n served
calm_step m n d served o is calm by =
    let w = waited m o.loopback in
    let latches = w.drifts.latches in
    let chip : n.chip ≡ d = ap (λ (k : MachineState). k.chip) is in
    record {
      came = w.came;
      ahead = w.whole ∙ ap (λ es. w.came ++ es) (sym (ap (λ (k : MachineState). k.ahead) is));
      fewer = let less = by (news w.came) w.drifts in let same : left n.chip ≡ left d = ap left chip in omega (arith, same, less);
      open_at = record {
        dlab = ap (λ (k : ChipState). is_dlab_set k.latches) chip ∙ (calm.dlab ∙ (ap is_dlab_set latches ∙ o.dlab));
        loopback = ap (λ (k : ChipState). is_loopback k.latches) chip ∙ (calm.loopback ∙ (ap is_loopback latches ∙ o.loopback));
      };
    }

-- data is as readable as before the events
still_readable : (m : MachineState) (most : ℕ) → Drifts m.chip (at_access m).chip most →
    data_left (at_access m).chip.latches ≡ data_left m.chip.latches
still_readable m most e = ap data_left e.latches

calm_leaves : (m : MachineState) (d : ChipState) → Calm (at_access m).chip d → LeavesBy m d 0
calm_leaves m d calm most e =
    let readable = still_readable m most e in
    omega (arith, calm.line, calm.readable, calm.sent, calm.modem, e.brought, e.line, e.modem, e.sent, readable)

-- ---- reads

calm_still : (c : ChipState) → Calm c c
calm_still c = record { line = omega arith; readable = omega arith; sent = omega arith; modem = omega arith; dlab = refl; loopback = refl }

-- a look tells of the errors in front
told : (queue : List Character) (reported : Bool) → front_errors queue (if length queue == 0 then reported else true) ≡ 0
told [] reported = refl
told (x ∷ xs) reported = let some : (length (x ∷ xs) == 0) ≡ false = grind (arith, nat_tests) in rw some refl

looked : (r : ReceiverState) → line_left (report r) ≡ 0
looked r = ap (λ n. one_if (not (n == 0))) (told r.queue r.is_front_reported)

calm_read : (offset : ℕ) (c d : ChipState) → (offset == offsets.DATA) ≡ false → ReadMove offset c d → Calm c d
calm_read offset c d other (move.stays e) = calm_still c
calm_read offset c d other (move.takes e off) =
    absurd (let no : (offsets.DATA == offsets.DATA) ≡ false = rw e at other in false≢true (sym no))
calm_read offset c d other (move.acknowledges e) =
    record { line = omega arith; readable = omega arith; sent = omega arith; modem = omega arith; dlab = refl; loopback = refl }
calm_read offset c d other (move.looks e) =
    record {
      line = let none = looked c.receiver in omega (arith, none);
      readable = omega arith;
      sent = omega arith;
      modem = omega arith;
      dlab = refl;
      loopback = refl;
    }
calm_read offset c d other (move.sees e) =
    record { line = omega arith; readable = omega arith; sent = omega arith; modem = omega arith; dlab = refl; loopback = refl }

-- reads of other registers than DATA
abbrev pub IsLook : Access → Type 0
IsLook (Read offset answer) = (offset == offsets.DATA) ≡ false
IsLook (Write offset value) = ⊥

abbrev pub AllLooks : List Access → Type 0
AllLooks l = AllByRecursion IsLook l

read_left : (offset value : ℕ) (m n : MachineState) → IsOpenAt m → (offset == offsets.DATA) ≡ false → MachineStep m (Read offset value) n →
    Leaves m n 0
read_left offset value m n o other s =
    let d : ChipState = after_read offset (at_access m).chip in
    let calm = calm_read offset (at_access m).chip d other (read_move offset (at_access m).chip) in
    calm_step m n d 0 o s.0 calm (calm_leaves m d calm)

pub looks_left : (l : List Access) (m n : MachineState) → AllLooks l → IsOpenAt m → Path MachineStep m l n → Leaves m n 0
looks_left [] m n all o p = rw p (leaves-none m o)
looks_left (Read offset value ∷ l) m n all o p =
    let first = read_left offset value m p.0 o all.0 p.1 in
    leaves-trans m p.0 n 0 0 first (looks_left l p.0 n all.1 first.open_at p.2)
looks_left (Write offset value ∷ l) m n all o p = absurd all.0

-- ---- a change of IER

-- what is enabled was enabled
abbrev Within : (bit value before : ℕ) → Type 0
Within bit value before = has_any value bit ≡ true → has_any before bit ≡ true

one_less : (a b : Bool) → (a ≡ true → b ≡ true) → one_if a ≤ one_if b
one_less true b h = rw (h refl) (omega arith)
one_less false b h = omega arith

-- the interrupt is not told again
not_told : (was is empty : Bool) → (is ≡ true → was ≡ true) → (not was && (is && empty)) ≡ false
not_told true is empty h = refl
not_told false true empty h = absurd (false≢true (h refl))
not_told false false empty h = refl

calm_enable : (value : ℕ) (c : ChipState) → Within IER.THR_EMPTY.0 value c.latches.ier → Within IER.DATA_READY.0 value c.latches.ier →
    Calm c (enable value c)
calm_enable value c thr readable = record {
  line = omega arith;
  readable = one_less (has_any (bit_and value ier_bits) IER.DATA_READY.0) (has_any c.latches.ier IER.DATA_READY.0)
      (λ e. readable (sym (has_and 0 value ier_bits refl) ∙ e));
  sent =
      let none = not_told (has_any c.latches.ier IER.THR_EMPTY.0) (has_any value IER.THR_EMPTY.0) (length c.transmitter.queue == 0) thr in
      rw none (omega arith);
  modem = omega arith;
  dlab = refl;
  loopback = refl;
}

ier_left : (value : ℕ) (m n : MachineState) → IsOpenAt m → Within IER.THR_EMPTY.0 value m.chip.latches.ier →
    Within IER.DATA_READY.0 value m.chip.latches.ier → MachineStep m (Write offsets.IER value) n → Leaves m n 0
ier_left value m n o thr readable s =
    let w = waited m o.loopback in
    let ier = ap (λ (l : LatchesState). l.ier) w.drifts.latches in
    let c = (at_access m).chip in
    let off : is_dlab_set c.latches ≡ false = ap is_dlab_set w.drifts.latches ∙ o.dlab in
    let moved : n ≡ record { chip = enable value c; ahead = (at_access m).ahead } = rw off at s in
    let calm = calm_enable value c (λ e. ap (λ (v : ℕ). has_any v IER.THR_EMPTY.0) ier ∙ thr e)
    (λ e. ap (λ (v : ℕ). has_any v IER.DATA_READY.0) ier ∙ readable e) in
    calm_step m n (enable value c) 0 o moved calm (calm_leaves m (enable value c) calm)

-- IER is read, and written with what was read, changed
changed_left : (change : ℕ → ℕ) (ier : ℕ) (l : List Access) (m n : MachineState) → IsOpenAt m →
    Within IER.THR_EMPTY.0 (change m.chip.latches.ier) m.chip.latches.ier →
    Within IER.DATA_READY.0 (change m.chip.latches.ier) m.chip.latches.ier →
    l ≡ Read offsets.IER ier ∷ Write offsets.IER (change ier) ∷ [] → Path MachineStep m l n → Leaves m n 0
changed_left change ier l m n o thr readable is path =
    let p = path_as m n l (Read offsets.IER ier ∷ Write offsets.IER (change ier) ∷ []) is path in
    let q = p.2 in
    let w = waited m o.loopback in
    let first = read_left offsets.IER ier m p.0 o refl p.1 in
    let there : is_dlab_set (at_access m).chip.latches ≡ false = ap is_dlab_set w.drifts.latches ∙ o.dlab in
    let shown : ier ≡ m.chip.latches.ier = (rw there at p.1.1) ∙ ap (λ (l : LatchesState). l.ier) w.drifts.latches in
    let still : p.0.chip.latches.ier ≡ m.chip.latches.ier =
    ap (λ (k : MachineState). k.chip.latches.ier) p.1.0 ∙ ap (λ (l : LatchesState). l.ier) w.drifts.latches in
    let second = ier_left (change ier) p.0 q.0 first.open_at
    (λ e. ap (λ (v : ℕ). has_any v IER.THR_EMPTY.0) still ∙ thr (ap (λ (v : ℕ). has_any (change v) IER.THR_EMPTY.0) (sym shown) ∙ e))
    (λ e. ap (λ (v : ℕ). has_any v IER.DATA_READY.0) still
    ∙ readable (ap (λ (v : ℕ). has_any (change v) IER.DATA_READY.0) (sym shown) ∙ e)) q.1 in
    rw q.2 (leaves-trans m p.0 q.0 0 0 first second)

-- ---- the interrupt that ISR shows

-- ISR shows the interrupt of the chip
pub shown : (isr : ℕ) (i : InterruptType) (m n : MachineState) → IsOnlyIfAny (Identifies isr) (Some i) →
    MachineStep m (Read offsets.ISR isr) n → interrupt (at_access m).chip ≡ Some i
shown isr i m n only s = by (interrupt c) c.fifo (shows_64 c) (rw s.1 at only)
  where
    c : ChipState
    c = (at_access m).chip

    by : (o : Option InterruptType) (fifo holds_64 : Bool) → IsOnlyIfAny (Identifies (isr_of fifo holds_64 o)) (Some i) → o ≡ Some i
    by None true true only = let e = ((only i).0 refl).0 in absurd (cc (e))
    by None true false only = let e = ((only i).0 refl).0 in absurd (cc (e))
    by None false holds_64 only = let e = ((only i).0 refl).0 in absurd (cc (e))
    by (Some j) fifo holds_64 only = sym ((only j).1 (named j fifo holds_64))

-- what an interrupt tells of the chip
abbrev pub Tells : (line readable timeout thr modem : Bool) → InterruptType → Type 0
Tells line readable timeout thr modem interrupts.ReceiverLineStatus = line ≡ true
Tells line readable timeout thr modem interrupts.ReceivedDataReady = readable ≡ true
Tells line readable timeout thr modem interrupts.ReceptionTimeout = timeout ≡ true
Tells line readable timeout thr modem interrupts.TransmitterHoldingRegisterEmpty = thr ≡ true
Tells line readable timeout thr modem interrupts.ModemStatus = modem ≡ true
Tells line readable timeout thr modem interrupts.DmaReceptionEndOfTransfer = ⊥
Tells line readable timeout thr modem interrupts.DmaTransmissionEndOfTransfer = ⊥

some_is : (i j : InterruptType) → Some i ≡ Some j → i ≡ j
some_is i j e = ap of e
  where
    of : Option InterruptType → InterruptType
    of None = i
    of (Some k) = k

tells : (line readable timeout thr modem : Bool) (i : InterruptType) →
    (if line then Some interrupts.ReceiverLineStatus
    else if readable then Some interrupts.ReceivedDataReady
    else if timeout then Some interrupts.ReceptionTimeout
    else if thr then Some interrupts.TransmitterHoldingRegisterEmpty
    else if modem then Some interrupts.ModemStatus else None) ≡ Some i → Tells line readable timeout thr modem i
tells true readable timeout thr modem i e = subst (Tells true readable timeout thr modem) (some_is _ i e) refl
tells false true timeout thr modem i e = subst (Tells false true timeout thr modem) (some_is _ i e) refl
tells false false true thr modem i e = subst (Tells false false true thr modem) (some_is _ i e) refl
tells false false false true modem i e = subst (Tells false false false true modem) (some_is _ i e) refl
tells false false false false true i e = subst (Tells false false false false true) (some_is _ i e) refl
tells false false false false false i e = absurd (cc (e))

abbrev pub TellsOf : ChipState → InterruptType → Type 0
TellsOf c i =
    Tells (has_any c.latches.ier IER.RECEIVER_LINE_STATUS.0 && has_any (line_status c) LSR.LINE_ERRORS.0)
    (has_any c.latches.ier IER.DATA_READY.0 && is_data_pending c.fifo c.receiver)
    (has_any c.latches.ier IER.DATA_READY.0 && is_timed_out c.fifo c.receiver)
    (has_any c.latches.ier IER.THR_EMPTY.0 && c.transmitter.is_thr_pending)
    (has_any c.latches.ier IER.MODEM_STATUS.0 && not (c.modem.deltas == 0)) i

pub told_by : (c : ChipState) (i : InterruptType) → interrupt c ≡ Some i → TellsOf c i
told_by c i e = tells _ _ _ _ _ i e

-- ---- one interrupt

-- without an overrun and without an error in front LSR shows none, whatever else it shows
no_error : (readable thr empty error : Bool) →
    has_any (bit_or (bit_or (bit_or (flag readable LSR.DATA_READY.0) (flag false LSR.OVERRUN_ERROR.0))
    (bit_or 0 (flag thr LSR.THR_EMPTY.0)))
    (bit_or (flag empty LSR.TRANSMITTER_EMPTY.0) (flag error LSR.FIFO_DATA_ERROR.0))) LSR.LINE_ERRORS.0 ≡ false
no_error true true true true = refl
no_error true true true false = refl
no_error true true false true = refl
no_error true true false false = refl
no_error true false true true = refl
no_error true false true false = refl
no_error true false false true = refl
no_error true false false false = refl
no_error false true true true = refl
no_error false true true false = refl
no_error false true false true = refl
no_error false true false false = refl
no_error false false true true = refl
no_error false false true false = refl
no_error false false false true = refl
no_error false false false false = refl

unlined : (c : ChipState) → c.receiver.is_overrun ≡ false → front_errors c.receiver.queue c.receiver.is_front_reported ≡ 0 →
    has_any (line_status c) LSR.LINE_ERRORS.0 ≡ false
unlined c p q =
    rw (p, q) (no_error (nat_lt 0 (length c.receiver.queue)) (length c.transmitter.queue == 0)
    (is_transmitter_empty c.transmitter.queue c.transmitter.shift_register)
    (c.fifo && list_any has_errors (unreported c.receiver.queue c.receiver.is_front_reported)))

-- a chip with a line error has one left to be shown
line_counts : (c : ChipState) → has_any (line_status c) LSR.LINE_ERRORS.0 ≡ true → line_left c.receiver ≡ 1
line_counts c e = go c.receiver.is_overrun (front_errors c.receiver.queue c.receiver.is_front_reported == 0) refl refl
  where
    go : (overrun none : Bool) → c.receiver.is_overrun ≡ overrun →
        (front_errors c.receiver.queue c.receiver.is_front_reported == 0) ≡ none → one_if (c.receiver.is_overrun || not
        (front_errors c.receiver.queue c.receiver.is_front_reported == 0)) ≡ 1
    go true none p q = rw p refl
    go false false p q = rw (p, q) refl
    go false true p q = absurd (false≢true (sym (unlined c p (grind (arith, nat_tests))) ∙ e))

-- a read of ISR that does not show THR-empty acknowledges nothing
kept_isr : (m o : MachineState) (isr : ℕ) → is_thr_empty (interrupt (at_access m).chip) ≡ false → MachineStep m (Read offsets.ISR isr) o →
    o.chip ≡ (at_access m).chip
kept_isr m o isr other s = ap (λ (k : MachineState). k.chip) s.0 ∙ same (at_access m).chip other
  where
    same : (c : ChipState) → is_thr_empty (interrupt c) ≡ false → after_read offsets.ISR c ≡ c
    same c e = rw e refl

pub not_thr : (c : ChipState) (i : InterruptType) → interrupt c ≡ Some i → is_thr_empty (Some i) ≡ false →
    is_thr_empty (interrupt c) ≡ false
not_thr c i is other = ap is_thr_empty is ∙ other

-- a read that tells of an interrupt
told_left : (offset value : ℕ) (m n : MachineState) → IsOpenAt m → (offset == offsets.DATA) ≡ false →
    MachineStep m (Read offset value) n → LeavesBy m (after_read offset (at_access m).chip) 1 → Leaves m n 1
told_left offset value m n o other s by =
    calm_step m n (after_read offset (at_access m).chip) 1 o s.0
    (calm_read offset (at_access m).chip _ other (read_move offset (at_access m).chip)) by

-- the errors of the line are told
pub line_served : (m o n : MachineState) (isr status : ℕ) → IsOpenAt m → interrupt (at_access m).chip ≡ Some interrupts.ReceiverLineStatus →
    MachineStep m (Read offsets.ISR isr) o → Path MachineStep o (Read offsets.LSR status ∷ []) n → Leaves m n 1
line_served m o n isr status open_at is s p =
    let c = (at_access m).chip in
    let told = and_parts (has_any c.latches.ier IER.RECEIVER_LINE_STATUS.0) (has_any (line_status c) LSR.LINE_ERRORS.0)
    (told_by c interrupts.ReceiverLineStatus is) in
    let chip = kept_isr m o isr (not_thr c interrupts.ReceiverLineStatus is refl) s in
    let one : line_left o.chip.receiver ≡ 1 = ap (λ (k : ChipState). line_left k.receiver) chip ∙ line_counts c told.1 in
    let first = read_left offsets.ISR isr m o open_at refl s in
    let d = (at_access o).chip in
    let none = looked d.receiver in
    let at_end : left (after_read offsets.LSR d) ≡
    line_left (report d.receiver) + (data_left d.latches + (sent_left d.transmitter + modem_left d)) = refl in
    rw p.2 (leaves-trans m o p.0 0 1 first (told_left offsets.LSR status o p.0 first.open_at refl p.1
    (λ most e. let readable = still_readable o most e in omega (arith, one, none, at_end, readable, e.brought, e.modem, e.sent))))

-- the changes of the modem lines are told
pub modem_served : (m o n : MachineState) (isr status : ℕ) → IsOpenAt m → interrupt (at_access m).chip ≡ Some interrupts.ModemStatus →
    MachineStep m (Read offsets.ISR isr) o → Path MachineStep o (Read offsets.MSR status ∷ []) n → Leaves m n 1
modem_served m o n isr status open_at is s p =
    let c = (at_access m).chip in
    let told = and_parts (has_any c.latches.ier IER.MODEM_STATUS.0) (not (c.modem.deltas == 0))
    (told_by c interrupts.ModemStatus is) in
    let chip = kept_isr m o isr (not_thr c interrupts.ModemStatus is refl) s in
    let one : modem_left o.chip ≡ 1 = ap modem_left chip ∙ ap one_if told.1 in
    let first = read_left offsets.ISR isr m o open_at refl s in
    let d = (at_access o).chip in
    let at_end : left (after_read offsets.MSR d) ≡ line_left d.receiver + (data_left d.latches + (sent_left d.transmitter + 0)) = refl in
    rw p.2 (leaves-trans m o p.0 0 1 first (told_left offsets.MSR status o p.0 first.open_at refl p.1
    (λ most e. let readable = still_readable o most e in omega (arith, one, at_end, readable, e.brought, e.line, e.sent))))

-- that the transmitter's queue became empty is acknowledged
pub record ThrServed (m o : MachineState) : Type 0 where
  pub leaves : Leaves m o 1
  pub enabled : has_any o.chip.latches.ier IER.THR_EMPTY.0 ≡ true

pub thr_served : (m o : MachineState) (isr : ℕ) → IsOpenAt m →
    interrupt (at_access m).chip ≡ Some interrupts.TransmitterHoldingRegisterEmpty → MachineStep m (Read offsets.ISR isr) o → ThrServed m o
thr_served m o isr open_at is s =
    let c = (at_access m).chip in
    let told = and_parts _ _ (told_by c interrupts.TransmitterHoldingRegisterEmpty is) in
    let acknowledged : after_read offsets.ISR c ≡ record c { transmitter = record c.transmitter { is_thr_pending = false } } =
    let thr : is_thr_empty (interrupt c) ≡ true = ap is_thr_empty is in rw thr refl in
    let at_end : left (after_read offsets.ISR c) ≡
    line_left c.receiver + (data_left c.latches + ((0 + one_if (not (length c.transmitter.queue == 0))) + modem_left c)) =
    ap left acknowledged in
    let one : one_if c.transmitter.is_thr_pending ≡ 1 = ap one_if told.1 in
    record {
      leaves = told_left offsets.ISR isr m o open_at refl s
          (λ most e.
          let readable = still_readable m most e in omega (arith, at_end, one, readable, e.brought, e.line, e.modem, e.sent));
      enabled =
          ap (λ (k : ChipState). has_any k.latches.ier IER.THR_EMPTY.0) (ap (λ (k : MachineState). k.chip) s.0 ∙ acknowledged) ∙ told.0;
    }

-- ---- the accesses of a pump that sends nothing

looks-append : (xs ys : List Access) → AllLooks xs → AllLooks ys → AllLooks (xs ++ ys)
looks-append [] ys p q = q
looks-append (x ∷ xs) ys p q = (p.0, looks-append xs ys p.1 q)

lines_look : (allowed : Bool) (s : Settings) (l : List Access) → LinesAllow allowed s l → AllLooks l
lines_look allowed s l (inl t) = rw t.1.is (refl, tt)
lines_look allowed s l (inr t) = rw (t.whole, t.first.is, t.second.is) (refl, (refl, tt))

miss_looks : (s : Settings) (l : List Access) → SendMiss s l → AllLooks l
miss_looks s l (NoCapacity, t) = rw t.is (refl, tt)
miss_looks s l (RemoteNotClearToSend, t) = go s.checks t
  where
    go : (b : Bool) → MatchBool b (Then (Asks offsets.LSR LSR.THR_EMPTY.0 true) (LinesAllow false) s l) ⊥ → AllLooks l
    go true t =
        let one : AllLooks t.front = rw t.first.is (refl, tt) in
        rw t.whole (looks-append t.front t.back one (lines_look false s t.back t.second))
    go false t = absurd t

pub unsent_looks : (bytes : List ℕ) (s : Settings) (l : List Access) → Sends bytes 0 s l → AllLooks l
unsent_looks bytes s l (inl t) = rw t.2 tt
unsent_looks bytes s l (inr (inl t)) = miss_looks s l t.2
unsent_looks bytes s l (inr (inr (some, size, t))) =
    let one = some_limit s.fifo s.size in
    absurd (omega (arith, some, size, one))

-- ---- data without a place

-- data is shown, and it waits
waits_shown : (c : ChipState) → (is_data_pending c.fifo c.receiver ≡ true) ⊎ (is_timed_out c.fifo c.receiver ≡ true) →
    0 < length c.receiver.queue
waits_shown c (inl pending) = go c.fifo pending
  where
    go : (fifo : Bool) → is_data_pending fifo c.receiver ≡ true → 0 < length c.receiver.queue
    go true e = let least = some_characters c.receiver.size c.receiver.trigger in grind (arith, nat_tests)
    go false e = grind (arith, nat_tests)
waits_shown c (inr out) =
    let some = and_parts c.fifo (nat_lt 0 (length c.receiver.queue) && (c.receiver.timeout_ticks == c.receiver.timeout_limit)) out in
    let long = and_parts (nat_lt 0 (length c.receiver.queue)) (c.receiver.timeout_ticks == c.receiver.timeout_limit) some.1 in
    let more = long.0 in grind (arith, nat_tests)

-- so a look shows data: not that there is none
pub data_shown : (m o n : MachineState) (isr line : ℕ) → IsOpenAt m →
    (is_data_pending (at_access m).chip.fifo (at_access m).chip.receiver ≡ true)
    ⊎ (is_timed_out (at_access m).chip.fifo (at_access m).chip.receiver ≡ true) → is_thr_empty (interrupt (at_access m).chip) ≡ false →
    MachineStep m (Read offsets.ISR isr) o → MachineStep o (Read offsets.LSR line) n → has line LSR.DATA_READY.0 ≡ false → ⊥
data_shown m o n isr line open_at readable other s t none =
    let c = (at_access m).chip in
    let chip = kept_isr m o isr other s in
    let some : 0 < length o.chip.receiver.queue =
    subst (λ (k : ChipState). 0 < length k.receiver.queue) (sym chip) (waits_shown c readable) in
    let first = read_left offsets.ISR isr m o open_at refl s in
    let still : 0 < length (at_access o).chip.receiver.queue = (waited o first.open_at.loopback).drifts.waits some in
    let same : length n.chip.receiver.queue ≡ length (at_access o).chip.receiver.queue =
    ap (λ (k : MachineState). length k.chip.receiver.queue) t.0 in
    let shows : has_any line LSR.DATA_READY.0 ≡ nat_lt 0 (length n.chip.receiver.queue) = look_data o n line t in
    let yes : nat_lt 0 (length n.chip.receiver.queue) ≡ false = sym shows ∙ (sym (has_one 0 line) ∙ none) in
    let more : 0 < length n.chip.receiver.queue = omega (arith, same, still) in
    let no : nat_lt 0 (length n.chip.receiver.queue) ≡ true = grind (arith, nat_tests) in
    false≢true (sym yes ∙ no)

-- without it no data is left to be shown
rid_of_data : ℕ → ℕ
rid_of_data v = without 8 v IER.DATA_READY.0

data_gone : (value : ℕ) (m n : MachineState) → IsOpenAt m → has_any m.chip.latches.ier IER.DATA_READY.0 ≡ true →
    has_any value IER.DATA_READY.0 ≡ false → Within IER.THR_EMPTY.0 value m.chip.latches.ier → MachineStep m (Write offsets.IER value) n →
    Leaves m n 1
data_gone value m n o enabled gone thr s =
    let latches = (waited m o.loopback).drifts.latches in
    let c = (at_access m).chip in
    let off : is_dlab_set c.latches ≡ false = ap is_dlab_set latches ∙ o.dlab in
    let moved : n ≡ record { chip = enable value c; ahead = (at_access m).ahead } = rw off at s in
    let d : ChipState = enable value c in
    let calm = calm_enable value c
    (λ x. ap (λ (l : LatchesState). has_any l.ier IER.THR_EMPTY.0) latches ∙ thr x) (λ x. absurd (false≢true (sym gone ∙ x))) in
    let none : data_left d.latches ≡ 0 = ap one_if (has_and 0 value ier_bits refl ∙ gone) in
    let one : data_left m.chip.latches ≡ 1 = ap one_if enabled in
    calm_step m n d 1 o moved calm
    (λ most e. omega (arith, none, one, calm.line, calm.sent, calm.modem, e.brought, e.line, e.modem, e.sent))

-- the interrupt of data is disabled
pub data_served : (m o n : MachineState) (isr ier : ℕ) → IsOpenAt m → has_any (at_access m).chip.latches.ier IER.DATA_READY.0 ≡ true →
    is_thr_empty (interrupt (at_access m).chip) ≡ false → MachineStep m (Read offsets.ISR isr) o →
    Path MachineStep o (Read offsets.IER ier ∷ Write offsets.IER (without 8 ier IER.DATA_READY.0) ∷ []) n → Leaves m n 1
data_served m o n isr ier open_at enabled other s p =
    let chip = kept_isr m o isr other s in
    let first = read_left offsets.ISR isr m o open_at refl s in
    let at_o : has_any o.chip.latches.ier IER.DATA_READY.0 ≡ true =
    ap (λ (k : ChipState). has_any k.latches.ier IER.DATA_READY.0) chip ∙ enabled in
    let w = waited o first.open_at.loopback in
    let second = read_left offsets.IER ier o p.0 first.open_at refl p.1 in
    let there : is_dlab_set (at_access o).chip.latches ≡ false = ap is_dlab_set w.drifts.latches ∙ first.open_at.dlab in
    let shown : ier ≡ o.chip.latches.ier = (rw there at p.1.1) ∙ ap (λ (l : LatchesState). l.ier) w.drifts.latches in
    let still : p.0.chip.latches.ier ≡ o.chip.latches.ier =
    ap (λ (k : MachineState). k.chip.latches.ier) p.1.0 ∙ ap (λ (l : LatchesState). l.ier) w.drifts.latches in
    let same : p.0.chip.latches.ier ≡ ier = still ∙ sym shown in
    let q = p.2 in
    let third = data_gone (without 8 ier IER.DATA_READY.0) p.0 q.0 second.open_at
    (ap (λ (v : ℕ). has_any v IER.DATA_READY.0) still ∙ at_o) (has_not 0 ier 254 refl)
    (λ e. ap (λ (v : ℕ). has_any v IER.THR_EMPTY.0) same ∙ (sym (has_and 1 ier 254 refl) ∙ e)) q.1 in
    rw q.2 (leaves-trans m p.0 q.0 0 1 (leaves-trans m o p.0 0 0 first second) third)

or_left : (b : Bool) → (b || false) ≡ true → b ≡ true
or_left true e = refl
or_left false e = absurd (false≢true e)

kept_data : (v : ℕ) → has_any (bit_or v IER.THR_EMPTY.0) IER.DATA_READY.0 ≡ true → has_any v IER.DATA_READY.0 ≡ true
kept_data v e = or_left (has_any v IER.DATA_READY.0) (sym (has_or 0 v IER.THR_EMPTY.0) ∙ e)

-- THR_EMPTY is enabled as it was, or disabled
pub armed_left : (ier : ℕ) (l : List Access) (m n : MachineState) → IsOpenAt m → has_any m.chip.latches.ier IER.THR_EMPTY.0 ≡ true →
    l ≡ Read offsets.IER ier ∷ Write offsets.IER (bit_or ier IER.THR_EMPTY.0) ∷ [] → Path MachineStep m l n → Leaves m n 0
armed_left ier l m n o enabled is path =
    changed_left (λ v. bit_or v IER.THR_EMPTY.0) ier l m n o (λ e. enabled) (λ e. kept_data m.chip.latches.ier e) is path

pub disarmed_left : (ier : ℕ) (l : List Access) (m n : MachineState) → IsOpenAt m →
    l ≡ Read offsets.IER ier ∷ Write offsets.IER (without 8 ier IER.THR_EMPTY.0) ∷ [] → Path MachineStep m l n → Leaves m n 0
disarmed_left ier l m n o is path =
    changed_left (λ v. without 8 v IER.THR_EMPTY.0) ier l m n o
    (λ e. absurd (false≢true (sym (has_not 1 m.chip.latches.ier 253 refl) ∙ e)))
    (λ e. sym (has_and 0 m.chip.latches.ier 253 refl) ∙ e) is path
