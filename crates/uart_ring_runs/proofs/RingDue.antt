-- The THR-empty interrupt of the chip: what accesses tell of it holds.
use Rattle.uart_ring_runs.proofs.Names.{◌≡◌, ℕ, ◌-◌, ◌<◌, ◌==◌, ◌⊎◌, ◌||◌, ◌&&◌, Bool, true, false, not, nat_lt, inl, inr, List, [], ◌∷◌}
use Rattle.uart_ring_runs.proofs.Names.{◌++◌, length, length-append, Option, Some, None, refl, sym, ◌∙◌, ap, arith, bit_and, if◌then◌else◌}
use Rattle.uart_ring_runs.proofs.Names.{and_parts, or_cases, not-true, false≢true, nat_tests, Path, Access, Read, Write, has, has_any}
use Rattle.uart_ring_runs.proofs.Names.{InterruptType, Chip, Uart16550A, Uart16450, Shifting, ier_bits, report, TransmitterState, shift}
use Rattle.uart_ring_runs.proofs.Names.{refill, load, room, ChipState, cut_of, is_dlab_set, interrupt, is_thr_empty, after_read, enable}
use Rattle.uart_ring_runs.proofs.Names.{with_thr_pending, isr_of, MachineState, MachineStep, at_access, at_mark, at_least_16, has_one}
use Rattle.uart_ring_runs.proofs.Names.{has_and, look_room, either, lasts-before, lasts-before_mark, shows_64, Kept, keep_control}
use Rattle.uart_ring_runs.proofs.Names.{keep_write, kept_in, kept_access, kept_step, kept-before_mark, ThrEmpty, shows_thr_empty}
use Rattle.uart_ring_runs.proofs.Names.{due_after_read, known_after, known_after_all, IsTrueOfIer, KeepsIer, is_due, thr_empty_of}
use Rattle.std.proofs.Math.Bool.{or-true}
use Rattle.uart_spec.specs.declared.registers.interrupt_enable.TheConstants.IER
use Rattle.uart_spec.specs.declared.registers.interrupt_type.InterruptType.TheVariants as interrupts
use Rattle.uart_spec.specs.declared.registers.line_control.TheConstants.LCR
use Rattle.uart_spec.specs.declared.registers.line_status.TheConstants.LSR
use Rattle.uart_spec.specs.declared.registers.offsets.TheConstants as offsets
use Rattle.uart_chip.specs.Transmitter as transmitter
use Rattle.uart_ring_runs.proofs.RingBlocks.{LeavesLcr, AllLeaveLcr}

-- ---- the transmitter

-- as a sum: the transmit queue is not empty, or that it became empty is still to be told
abbrev pub IsDue : TransmitterState → Type 0
IsDue t = (0 < length t.queue) ⊎ (t.is_thr_pending ≡ true)

pub due_says : (t : TransmitterState) → is_due t ≡ true → IsDue t
due_says t h = go (length t.queue == 0) refl h
  where
    go : (none : Bool) → (length t.queue == 0) ≡ none → (not none || t.is_thr_pending) ≡ true → IsDue t
    go true e h = inr h
    go false e h = inl (grind (arith, nat_tests))

pub says_due : (t : TransmitterState) → IsDue t → is_due t ≡ true
says_due t (inr pending) = rw pending (or-true (not (length t.queue == 0)))
says_due t (inl some) =
    let none : (length t.queue == 0) ≡ false = grind (arith, nat_tests) in
    rw none refl

either_due : (t u : TransmitterState) (b : Bool) → IsDue t → IsDue u → IsDue (if b then t else u)
either_due t u true h k = h
either_due t u false h k = k

due-shift : (loopback : Bool) (place : Option Shifting) (t : TransmitterState) → IsDue t → IsDue (shift loopback place t)
due-shift loopback None t h = h
due-shift loopback (Some s) t h =
    either_due (record t { shift_register = Some (record { byte = s.byte; ticks_left = s.ticks_left - 1 }) }) _ (nat_lt 1 s.ticks_left) h
    (either_due (record t { shift_register = None }) _ loopback h
    (either_due (record t { shift_register = None; wire = t.wire ++ s.byte ∷ [] }) t (nat_lt (length t.wire) t.capacity) h h))

-- the refill that empties the queue makes it pending
due-refill : (place : Option Shifting) (queue : List ℕ) (t : TransmitterState) → IsDue t → IsDue (refill place queue t)
due-refill (Some s) queue t h = h
due-refill None [] t h = h
due-refill None (x ∷ []) t h = inr refl
due-refill None (x ∷ y ∷ xs) t h = inl (omega arith)

pub due-tick : (loopback held_off : Bool) (t : TransmitterState) → IsDue t → IsDue (transmitter.tick loopback held_off t)
due-tick loopback true t h = due-shift loopback t.shift_register t h
due-tick loopback false t h =
    let u : TransmitterState = shift loopback t.shift_register t in
    due-refill u.shift_register u.queue u (due-shift loopback t.shift_register t h)

-- a byte that is written is held
pub due-load : (fifo : Bool) (byte : ℕ) (t : TransmitterState) → IsDue (load fifo byte t)
due-load fifo byte t = go (nat_lt (length t.queue) (room fifo t.size)) refl
  where
    full : (b : Bool) → nat_lt (length t.queue) (room b t.size) ≡ false → 0 < length (if b then t.queue else byte ∷ [])
    full true e = let some = at_least_16 t.size in grind (arith, nat_tests)
    full false e = omega arith

    go : (fits : Bool) → nat_lt (length t.queue) (room fifo t.size) ≡ fits → IsDue (load fifo byte t)
    go true e = rw e (inl (omega (arith, length-append t.queue (byte ∷ []))))
    go false e = rw e (inl (full fifo e))

-- ---- accesses

-- a read withdraws it only if it is of ISR, and shows it
pub due-read : (offset : ℕ) (c : ChipState) → ((offset == offsets.ISR) ≡ true → is_thr_empty (interrupt c) ≡ false) → IsDue c.transmitter →
    IsDue (after_read offset c).transmitter
due-read offset c other h =
    either IsDue _ _ (offset == offsets.DATA) (either IsDue _ _ (is_dlab_set c.latches) h h) (isr (offset == offsets.ISR) refl)
  where
    rest : IsDue (if offset == offsets.LSR then record c { receiver = report c.receiver }
        else if offset == offsets.MSR then record c { modem = record c.modem { deltas = 0 } } else c).transmitter
    rest = either IsDue _ _ (offset == offsets.LSR) h (either IsDue _ _ (offset == offsets.MSR) h h)

    isr : (b : Bool) → (offset == offsets.ISR) ≡ b →
        IsDue (if b then (if is_thr_empty (interrupt c) then with_thr_pending false c else c)
        else if offset == offsets.LSR then record c { receiver = report c.receiver }
        else if offset == offsets.MSR then record c { modem = record c.modem { deltas = 0 } } else c).transmitter
    isr true e = rw (other e) h
    isr false e = rest

due-enable : (value : ℕ) (c : ChipState) → IsDue c.transmitter → IsDue (enable value c).transmitter
due-enable value c (inl some) = inl some
due-enable value c (inr pending) =
    inr (go (not (has_any c.latches.ier IER.THR_EMPTY.0) && (has_any value IER.THR_EMPTY.0 && (length c.transmitter.queue == 0))))
  where
    go : (b : Bool) → (if b then true else c.transmitter.is_thr_pending) ≡ true
    go true = refl
    go false = pending

-- ISR shows it if it is the interrupt of the chip
silent : (i : Option InterruptType) (fifo holds_64 : Bool) → shows_thr_empty (isr_of fifo holds_64 i) ≡ false → is_thr_empty i ≡ false
silent (Some interrupts.TransmitterHoldingRegisterEmpty) true true h = h
silent (Some interrupts.TransmitterHoldingRegisterEmpty) true false h = h
silent (Some interrupts.TransmitterHoldingRegisterEmpty) false holds_64 h = h
silent _ fifo holds_64 h = refl

-- ---- what is known

-- it holds of the machine
abbrev pub Holds : ThrEmpty → MachineState → Type 0
Holds known m =
    (known.enabled ≡ true → (thr_empty_of m).enabled ≡ true) × (known.due ≡ true → (thr_empty_of m).due ≡ true)

abbrev pub IsDlabOff : MachineState → Type 0
IsDlabOff m = is_dlab_set m.chip.latches ≡ false

pub off_access : (m : MachineState) → IsDlabOff m → IsDlabOff (at_access m)
off_access m off = ap (λ (k : Kept). is_dlab_set k.latches) (kept_access m) ∙ off

-- what is due after a read is
read_due : (offset value : ℕ) (due : Bool) (m n : MachineState) → (due ≡ true → is_due m.chip.transmitter ≡ true) →
    MachineStep m (Read offset value) n → due_after_read offset value due ≡ true → is_due n.chip.transmitter ≡ true
read_due offset value due m n was s h = go (offset == offsets.LSR) (offset == offsets.ISR) refl refl h
  where
    lasts : ((offset == offsets.ISR) ≡ true → is_thr_empty (interrupt (at_access m).chip) ≡ false) → due ≡ true →
        is_due n.chip.transmitter ≡ true
    lasts other is =
        says_due n.chip.transmitter (rw s.0 (due-read offset (at_access m).chip other
        (lasts-before IsDue due-tick m.ahead m.chip (due_says m.chip.transmitter (was is)))))

    room_shown : (offset == offsets.LSR) ≡ true → has value LSR.THR_EMPTY.0 ≡ false → is_due n.chip.transmitter ≡ true
    room_shown e none =
        let at : offset ≡ offsets.LSR = grind (arith, nat_tests) in
        let step : MachineStep m (Read offsets.LSR value) n = rw at at s in
        let some : (length n.chip.transmitter.queue == 0) ≡ false = sym (look_room m n value step) ∙ (sym (has_one 5 value) ∙ none) in
        rw some refl

    look : (offset == offsets.LSR) ≡ true → (not (has value LSR.THR_EMPTY.0) ≡ true) ⊎ (due ≡ true) → is_due n.chip.transmitter ≡ true
    look e (inl none) = room_shown e (not-true (has value LSR.THR_EMPTY.0) none)
    look e (inr is) = lasts (λ isr. let at : offset ≡ offsets.LSR = grind (arith, nat_tests) in absurd (false≢true (rw at at isr))) is

    go : (lsr isr : Bool) → (offset == offsets.LSR) ≡ lsr → (offset == offsets.ISR) ≡ isr →
        (if lsr then not (has value LSR.THR_EMPTY.0) || due else if isr then not (shows_thr_empty value) && due else due) ≡ true →
        is_due n.chip.transmitter ≡ true
    go true isr e f h = look e (or_cases (not (has value LSR.THR_EMPTY.0)) due h)
    go false true e f h =
        let at : offset ≡ offsets.ISR = grind (arith, nat_tests) in
        let step : MachineStep m (Read offsets.ISR value) n = rw at at s in
        let c = (at_access m).chip in
        let hidden : shows_thr_empty value ≡ false = not-true (shows_thr_empty value) (and_parts (not (shows_thr_empty value)) due h).0 in
        lasts (λ isr. silent (interrupt c) c.fifo (shows_64 c) (rw step.1 at hidden)) (and_parts (not (shows_thr_empty value)) due h).1
    go false false e f h = lasts (λ isr. absurd (false≢true (sym f ∙ isr))) h

-- what is kept of IER by a read, and by writes with DLAB off
ier_read : (offset value : ℕ) (m n : MachineState) → MachineStep m (Read offset value) n → n.chip.latches.ier ≡ m.chip.latches.ier
ier_read offset value m n s = ap (λ (k : Kept). k.latches.ier) (kept_step (Read offset value) m n s)

pub ier_answer : (value : ℕ) (m n : MachineState) → IsDlabOff m → MachineStep m (Read offsets.IER value) n → value ≡ m.chip.latches.ier
ier_answer value m n off s =
    let there = off_access m off in
    (rw there at s.1) ∙ ap (λ (k : Kept). k.latches.ier) (kept_access m)

-- DLAB stays off where LCR is not written
lcr_if : (b : Bool) (x y k : Kept) → x.latches.lcr ≡ k.latches.lcr → y.latches.lcr ≡ k.latches.lcr →
    (if b then x else y).latches.lcr ≡ k.latches.lcr
lcr_if true x y k p q = p
lcr_if false x y k p q = q

lcr_control : (model : Chip) (value : ℕ) (k : Kept) → (keep_control model value k).latches.lcr ≡ k.latches.lcr
lcr_control Uart16450 value k = refl
lcr_control Uart16550A value k = refl

lcr_write : (offset value : ℕ) (k : Kept) → (offset == offsets.LCR) ≡ false → (keep_write offset value k).latches.lcr ≡ k.latches.lcr
lcr_write offset value k other =
    rw other (lcr_if (offset == offsets.DATA) _ _ k (lcr_if (is_dlab_set k.latches) _ _ k refl refl)
    (lcr_if (offset == offsets.IER) _ _ k (lcr_if (is_dlab_set k.latches) _ _ k refl refl)
    (lcr_if (offset == offsets.FCR) _ _ k (lcr_control k.model value k)
    (lcr_if (offset == offsets.MCR) _ _ k refl
    (lcr_if (offset == offsets.SPR) _ _ k refl refl)))))

pub off_step : (access : Access) (m n : MachineState) → LeavesLcr access → IsDlabOff m → MachineStep m access n → IsDlabOff n
off_step (Read offset value) m n leaves off s = ap (λ (k : Kept). is_dlab_set k.latches) (kept_step (Read offset value) m n s) ∙ off
off_step (Write offset value) m n leaves off s =
    let kept : n.chip.latches.lcr ≡ m.chip.latches.lcr =
    ap (λ (k : Kept). k.latches.lcr) (kept_step (Write offset value) m n s) ∙ lcr_write offset value (kept_in m.chip) leaves in
    ap (λ lcr. has_any lcr LCR.DLAB.0) kept ∙ off

-- ---- a write

write_data_holds : (known : ThrEmpty) (value : ℕ) (m n : MachineState) → IsDlabOff m → Holds known m →
    MachineStep m (Write offsets.DATA value) n → Holds (record { enabled = known.enabled; due = true }) n
write_data_holds known value m n off was s =
    let there = off_access m off in
    let c = (at_access m).chip in
    let step = kept_step (Write offsets.DATA value) m n s in
    let same : n.chip.latches.ier ≡ m.chip.latches.ier = ap (λ (k : Kept). k.latches.ier) (rw off at step) in
    (λ e. rw same (was.0 e), λ e. says_due n.chip.transmitter (rw (s, there) (due-load c.fifo (cut_of c value) c.transmitter)))

write_ier_holds : (known : ThrEmpty) (value : ℕ) (m n : MachineState) → IsDlabOff m → Holds known m →
    MachineStep m (Write offsets.IER value) n → Holds (record { enabled = has value IER.THR_EMPTY.0; due = known.due }) n
write_ier_holds known value m n off was s =
    let there = off_access m off in
    let step = kept_step (Write offsets.IER value) m n s in
    let kept : n.chip.latches.ier ≡ bit_and value ier_bits = ap (λ (k : Kept). k.latches.ier) (rw off at step) in
    let bit : has (bit_and value ier_bits) IER.THR_EMPTY.0 ≡ has value IER.THR_EMPTY.0 =
    has_one 1 (bit_and value ier_bits) ∙ (has_and 1 value ier_bits refl ∙ sym (has_one 1 value)) in (
      λ e. rw kept (bit ∙ e),
      λ e. says_due n.chip.transmitter (rw (s, there) (due-enable value (at_access m).chip
          (lasts-before IsDue due-tick m.ahead m.chip (due_says m.chip.transmitter (was.1 e))))),
    )

-- a write of MCR touches neither IER nor the transmitter
write_mcr_holds : (known : ThrEmpty) (value : ℕ) (m n : MachineState) → Holds known m → MachineStep m (Write offsets.MCR value) n →
    Holds known n
write_mcr_holds known value m n was s =
    let same : n.chip.latches.ier ≡ m.chip.latches.ier =
    ap (λ (k : Kept). k.latches.ier) (kept_step (Write offsets.MCR value) m n s) in (
      λ e. rw same (was.0 e),
      λ e. says_due n.chip.transmitter (rw s (lasts-before IsDue due-tick m.ahead m.chip (due_says m.chip.transmitter (was.1 e)))),
    )

-- ---- one access, and some

-- a read of IER is true of what was known, and what is known after an access holds
step_holds : (known : ThrEmpty) (access : Access) (m n : MachineState) → LeavesLcr access → IsDlabOff m → Holds known m →
    MachineStep m access n → IsTrueOfIer known access × Holds (known_after known access) n
step_holds known (Read offset value) m n leaves off was s =
    (ier, (λ e. rw (ier_read offset value m n s) (was.0 e), read_due offset value known.due m n was.1 s))
  where
    ier : offset ≡ offsets.IER → known.enabled ≡ true → has value IER.THR_EMPTY.0 ≡ true
    ier at enabled = rw (ier_answer value m n off (rw at at s)) (was.0 enabled)
step_holds known (Write offset value) m n leaves off was s =
    (tt, go (offset == offsets.DATA) (offset == offsets.IER) (offset == offsets.MCR) refl refl refl)
  where
    go : (sends ier mcr : Bool) → (offset == offsets.DATA) ≡ sends → (offset == offsets.IER) ≡ ier → (offset == offsets.MCR) ≡ mcr →
        Holds (if sends then record { enabled = known.enabled; due = true }
        else if ier then record { enabled = has value IER.THR_EMPTY.0; due = known.due }
        else if mcr then known
        else record { enabled = false; due = false }) n
    go true ier mcr e f g =
        let at : offset ≡ offsets.DATA = grind (arith, nat_tests) in write_data_holds known value m n off was (rw at at s)
    go false true mcr e f g =
        let at : offset ≡ offsets.IER = grind (arith, nat_tests) in write_ier_holds known value m n off was (rw at at s)
    go false false true e f g =
        let at : offset ≡ offsets.MCR = grind (arith, nat_tests) in write_mcr_holds known value m n was (rw at at s)
    go false false false e f g = (λ h. absurd (false≢true h), λ h. absurd (false≢true h))

pub path_holds : (known : ThrEmpty) (l : List Access) (m n : MachineState) → AllLeaveLcr l → IsDlabOff m → Holds known m →
    Path MachineStep m l n → KeepsIer known l × Holds (known_after_all known l) n
path_holds known [] m n leaves off was p = (tt, rw p was)
path_holds known (access ∷ l) m n leaves off was p =
    let first = step_holds known access m p.0 leaves.0 off was p.1 in
    let rest = path_holds (known_after known access) l p.0 n leaves.1 (off_step access m p.0 leaves.0 off p.1) first.1 p.2 in
    ((first.0, rest.0), rest.1)

-- the events up to a mark
pub mark_holds : (known : ThrEmpty) (m : MachineState) → Holds known m → Holds known (at_mark m)
mark_holds known m was = (
  λ e. rw (ap (λ (k : Kept). k.latches.ier) (kept-before_mark m.ahead m.chip)) (was.0 e),
  λ e. says_due (at_mark m).chip.transmitter (lasts-before_mark IsDue due-tick m.ahead m.chip (due_says m.chip.transmitter (was.1 e))),
)
