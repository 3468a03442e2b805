-- A transmitter's queue that held bytes before a call and is empty after it interrupts a guest that has this enabled.
use Rattle.std.proofs.Common.{◌≡◌, ◌≢◌, ℕ, zero, suc, ◌≤◌, ◌==◌, nat_lt, Bool, true, false, ◌&&◌, ◌⊎◌, inl, inr}
use Rattle.std.proofs.Common.{List, [], ◌∷◌, ◌++◌, take, length, Option, Some, None, is_some}
use Rattle.std.proofs.Common.{refl, ap, sym, ◌∙◌, subst, arith}
use Rattle.std.proofs.lemmas.Bool.{eqb-true, lt-ltb}
use Rattle.std.proofs.lemmas.List.{length-append}
use Rattle.uart_spec.specs.Bits.{has_any}
use Rattle.uart_spec.specs.declared.registers.interrupt_enable.TheConstants.IER
use Rattle.uart_spec.specs.declared.registers.interrupt_type.InterruptType.{InterruptType}
use Rattle.uart_spec.specs.declared.registers.line_status.TheConstants.LSR
use Rattle.uart_spec.specs.declared.registers.offsets.TheConstants as offsets
use Rattle.uart_chip.specs.declared.transmitter.Shifting.{Shifting}
use Rattle.uart_chip.specs.Transmitter.{TransmitterState, room, shift, refill, shift_bytes, held}
use Rattle.uart_chip.specs.Receiver.{is_data_pending, is_timed_out}
use Rattle.uart_chip.specs.Chip.{ChipState, ticks, is_loopback, is_held_off, is_dlab_set, interrupt, is_thr_empty, line_status}
use Rattle.uart_chip.specs.Chip.{after_write, arrive_live}
use Rattle.uart_chip.proofs.AccessMoves.{both_if, if_given}
use Rattle.uart_chip.proofs.lasting.Lasting.{LastsInAccesses, lasts-write}
use Rattle.uart_virtual.specs.Port.{PortCall, Read, Write, Receive, after}
use Rattle.uart_virtual.specs.Port.{happen, written, holds_less, settle_ticks, is_up, accepted, arrive_all}
use Rattle.uart_virtual.specs.Laws.{AnEmptiedQueueInterrupts}

-- the queue holds bytes, or a THR-empty interrupt is pending
abbrev Asks : TransmitterState → Type 0
Asks t = (t.queue ≢ []) ⊎ (t.is_thr_pending ≡ true)

abbrev AsksOf : ChipState → Type 0
AsksOf c = Asks c.transmitter

-- ---- while time passes

asks-shift : (loopback : Bool) (place : Option Shifting) (t : TransmitterState) → Asks t → Asks (shift loopback place t)
asks-shift loopback None t h = h
asks-shift loopback (Some s) t h =
    both_if Asks _ _ (nat_lt 1 s.ticks_left) h
    (both_if Asks _ _ loopback h (both_if Asks _ _ (nat_lt (length t.wire) t.capacity) h h))

asks-refill : (place : Option Shifting) (queue : List ℕ) (t : TransmitterState) → Asks t → Asks (refill place queue t)
asks-refill (Some s) queue t h = h
asks-refill None [] t h = h
asks-refill None (x ∷ []) t h = inr refl
asks-refill None (x ∷ y ∷ xs) t h = inl (λ none. absurd (cc))

asks-ticks : (n : ℕ) (c : ChipState) → AsksOf c → AsksOf (ticks n c)
asks-ticks zero c h = h
asks-ticks (suc n) c h =
    let d : ChipState = ticks n c in
    let u : TransmitterState = shift (is_loopback d.latches) d.transmitter.shift_register d.transmitter in
    let shifted = asks-shift (is_loopback d.latches) d.transmitter.shift_register d.transmitter (asks-ticks n c h) in
    both_if Asks _ _ (is_held_off d) shifted (asks-refill u.shift_register u.queue u shifted)

-- ---- in what happens

asks-all : (bytes : List ℕ) (c : ChipState) → AsksOf c → AsksOf (arrive_all bytes c)
asks-all [] c h = h
asks-all (byte ∷ bytes) c h = asks-all bytes (arrive_live byte 0 c) h

longer : (queue : List ℕ) (byte : ℕ) → queue ++ byte ∷ [] ≢ []
longer [] byte = λ none. absurd (cc)
longer (x ∷ xs) byte = λ none. absurd (cc)

positive : (queue : List ℕ) → queue ≢ [] → 1 ≤ length queue
positive [] some = absurd (some refl)
positive (x ∷ xs) some = omega arith

-- another register than FCR is written
asks-other : (offset value : ℕ) (c : ChipState) → (offset == offsets.FCR) ≡ false → c.transmitter.queue ≢ [] →
    AsksOf (after_write offset value c)
asks-other offset value c other some =
    both_if AsksOf _ _ (offset == offsets.DATA)
    (both_if AsksOf _ _ (is_dlab_set c.latches) (inl some)
    (both_if Asks _ _ (nat_lt (length c.transmitter.queue) (room c.fifo c.transmitter.size)) (inl (longer c.transmitter.queue _))
    (inl (both_if (λ (queue : List ℕ). queue ≢ []) _ _ c.fifo some (λ none. absurd (cc))))))
    (both_if AsksOf _ _ (offset == offsets.IER) (both_if AsksOf _ _ (is_dlab_set c.latches) (inl some) (inl some))
    (rw other (both_if AsksOf _ _ (offset == offsets.LCR) (inl some) (both_if AsksOf _ _ (offset == offsets.MCR) (inl some)
    (both_if AsksOf _ _ (offset == offsets.SPR) (inl some) (inl some))))))

-- FCR leaves the shift register as it is, and empties the queue or leaves it too
abbrev Leaves : TransmitterState → TransmitterState → Type 0
Leaves old t = (t.shift_register ≡ old.shift_register) × ((t.queue ≡ []) ⊎ (t.queue ≡ old.queue))

leaves_lasts : (old : TransmitterState) → LastsInAccesses (Leaves old)
leaves_lasts old = record {
  pending = λ t pending h. h;
  cleared = λ t pending h. (h.0, inl refl);
  resized = λ t size h. (h.0, inl refl);
}

-- a queue that was emptied holds less
emptied-less : (t u : TransmitterState) → u.shift_register ≡ t.shift_register → u.queue ≡ [] → t.queue ≢ [] →
    nat_lt (length (held u)) (length (held t)) ≡ true
emptied-less t u place none some =
    let before = length-append (shift_bytes t.shift_register) t.queue in
    let now = length-append (shift_bytes u.shift_register) u.queue in
    let shifted : length (shift_bytes u.shift_register) ≡ length (shift_bytes t.shift_register) =
    ap (λ (p : Option Shifting). length (shift_bytes p)) place in
    let zero_left : length u.queue ≡ 0 = ap (λ (queue : List ℕ). length queue) none in
    lt-ltb (length (held u)) (length (held t))
    (omega (arith, before, now, shifted, zero_left, positive t.queue some))

asks-fcr : (value : ℕ) (c : ChipState) → c.transmitter.queue ≢ [] → AsksOf (written offsets.FCR value c)
asks-fcr value c some =
    let d : ChipState = after_write offsets.FCR value c in
    let left : Leaves c.transmitter d.transmitter =
    lasts-write (Leaves c.transmitter) (leaves_lasts c.transmitter) offsets.FCR value c refl (refl, inr refl) in
    if_given AsksOf _ _ (holds_less c d) (λ e. inr refl) (λ e. kept d left e)
  where
    kept : (d : ChipState) → Leaves c.transmitter d.transmitter → holds_less c d ≡ false → AsksOf d
    kept d (place, inl none) e =
        let less : holds_less c d ≡ true = emptied-less c.transmitter d.transmitter place none some in absurd (cc)
    kept d (place, inr same) e = inl (λ none. some (sym same ∙ none))

asks-write : (offset value : ℕ) (c : ChipState) → c.transmitter.queue ≢ [] → AsksOf (written offset value c)
asks-write offset value c some = go (offset == offsets.FCR) refl
  where
    go : (b : Bool) → (offset == offsets.FCR) ≡ b → AsksOf (written offset value c)
    go true e = subst (λ (n : ℕ). AsksOf (written n value c)) (sym (eqb-true offset offsets.FCR e)) (asks-fcr value c some)
    go false e =
        let d : ChipState = after_write offset value c in
        let w : AsksOf d = asks-other offset value c e some in
        both_if AsksOf _ _ ((offset == offsets.FCR) && holds_less c d) (inr refl) w

asks-happen : (call : PortCall) (c : ChipState) → c.transmitter.queue ≢ [] → AsksOf (happen call c)
asks-happen (Read offset) c some =
    both_if AsksOf _ _ (offset == offsets.DATA) (both_if AsksOf _ _ (is_dlab_set c.latches) (inl some) (inl some))
    (both_if AsksOf _ _ (offset == offsets.ISR) (both_if AsksOf _ _ (is_thr_empty (interrupt c)) (inl some) (inl some))
    (both_if AsksOf _ _ (offset == offsets.LSR) (inl some)
    (both_if AsksOf _ _ (offset == offsets.MSR) (inl some) (inl some))))
asks-happen (Write offset value) c some = asks-write offset value c some
asks-happen (Receive bytes) c some = asks-all (take (accepted bytes c) bytes) c (inl some)
asks-happen _ c some = inl some

-- ---- what the guest is told

-- a THR-empty interrupt that is pending and enabled takes the line up, unless another has
pending_is_up : (c : ChipState) → has_any c.latches.ier IER.THR_EMPTY.0 ≡ true → c.transmitter.is_thr_pending ≡ true →
    is_up c ≡ true
pending_is_up c on pending =
    let is_one : Option InterruptType → Type 0 = λ (x : Option InterruptType). is_some x ≡ true in
    both_if is_one _ _ (has_any c.latches.ier IER.RECEIVER_LINE_STATUS.0 && has_any (line_status c) LSR.LINE_ERRORS.0) refl
    (both_if is_one _ _ (has_any c.latches.ier IER.DATA_READY.0 && is_data_pending c.fifo c.receiver) refl
    (both_if is_one _ _ (has_any c.latches.ier IER.DATA_READY.0 && is_timed_out c.fifo c.receiver) refl
    (rw (on, pending) refl)))

pub emptied_interrupts : AnEmptiedQueueInterrupts
emptied_interrupts call p some none on =
    let d : ChipState = (after call p).chip in
    let c : ChipState = happen call p.chip in
    let pending : d.transmitter.is_thr_pending ≡ true =
    elim (asks-ticks (settle_ticks c.transmitter.size) c (asks-happen call p.chip some)) [
      | inl more ↦ absurd (more none)
      | inr e ↦ e
    ] in
    pending_is_up d on pending
