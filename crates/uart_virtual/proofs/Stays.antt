-- When the interrupt line stays as it is: while time passes, outside of loopback and while no character can move; and at a
-- read of LSR that shows no error.
use Rattle.std.proofs.Common.{◌≡◌, ℕ, zero, suc, ◌+◌, ◌-◌, Bool, true, false, not, ◌&&◌, ◌||◌, ◌==◌, min, nat_lt, List, [], ◌∷◌, length}
use Rattle.std.proofs.Common.{Option, Some, None, is_some, take, bit_and, bit_or, refl, ap, sym, ◌∙◌, subst, arith, if◌then◌else◌}
use Rattle.std.proofs.lemmas.Grind.{common_steps}
use Rattle.uart_spec.specs.Bits.{has_any, flag}
use Rattle.uart_spec.specs.declared.registers.interrupt_enable.TheConstants.IER
use Rattle.uart_spec.specs.declared.registers.interrupt_type.InterruptType.{InterruptType}
use Rattle.uart_spec.specs.declared.registers.interrupt_type.InterruptType.TheVariants.{ReceiverLineStatus, ReceivedDataReady}
use Rattle.uart_spec.specs.declared.registers.interrupt_type.InterruptType.TheVariants.{ReceptionTimeout}
use Rattle.uart_spec.specs.declared.registers.interrupt_type.InterruptType.TheVariants.{TransmitterHoldingRegisterEmpty, ModemStatus}
use Rattle.uart_spec.specs.declared.registers.line_status.TheConstants.LSR
use Rattle.uart_chip.specs.declared.transmitter.Shifting.{Shifting}
use Rattle.uart_chip.specs.Transmitter as transmitter
use Rattle.uart_chip.specs.Transmitter.{TransmitterState, looped_byte, shift, refill}
use Rattle.uart_chip.specs.Receiver as receiver
use Rattle.std.specs.List.{list_any}
use Rattle.uart_chip.specs.declared.receiver.Character.{Character}
use Rattle.uart_chip.specs.Receiver.{ReceiverState, is_data_pending, is_timed_out, front_errors, unreported, has_errors, report}
use Rattle.uart_chip.specs.Chip.{ChipState, tick, ticks, is_loopback, is_held_off, line_status, is_transmitter_empty}
use Rattle.uart_chip.specs.Chip.{after_read, arrive_live, change_lines, take_wire}
use Rattle.uart_chip.specs.Jumps.{timeout_after, count_down}
use Rattle.uart_chip.proofs.Jumps.{ticks_skip}
use Rattle.uart_chip.proofs.Bits.{and_or}
use Rattle.uart_chip.proofs.soundness.Sounds.{latches-ticks}
use Rattle.uart_chip.proofs.AccessMoves.{both_if}
use Rattle.uart_live.proofs.Sends.{each, unset}
use Rattle.uart_virtual.specs.Port.{PortCall, Read, Write, Receive, ReceiveOne, SetLines, TakeOutput}
use Rattle.uart_virtual.specs.Port.{written, looks, moves_data, rest_of, todo}
use Rattle.uart_spec.specs.declared.registers.offsets.TheConstants as offsets
use Rattle.std.proofs.lemmas.Bool.{eqb-true}
use Rattle.uart_virtual.specs.Port.{is_up, stays_up, happen, settle, kind_of, seen_of, is_news, accepted, arrive_all, IsStill, IsUnmoved}
use Rattle.uart_virtual.specs.Laws.{LineStays, EachDipIsSignalled, AFallUsesOneUp}
use Rattle.uart_virtual.proofs.Times.{unmoved-read, unmoved-all, still_too}

-- ---- a pending THR-empty interrupt stays

abbrev Pends : TransmitterState → Type 0
Pends t = t.is_thr_pending ≡ true

pends-shift : (loopback : Bool) (place : Option Shifting) (t : TransmitterState) → Pends t → Pends (shift loopback place t)
pends-shift loopback None t h = h
pends-shift loopback (Some s) t h =
    both_if Pends _ _ (nat_lt 1 s.ticks_left) h
    (both_if Pends _ _ loopback h (both_if Pends _ _ (nat_lt (length t.wire) t.capacity) h h))

pends-refill : (place : Option Shifting) (queue : List ℕ) (t : TransmitterState) → Pends t → Pends (refill place queue t)
pends-refill (Some s) queue t h = h
pends-refill None [] t h = h
pends-refill None (x ∷ []) t h = refl
pends-refill None (x ∷ y ∷ xs) t h = h

pends-tick : (held_off : Bool) (t : TransmitterState) → Pends t → Pends (transmitter.tick false held_off t)
pends-tick true t h = pends-shift false t.shift_register t h
pends-tick false t h =
    let u : TransmitterState = shift false t.shift_register t in
    pends-refill u.shift_register u.queue u (pends-shift false t.shift_register t h)

-- ---- the errors of the line stay

pub unseen : (a e g : ℕ) (d f : Bool) →
    bit_and (bit_or (bit_or a (bit_or e (flag d LSR.THR_EMPTY.0))) (bit_or (flag f LSR.TRANSMITTER_EMPTY.0) g)) LSR.LINE_ERRORS.0 ≡
    bit_or (bit_or (bit_and a LSR.LINE_ERRORS.0) (bit_or (bit_and e LSR.LINE_ERRORS.0) 0)) (bit_or 0 (bit_and g LSR.LINE_ERRORS.0))
unseen a e g true true = simp and_or refl
unseen a e g true false = simp and_or refl
unseen a e g false true = simp and_or refl
unseen a e g false false = simp and_or refl

pub same_errors : (c : ChipState) (t : TransmitterState) (i : ℕ) →
    has_any (line_status (record c { transmitter = t; receiver = record c.receiver { timeout_ticks = i } })) LSR.LINE_ERRORS.0 ≡
    has_any (line_status c) LSR.LINE_ERRORS.0
same_errors c t i =
    let a : ℕ =
    bit_or (flag (nat_lt 0 (length c.receiver.queue)) LSR.DATA_READY.0) (flag c.receiver.is_overrun LSR.OVERRUN_ERROR.0) in
    let e : ℕ = front_errors c.receiver.queue c.receiver.is_front_reported in
    let g : ℕ =
    flag (c.fifo && list_any has_errors (unreported c.receiver.queue c.receiver.is_front_reported)) LSR.FIFO_DATA_ERROR.0 in
    let u : TransmitterState = c.transmitter in
    ap (λ (v : ℕ). not (v == 0))
    (unseen a e g (length t.queue == 0) (is_transmitter_empty t.queue t.shift_register) ∙
    sym (unseen a e g (length u.queue == 0) (is_transmitter_empty u.queue u.shift_register)))

-- ---- all causes together

up_is : (a b d e f : Bool) (p q r s t : InterruptType) →
    is_some (if a then Some p else if b then Some q else if d then Some r else if e then Some s else if f then Some t else None) ≡
    (a || (b || (d || (e || f))))
up_is true b d e f p q r s t = refl
up_is false true d e f p q r s t = refl
up_is false false true e f p q r s t = refl
up_is false false false true f p q r s t = refl
up_is false false false false true p q r s t = refl
up_is false false false false false p q r s t = refl

grows : (a b d e f d' e' : Bool) → (d ≡ true → d' ≡ true) → (e ≡ true → e' ≡ true) → (a || (b || (d || (e || f)))) ≡ true →
    (a || (b || (d' || (e' || f)))) ≡ true
grows true b d e f d' e' p q h = refl
grows false true d e f d' e' p q h = refl
grows false false true e f d' e' p q h = rw (p refl) refl
grows false false false true f true e' p q h = refl
grows false false false true f false e' p q h = rw (q refl) refl
grows false false false false f true e' p q h = refl
grows false false false false f false true p q h = refl
grows false false false false f false false p q h = h

and-grows : (p q r : Bool) → (q ≡ true → r ≡ true) → (p && q) ≡ true → (p && r) ≡ true
and-grows true q r f h = f h
and-grows false q r f h = h

at_limit : (i limit : ℕ) → (i == limit) ≡ true → (min (i + 1) limit == limit) ≡ true
at_limit i limit h = grind (arith, common_steps)

abbrev pub errors : ChipState → Bool
errors c = has_any c.latches.ier IER.RECEIVER_LINE_STATUS.0 && has_any (line_status c) LSR.LINE_ERRORS.0

abbrev pub ready : ChipState → Bool
ready c = has_any c.latches.ier IER.DATA_READY.0 && is_data_pending c.fifo c.receiver

abbrev pub timeout : ChipState → Bool
timeout c = has_any c.latches.ier IER.DATA_READY.0 && is_timed_out c.fifo c.receiver

abbrev pub empty : ChipState → Bool
empty c = has_any c.latches.ier IER.THR_EMPTY.0 && c.transmitter.is_thr_pending

abbrev pub lines : ChipState → Bool
lines c = has_any c.latches.ier IER.MODEM_STATUS.0 && not (c.modem.deltas == 0)

pub causes : (c : ChipState) → is_up c ≡ (errors c || (ready c || (timeout c || (empty c || lines c))))
causes c =
    up_is (errors c) (ready c) (timeout c) (empty c) (lines c) ReceiverLineStatus ReceivedDataReady ReceptionTimeout
    TransmitterHoldingRegisterEmpty ModemStatus

-- the causes that time can bring stay, so the line stays up
pub stays-part : (c : ChipState) (t : TransmitterState) (i : ℕ) →
    (c.transmitter.is_thr_pending ≡ true → t.is_thr_pending ≡ true) →
    ((c.receiver.timeout_ticks == c.receiver.timeout_limit) ≡ true → (i == c.receiver.timeout_limit) ≡ true) →
    is_up c ≡ true → is_up (record c { transmitter = t; receiver = record c.receiver { timeout_ticks = i } }) ≡ true
stays-part c t i pends due up =
    let d : ChipState = record c { transmitter = t; receiver = record c.receiver { timeout_ticks = i } } in
    let same : errors d ≡ errors c =
    ap (λ (b : Bool). has_any c.latches.ier IER.RECEIVER_LINE_STATUS.0 && b) (same_errors c t i) in
    let before : (errors c || (ready c || (timeout c || (empty c || lines c)))) ≡ true = sym (causes c) ∙ up in
    let after : (errors c || (ready c || (timeout d || (empty d || lines c)))) ≡ true =
    grows (errors c) (ready c) (timeout c) (empty c) (lines c) (timeout d) (empty d)
    (and-grows (has_any c.latches.ier IER.DATA_READY.0) (is_timed_out c.fifo c.receiver) (is_timed_out d.fifo d.receiver)
    (and-grows c.fifo (nat_lt 0 (length c.receiver.queue) && (c.receiver.timeout_ticks == c.receiver.timeout_limit))
    (nat_lt 0 (length c.receiver.queue) && (i == c.receiver.timeout_limit))
    (and-grows (nat_lt 0 (length c.receiver.queue)) (c.receiver.timeout_ticks == c.receiver.timeout_limit)
    (i == c.receiver.timeout_limit) due)))
    (and-grows (has_any c.latches.ier IER.THR_EMPTY.0) c.transmitter.is_thr_pending t.is_thr_pending pends)
    before in
    causes d ∙ (ap (λ (b : Bool). b || (ready c || (timeout d || (empty d || lines c)))) same ∙ after)

stays-tick : (c : ChipState) → is_loopback c.latches ≡ false → is_up c ≡ true → is_up (tick c) ≡ true
stays-tick c outside up =
    let t : TransmitterState = transmitter.tick false (is_held_off c) c.transmitter in
    let i : ℕ = min (c.receiver.timeout_ticks + 1) c.receiver.timeout_limit in
    let d : ChipState = record c { transmitter = t; receiver = record c.receiver { timeout_ticks = i } } in
    let ticked : tick c ≡ d =
    ap (λ (b : Bool). record c {
      transmitter = transmitter.tick b (is_held_off c) c.transmitter;
      receiver = receiver.tick c.fifo (looped_byte b c.transmitter.shift_register) c.receiver;
    }) outside in
    subst (λ (x : ChipState). is_up x ≡ true) (sym ticked)
    (stays-part c t i (pends-tick (is_held_off c) c.transmitter) (at_limit c.receiver.timeout_ticks c.receiver.timeout_limit) up)

pub line_stays : LineStays
line_stays zero c outside up = up
line_stays (suc n) c outside up =
    stays-tick (ticks n c) (ap (λ l. is_loopback l) (latches-ticks n c) ∙ outside) (line_stays n c outside up)

-- ---- while no character can move, the line stays up in loopback too

at_limit_after : (n i limit : ℕ) → (i == limit) ≡ true → (timeout_after n i limit == limit) ≡ true
at_limit_after zero i limit h = h
at_limit_after (suc n) i limit h = grind (arith, common_steps)

unmoved_stays : (n : ℕ) (c : ChipState) → IsUnmoved c → is_up c ≡ true → is_up (ticks n c) ≡ true
unmoved_stays n c u up =
    let i : ℕ = timeout_after n c.receiver.timeout_ticks c.receiver.timeout_limit in
    subst (λ (x : ChipState). is_up x ≡ true) (sym (ticks_skip n c (still_too n (is_held_off c) c u)))
    (stays-part c (count_down n c.transmitter) i (λ h. h)
    (at_limit_after n c.receiver.timeout_ticks c.receiver.timeout_limit) up)

-- ---- a line that is up right after what happens in a call, and not written to in loopback, was up all the time

unmoved-take : (count : ℕ) (c : ChipState) → is_loopback c.latches ≡ true → IsUnmoved c → IsUnmoved (take_wire count c)
unmoved-take count c l u = rw l (rw l at u)

either_place : (d : ChipState) (n : ℕ) → (is_loopback d.latches ≡ true → IsUnmoved d) → is_up d ≡ true → is_up (ticks n d) ≡ true
either_place d n inside up = go (is_loopback d.latches) refl
  where
    go : (b : Bool) → is_loopback d.latches ≡ b → is_up (ticks n d) ≡ true
    go true e = unmoved_stays n d (inside e) up
    go false e = line_stays n d e up

pub stays-up : (call : PortCall) (c : ChipState) (n : ℕ) → IsStill c → stays_up call (happen call c) ≡ true →
    is_up (ticks n (happen call c)) ≡ true
stays-up (Write offset value) c n s e =
    let d : ChipState = written offset value c in
    let both = each (is_up d) (not (is_loopback d.latches)) e in
    line_stays n d (unset (is_loopback d.latches) both.1) both.0
stays-up (Read offset) c n s e = either_place (after_read offset c) n (λ l. unmoved-read offset c s.unmoved) e
stays-up (Receive bytes) c n s e =
    either_place (arrive_all (take (accepted bytes c) bytes) c) n (λ l. unmoved-all (take (accepted bytes c) bytes) c s.unmoved) e
stays-up (ReceiveOne byte errors) c n s e = either_place (arrive_live byte errors c) n (λ l. s.unmoved) e
stays-up (SetLines inputs) c n s e = either_place (change_lines inputs c) n (λ l. s.unmoved) e
stays-up (TakeOutput count) c n s e = either_place (take_wire count c) n (λ l. unmoved-take count c l s.unmoved) e

signals_dip : (up line news was covered : Bool) → up ≡ true → was ≡ false → covered ≡ true →
    (up && (not line || (news || (not was && covered)))) ≡ true
signals_dip true false brings false true u w h = refl
signals_dip true true true false true u w h = refl
signals_dip true true false false true u w h = refl
signals_dip false line news was covered u w h = absurd (cc)
signals_dip true line news true covered u w h = absurd (cc)
signals_dip true line news false false u w h = absurd (cc)

-- a line that was down at a moment of the call did not stay up
fell : (call : PortCall) (c : ChipState) (n : ℕ) → IsStill c → is_up (ticks n (happen call c)) ≡ false →
    stays_up call (happen call c) ≡ false
fell call c n still down = go (stays_up call (happen call c)) refl
  where
    go : (b : Bool) → stays_up call (happen call c) ≡ b → b ≡ false
    go false e = refl
    go true e = let up_then : is_up (ticks n (happen call c)) ≡ true = stays-up call c n still e in absurd (cc)

pub dip_signalled : EachDipIsSignalled
dip_signalled call p n h down up free =
    signals_dip (is_up (settle (happen call p.chip))) p.told.line (is_news (kind_of call p.chip) (seen_of (settle (happen call p.chip))))
    (stays_up call (happen call p.chip)) (p.told.spare == 0) up (fell call p.chip n h.still down) (none p.told.spare free)
  where
    none : (n : ℕ) → n ≡ 0 → (n == 0) ≡ true
    none n e = grind (arith, common_steps)

-- an access of DATA is no look
unlooked : (call : PortCall) → moves_data call ≡ true → looks call ≡ false
unlooked (Read offset) m = ap (λ (n : ℕ). n == offsets.ISR) (eqb-true offset offsets.DATA m)
unlooked _ m = refl

uses_one : (looked moves knows line was signal : Bool) (n rest : ℕ) → looked ≡ false → moves ≡ true → line ≡ true → was ≡ false →
    signal ≡ false →
    (if looked then 0 else if signal then (if moves && knows then rest else 0)
    else if moves && (line && not was) then n - 1 else n) ≡ n - 1
uses_one looked moves knows line was signal n rest l m u w s = rw (l, m, u, w, s) refl

pub a_fall_uses_one_up : AFallUsesOneUp
a_fall_uses_one_up call p n h moves up down quiet =
    uses_one (looks call) (moves_data call) p.told.has_looked p.told.line (stays_up call (happen call p.chip)) (todo call p).signal
    p.told.spare (rest_of (settle (happen call p.chip))) (unlooked call moves) moves (h.told.line ∙ up)
    (fell call p.chip n h.still down) quiet

-- ---- a read that is quiet leaves the line as it is

reported : (r q t f : Bool) →
    bit_and (bit_or (bit_or (bit_or (flag r LSR.DATA_READY.0) (flag false LSR.OVERRUN_ERROR.0)) (bit_or 0 (flag q LSR.THR_EMPTY.0)))
    (bit_or (flag t LSR.TRANSMITTER_EMPTY.0) (flag f LSR.FIFO_DATA_ERROR.0))) LSR.LINE_ERRORS.0 ≡ 0
reported true true true true = refl
reported true true true false = refl
reported true true false true = refl
reported true true false false = refl
reported true false true true = refl
reported true false true false = refl
reported true false false true = refl
reported true false false false = refl
reported false true true true = refl
reported false true true false = refl
reported false true false true = refl
reported false true false false = refl
reported false false true true = refl
reported false false true false = refl
reported false false false true = refl
reported false false false false = refl

none_unreported : (queue : List Character) (was : Bool) → front_errors queue (if length queue == 0 then was else true) ≡ 0
none_unreported [] was = refl
none_unreported (x ∷ xs) was = let some : (length (x ∷ xs) == 0) ≡ false = grind (arith, common_steps) in rw some refl

-- after a read of LSR it shows no error
no_errors : (c : ChipState) → has_any (line_status (record c { receiver = report c.receiver })) LSR.LINE_ERRORS.0 ≡ false
no_errors c =
    let d : ChipState = record c { receiver = report c.receiver } in
    let r : ReceiverState = d.receiver in
    let t : TransmitterState = c.transmitter in
    let f : Bool = c.fifo && list_any has_errors (unreported r.queue r.is_front_reported) in
    ap (λ (e : ℕ). not (bit_and (bit_or (bit_or (bit_or (flag (nat_lt 0 (length r.queue)) LSR.DATA_READY.0)
    (flag false LSR.OVERRUN_ERROR.0)) (bit_or e (flag (length t.queue == 0) LSR.THR_EMPTY.0)))
    (bit_or (flag (is_transmitter_empty t.queue t.shift_register) LSR.TRANSMITTER_EMPTY.0) (flag f LSR.FIFO_DATA_ERROR.0)))
    LSR.LINE_ERRORS.0 == 0)) (none_unreported c.receiver.queue c.receiver.is_front_reported) ∙
    ap (λ (v : ℕ). not (v == 0))
    (reported (nat_lt 0 (length r.queue)) (length t.queue == 0) (is_transmitter_empty t.queue t.shift_register) f)

-- a read of LSR that shows no error leaves the line as it is
pub quiet_status : (c : ChipState) → has_any (line_status c) LSR.LINE_ERRORS.0 ≡ false →
    is_up (record c { receiver = report c.receiver }) ≡ is_up c
quiet_status c none =
    let d : ChipState = record c { receiver = report c.receiver } in
    let same : errors d ≡ errors c =
    ap (λ (b : Bool). has_any c.latches.ier IER.RECEIVER_LINE_STATUS.0 && b) (no_errors c ∙ sym none) in
    causes d ∙ (ap (λ (b : Bool). b || (ready c || (timeout c || (empty c || lines c)))) same ∙ sym (causes c))
