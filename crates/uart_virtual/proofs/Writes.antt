-- What becomes of the line when a byte is sent at once: it stays up if something else than an empty THR keeps it there.
use Rattle.std.proofs.Common.{◌≡◌, ℕ, Bool, true, false, not, ◌&&◌, ◌||◌, nat_lt, length, refl, ap, sym, ◌∙◌, if◌then◌else◌}
use Rattle.uart_chip.proofs.AccessMoves.{both_if}
use Rattle.uart_chip.specs.Chip.{ChipState, after_write, cut_of, is_loopback, with_thr_pending}
use Rattle.uart_chip.specs.Sending.{put_on_wire, send_at_once, sends_at_once}
use Rattle.uart_chip.specs.Transmitter.{TransmitterState, load, room}
use Rattle.uart_live.proofs.Sends.{Sends, sends}
use Rattle.uart_live.specs.Quick.{passed, when_due}
use Rattle.uart_spec.specs.Bits.{has_any}
use Rattle.uart_spec.specs.declared.registers.interrupt_enable.TheConstants.IER
use Rattle.uart_spec.specs.declared.registers.offsets.TheConstants as offsets
use Rattle.uart_virtual.proofs.Stays.{causes, empty, errors, lines, ready, same_errors, timeout}
use Rattle.uart_virtual.specs.Port.{IsStill, IsTold, Write, is_up, stays_up}
use Rattle.uart_virtual.specs.declared.told.Told.{Told}

-- of the transmitter the line shows only whether its interrupt is pending
same_level : (c : ChipState) (t u : TransmitterState) → t.is_thr_pending ≡ u.is_thr_pending →
    is_up (record c { transmitter = t }) ≡ is_up (record c { transmitter = u })
same_level c t u e =
    let a : ChipState = record c { transmitter = t } in
    let b : ChipState = record c { transmitter = u } in
    let i : ℕ = c.receiver.timeout_ticks in
    let shown : errors a ≡ errors b =
    ap (λ (x : Bool). has_any c.latches.ier IER.RECEIVER_LINE_STATUS.0 && x) (same_errors c t i ∙ sym (same_errors c u i)) in
    causes a ∙
    (ap (λ (x : Bool). x || (ready c || (timeout c || (empty a || lines c)))) shown ∙
    (ap (λ (x : Bool). errors b || (ready c || (timeout c || ((has_any c.latches.ier IER.THR_EMPTY.0 && x) || lines c)))) e ∙
    sym (causes b)))

-- the line, but for an empty THR
abbrev pub others : ChipState → Bool
others c = is_up (when_due false c)

-- a timeout that is due is due
not_yet : (pending : Bool) (c : ChipState) → IsStill c → is_up (when_due pending c) ≡ is_up (with_thr_pending pending c)
not_yet pending c s =
    ap (λ (i : ℕ). is_up (record c {
      transmitter = record c.transmitter { is_thr_pending = pending };
      receiver = record c.receiver { timeout_ticks = i };
    })) (sym s.due)

with_true : (b : Bool) → b ≡ (b && true)
with_true true = refl
with_true false = refl

-- it was up all the time, if something else keeps it there
pub stays_sent : (value : ℕ) (c : ChipState) → IsStill c → sends_at_once c ≡ true →
    others c ≡ stays_up (Write offsets.DATA value) (after_write offsets.DATA value c)
stays_sent value c still e =
    let s : Sends c = sends c e in
    let d : ChipState = after_write offsets.DATA value c in
    let loaded : TransmitterState = load c.fifo (cut_of c value) c.transmitter in
    let is : d ≡ record c { transmitter = loaded } = rw s.latched refl in
    let cleared : loaded.is_thr_pending ≡ false =
    both_if (λ (t : TransmitterState). t.is_thr_pending ≡ false) _ _
    (nat_lt (length c.transmitter.queue) (room c.fifo c.transmitter.size)) refl refl in
    let outside : is_loopback d.latches ≡ false = ap (λ (x : ChipState). is_loopback x.latches) is ∙ s.outside in
    not_yet false c still ∙
    (same_level c (record c.transmitter { is_thr_pending = false }) loaded (sym cleared) ∙
    (ap (λ (x : ChipState). is_up x) (sym is) ∙
    (with_true (is_up d) ∙ ap (λ (b : Bool). is_up d && not b) (sym outside))))

-- nothing keeps a line up that is down
lower : (e r t on p l : Bool) → (e || (r || (t || ((on && p) || l)))) ≡ false → (e || (r || (t || ((on && false) || l)))) ≡ false
lower true r t on p l h = absurd (cc)
lower false true t on p l h = absurd (cc)
lower false false true on p l h = absurd (cc)
lower false false false true true l h = absurd (cc)
lower false false false true false l h = h
lower false false false false p l h = h

none_down : (c : ChipState) → IsStill c → is_up c ≡ false → others c ≡ false
none_down c still down =
    not_yet false c still ∙
    (causes (with_thr_pending false c) ∙
    lower (errors c) (ready c) (timeout c) (has_any c.latches.ier IER.THR_EMPTY.0) c.transmitter.is_thr_pending (lines c)
    (sym (causes c) ∙ down))

-- so it need not be asked for if the line was down
pub kept_up : (c : ChipState) (told : Told) (result : Bool) → IsStill c → IsTold (record { chip = c; told = told }) →
    (told.line ≡ true → result ≡ others c) → (told.line ≡ false → result ≡ false) → result ≡ others c
kept_up c told result still h up down = go told.line refl
  where
    go : (line : Bool) → told.line ≡ line → result ≡ others c
    go true e = up e
    go false e = down e ∙ sym (none_down c still (sym h.line ∙ e))

either_way : (e r t on l : Bool) →
    (e || (r || (t || ((on && true) || l)))) ≡ ((e || (r || (t || ((on && false) || l)))) || on)
either_way true r t on l = refl
either_way false true t on l = refl
either_way false false true on l = refl
either_way false false false true true = refl
either_way false false false true false = refl
either_way false false false false true = refl
either_way false false false false false = refl

-- and is up then, if something else keeps it there, or the interrupt of an empty THR is enabled
pub level_passed : (c : ChipState) → IsStill c → is_up (passed c) ≡ (others c || has_any c.latches.ier IER.THR_EMPTY.0)
level_passed c still =
    let on : Bool = has_any c.latches.ier IER.THR_EMPTY.0 in
    let a : ChipState = with_thr_pending true c in
    let b : ChipState = with_thr_pending false c in
    causes a ∙
    (either_way (errors c) (ready c) (timeout c) on (lines c) ∙
    (ap (λ (up : Bool). up || on) (sym (causes b)) ∙ ap (λ (up : Bool). up || on) (sym (not_yet false c still))))

-- the same of values that are equal to these
pub level_is : (c : ChipState) (up on : Bool) → up ≡ others c → on ≡ has_any c.latches.ier IER.THR_EMPTY.0 → IsStill c →
    (up || on) ≡ is_up (passed c)
level_is c up on e f still =
    ap (λ (b : Bool). b || on) e ∙ (ap (λ (b : Bool). others c || b) f ∙ sym (level_passed c still))

pub level_sent : (value : ℕ) (c : ChipState) → IsStill c →
    is_up (send_at_once value c) ≡ (others c || has_any c.latches.ier IER.THR_EMPTY.0)
level_sent value c still =
    same_level c (put_on_wire (cut_of c value) c.transmitter) (record c.transmitter { is_thr_pending = true }) refl ∙
    level_passed c still
