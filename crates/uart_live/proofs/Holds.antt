-- Only ISR and the interrupt line show whether timeouts are held, and one that is due stays due.
use Rattle.std.proofs.Common.{◌≡◌, ◌≢◌, ℕ, zero, suc, ◌+◌, ◌<◌, Bool, true, false, ◌&&◌, ◌==◌, nat_lt, min, List, [], ◌∷◌, ◌++◌}
use Rattle.std.proofs.Common.{length, map, take, Option, Some, None, is_some, refl, arith, ap, sym, ◌∙◌, if◌then◌else◌}
use Rattle.std.proofs.lemmas.Grind.{common_steps}
use Rattle.std.proofs.lemmas.List.{length-append}
use Rattle.uart_events.specs.declared.event.Chip.{Chip}
use Rattle.uart_events.specs.declared.event.Chip.TheVariants.{Uart16550A, Uart16450}
use Rattle.uart_chip.specs.declared.receiver.Character.{Character}
use Rattle.uart_chip.specs.declared.receiver.Origin.TheVariants.{Looped, Live}
use Rattle.uart_chip.specs.declared.transmitter.Shifting.{Shifting}
use Rattle.uart_chip.specs.Transmitter as transmitter
use Rattle.uart_chip.specs.Transmitter.{TransmitterState, room, looped_byte, shift, refill, load}
use Rattle.uart_chip.specs.Receiver as receiver
use Rattle.uart_chip.specs.Receiver.{ReceiverState, enter, replace, come_back, take_front, is_data_pending}
use Rattle.uart_chip.specs.Chip.{ChipState, cut_of, is_dlab_set, is_loopback, is_held_off, tick, ticks, arrive_live, take_wire}
use Rattle.uart_chip.specs.Chip.{change_lines}
use Rattle.uart_chip.specs.Chip.{line_status, interrupt, is_thr_empty, with_thr_pending, answer, after_read, after_write}
use Rattle.uart_chip.specs.Chip.{set_fifo, control, switch, is_same, reset_receiver, reset_transmitter, set_trigger, trigger_level}
use Rattle.uart_chip.specs.Chip.{switch_size, is_switching}
use Rattle.uart_chip.proofs.soundness.Sounds.{latches-ticks}
use Rattle.uart_spec.specs.Bits.{has_any}
use Rattle.uart_spec.specs.declared.registers.fifo_control.TheConstants.FCR
use Rattle.uart_spec.specs.declared.registers.interrupt_enable.TheConstants.IER
use Rattle.uart_spec.specs.declared.registers.interrupt_type.InterruptType.{InterruptType}
use Rattle.uart_spec.specs.declared.registers.line_status.TheConstants.LSR
use Rattle.uart_spec.specs.declared.registers.offsets.TheConstants as offsets
use Rattle.uart_live.specs.Held.{is_due, expire}
use Rattle.uart_live.specs.Laws.{Act, Read, Write, Ticks, Arrive, ArriveHolding, SetLines, TakeWire, after, in_turn}
use Rattle.uart_live.specs.Laws.{is_data, withdrawing, seen, OnlyInterruptsShowHolding, IsHolding, HeldTimeoutsStay, DueTimeoutsInterrupt}
use Rattle.uart_chip.proofs.AccessMoves.{both_if, ReadMove, takes, read_move, WriteMove, switches, resizes, clears, write_move}

both_ifs : {A : Type 0} (R : A → A → Type 0) (x y v w : A) (b : Bool) → R x v → R y w → R (if b then x else y) (if b then v else w)
both_ifs R x y v w true p q = p
both_ifs R x y v w false p q = q

-- ---- what only interrupts show

-- without what only ISR and the interrupt line show: the ticks towards a timeout, and whether a THR-empty interrupt is pending
abbrev pub plain_receiver : ReceiverState → ReceiverState
plain_receiver r = record r { timeout_ticks = 0 }

abbrev pub plain_transmitter : TransmitterState → TransmitterState
plain_transmitter t = record t { is_thr_pending = false }

abbrev pub plain : ChipState → ChipState
plain c = record c { transmitter = plain_transmitter c.transmitter; receiver = plain_receiver c.receiver }

-- alike in all else
abbrev pub AlikeReceivers : ReceiverState → ReceiverState → Type 0
AlikeReceivers r s = plain_receiver r ≡ plain_receiver s

abbrev pub AlikeTransmitters : TransmitterState → TransmitterState → Type 0
AlikeTransmitters t u = plain_transmitter t ≡ plain_transmitter u

abbrev pub Alike : ChipState → ChipState → Type 0
Alike c d = plain c ≡ plain d

-- a function does the same to chips that are alike, if it does so to a chip and to what is plain of it
carry : (f : ChipState → ChipState) → ((c : ChipState) → Alike (f c) (f (plain c))) → (c d : ChipState) → Alike c d → Alike (f c) (f d)
carry f same c d e = same c ∙ (ap (λ (x : ChipState). plain (f x)) e ∙ sym (same d))

with_receiver : (c : ChipState) (r s : ReceiverState) → AlikeReceivers r s →
    Alike (record c { receiver = r }) (record (plain c) { receiver = s })
with_receiver c r s e = ap (λ (x : ReceiverState). record c { transmitter = plain_transmitter c.transmitter; receiver = x }) e

with_transmitter : (c : ChipState) (t u : TransmitterState) → AlikeTransmitters t u →
    Alike (record c { transmitter = t }) (record (plain c) { transmitter = u })
with_transmitter c t u e = ap (λ (x : TransmitterState). record c { transmitter = x; receiver = plain_receiver c.receiver }) e

replace-plain : (queue : List Character) (new : Character) (r : ReceiverState) →
    AlikeReceivers (replace queue new r) (replace queue new (plain_receiver r))
replace-plain [] new r = refl
replace-plain (old ∷ others) new r = refl

enter-plain : (fifo : Bool) (new : Character) (r : ReceiverState) →
    AlikeReceivers (enter fifo new r) (enter fifo new (plain_receiver r))
enter-plain fifo new r =
    both_ifs AlikeReceivers _ _ _ _ (nat_lt (length r.queue) (room fifo r.size)) refl
    (both_ifs AlikeReceivers _ _ _ _ fifo refl (replace-plain r.queue new r))

come_back-plain : (fifo : Bool) (byte : Option ℕ) (r : ReceiverState) →
    AlikeReceivers (come_back fifo byte r) (come_back fifo byte (plain_receiver r))
come_back-plain fifo None r = refl
come_back-plain fifo (Some byte) r = enter-plain fifo (record { byte = byte; errors = 0; origin = Looped }) r

take-plain : (queue : List Character) (r : ReceiverState) → AlikeReceivers (take_front queue r) (take_front queue (plain_receiver r))
take-plain [] r = refl
take-plain (front ∷ others) r = refl

shift-plain : (loopback : Bool) (place : Option Shifting) (t : TransmitterState) →
    shift loopback place (plain_transmitter t) ≡ plain_transmitter (shift loopback place t)
shift-plain loopback None t = refl
shift-plain loopback (Some s) t =
    let R : TransmitterState → TransmitterState → Type 0 = λ (t u : TransmitterState). t ≡ plain_transmitter u in
    both_ifs R _ _ _ _ (nat_lt 1 s.ticks_left) refl
    (both_ifs R _ _ _ _ loopback refl (both_ifs R _ _ _ _ (nat_lt (length t.wire) t.capacity) refl refl))

refill-plain : (place : Option Shifting) (queue : List ℕ) (t : TransmitterState) →
    AlikeTransmitters (refill place queue (plain_transmitter t)) (refill place queue t)
refill-plain None (x ∷ []) t = refl
refill-plain _ _ t = refl

shifts-plain : (loopback held_off : Bool) (t : TransmitterState) →
    AlikeTransmitters (transmitter.tick loopback held_off t) (transmitter.tick loopback held_off (plain_transmitter t))
shifts-plain loopback true t = sym (ap plain_transmitter (shift-plain loopback t.shift_register t))
shifts-plain loopback false t =
    let u : TransmitterState = shift loopback t.shift_register t in
    sym (ap (λ (v : TransmitterState). plain_transmitter (refill v.shift_register v.queue v)) (shift-plain loopback t.shift_register t) ∙
    refill-plain u.shift_register u.queue u)

tick-plain : (c : ChipState) → Alike (tick c) (tick (plain c))
tick-plain c =
    let loopback : Bool = is_loopback c.latches in
    let looped : Option ℕ = looped_byte loopback c.transmitter.shift_register in
    let r : ReceiverState = receiver.tick c.fifo looped c.receiver in
    let held_off : Bool = is_held_off c in
    let u : TransmitterState = transmitter.tick loopback held_off (plain_transmitter c.transmitter) in
    ap (λ (t : TransmitterState). record c { transmitter = t; receiver = plain_receiver r })
    (shifts-plain loopback held_off c.transmitter) ∙
    ap (λ (s : ReceiverState). record c { transmitter = plain_transmitter u; receiver = s }) (come_back-plain c.fifo looped c.receiver)

ticks-plain : (n : ℕ) (c : ChipState) → Alike (ticks n c) (ticks n (plain c))
ticks-plain zero c = refl
ticks-plain (suc n) c = carry tick tick-plain (ticks n c) (ticks n (plain c)) (ticks-plain n c)

arrive_live-plain : (byte errors : ℕ) (c : ChipState) → Alike (arrive_live byte errors c) (arrive_live byte errors (plain c))
arrive_live-plain byte errors c =
    let loopback : Bool = is_loopback c.latches in
    let cut : ℕ = cut_of c byte in
    with_receiver c (receiver.arrive_live loopback c.fifo cut errors c.receiver)
    (receiver.arrive_live loopback c.fifo cut errors (plain_receiver c.receiver))
    (both_ifs AlikeReceivers _ _ _ _ loopback refl
    (enter-plain c.fifo (record { byte = cut; errors = errors; origin = Live }) c.receiver))

isr-plain : (c : ChipState) (b : Bool) → Alike (if b then with_thr_pending false c else c) c
isr-plain c true = refl
isr-plain c false = refl

read-plain : (offset : ℕ) (c : ChipState) → Alike (after_read offset c) (after_read offset (plain c))
read-plain offset c =
    both_ifs Alike _ _ _ _ (offset == offsets.DATA)
    (both_ifs Alike _ _ _ _ (is_dlab_set c.latches) refl
    (with_receiver c (take_front c.receiver.queue c.receiver) (take_front c.receiver.queue (plain_receiver c.receiver))
    (take-plain c.receiver.queue c.receiver)))
    (both_ifs Alike _ _ _ _ (offset == offsets.ISR)
    (isr-plain c (is_thr_empty (interrupt c)) ∙ sym (isr-plain (plain c) (is_thr_empty (interrupt (plain c)))))
    (both_ifs Alike _ _ _ _ (offset == offsets.LSR) refl (both_ifs Alike _ _ _ _ (offset == offsets.MSR) refl refl)))

fifo-plain : (value : ℕ) (c : ChipState) → Alike (set_fifo value c) (set_fifo value (plain c))
fifo-plain value c =
    let on : Bool = has_any value FCR.FIFO_ENABLE.0 in
    let d : ChipState = if is_same c.fifo on then c else switch on c in
    let e : ChipState = if is_same c.fifo on then plain c else switch on (plain c) in
    let a : Alike d e = both_ifs Alike c (switch on c) (plain c) (switch on (plain c)) (is_same c.fifo on) refl refl in
    let f : ChipState = switch_size value d in
    let g : ChipState = switch_size value e in
    let s : Alike f g =
    carry (switch_size value) (λ (x : ChipState). both_ifs Alike _ _ _ _ (is_switching value x) refl refl) d e a in
    let b : Alike (reset_receiver value f) (reset_receiver value g) =
    carry (reset_receiver value) (λ (x : ChipState). both_ifs Alike _ _ _ _ (has_any value FCR.RX_FIFO_RESET.0) refl refl) f g s in
    let h : Alike (reset_transmitter value (reset_receiver value f)) (reset_transmitter value (reset_receiver value g)) =
    carry (reset_transmitter value) (λ (x : ChipState). both_ifs Alike _ _ _ _ (has_any value FCR.TX_FIFO_RESET.0) refl refl)
    (reset_receiver value f) (reset_receiver value g) b in
    both_ifs Alike _ _ _ _ on
    (carry (set_trigger (trigger_level value)) (λ (x : ChipState). refl) (reset_transmitter value (reset_receiver value f))
    (reset_transmitter value (reset_receiver value g)) h) a

control-plain : (model : Chip) (value : ℕ) (c : ChipState) → Alike (control model value c) (control model value (plain c))
control-plain Uart16450 value c = refl
control-plain Uart16550A value c = fifo-plain value c

load-plain : (fifo : Bool) (byte : ℕ) (t : TransmitterState) → AlikeTransmitters (load fifo byte t) (load fifo byte (plain_transmitter t))
load-plain fifo byte t = both_ifs AlikeTransmitters _ _ _ _ (nat_lt (length t.queue) (room fifo t.size)) refl refl

write-plain : (offset value : ℕ) (c : ChipState) → Alike (after_write offset value c) (after_write offset value (plain c))
write-plain offset value c =
    both_ifs Alike _ _ _ _ (offset == offsets.DATA)
    (both_ifs Alike _ _ _ _ (is_dlab_set c.latches) refl
    (with_transmitter c (load c.fifo (cut_of c value) c.transmitter) (load c.fifo (cut_of c value) (plain_transmitter c.transmitter))
    (load-plain c.fifo (cut_of c value) c.transmitter)))
    (both_ifs Alike _ _ _ _ (offset == offsets.IER) (both_ifs Alike _ _ _ _ (is_dlab_set c.latches) refl refl)
    (both_ifs Alike _ _ _ _ (offset == offsets.FCR) (control-plain c.model value c)
    (both_ifs Alike _ _ _ _ (offset == offsets.LCR) refl (both_ifs Alike _ _ _ _ (offset == offsets.MCR) refl
    (both_ifs Alike _ _ _ _ (offset == offsets.SPR) refl refl)))))

alike-after : (act : Act) (c d : ChipState) → Alike c d → Alike (after (withdrawing act) c) (after act d)
alike-after (Read offset) c d e = carry (after_read offset) (read-plain offset) c d e
alike-after (Write offset value) c d e = carry (after_write offset value) (write-plain offset value) c d e
alike-after (Ticks count) c d e = carry (ticks count) (ticks-plain count) c d e
alike-after (Arrive byte errors) c d e = carry (arrive_live byte errors) (arrive_live-plain byte errors) c d e
alike-after (ArriveHolding byte errors) c d e =
    carry (arrive_live byte errors) (arrive_live-plain byte errors) c d e ∙
    (let e : ChipState = arrive_live byte errors d in sym (both_if (λ (x : ChipState). Alike x e) (expire e) e (is_due d) refl refl))
alike-after (SetLines inputs) c d e = carry (change_lines inputs) (λ (x : ChipState). refl) c d e
alike-after (TakeWire count) c d e = carry (take_wire count) (λ (x : ChipState). refl) c d e

last-plain : (queue : List Character) (r : ReceiverState) → (take_front queue r).last_byte ≡ (take_front queue (plain_receiver r)).last_byte
last-plain [] r = refl
last-plain (front ∷ others) r = refl

answer-plain : (offset : ℕ) (c : ChipState) → (offset == offsets.ISR) ≡ false → answer offset c ≡ answer offset (plain c)
answer-plain offset c e =
    let R : ℕ → ℕ → Type 0 = λ (m n : ℕ). m ≡ n in
    both_ifs R _ _ _ _ (offset == offsets.DATA)
    (both_ifs R _ _ _ _ (is_dlab_set c.latches) refl (last-plain c.receiver.queue c.receiver))
    (both_ifs R _ _ _ _ (offset == offsets.IER) refl (rw e refl))

seen-plain : (offset : ℕ) (c : ChipState) → seen (Read offset) c ≡ seen (Read offset) (plain c)
seen-plain offset c = go (offset == offsets.ISR) refl
  where
    go : (b : Bool) → (offset == offsets.ISR) ≡ b →
        (if b then [] else answer offset c ∷ []) ≡ (if b then [] else answer offset (plain c) ∷ [])
    go true e = refl
    go false e = ap (λ (x : ℕ). x ∷ []) (answer-plain offset c e)

alike-seen : (act : Act) (c d : ChipState) → Alike c d → seen (withdrawing act) c ≡ seen act d
alike-seen (Read offset) c d e =
    seen-plain offset c ∙ (ap (λ (x : ChipState). seen (Read offset) x) e ∙ sym (seen-plain offset d))
alike-seen (TakeWire count) c d e = ap (λ (x : ChipState). take count x.transmitter.wire) e
alike-seen _ c d e = refl

alike-run : (acts : List Act) (c d : ChipState) → Alike c d → in_turn seen (map withdrawing acts) c ≡ in_turn seen acts d
alike-run [] c d e = refl
alike-run (act ∷ acts) c d e =
    ap (λ (xs : List ℕ). xs ++ in_turn seen (map withdrawing acts) (after (withdrawing act) c)) (alike-seen act c d e) ∙
    ap (λ (xs : List ℕ). seen act d ++ xs)
    (alike-run acts (after (withdrawing act) c) (after act d) (alike-after act c d e))

pub only_interrupts : OnlyInterruptsShowHolding
only_interrupts acts c = alike-run acts c c refl

-- ---- a timeout that is due stays due

-- what it means that a timeout is due
abbrev pub Due : ChipState → Type 0
Due c = (c.fifo ≡ true) × ((0 < length c.receiver.queue) × (c.receiver.timeout_ticks ≡ c.receiver.timeout_limit))

of-due : (fifo : Bool) (count ticks limit : ℕ) → (fifo ≡ true) × ((0 < count) × (ticks ≡ limit)) →
    (fifo && (nat_lt 0 count && (ticks == limit))) ≡ true
of-due fifo count ticks limit w =
    let a = w.0 in let b = w.1.0 in let c = w.1.1 in grind (arith, common_steps)

to-due : (fifo : Bool) (count ticks limit : ℕ) → (fifo && (nat_lt 0 count && (ticks == limit))) ≡ true →
    (fifo ≡ true) × ((0 < count) × (ticks ≡ limit))
to-due false count ticks limit e = absurd (cc)
to-due true count ticks limit e = go (nat_lt 0 count) refl (ticks == limit) refl e
  where
    go : (a : Bool) → nat_lt 0 count ≡ a → (b : Bool) → (ticks == limit) ≡ b → (a && b) ≡ true →
        (true ≡ true) × ((0 < count) × (ticks ≡ limit))
    go true p true q e = (refl, (grind (arith, common_steps), grind (arith, common_steps)))
    go true p false q e = absurd (cc)
    go false p b q e = absurd (cc)

due-reads : (offset : ℕ) (c d : ChipState) → ReadMove offset c d → is_data offset c ≡ false → Due c → Due d
due-reads offset c d (takes e q) n w = let no : true ≡ false = rw (e, q) at n in absurd (cc)
due-reads offset c d _ n w = w

due-writes : (offset value : ℕ) (c d : ChipState) → WriteMove offset value c d → offset ≢ offsets.FCR → Due c → Due d
due-writes offset value c d (switches e m on) f w = absurd (f e)
due-writes offset value c d (resizes e s) f w = absurd (f e)
due-writes offset value c d (clears e) f w = absurd (f e)
due-writes offset value c d _ f w = w

due-ticks : (n : ℕ) (c : ChipState) → is_loopback c.latches ≡ false → Due c → Due (ticks n c)
due-ticks zero c l w = w
due-ticks (suc n) c l w =
    let d : ChipState = ticks n c in
    let outside : is_loopback d.latches ≡ false = rw (latches-ticks n c) l in
    let v = due-ticks n c l w in
    let limit : d.receiver.timeout_ticks ≡ d.receiver.timeout_limit = v.1.1 in
    let most : min (d.receiver.timeout_ticks + 1) d.receiver.timeout_limit ≡ d.receiver.timeout_limit = omega (arith, limit) in
    rw outside (v.0, (v.1.0, most))

waits-enter : (new : Character) (r : ReceiverState) → 0 < length r.queue → 0 < length (enter true new r).queue
waits-enter new r w =
    both_if (λ (s : ReceiverState). 0 < length s.queue) _ _ (nat_lt (length r.queue) (room true r.size))
    (rw (length-append r.queue (new ∷ [])) (omega (arith, w))) w

due-arrival : (byte errors : ℕ) (c : ChipState) → Due c → Due (expire (arrive_live byte errors c))
due-arrival byte errors c w =
    let waits : 0 < length (arrive_live byte errors c).receiver.queue =
    both_if (λ (s : ReceiverState). 0 < length s.queue) _ _ (is_loopback c.latches) w.1.0
    (rw w.0 (waits-enter (record { byte = cut_of c byte; errors = errors; origin = Live }) c.receiver w.1.0)) in
    (w.0, (waits, refl))

due-after : (act : Act) (c : ChipState) → IsHolding act c → is_due c ≡ true → Due c → Due (after act c)
due-after (Read offset) c h e w = due-reads offset c _ (read_move offset c) h w
due-after (Write offset value) c h e w = due-writes offset value c _ (write_move offset value c h) h w
due-after (Ticks count) c h e w = due-ticks count c h w
due-after (Arrive byte errors) c h e w = absurd h
due-after (ArriveHolding byte errors) c h e w = rw e (due-arrival byte errors c w)
due-after (SetLines inputs) c h e w = w
due-after (TakeWire count) c h e w = w

pub held_stay : HeldTimeoutsStay
held_stay [] c h e = e
held_stay (act ∷ acts) c h e =
    let r : ReceiverState = c.receiver in
    let w = due-after act c h.0 e (to-due c.fifo (length r.queue) r.timeout_ticks r.timeout_limit e) in
    let d : ChipState = after act c in
    held_stay acts d h.1 (of-due d.fifo (length d.receiver.queue) d.receiver.timeout_ticks d.receiver.timeout_limit w)

pub due_interrupts : DueTimeoutsInterrupt
due_interrupts c e enabled =
    both_if (λ (x : Option InterruptType). is_some x ≡ true) _ _
    (has_any c.latches.ier IER.RECEIVER_LINE_STATUS.0 && has_any (line_status c) LSR.LINE_ERRORS.0) refl
    (both_if (λ (x : Option InterruptType). is_some x ≡ true) _ _
    (has_any c.latches.ier IER.DATA_READY.0 && is_data_pending c.fifo c.receiver) refl (rw (enabled, e) refl))
