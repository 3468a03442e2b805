-- What the judge knows of the software chip stays so.
use Rattle.std.proofs.Common.{◌≡◌, ◌≤◌, ◌<◌, ℕ, ◌+◌, ◌-◌, ◌^◌, Bool, true, false, not, ◌&&◌, ◌||◌, ◌==◌, List, [], ◌∷◌, length, max, min}
use Rattle.std.proofs.Common.{nat_lt, refl, sym, ◌∙◌, ap, subst, arith, if◌then◌else◌, inl, inr, ◌⊎◌, Option, Some, None}
use Rattle.std.specs.Prelude.{is_some}
use Rattle.std.specs.Option.{option_or}
use Rattle.std.proofs.lemmas.Bool.{and_parts, or_right, leb-true, ltb-true}
use Rattle.uart_spec.specs.Bits.{has, has_any}
use Rattle.uart_spec.specs.declared.registers.fifo_control.FCR.{FCR}
use Rattle.uart_spec.specs.declared.registers.fifo_control.TheConstants.FCR as fcr_bits
use Rattle.uart_spec.specs.declared.registers.fifo_trigger_level.FifoTriggerLevel.{FifoTriggerLevel}
use Rattle.uart_spec.specs.declared.registers.interrupt_enable.TheConstants.IER as ier_bits
use Rattle.uart_spec.specs.declared.registers.interrupt_status.TheConstants.ISR as isr_bits
use Rattle.uart_spec.specs.declared.registers.interrupt_type.InterruptType.{InterruptType}
use Rattle.uart_spec.specs.declared.registers.interrupt_type.InterruptType.TheVariants.{ReceiverLineStatus, ReceivedDataReady}
use Rattle.uart_spec.specs.declared.registers.interrupt_type.InterruptType.TheVariants.{ReceptionTimeout, TransmitterHoldingRegisterEmpty}
use Rattle.uart_spec.specs.declared.registers.interrupt_type.InterruptType.TheVariants.{ModemStatus}
use Rattle.uart_spec.specs.declared.registers.line_control.TheConstants.LCR as lcr_bits
use Rattle.uart_spec.specs.declared.registers.line_status.TheConstants.LSR as lsr_bits
use Rattle.uart_spec.specs.declared.registers.modem_control.MCR.{MCR}
use Rattle.uart_spec.specs.declared.registers.modem_control.TheConstants.MCR as mcr_bits
use Rattle.uart_chip.specs.declared.receiver.Character.{Character}
use Rattle.uart_chip.specs.Chip.{ChipState, interrupt, is_dlab_set, is_loopback, is_same, line_status, trigger_level}
use Rattle.uart_chip.proofs.McrBits.{kept_bit}
use Rattle.uart_chip.specs.Receiver.{ReceiverState, characters_of, is_data_pending, is_timed_out, take_front}
use Rattle.uart_spec.specs.declared.setup.FifoSize.{FifoSize}
use Rattle.uart_spec.specs.declared.setup.FifoSize.TheVariants.{Sixteen}
use Rattle.uart_chip.specs.Transmitter.{room}
use Rattle.uart_chip.proofs.Sizes.{level_least, some_characters, some_room}
use Rattle.uart_chip.proofs.Bits.{has_one}
use Rattle.uart_chip.proofs.FifoBits.{isr_of, all_shown}
use Rattle.uart_chip.proofs.statuses.Status.{status_data}
use Rattle.uart_run.proofs.initialising.FifoShown.{shows_64}
use Rattle.uart_judges.specs.History.{level, next, next_count, shown_by, waiting_after}
use Rattle.uart_judges.specs.Setups.{next_is_open, or_closed}
use Rattle.uart_judges.specs.Shows.{fifo_of, identified, level_of, looks_at_line, modem_of, sends, shows_thr_empty, trigger_of}
use Rattle.uart_judges.specs.Steps.{empties, may_empty, shows_room}
use Rattle.uart_judges.specs.declared.audit.action.Action.{Action}
use Rattle.uart_judges.specs.declared.audit.action.Action.TheVariants.{Receives, Sends, ControlsFifo, ReadsLine, SetsLine}
use Rattle.uart_judges.specs.declared.audit.action.Action.TheVariants.{ReadsModem, SetsModem, IdentifiesInterrupt, LooksAtLine, Arrives}
use Rattle.uart_judges.specs.declared.audit.action.Action.TheVariants.{MayReceive, MaySend}
use Rattle.uart_judges.specs.declared.audit.auditor.Auditor.{Auditor}
use Rattle.uart_judges.specs.declared.audit.setup.Setup.{Setup}
use Rattle.uart_judges.specs.declared.audit.step.Step.{Step}
use Rattle.uart_judges_runs.specs.Lost.{IsSo, KnowsWhatIs}
use Rattle.uart_judges_runs.proofs.Does.{Does, MayMove, loaded, same_true, taken_trigger}

-- ---- DLAB

pub dlab_as : (c d : ChipState) (o : Option Bool) → d.latches.lcr ≡ c.latches.lcr → IsSo o (λ on. is_dlab_set c.latches ≡ on) →
    IsSo o (λ on. is_dlab_set d.latches ≡ on)
dlab_as c d None e h = tt
dlab_as c d (Some on) e h = ap (λ (lcr : ℕ). has_any lcr lcr_bits.DLAB.0) e ∙ h

dlab_looked : (c d : ChipState) (o : Option Bool) → d.latches.lcr ≡ c.latches.lcr → (o ≡ None → is_dlab_set c.latches ≡ false) →
    IsSo o (λ on. is_dlab_set c.latches ≡ on) → IsSo (or_closed o) (λ on. is_dlab_set d.latches ≡ on)
dlab_looked c d None e off h = ap (λ (lcr : ℕ). has_any lcr lcr_bits.DLAB.0) e ∙ off refl
dlab_looked c d (Some on) e off h = ap (λ (lcr : ℕ). has_any lcr lcr_bits.DLAB.0) e ∙ h

-- where DLAB is not known, a look at LSR finds it off
abbrev pub IsOffAtLook : Option Bool → Action → ChipState → Type 0
IsOffAtLook o x c = o ≡ None → looks_at_line x ≡ true → is_dlab_set c.latches ≡ false

pub after_dlab : (c d : ChipState) (x : Action) (o : Option Bool) → Does x c d → IsOffAtLook o x c →
    IsSo o (λ on. is_dlab_set c.latches ≡ on) → IsSo (next_is_open o x) (λ on. is_dlab_set d.latches ≡ on)
after_dlab c d (Sends byte) o h off k = dlab_as c d o (ap (λ (c : ChipState). c.latches.lcr) h) k
after_dlab c d (Receives byte) o h off k = dlab_as c d o (ap (λ (c : ChipState). c.latches.lcr) h) k
after_dlab c d (ControlsFifo fcr) o h off k = dlab_as c d o h.lcr k
after_dlab c d (SetsLine lcr) o h off k = ap (λ (c : ChipState). is_dlab_set c.latches) h ∙ sym (has_one 7 lcr.0)
after_dlab c d (SetsModem mcr) o h off k = dlab_as c d o (ap (λ (c : ChipState). c.latches.lcr) h) k
after_dlab c d (ReadsLine lcr) o h off k =
    ap (λ (lcr : ℕ). has_any lcr lcr_bits.DLAB.0) (h.0.lcr ∙ sym h.1) ∙ sym (has_one 7 lcr.0)
after_dlab c d (LooksAtLine lsr) o h off k = dlab_looked c d o h.0.lcr (λ e. off e refl) k
after_dlab c d MayReceive o h off k = dlab_as c d o h.lcr k
after_dlab c d MaySend o h off k = dlab_as c d o h.lcr k
after_dlab c d (Arrives byte errors) o h off k = absurd h
after_dlab c d _ o h off k = dlab_as c d o h.0.lcr k

-- ---- loopback

abbrev pub IsLooping : ChipState → MCR → Type 0
IsLooping c mcr = is_loopback c.latches ≡ has mcr.0 mcr_bits.LOOP_BACK.0

pub looping_as : (c d : ChipState) (o : Option MCR) → d.latches.mcr ≡ c.latches.mcr → IsSo o (IsLooping c) → IsSo o (IsLooping d)
looping_as c d None e h = tt
looping_as c d (Some mcr) e h = ap (λ (mcr : ℕ). has_any mcr mcr_bits.LOOP_BACK.0) e ∙ h

pub after_loopback : (c d : ChipState) (x : Action) (o : Option MCR) → Does x c d → IsSo o (IsLooping c) →
    IsSo (option_or (modem_of x) o) (IsLooping d)
after_loopback c d (Sends byte) o h k = looping_as c d o (ap (λ (c : ChipState). c.latches.mcr) h) k
after_loopback c d (Receives byte) o h k = looping_as c d o (ap (λ (c : ChipState). c.latches.mcr) h) k
after_loopback c d (ControlsFifo fcr) o h k = looping_as c d o h.mcr k
after_loopback c d (SetsLine lcr) o h k = looping_as c d o (ap (λ (c : ChipState). c.latches.mcr) h) k
after_loopback c d (SetsModem mcr) o h k =
    ap (λ (c : ChipState). is_loopback c.latches) h ∙ (kept_bit c.auto_flow 4 mcr.0 refl refl ∙ sym (has_one 4 mcr.0))
after_loopback c d (ReadsModem mcr) o h k =
    ap (λ (mcr : ℕ). has_any mcr mcr_bits.LOOP_BACK.0) (h.0.mcr ∙ sym h.1) ∙ sym (has_one 4 mcr.0)
after_loopback c d MayReceive o h k = looping_as c d o h.mcr k
after_loopback c d MaySend o h k = looping_as c d o h.mcr k
after_loopback c d (Arrives byte errors) o h k = absurd h
after_loopback c d _ o h k = looping_as c d o h.0.mcr k

-- ---- the FIFOs

pub fifos_as : (c d : ChipState) (o : Option Bool) → d.fifo ≡ c.fifo → IsSo o (λ on. c.fifo ≡ on) → IsSo o (λ on. d.fifo ≡ on)
fifos_as c d None e h = tt
fifos_as c d (Some on) e h = e ∙ h

pub after_fifos : (c d : ChipState) (x : Action) (o : Option Bool) → Does x c d → IsSo o (λ on. c.fifo ≡ on) →
    IsSo (option_or (fifo_of x) o) (λ on. d.fifo ≡ on)
after_fifos c d (Sends byte) o h k = fifos_as c d o (ap (λ (c : ChipState). c.fifo) h) k
after_fifos c d (Receives byte) o h k = fifos_as c d o (ap (λ (c : ChipState). c.fifo) h) k
after_fifos c d (ControlsFifo fcr) o h k = h.fifo ∙ sym (has_one 0 fcr.0)
after_fifos c d (SetsLine lcr) o h k = fifos_as c d o (ap (λ (c : ChipState). c.fifo) h) k
after_fifos c d (SetsModem mcr) o h k = fifos_as c d o (ap (λ (c : ChipState). c.fifo) h) k
after_fifos c d (IdentifiesInterrupt isr) o h k =
    h.0.fifo ∙ sym (ap (λ (v : ℕ). has v isr_bits.FIFOS_ENABLED.0) h.1 ∙ all_shown c.fifo (shows_64 c) (interrupt c))
after_fifos c d MayReceive o h k = fifos_as c d o h.fifo k
after_fifos c d MaySend o h k = fifos_as c d o h.fifo k
after_fifos c d (Arrives byte errors) o h k = absurd h
after_fifos c d _ o h k = fifos_as c d o h.0.fifo k

-- ---- the trigger level

level_same : (fcr : FCR) → trigger_level fcr.0 ≡ level_of fcr
level_same fcr = refl

pub trigger_as : (c d : ChipState) (o : Option FifoTriggerLevel) → d.receiver.trigger ≡ c.receiver.trigger →
    IsSo o (λ level. c.receiver.trigger ≡ level) → IsSo o (λ level. d.receiver.trigger ≡ level)
trigger_as c d None e h = tt
trigger_as c d (Some level) e h = e ∙ h

trigger_set : (a b : Bool) (x y : FifoTriggerLevel) (c d : ChipState) (o : Option FifoTriggerLevel) → a ≡ b → x ≡ y →
    d.receiver.trigger ≡ (if b then x else c.receiver.trigger) → IsSo o (λ level. c.receiver.trigger ≡ level) →
    IsSo (option_or (if a then Some y else None) o) (λ level. d.receiver.trigger ≡ level)
trigger_set true true x y c d o e f g h = g ∙ f
trigger_set false false x y c d o e f g h = trigger_as c d o g h
trigger_set true false x y c d o e f g h = absurd (cc)
trigger_set false true x y c d o e f g h = absurd (cc)

pub after_trigger : (c d : ChipState) (x : Action) (o : Option FifoTriggerLevel) → Does x c d →
    IsSo o (λ level. c.receiver.trigger ≡ level) → IsSo (option_or (trigger_of x) o) (λ level. d.receiver.trigger ≡ level)
after_trigger c d (Sends byte) o h k = trigger_as c d o (ap (λ (c : ChipState). c.receiver.trigger) h) k
after_trigger c d (Receives byte) o h k =
    trigger_as c d o (ap (λ (c : ChipState). c.receiver.trigger) h ∙ taken_trigger c.receiver.queue c.receiver) k
after_trigger c d (ControlsFifo fcr) o h k =
    trigger_set (has fcr.0 fcr_bits.FIFO_ENABLE.0) (has_any fcr.0 fcr_bits.FIFO_ENABLE.0) _ _ c d o (has_one 0 fcr.0) (level_same fcr)
    h.trigger k
after_trigger c d (SetsLine lcr) o h k = trigger_as c d o (ap (λ (c : ChipState). c.receiver.trigger) h) k
after_trigger c d (SetsModem mcr) o h k = trigger_as c d o (ap (λ (c : ChipState). c.receiver.trigger) h) k
after_trigger c d MayReceive o h k = trigger_as c d o h.trigger k
after_trigger c d MaySend o h k = trigger_as c d o h.trigger k
after_trigger c d (Arrives byte errors) o h k = absurd h
after_trigger c d _ o h k = trigger_as c d o h.0.trigger k

-- ---- a write of FCR

-- on the chip it empties this queue: it turns the FIFOs on or off, or leaves them on and has this bit
abbrev pub clears : (reset value : ℕ) → ChipState → Bool
clears reset value c =
    not (is_same c.fifo (has_any value fcr_bits.FIFO_ENABLE.0)) || (has_any value fcr_bits.FIFO_ENABLE.0 && has_any value reset)

same_form : (b on bit : Bool) → ((if b then not on else on) || (on && bit)) ≡ (not (is_same b on) || (on && bit))
same_form true true bit = refl
same_form true false bit = refl
same_form false true bit = refl
same_form false false bit = refl

both_ways : (b on bit x y : Bool) → on ≡ x → bit ≡ y →
    ((if b then not on else on) || (on && bit)) ≡ (not (is_same b x) || (x && y))
both_ways b on bit x y e f =
    same_form b on bit ∙
    (ap (λ (on : Bool). not (is_same b on) || (on && bit)) e ∙ ap (λ (bit : Bool). not (is_same b x) || (x && bit)) f)

empties_as : (reset : ℕ) (b : Bool) (fcr : FCR) →
    empties reset (Some b) fcr ≡
    ((if b then not (has fcr.0 fcr_bits.FIFO_ENABLE.0) else has fcr.0 fcr_bits.FIFO_ENABLE.0)
    || (has fcr.0 fcr_bits.FIFO_ENABLE.0 && has fcr.0 reset))
empties_as reset true fcr = refl
empties_as reset false fcr = refl

-- a queue that this bit, the one of weight 2 ^ k, resets is emptied as the judge says
pub empties_is : (k : ℕ) (o : Bool) (fcr : FCR) (c : ChipState) → c.fifo ≡ o → empties (2 ^ k) (Some o) fcr ≡ clears (2 ^ k) fcr.0 c
empties_is k o fcr c e =
    empties_as (2 ^ k) o fcr ∙
    (both_ways o _ _ _ _ (has_one 0 fcr.0) (has_one k fcr.0) ∙
    ap
    (λ (b : Bool). not (is_same b (has_any fcr.0 fcr_bits.FIFO_ENABLE.0))
    || (has_any fcr.0 fcr_bits.FIFO_ENABLE.0 && has_any fcr.0 (2 ^ k)))
    (sym e))

-- where the judge says that nothing is emptied, or is not sure, nothing is
pub not_cleared : (k : ℕ) (o : Option Bool) (fcr : FCR) (c : ChipState) → IsSo o (λ on. c.fifo ≡ on) →
    (not (is_some o) || empties (2 ^ k) o fcr) ≡ false → clears (2 ^ k) fcr.0 c ≡ false
not_cleared k None fcr c so e = absurd (cc)
not_cleared k (Some on) fcr c so e = sym (empties_is k on fcr c so) ∙ e

-- what the judge says is emptied, is
pub is_cleared : (k : ℕ) (o : Option Bool) (fcr : FCR) (c : ChipState) → IsSo o (λ on. c.fifo ≡ on) → empties (2 ^ k) o fcr ≡ true →
    clears (2 ^ k) fcr.0 c ≡ true
is_cleared k (Some on) fcr c so e = sym (empties_is k on fcr c so) ∙ e
is_cleared k None fcr c so e =
    or_right (not (is_same c.fifo (has_any fcr.0 fcr_bits.FIFO_ENABLE.0))) _
    (ap (λ (b : Bool). b && has_any fcr.0 (2 ^ k)) (sym (has_one 0 fcr.0)) ∙
    (ap (λ (b : Bool). has fcr.0 fcr_bits.FIFO_ENABLE.0 && b) (sym (has_one k fcr.0)) ∙ e))

-- ---- the bytes that wait

identify : (on holds_64 : Bool) (o : Option InterruptType) → identified (record { 0 = isr_of on holds_64 o }) ≡ o
identify true true (Some ReceiverLineStatus) = refl
identify true false (Some ReceiverLineStatus) = refl
identify false _ (Some ReceiverLineStatus) = refl
identify _ _ _ = refl

-- the first of these five
abbrev first : (line ready late empty modem : Bool) → Option InterruptType
first line ready late empty modem =
    if line then Some ReceiverLineStatus
    else if ready then Some ReceivedDataReady
    else if late then Some ReceptionTimeout
    else if empty then Some TransmitterHoldingRegisterEmpty
    else if modem then Some ModemStatus
    else None

first_ready : (line ready late empty modem : Bool) → first line ready late empty modem ≡ Some ReceivedDataReady → ready ≡ true
first_ready true ready late empty modem e = absurd (cc)
first_ready false true late empty modem e = refl
first_ready false false true empty modem e = absurd (cc)
first_ready false false false true modem e = absurd (cc)
first_ready false false false false true e = absurd (cc)
first_ready false false false false false e = absurd (cc)

first_late : (line ready late empty modem : Bool) → first line ready late empty modem ≡ Some ReceptionTimeout → late ≡ true
first_late true ready late empty modem e = absurd (cc)
first_late false true late empty modem e = absurd (cc)
first_late false false true empty modem e = refl
first_late false false false true modem e = absurd (cc)
first_late false false false false true e = absurd (cc)
first_late false false false false false e = absurd (cc)

module _ (c : ChipState) where
  abbrev line_on : Bool
  line_on = has_any c.latches.ier ier_bits.RECEIVER_LINE_STATUS.0 && has_any (line_status c) lsr_bits.LINE_ERRORS.0

  abbrev ready_on : Bool
  ready_on = has_any c.latches.ier ier_bits.DATA_READY.0 && is_data_pending c.fifo c.receiver

  abbrev late_on : Bool
  late_on = has_any c.latches.ier ier_bits.DATA_READY.0 && is_timed_out c.fifo c.receiver

  abbrev empty_on : Bool
  empty_on = has_any c.latches.ier ier_bits.THR_EMPTY.0 && c.transmitter.is_thr_pending

  abbrev modem_on : Bool
  modem_on = has_any c.latches.ier ier_bits.MODEM_STATUS.0 && not (c.modem.deltas == 0)

one_at_least : (r : ReceiverState) (fifo : Bool) → is_data_pending fifo r ≡ true → 1 ≤ length r.queue
one_at_least r true e =
    let some = some_characters r.size r.trigger in
    let wide = leb-true (characters_of r.size r.trigger) (length r.queue) e in omega (arith, some, wide)
one_at_least r false e = let some : 0 < length r.queue = ltb-true 0 (length r.queue) e in omega (arith, some)

shown_data : (fifo : Option Bool) (trigger : Option FifoTriggerLevel) (on : Bool) (r : ReceiverState) → IsSo fifo (λ b. on ≡ b) →
    IsSo trigger (λ level. r.trigger ≡ level) → is_data_pending on r ≡ true → level fifo trigger ≤ length r.queue
shown_data (Some true) (Some t) on r f k e =
    let wide : is_data_pending true r ≡ true = sym (ap (λ (b : Bool). is_data_pending b r) f) ∙ e in
    let least = level_least r.size r.trigger in
    let enough = leb-true (characters_of r.size r.trigger) (length r.queue) wide in
    subst (λ (t : FifoTriggerLevel). characters_of Sixteen t ≤ length r.queue) k (omega (arith, least, enough))
shown_data (Some true) None on r f k e = one_at_least r on e
shown_data (Some false) trigger on r f k e = one_at_least r on e
shown_data None trigger on r f k e = one_at_least r on e

late_some : (fifo : Bool) (r : ReceiverState) → is_timed_out fifo r ≡ true → 1 ≤ length r.queue
late_some fifo r e =
    let late = (and_parts fifo (nat_lt 0 (length r.queue) && (r.timeout_ticks == r.timeout_limit)) e).1 in
    let some : 0 < length r.queue =
    ltb-true 0 (length r.queue) (and_parts (nat_lt 0 (length r.queue)) (r.timeout_ticks == r.timeout_limit) late).0 in omega (arith, some)

shown_enough : (o : Option InterruptType) (c : ChipState) (fifo : Option Bool) (trigger : Option FifoTriggerLevel) → interrupt c ≡ o →
    IsSo fifo (λ on. c.fifo ≡ on) → IsSo trigger (λ level. c.receiver.trigger ≡ level) →
    shown_by o (level fifo trigger) ≤ length c.receiver.queue
shown_enough (Some ReceivedDataReady) c fifo trigger e f k =
    shown_data fifo trigger c.fifo c.receiver f k
    (and_parts (has_any c.latches.ier ier_bits.DATA_READY.0) (is_data_pending c.fifo c.receiver)
    (first_ready (line_on c) (ready_on c) (late_on c) (empty_on c) (modem_on c) e)).1
shown_enough (Some ReceptionTimeout) c fifo trigger e f k =
    late_some c.fifo c.receiver
    (and_parts (has_any c.latches.ier ier_bits.DATA_READY.0) (is_timed_out c.fifo c.receiver)
    (first_late (line_on c) (ready_on c) (late_on c) (empty_on c) (modem_on c) e)).1
shown_enough _ c fifo trigger e f k = omega arith

one_less : (n : ℕ) (queue : List Character) (r : ReceiverState) → r.queue ≡ queue → n ≤ length queue →
    n - 1 ≤ length (take_front queue r).queue
one_less n [] r e h = rw e (omega (arith, h))
one_less n (x ∷ xs) r e h = omega (arith, h)

shown_ready : (b : Bool) (n m : ℕ) → b ≡ nat_lt 0 m → n ≤ m → (if b then max n 1 else 0) ≤ m
shown_ready true n m e h = let some : 0 < m = ltb-true 0 m (sym e) in omega (arith, some, h)
shown_ready false n m e h = omega arith

left_waiting : (a b : Bool) (n : ℕ) (queue after : List Character) → (a ≡ false → b ≡ false) → after ≡ (if b then [] else queue) →
    n ≤ length queue → (if a then 0 else n) ≤ length after
left_waiting true b n queue after f e h = omega arith
left_waiting false true n queue after f e h = absurd (let g : true ≡ false = f refl in cc)
left_waiting false false n queue after f e h = rw e h

more : (n m k : ℕ) → n ≤ m → k ≤ m → max n k ≤ m
more n m k p q = omega (arith, p, q)

as_long : (n : ℕ) (xs ys : List Character) → ys ≡ xs → n ≤ length xs → n ≤ length ys
as_long n xs ys e h = rw e h

one_fewer : (n before after : ℕ) → n ≤ before → before ≤ after + 1 → n - 1 ≤ after
one_fewer n before after p q = omega (arith, p, q)

none_fewer : (n before after : ℕ) → n ≤ before → before ≤ after + 0 → n ≤ after
none_fewer n before after p q = omega (arith, p, q)

-- FCR is written: the judge takes the queue for emptied if it may be
may_empty_is : (reset : ℕ) (s : Step) (fcr : FCR) → s.action ≡ ControlsFifo fcr →
    may_empty reset s ≡ (not (is_some s.setup.has_fifo) || empties reset s.setup.has_fifo fcr)
may_empty_is reset s fcr e = rw e refl

pub after_waiting : (n : ℕ) (c d : ChipState) (s : Step) (x : Action) → s.action ≡ x → Does x c d →
    IsSo s.setup.has_fifo (λ on. c.fifo ≡ on) → IsSo s.setup.trigger (λ level. c.receiver.trigger ≡ level) → n ≤ length c.receiver.queue →
    waiting_after n s x ≤ length d.receiver.queue
after_waiting n c d s (Sends byte) is h f k w = as_long n _ _ (ap (λ (c : ChipState). c.receiver.queue) h) w
after_waiting n c d s (Receives byte) is h f k w =
    subst (λ (d : ChipState). n - 1 ≤ length d.receiver.queue) (sym h) (one_less n c.receiver.queue c.receiver refl w)
after_waiting n c d s (ControlsFifo fcr) is h f k w =
    left_waiting (may_empty fcr_bits.RX_FIFO_RESET.0 s) (clears fcr_bits.RX_FIFO_RESET.0 fcr.0 c) n c.receiver.queue d.receiver.queue
    (λ e. not_cleared 1 s.setup.has_fifo fcr c f (sym (may_empty_is fcr_bits.RX_FIFO_RESET.0 s fcr is) ∙ e)) h.waiting w
after_waiting n c d s (SetsLine lcr) is h f k w = as_long n _ _ (ap (λ (c : ChipState). c.receiver.queue) h) w
after_waiting n c d s (SetsModem mcr) is h f k w = as_long n _ _ (ap (λ (c : ChipState). c.receiver.queue) h) w
after_waiting n c d s (IdentifiesInterrupt isr) is h f k w =
    let who : identified isr ≡ interrupt c =
    ap (λ (v : ℕ). identified (record { 0 = v })) h.1 ∙ identify c.fifo (shows_64 c) (interrupt c) in
    as_long _ _ _ h.0.waiting
    (more n (length c.receiver.queue) _ w (shown_enough (identified isr) c s.setup.has_fifo s.setup.trigger (sym who) f k))
after_waiting n c d s (LooksAtLine lsr) is h f k w =
    let seen : has lsr.0 lsr_bits.DATA_READY.0 ≡ nat_lt 0 (length c.receiver.queue) =
    has_one 0 lsr.0 ∙ (ap (λ (v : ℕ). has_any v lsr_bits.DATA_READY.0) h.1 ∙ status_data c) in
    as_long _ _ _ h.0.waiting (shown_ready (has lsr.0 lsr_bits.DATA_READY.0) n (length c.receiver.queue) seen w)
after_waiting n c d s MayReceive is h f k w = one_fewer n (length c.receiver.queue) (length d.receiver.queue) w h.waiting
after_waiting n c d s MaySend is h f k w = none_fewer n (length c.receiver.queue) (length d.receiver.queue) w h.waiting
after_waiting n c d s (Arrives byte errors) is h f k w = absurd h
after_waiting n c d s _ is h f k w = as_long n _ _ h.0.waiting w

-- ---- the bytes that were sent

abbrev pub IsSent : (n left : ℕ) → ChipState → Type 0
IsSent n left c = min n (room c.fifo c.transmitter.size) ≤ length c.transmitter.queue + left

pub none_sent : (space waiting : ℕ) → min 0 space ≤ waiting
none_sent space waiting = omega arith

still_sent : (n left : ℕ) (rests : Bool) (c d : ChipState) → d.transmitter.size ≡ c.transmitter.size → d.fifo ≡ c.fifo →
    d.transmitter.queue ≡ c.transmitter.queue → IsSent n left c → IsSent (next_count n rests false) (if rests then 0 else left) d
still_sent n left true c d z e f h = none_sent (room d.fifo d.transmitter.size) (length d.transmitter.queue + 0)
still_sent n left false c d z e f h = rw (z, e, f) h

one_sent : (n left before after space : ℕ) (rests : Bool) → (after ≡ before + 1) ⊎ (space ≤ after) → 1 ≤ space →
    min n space ≤ before + left → min (next_count n rests true) space ≤ after + (if rests then 0 else left)
one_sent n left before after space true (inl e) one h = omega (arith, e, one)
one_sent n left before after space true (inr e) one h = omega (arith, e, one)
one_sent n left before after space false (inl e) one h = omega (arith, e, h)
one_sent n left before after space false (inr e) one h = omega (arith, e)

-- FCR is written
controlled_sent : (n left : ℕ) (rests cleared on same reset : Bool) (c d : ChipState) → d.transmitter.size ≡ c.transmitter.size →
    (rests ≡ false → cleared ≡ false) →
    cleared ≡ (not same || (on && reset)) → same ≡ is_same c.fifo on → d.fifo ≡ on →
    d.transmitter.queue ≡ (if cleared then [] else c.transmitter.queue) → IsSent n left c →
    IsSent (next_count n rests false) (if rests then 0 else left) d
controlled_sent n left true cleared on same reset c d z f e i fifo queue h =
    none_sent (room d.fifo d.transmitter.size) (length d.transmitter.queue + 0)
controlled_sent n left false true on same reset c d z f e i fifo queue h = absurd (let g : true ≡ false = f refl in cc)
controlled_sent n left false false on true reset c d z f e i fifo queue h =
    still_sent n left false c d z (fifo ∙ sym (same_true c.fifo on (sym i))) queue h
controlled_sent n left false false on false reset c d z f e i fifo queue h = absurd (cc)

-- a byte may have been sent, or taken
maybe_sent : (n left : ℕ) (rests : Bool) (most : ℕ) (c d : ChipState) → d.transmitter.size ≡ c.transmitter.size → MayMove most c d →
    IsSent n left c →
    IsSent (next_count n rests false) (if rests then 0 else left) d
maybe_sent n left true most c d z h w = none_sent (room d.fifo d.transmitter.size) (length d.transmitter.queue + 0)
maybe_sent n left false most c d z h w =
    rw (z, h.fifo) (as_many n left (length c.transmitter.queue) _ (room c.fifo c.transmitter.size) h.queued w)
  where
    as_many : (n left before after space : ℕ) → min before space ≤ after → min n space ≤ before + left → min n space ≤ after + left
    as_many n left before after space p q = omega (arith, p, q)

room_shown : (a b c : Bool) → (a || (b || c)) ≡ false → c ≡ false
room_shown true b c e = absurd (cc)
room_shown false true c e = absurd (cc)
room_shown false false c e = e

pub after_sent : (n left : ℕ) (c d : ChipState) (s : Step) (x : Action) → d.transmitter.size ≡ c.transmitter.size → s.action ≡ x →
    Does x c d →
    IsSo s.setup.has_fifo (λ on. c.fifo ≡ on) → IsSent n left c →
    IsSent (next_count n (shows_room s) (sends x)) (if shows_room s then 0 else left) d
after_sent n left c d s (Sends byte) z is h f w =
    let count = next_count n (shows_room s) true in
    let gone = if shows_room s then 0 else left in
    subst (λ (size : FifoSize). min count (room d.fifo size) ≤ length d.transmitter.queue + gone) (sym z)
    (subst (λ (d : ChipState). min count (room d.fifo c.transmitter.size) ≤ length d.transmitter.queue + gone) (sym h)
    (one_sent n left (length c.transmitter.queue) _ (room c.fifo c.transmitter.size) (shows_room s) (loaded c.fifo _ c.transmitter)
    (some_room c.fifo c.transmitter.size) w))
after_sent n left c d s (Receives byte) z is h f w =
    still_sent n left (shows_room s) c d z (ap (λ (c : ChipState). c.fifo) h) (ap (λ (c : ChipState). c.transmitter.queue) h) w
after_sent n left c d s (ControlsFifo fcr) z is h f w =
    controlled_sent n left (shows_room s) (clears fcr_bits.TX_FIFO_RESET.0 fcr.0 c) (has_any fcr.0 fcr_bits.FIFO_ENABLE.0)
    (is_same c.fifo (has_any fcr.0 fcr_bits.FIFO_ENABLE.0)) (has_any fcr.0 fcr_bits.TX_FIFO_RESET.0) c d z
    (λ e. not_cleared 2 s.setup.has_fifo fcr c f
    (sym (may_empty_is fcr_bits.TX_FIFO_RESET.0 s fcr is) ∙ room_shown s.has_rested (shows_thr_empty s.action) _ e)) refl refl h.fifo
    h.queued w
after_sent n left c d s (SetsLine lcr) z is h f w =
    still_sent n left (shows_room s) c d z (ap (λ (c : ChipState). c.fifo) h) (ap (λ (c : ChipState). c.transmitter.queue) h) w
after_sent n left c d s (SetsModem mcr) z is h f w =
    still_sent n left (shows_room s) c d z (ap (λ (c : ChipState). c.fifo) h) (ap (λ (c : ChipState). c.transmitter.queue) h) w
after_sent n left c d s MayReceive z is h f w = maybe_sent n left (shows_room s) 1 c d z h w
after_sent n left c d s MaySend z is h f w = maybe_sent n left (shows_room s) 0 c d z h w
after_sent n left c d s (Arrives byte errors) z is h f w = absurd h
after_sent n left c d s _ z is h f w = still_sent n left (shows_room s) c d z h.0.fifo h.0.queued w

-- ---- all of it

after_model : (c d : ChipState) (x : Action) → Does x c d → d.model ≡ c.model
after_model c d (Sends byte) h = ap (λ (c : ChipState). c.model) h
after_model c d (Receives byte) h = ap (λ (c : ChipState). c.model) h
after_model c d (ControlsFifo fcr) h = h.model
after_model c d (SetsLine lcr) h = ap (λ (c : ChipState). c.model) h
after_model c d (SetsModem mcr) h = ap (λ (c : ChipState). c.model) h
after_model c d MayReceive h = h.model
after_model c d MaySend h = h.model
after_model c d (Arrives byte errors) h = absurd h
after_model c d _ h = h.0.model

-- what is known after an action is so, if what is known before it is
pub after_all : (a : Auditor) (left : ℕ) (c d : ChipState) (s : Step) (x : Action) → d.transmitter.size ≡ c.transmitter.size →
    s.action ≡ x → s.setup ≡ a.setup → Does x c d →
    IsOffAtLook a.setup.is_open x c → KnowsWhatIs a left c → KnowsWhatIs (next a s) (if shows_room s then 0 else left) d
after_all a left c d s x z is same h off k = record {
  model = after_model c d x h ∙ k.model;
  dlab =
      subst (λ (x : Action). IsSo (next_is_open a.setup.is_open x) (λ on. is_dlab_set d.latches ≡ on)) (sym is)
      (after_dlab c d x a.setup.is_open h off k.dlab);
  loopback =
      subst (λ (x : Action). IsSo (option_or (modem_of x) a.setup.modem) (IsLooping d)) (sym is)
      (after_loopback c d x a.setup.modem h k.loopback);
  fifos =
      subst (λ (x : Action). IsSo (option_or (fifo_of x) a.setup.has_fifo) (λ on. d.fifo ≡ on)) (sym is)
      (after_fifos c d x a.setup.has_fifo h k.fifos);
  trigger =
      subst (λ (x : Action). IsSo (option_or (trigger_of x) a.setup.trigger) (λ level. d.receiver.trigger ≡ level)) (sym is)
      (after_trigger c d x a.setup.trigger h k.trigger);
  waiting =
      subst (λ (x : Action). waiting_after a.waiting s x ≤ length d.receiver.queue) (sym is)
      (after_waiting a.waiting c d s x is h fifos_now trigger_now k.waiting);
  sent =
      subst (λ (x : Action). IsSent (next_count a.sent (shows_room s) (sends x)) (if shows_room s then 0 else left) d) (sym is)
      (after_sent a.sent left c d s x z is h fifos_now k.sent);
}
  where
    fifos_now : IsSo s.setup.has_fifo (λ on. c.fifo ≡ on)
    fifos_now = subst (λ (setup : Setup). IsSo setup.has_fifo (λ on. c.fifo ≡ on)) (sym same) k.fifos

    trigger_now : IsSo s.setup.trigger (λ level. c.receiver.trigger ≡ level)
    trigger_now = subst (λ (setup : Setup). IsSo setup.trigger (λ level. c.receiver.trigger ≡ level)) (sym same) k.trigger
