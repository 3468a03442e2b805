-- No value that the chip returns breaks a rule.
use Rattle.std.proofs.Common.{◌≡◌, ℕ, Bool, true, false, not, ◌&&◌, ◌==◌, nat_lt, List, [], ◌∷◌, ◌++◌, length, map}
use Rattle.std.proofs.Common.{Option, Some, None, refl, arith, sym, ◌∙◌, ap, subst, bit_and, bit_or, if◌then◌else◌}
use Rattle.std.specs.List.{list_any}
use Rattle.std.proofs.lemmas.Grind.{common_steps}
use Rattle.std.proofs.lemmas.Bool.{and_from, and_parts, and_right}
use Rattle.std.proofs.lemmas.Nat.{and_assoc}
use Rattle.std.specs.Int.Bits.{and_zero_r}
use lib.Bits.{or_zero_r}
use Rattle.std.proofs.Math.Bool.{and-false, or-true}
use Rattle.uart_spec.specs.Bits.{IsWithin, flag, has_any}
use Rattle.uart_spec.specs.declared.registers.interrupt_enable.TheConstants.IER
use Rattle.uart_spec.specs.declared.registers.interrupt_status.TheConstants.ISR
use Rattle.uart_spec.specs.declared.registers.interrupt_type.InterruptType.{InterruptType}
use Rattle.uart_spec.specs.declared.registers.interrupt_type.InterruptType.TheVariants.{ReceiverLineStatus, ReceivedDataReady}
use Rattle.uart_spec.specs.declared.registers.interrupt_type.InterruptType.TheVariants.{ReceptionTimeout, TransmitterHoldingRegisterEmpty}
use Rattle.uart_spec.specs.declared.registers.interrupt_type.InterruptType.TheVariants.{ModemStatus, DmaReceptionEndOfTransfer}
use Rattle.uart_spec.specs.declared.registers.interrupt_type.InterruptType.TheVariants.{DmaTransmissionEndOfTransfer}
use Rattle.uart_spec.specs.declared.registers.line_status.TheConstants.LSR
use Rattle.uart_spec.specs.declared.registers.modem_control.TheConstants.MCR
use Rattle.uart_spec.specs.declared.registers.modem_status.TheConstants.MSR
use Rattle.uart_spec.specs.declared.registers.offsets.TheConstants as offsets
use Rattle.uart_chip.specs.declared.receiver.Character.{Character}
use Rattle.uart_chip.specs.declared.transmitter.Shifting.{Shifting}
use Rattle.uart_chip.specs.Receiver.{unreported, has_errors, is_data_pending, is_timed_out, take_front}
use Rattle.uart_chip.specs.Transmitter.{held}
use Rattle.uart_chip.specs.Chip.{ChipState, answer, interrupt, identification, line_status, is_transmitter_empty, is_dlab_set}
use Rattle.uart_chip.specs.Modem.{ModemState, looped_lines, lines_under}
use Rattle.uart_chip.proofs.Bits.{and_or}
use Rattle.uart_chip.proofs.FifoBits.{any_shown, fifo_bits}
use Rattle.uart_chip.proofs.Switching.{flags-lacking}
use Rattle.uart_chip.specs.Sound.{IsSoundModem}
use Rattle.uart_chip.proofs.statuses.Status.{status_data, status_room, status_empty, status_fifo}
use Rattle.uart_judges.specs.declared.replay.known.Known.{Known}
use Rattle.uart_judges.specs.declared.replay.known.Sender.{Sender}
use Rattle.uart_judges.specs.declared.replay.known.Sender.TheVariants.{Unknown, ThrEmpty, Idle}
use Rattle.uart_judges.specs.declared.replay.rule.Rule.{Rule}
use Rattle.uart_judges.specs.declared.replay.rule.Rule.TheVariants.{FifoBits, Interrupt, EmptyBits, ErrorAlone}
use Rattle.uart_judges.specs.declared.replay.rule.Rule.TheVariants.{FifoError, StillWaits, LoopedLines, LoopedData}
use Rattle.uart_judges.specs.Latches.{dlab, shown}
use Rattle.uart_judges.specs.Looped.{excludes}
use Rattle.uart_judges.specs.Known.{is_data, known_or, takes}
use Rattle.uart_judges.specs.Rules.{broken_latch, breaks_fifo_bits, may_be_enabled, may_be_pending, may_show, is_explained, broken_isr}
use Rattle.uart_judges.specs.Rules.{character_bits, broken_receiver, broken_sender, first_of_two, broken_lsr, broken_msr}
use Rattle.uart_judges.specs.Rules.{broken_data, broken}
use Rattle.uart_judges.proofs.Between.{SenderHolds, HasCharacter, positive}
use Rattle.uart_judges.proofs.Holding.{Agrees, Holds}
use Rattle.uart_judges.proofs.Looped.{Looped}
use Rattle.uart_judges.proofs.Effects.{data_open}
use Rattle.uart_judges.proofs.LatchesHold.{by_number, agrees_shown, knows_dlab}
use Rattle.uart_judges.proofs.Returning.{none_excluded}

if_none : (b : Bool) (x y : Option Rule) → (b ≡ true → x ≡ None) → y ≡ None → (if b then x else y) ≡ None
if_none true x y p q = p refl
if_none false x y p q = q

-- ---- latches

latch_kept : (o : Option ℕ) (value : ℕ) → Agrees o value → broken_latch o value ≡ None
latch_kept None value a = refl
latch_kept (Some kept) value a = let same : (value == kept) ≡ true = grind (arith, common_steps) in rw same refl

-- ---- ISR

fifo_on : (o : Option Bool) (on : Bool) (pending : Option InterruptType) → Agrees o on →
    known_or o (has_any (bit_or (identification pending) (flag on ISR.FIFOS_ENABLED.0)) ISR.FIFOS_ENABLED.0) ≡ on
fifo_on None true pending a = any_shown true false pending
fifo_on None false pending a = any_shown false false pending
fifo_on (Some b) on pending a = sym a

fifo_kept : (o : Option Bool) (on : Bool) (pending : Option InterruptType) → Agrees o on →
    breaks_fifo_bits o (bit_or (identification pending) (flag on ISR.FIFOS_ENABLED.0)) ≡ false
fifo_kept o on pending a = rw (fifo_on o on pending a, bits on) (itself on)
  where
    bits : (on : Bool) →
        bit_and (bit_or (identification pending) (flag on ISR.FIFOS_ENABLED.0)) ISR.FIFOS_ENABLED.0 ≡ flag on ISR.FIFOS_ENABLED.0
    bits true = fifo_bits true false pending
    bits false = fifo_bits false false pending

    itself : (on : Bool) → not (flag on ISR.FIFOS_ENABLED.0 == flag on ISR.FIFOS_ENABLED.0) ≡ false
    itself true = refl
    itself false = refl

-- an interrupt that is shown is enabled
enabled : (o : Option ℕ) (ier interrupts : ℕ) → Agrees o ier → has_any ier interrupts ≡ true → may_be_enabled o interrupts ≡ true
enabled None ier interrupts a e = refl
enabled (Some known) ier interrupts a e = ap (λ n. has_any n interrupts) (sym a) ∙ e

has_fifo : (o : Option Bool) (fifo : Bool) → Agrees o fifo → fifo ≡ true → known_or o true ≡ true
has_fifo None fifo a e = refl
has_fifo (Some b) fifo a e = sym a ∙ e

pending_if : (P : Option InterruptType → Type 0) (a b : Bool) (first others : Option InterruptType) → (a ≡ true → b ≡ true → P first) →
    P others → P (if a && b then first else others)
pending_if P true true first others p q = p refl refl
pending_if P true false first others p q = q
pending_if P false b first others p q = q

module _ (k : Known) (c : ChipState) (h : Holds k c) where
  pends : may_be_pending (interrupt c) k ≡ true
  pends =
      pending_if (λ i. may_be_pending i k ≡ true) (has_any c.latches.ier IER.RECEIVER_LINE_STATUS.0)
      (has_any (line_status c) LSR.LINE_ERRORS.0) (Some ReceiverLineStatus) _
      (λ e _. enabled k.latches.ier c.latches.ier IER.RECEIVER_LINE_STATUS.0 h.latches.ier e)
      (pending_if (λ i. may_be_pending i k ≡ true) (has_any c.latches.ier IER.DATA_READY.0)
      (is_data_pending c.fifo c.receiver) (Some ReceivedDataReady) _
      (λ e _. enabled k.latches.ier c.latches.ier IER.DATA_READY.0 h.latches.ier e)
      (pending_if (λ i. may_be_pending i k ≡ true) (has_any c.latches.ier IER.DATA_READY.0)
      (is_timed_out c.fifo c.receiver) (Some ReceptionTimeout) _
      (λ e f. and_from _ _ (enabled k.latches.ier c.latches.ier IER.DATA_READY.0 h.latches.ier e)
      (has_fifo k.fifo c.fifo h.fifo (and_parts c.fifo _ f).0))
      (pending_if (λ i. may_be_pending i k ≡ true) (has_any c.latches.ier IER.THR_EMPTY.0)
      c.transmitter.is_thr_pending (Some TransmitterHoldingRegisterEmpty) _
      (λ e _. enabled k.latches.ier c.latches.ier IER.THR_EMPTY.0 h.latches.ier e)
      (pending_if (λ i. may_be_pending i k ≡ true) (has_any c.latches.ier IER.MODEM_STATUS.0)
      (not (c.modem.deltas == 0)) (Some ModemStatus) None
      (λ e _. enabled k.latches.ier c.latches.ier IER.MODEM_STATUS.0 h.latches.ier e) refl))))

  shows : (pending : Option InterruptType) → may_be_pending pending k ≡ true →
      may_show (bit_or (identification pending) (flag c.fifo ISR.FIFOS_ENABLED.0)) pending k ≡ true
  shows pending e =
      let same : (bit_or (identification pending) (flag c.fifo ISR.FIFOS_ENABLED.0) ==
      bit_or (identification pending) (flag c.fifo ISR.FIFOS_ENABLED.0)) ≡ true = grind (arith, common_steps) in
      rw (fifo_on None c.fifo pending tt) (and_from _ _ same e)

-- one of the interrupts explains the value
one_explains : (value : ℕ) (k : Known) (pending : Option InterruptType) → may_show value pending k ≡ true →
    may_be_pending pending k ≡ true → is_explained value k ≡ true
one_explains value k None e p = rw e refl
one_explains value k (Some DmaReceptionEndOfTransfer) e p = absurd (cc)
one_explains value k (Some DmaTransmissionEndOfTransfer) e p = absurd (cc)
one_explains value k _ e p = rw (e, or-true) refl

isr_kept : (k : Known) (c : ChipState) → Holds k c → broken_isr (answer offsets.ISR c) k ≡ None
isr_kept k c h =
    let may : may_be_pending (interrupt c) k ≡ true = pends k c h in
    let isr : ℕ = bit_or (identification (interrupt c)) (flag c.fifo ISR.FIFOS_ENABLED.0) in
    let shown : answer offsets.ISR c ≡ isr = ap (bit_or (identification (interrupt c))) (flags-lacking c h.switch) in
    let explained : is_explained isr k ≡ true = one_explains isr k (interrupt c) (shows k c h (interrupt c) may) may in
    rw shown (quiet (breaks_fifo_bits k.fifo isr) (is_explained isr k) (fifo_kept k.fifo c.fifo (interrupt c) h.fifo) explained)
  where
    quiet : (a b : Bool) → a ≡ false → b ≡ true →
        (if a then Some FifoBits else if not b then Some Interrupt else None) ≡ None
    quiet true b e f = absurd (cc)
    quiet false true e f = refl
    quiet false false e f = absurd (cc)

-- ---- LSR

-- with no character there is no error of one
no_errors : (fifo reported : Bool) → (fifo && list_any has_errors (unreported [] reported)) ≡ false
no_errors true true = refl
no_errors true false = refl
no_errors false true = refl
no_errors false false = refl

no_bits : (b d f : Bool) →
    has_any (bit_or (bit_or (bit_or 0 (flag b LSR.OVERRUN_ERROR.0)) (bit_or 0 (flag d LSR.THR_EMPTY.0)))
    (bit_or (flag f LSR.TRANSMITTER_EMPTY.0) 0)) character_bits ≡ false
no_bits true true true = refl
no_bits true true false = refl
no_bits true false true = refl
no_bits true false false = refl
no_bits false true true = refl
no_bits false true false = refl
no_bits false false true = refl
no_bits false false false = refl

module _ (c : ChipState) where
  alone : (queue : List Character) → c.receiver.queue ≡ queue →
      (not (has_any (line_status c) LSR.DATA_READY.0) && has_any (line_status c) character_bits) ≡ false
  alone (x ∷ xs) e =
      let some : has_any (line_status c) LSR.DATA_READY.0 ≡ true =
      status_data c ∙ (ap (λ (q : List Character). nat_lt 0 (length q)) e ∙ positive (length xs)) in
      never _ _ some
    where
      never : (a b : Bool) → a ≡ true → (not a && b) ≡ false
      never true b e = refl
      never false b e = absurd (cc)
  alone [] e =
      let none : has_any (line_status c) character_bits ≡ false =
      rw (e, no_errors c.fifo c.receiver.is_front_reported)
      (no_bits c.receiver.is_overrun (length c.transmitter.queue == 0)
      (is_transmitter_empty c.transmitter.queue c.transmitter.shift_register)) in
      and_right _ _ none

-- the transmitter is empty only with THR
empty_both : (queue : List ℕ) (place : Option Shifting) → (is_transmitter_empty queue place && not (length queue == 0)) ≡ false
empty_both [] None = refl
empty_both [] (Some s) = refl
empty_both (x ∷ xs) place = refl

module _ (k : Known) (c : ChipState) (h : Holds k c) where
  fifo_quiet : (o : Option Bool) → Agrees o c.fifo → (has_any (line_status c) LSR.FIFO_DATA_ERROR.0 && not (known_or o true)) ≡ false
  fifo_quiet None a = and-false _
  fifo_quiet (Some on) a =
      rw (status_fifo c, a) (off on (list_any has_errors (unreported c.receiver.queue c.receiver.is_front_reported)))
    where
      off : (on b : Bool) → ((on && b) && not on) ≡ false
      off true true = refl
      off true false = refl
      off false b = refl

  still_waits : (waits : Bool) → (waits ≡ true → HasCharacter c.receiver) →
      (waits && not (has_any (line_status c) LSR.DATA_READY.0)) ≡ false
  still_waits false w = refl
  still_waits true w = rw (status_data c, w refl) refl

  receiver_kept : broken_receiver (line_status c) k ≡ None
  receiver_kept =
      quiet _ _ _ (and_right k.is_looked _ (alone c c.receiver.queue refl)) (fifo_quiet k.fifo h.fifo)
      (still_waits k.waits h.waits)
    where
      quiet : (a b d : Bool) → a ≡ false → b ≡ false → d ≡ false →
          (if a then Some ErrorAlone else if b then Some FifoError else if d then Some StillWaits else None) ≡ None
      quiet false false false e f g = refl
      quiet true b d e f g = absurd (cc)
      quiet false true d e f g = absurd (cc)
      quiet false false true e f g = absurd (cc)

  sender_kept : (sender : Sender) → SenderHolds sender c.transmitter → broken_sender (line_status c) sender ≡ None
  sender_kept Unknown s = refl
  sender_kept ThrEmpty s = rw (status_room c, s) refl
  sender_kept Idle s = rw (status_empty c, s.0, s.1) refl

  lsr_kept : broken_lsr (line_status c) k ≡ None
  lsr_kept =
      let empty : (has_any (line_status c) LSR.TRANSMITTER_EMPTY.0 && not (has_any (line_status c) LSR.THR_EMPTY.0)) ≡ false =
      rw (status_empty c, status_room c) (empty_both c.transmitter.queue c.transmitter.shift_register) in
      quiet _ _ _ empty receiver_kept (sender_kept k.sender h.sender)
    where
      quiet : (a : Bool) (x y : Option Rule) → a ≡ false → x ≡ None → y ≡ None →
          (if a then Some EmptyBits else first_of_two x y) ≡ None
      quiet false None y e f g = g
      quiet false (Some r) y e f g = absurd (cc)
      quiet true x y e f g = absurd (cc)

-- ---- MSR

-- the high nibble of the modem status is the lines
lines_shown : (lines deltas : ℕ) → IsWithin lines MSR.LINES.0 → IsWithin deltas MSR.CHANGES.0 →
    bit_and (bit_or lines deltas) MSR.LINES.0 ≡ lines
lines_shown lines deltas p q =
    let none : bit_and deltas MSR.LINES.0 ≡ 0 =
    ap (λ n. bit_and n MSR.LINES.0) (sym q) ∙ (and_assoc MSR.LINES.0 deltas MSR.CHANGES.0 ∙ and_zero_r deltas) in
    and_or lines deltas MSR.LINES.0 ∙ (ap (λ n. bit_or n (bit_and deltas MSR.LINES.0)) p ∙
    (ap (λ n. bit_or lines n) none ∙ or_zero_r lines))

looped_under : (mcr inputs : ℕ) → has_any mcr MCR.LOOP_BACK.0 ≡ true → lines_under mcr inputs ≡ looped_lines mcr
looped_under mcr inputs e = rw e refl

msr_kept : (o : Option ℕ) (c : ChipState) → Agrees o c.latches.mcr → IsSoundModem c.modem → Looped c →
    broken_msr (bit_or c.modem.lines c.modem.deltas) o ≡ None
msr_kept None c a w l = refl
msr_kept (Some mcr) c a w l = go (has_any mcr MCR.LOOP_BACK.0) refl
  where
    same : (m : ModemState) (known : ℕ) → IsSoundModem m → m.lines ≡ known → (bit_and (bit_or m.lines m.deltas) MSR.LINES.0 == known) ≡ true
    same m known w e =
        let h : bit_and (bit_or m.lines m.deltas) MSR.LINES.0 ≡ known = lines_shown m.lines m.deltas w.lines w.deltas ∙ e in
        grind (arith, common_steps)

    quiet : (a b : Bool) → (a ≡ true → b ≡ true) → (if a && not b then Some LoopedLines else None) ≡ None
    quiet true true p = refl
    quiet true false p = let e : false ≡ true = p refl in absurd (cc)
    quiet false b p = refl

    go : (b : Bool) → has_any mcr MCR.LOOP_BACK.0 ≡ b → broken_msr (bit_or c.modem.lines c.modem.deltas) (Some mcr) ≡ None
    go b e =
        quiet (has_any mcr MCR.LOOP_BACK.0) (bit_and (bit_or c.modem.lines c.modem.deltas) MSR.LINES.0 == looped_lines mcr)
        (λ on. same c.modem (looped_lines mcr) w
        (l ∙ (ap (λ n. lines_under n c.modem.inputs) a ∙ looped_under mcr c.modem.inputs on)))

-- ---- DATA

-- the byte that is read in loopback comes back
data_kept : (k : Known) (c : ChipState) → Holds k c → broken_data (answer offsets.DATA c) k ≡ None
data_kept k c h =
    if_none (takes k && excludes k.looped (answer offsets.DATA c)) (Some LoopedData) _
    (λ e. let p = and_parts (takes k) (excludes k.looped (answer offsets.DATA c)) e in
    let q = and_parts k.waits (is_data (dlab k.latches)) p.0 in
    absurd (let no : true ≡ false = sym p.1 ∙ comes (data_open (dlab k.latches) _ (knows_dlab k.latches c.latches h.latches) q.1)
    (h.waits q.0) in cc))
    (latch_kept (shown offsets.DATA k.latches) (answer offsets.DATA c) (agrees_shown k.latches c h.latches offsets.DATA))
  where
    comes : is_dlab_set c.latches ≡ false → HasCharacter c.receiver → excludes k.looped (answer offsets.DATA c) ≡ false
    comes off some = rw off (first c.receiver.queue refl)
      where
        first : (queue : List Character) → c.receiver.queue ≡ queue →
            excludes k.looped (take_front c.receiver.queue c.receiver).last_byte ≡ false
        first [] e = absurd (let none : false ≡ true = ap (λ (cs : List Character). nat_lt 0 (length cs)) (sym e) ∙ some in cc)
        first (x ∷ xs) e =
            subst (λ cs. excludes k.looped (take_front cs c.receiver).last_byte ≡ false) (sym e)
            (none_excluded k.looped c x.byte (map (λ (y : Character). y.byte) xs ++ held c.transmitter) h.looped
            (ap (λ cs. map (λ (y : Character). y.byte) cs ++ held c.transmitter) e))

-- ---- any register

pub none_broken : (offset : ℕ) (k : Known) (c : ChipState) → Holds k c → IsSoundModem c.modem → Looped c →
    broken offset (answer offset c) k ≡ None
none_broken offset k c h w l =
    if_none (offset == offsets.DATA) (broken_data (answer offset c) k) _
    (λ e. by_number (λ n. broken_data (answer n c) k ≡ None) offset offsets.DATA e (data_kept k c h))
    (if_none (offset == offsets.ISR) (broken_isr (answer offset c) k) _
    (λ e. by_number (λ n. broken_isr (answer n c) k ≡ None) offset offsets.ISR e (isr_kept k c h))
    (if_none (offset == offsets.LSR) (broken_lsr (answer offset c) k) _
    (λ e. by_number (λ n. broken_lsr (answer n c) k ≡ None) offset offsets.LSR e (lsr_kept k c h))
    (if_none (offset == offsets.MSR) (broken_msr (answer offset c) k.latches.mcr) (broken_latch (shown offset k.latches) (answer offset c))
    (λ e. by_number (λ n. broken_msr (answer n c) k.latches.mcr ≡ None) offset offsets.MSR e (msr_kept k.latches.mcr c h.latches.mcr w l))
    (latch_kept (shown offset k.latches) (answer offset c) (agrees_shown k.latches c h.latches offset)))))
