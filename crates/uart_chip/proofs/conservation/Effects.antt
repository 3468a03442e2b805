-- What each access of a session does to the chip.
use Rattle.std.proofs.Common.{◌≡◌, ℕ, zero, suc, ◌<◌, Bool, true, false, ◌==◌, inl, inr, List, [], ◌∷◌, length, refl, arith, sym, ◌∙◌, ap}
use Rattle.std.proofs.Common.{if◌then◌else◌, subst, bit_and, bit_or, ◌^◌}
use Rattle.std.proofs.Math.Nat.{mod_self}
use Rattle.std.proofs.lemmas.Nat.{pow_pos}
use Rattle.std.proofs.lemmas.Grind.{common_steps}
use lib.Bits.{or_zero_r}
use Rattle.uart_chip.specs.declared.receiver.Character.{Character}
use Rattle.uart_spec.specs.Access.{saved_lsr, saved_msr}
use Rattle.uart_spec.specs.declared.access.Access.{Access}
use Rattle.uart_spec.specs.declared.access.Access.TheVariants.{Read, Write}
use Rattle.uart_spec.specs.Bits.{has_any}
use Rattle.uart_spec.specs.declared.registers.fifo_control.TheConstants.FCR
use Rattle.uart_spec.specs.declared.registers.line_status.TheConstants.LSR
use Rattle.uart_spec.specs.declared.registers.offsets.TheConstants as offsets
use Rattle.uart_chip.specs.Transmitter.{TransmitterState, room, load}
use Rattle.uart_events.specs.declared.event.Chip.{Chip}
use Rattle.uart_chip.specs.Receiver.{report, take_front, clear}
use Rattle.uart_chip.specs.Chip.{ChipState, word_length, cut_to, cut_of, line_status, interrupt, is_thr_empty, answer, after_read}
use Rattle.uart_chip.specs.Chip.{after_write, with_latches, is_same, switch, set_fifo, set_trigger, trigger_level, control}
use Rattle.uart_chip.specs.Chip.{reset_receiver, reset_transmitter, is_dlab_set, with_size, empty_queues, switched_size, switch_size}
use Rattle.uart_chip.specs.Sound.{IsSoundChip}
use Rattle.uart_chip.proofs.Bits.{has_and}
use Rattle.uart_chip.proofs.Switching.{closed-keeps}
use Rattle.uart_chip.proofs.statuses.Status.{status_overrun}
use Rattle.uart_chip.proofs.conservation.Sends.{Sends, sends-refl, sends-pending, sends-load}
use Rattle.uart_chip.proofs.conservation.Receives.{Shows, receives-refl, receives-same, receives-still}
use Rattle.uart_chip.proofs.conservation.Arrivals.{receives-front}
use Rattle.uart_chip.proofs.statuses.Reports.{IsReported, reports-refl, reports-same, reports-look, reports-front}
use Rattle.uart_chip.proofs.statuses.LinesChanged.{changed-refl, changed-status}
use Rattle.uart_chip.proofs.conservation.Blocks.{is_quiet}
use Rattle.uart_chip.proofs.conservation.Went.{Modes, IsIn, fixed_in, dlab, dlab-in, marked-in, Went}

-- the same but for what a session doesn't speak of
went-still : (x : Modes) (c d : ChipState) (access : Access) → IsSoundChip c → IsIn x c → d.latches.lcr ≡ c.latches.lcr →
    d.latches.mcr ≡ c.latches.mcr → fixed_in d ≡ fixed_in c →
    Sends c.transmitter d.transmitter [] → d.receiver ≡ c.receiver → d.modem ≡ c.modem → saved_lsr (access ∷ []) ≡ 0 →
    saved_msr (access ∷ []) ≡ 0 →
    Went x c d [] (access ∷ []) [] []
went-still x c d access s w l m f sends r t no_lsr no_msr = record {
  modes = record {
    lcr = l ∙ w.lcr;
    mcr = m ∙ w.mcr;
    fifo = ap (λ (p : Bool × (ℕ → ℕ)). p.0) f ∙ w.fifo;
    cut = ap (λ (p : Bool × (ℕ → ℕ)). p.1) f ∙ w.cut;
  };
  sends = sends;
  receives = rw (r, no_lsr) (receives-refl x.fifo c.receiver (marked-in x c s w));
  reports = rw (r, no_lsr) (reports-refl x.fifo c.receiver);
  modem_lines = rw (t, no_msr) (changed-refl c.modem);
}

-- ---- the line status

-- the saved bits show the overrun flag as the register does
shows-line : (line : ℕ) → has_any (bit_or (bit_and line LSR.LINE_ERRORS.0) 0) LSR.OVERRUN_ERROR.0 ≡ has_any line LSR.OVERRUN_ERROR.0
shows-line line =
    ap (λ v. has_any v LSR.OVERRUN_ERROR.0) (or_zero_r (bit_and line LSR.LINE_ERRORS.0)) ∙ has_and 1 line LSR.LINE_ERRORS.0 refl

pub went-look : (x : Modes) (c : ChipState) (line : ℕ) → IsSoundChip c → IsIn x c → line ≡ line_status c →
    Went x c (after_read offsets.LSR c) [] (Read offsets.LSR line ∷ []) [] []
went-look x c line s w e = record {
  modes = record { lcr = w.lcr; mcr = w.mcr; fifo = w.fifo; cut = w.cut };
  sends = sends-refl c.transmitter;
  receives =
      receives-same x.fifo c.receiver (report c.receiver) _ (marked-in x c s w)
      (record { queue = refl; marks = refl; missing = refl; arrived = refl; size = refl })
      (λ h. inl (shown ∙ h)) (λ h. back h);
  reports = reports-look x.fifo c line s.receiver.legal e;
  modem_lines = changed-refl c.modem;
}
  where
    shown : has_any (bit_or (bit_and line LSR.LINE_ERRORS.0) 0) LSR.OVERRUN_ERROR.0 ≡ c.receiver.is_overrun
    shown = shows-line line ∙ (ap (λ v. has_any v LSR.OVERRUN_ERROR.0) e ∙ status_overrun c)

    back : Shows (bit_or (bit_and line LSR.LINE_ERRORS.0) 0) (report c.receiver) → c.receiver.is_overrun ≡ true
    back (inl h) = sym shown ∙ h
    back (inr h) = absurd (cc)

-- ---- the data register

pub went-send : (x : Modes) (c : ChipState) (byte : ℕ) → dlab x ≡ false → IsSoundChip c → IsIn x c →
    length c.transmitter.queue < room x.fifo c.transmitter.size →
    Went x c (after_write offsets.DATA byte c) [] (Write offsets.DATA byte ∷ []) (byte ∷ []) []
went-send x c byte off s w free =
    let e : after_write offsets.DATA byte c ≡ record c { transmitter = load c.fifo (cut_of c byte) c.transmitter } =
    rw (dlab-in x c w ∙ off) refl in
    let f : load c.fifo (cut_of c byte) c.transmitter ≡ load x.fifo (x.cut byte) c.transmitter =
    ap (λ (b : Bool). load b (cut_of c byte) c.transmitter) w.fifo ∙ ap (λ (g : ℕ → ℕ). load x.fifo (g byte) c.transmitter) w.cut in
    rw e (record {
      modes = record { lcr = w.lcr; mcr = w.mcr; fifo = w.fifo; cut = w.cut };
      sends =
          subst (λ (t : TransmitterState). Sends c.transmitter t (x.cut byte ∷ [])) (sym f)
          (sends-load x.fifo (x.cut byte) c.transmitter free);
      receives = receives-refl x.fifo c.receiver (marked-in x c s w);
      reports = reports-refl x.fifo c.receiver;
      modem_lines = changed-refl c.modem;
    })

-- a character is taken, which must wait and have been reported
pub record TookFront (x : Modes) (c : ChipState) (byte : ℕ) : Type 0 where
  pub front : Character
  pub rest : List Character
  pub queue : c.receiver.queue ≡ front ∷ rest
  pub is_byte : front.byte ≡ byte
  pub went : Went x c (after_read offsets.DATA c) [] (Read offsets.DATA byte ∷ []) [] (front ∷ [])

pub went-take : (x : Modes) (c : ChipState) (byte : ℕ) → dlab x ≡ false → IsSoundChip c → IsIn x c → IsReported x.fifo c.receiver →
    byte ≡ answer offsets.DATA c → TookFront x c byte
went-take x c byte off s w told b = go c.receiver.queue refl
  where
    go : (queue : List Character) → c.receiver.queue ≡ queue → TookFront x c byte
    go [] e = let h : 0 < 0 = rw e at told.some in absurd (omega arith)
    go (front ∷ others) e =
        let d : after_read offsets.DATA c ≡ record c { receiver = take_front (front ∷ others) c.receiver } =
        rw (dlab-in x c w ∙ off, e) refl in
        record {
          front = front;
          rest = others;
          queue = e;
          is_byte = sym (b ∙ rw (dlab-in x c w ∙ off, e) refl);
          went = rw d (record {
            modes = record { lcr = w.lcr; mcr = w.mcr; fifo = w.fifo; cut = w.cut };
            sends = sends-refl c.transmitter;
            receives = receives-front x.fifo c.receiver front others (marked-in x c s w) e;
            reports = reports-front x.fifo c.receiver front others told e;
            modem_lines = changed-refl c.modem;
          });
        }

-- under DLAB the data are left alone
pub went-read_latch : (x : Modes) (c : ChipState) (low : ℕ) → dlab x ≡ true → IsSoundChip c → IsIn x c →
    Went x c (after_read offsets.DATA c) [] (Read offsets.DLL low ∷ []) [] []
went-read_latch x c low on s w =
    rw (dlab-in x c w ∙ on) (went-still x c c (Read offsets.DLL low) s w refl refl refl (sends-refl c.transmitter) refl refl refl refl)

-- and writes reach the latch
pub went-write_low : (x : Modes) (c : ChipState) (value : ℕ) → dlab x ≡ true → IsSoundChip c → IsIn x c →
    Went x c (after_write offsets.DATA value c) [] (Write offsets.DLL value ∷ []) [] []
went-write_low x c value on s w =
    rw (dlab-in x c w ∙ on) (went-still x c (with_latches (record c.latches { dll = value }) c) (Write offsets.DLL value) s w
    refl refl refl (sends-refl c.transmitter) refl refl refl refl)

pub went-write_high : (x : Modes) (c : ChipState) (value : ℕ) → dlab x ≡ true → IsSoundChip c → IsIn x c →
    Went x c (after_write offsets.IER value c) [] (Write offsets.DLM value ∷ []) [] []
went-write_high x c value on s w =
    rw (dlab-in x c w ∙ on) (went-still x c (with_latches (record c.latches { dlm = value }) c) (Write offsets.DLM value) s w
    refl refl refl (sends-refl c.transmitter) refl refl refl refl)

-- ---- the other registers

-- a chip that cuts nothing at one word length cuts nothing at any
pub never_cut : (cuts : Bool) (length other : ℕ) → cut_to cuts length ≡ (λ (byte : ℕ). byte) → cut_to cuts other ≡ (λ (byte : ℕ). byte)
never_cut false length other e = refl
never_cut true length other e =
    let none : 2 ^ length ≡ 0 = sym (ap (λ (f : ℕ → ℕ). f (2 ^ length)) e) ∙ mod_self (2 ^ length) in
    absurd (omega (arith, none, pow_pos length))

-- LCR is written where nothing is cut, and the mode with it
pub went-write_frame : (x : Modes) (c : ChipState) (value : ℕ) → IsSoundChip c → IsIn x c → x.cut ≡ (λ (byte : ℕ). byte) →
    Went (record x { lcr = value }) c (after_write offsets.LCR value c) [] (Write offsets.LCR value ∷ []) [] []
went-write_frame x c value s w whole = record {
  modes = record {
    lcr = refl;
    mcr = w.mcr;
    fifo = w.fifo;
    cut = never_cut c.cuts (word_length c.latches.lcr) (word_length value) (w.cut ∙ whole) ∙ sym whole;
  };
  sends = sends-refl c.transmitter;
  receives = receives-refl x.fifo c.receiver (marked-in x c s w);
  reports = reports-refl x.fifo c.receiver;
  modem_lines = changed-refl c.modem;
}

-- LCR is written with the same word length, and the mode with it
pub went-write_lcr : (x : Modes) (c : ChipState) (value : ℕ) → IsSoundChip c → IsIn x c → word_length value ≡ word_length c.latches.lcr →
    Went (record x { lcr = value }) c (after_write offsets.LCR value c) [] (Write offsets.LCR value ∷ []) [] []
went-write_lcr x c value s w same = record {
  modes = record {
    lcr = refl;
    mcr = w.mcr;
    fifo = w.fifo;
    cut = ap {B = ℕ → ℕ} (λ (length : ℕ) (byte : ℕ). cut_to c.cuts length byte) same ∙ w.cut;
  };
  sends = sends-refl c.transmitter;
  receives = receives-refl x.fifo c.receiver (marked-in x c s w);
  reports = reports-refl x.fifo c.receiver;
  modem_lines = changed-refl c.modem;
}

-- a register is read that has no data; of these only the modem status and the interrupt identification change anything
pub went-read_1 : (x : Modes) (c : ChipState) (value : ℕ) → IsSoundChip c → IsIn x c →
    Went x c (after_read offsets.IER c) [] (Read offsets.IER value ∷ []) [] []
went-read_1 x c value s w = went-still x c c (Read offsets.IER value) s w refl refl refl (sends-refl c.transmitter) refl refl refl refl

went-read_2 : (x : Modes) (c : ChipState) (value : ℕ) → IsSoundChip c → IsIn x c →
    Went x c (after_read offsets.ISR c) [] (Read offsets.ISR value ∷ []) [] []
went-read_2 x c value s w = go (is_thr_empty (interrupt c)) refl
  where
    go : (b : Bool) → is_thr_empty (interrupt c) ≡ b → Went x c (after_read offsets.ISR c) [] (Read offsets.ISR value ∷ []) [] []
    go true e = rw e (went-still x c _ (Read offsets.ISR value) s w refl refl refl (sends-pending c.transmitter false) refl refl refl refl)
    go false e = rw e (went-still x c c (Read offsets.ISR value) s w refl refl refl (sends-refl c.transmitter) refl refl refl refl)

pub went-read_3 : (x : Modes) (c : ChipState) (value : ℕ) → IsSoundChip c → IsIn x c →
    Went x c (after_read offsets.LCR c) [] (Read offsets.LCR value ∷ []) [] []
went-read_3 x c value s w = went-still x c c (Read offsets.LCR value) s w refl refl refl (sends-refl c.transmitter) refl refl refl refl

went-read_6 : (x : Modes) (c : ChipState) (value : ℕ) → IsSoundChip c → IsIn x c → value ≡ answer offsets.MSR c →
    Went x c (after_read offsets.MSR c) [] (Read offsets.MSR value ∷ []) [] []
went-read_6 x c value s w e = record {
  modes = record { lcr = w.lcr; mcr = w.mcr; fifo = w.fifo; cut = w.cut };
  sends = sends-refl c.transmitter;
  receives = receives-refl x.fifo c.receiver (marked-in x c s w);
  reports = reports-refl x.fifo c.receiver;
  modem_lines = changed-status c.modem value s.modem e;
}

pub went-quiet_read : (x : Modes) (c : ChipState) (offset value : ℕ) → IsSoundChip c → IsIn x c → is_quiet (Read offset value) ≡ true →
    value ≡ answer offset c →
    Went x c (after_read offset c) [] (Read offset value ∷ []) [] []
went-quiet_read x c zero value s w h e = absurd (cc)
went-quiet_read x c (suc zero) value s w h e = went-read_1 x c value s w
went-quiet_read x c (suc (suc zero)) value s w h e = went-read_2 x c value s w
went-quiet_read x c (suc (suc (suc zero))) value s w h e = went-read_3 x c value s w
went-quiet_read x c (suc (suc (suc (suc zero)))) value s w h e =
    went-still x c c (Read offsets.MCR value) s w refl refl refl (sends-refl c.transmitter) refl refl refl refl
went-quiet_read x c (suc (suc (suc (suc (suc zero))))) value s w h e = absurd (cc)
went-quiet_read x c (suc (suc (suc (suc (suc (suc zero)))))) value s w h e = went-read_6 x c value s w e
went-quiet_read x c (suc (suc (suc (suc (suc (suc (suc zero))))))) value s w h e =
    went-still x c c (Read offsets.SPR value) s w refl refl refl (sends-refl c.transmitter) refl refl refl refl
went-quiet_read x c (suc (suc (suc (suc (suc (suc (suc (suc n)))))))) value s w h e = absurd (grind (arith, common_steps))

-- IER and SPR
pub went-quiet_write : (x : Modes) (c : ChipState) (offset value : ℕ) → dlab x ≡ false → IsSoundChip c → IsIn x c →
    is_quiet (Write offset value) ≡ true →
    Went x c (after_write offset value c) [] (Write offset value ∷ []) [] []
went-quiet_write x c offset value off s w h = either (offset == offsets.IER) refl
  where
    either : (b : Bool) → (offset == offsets.IER) ≡ b → Went x c (after_write offset value c) [] (Write offset value ∷ []) [] []
    either true e =
        let f : offset ≡ offsets.IER = grind arith in
        rw (f, dlab-in x c w ∙ off)
        (went-still x c _ (Write offsets.IER value) s w refl refl refl (sends-pending c.transmitter _) refl refl refl refl)
    either false e =
        let f : offset ≡ offsets.SPR = grind arith in
        rw f (went-still x c (after_write offsets.SPR value c) (Write offsets.SPR value) s w refl refl refl
        (sends-refl c.transmitter) refl refl refl refl)

-- ---- the trigger level

-- a value of FCR that leaves a FIFO on that is on, and resets nothing
pub record IsLevel (value : ℕ) : Type 0 where
  pub on : has_any value FCR.FIFO_ENABLE.0 ≡ true
  pub keeps_received : has_any value FCR.RX_FIFO_RESET.0 ≡ false
  pub keeps_queued : has_any value FCR.TX_FIFO_RESET.0 ≡ false

-- while DLAB is off nothing is switched
pub levelled : (c : ChipState) (value : ℕ) → c.fifo ≡ true → is_dlab_set c.latches ≡ false → IsLevel value →
    set_fifo value c ≡ set_trigger (trigger_level value) c
levelled c value on closed level =
    ap (λ (b : Bool). if b then levelling (still b) else still b) level.on
    ∙ (ap (λ (b : Bool). levelling (if b then c else switch true c)) same
    ∙ (ap (λ (b : Bool). set_trigger (trigger_level value)
    (reset_transmitter value (reset_receiver value (if b then with_size (switched_size value) (empty_queues c) else c))))
    (closed-keeps value c closed)
    ∙ (ap (λ (b : Bool). set_trigger (trigger_level value)
    (reset_transmitter value (if b then record c { receiver = clear c.receiver } else c))) level.keeps_received
    ∙ ap (λ (b : Bool). set_trigger (trigger_level value) (if b then emptied else c)) level.keeps_queued)))
  where
    levelling : ChipState → ChipState
    levelling d = set_trigger (trigger_level value) (reset_transmitter value (reset_receiver value (switch_size value d)))

    still : Bool → ChipState
    still b = if is_same c.fifo b then c else switch b c

    same : is_same c.fifo true ≡ true
    same = ap (λ (b : Bool). is_same b true) on

    emptied : ChipState
    emptied = record c { transmitter = record c.transmitter { queue = []; is_thr_pending = true } }

pub went-write_level : (x : Modes) (c : ChipState) (value : ℕ) → dlab x ≡ false → x.fifo ≡ true → IsLevel value → IsSoundChip c →
    IsIn x c →
    Went x c (after_write offsets.FCR value c) [] (Write offsets.FCR value ∷ []) [] []
went-write_level x c value off on level s w =
    let fifo : c.fifo ≡ true = w.fifo ∙ on in
    let same : after_write offsets.FCR value c ≡ set_trigger (trigger_level value) c =
    ap (λ (model : Chip). control model value c) (s.implemented fifo) ∙ levelled c value fifo (dlab-in x c w ∙ off) level in
    rw same (record {
      modes = record { lcr = w.lcr; mcr = w.mcr; fifo = w.fifo; cut = w.cut };
      sends = sends-refl c.transmitter;
      receives =
          receives-still x.fifo c.receiver (record c.receiver { trigger = trigger_level value }) (marked-in x c s w)
          (record { queue = refl; marks = refl; missing = refl; arrived = refl; size = refl }) refl;
      reports = reports-same x.fifo c.receiver (record c.receiver { trigger = trigger_level value }) refl refl refl;
      modem_lines = changed-refl c.modem;
    })
