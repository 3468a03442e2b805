-- What an action that the judge takes an access for does to the software chip.
use Rattle.std.proofs.Common.{◌≡◌, ◌≤◌, ℕ, ◌+◌, Bool, true, false, not, ◌&&◌, ◌||◌, ◌==◌, List, [], ◌∷◌, refl, subst, if◌then◌else◌, ◌∙◌}
use Rattle.std.proofs.Common.{Option, Some, None, length, length-append, min, nat_lt, arith, inl, inr, ◌⊎◌}
use Rattle.std.proofs.lemmas.Grind.{common_steps}
use Rattle.uart_spec.specs.Bits.{has_any}
use Rattle.uart_spec.specs.declared.access.Access.TheVariants.{Read}
use Rattle.uart_spec.specs.declared.registers.fifo_control.TheConstants.FCR as fcr_bits
use Rattle.uart_spec.specs.declared.registers.fifo_trigger_level.FifoTriggerLevel.{FifoTriggerLevel}
use Rattle.uart_spec.specs.declared.registers.offsets.TheConstants as offsets
use Rattle.uart_events.specs.declared.event.Chip.{Chip}
use Rattle.uart_events.specs.declared.event.Chip.TheVariants.{Uart16550A, Uart16450}
use Rattle.uart_chip.specs.Chip.{ChipState, after_read, after_write, answer, control, control_modem, cut_of, enable, interrupt, is_dlab_set}
use Rattle.uart_chip.specs.Chip.{is_same, is_thr_empty, line_status, set_fifo, set_trigger, switch, trigger_level, with_latches}
use Rattle.uart_chip.specs.Chip.{with_thr_pending, with_size, empty_queues, switched_size, is_switching}
use Rattle.uart_chip.specs.Masks.{kept_mcr}
use Rattle.uart_chip.specs.declared.receiver.Character.{Character}
use Rattle.uart_chip.specs.Receiver.{ReceiverState, clear, take_front}
use Rattle.uart_chip.specs.Transmitter.{TransmitterState, load, room}
use Rattle.uart_judges.specs.Actions.{data_read, data_written, ier_read, ier_written, read_action, write_action}
use Rattle.uart_judges.specs.Shows.{looks_at_line}
use Rattle.uart_judges.specs.declared.audit.action.Action.{Action}
use Rattle.uart_judges.specs.declared.audit.action.Action.TheVariants.{Receives, Sends, SetsDivisorLow, ControlsFifo, ReadsLine, SetsLine}
use Rattle.uart_judges.specs.declared.audit.action.Action.TheVariants.{ReadsModem, SetsModem, IdentifiesInterrupt, LooksAtLine, Arrives}
use Rattle.uart_judges.specs.declared.audit.action.Action.TheVariants.{MayReceive, MaySend}
use Rattle.uart_judges.proofs.LatchesHold.{by_number}
use Rattle.uart_judges_runs.specs.Lost.{IsSo, LooksWhileOff}

-- ---- what does not change

-- modes, queues and the trigger level are the same
pub record Alike (c d : ChipState) : Type 0 where
  pub model : d.model ≡ c.model
  pub lcr : d.latches.lcr ≡ c.latches.lcr
  pub mcr : d.latches.mcr ≡ c.latches.mcr
  pub fifo : d.fifo ≡ c.fifo
  pub queued : d.transmitter.queue ≡ c.transmitter.queue
  pub waiting : d.receiver.queue ≡ c.receiver.queue
  pub trigger : d.receiver.trigger ≡ c.receiver.trigger

pub alike_refl : (c : ChipState) → Alike c c
alike_refl c = record { model = refl; lcr = refl; mcr = refl; fifo = refl; queued = refl; waiting = refl; trigger = refl }

alike_if : (c d e : ChipState) (b : Bool) → Alike c d → Alike c e → Alike c (if b then d else e)
alike_if c d e true p q = p
alike_if c d e false p q = q

-- modes and the trigger level are the same. So many characters were taken, at most, and none has left the transmitter
pub record MayMove (most : ℕ) (c d : ChipState) : Type 0 where
  pub model : d.model ≡ c.model
  pub lcr : d.latches.lcr ≡ c.latches.lcr
  pub mcr : d.latches.mcr ≡ c.latches.mcr
  pub fifo : d.fifo ≡ c.fifo
  pub queued : min (length c.transmitter.queue) (room c.fifo c.transmitter.size) ≤ length d.transmitter.queue
  pub waiting : length c.receiver.queue ≤ length d.receiver.queue + most
  pub trigger : d.receiver.trigger ≡ c.receiver.trigger

-- ---- FCR

-- after a write of FCR that leaves the FIFOs on or off, as they were or not, with these resets and this trigger level
pub record IsControlled (on same receiver transmitter : Bool) (level : FifoTriggerLevel) (c d : ChipState) : Type 0 where
  pub model : d.model ≡ c.model
  pub lcr : d.latches.lcr ≡ c.latches.lcr
  pub mcr : d.latches.mcr ≡ c.latches.mcr
  pub fifo : d.fifo ≡ on
  pub queued : d.transmitter.queue ≡ (if not same || (on && transmitter) then [] else c.transmitter.queue)
  pub waiting : d.receiver.queue ≡ (if not same || (on && receiver) then [] else c.receiver.queue)
  pub trigger : d.receiver.trigger ≡ (if on then level else c.receiver.trigger)

abbrev pub Controlled : ℕ → ChipState → ChipState → Type 0
Controlled value c d =
    IsControlled (has_any value fcr_bits.FIFO_ENABLE.0) (is_same c.fifo (has_any value fcr_bits.FIFO_ENABLE.0))
    (has_any value fcr_bits.RX_FIFO_RESET.0) (has_any value fcr_bits.TX_FIFO_RESET.0) (trigger_level value) c d

pub same_true : (a b : Bool) → is_same a b ≡ true → a ≡ b
same_true true true e = refl
same_true true false e = absurd (cc)
same_true false true e = absurd (cc)
same_true false false e = refl

-- `set_fifo`, whatever these tests say
abbrev done : (value : ℕ) → ChipState → (on same resizes receiver transmitter : Bool) → ChipState
done value c on same resizes receiver transmitter =
    let b : ChipState = if same then c else switch on c in
    let d : ChipState = if resizes then with_size (switched_size value) (empty_queues b) else b in
    let e : ChipState = if receiver then record d { receiver = clear d.receiver } else d in
    let f : ChipState = if transmitter then record e { transmitter = record e.transmitter { queue = []; is_thr_pending = true } } else e in
    if on then set_trigger (trigger_level value) f else b

-- if the write switches no size
pub controlled : (value : ℕ) (c : ChipState) → is_switching value c ≡ false → Controlled value c (set_fifo value c)
controlled value c keeps =
    let on = has_any value fcr_bits.FIFO_ENABLE.0 in
    go on (is_same c.fifo on) (is_switching value (if is_same c.fifo on then c else switch on c)) (has_any value fcr_bits.RX_FIFO_RESET.0)
    (has_any value fcr_bits.TX_FIFO_RESET.0) (λ e. same_true c.fifo on e) (still (is_same c.fifo on) on ∙ keeps)
  where
    still : (same on : Bool) → is_switching value (if same then c else switch on c) ≡ is_switching value c
    still true on = refl
    still false on = refl

    go : (on same resizes receiver transmitter : Bool) → (same ≡ true → c.fifo ≡ on) → resizes ≡ false →
        IsControlled on same receiver transmitter (trigger_level value) c (done value c on same resizes receiver transmitter)
    go on same true receiver transmitter e f = absurd (cc)
    go true true false true true e f =
        record { model = refl; lcr = refl; mcr = refl; fifo = e refl; queued = refl; waiting = refl; trigger = refl }
    go true true false true false e f =
        record { model = refl; lcr = refl; mcr = refl; fifo = e refl; queued = refl; waiting = refl; trigger = refl }
    go true true false false true e f =
        record { model = refl; lcr = refl; mcr = refl; fifo = e refl; queued = refl; waiting = refl; trigger = refl }
    go true true false false false e f =
        record { model = refl; lcr = refl; mcr = refl; fifo = e refl; queued = refl; waiting = refl; trigger = refl }
    go true false false true true e f =
        record { model = refl; lcr = refl; mcr = refl; fifo = refl; queued = refl; waiting = refl; trigger = refl }
    go true false false true false e f =
        record { model = refl; lcr = refl; mcr = refl; fifo = refl; queued = refl; waiting = refl; trigger = refl }
    go true false false false true e f =
        record { model = refl; lcr = refl; mcr = refl; fifo = refl; queued = refl; waiting = refl; trigger = refl }
    go true false false false false e f =
        record { model = refl; lcr = refl; mcr = refl; fifo = refl; queued = refl; waiting = refl; trigger = refl }
    go false true false receiver transmitter e f =
        record { model = refl; lcr = refl; mcr = refl; fifo = e refl; queued = refl; waiting = refl; trigger = refl }
    go false false false receiver transmitter e f =
        record { model = refl; lcr = refl; mcr = refl; fifo = refl; queued = refl; waiting = refl; trigger = refl }

-- ---- an action

abbrev pub Does : Action → ChipState → ChipState → Type 0
Does (Sends byte) c d = d ≡ record c { transmitter = load c.fifo (cut_of c byte) c.transmitter }
Does (Receives byte) c d = d ≡ record c { receiver = take_front c.receiver.queue c.receiver }
Does (ControlsFifo fcr) c d = Controlled fcr.0 c d
Does (SetsLine lcr) c d = d ≡ with_latches (record c.latches { lcr = lcr.0 }) c
Does (SetsModem mcr) c d = d ≡ control_modem (kept_mcr c.auto_flow mcr.0) c
Does (SetsDivisorLow byte) c d = Alike c d × (d.transmitter ≡ c.transmitter)
Does (IdentifiesInterrupt isr) c d = Alike c d × (isr.0 ≡ answer offsets.ISR c)
Does (ReadsLine lcr) c d = Alike c d × (lcr.0 ≡ c.latches.lcr)
Does (ReadsModem mcr) c d = Alike c d × (mcr.0 ≡ c.latches.mcr)
Does (LooksAtLine lsr) c d = Alike c d × (lsr.0 ≡ line_status c)
Does MayReceive c d = MayMove 1 c d
Does MaySend c d = MayMove 0 c d
Does (Arrives byte errors) c d = ⊥
Does _ c d = Alike c d × Unit {0}

-- ---- each register

-- the offset is none of the first seven
pub record IsBehind (offset : ℕ) : Type 0 where
  pub not_data : (offset == offsets.DATA) ≡ false
  pub not_ier : (offset == offsets.IER) ≡ false
  pub not_isr : (offset == offsets.ISR) ≡ false
  pub not_lcr : (offset == offsets.LCR) ≡ false
  pub not_mcr : (offset == offsets.MCR) ≡ false
  pub not_lsr : (offset == offsets.LSR) ≡ false
  pub not_msr : (offset == offsets.MSR) ≡ false

module _ (P : ℕ → Type 0) (front : P offsets.DATA) (ier : P offsets.IER) (isr : P offsets.ISR) (lcr : P offsets.LCR) (mcr : P offsets.MCR)
    (lsr : P offsets.LSR) (msr : P offsets.MSR) (other : (offset : ℕ) → IsBehind offset → P offset) where
  pub by_offset : (n : ℕ) → P n
  by_offset n =
      pick n (n == offsets.DATA) (n == offsets.IER) (n == offsets.ISR) (n == offsets.LCR) (n == offsets.MCR) (n == offsets.LSR)
      (n == offsets.MSR)
      refl refl refl refl refl refl refl
    where
      pick : (n : ℕ) (a b c d e f g : Bool) → (n == offsets.DATA) ≡ a → (n == offsets.IER) ≡ b → (n == offsets.ISR) ≡ c →
          (n == offsets.LCR) ≡ d → (n == offsets.MCR) ≡ e → (n == offsets.LSR) ≡ f → (n == offsets.MSR) ≡ g → P n
      pick n true b c d e f g h1 h2 h3 h4 h5 h6 h7 = by_number P n offsets.DATA h1 front
      pick n false true c d e f g h1 h2 h3 h4 h5 h6 h7 = by_number P n offsets.IER h2 ier
      pick n false false true d e f g h1 h2 h3 h4 h5 h6 h7 = by_number P n offsets.ISR h3 isr
      pick n false false false true e f g h1 h2 h3 h4 h5 h6 h7 = by_number P n offsets.LCR h4 lcr
      pick n false false false false true f g h1 h2 h3 h4 h5 h6 h7 = by_number P n offsets.MCR h5 mcr
      pick n false false false false false true g h1 h2 h3 h4 h5 h6 h7 = by_number P n offsets.LSR h6 lsr
      pick n false false false false false false true h1 h2 h3 h4 h5 h6 h7 = by_number P n offsets.MSR h7 msr
      pick n false false false false false false false h1 h2 h3 h4 h5 h6 h7 = other n (record {
        not_data = h1;
        not_ier = h2;
        not_isr = h3;
        not_lcr = h4;
        not_mcr = h5;
        not_lsr = h6;
        not_msr = h7;
      })

-- ---- a read

pub taken_trigger : (queue : List Character) (r : ReceiverState) → (take_front queue r).trigger ≡ r.trigger
taken_trigger [] r = refl
taken_trigger (x ∷ xs) r = refl

one_taken : (queue : List Character) (r : ReceiverState) → r.queue ≡ queue → length r.queue ≤ length (take_front queue r).queue + 1
one_taken [] r e = rw e (omega arith)
one_taken (x ∷ xs) r e = rw e (omega arith)

least_queued : (n space : ℕ) → min n space ≤ n
least_queued n space = omega arith

may_read : (c : ChipState) (b : Bool) → MayMove 1 c (if b then c else record c { receiver = take_front c.receiver.queue c.receiver })
may_read c true = record {
  model = refl;
  lcr = refl;
  mcr = refl;
  fifo = refl;
  queued = least_queued (length c.transmitter.queue) (room c.fifo c.transmitter.size);
  waiting = omega arith;
  trigger = refl;
}
may_read c false = record {
  model = refl;
  lcr = refl;
  mcr = refl;
  fifo = refl;
  queued = least_queued (length c.transmitter.queue) (room c.fifo c.transmitter.size);
  waiting = one_taken c.receiver.queue c.receiver refl;
  trigger = taken_trigger c.receiver.queue c.receiver;
}

reads_known : (c : ChipState) (value : ℕ) (b : Bool) → Does (data_read (Some b) value) c (if b then c else record c
    { receiver = take_front c.receiver.queue c.receiver })
reads_known c value true = (alike_refl c, tt)
reads_known c value false = refl

reads_data : (c : ChipState) (value : ℕ) (o : Option Bool) (b : Bool) → IsSo o (λ on. b ≡ on) →
    Does (data_read o value) c (if b then c else record c { receiver = take_front c.receiver.queue c.receiver })
reads_data c value None b e = may_read c b
reads_data c value (Some on) b e =
    subst
    (λ (on : Bool). Does (data_read (Some on) value) c (if b then c else record c { receiver = take_front c.receiver.queue c.receiver }))
    e (reads_known c value b)

reads_ier : (c : ChipState) (value : ℕ) (o : Option Bool) → Does (ier_read o value) c c
reads_ier c value (Some true) = (alike_refl c, tt)
reads_ier c value _ = (alike_refl c, tt)

pub does_read : (c : ChipState) (n value : ℕ) (o : Option Bool) → IsSo o (λ on. is_dlab_set c.latches ≡ on) → value ≡ answer n c →
    Does (read_action o n value) c (after_read n c)
does_read c n value o so is =
    by_offset (λ n. value ≡ answer n c → Does (read_action o n value) c (after_read n c))
    (λ e. reads_data c value o (is_dlab_set c.latches) so) (λ e. reads_ier c value o)
    (λ e. (alike_if c (with_thr_pending false c) c (is_thr_empty (interrupt c)) (alike_with_thr c) (alike_refl c), e))
    (λ e. (alike_refl c, e)) (λ e. (alike_refl c, e)) (λ e. (alike_report c, e)) (λ e. (alike_modem c, tt))
    (λ n b e. rw (b.not_data, b.not_ier, b.not_isr, b.not_lcr, b.not_mcr, b.not_lsr, b.not_msr) (alike_refl c, tt)) n is
  where
    alike_with_thr : (c : ChipState) → Alike c (with_thr_pending false c)
    alike_with_thr c = record { model = refl; lcr = refl; mcr = refl; fifo = refl; queued = refl; waiting = refl; trigger = refl }

    alike_report : (c : ChipState) → Alike c (after_read offsets.LSR c)
    alike_report c = record { model = refl; lcr = refl; mcr = refl; fifo = refl; queued = refl; waiting = refl; trigger = refl }

    alike_modem : (c : ChipState) → Alike c (after_read offsets.MSR c)
    alike_modem c = record { model = refl; lcr = refl; mcr = refl; fifo = refl; queued = refl; waiting = refl; trigger = refl }

-- ---- a write

-- a byte that is written is in the queue, or the queue is full
pub loaded : (fifo : Bool) (byte : ℕ) (t : TransmitterState) →
    (length (load fifo byte t).queue ≡ length t.queue + 1) ⊎ (room fifo t.size ≤ length (load fifo byte t).queue)
loaded fifo byte t = go (nat_lt (length t.queue) (room fifo t.size)) refl
  where
    full : (fifo : Bool) → nat_lt (length t.queue) (room fifo t.size) ≡ false →
        room fifo t.size ≤ length (if fifo then t.queue else byte ∷ [])
    full true e = grind (arith, common_steps)
    full false e = omega arith

    go : (b : Bool) → nat_lt (length t.queue) (room fifo t.size) ≡ b →
        (length (load fifo byte t).queue ≡ length t.queue + 1) ⊎ (room fifo t.size ≤ length (load fifo byte t).queue)
    go true e = inl (rw e (length-append t.queue (byte ∷ [])))
    go false e = inr (rw e (full fifo e))

none_left : (before after space : ℕ) → (after ≡ before + 1) ⊎ (space ≤ after) → min before space ≤ after
none_left before after space (inl e) = omega (arith, e)
none_left before after space (inr e) = omega (arith, e)

abbrev written_data : ℕ → ChipState → Bool → ChipState
written_data value c b =
    if b then with_latches (record c.latches { dll = value }) c else record c
    { transmitter = load c.fifo (cut_of c value) c.transmitter }

may_write : (c : ChipState) (value : ℕ) (b : Bool) → MayMove 0 c (written_data value c b)
may_write c value true = record {
  model = refl;
  lcr = refl;
  mcr = refl;
  fifo = refl;
  queued = least_queued (length c.transmitter.queue) (room c.fifo c.transmitter.size);
  waiting = omega arith;
  trigger = refl;
}
may_write c value false = record {
  model = refl;
  lcr = refl;
  mcr = refl;
  fifo = refl;
  queued = none_left (length c.transmitter.queue) _ (room c.fifo c.transmitter.size) (loaded c.fifo (cut_of c value) c.transmitter);
  waiting = omega arith;
  trigger = refl;
}

writes_known : (c : ChipState) (value : ℕ) (b : Bool) → Does (data_written (Some b) value) c (written_data value c b)
writes_known c value true =
    (record { model = refl; lcr = refl; mcr = refl; fifo = refl; queued = refl; waiting = refl; trigger = refl }, refl)
writes_known c value false = refl

writes_data : (c : ChipState) (value : ℕ) (o : Option Bool) (b : Bool) → IsSo o (λ on. b ≡ on) →
    Does (data_written o value) c (written_data value c b)
writes_data c value None b e = may_write c value b
writes_data c value (Some on) b e =
    subst (λ (on : Bool). Does (data_written (Some on) value) c (written_data value c b)) e (writes_known c value b)

alike_ier : (c : ChipState) (value : ℕ) (b : Bool) →
    Alike c (if b then with_latches (record c.latches { dlm = value }) c else enable value c)
alike_ier c value true = record { model = refl; lcr = refl; mcr = refl; fifo = refl; queued = refl; waiting = refl; trigger = refl }
alike_ier c value false = record { model = refl; lcr = refl; mcr = refl; fifo = refl; queued = refl; waiting = refl; trigger = refl }

writes_ier : (c : ChipState) (value : ℕ) (o : Option Bool) (b : Bool) → Does (ier_written o value) c
    (if b then with_latches (record c.latches { dlm = value }) c else enable value c)
writes_ier c value (Some true) b = (alike_ier c value b, tt)
writes_ier c value _ b = (alike_ier c value b, tt)

controls : (model : Chip) (value : ℕ) (c : ChipState) → model ≡ Uart16550A → is_switching value c ≡ false →
    Controlled value c (control model value c)
controls Uart16450 value c e keeps = absurd (cc)
controls Uart16550A value c e keeps = controlled value c keeps

-- if no size is switched, where it is one of FCR
pub does_write : (c : ChipState) (n value : ℕ) (o : Option Bool) → IsSo o (λ on. is_dlab_set c.latches ≡ on) → c.model ≡ Uart16550A →
    (n ≡ offsets.FCR → is_switching value c ≡ false) → Does (write_action o n value) c (after_write n value c)
does_write c n value o so model =
    by_offset (λ n. (n ≡ offsets.FCR → is_switching value c ≡ false) → Does (write_action o n value) c (after_write n value c))
    (λ k. writes_data c value o (is_dlab_set c.latches) so) (λ k. writes_ier c value o (is_dlab_set c.latches))
    (λ k. controls c.model value c model (k refl)) (λ k. refl) (λ k. refl) (λ k. (alike_refl c, tt)) (λ k. (alike_refl c, tt))
    (λ n b k.
    rw (b.not_data, b.not_ier, b.not_isr, b.not_lcr, b.not_mcr)
    (alike_if c (with_latches (record c.latches { scr = value }) c) c (n == offsets.SPR) (alike_scr c) (alike_refl c), tt))
    n
  where
    alike_scr : (c : ChipState) → Alike c (with_latches (record c.latches { scr = value }) c)
    alike_scr c = record { model = refl; lcr = refl; mcr = refl; fifo = refl; queued = refl; waiting = refl; trigger = refl }

-- ---- which access looks at LSR

looks_only : (offset value : ℕ) → looks_at_line (read_action None offset value) ≡ true → offset ≡ offsets.LSR
looks_only offset value =
    by_offset (λ n. looks_at_line (read_action None n value) ≡ true → n ≡ offsets.LSR)
    (λ e. absurd (cc)) (λ e. absurd (cc)) (λ e. absurd (cc)) (λ e. absurd (cc)) (λ e. absurd (cc)) (λ e. refl) (λ e. absurd (cc))
    (λ n b e.
    let f : looks_at_line (read_action None n value) ≡ false =
    rw (b.not_data, b.not_ier, b.not_isr, b.not_lcr, b.not_mcr, b.not_lsr, b.not_msr) refl in absurd (cc)) offset

pub off_at_look : (o : Option Bool) (offset value : ℕ) (c : ChipState) → LooksWhileOff o (Read offset value) c → o ≡ None →
    looks_at_line (read_action o offset value) ≡ true → is_dlab_set c.latches ≡ false
off_at_look None offset value c off e looks = off (looks_only offset value looks)
off_at_look (Some on) offset value c off e looks = absurd (cc)

pub no_write_looks : (o : Option Bool) (offset value : ℕ) → looks_at_line (write_action o offset value) ≡ false
no_write_looks o offset value =
    by_offset (λ n. looks_at_line (write_action o n value) ≡ false) (writes_zero o) (writes_one o) refl refl refl refl refl
    (λ n b. rw (b.not_data, b.not_ier, b.not_isr, b.not_lcr, b.not_mcr) refl) offset
  where
    writes_zero : (o : Option Bool) → looks_at_line (data_written o value) ≡ false
    writes_zero (Some true) = refl
    writes_zero _ = refl

    writes_one : (o : Option Bool) → looks_at_line (ier_written o value) ≡ false
    writes_one (Some true) = refl
    writes_one _ = refl
