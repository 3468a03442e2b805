-- What is known of a chip holds after a read or a write.
use Rattle.std.proofs.Common.{◌≡◌, ℕ, suc, ◌+◌, ◌^◌, ◌<◌, Bool, true, false, not, ◌&&◌, ◌==◌, nat_lt, List, [], ◌∷◌, ◌++◌, length, map}
use Rattle.std.proofs.Common.{Option, Some, None, refl, arith, sym, ◌∙◌, ap, subst, bit_and, if◌then◌else◌}
use Rattle.std.proofs.lemmas.Bool.{and_parts, leb-false}
use Rattle.std.proofs.lemmas.Grind.{common_steps}
use Rattle.std.proofs.Math.Nat.{mod-eq_of_lt}
use Rattle.uart_spec.specs.Bits.{field, has_any}
use Rattle.uart_spec.specs.declared.registers.fifo_control.TheConstants.FCR
use Rattle.uart_spec.specs.declared.registers.interrupt_status.TheConstants.ISR
use Rattle.uart_spec.specs.declared.registers.line_control.TheConstants.LCR
use Rattle.uart_spec.specs.declared.registers.line_status.TheConstants.LSR
use Rattle.uart_spec.specs.declared.registers.modem_control.TheConstants.MCR
use Rattle.uart_spec.specs.declared.registers.offsets.TheConstants as offsets
use Rattle.uart_events.specs.declared.event.Chip.{Chip}
use Rattle.uart_events.specs.declared.event.Chip.TheVariants.{Uart16550A, Uart16450}
use Rattle.uart_chip.specs.declared.receiver.Character.{Character}
use Rattle.uart_chip.specs.declared.transmitter.Shifting.{Shifting}
use Rattle.uart_chip.specs.Transmitter.{TransmitterState, held, load, shift_bytes}
use Rattle.uart_chip.specs.Receiver.{ReceiverState, clear, take_front}
use Rattle.uart_chip.specs.Chip as chip
use Rattle.uart_chip.specs.Chip.{ChipState, answer, interrupt, is_dlab_set, is_thr_empty, is_transmitter_empty, line_status, trigger_level}
use Rattle.uart_chip.specs.Chip.{switch, reset_receiver, reset_transmitter, set_trigger, is_same, set_fifo, control, is_64, with_size}
use Rattle.uart_chip.specs.Chip.{empty_queues, switched_size, is_switching, switch_size, is_loopback, word_length, cut_to, cut_of}
use Rattle.uart_chip.specs.Chip.{with_latches}
use Rattle.uart_chip.proofs.AccessMoves.{both_if, if_given, read_move, write_lasts}
use Rattle.uart_chip.proofs.FifoBits.{any_shown}
use Rattle.uart_chip.proofs.McrBits.{kept_bit}
use Rattle.uart_chip.proofs.lasting.Lasting.{lasts-read, lasts-write, lasts-latch}
use Rattle.uart_chip.proofs.loopback.Loops.{line_in}
use Rattle.uart_chip.proofs.statuses.Status.{status_data, status_room, status_empty}
use Rattle.uart_judges.specs.declared.replay.known.Known.{Known}
use Rattle.uart_judges.specs.declared.replay.known.Sender.{Sender}
use Rattle.uart_judges.specs.declared.replay.known.Sender.TheVariants.{Unknown, ThrEmpty, Idle}
use Rattle.uart_judges.specs.declared.replay.looped.Looped.{Looped}
use Rattle.uart_judges.specs.Latches.{dlab}
use Rattle.uart_judges.specs.Known.{sender_shown, waits_after, after_read, after_asking, sender_after, fifo_after, after_write}
use Rattle.uart_judges.specs.Known.{is_data, takes, loops_back, is_empty, is_emptied, looped_sent, looped_after}
use Rattle.uart_judges.specs.Looped.{nothing, and, after}
use Rattle.uart_judges.specs.Shows.{is_cut}
use Rattle.uart_judges.proofs.Between.{SenderHolds, HasCharacter, sender_lasts, positive}
use Rattle.uart_judges.proofs.Holding.{Agrees, LatchesHold, Holds, Same, same_refl, same_if, latches_moved, fifo_moved}
use Rattle.uart_judges.proofs.LatchesHold.{by_number, knows_dlab, learned, written}
use Rattle.uart_judges.proofs.Looping.{Within, within-refl, within_read, within_load, loops_write, within_write}
use Rattle.uart_judges.proofs.Returning.{LoopHolds, unknown_holds, nothing_holds, begun_holds, holds_on, after_holds, and_holds}

-- ---- a read

same_read : (offset : ℕ) (c : ChipState) → Same c (chip.after_read offset c)
same_read offset c =
    let same : Same c c = same_refl c in
    same_if c _ _ (offset == offsets.DATA)
    (same_if c _ _ (is_dlab_set c.latches) same (record { model = refl; flow = refl; switch = refl; latches = refl; fifo = refl }))
    (same_if c _ _ (offset == offsets.ISR)
    (same_if c _ _ (is_thr_empty (interrupt c)) (record { model = refl; flow = refl; switch = refl; latches = refl; fifo = refl }) same)
    (same_if c _ _ (offset == offsets.LSR) (record { model = refl; flow = refl; switch = refl; latches = refl; fifo = refl })
    (same_if c _ _ (offset == offsets.MSR) (record { model = refl; flow = refl; switch = refl; latches = refl; fifo = refl }) same)))

-- a queue that is empty as LSR shows it
no_queue : (queue : List ℕ) → (length queue == 0) ≡ true → queue ≡ []
no_queue [] e = refl
no_queue (x ∷ xs) e = let none : suc (length xs) ≡ 0 = grind (arith, common_steps) in absurd (omega (arith, none))

nothing_left : (queue : List ℕ) (place : Option Shifting) → is_transmitter_empty queue place ≡ true → (queue ≡ []) × (place ≡ None)
nothing_left [] None e = (refl, refl)
nothing_left [] (Some s) e = absurd (cc)
nothing_left (x ∷ xs) place e = absurd (cc)

sender_if : (t : TransmitterState) (a b : Sender) (on : Bool) → (on ≡ true → SenderHolds a t) → (on ≡ false → SenderHolds b t) →
    SenderHolds (if on then a else b) t
sender_if t a b true p q = p refl
sender_if t a b false p q = q refl

-- what LSR shows of the transmitter
sender_learned : (sender : Sender) (c : ChipState) → SenderHolds sender c.transmitter →
    SenderHolds (sender_shown (line_status c) sender) c.transmitter
sender_learned sender c h =
    sender_if c.transmitter Idle (if has_any (line_status c) LSR.THR_EMPTY.0 then ThrEmpty else sender)
    (has_any (line_status c) LSR.TRANSMITTER_EMPTY.0)
    (λ e. nothing_left c.transmitter.queue c.transmitter.shift_register (sym (status_empty c) ∙ e))
    (λ _. sender_if c.transmitter ThrEmpty sender (has_any (line_status c) LSR.THR_EMPTY.0)
    (λ e. no_queue c.transmitter.queue (sym (status_room c) ∙ e)) (λ _. h))

has_if : (c d : ChipState) (b : Bool) → HasCharacter c.receiver → HasCharacter d.receiver → HasCharacter (if b then c else d).receiver
has_if c d true p q = p
has_if c d false p q = q

has_moved : (r s : ReceiverState) → s ≡ r → HasCharacter r → HasCharacter s
has_moved r s e h = rw e h

-- a read of another register than DATA leaves a character
has_read : (offset : ℕ) (c : ChipState) → (offset == offsets.DATA) ≡ false → HasCharacter c.receiver →
    HasCharacter (chip.after_read offset c).receiver
has_read offset c e h =
    rw e (has_if _ _ (offset == offsets.ISR) (has_if _ _ (is_thr_empty (interrupt c)) h h)
    (has_if _ _ (offset == offsets.LSR) h (has_if _ _ (offset == offsets.MSR) h h)))

-- a read of offset 0 under DLAB
has_latch : (dlab : Option Bool) (waits : Bool) (c : ChipState) → Agrees dlab (is_dlab_set c.latches) →
    (waits ≡ true → HasCharacter c.receiver) →
    waits_after dlab waits ≡ true → HasCharacter (chip.after_read offsets.DATA c).receiver
has_latch None waits c a h e = absurd (cc)
has_latch (Some false) waits c a h e = absurd (cc)
has_latch (Some true) waits c a h e = rw a (h e)

-- which of two things is known to wait
waits_if : (P : Type 0) (a b on : Bool) → (on ≡ true → a ≡ true → P) → (on ≡ false → b ≡ true → P) → (if on then a else b) ≡ true → P
waits_if P a b true p q e = p refl e
waits_if P a b false p q e = q refl e

-- a read leaves what comes back, or takes some of it
loop_read : (offset : ℕ) (l : Looped) (c : ChipState) → LoopHolds l c → LoopHolds l (chip.after_read offset c)
loop_read offset l c h =
    holds_on l c _ (λ e. ap is_loopback (same_read offset c).latches ∙ e) (λ _. within_read offset c _ (read_move offset c)) h

-- a byte that certainly waits is read
loop_taken : (l : Looped) (c : ChipState) → is_dlab_set c.latches ≡ false → HasCharacter c.receiver → LoopHolds l c →
    LoopHolds (after l (answer offsets.DATA c)) (chip.after_read offsets.DATA c)
loop_taken l c q w h = rw q (taken c.receiver.queue refl)
  where
    taken : (queue : List Character) → c.receiver.queue ≡ queue →
        LoopHolds (after l (take_front c.receiver.queue c.receiver).last_byte)
        (record c { receiver = take_front c.receiver.queue c.receiver })
    taken [] e = absurd (let none : false ≡ true = ap (λ (cs : List Character). nat_lt 0 (length cs)) (sym e) ∙ w in cc)
    taken (x ∷ xs) e =
        subst (λ cs. LoopHolds (after l (take_front cs c.receiver).last_byte) (record c { receiver = take_front cs c.receiver })) (sym e)
        (after_holds l c (record c { receiver = take_front (x ∷ xs) c.receiver }) x.byte
        (map (λ (y : Character). y.byte) xs ++ held c.transmitter) h
        (ap (λ cs. map (λ (y : Character). y.byte) cs ++ held c.transmitter) e) refl refl)

-- offset 0 is the data
pub data_open : (o : Option Bool) (b : Bool) → Agrees o b → is_data o ≡ true → b ≡ false
data_open None b a e = absurd (cc)
data_open (Some true) b a e = absurd (cc)
data_open (Some false) b a e = a

loop_known : (o : Option ℕ) (mcr : ℕ) → Agrees o mcr → loops_back o ≡ true → has_any mcr MCR.LOOP_BACK.0 ≡ true
loop_known None mcr a e = absurd (cc)
loop_known (Some known) mcr a e = ap (λ n. has_any n MCR.LOOP_BACK.0) a ∙ e

no_character : (queue : List Character) → nat_lt 0 (length queue) ≡ false → queue ≡ []
no_character [] e = refl
no_character (x ∷ xs) e = absurd (let some : true ≡ false = sym (positive (length xs)) ∙ e in cc)

-- LSR shows that nothing comes back
loop_empty : (c : ChipState) → is_loopback c.latches ≡ true → is_empty (line_status c) ≡ true →
    LoopHolds nothing (chip.after_read offsets.LSR c)
loop_empty c loops e =
    let p = and_parts (not (has_any (line_status c) LSR.DATA_READY.0)) (has_any (line_status c) LSR.TRANSMITTER_EMPTY.0) e in
    let waits : c.receiver.queue ≡ [] = no_character c.receiver.queue (sym (status_data c) ∙ off _ p.0) in
    let sent = nothing_left c.transmitter.queue c.transmitter.shift_register (sym (status_empty c) ∙ p.1) in
    nothing_holds (chip.after_read offsets.LSR c) loops (rw (waits, sent.0, sent.1) refl)
  where
    off : (b : Bool) → not b ≡ true → b ≡ false
    off false e = refl
    off true e = absurd (cc)

module _ (offset : ℕ) (k : Known) (c : ChipState) (h : Holds k c) where
  loop_told : LoopHolds (after_read offset (answer offset c) k).looped (chip.after_read offset c)
  loop_told =
      let P : Looped → Type 0 = λ l. LoopHolds l (chip.after_read offset c) in
      if_given P _ _ ((offset == offsets.DATA) && takes k)
      (λ e. let p = and_parts (offset == offsets.DATA) (takes k) e in
      let q = and_parts k.waits (is_data (dlab k.latches)) p.1 in
      by_number (λ n. LoopHolds (after k.looped (answer n c)) (chip.after_read n c)) offset offsets.DATA p.0
      (loop_taken k.looped c (data_open (dlab k.latches) _ (knows_dlab k.latches c.latches h.latches) q.1) (h.waits q.0) h.looped))
      (λ _. if_given P _ _ (offset == offsets.LSR)
      (λ e. begun_holds (is_empty (answer offset c) && loops_back k.latches.mcr) k.looped _
      (λ shown. by_number (λ n. (is_empty (answer n c) && loops_back k.latches.mcr) ≡ true → LoopHolds nothing (chip.after_read n c)) offset
      offsets.LSR e
      (λ e. let q = and_parts (is_empty (line_status c)) (loops_back k.latches.mcr) e in
      loop_empty c (loop_known k.latches.mcr c.latches.mcr h.latches.mcr q.1) q.0) shown)
      (loop_read offset k.looped c h.looped))
      (λ _. loop_read offset k.looped c h.looped))

  sender_read : SenderHolds k.sender (chip.after_read offset c).transmitter
  sender_read = lasts-read (SenderHolds k.sender) (sender_lasts k.sender).in_accesses offset c h.sender

  waits_data : (offset == offsets.DATA) ≡ true → waits_after (dlab k.latches) k.waits ≡ true →
      HasCharacter (chip.after_read offset c).receiver
  waits_data e w =
      by_number (λ n. HasCharacter (chip.after_read n c).receiver) offset offsets.DATA e
      (has_latch (dlab k.latches) k.waits c (knows_dlab k.latches c.latches h.latches) h.waits w)

  -- a read whose value is left out
  pub holds_asked : Holds (after_asking offset k) (chip.after_read offset c)
  holds_asked =
      let p : Same c (chip.after_read offset c) = same_read offset c in
      record {
        model = p.model ∙ h.model;
        flow = p.flow ∙ h.flow;
        switch = p.switch ∙ h.switch;
        latches = latches_moved k.latches c.latches _ p.latches h.latches;
        fifo = fifo_moved k.fifo c.fifo _ p.fifo h.fifo;
        sender = sender_read;
        waits =
            waits_if (HasCharacter (chip.after_read offset c).receiver) (waits_after (dlab k.latches) k.waits) k.waits
            (offset == offsets.DATA) waits_data (λ e w. has_read offset c e (h.waits w));
        looped = loop_read offset k.looped c h.looped;
      }

  fifo_read : Agrees (if offset == offsets.ISR then Some (has_any (answer offset c) ISR.FIFOS_ENABLED.0) else k.fifo) c.fifo
  fifo_read = go (offset == offsets.ISR) refl
    where
      go : (b : Bool) → (offset == offsets.ISR) ≡ b →
          Agrees (if offset == offsets.ISR then Some (has_any (answer offset c) ISR.FIFOS_ENABLED.0) else k.fifo) c.fifo
      go true e =
          by_number (λ n. Agrees (if n == offsets.ISR then Some (has_any (answer n c) ISR.FIFOS_ENABLED.0) else k.fifo) c.fifo)
          offset offsets.ISR e (sym (any_shown c.fifo (c.has_size_switch && is_64 c.receiver.size) (interrupt c)))
      go false e = rw e h.fifo

  -- the answer of LSR
  lsr_read : (offset == offsets.LSR) ≡ true → has_any (answer offset c) LSR.DATA_READY.0 ≡ true → HasCharacter c.receiver
  lsr_read e w =
      let shown : has_any (line_status c) LSR.DATA_READY.0 ≡ true =
      by_number (λ n. has_any (answer n c) LSR.DATA_READY.0 ≡ true → has_any (line_status c) LSR.DATA_READY.0 ≡ true)
      offset offsets.LSR e (λ w. w) w in
      sym (status_data c) ∙ shown

  sender_told : SenderHolds (if offset == offsets.LSR then sender_shown (answer offset c) k.sender else k.sender) c.transmitter
  sender_told =
      sender_if c.transmitter (sender_shown (answer offset c) k.sender) k.sender (offset == offsets.LSR)
      (λ e. by_number (λ n. SenderHolds (sender_shown (answer n c) k.sender) c.transmitter) offset offsets.LSR e
      (sender_learned k.sender c h.sender)) (λ _. h.sender)

  -- a read that returned what the chip returns
  pub holds_read : Holds (after_read offset (answer offset c) k) (chip.after_read offset c)
  holds_read =
      let p : Same c (chip.after_read offset c) = same_read offset c in
      let known : Sender = if offset == offsets.LSR then sender_shown (answer offset c) k.sender else k.sender in
      record {
        model = p.model ∙ h.model;
        flow = p.flow ∙ h.flow;
        switch = p.switch ∙ h.switch;
        latches = latches_moved _ c.latches _ p.latches (learned k.latches c h.latches offset);
        fifo =
            fifo_moved (if offset == offsets.ISR then Some (has_any (answer offset c) ISR.FIFOS_ENABLED.0) else k.fifo)
            c.fifo _ p.fifo fifo_read;
        sender = lasts-read (SenderHolds known) (sender_lasts known).in_accesses offset c sender_told;
        waits =
            waits_if (HasCharacter (chip.after_read offset c).receiver) (waits_after (dlab k.latches) k.waits)
            (if offset == offsets.LSR then has_any (answer offset c) LSR.DATA_READY.0 else k.waits)
            (offset == offsets.DATA) waits_data
            (λ e. waits_if (HasCharacter (chip.after_read offset c).receiver) (has_any (answer offset c) LSR.DATA_READY.0) k.waits
            (offset == offsets.LSR) (λ l w. has_read offset c e (lsr_read l w))
            (λ _ w. has_read offset c e (h.waits w)));
        looped = loop_told;
      }

-- ---- a write of FCR

-- the FIFO is on or off in d, and the rest is as in c
record Switched (on : Bool) (c d : ChipState) : Type 0 where
  model : d.model ≡ c.model
  flow : d.auto_flow ≡ c.auto_flow
  switch : d.has_size_switch ≡ c.has_size_switch
  latches : d.latches ≡ c.latches
  fifo : d.fifo ≡ on

switched_if : (on : Bool) (c d e : ChipState) (b : Bool) → Switched on c d → Switched on c e → Switched on c (if b then d else e)
switched_if on c d e true p q = p
switched_if on c d e false p q = q

same_as : (a b : Bool) → is_same a b ≡ true → a ≡ b
same_as true true e = refl
same_as true false e = sym e
same_as false true e = e
same_as false false e = refl

switched : (value : ℕ) (c : ChipState) → Switched (has_any value FCR.FIFO_ENABLE.0) c (set_fifo value c)
switched value c =
    let on : Bool = has_any value FCR.FIFO_ENABLE.0 in
    let d : ChipState = if is_same c.fifo on then c else switch on c in
    let p : Switched on c d = first on (is_same c.fifo on) refl in
    let b : ChipState = switch_size value d in
    let s : Switched on c b =
    switched_if on c (with_size (switched_size value) (empty_queues d)) d (is_switching value d)
    (record { model = p.model; flow = p.flow; switch = p.switch; latches = p.latches; fifo = p.fifo }) p in
    let e : ChipState = reset_receiver value b in
    let q : Switched on c e =
    switched_if on c (record b { receiver = clear b.receiver }) b (has_any value FCR.RX_FIFO_RESET.0)
    (record { model = s.model; flow = s.flow; switch = s.switch; latches = s.latches; fifo = s.fifo }) s in
    let f : ChipState = reset_transmitter value e in
    let r : Switched on c f =
    switched_if on c (record e { transmitter = record e.transmitter { queue = []; is_thr_pending = true } }) e
    (has_any value FCR.TX_FIFO_RESET.0)
    (record { model = q.model; flow = q.flow; switch = q.switch; latches = q.latches; fifo = q.fifo }) q in
    switched_if on c (set_trigger (trigger_level value) f) d on
    (record { model = r.model; flow = r.flow; switch = r.switch; latches = r.latches; fifo = r.fifo }) p
  where
    first : (on b : Bool) → is_same c.fifo on ≡ b → Switched on c (if b then c else switch on c)
    first on true e = record { model = refl; flow = refl; switch = refl; latches = refl; fifo = same_as c.fifo on e }
    first on false e = record { model = refl; flow = refl; switch = refl; latches = refl; fifo = refl }

-- after a write of FCR
record Controlled (fifo : Option Bool) (c d : ChipState) : Type 0 where
  model : d.model ≡ c.model
  flow : d.auto_flow ≡ c.auto_flow
  switch : d.has_size_switch ≡ c.has_size_switch
  latches : d.latches ≡ c.latches
  fifo_holds : Agrees fifo d.fifo

same_control : (model other : Chip) (value : ℕ) (fifo : Option Bool) (c : ChipState) → other ≡ model → Agrees fifo c.fifo →
    Controlled (fifo_after model value fifo) c (control other value c)
same_control model other value fifo c e a = rw e (go model)
  where
    go : (model : Chip) → Controlled (fifo_after model value fifo) c (control model value c)
    go Uart16450 = record { model = refl; flow = refl; switch = refl; latches = refl; fifo_holds = a }
    go Uart16550A =
        let s : Switched (has_any value FCR.FIFO_ENABLE.0) c (set_fifo value c) = switched value c in
        record { model = s.model; flow = s.flow; switch = s.switch; latches = s.latches; fifo_holds = s.fifo }

-- ---- a write of any register

-- all but the latches and the transmitter
record Alike (c d : ChipState) : Type 0 where
  model : d.model ≡ c.model
  flow : d.auto_flow ≡ c.auto_flow
  switch : d.has_size_switch ≡ c.has_size_switch
  fifo : d.fifo ≡ c.fifo
  receiver : d.receiver ≡ c.receiver

alike_if : (c d e : ChipState) (b : Bool) → Alike c d → Alike c e → Alike c (if b then d else e)
alike_if c d e true p q = p
alike_if c d e false p q = q

alike_write : (offset value : ℕ) (c : ChipState) → (offset == offsets.FCR) ≡ false → Alike c (chip.after_write offset value c)
alike_write offset value c e =
    let same : Alike c c = record { model = refl; flow = refl; switch = refl; fifo = refl; receiver = refl } in
    rw e (alike_if c _ _ (offset == offsets.DATA)
    (alike_if c _ _ (is_dlab_set c.latches) (record { model = refl; flow = refl; switch = refl; fifo = refl; receiver = refl })
    (record { model = refl; flow = refl; switch = refl; fifo = refl; receiver = refl }))
    (alike_if c _ _ (offset == offsets.IER)
    (alike_if c _ _ (is_dlab_set c.latches) (record { model = refl; flow = refl; switch = refl; fifo = refl; receiver = refl })
    (record { model = refl; flow = refl; switch = refl; fifo = refl; receiver = refl }))
    (alike_if c _ _ (offset == offsets.LCR) (record { model = refl; flow = refl; switch = refl; fifo = refl; receiver = refl })
    (alike_if c _ _ (offset == offsets.MCR) (record { model = refl; flow = refl; switch = refl; fifo = refl; receiver = refl })
    (alike_if c _ _ (offset == offsets.SPR) (record { model = refl; flow = refl; switch = refl; fifo = refl; receiver = refl }) same)))))

-- DATA is written, or under DLAB the divisor latch
sender_sent : (on : Option Bool) (sender : Sender) (value : ℕ) (c : ChipState) → Agrees on (is_dlab_set c.latches) →
    SenderHolds sender c.transmitter → SenderHolds (sender_after on sender) (chip.after_write offsets.DATA value c).transmitter
sender_sent None sender value c a h = tt
sender_sent (Some false) sender value c a h = tt
sender_sent (Some true) sender value c a h = lasts-latch (SenderHolds sender) (sender_lasts sender).in_accesses value c a h

-- ---- what comes back, after a write

-- a byte that is not cut
uncut : (cuts : Bool) (lcr byte : ℕ) → is_cut (record { 0 = lcr }) byte ≡ false → cut_to cuts (word_length lcr) byte ≡ byte
uncut false lcr byte e = refl
uncut true lcr byte e =
    let bits : field 0 2 lcr ≡ bit_and lcr LCR.WORD_LENGTH.0 = grind (arith, common_steps) in
    let fits : byte < 2 ^ (5 + field 0 2 lcr) = leb-false (2 ^ (5 + field 0 2 lcr)) byte e in
    mod-eq_of_lt (subst (λ n. byte < 2 ^ (5 + n)) bits fits)

loop_sent : (o : Option ℕ) (l : Looped) (value : ℕ) (c : ChipState) → Agrees o c.latches.lcr → LoopHolds l c →
    LoopHolds (looped_sent o value l) (chip.after_write offsets.DATA value c)
loop_sent None l value c a h = unknown_holds (chip.after_write offsets.DATA value c)
loop_sent (Some lcr) l value c a h =
    let P : Looped → Type 0 = λ l. LoopHolds l (chip.after_write offsets.DATA value c) in
    if_given P _ _ (has_any lcr LCR.DLAB.0) latched
    (λ off. if_given P _ _ (is_cut (record { 0 = lcr }) value) (λ _. unknown_holds _) (written_byte off))
  where
    dlab_is : is_dlab_set c.latches ≡ has_any lcr LCR.DLAB.0
    dlab_is = ap (λ n. has_any n LCR.DLAB.0) a

    latched : has_any lcr LCR.DLAB.0 ≡ true → LoopHolds l (chip.after_write offsets.DATA value c)
    latched on =
        rw (dlab_is, on) (holds_on l c (with_latches (record c.latches { dll = value }) c) (λ e. e) (λ _. within-refl (line_in c)) h)

    written_byte : has_any lcr LCR.DLAB.0 ≡ false → is_cut (record { 0 = lcr }) value ≡ false →
        LoopHolds (and l value) (chip.after_write offsets.DATA value c)
    written_byte off fits =
        let whole : cut_of c value ≡ value = ap (λ n. cut_to c.cuts (word_length n) value) a ∙ uncut c.cuts lcr value fits in
        let d : ChipState = record c { transmitter = load c.fifo (cut_of c value) c.transmitter } in
        rw (dlab_is, off) (and_holds l c d value h
        (subst (λ byte. Within (line_in d) (line_in c ++ byte ∷ [])) whole
        (within_load c.fifo (cut_of c value) c.transmitter c.receiver)) refl)

-- the receiver is emptied, and nothing is left to be sent
cleared : (value : ℕ) (c : ChipState) → has_any value FCR.FIFO_ENABLE.0 ≡ true → has_any value FCR.RX_FIFO_RESET.0 ≡ true →
    (set_fifo value c).receiver.queue ≡ []
cleared value c on reset =
    rw (on, reset) (both_if (λ (d : ChipState). d.receiver.queue ≡ []) _ _ (has_any value FCR.TX_FIFO_RESET.0) refl refl)

loop_emptied : (model : Chip) (sender : Sender) (o : Option ℕ) (value : ℕ) (c : ChipState) → c.model ≡ model →
    SenderHolds sender c.transmitter → Agrees o c.latches.mcr → is_emptied model sender value o ≡ true →
    LoopHolds nothing (chip.after_write offsets.FCR value c)
loop_emptied Uart16450 sender o value c m s a e = absurd (cc)
loop_emptied Uart16550A Unknown o value c m s a e = absurd (cc)
loop_emptied Uart16550A ThrEmpty o value c m s a e = absurd (cc)
loop_emptied Uart16550A Idle o value c m s a e =
    let p = and_parts (has_any value FCR.FIFO_ENABLE.0) (has_any value FCR.RX_FIFO_RESET.0 && loops_back o) e in
    let q = and_parts (has_any value FCR.RX_FIFO_RESET.0) (loops_back o) p.1 in
    let idle : SenderHolds Idle (chip.after_write offsets.FCR value c).transmitter =
    lasts-write (SenderHolds Idle) (sender_lasts Idle).in_accesses offsets.FCR value c refl s in
    let d : chip.after_write offsets.FCR value c ≡ set_fifo value c = ap (λ (model : Chip). control model value c) m in
    nothing_holds (chip.after_write offsets.FCR value c)
    (ap (λ (e : ChipState). is_loopback e.latches) d ∙ (ap is_loopback (switched value c).latches ∙ loop_known o c.latches.mcr a q.1))
    (none_held _ _ _ (ap (λ (e : ChipState). e.receiver.queue) d ∙ cleared value c p.0 q.0) idle.1 idle.0)
  where
    none_held : (queue : List Character) (place : Option Shifting) (bytes : List ℕ) → queue ≡ [] → place ≡ None → bytes ≡ [] →
        map (λ (y : Character). y.byte) queue ++ (shift_bytes place ++ bytes) ≡ []
    none_held queue place bytes e f g = rw (e, f, g) refl

-- another write
loop_kept : (offset value : ℕ) (l : Looped) (c : ChipState) → (offset == offsets.DATA) ≡ false →
    ((offset == offsets.MCR) && not (has_any value MCR.LOOP_BACK.0)) ≡ false → LoopHolds l c → LoopHolds l (chip.after_write offset value c)
loop_kept offset value l c n stays h = go (offset == offsets.MCR) refl
  where
    on : (b : Bool) → not b ≡ false → b ≡ true
    on true e = refl
    on false e = absurd (cc)

    go : (b : Bool) → (offset == offsets.MCR) ≡ b → LoopHolds l (chip.after_write offset value c)
    go false e =
        write_lasts (LoopHolds l) offset value
        (λ d f m. holds_on l d f (λ loops. loops_write offset value e d f m ∙ loops) (λ _. within_write offset value n e d f m)) c h
    go true e =
        let loops : has_any value MCR.LOOP_BACK.0 ≡ true =
        on _ (ap (λ (b : Bool). b && not (has_any value MCR.LOOP_BACK.0)) (sym e) ∙ stays) in
        by_number (λ n. LoopHolds l (chip.after_write n value c)) offset offsets.MCR e
        (holds_on l c (chip.after_write offsets.MCR value c) (λ _. kept_bit c.auto_flow 4 value refl refl ∙ loops)
        (λ _. within-refl (line_in c)) h)

-- what is known but the transmitter
record Rest (k : Known) (c : ChipState) : Type 0 where
  model : c.model ≡ k.model
  flow : c.auto_flow ≡ false
  switch : c.has_size_switch ≡ false
  latches : LatchesHold k.latches c.latches
  fifo : Agrees k.fifo c.fifo
  waits : k.waits ≡ true → HasCharacter c.receiver

module _ (offset value : ℕ) (k : Known) (c : ChipState) (h : Holds k c) where
  sender_wrote : SenderHolds (if offset == offsets.DATA then sender_after (dlab k.latches) k.sender else k.sender)
      (chip.after_write offset value c).transmitter
  sender_wrote =
      sender_if (chip.after_write offset value c).transmitter (sender_after (dlab k.latches) k.sender) k.sender (offset == offsets.DATA)
      (λ e. by_number (λ n. SenderHolds (sender_after (dlab k.latches) k.sender) (chip.after_write n value c).transmitter)
      offset offsets.DATA e (sender_sent (dlab k.latches) k.sender value c (knows_dlab k.latches c.latches h.latches) h.sender))
      (λ e. lasts-write (SenderHolds k.sender) (sender_lasts k.sender).in_accesses offset value c e h.sender)

  rest_wrote : (b : Bool) → (offset == offsets.FCR) ≡ b → Rest (after_write offset value k) (chip.after_write offset value c)
  rest_wrote true e =
      by_number (λ n. Rest (after_write n value k) (chip.after_write n value c)) offset offsets.FCR e
      (let s : Controlled (fifo_after k.model value k.fifo) c (control c.model value c) =
      same_control k.model c.model value k.fifo c h.model h.fifo in
      record {
        model = s.model ∙ h.model;
        flow = s.flow ∙ h.flow;
        switch = s.switch ∙ h.switch;
        latches = latches_moved k.latches c.latches _ s.latches h.latches;
        fifo = s.fifo_holds;
        waits = λ e. absurd (cc);
      })
  rest_wrote false e =
      let a : Alike c (chip.after_write offset value c) = alike_write offset value c e in
      record {
        model = a.model ∙ h.model;
        flow = a.flow ∙ h.flow;
        switch = a.switch ∙ h.switch;
        latches = written k.latches c h.latches h.flow value offset e;
        fifo =
            fifo_moved (if offset == offsets.FCR then fifo_after k.model value k.fifo else k.fifo) c.fifo _ a.fifo (rw e h.fifo);
        waits =
            waits_if (HasCharacter (chip.after_write offset value c).receiver) false k.waits (offset == offsets.FCR)
            (λ _ w. absurd (cc)) (λ _ w. has_moved c.receiver _ a.receiver (h.waits w));
      }

  loop_wrote : LoopHolds (looped_after offset value k) (chip.after_write offset value c)
  loop_wrote =
      let P : Looped → Type 0 = λ l. LoopHolds l (chip.after_write offset value c) in
      if_given P _ _ (offset == offsets.DATA)
      (λ e. by_number (λ n. LoopHolds (looped_sent k.latches.lcr value k.looped) (chip.after_write n value c)) offset offsets.DATA e
      (loop_sent k.latches.lcr k.looped value c h.latches.lcr h.looped))
      (λ n. if_given P _ _ ((offset == offsets.FCR) && is_emptied k.model k.sender value k.latches.mcr)
      (λ e. let p = and_parts (offset == offsets.FCR) (is_emptied k.model k.sender value k.latches.mcr) e in
      by_number (λ n. LoopHolds nothing (chip.after_write n value c)) offset offsets.FCR p.0
      (loop_emptied k.model k.sender k.latches.mcr value c h.model h.sender h.latches.mcr p.1))
      (λ _. if_given P _ _ ((offset == offsets.MCR) && not (has_any value MCR.LOOP_BACK.0)) (λ _. unknown_holds _)
      (λ stays. loop_kept offset value k.looped c n stays h.looped)))

  pub holds_write : Holds (after_write offset value k) (chip.after_write offset value c)
  holds_write =
      let r : Rest (after_write offset value k) (chip.after_write offset value c) = rest_wrote (offset == offsets.FCR) refl in
      record {
        model = r.model;
        flow = r.flow;
        switch = r.switch;
        latches = r.latches;
        fifo = r.fifo;
        sender = sender_wrote;
        waits = r.waits;
        looped = loop_wrote;
      }
