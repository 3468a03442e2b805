-- What remains after a size was found: the transmitter stays empty, so what is received is what arrives.
use Rattle.uart_run.proofs.Names.{◌≡◌, ◌≢◌, ℕ, ◌+◌, ◌≤◌, Bool, true, false, nat_lt, List, [], ◌∷◌, length, Option, Some, None, refl, arith}
use Rattle.uart_run.proofs.Names.{sym, ◌∙◌, ap, subst, AllByRecursion, Path, Access, Read, Write, FifoTriggerLevel, One, has_any, fifo_bits}
use Rattle.uart_run.proofs.Names.{Chip, Uart16550A, Character, Arrived, Shifting, looped_byte, room, ReceiverState, enter, come_back}
use Rattle.uart_run.proofs.Names.{take_front, replace, ChipState, is_loopback, is_held_off, tick, is_same, set_fifo, control, trigger_level}
use Rattle.uart_run.proofs.Names.{switch, is_switching, switch_size, reset_receiver, reset_transmitter, set_trigger, MachineState}
use Rattle.uart_run.proofs.Names.{MachineStep, at_access, ReadMove, takes, acknowledges, read_move, WriteMove, sends, enables, switches}
use Rattle.uart_run.proofs.Names.{resizes, clears, empties, triggers, write_move, write_lasts, each-append, LastsInEvents}
use Rattle.uart_run.proofs.Names.{chip_lasts-before, IsSince, ArrivedSince}
use Rattle.uart_spec.specs.declared.registers.fifo_control.TheConstants.FCR
use Rattle.uart_spec.specs.declared.registers.offsets.TheConstants as offsets
use Rattle.uart_chip.specs.Receiver as receiver
use Rattle.uart_run.proofs.{EmptyTransmitter.IsSent, EmptyTransmitter.sent_tick, Latches.Kept, Latches.kept_access, sizing.Staying.sets_on}
use Rattle.uart_run.proofs.{sizing.Staying.resets, sizing.Staying.emptied, sizing.Staying.reset_written}

-- ---- how many have arrived

arrived_replaced : (queue : List Character) (new : Character) (r : ReceiverState) → (replace queue new r).arrived ≡ r.arrived
arrived_replaced [] new r = refl
arrived_replaced (old ∷ others) new r = refl

arrived_entered : (fifo : Bool) (new : Character) (r : ReceiverState) → (enter fifo new r).arrived ≡ r.arrived
arrived_entered fifo new r = go (nat_lt (length r.queue) (room fifo r.size)) refl
  where
    full : (on : Bool) → nat_lt (length r.queue) (room on r.size) ≡ false → (enter on new r).arrived ≡ r.arrived
    full true e = rw e refl
    full false e = rw e (arrived_replaced r.queue new r)

    go : (b : Bool) → nat_lt (length r.queue) (room fifo r.size) ≡ b → (enter fifo new r).arrived ≡ r.arrived
    go true e = rw e refl
    go false e = full fifo e

arrived_back : (fifo : Bool) (byte : Option ℕ) (r : ReceiverState) → (come_back fifo byte r).arrived ≡ r.arrived
arrived_back fifo None r = refl
arrived_back fifo (Some byte) r = arrived_entered fifo _ r

arrived_taken : (queue : List Character) (r : ReceiverState) → (take_front queue r).arrived ≡ r.arrived
arrived_taken [] r = refl
arrived_taken (front ∷ others) r = refl

module _ (start : ℕ) where
  -- so many have arrived
  abbrev HasCome : ChipState → Type 0
  HasCome c = start ≤ c.receiver.arrived

  come_arrival : (loopback fifo : Bool) (byte errors : ℕ) (r : ReceiverState) → start ≤ r.arrived →
      start ≤ (receiver.arrive loopback fifo byte errors r).arrived
  come_arrival true fifo byte errors r h = omega (arith, h)
  come_arrival false fifo byte errors r h =
      let e = arrived_entered fifo (record { byte = byte; errors = errors; origin = Arrived r.arrived })
      (record r { arrived = r.arrived + 1 }) in
      omega (arith, e, h)

  come_events : LastsInEvents HasCome
  come_events = record {
    in_tick = λ c h.
        let e = arrived_back c.fifo (looped_byte (is_loopback c.latches) c.transmitter.shift_register) c.receiver in omega (arith, e, h);
    in_arrival = λ byte errors c h. come_arrival (is_loopback c.latches) c.fifo _ errors c.receiver h;
    in_lines = λ inputs c h. h;
  }

  come_reads : (offset : ℕ) (c d : ChipState) → ReadMove offset c d → HasCome c → HasCome d
  come_reads offset c d (takes e q) h = let f = arrived_taken c.receiver.queue c.receiver in omega (arith, f, h)
  come_reads offset c d _ h = h

  come_writes : (offset value : ℕ) (c d : ChipState) → WriteMove offset value c d → HasCome c → HasCome d
  come_writes offset value c d (resizes e s) h = h
  come_writes offset value c d (clears e) h = h
  come_writes offset value c d _ h = h

  pub come_path : (made : List Access) (m n : MachineState) → start ≤ m.chip.receiver.arrived → Path MachineStep m made n →
      start ≤ n.chip.receiver.arrived
  come_path [] m n h path = rw path h
  come_path (Read offset value ∷ made) m n h (mid, step, rest) =
      let c = (at_access m).chip in
      come_path made mid n
      (rw step.0 (come_reads offset c _ (read_move offset c) (chip_lasts-before HasCome come_events m.ahead m.chip h))) rest
  come_path (Write offset value ∷ made) m n h (mid, step, rest) =
      let c = (at_access m).chip in
      come_path made mid n
      (rw step
      (write_lasts HasCome offset value (come_writes offset value) c (chip_lasts-before HasCome come_events m.ahead m.chip h))) rest

-- ---- what remains in the receiver

-- the receiver has this level, and what waits has arrived since then
pub record Remains (level : FifoTriggerLevel) (start : ℕ) (r : ReceiverState) : Type 0 where
  pub trigger : r.trigger ≡ level
  pub waits : ArrivedSince start r.queue
  pub number : start ≤ r.arrived

module _ (level : FifoTriggerLevel) (start : ℕ) where
  remains_full : (fifo : Bool) (new : Character) (r : ReceiverState) (queue : List Character) → r.queue ≡ queue →
      nat_lt (length r.queue) (room fifo r.size) ≡ false → IsSince start new.origin → Remains level start r →
      Remains level start (enter fifo new r)
  remains_full true new r queue q e since w = rw e (record { trigger = w.trigger; waits = w.waits; number = w.number })
  remains_full false new r [] q e since w = let g : nat_lt 0 1 ≡ false = rw q at e in absurd (cc)
  remains_full false new r (old ∷ others) q e since w =
      rw (e, q) (record { trigger = w.trigger; waits = (since, tt); number = w.number })

  remains_entered : (fifo : Bool) (new : Character) (r : ReceiverState) → IsSince start new.origin → Remains level start r →
      Remains level start (enter fifo new r)
  remains_entered fifo new r since w = go (nat_lt (length r.queue) (room fifo r.size)) refl
    where
      go : (b : Bool) → nat_lt (length r.queue) (room fifo r.size) ≡ b → Remains level start (enter fifo new r)
      go true e =
          let P : Character → Type 0 = λ character. IsSince start character.origin in
          rw e (record { trigger = w.trigger; waits = each-append P r.queue (new ∷ []) w.waits (since, tt); number = w.number })
      go false e = remains_full fifo new r r.queue refl e since w

  remains_arrival : (loopback fifo : Bool) (byte errors : ℕ) (r : ReceiverState) → Remains level start r →
      Remains level start (receiver.arrive loopback fifo byte errors r)
  remains_arrival true fifo byte errors r w =
      record { trigger = w.trigger; waits = w.waits; number = let h = w.number in omega (arith, h) }
  remains_arrival false fifo byte errors r w =
      remains_entered fifo (record { byte = byte; errors = errors; origin = Arrived r.arrived }) (record r { arrived = r.arrived + 1 })
      w.number (record { trigger = w.trigger; waits = w.waits; number = let h = w.number in omega (arith, h) })

  remains_taken : (queue : List Character) (r : ReceiverState) → r.queue ≡ queue → Remains level start r →
      Remains level start (take_front queue r)
  remains_taken [] r q w = w
  remains_taken (front ∷ others) r q w =
      let all : ArrivedSince start (front ∷ others) = rw q at w.waits in
      record { trigger = w.trigger; waits = all.1; number = w.number }

-- ---- with an empty transmitter

nothing_looped : (loopback : Bool) (place : Option Shifting) → place ≡ None → looped_byte loopback place ≡ None
nothing_looped true None e = refl
nothing_looped true (Some s) e = absurd (cc)
nothing_looped false place e = refl

module _ (level : FifoTriggerLevel) (start : ℕ) (gone : List ℕ) where
  -- the transmitter is empty, and so this remains
  abbrev pub IsReset : ChipState → Type 0
  IsReset c = IsSent gone c.transmitter × Remains level start c.receiver

  reset_tick : (c : ChipState) → IsReset c → IsReset (tick c)
  reset_tick c w =
      let none = nothing_looped (is_loopback c.latches) c.transmitter.shift_register w.0.place in
      let r = c.receiver in
      let still : Remains level start (receiver.tick c.fifo None r) =
      record { trigger = w.1.trigger; waits = w.1.waits; number = w.1.number } in (
        sent_tick gone (is_loopback c.latches) (is_held_off c) c.transmitter w.0,
        subst (λ (byte : Option ℕ). Remains level start (receiver.tick c.fifo byte r)) (sym none) still,
      )

  reset_events : LastsInEvents IsReset
  reset_events = record {
    in_tick = λ c w. reset_tick c w;
    in_arrival = λ byte errors c w. (w.0, remains_arrival level start (is_loopback c.latches) c.fifo _ errors c.receiver w.1);
    in_lines = λ inputs c w. w;
  }

  reset_reads : (offset : ℕ) (c d : ChipState) → ReadMove offset c d → IsReset c → IsReset d
  reset_reads offset c d (takes e q) w = (w.0, remains_taken level start c.receiver.queue c.receiver refl w.1)
  reset_reads offset c d (acknowledges e) w = (record { queue = w.0.queue; place = w.0.place; wire = w.0.wire }, w.1)
  reset_reads offset c d _ w = (w.0, record { trigger = w.1.trigger; waits = w.1.waits; number = w.1.number })

  reset_writes : (offset value : ℕ) → offset ≢ offsets.DATA → offset ≢ offsets.FCR → (c d : ChipState) → WriteMove offset value c d →
      IsReset c → IsReset d
  reset_writes offset value sent set c d (sends e q) w = absurd (sent e)
  reset_writes offset value sent set c d (enables e q) w = (record { queue = w.0.queue; place = w.0.place; wire = w.0.wire }, w.1)
  reset_writes offset value sent set c d (switches e m on) w = absurd (set e)
  reset_writes offset value sent set c d (resizes e s) w = absurd (set e)
  reset_writes offset value sent set c d (clears e) w = absurd (set e)
  reset_writes offset value sent set c d (empties e) w = absurd (set e)
  reset_writes offset value sent set c d (triggers e l) w = absurd (set e)
  reset_writes offset value sent set c d _ w = w

  -- an access that sends nothing and sets no FIFO
  abbrev IsCalm : Access → Type 0
  IsCalm (Read offset value) = Unit {0}
  IsCalm (Write offset value) = (offset ≢ offsets.DATA) × (offset ≢ offsets.FCR)

  -- only such accesses
  abbrev pub AllCalm : List Access → Type 0
  AllCalm accesses = AllByRecursion IsCalm accesses

  pub reset_path : (made : List Access) (m n : MachineState) → AllCalm made → IsReset m.chip → Path MachineStep m made n → IsReset n.chip
  reset_path [] m n calm w path = rw path w
  reset_path (Read offset value ∷ made) m n calm w (mid, step, rest) =
      let c = (at_access m).chip in
      reset_path made mid n calm.1
      (rw step.0 (reset_reads offset c _ (read_move offset c) (chip_lasts-before IsReset reset_events m.ahead m.chip w))) rest
  reset_path (Write offset value ∷ made) m n calm w (mid, step, rest) =
      let c = (at_access m).chip in
      reset_path made mid n calm.1
      (rw step
      (reset_writes offset value calm.0.0 calm.0.1 c _ (write_move offset value c calm.0.1)
      (chip_lasts-before IsReset reset_events m.ahead m.chip w))) rest

-- ---- the reset

resets_receiver : (level : FifoTriggerLevel) → has_any (fifo_bits (Some level)) FCR.RX_FIFO_RESET.0 ≡ true
resets_receiver One = refl
resets_receiver _ = refl

sets_level : (level : FifoTriggerLevel) → trigger_level (fifo_bits (Some level)) ≡ level
sets_level One = refl
sets_level _ = refl

set_remains : (level : FifoTriggerLevel) (start value : ℕ) (c : ChipState) → has_any value FCR.FIFO_ENABLE.0 ≡ true →
    has_any value FCR.TX_FIFO_RESET.0 ≡ true → has_any value FCR.RX_FIFO_RESET.0 ≡ true → trigger_level value ≡ level →
    start ≤ c.receiver.arrived → Remains level start (set_fifo value c).receiver
set_remains level start value c on sending receiving is_level come = go (is_same c.fifo true) refl
  where
    -- whether the size is switched or not
    sized : (d : ChipState) → start ≤ d.receiver.arrived → (b : Bool) → is_switching value d ≡ b →
        Remains level start
        (set_trigger (trigger_level value) (reset_transmitter value (reset_receiver value (switch_size value d)))).receiver
    sized d since true f = rw (f, receiving, sending) (record { trigger = is_level; waits = tt; number = since })
    sized d since false f = rw (f, receiving, sending) (record { trigger = is_level; waits = tt; number = since })

    go : (b : Bool) → is_same c.fifo true ≡ b → Remains level start (set_fifo value c).receiver
    go true f = rw (on, f) (sized c come (is_switching value c) refl)
    go false f = rw (on, f) (sized (switch true c) come (is_switching value (switch true c)) refl)

-- an empty transmitter, and so many that have arrived
abbrev IsSentAt : (start : ℕ) (gone : List ℕ) → ChipState → Type 0
IsSentAt start gone c = IsSent gone c.transmitter × (start ≤ c.receiver.arrived)

sent_events : (start : ℕ) (gone : List ℕ) → LastsInEvents (IsSentAt start gone)
sent_events start gone = record {
  in_tick = λ c w. (sent_tick gone (is_loopback c.latches) (is_held_off c) c.transmitter w.0, (come_events start).in_tick c w.1);
  in_arrival = λ byte errors c w. (w.0, (come_events start).in_arrival byte errors c w.1);
  in_lines = λ inputs c w. w;
}

pub reset_at : (level : FifoTriggerLevel) (start : ℕ) (gone : List ℕ) (m n : MachineState) → m.chip.model ≡ Uart16550A →
    IsSent gone m.chip.transmitter → start ≤ m.chip.receiver.arrived → MachineStep m (Write offsets.FCR (fifo_bits (Some level))) n →
    IsReset level start gone n.chip
reset_at level start gone m n model sent come step =
    let c = (at_access m).chip in
    let w = chip_lasts-before (IsSentAt start gone) (sent_events start gone) m.ahead m.chip (sent, come) in
    let same : c.model ≡ Uart16550A = ap (λ (k : Kept). k.model) (kept_access m) ∙ model in
    let e = reset_written level c.model c same in
    let gone_out : IsSent gone (emptied e.0 c.transmitter) = record { queue = refl; place = w.0.place; wire = w.0.wire } in
    let R : Chip → Type 0 = λ chip. Remains level start (control chip (fifo_bits (Some level)) c).receiver in
    let remains = set_remains level start (fifo_bits (Some level)) c (sets_on level) (resets level) (resets_receiver level)
    (sets_level level) w.1 in
    rw step (subst (IsSent gone) (sym e.1) gone_out, subst R (sym same) remains)
