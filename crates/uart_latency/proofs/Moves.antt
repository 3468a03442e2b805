-- What accesses and events do to the receiver, while the FIFO is on, loopback is off and nobody resets the FIFO.
use Rattle.uart_latency.proofs.Names.{◌≡◌, ℕ, ◌+◌, ◌≤◌, ◌<◌, ◌==◌, ◌⊎◌, inl, inr, Bool, true, false, nat_lt, List, [], ◌∷◌, length, refl}
use Rattle.uart_latency.proofs.Names.{sym, ◌∙◌, ap, subst, arith, if◌then◌else◌, length-append, common_steps, has_any, characters, Access}
use Rattle.uart_latency.proofs.Names.{Read, Write, Character, Arrived, ChipState, is_loopback, is_held_off, is_dlab_set, interrupt}
use Rattle.uart_latency.proofs.Names.{is_thr_empty, tick, arrive, change_lines, after_read, after_write, cut_of, control_modem}
use Rattle.uart_latency.proofs.Names.{with_latches, origin_stands, kept_mcr, ReceiverState, take_front, report, grow_timeout, Drop}
use Rattle.uart_latency.proofs.Names.{drop_split, no_drop-set}
use Rattle.uart_events.specs.declared.event.ArrivalMark.TheVariants as marks
use Rattle.uart_spec.specs.declared.registers.modem_control.TheConstants.MCR
use Rattle.uart_spec.specs.declared.registers.offsets.TheConstants as offsets
use Rattle.uart_chip.specs.Receiver as receiver
use Rattle.uart_chip.specs.Transmitter as transmitter
use Rattle.uart_chip.specs.Transmitter.{looped_byte}
use Rattle.uart_chip.proofs.McrBits.{kept_bit}

-- ---- accesses that reset nothing

-- the access writes neither FCR nor LCR, and no loopback to MCR
abbrev pub IsTame : Access → Type 0
IsTame (Read offset value) = Unit {0}
IsTame (Write offset value) =
    ((offset == offsets.FCR) ≡ false)
    × ((offset == offsets.LCR) ≡ false)
    × ((offset == offsets.MCR) ≡ true → has_any value MCR.LOOP_BACK.0 ≡ false)

-- ---- no character comes

-- the marks and the missing flag stay
pub no_drop_same : (r s : ReceiverState) → s.marks ≡ r.marks → s.is_unscheduled_lost ≡ r.is_unscheduled_lost → Drop r s → ⊥
no_drop_same r s m l d = let h : origin_stands r.marks r.is_unscheduled_lost d.origin ≡ false = rw (m, l) at d.lost in cc (d.stood)

-- none came, and none was dropped
pub record IsStill (r s : ReceiverState) : Type 0 where
  pub arrived : s.arrived ≡ r.arrived
  pub fewer : length s.queue ≤ length r.queue
  pub size : s.size ≡ r.size
  pub trigger : s.trigger ≡ r.trigger
  pub whole : Drop r s → ⊥

still_same : (r s : ReceiverState) → s.arrived ≡ r.arrived → s.queue ≡ r.queue → s.marks ≡ r.marks →
    s.is_unscheduled_lost ≡ r.is_unscheduled_lost → s.size ≡ r.size → s.trigger ≡ r.trigger → IsStill r s
still_same r s arrived queue marks lost size trigger = record {
  arrived = arrived;
  fewer = rw queue (omega arith);
  size = size;
  trigger = trigger;
  whole = λ d. no_drop_same r s marks lost d;
}

-- so it is of a chip, whose FIFO, DLAB and loopback stay
pub record IsCalm (c d : ChipState) : Type 0 where
  pub fifo : d.fifo ≡ c.fifo
  pub dlab : is_dlab_set d.latches ≡ is_dlab_set c.latches
  pub loopback : is_loopback d.latches ≡ false
  pub still : IsStill c.receiver d.receiver

-- the receiver stays
calm_same : (c d : ChipState) → d.fifo ≡ c.fifo → is_dlab_set d.latches ≡ is_dlab_set c.latches → is_loopback d.latches ≡ false →
    d.receiver ≡ c.receiver → IsCalm c d
calm_same c d fifo dlab loopback same =
    let R : ReceiverState → Type 0 = λ s. IsStill c.receiver s in
    record {
      fifo = fifo;
      dlab = dlab;
      loopback = loopback;
      still = subst R (sym same) (still_same c.receiver c.receiver refl refl refl refl refl refl);
    }

calm_by : (c d : ChipState) → d.fifo ≡ c.fifo → is_dlab_set d.latches ≡ is_dlab_set c.latches → is_loopback d.latches ≡ false →
    IsStill c.receiver d.receiver → IsCalm c d
calm_by c d fifo dlab loopback still = record { fifo = fifo; dlab = dlab; loopback = loopback; still = still }

calm_if : (c d e : ChipState) (b : Bool) → IsCalm c d → IsCalm c e → IsCalm c (if b then d else e)
calm_if c d e true p q = p
calm_if c d e false p q = q

pub tick_is : (c : ChipState) → is_loopback c.latches ≡ false →
    tick c ≡ record c { transmitter = transmitter.tick false (is_held_off c) c.transmitter; receiver = grow_timeout c.receiver }
tick_is c e =
    ap (λ (b : Bool). record c {
      transmitter = transmitter.tick b (is_held_off c) c.transmitter;
      receiver = receiver.tick c.fifo (looped_byte b c.transmitter.shift_register) c.receiver;
    }) e

pub calm_tick : (c : ChipState) → is_loopback c.latches ≡ false → IsCalm c (tick c)
calm_tick c off =
    rw (tick_is c off) (calm_by c _ refl refl off (still_same c.receiver _ refl refl refl refl refl refl))

pub tick_keeps : (c : ChipState) → is_loopback c.latches ≡ false → length (tick c).receiver.queue ≡ length c.receiver.queue
tick_keeps c off = ap (λ (d : ChipState). length d.receiver.queue) (tick_is c off)

-- nothing, and two such stretches
pub calm_none : (c : ChipState) → is_loopback c.latches ≡ false → IsCalm c c
calm_none c off = calm_same c c refl refl off refl

pub calm_then : (c d e : ChipState) → IsCalm c d → IsCalm d e → IsCalm c e
calm_then c d e a b = record {
  fifo = b.fifo ∙ a.fifo;
  dlab = b.dlab ∙ a.dlab;
  loopback = b.loopback;
  still = record {
    arrived = b.still.arrived ∙ a.still.arrived;
    fewer = omega (arith, a.still.fewer, b.still.fewer);
    size = b.still.size ∙ a.still.size;
    trigger = b.still.trigger ∙ a.still.trigger;
    whole = λ drop. split (drop_split c.receiver d.receiver e.receiver drop);
  };
}
  where
    split : Drop c.receiver d.receiver ⊎ Drop d.receiver e.receiver → ⊥
    split (inl drop) = a.still.whole drop
    split (inr drop) = b.still.whole drop

pub calm_lines : (inputs : ℕ) (c : ChipState) → is_loopback c.latches ≡ false → IsCalm c (change_lines inputs c)
calm_lines inputs c off = calm_same c (change_lines inputs c) refl refl off refl

still_front : (s : ReceiverState) (queue : List Character) → s.queue ≡ queue → IsStill s (take_front queue s)
still_front s [] e = still_same s s refl refl refl refl refl refl
still_front s (front ∷ others) e = record {
  arrived = refl;
  fewer = rw e (omega arith);
  size = refl;
  trigger = refl;
  whole = λ d. no_drop-set s _ front.origin marks.Read (λ q. cc) refl refl d;
}

pub calm_read : (offset : ℕ) (c : ChipState) → is_loopback c.latches ≡ false → IsCalm c (after_read offset c)
calm_read offset c off =
    let same : IsCalm c c = calm_same c c refl refl off refl in
    calm_if c _ _ (offset == offsets.DATA)
    (calm_if c _ _ (is_dlab_set c.latches) same (calm_by c _ refl refl off (still_front c.receiver c.receiver.queue refl)))
    (calm_if c _ _ (offset == offsets.ISR) (calm_if c _ _ (is_thr_empty (interrupt c)) (calm_same c _ refl refl off refl) same)
    (calm_if c _ _ (offset == offsets.LSR)
    (calm_by c _ refl refl off (still_same c.receiver (report c.receiver) refl refl refl refl refl refl))
    (calm_if c _ _ (offset == offsets.MSR) (calm_same c _ refl refl off refl) same)))

pub calm_write : (offset value : ℕ) (c : ChipState) → IsTame (Write offset value) → is_loopback c.latches ≡ false →
    IsCalm c (after_write offset value c)
calm_write offset value c tame off =
    rw (tame.0, tame.1) (calm_if c _ _ (offset == offsets.DATA)
    (calm_if c _ _ (is_dlab_set c.latches) (calm_same c _ refl refl off refl) (calm_same c _ refl refl off refl))
    (calm_if c _ _ (offset == offsets.IER)
    (calm_if c _ _ (is_dlab_set c.latches) (calm_same c _ refl refl off refl) (calm_same c _ refl refl off refl))
    (controls (offset == offsets.MCR) refl)))
  where
    controls : (b : Bool) → (offset == offsets.MCR) ≡ b →
        IsCalm c (if b then control_modem (kept_mcr c.auto_flow value) c
        else if offset == offsets.SPR then with_latches (record c.latches { scr = value }) c else c)
    controls true e = calm_same c _ refl refl (kept_bit c.auto_flow 4 value refl refl ∙ tame.2 e) refl
    controls false e =
        calm_if c _ _ (offset == offsets.SPR) (calm_same c _ refl refl off refl) (calm_same c c refl refl off refl)

-- a read of DATA takes one character, if one waits
pub read_takes : (c : ChipState) → is_dlab_set c.latches ≡ false → 1 ≤ length c.receiver.queue →
    length (after_read offsets.DATA c).receiver.queue + 1 ≡ length c.receiver.queue
read_takes c off some = rw off (go c.receiver.queue refl)
  where
    go : (queue : List Character) → c.receiver.queue ≡ queue →
        length (take_front queue c.receiver).queue + 1 ≡ length c.receiver.queue
    go [] e = let none : length c.receiver.queue ≡ 0 = ap length e in absurd (omega (arith, none, some))
    go (front ∷ others) e = let all : length c.receiver.queue ≡ length (front ∷ others) = ap length e in omega (arith, all)

-- ---- a character comes

-- it is there if there was room for it
pub record Enters (r s : ReceiverState) : Type 0 where
  pub arrived : s.arrived ≡ r.arrived + 1
  pub size : s.size ≡ r.size
  pub trigger : s.trigger ≡ r.trigger
  pub fewer : length s.queue ≤ length r.queue + 1
  pub stays : length r.queue ≤ length s.queue
  pub whole : length r.queue < characters r.size → Drop r s → ⊥

enters : (r : ReceiverState) (byte errors : ℕ) → Enters r (receiver.arrive false true byte errors r)
enters r byte errors = go (nat_lt (length r.queue) (characters r.size)) refl
  where
    go : (b : Bool) → nat_lt (length r.queue) (characters r.size) ≡ b → Enters r (receiver.arrive false true byte errors r)
    go true e = rw e (record {
      arrived = refl;
      size = refl;
      trigger = refl;
      fewer = simp length-append (omega arith);
      stays = simp length-append (omega arith);
      whole = λ few d. no_drop-set r _ (Arrived r.arrived) marks.Waiting (λ q. cc) refl refl d;
    })
    go false e =
        let full : characters r.size ≤ length r.queue = grind (arith, common_steps) in
        rw e (record {
          arrived = refl;
          size = refl;
          trigger = refl;
          fewer = omega arith;
          stays = omega arith;
          whole = λ few d. omega (arith, few, full);
        })

pub arrives : (byte errors : ℕ) (c : ChipState) → c.fifo ≡ true → is_loopback c.latches ≡ false →
    Enters c.receiver (arrive byte errors c).receiver
arrives byte errors c on off =
    let cut = cut_of c byte in
    let same : receiver.arrive (is_loopback c.latches) c.fifo cut errors c.receiver ≡ receiver.arrive false true cut errors c.receiver =
    ap (λ (b : Bool). receiver.arrive b c.fifo cut errors c.receiver) off ∙
    ap (λ (b : Bool). receiver.arrive false b cut errors c.receiver) on in
    let P : ReceiverState → Type 0 = λ s. Enters c.receiver s in subst P (sym same) (enters c.receiver cut errors)
