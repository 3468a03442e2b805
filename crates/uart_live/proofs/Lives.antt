-- Whatever is done with a live chip, it stays live.
use Rattle.std.proofs.Common.{◌≡◌, ℕ, zero, suc, ◌≤◌, ◌<◌, Bool, true, false, not, ◌&&◌, nat_lt, nat_le, List, [], ◌∷◌, length}
use Rattle.std.proofs.Common.{Option, Some, None, is_some, drop, refl, arith, sym, ◌∙◌, if◌then◌else◌}
use Rattle.std.proofs.lemmas.Grind.{common_steps}
use Rattle.std.proofs.lemmas.List.{length-drop}
use Rattle.uart_events.specs.declared.event.BuildError.TheVariants.{BadTicks, BadWire}
use Rattle.uart_events.specs.declared.event.Chip.{Chip}
use Rattle.uart_events.specs.declared.event.Event.TheVariants.{Lines}
use Rattle.uart_events.specs.declared.event.TheConstants.{MAX_CHAR_TICKS, MAX_WIRE_CAPACITY}
use Rattle.uart_chip.specs.declared.receiver.Character.{Character}
use Rattle.uart_chip.specs.declared.receiver.Origin.TheVariants.{Looped, Live}
use Rattle.uart_chip.specs.declared.transmitter.Shifting.{Shifting}
use Rattle.uart_events.specs.Build.{refusal}
use Rattle.uart_spec.specs.Bits.{IsWithin, has_any}
use Rattle.uart_chip.specs.Transmitter as transmitter
use Rattle.uart_chip.specs.Transmitter.{TransmitterState, room, looped_byte}
use Rattle.uart_chip.specs.Receiver as receiver
use Rattle.uart_chip.specs.Receiver.{ReceiverState, is_unscheduled, enter, replace, come_back, take_front}
use Rattle.uart_chip.specs.Chip.{ChipState, fresh, with_size, cut_of, is_loopback, is_held_off, ticks, arrive_live, take_wire, change_lines}
use Rattle.uart_chip.specs.Chip.{after_read, after_write}
use Rattle.uart_chip.specs.Sound.{IsWhole}
use Rattle.uart_chip.proofs.soundness.Builds.{whole_sized}
use Rattle.uart_chip.proofs.soundness.Idle.{whole_ticks}
use Rattle.uart_chip.proofs.soundness.ReceiverSounds.{safe_bring, safe_take_front}
use Rattle.uart_chip.proofs.soundness.Sounds.{Steady, steady_ticks, steady_lines, steady_read, steady_write, steady_receiver}
use Rattle.uart_chip.proofs.soundness.Sounds.{steady_transmitter, whole_perform, whole_read, whole_write}
use Rattle.uart_spec.specs.declared.setup.FifoSize.{FifoSize}
use Rattle.uart_spec.specs.declared.registers.interrupt_type.InterruptType.{InterruptType}
use Rattle.uart_spec.specs.declared.registers.interrupt_type.InterruptType.TheVariants.{ReceiverLineStatus}
use Rattle.uart_spec.specs.declared.registers.interrupt_status.TheConstants.ISR
use Rattle.uart_spec.specs.declared.registers.line_status.TheConstants.LSR
use Rattle.uart_spec.specs.declared.registers.modem_status.TheConstants.MSR
use Rattle.uart_live.specs.declared.fixed.TheConstants.{WIRE_ROOM}
use Rattle.uart_live.specs.declared.errors.ChipError.TheVariants as ChipError
use Rattle.uart_live.specs.Held.{is_due, expire, arrive_holding}
use Rattle.uart_live.specs.Live.{IsLive}
use Rattle.uart_live.specs.Refused as live
use Rattle.uart_live.specs.Size.{fifo_size, is_size}
use Rattle.uart_live.specs.declared.errors.ChipError.{ChipError as ChipErrorOf}
use Rattle.uart_spec.specs.FifoSize.{characters}
use Rattle.std.proofs.lemmas.Bool.{eqb-true}
use Rattle.uart_chip.proofs.AccessMoves.{both_if, ReadMove, takes, read_move, WriteMove, sends, resizes, write_lasts}
use Rattle.uart_chip.proofs.FifoBits.{isr_of}
use Rattle.uart_chip.proofs.Switching.{lacking-keeps}

-- ---- none is lost unseen

-- no unscheduled character was lost since the last one came
abbrev pub NoneLost : ReceiverState → Type 0
NoneLost r = r.is_unscheduled_lost ≡ false

none_lost-replace : (queue : List Character) (new : Character) (r : ReceiverState) → is_unscheduled new.origin ≡ true → NoneLost r →
    NoneLost (replace queue new r)
none_lost-replace [] new r s h = h
none_lost-replace (old ∷ others) new r s h = rw s refl

pub none_lost-enter : (fifo : Bool) (new : Character) (r : ReceiverState) → is_unscheduled new.origin ≡ true → NoneLost r →
    NoneLost (enter fifo new r)
none_lost-enter fifo new r s h =
    both_if NoneLost _ _ (nat_lt (length r.queue) (room fifo r.size)) (rw s refl)
    (both_if NoneLost _ _ fifo (rw s refl) (none_lost-replace r.queue new r s h))

none_lost-come_back : (fifo : Bool) (byte : Option ℕ) (r : ReceiverState) → NoneLost r → NoneLost (come_back fifo byte r)
none_lost-come_back fifo None r h = h
none_lost-come_back fifo (Some byte) r h = none_lost-enter fifo (record { byte = byte; errors = 0; origin = Looped }) r refl h

none_lost-arrival : (loopback fifo : Bool) (byte errors : ℕ) (r : ReceiverState) → NoneLost r →
    NoneLost (receiver.arrive_live loopback fifo byte errors r)
none_lost-arrival true fifo byte errors r h = h
none_lost-arrival false fifo byte errors r h =
    none_lost-enter fifo (record { byte = byte; errors = errors; origin = Live }) r refl h

none_lost-take : (queue : List Character) (r : ReceiverState) → NoneLost r → NoneLost (take_front queue r)
none_lost-take [] r h = h
none_lost-take (front ∷ others) r h = h

-- ---- the room of the wire and of the FIFO

abbrev pub HasRoom : FifoSize → TransmitterState → Type 0
HasRoom size t = (t.capacity ≤ MAX_WIRE_CAPACITY) × (t.size ≡ size)

room-shift : (size : FifoSize) (loopback : Bool) (place : Option Shifting) (t : TransmitterState) → HasRoom size t →
    HasRoom size (transmitter.shift loopback place t)
room-shift size loopback None t h = h
room-shift size loopback (Some s) t h =
    both_if (HasRoom size) _ _ (nat_lt 1 s.ticks_left) h
    (both_if (HasRoom size) _ _ loopback h (both_if (HasRoom size) _ _ (nat_lt (length t.wire) t.capacity) h h))

room-refill : (size : FifoSize) (place : Option Shifting) (queue : List ℕ) (t : TransmitterState) → HasRoom size t →
    HasRoom size (transmitter.refill place queue t)
room-refill size None (x ∷ []) t h = h
room-refill size _ _ t h = h

room-tick : (size : FifoSize) (loopback held_off : Bool) (t : TransmitterState) → HasRoom size t →
    HasRoom size (transmitter.tick loopback held_off t)
room-tick size loopback true t h = room-shift size loopback t.shift_register t h
room-tick size loopback false t h =
    let u : TransmitterState = transmitter.shift loopback t.shift_register t in
    room-refill size u.shift_register u.queue u (room-shift size loopback t.shift_register t h)

-- ---- both, of the chip

abbrev pub Keeps : FifoSize → ChipState → Type 0
Keeps size c = NoneLost c.receiver × (HasRoom size c.transmitter × ((c.auto_flow ≡ false) × (c.has_size_switch ≡ false)))

keeps-ticks : (size : FifoSize) (n : ℕ) (c : ChipState) → Keeps size c → Keeps size (ticks n c)
keeps-ticks size zero c k = k
keeps-ticks size (suc n) c k =
    let d : ChipState = ticks n c in
    let w = keeps-ticks size n c k in (
      none_lost-come_back d.fifo (looped_byte (is_loopback d.latches) d.transmitter.shift_register) d.receiver w.0,
      (room-tick size (is_loopback d.latches) (is_held_off d) d.transmitter w.1.0, w.1.1),
    )

keeps-reads : (size : FifoSize) (offset : ℕ) (c d : ChipState) → ReadMove offset c d → Keeps size c → Keeps size d
keeps-reads size offset c d (takes p q) k = (none_lost-take c.receiver.queue c.receiver k.0, k.1)
keeps-reads size offset c d _ k = k

keeps-read : (size : FifoSize) (offset : ℕ) (c : ChipState) → Keeps size c → Keeps size (after_read offset c)
keeps-read size offset c k = keeps-reads size offset c _ (read_move offset c) k

-- the size has no switch, so no write of FCR changes it
keeps-writes : (size : FifoSize) (offset value : ℕ) (c d : ChipState) → WriteMove offset value c d → Keeps size c → Keeps size d
keeps-writes size offset value c d (sends p q) k =
    let t : TransmitterState = c.transmitter in
    (k.0, (both_if (HasRoom size) _ _ (nat_lt (length t.queue) (room c.fifo t.size)) k.1.0 k.1.0, k.1.1))
keeps-writes size offset value c d (resizes e s) k = let no : true ≡ false = sym s ∙ lacking-keeps value c k.1.1.1 in absurd (cc)
keeps-writes size offset value c d _ k = k

keeps-write : (size : FifoSize) (offset value : ℕ) (c : ChipState) → Keeps size c → Keeps size (after_write offset value c)
keeps-write size offset value c k = write_lasts (Keeps size) offset value (keeps-writes size offset value) c k

-- ---- the chip stays live

live-steady : {size : FifoSize} (c d : ChipState) → IsLive size c → Steady c.receiver.arrived c d →
    IsWhole (record { chip = d; ahead = [] }) → Keeps size d → IsLive size d
live-steady c d w s whole k =
    record {
      whole = whole;
      no_marks = s.known ∙ w.no_marks;
      none_lost = k.0;
      room = k.1.0.0;
      size = k.1.0.1;
      flow = k.1.1.0;
      switch = k.1.1.1;
    }

pub live-read : {size : FifoSize} (offset : ℕ) (c : ChipState) → IsLive size c → IsLive size (after_read offset c)
live-read offset c w =
    live-steady c _ w (steady_read offset c w.whole.sound.chip) (whole_read offset (record { chip = c; ahead = [] }) w.whole)
    (keeps-read _ offset c (w.none_lost, ((w.room, w.size), (w.flow, w.switch))))

pub live-write : {size : FifoSize} (offset value : ℕ) (c : ChipState) → value < 256 → IsLive size c →
    IsLive size (after_write offset value c)
live-write offset value c v w =
    live-steady c _ w (steady_write offset value c w.whole.sound.chip) (whole_write offset value
    (record { chip = c; ahead = [] }) v w.whole)
    (keeps-write _ offset value c (w.none_lost, ((w.room, w.size), (w.flow, w.switch))))

pub live-ticks : {size : FifoSize} (n : ℕ) (c : ChipState) → IsLive size c → IsLive size (ticks n c)
live-ticks n c w =
    live-steady c _ w (steady_ticks n c w.whole.sound.chip) (whole_ticks n c (ticks n c) [] refl w.whole)
    (keeps-ticks _ n c (w.none_lost, ((w.room, w.size), (w.flow, w.switch))))

pub live-lines : {size : FifoSize} (inputs : ℕ) (c : ChipState) → IsWithin inputs MSR.LINES.0 → IsLive size c →
    IsLive size (change_lines inputs c)
live-lines inputs c i w =
    live-steady c _ w (steady_lines inputs c w.whole.sound.chip i)
    (whole_perform (Lines inputs) [] c (record {
      sound = record { chip = w.whole.sound.chip; foreseen = w.whole.sound.foreseen; legal = (i, tt) };
      bytes = w.whole.bytes;
    }))
    (w.none_lost, ((w.room, w.size), (w.flow, w.switch)))

-- a move of one part that leaves the latches alone
pub live-part : {size : FifoSize} (c d : ChipState) → IsLive size c → Steady c.receiver.arrived c d → d.latches ≡ c.latches → Keeps size d →
    IsLive size d
live-part c d w s l k =
    live-steady c d w s
    (record {
      sound = record { chip = s.sound; foreseen = omega (arith, s.number, s.known, w.whole.sound.foreseen); legal = tt };
      bytes = rw l w.whole.bytes;
    })
    k

-- the front is taken, as a read of DATA takes it outside of DLAB
pub live-front : {size : FifoSize} (c : ChipState) → IsLive size c →
    IsLive size (record c { receiver = take_front c.receiver.queue c.receiver })
live-front c w =
    live-part c (record c { receiver = take_front c.receiver.queue c.receiver }) w
    (steady_receiver c.receiver.arrived c (take_front c.receiver.queue c.receiver) w.whole.sound.chip
    (safe_take_front c.fifo c.receiver w.whole.sound.chip.receiver)) refl
    (none_lost-take c.receiver.queue c.receiver w.none_lost, ((w.room, w.size), (w.flow, w.switch)))

pub live-arrival : {size : FifoSize} (byte errors : ℕ) (c : ChipState) → IsWithin errors LSR.CHARACTER_ERRORS.0 → IsLive size c →
    IsLive size (arrive_live byte errors c)
live-arrival byte errors c l w =
    let loopback : Bool = is_loopback c.latches in
    live-part c (arrive_live byte errors c) w
    (steady_receiver c.receiver.arrived c (receiver.arrive_live loopback c.fifo (cut_of c byte) errors c.receiver) w.whole.sound.chip
    (safe_bring loopback c.fifo c.receiver (cut_of c byte) errors w.whole.sound.chip.receiver l)) refl
    (none_lost-arrival loopback c.fifo (cut_of c byte) errors c.receiver w.none_lost, ((w.room, w.size), (w.flow, w.switch)))

pub live-expire : {size : FifoSize} (c : ChipState) → IsLive size c → IsLive size (expire c)
live-expire c w =
    let r = w.whole.sound.chip.receiver in
    live-part c (expire c) w
    (steady_receiver c.receiver.arrived c (expire c).receiver w.whole.sound.chip (record {
      sound = record {
        marked = record {
          wait = r.marked.wait;
          distinct = r.marked.distinct;
          to_come = r.marked.to_come;
          in_room = r.marked.in_room;
          counted = r.marked.counted;
        };
        settled = r.settled;
        no_other = r.no_other;
        legal = r.legal;
        idle = omega arith;
      };
      number = refl;
      known = refl;
      limit = refl;
      size = refl;
    })) refl
    (w.none_lost, ((w.room, w.size), (w.flow, w.switch)))

pub live-hold : {size : FifoSize} (byte errors : ℕ) (c : ChipState) → IsWithin errors LSR.CHARACTER_ERRORS.0 → IsLive size c →
    IsLive size (arrive_holding byte errors c)
live-hold byte errors c l w =
    let after = live-arrival byte errors c l w in
    both_if (IsLive _) (expire (arrive_live byte errors c)) (arrive_live byte errors c) (is_due c)
    (live-expire (arrive_live byte errors c) after) after

pub live-take : {size : FifoSize} (count : ℕ) (c : ChipState) → IsLive size c → IsLive size (take_wire count c)
live-take count c w =
    let t = w.whole.sound.chip.transmitter in
    let fewer : length (drop count c.transmitter.wire) ≤ c.transmitter.capacity =
    rw (length-drop count c.transmitter.wire) (omega (arith, t.on_wire)) in
    live-part c (take_wire count c) w
    (steady_transmitter c (transmitter.take_wire count c.transmitter) w.whole.sound.chip
    (record { in_room = t.in_room; ticking = t.ticking; at_least_one = t.at_least_one; at_most = t.at_most; on_wire = fewer })
    refl refl) refl
    (w.none_lost, ((w.room, w.size), (w.flow, w.switch)))

-- ---- a new chip

within_room : (char_ticks capacity : ℕ) → refusal char_ticks capacity [] ≡ None → capacity ≤ MAX_WIRE_CAPACITY
within_room char_ticks capacity e =
    go (not (nat_le 1 char_ticks && nat_le char_ticks MAX_CHAR_TICKS)) (nat_lt MAX_WIRE_CAPACITY capacity) refl e
  where
    go : (bad wide : Bool) → nat_lt MAX_WIRE_CAPACITY capacity ≡ wide →
        (if bad then Some BadTicks else if wide then Some BadWire else None) ≡ None → capacity ≤ MAX_WIRE_CAPACITY
    go true wide w e = absurd (cc)
    go false true w e = absurd (cc)
    go false false w e = grind (arith, common_steps)

-- what a live chip is made of, a machine could be made of
pub passes : (fifo char_ticks capacity : ℕ) → live.refusal fifo char_ticks capacity ≡ None → refusal char_ticks capacity [] ≡ None
passes fifo char_ticks capacity e =
    go (not (is_size fifo)) (not (nat_le 1 char_ticks && nat_le char_ticks MAX_CHAR_TICKS)) (nat_lt MAX_WIRE_CAPACITY capacity)
    (nat_lt WIRE_ROOM capacity) refl refl e
  where
    go : (odd bad wide full : Bool) → nat_lt MAX_WIRE_CAPACITY capacity ≡ wide → nat_lt WIRE_ROOM capacity ≡ full →
        (if odd then Some ChipError.BadFifo
        else if bad then Some ChipError.BadTicks else if full then Some ChipError.BadWire else None) ≡ None →
        (if bad then Some BadTicks else if wide then Some BadWire else None) ≡ None
    go true bad wide full w f e = absurd (cc)
    go false true wide full w f e = absurd (cc)
    go false false wide true w f e = absurd (cc)
    go false false true false w f e = absurd (grind (arith, common_steps))
    go false false false false w f e = refl

-- its FIFOs are of a size
pub sized : (fifo char_ticks capacity : ℕ) → live.refusal fifo char_ticks capacity ≡ None → characters (fifo_size fifo) ≡ fifo
sized fifo char_ticks capacity e = go (is_size fifo) refl e
  where
    rest : Option ChipErrorOf
    rest =
        if not (nat_le 1 char_ticks && nat_le char_ticks MAX_CHAR_TICKS) then Some ChipError.BadTicks
        else if nat_lt WIRE_ROOM capacity then Some ChipError.BadWire
        else None

    go : (b : Bool) → is_size fifo ≡ b → (if not b then Some ChipError.BadFifo else rest) ≡ None → characters (fifo_size fifo) ≡ fifo
    go true s e = eqb-true (characters (fifo_size fifo)) fifo s
    go false s e = absurd (cc)

-- a character takes no more ticks than it may
pub few_ticks : (fifo char_ticks capacity : ℕ) → live.refusal fifo char_ticks capacity ≡ None → char_ticks ≤ MAX_CHAR_TICKS
few_ticks fifo char_ticks capacity e =
    go (is_size fifo) (nat_le 1 char_ticks) (nat_le char_ticks MAX_CHAR_TICKS) refl (nat_lt WIRE_ROOM capacity) e
  where
    go : (a b d : Bool) → nat_le char_ticks MAX_CHAR_TICKS ≡ d → (w : Bool) →
        (if not a then Some ChipError.BadFifo
        else if not (b && d) then Some ChipError.BadTicks else if w then Some ChipError.BadWire else None) ≡ None →
        char_ticks ≤ MAX_CHAR_TICKS
    go true true true p w e = grind (arith, common_steps)
    go false b d p w e = absurd (cc)
    go true false d p w e = absurd (cc)
    go true true false p w e = absurd (cc)

pub live-fresh : (chip : Chip) (size : FifoSize) (char_ticks capacity : ℕ) → refusal char_ticks capacity [] ≡ None →
    IsLive size (with_size size (fresh chip char_ticks capacity 0))
live-fresh chip size char_ticks capacity e =
    record {
      whole = whole_sized chip size char_ticks capacity false [] e;
      no_marks = refl;
      none_lost = refl;
      room = within_room char_ticks capacity e;
      size = refl;
      flow = refl;
      switch = refl;
    }

-- ---- the interrupt line

-- ISR shows by its lowest bit that no interrupt is pending
pub shows-interrupt : (pending : Option InterruptType) (fifo holds_64 : Bool) →
    is_some pending ≡ not (has_any (isr_of fifo holds_64 pending) ISR.INTERRUPT_STATUS.0)
shows-interrupt (Some ReceiverLineStatus) true true = refl
shows-interrupt (Some ReceiverLineStatus) true false = refl
shows-interrupt (Some ReceiverLineStatus) false _ = refl
shows-interrupt _ true true = refl
shows-interrupt _ true false = refl
shows-interrupt _ false _ = refl
