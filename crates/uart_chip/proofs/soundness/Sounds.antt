-- Every event and every access leaves a machine sound.
use Rattle.std.proofs.Common.{◌≡◌, ℕ, zero, suc, ◌+◌, ◌*◌, ◌<◌, Bool, true, false, ◌==◌, nat_lt, List, [], ◌∷◌, length, Option, Some, None}
use Rattle.std.proofs.Common.{refl, arith, sym, ◌∙◌, ap, bit_and, zero-le, if◌then◌else◌}
use Rattle.std.proofs.lemmas.Grind.{common_steps}
use Rattle.uart_events.specs.declared.event.Chip.{Chip}
use Rattle.uart_events.specs.declared.event.Chip.TheVariants.{Uart16550A, Uart16450}
use Rattle.uart_events.specs.declared.event.Event.{Event}
use Rattle.uart_events.specs.declared.event.Event.TheVariants.{Ticks, Arrive, Lines, Access as Gate, Mark}
use Rattle.uart_spec.specs.Access.{Path}
use Rattle.uart_spec.specs.declared.access.Access.{Access}
use Rattle.uart_spec.specs.declared.access.Access.TheVariants.{Read, Write}
use Rattle.uart_spec.specs.Bits.{IsWithin, has_any}
use Rattle.uart_spec.specs.declared.registers.fifo_control.TheConstants.FCR
use Rattle.uart_spec.specs.declared.registers.line_status.TheConstants.LSR
use Rattle.uart_spec.specs.declared.registers.modem_status.TheConstants.MSR
use Rattle.uart_spec.specs.declared.registers.offsets.TheConstants as offsets
use Rattle.uart_chip.specs.Masks.{ier_bits, mcr_bits_of, kept_mcr}
use Rattle.uart_chip.specs.declared.transmitter.Shifting.{Shifting}
use Rattle.uart_chip.specs.Transmitter as transmitter
use Rattle.uart_chip.specs.Transmitter.{TransmitterState, looped_byte, load}
use Rattle.uart_chip.specs.Receiver as receiver
use Rattle.uart_chip.specs.Receiver.{ReceiverState, take_front, report, clear}
use Rattle.uart_chip.specs.Chip.{LatchesState, ChipState, cut_of, is_dlab_set, is_loopback, is_held_off, tick, ticks, arrive}
use Rattle.uart_chip.specs.Chip.{change_lines, interrupt}
use Rattle.uart_chip.specs.Chip.{is_thr_empty, after_read, after_write, trigger_level, switch, reset_receiver, reset_transmitter}
use Rattle.uart_chip.specs.Chip.{set_trigger, is_same, set_fifo, control, with_latches, enable, control_modem, with_size}
use Rattle.uart_chip.specs.Chip.{empty_queues, switched_size, is_switching, switch_size}
use Rattle.uart_spec.specs.declared.setup.FifoSize.{FifoSize}
use Rattle.uart_chip.specs.Machine.{MachineState, MachineStep, arrivals, perform, at_access, at_mark}
use Rattle.uart_chip.specs.Sound.{IsSoundTransmitter, IsSoundLatches, IsSoundChip, HoldBytes, AllLegal, IsSound, IsWhole}
use Rattle.uart_chip.proofs.McrBits.{kept_within}
use Rattle.uart_chip.proofs.soundness.Within.{within_and, within-le}
use Rattle.uart_chip.proofs.soundness.ReceiverSounds.{Safe, safe_tick, safe_arrive, safe_take_front, safe_clear, sound_report}
use Rattle.uart_chip.proofs.soundness.ReceiverSounds.{sound_trigger}
use Rattle.uart_chip.proofs.soundness.TransmitterSounds.{sound_tick as sound_shift_tick, sound_load, sound_clear, sound_pending}
use Rattle.uart_chip.proofs.AccessMoves.{ReadMove, stays, takes, acknowledges, looks, sees, read_move, WriteMove, ignores, sends}
use Rattle.uart_chip.proofs.AccessMoves.{enables, switches, resizes, clears, empties, triggers, steers, write_lasts}
use Rattle.uart_chip.proofs.soundness.TransmitterSounds.{sound_renew}

-- the chip is sound after a move, with the same number of arrivals, and as many to come
pub record Steady (arrived : ℕ) (c d : ChipState) : Type 0 where
  pub sound : IsSoundChip d
  pub number : d.receiver.arrived ≡ arrived
  pub known : length d.receiver.marks ≡ length c.receiver.marks

pub steady_if : (arrived : ℕ) (c x y : ChipState) (b : Bool) → Steady arrived c x → Steady arrived c y →
    Steady arrived c (if b then x else y)
steady_if arrived c x y true p q = p
steady_if arrived c x y false p q = q

pub steady_refl : (c : ChipState) → IsSoundChip c → Steady c.receiver.arrived c c
steady_refl c w = record { sound = w; number = refl; known = refl }

pub steady_trans : (arrived : ℕ) (c d e : ChipState) → Steady arrived c d → Steady d.receiver.arrived d e → Steady arrived c e
steady_trans arrived c d e p q = record { sound = q.sound; number = q.number ∙ p.number; known = q.known ∙ p.known }

-- ---- one part changes

-- the receiver
pub steady_receiver : (arrived : ℕ) (c : ChipState) (s : ReceiverState) → IsSoundChip c → Safe c.fifo arrived c.receiver s →
    Steady arrived c (record c { receiver = s })
steady_receiver arrived c s w a = record {
  sound = record {
    receiver = a.sound;
    transmitter = w.transmitter;
    modem = w.modem;
    latches = w.latches;
    sizes = a.size ∙ w.sizes;
    implemented = w.implemented;
    limit = a.limit ∙ w.limit;
  };
  number = a.number;
  known = a.known;
}

-- the transmitter
pub steady_transmitter : (c : ChipState) (t : TransmitterState) → IsSoundChip c → IsSoundTransmitter c.fifo t →
    t.char_ticks ≡ c.transmitter.char_ticks → t.size ≡ c.transmitter.size →
    Steady c.receiver.arrived c (record c { transmitter = t })
steady_transmitter c t w a e s = record {
  sound = record {
    receiver = w.receiver;
    transmitter = a;
    modem = w.modem;
    latches = w.latches;
    sizes = w.sizes ∙ sym s;
    implemented = w.implemented;
    limit = w.limit ∙ ap (λ n. 4 * n) (sym e);
  };
  number = refl;
  known = refl;
}

-- the latches
pub steady_latches : (c : ChipState) (l : LatchesState) → IsSoundChip c → IsSoundLatches c.auto_flow l →
    Steady c.receiver.arrived c (with_latches l c)
steady_latches c l w a = record {
  sound = record {
    receiver = w.receiver;
    transmitter = w.transmitter;
    modem = w.modem;
    latches = a;
    implemented = w.implemented;
    sizes = w.sizes;
    limit = w.limit;
  };
  number = refl;
  known = refl;
}

-- ---- events

-- a tick
char_ticks-shift : (loopback : Bool) (place : Option Shifting) (t : TransmitterState) →
    (transmitter.shift loopback place t).char_ticks ≡ t.char_ticks
char_ticks-shift loopback None t = refl
char_ticks-shift loopback (Some s) t =
    either _ _ (nat_lt 1 s.ticks_left) refl (either _ _ loopback refl (either _ _ (nat_lt (length t.wire) t.capacity) refl refl))
  where
    either : (x y : TransmitterState) (b : Bool) → x.char_ticks ≡ t.char_ticks → y.char_ticks ≡ t.char_ticks →
        (if b then x else y).char_ticks ≡ t.char_ticks
    either x y true p q = p
    either x y false p q = q

char_ticks-refill : (place : Option Shifting) (queue : List ℕ) (t : TransmitterState) →
    (transmitter.refill place queue t).char_ticks ≡ t.char_ticks
char_ticks-refill None (x ∷ []) t = refl
char_ticks-refill _ _ t = refl

pub char_ticks-tick : (loopback held_off : Bool) (t : TransmitterState) → (transmitter.tick loopback held_off t).char_ticks ≡ t.char_ticks
char_ticks-tick loopback true t = char_ticks-shift loopback t.shift_register t
char_ticks-tick loopback false t =
    let u : TransmitterState = transmitter.shift loopback t.shift_register t in
    char_ticks-refill u.shift_register u.queue u ∙ char_ticks-shift loopback t.shift_register t

-- the size stays
size_if : (t x y : TransmitterState) (b : Bool) → x.size ≡ t.size → y.size ≡ t.size → (if b then x else y).size ≡ t.size
size_if t x y true p q = p
size_if t x y false p q = q

pub size-load : (fifo : Bool) (byte : ℕ) (t : TransmitterState) → (load fifo byte t).size ≡ t.size
size-load fifo byte t = size_if t _ _ (nat_lt (length t.queue) (transmitter.room fifo t.size)) refl refl

size-shift : (loopback : Bool) (place : Option Shifting) (t : TransmitterState) → (transmitter.shift loopback place t).size ≡ t.size
size-shift loopback None t = refl
size-shift loopback (Some s) t =
    size_if t _ _ (nat_lt 1 s.ticks_left) refl
    (size_if t _ _ loopback refl (size_if t _ _ (nat_lt (length t.wire) t.capacity) refl refl))

size-refill : (place : Option Shifting) (queue : List ℕ) (t : TransmitterState) → (transmitter.refill place queue t).size ≡ t.size
size-refill None (x ∷ []) t = refl
size-refill _ _ t = refl

pub size-tick : (loopback held_off : Bool) (t : TransmitterState) → (transmitter.tick loopback held_off t).size ≡ t.size
size-tick loopback true t = size-shift loopback t.shift_register t
size-tick loopback false t =
    let u : TransmitterState = transmitter.shift loopback t.shift_register t in
    size-refill u.shift_register u.queue u ∙ size-shift loopback t.shift_register t

pub steady_tick : (c : ChipState) → IsSoundChip c → Steady c.receiver.arrived c (tick c)
steady_tick c w =
    let loopback : Bool = is_loopback c.latches in
    let looped : Option ℕ = looped_byte loopback c.transmitter.shift_register in
    let a : Steady c.receiver.arrived c (record c { receiver = receiver.tick c.fifo looped c.receiver }) =
    steady_receiver c.receiver.arrived c (receiver.tick c.fifo looped c.receiver) w (safe_tick c.fifo looped c.receiver w.receiver) in
    let b =
    steady_transmitter (record c { receiver = receiver.tick c.fifo looped c.receiver })
    (transmitter.tick loopback (is_held_off c) c.transmitter) a.sound
    (sound_shift_tick c.fifo loopback (is_held_off c) c.transmitter w.transmitter)
    (char_ticks-tick loopback (is_held_off c) c.transmitter) (size-tick loopback (is_held_off c) c.transmitter) in
    record { sound = b.sound; number = a.number; known = a.known }

pub steady_ticks : (n : ℕ) (c : ChipState) → IsSoundChip c → Steady c.receiver.arrived c (ticks n c)
steady_ticks zero c w = steady_refl c w
steady_ticks (suc n) c w =
    let a = steady_ticks n c w in steady_trans c.receiver.arrived c (ticks n c) (ticks (suc n) c) a (steady_tick (ticks n c) a.sound)

-- an arrival
pub steady_arrive : (byte errors : ℕ) (c : ChipState) → IsSoundChip c → c.receiver.arrived < length c.receiver.marks →
    IsWithin errors LSR.CHARACTER_ERRORS.0 →
    Steady (c.receiver.arrived + 1) c (arrive byte errors c)
steady_arrive byte errors c w k l =
    let loopback : Bool = is_loopback c.latches in
    steady_receiver (c.receiver.arrived + 1) c (receiver.arrive loopback c.fifo (cut_of c byte) errors c.receiver) w
    (safe_arrive loopback c.fifo c.receiver (cut_of c byte) errors w.receiver k l)

-- a change of the lines
pub steady_lines : (inputs : ℕ) (c : ChipState) → IsSoundChip c → IsWithin inputs MSR.LINES.0 →
    Steady c.receiver.arrived c (change_lines inputs c)
steady_lines inputs c w i = record {
  sound = record {
    receiver = w.receiver;
    transmitter = w.transmitter;
    modem = sound_renew c.latches.mcr inputs c.modem i w.modem;
    latches = w.latches;
    implemented = w.implemented;
    sizes = w.sizes;
    limit = w.limit;
  };
  number = refl;
  known = refl;
}

-- ---- reads

steady_unchanged : (c : ChipState) → IsSoundChip c → Steady c.receiver.arrived c (record c { modem = record c.modem { deltas = 0 } })
steady_unchanged c w = record {
  sound = record {
    receiver = w.receiver;
    transmitter = w.transmitter;
    modem = record { inputs = w.modem.inputs; lines = w.modem.lines; deltas = refl };
    latches = w.latches;
    implemented = w.implemented;
    sizes = w.sizes;
    limit = w.limit;
  };
  number = refl;
  known = refl;
}

steady_reads : (offset : ℕ) (c d : ChipState) → ReadMove offset c d → IsSoundChip c → Steady c.receiver.arrived c d
steady_reads offset c d (stays e) w = steady_refl c w
steady_reads offset c d (takes e q) w = steady_receiver c.receiver.arrived c _ w (safe_take_front c.fifo c.receiver w.receiver)
steady_reads offset c d (acknowledges e) w = steady_transmitter c _ w (sound_pending c.fifo false c.transmitter w.transmitter) refl refl
steady_reads offset c d (looks e) w =
    steady_receiver c.receiver.arrived c _ w
    (record { sound = sound_report c.fifo c.receiver w.receiver; number = refl; known = refl; limit = refl; size = refl })
steady_reads offset c d (sees e) w = steady_unchanged c w

pub steady_read : (offset : ℕ) (c : ChipState) → IsSoundChip c → Steady c.receiver.arrived c (after_read offset c)
steady_read offset c w = steady_reads offset c _ (read_move offset c) w

-- ---- the FIFO control register

pub steady_switch : (on : Bool) (c : ChipState) → IsSoundChip c → c.model ≡ Uart16550A → Steady c.receiver.arrived c (switch on c)
steady_switch on c w has_fifo =
    let a = safe_clear c.fifo on c.receiver w.receiver in
    record {
      sound = record {
        receiver = a.sound;
        transmitter = sound_clear c.fifo on c.transmitter.is_thr_pending c.transmitter w.transmitter;
        modem = w.modem;
        latches = w.latches;
        sizes = a.size ∙ w.sizes;
        implemented = λ e. has_fifo;
        limit = a.limit ∙ w.limit;
      };
      number = a.number;
      known = a.known;
    }

-- nothing waits then, so there is room for it whatever the size
pub steady_resize : (size : FifoSize) (c : ChipState) → IsSoundChip c →
    Steady c.receiver.arrived c (with_size size (empty_queues c))
steady_resize size c w =
    let a = safe_clear c.fifo c.fifo c.receiver w.receiver in
    let m = a.sound.marked in
    let t = w.transmitter in
    record {
      sound = record {
        receiver = record {
          marked = record { wait = tt; distinct = tt; to_come = m.to_come; in_room = zero-le; counted = m.counted };
          settled = a.sound.settled;
          no_other = a.sound.no_other;
          legal = tt;
          idle = a.sound.idle;
        };
        transmitter = record {
          in_room = zero-le;
          ticking = t.ticking;
          at_least_one = t.at_least_one;
          at_most = t.at_most;
          on_wire = t.on_wire;
        };
        modem = w.modem;
        latches = w.latches;
        sizes = refl;
        implemented = w.implemented;
        limit = a.limit ∙ w.limit;
      };
      number = a.number;
      known = a.known;
    }

-- ---- writes

steady_enable : (value : ℕ) (c : ChipState) → IsSoundChip c → Steady c.receiver.arrived c (enable value c)
steady_enable value c w = record {
  sound = record {
    receiver = w.receiver;
    transmitter = sound_pending c.fifo _ c.transmitter w.transmitter;
    modem = w.modem;
    latches = record { ier = within_and value ier_bits; mcr = w.latches.mcr };
    implemented = w.implemented;
    sizes = w.sizes;
    limit = w.limit;
  };
  number = refl;
  known = refl;
}

steady_modem_control : (value : ℕ) (c : ChipState) → IsSoundChip c →
    Steady c.receiver.arrived c (control_modem (kept_mcr c.auto_flow value) c)
steady_modem_control value c w = record {
  sound = record {
    receiver = w.receiver;
    transmitter = w.transmitter;
    modem = sound_renew (kept_mcr c.auto_flow value) c.modem.inputs c.modem w.modem.inputs w.modem;
    latches = record { ier = w.latches.ier; mcr = kept_within c.auto_flow value };
    implemented = w.implemented;
    sizes = w.sizes;
    limit = w.limit;
  };
  number = refl;
  known = refl;
}

kept_latches : (c : ChipState) (l : LatchesState) → IsSoundChip c → l.ier ≡ c.latches.ier → l.mcr ≡ c.latches.mcr →
    Steady c.receiver.arrived c (with_latches l c)
kept_latches c l w p q = steady_latches c l w (record { ier = rw p w.latches.ier; mcr = rw q w.latches.mcr })

char_ticks-load : (fifo : Bool) (byte : ℕ) (t : TransmitterState) → (load fifo byte t).char_ticks ≡ t.char_ticks
char_ticks-load fifo byte t = either _ _ (nat_lt (length t.queue) (transmitter.room fifo t.size)) refl refl
  where
    either : (x y : TransmitterState) (b : Bool) → x.char_ticks ≡ t.char_ticks → y.char_ticks ≡ t.char_ticks →
        (if b then x else y).char_ticks ≡ t.char_ticks
    either x y true p q = p
    either x y false p q = q

steady_writes : (offset value : ℕ) (c d : ChipState) → WriteMove offset value c d → IsSoundChip c → Steady c.receiver.arrived c d
steady_writes offset value c d (ignores e) w = steady_refl c w
steady_writes offset value c d (sends e q) w =
    steady_transmitter c (load c.fifo (cut_of c value) c.transmitter) w
    (sound_load c.fifo (cut_of c value) c.transmitter w.transmitter) (char_ticks-load c.fifo (cut_of c value) c.transmitter)
    (size-load c.fifo (cut_of c value) c.transmitter)
steady_writes offset value c d (enables e q) w = steady_enable value c w
steady_writes offset value c d (switches e has_fifo on) w = steady_switch on c w has_fifo
steady_writes offset value c d (resizes e s) w = steady_resize (switched_size value) c w
steady_writes offset value c d (clears e) w = steady_receiver c.receiver.arrived c _ w (safe_clear c.fifo c.fifo c.receiver w.receiver)
steady_writes offset value c d (empties e) w =
    steady_transmitter c _ w (sound_clear c.fifo c.fifo true c.transmitter w.transmitter) refl refl
steady_writes offset value c d (triggers e level) w =
    steady_receiver c.receiver.arrived c _ w
    (record { sound = sound_trigger c.fifo c.receiver level w.receiver; number = refl; known = refl; limit = refl; size = refl })
steady_writes offset value c d (steers e) w = steady_modem_control value c w
steady_writes offset value c d _ w = kept_latches c _ w refl refl

pub steady_write : (offset value : ℕ) (c : ChipState) → IsSoundChip c → Steady c.receiver.arrived c (after_write offset value c)
steady_write offset value c w =
    let n : ℕ = c.receiver.arrived in
    write_lasts (Steady n c) offset value (λ d e m p. steady_trans n c d e p (steady_writes offset value d e m p.sound)) c (steady_refl c w)

-- ---- the machine

-- a move that brings no arrival
sound_steady : (c d : ChipState) (events : List Event) → Steady c.receiver.arrived c d →
    c.receiver.arrived + arrivals events ≡ length c.receiver.marks → AllLegal events →
    IsSound (record { chip = d; ahead = events })
sound_steady c d events s f l = record { chip = s.sound; foreseen = omega (arith, s.number, s.known, f); legal = l }

-- one event is performed
pub sound_perform : (event : Event) (events : List Event) (c : ChipState) → IsSound (record { chip = c; ahead = event ∷ events }) →
    IsSound (record { chip = perform event c; ahead = events })
sound_perform (Ticks n) events c w = sound_steady c (ticks n c) events (steady_ticks n c w.chip) w.foreseen w.legal.1
sound_perform (Arrive byte errors) events c w =
    let within : c.receiver.arrived < length c.receiver.marks = omega (arith, w.foreseen) in
    let a = steady_arrive byte errors c w.chip within w.legal.0 in
    record { chip = a.sound; foreseen = omega (arith, a.number, a.known, w.foreseen); legal = w.legal.1 }
sound_perform (Lines inputs) events c w =
    sound_steady c (change_lines inputs c) events (steady_lines inputs c w.chip w.legal.0) w.foreseen w.legal.1
sound_perform _ events c w = record { chip = w.chip; foreseen = w.foreseen; legal = w.legal.1 }

pub sound_tick : (events : List Event) (c : ChipState) → IsSound (record { chip = c; ahead = events }) →
    IsSound (record { chip = tick c; ahead = events })
sound_tick events c w = sound_steady c (tick c) events (steady_tick c w.chip) w.foreseen w.legal

-- an access performs the events before it
pub sound_before : (events : List Event) (c : ChipState) → IsSound (record { chip = c; ahead = events }) →
    IsSound (at_access (record { chip = c; ahead = events }))
sound_before [] c w = sound_tick [] c w
sound_before (Gate ∷ events) c w = sound_perform Gate events c w
sound_before (Mark ∷ events) c w = sound_tick (Mark ∷ events) c w
sound_before (event ∷ events) c w = sound_before events (perform event c) (sound_perform event events c w)

pub sound_access : (m : MachineState) → IsSound m → IsSound (at_access m)
sound_access m w = sound_before m.ahead m.chip (record { chip = w.chip; foreseen = w.foreseen; legal = w.legal })

-- the events up to the next Mark are performed
pub sound_before_mark : (events : List Event) (c : ChipState) → IsSound (record { chip = c; ahead = events }) →
    IsSound (at_mark (record { chip = c; ahead = events }))
sound_before_mark [] c w = w
sound_before_mark (Mark ∷ events) c w = sound_perform Mark events c w
sound_before_mark (event ∷ events) c w = sound_before_mark events (perform event c) (sound_perform event events c w)

pub sound_mark : (m : MachineState) → IsSound m → IsSound (at_mark m)
sound_mark m w = sound_before_mark m.ahead m.chip (record { chip = w.chip; foreseen = w.foreseen; legal = w.legal })

pub sound_read : (offset : ℕ) (m : MachineState) → IsSound m → IsSound (record m { chip = after_read offset m.chip })
sound_read offset m w = sound_steady m.chip (after_read offset m.chip) m.ahead (steady_read offset m.chip w.chip) w.foreseen w.legal

pub sound_write : (offset value : ℕ) (m : MachineState) → IsSound m → IsSound (record m { chip = after_write offset value m.chip })
sound_write offset value m w =
    sound_steady m.chip (after_write offset value m.chip) m.ahead (steady_write offset value m.chip w.chip) w.foreseen w.legal

-- one access, and a list of them
pub sound_step : (m n : MachineState) (access : Access) → IsSound m → MachineStep m access n → IsSound n
sound_step m n (Read offset answer) w s = rw s.0 (sound_read offset (at_access m) (sound_access m w))
sound_step m n (Write offset value) w s = rw s (sound_write offset value (at_access m) (sound_access m w))

pub sound_path : (accesses : List Access) (m n : MachineState) → IsSound m → Path MachineStep m accesses n → IsSound n
sound_path [] m n w p = rw p w
sound_path (access ∷ accesses) m n w p = sound_path accesses p.0 n (sound_step m p.0 access w p.1) p.2

-- ---- the latches hold bytes

pub latches-ticks : (n : ℕ) (c : ChipState) → (ticks n c).latches ≡ c.latches
latches-ticks zero c = refl
latches-ticks (suc n) c = latches-ticks n c

pub latches-perform : (event : Event) (c : ChipState) → (perform event c).latches ≡ c.latches
latches-perform (Ticks n) c = latches-ticks n c
latches-perform _ c = refl

latches_if : (c x y : ChipState) (b : Bool) → x.latches ≡ c.latches → y.latches ≡ c.latches → (if b then x else y).latches ≡ c.latches
latches_if c x y true p q = p
latches_if c x y false p q = q

pub latches-read : (offset : ℕ) (c : ChipState) → (after_read offset c).latches ≡ c.latches
latches-read offset c =
    latches_if c _ _ (offset == offsets.DATA) (latches_if c _ _ (is_dlab_set c.latches) refl refl)
    (latches_if c _ _ (offset == offsets.ISR) (latches_if c _ _ (is_thr_empty (interrupt c)) refl refl)
    (latches_if c _ _ (offset == offsets.LSR) refl (latches_if c _ _ (offset == offsets.MSR) refl refl)))

latches-fifo : (value : ℕ) (c : ChipState) → (set_fifo value c).latches ≡ c.latches
latches-fifo value c =
    let on : Bool = has_any value FCR.FIFO_ENABLE.0 in
    let d : ChipState = if is_same c.fifo on then c else switch on c in
    let a : d.latches ≡ c.latches = latches_if c c (switch on c) (is_same c.fifo on) refl refl in
    let s : ChipState = switch_size value d in
    let h : s.latches ≡ d.latches =
    latches_if d (with_size (switched_size value) (empty_queues d)) d (is_switching value d) refl refl in
    let e : ChipState = reset_receiver value s in
    let b : e.latches ≡ s.latches =
    latches_if s (record s { receiver = clear s.receiver }) s (has_any value FCR.RX_FIFO_RESET.0) refl refl in
    let f : ChipState = reset_transmitter value e in
    let g : f.latches ≡ e.latches =
    latches_if e (record e { transmitter = record e.transmitter { queue = []; is_thr_pending = true } }) e
    (has_any value FCR.TX_FIFO_RESET.0) refl refl in
    latches_if c (set_trigger (trigger_level value) f) d on (g ∙ (b ∙ (h ∙ a))) a

pub latches-control : (model : Chip) (value : ℕ) (c : ChipState) → (control model value c).latches ≡ c.latches
latches-control Uart16450 value c = refl
latches-control Uart16550A value c = latches-fifo value c

bytes_if : (x y : ChipState) (b : Bool) → HoldBytes x.latches → HoldBytes y.latches → HoldBytes (if b then x else y).latches
bytes_if x y true p q = p
bytes_if x y false p q = q

bytes_same : (l k : LatchesState) → k ≡ l → HoldBytes l → HoldBytes k
bytes_same l k e w = rw e w

bytes-write : (offset value : ℕ) (c : ChipState) → value < 256 → HoldBytes c.latches → HoldBytes (after_write offset value c).latches
bytes-write offset value c v w =
    bytes_if _ _ (offset == offsets.DATA)
    (bytes_if _ _ (is_dlab_set c.latches) (record { ier = w.ier; lcr = w.lcr; mcr = w.mcr; scr = w.scr; dll = v; dlm = w.dlm }) w)
    (bytes_if _ _ (offset == offsets.IER)
    (bytes_if _ _ (is_dlab_set c.latches) (record { ier = w.ier; lcr = w.lcr; mcr = w.mcr; scr = w.scr; dll = w.dll; dlm = v })
    (record { ier = below value ier_bits refl; lcr = w.lcr; mcr = w.mcr; scr = w.scr; dll = w.dll; dlm = w.dlm }))
    (bytes_if _ _ (offset == offsets.FCR) (bytes_same c.latches (control c.model value c).latches (latches-control c.model value c) w)
    (bytes_if _ _ (offset == offsets.LCR) (record { ier = w.ier; lcr = v; mcr = w.mcr; scr = w.scr; dll = w.dll; dlm = w.dlm })
    (bytes_if _ _ (offset == offsets.MCR)
    (record { ier = w.ier; lcr = w.lcr; mcr = below-kept c.auto_flow; scr = w.scr; dll = w.dll; dlm = w.dlm })
    (bytes_if _ _ (offset == offsets.SPR) (record { ier = w.ier; lcr = w.lcr; mcr = w.mcr; scr = v; dll = w.dll; dlm = w.dlm }) w)))))
  where
    below-kept : (auto_flow : Bool) → kept_mcr auto_flow value < 256
    below-kept true = let h = within-le (kept_mcr true value) (mcr_bits_of true) (kept_within true value) in omega (arith, h)
    below-kept false = let h = within-le (kept_mcr false value) (mcr_bits_of false) (kept_within false value) in omega (arith, h)

    below : (value mask : ℕ) → nat_lt mask 256 ≡ true → bit_and value mask < 256
    below value mask e =
        let few : mask < 256 = grind (arith, common_steps) in
        let h = within-le (bit_and value mask) mask (within_and value mask) in omega (arith, few, h)

-- ---- what holds of every machine

pub whole_perform : (event : Event) (events : List Event) (c : ChipState) → IsWhole (record { chip = c; ahead = event ∷ events }) →
    IsWhole (record { chip = perform event c; ahead = events })
whole_perform event events c w =
    record {
      sound = sound_perform event events c w.sound;
      bytes = bytes_same c.latches (perform event c).latches (latches-perform event c) w.bytes;
    }

pub whole_tick : (events : List Event) (c : ChipState) → IsWhole (record { chip = c; ahead = events }) →
    IsWhole (record { chip = tick c; ahead = events })
whole_tick events c w = record { sound = sound_tick events c w.sound; bytes = w.bytes }

pub whole_read : (offset : ℕ) (m : MachineState) → IsWhole m → IsWhole (record m { chip = after_read offset m.chip })
whole_read offset m w =
    record {
      sound = sound_read offset m w.sound;
      bytes = bytes_same m.chip.latches (after_read offset m.chip).latches (latches-read offset m.chip) w.bytes;
    }

pub whole_write : (offset value : ℕ) (m : MachineState) → value < 256 → IsWhole m →
    IsWhole (record m { chip = after_write offset value m.chip })
whole_write offset value m v w = record { sound = sound_write offset value m w.sound; bytes = bytes-write offset value m.chip v w.bytes }
