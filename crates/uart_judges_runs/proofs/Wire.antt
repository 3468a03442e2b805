-- In loopback nothing goes onto the wire.
use Rattle.std.proofs.Common.{◌≡◌, ℕ, Bool, true, false, ◌==◌, List, [], ◌∷◌, Option, Some, None, refl, ◌∙◌, ap, nat_lt, if◌then◌else◌}
use Rattle.std.specs.List.{AllByRecursion}
use Rattle.std.proofs.Common.{length}
use Rattle.uart_spec.specs.Access.{Path}
use Rattle.uart_spec.specs.declared.access.Access.{Access}
use Rattle.uart_spec.specs.declared.access.Access.TheVariants.{Read, Write}
use Rattle.uart_spec.specs.Bits.{has_any}
use Rattle.uart_spec.specs.declared.registers.modem_control.TheConstants.MCR
use Rattle.uart_spec.specs.declared.registers.offsets.TheConstants as offsets
use Rattle.uart_events.specs.declared.event.Chip.{Chip}
use Rattle.uart_events.specs.declared.event.Chip.TheVariants.{Uart16550A, Uart16450}
use Rattle.uart_chip.specs.declared.transmitter.Shifting.{Shifting}
use Rattle.uart_chip.specs.Chip.{ChipState, after_write, cut_of, is_dlab_set, is_loopback, with_latches, write_data, is_held_off}
use Rattle.uart_chip.specs.Machine.{MachineState, MachineStep, at_access}
use Rattle.uart_chip.specs.Transmitter.{TransmitterState, load, refill, room, shift, tick}
use Rattle.uart_chip.proofs.lasting.Lasting.{LastsInAccesses, LastsInEvents, chip_lasts-before, lasts-read, lasts-write}
use Rattle.uart_run.proofs.Latches.{Kept, keep, keep_control, kept_in, kept_step}
use Rattle.uart_judges.proofs.LatchesHold.{by_number}
use Rattle.uart_judges_runs.specs.Lost.{LeavesModem, StaysOnWire}

wire_if : (t u v : TransmitterState) (b : Bool) → u.wire ≡ t.wire → v.wire ≡ t.wire → (if b then u else v).wire ≡ t.wire
wire_if t u v true p q = p
wire_if t u v false p q = q

-- ---- a tick

wire_shift : (loopback : Bool) (place : Option Shifting) (t : TransmitterState) → loopback ≡ true → (shift loopback place t).wire ≡ t.wire
wire_shift true None t e = refl
wire_shift true (Some s) t e = wire_if t _ _ (nat_lt 1 s.ticks_left) refl refl
wire_shift false place t e = absurd (cc)

wire_refill : (place : Option Shifting) (queue : List ℕ) (t : TransmitterState) → (refill place queue t).wire ≡ t.wire
wire_refill None (x ∷ []) t = refl
wire_refill _ _ t = refl

wire_tick : (loopback held_off : Bool) (t : TransmitterState) → loopback ≡ true → (tick loopback held_off t).wire ≡ t.wire
wire_tick loopback true t e = wire_shift loopback t.shift_register t e
wire_tick loopback false t e =
    let u : TransmitterState = shift loopback t.shift_register t in
    wire_refill u.shift_register u.queue u ∙ wire_shift loopback t.shift_register t e

-- loopback is on, and this is on the wire
record IsInside (wire : List ℕ) (c : ChipState) : Type 0 where
  pub loops : is_loopback c.latches ≡ true
  pub same : c.transmitter.wire ≡ wire

inside_lasts : (wire : List ℕ) → LastsInEvents (IsInside wire)
inside_lasts wire = record {
  in_tick = λ c i. record { loops = i.loops; same = wire_tick (is_loopback c.latches) (is_held_off c) c.transmitter i.loops ∙ i.same };
  in_arrival = λ byte errors c i. record { loops = i.loops; same = i.same };
  in_lines = λ inputs c i. record { loops = i.loops; same = i.same };
}

-- ---- an access

wire_accesses : (wire : List ℕ) → LastsInAccesses (λ t. t.wire ≡ wire)
wire_accesses wire = record { pending = λ t pending h. h; cleared = λ t pending h. h; resized = λ t size h. h }

wire_load : (fifo : Bool) (byte : ℕ) (t : TransmitterState) → (load fifo byte t).wire ≡ t.wire
wire_load fifo byte t = wire_if t _ _ (nat_lt (length t.queue) (room fifo t.size)) refl refl

wire_data : (c : ChipState) (value : ℕ) → (write_data value c).transmitter.wire ≡ c.transmitter.wire
wire_data c value = go (is_dlab_set c.latches)
  where
    go : (b : Bool) →
        (if b then with_latches (record c.latches { dll = value }) c else record c
        { transmitter = load c.fifo (cut_of c value) c.transmitter }).transmitter.wire ≡ c.transmitter.wire
    go true = refl
    go false = wire_load c.fifo (cut_of c value) c.transmitter

wire_write : (wire : List ℕ) (c : ChipState) (offset value : ℕ) → c.transmitter.wire ≡ wire →
    (after_write offset value c).transmitter.wire ≡ wire
wire_write wire c offset value e = go (offset == offsets.DATA) refl
  where
    go : (b : Bool) → (offset == offsets.DATA) ≡ b → (after_write offset value c).transmitter.wire ≡ wire
    go true i = by_number (λ n. (after_write n value c).transmitter.wire ≡ wire) offset offsets.DATA i (wire_data c value ∙ e)
    go false i = lasts-write (λ t. t.wire ≡ wire) (wire_accesses wire) offset value c i e

mcr_if : (k x y : Kept) (b : Bool) → x.latches.mcr ≡ k.latches.mcr → y.latches.mcr ≡ k.latches.mcr →
    (if b then x else y).latches.mcr ≡ k.latches.mcr
mcr_if k x y true p q = p
mcr_if k x y false p q = q

mcr_control : (model : Chip) (value : ℕ) (k : Kept) → (keep_control model value k).latches.mcr ≡ k.latches.mcr
mcr_control Uart16450 value k = refl
mcr_control Uart16550A value k = refl

mcr_kept : (access : Access) (k : Kept) → LeavesModem access → (keep access k).latches.mcr ≡ k.latches.mcr
mcr_kept (Read offset value) k i = refl
mcr_kept (Write offset value) k i =
    rw i (mcr_if k _ _ (offset == offsets.DATA) (mcr_if k _ _ (is_dlab_set k.latches) refl refl)
    (mcr_if k _ _ (offset == offsets.IER) (mcr_if k _ _ (is_dlab_set k.latches) refl refl)
    (mcr_if k _ _ (offset == offsets.FCR) (mcr_control k.model value k)
    (mcr_if k _ _ (offset == offsets.LCR) refl (mcr_if k _ _ (offset == offsets.SPR) refl refl)))))

wire_step : (wire : List ℕ) (access : Access) (m n : MachineState) → MachineStep m access n → (at_access m).chip.transmitter.wire ≡ wire →
    n.chip.transmitter.wire ≡ wire
wire_step wire (Read offset value) m n s e =
    ap (λ (n : MachineState). n.chip.transmitter.wire) s.0 ∙
    lasts-read (λ t. t.wire ≡ wire) (wire_accesses wire) offset (at_access m).chip e
wire_step wire (Write offset value) m n s e =
    ap (λ (n : MachineState). n.chip.transmitter.wire) s ∙ wire_write wire (at_access m).chip offset value e

inside_step : (wire : List ℕ) (access : Access) (m n : MachineState) → LeavesModem access → MachineStep m access n → IsInside wire m.chip →
    IsInside wire n.chip
inside_step wire access m n leaves s i =
    let here : IsInside wire (at_access m).chip = chip_lasts-before (IsInside wire) (inside_lasts wire) m.ahead m.chip i in
    record {
      loops =
          ap (λ (k : Kept). is_loopback k.latches) (kept_step access m n s) ∙
          (ap (λ (mcr : ℕ). has_any mcr MCR.LOOP_BACK.0) (mcr_kept access (kept_in m.chip) leaves) ∙ i.loops);
      same = wire_step wire access m n s here.same;
    }

pub stays_inside : (wire : List ℕ) (m : MachineState) → is_loopback m.chip.latches ≡ true → m.chip.transmitter.wire ≡ wire →
    StaysOnWire wire m
stays_inside wire m loops same accesses n leave path = go accesses m (record { loops = loops; same = same }) leave path
  where
    go : (accesses : List Access) (m : MachineState) → IsInside wire m.chip → AllByRecursion LeavesModem accesses →
        Path MachineStep m accesses n → n.chip.transmitter.wire ≡ wire
    go [] m i leave path = ap (λ (n : MachineState). n.chip.transmitter.wire) path ∙ i.same
    go (access ∷ accesses) m i leave path =
        go accesses path.0 (inside_step wire access m path.0 leave.0 path.1 i) leave.1 path.2
