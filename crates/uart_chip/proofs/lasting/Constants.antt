-- No event and no access changes how long a character takes, or how much the wire takes. And none changes the size of the FIFOs, but a
-- write of FCR that switches it.
use Rattle.std.proofs.Common.{◌≡◌, ℕ, Bool, true, false, ◌==◌, nat_lt, List, [], ◌∷◌, length, Option, Some, None, refl, if◌then◌else◌}
use Rattle.uart_spec.specs.Access.{Path}
use Rattle.uart_spec.specs.declared.access.Access.{Access}
use Rattle.uart_spec.specs.declared.access.Access.TheVariants.{Read, Write}
use Rattle.uart_spec.specs.declared.registers.offsets.TheConstants as offsets
use Rattle.uart_chip.specs.declared.transmitter.Shifting.{Shifting}
use Rattle.uart_chip.specs.Transmitter.{TransmitterState, shift, refill, tick, load, room}
use Rattle.uart_chip.specs.Chip.{ChipState, cut_of, is_dlab_set, after_write, ticks}
use Rattle.uart_chip.specs.Machine.{MachineState, MachineStep, at_access, at_mark}
use Rattle.uart_chip.proofs.lasting.Lasting.{Lasts, lasts-read, lasts-write, lasts-before, lasts-ticks, lasts-before_mark}

-- the two are of one make
pub record SamePace (t u : TransmitterState) : Type 0 where
  pub capacity : u.capacity ≡ t.capacity
  pub char_ticks : u.char_ticks ≡ t.char_ticks

module _ (t : TransmitterState) where
  one_of : (u v : TransmitterState) (b : Bool) → SamePace t u → SamePace t v → SamePace t (if b then u else v)
  one_of u v true p q = p
  one_of u v false p q = q

  shift-pace : (loopback : Bool) (place : Option Shifting) (u : TransmitterState) → SamePace t u → SamePace t (shift loopback place u)
  shift-pace loopback None u p = p
  shift-pace loopback (Some s) u p =
      let placed : (place : Option Shifting) → SamePace t (record u { shift_register = place }) =
      λ place. record { capacity = p.capacity; char_ticks = p.char_ticks } in
      one_of _ _ (nat_lt 1 s.ticks_left) (placed _)
      (one_of _ _ loopback (placed None)
      (one_of _ _ (nat_lt (length u.wire) u.capacity) (record { capacity = p.capacity; char_ticks = p.char_ticks }) p))

  refill-pace : (place : Option Shifting) (queue : List ℕ) (u : TransmitterState) → SamePace t u → SamePace t (refill place queue u)
  refill-pace (Some s) queue u p = p
  refill-pace None [] u p = p
  refill-pace None (x ∷ []) u p = record { capacity = p.capacity; char_ticks = p.char_ticks }
  refill-pace None (x ∷ y ∷ xs) u p = record { capacity = p.capacity; char_ticks = p.char_ticks }

  pace_lasts : Lasts (SamePace t)
  pace_lasts = record {
    in_accesses = record {
      pending = λ u pending p. record { capacity = p.capacity; char_ticks = p.char_ticks };
      cleared = λ u pending p. record { capacity = p.capacity; char_ticks = p.char_ticks };
      resized = λ u size p. record { capacity = p.capacity; char_ticks = p.char_ticks };
    };
    in_tick =
        λ loopback held_off u p. let v : TransmitterState = shift loopback u.shift_register u in
        let q : SamePace t v = shift-pace loopback u.shift_register u p in
        one_of _ _ held_off q (refill-pace v.shift_register v.queue v q);
  }

  load-pace : (fifo : Bool) (byte : ℕ) (u : TransmitterState) → SamePace t u → SamePace t (load fifo byte u)
  load-pace fifo byte u p =
      one_of _ _ (nat_lt (length u.queue) (room fifo u.size)) (record { capacity = p.capacity; char_ticks = p.char_ticks })
      (record { capacity = p.capacity; char_ticks = p.char_ticks })

  write-pace : (offset value : ℕ) (c : ChipState) → SamePace t c.transmitter → SamePace t (after_write offset value c).transmitter
  write-pace offset value c p = go (offset == offsets.DATA) refl
    where
      go : (b : Bool) → (offset == offsets.DATA) ≡ b → SamePace t (after_write offset value c).transmitter
      go false e = lasts-write (SamePace t) pace_lasts.in_accesses offset value c e p
      go true e = rw e (latched (is_dlab_set c.latches))
        where
          latched : (b : Bool) →
              SamePace t
              (if b then record c { latches = record c.latches { dll = value } }
              else record c { transmitter = load c.fifo (cut_of c value) c.transmitter }).transmitter
          latched true = p
          latched false = load-pace c.fifo (cut_of c value) c.transmitter p

  pub same_pace-path : (made : List Access) (m n : MachineState) → SamePace t m.chip.transmitter → Path MachineStep m made n →
      SamePace t n.chip.transmitter
  same_pace-path [] m n p path = rw path p
  same_pace-path (Read offset value ∷ made) m n p (mid, step, rest) =
      same_pace-path made mid n
      (rw step.0
      (lasts-read (SamePace t) pace_lasts.in_accesses offset (at_access m).chip
      (lasts-before (SamePace t) pace_lasts.in_tick m.ahead m.chip p))) rest
  same_pace-path (Write offset value ∷ made) m n p (mid, step, rest) =
      same_pace-path made mid n
      (rw step (write-pace offset value (at_access m).chip (lasts-before (SamePace t) pace_lasts.in_tick m.ahead m.chip p))) rest

-- a make is its own
same_make : (t : TransmitterState) → SamePace t t
same_make t = record { capacity = refl; char_ticks = refl }

pub same_pace-ticks : (n : ℕ) (c : ChipState) → SamePace c.transmitter (ticks n c).transmitter
same_pace-ticks n c = lasts-ticks (SamePace c.transmitter) (pace_lasts c.transmitter).in_tick n c (same_make c.transmitter)

pub same_pace-mark : (m : MachineState) → SamePace m.chip.transmitter (at_mark m).chip.transmitter
same_pace-mark m =
    lasts-before_mark (SamePace m.chip.transmitter) (pace_lasts m.chip.transmitter).in_tick m.ahead m.chip (same_make m.chip.transmitter)

pub same_pace : (made : List Access) (m n : MachineState) → Path MachineStep m made n → SamePace m.chip.transmitter n.chip.transmitter
same_pace made m n path = same_pace-path m.chip.transmitter made m n (same_make m.chip.transmitter) path

-- of one tick
pub pace_tick : (loopback held_off : Bool) (t : TransmitterState) → SamePace t (tick loopback held_off t)
pace_tick loopback held_off t = (pace_lasts t).in_tick loopback held_off t (same_make t)
