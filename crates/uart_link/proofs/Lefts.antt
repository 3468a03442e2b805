-- What accesses leave of a schedule of which a part is known, and what they leave on the wire.
use Rattle.uart_link.proofs.Names.{◌≡◌, ℕ, Bool, true, false, ◌==◌, nat_lt, List, [], ◌∷◌, ◌++◌, length, replicate, Option, Some, None}
use Rattle.uart_link.proofs.Names.{append_assoc, append-nil, refl, sym, ◌∙◌, ap, if◌then◌else◌, Event, Arrive, Gate, Mark, Path, Access}
use Rattle.uart_link.proofs.Names.{Read, Write, Shifting, TransmitterState, shift, refill, load, room, ChipState, cut_of, is_dlab_set}
use Rattle.uart_link.proofs.Names.{after_write, MachineState, MachineStep, at_access, after_access, after_mark, Lasts, lasts-read}
use Rattle.uart_link.proofs.Names.{lasts-write, lasts-before, lasts-before_mark, unknown, settled, AllUnmarked}
use Rattle.uart_spec.specs.declared.registers.offsets.TheConstants as offsets

-- ---- the schedule

-- of these events that were known some are gone, and the others are left before what nobody knows
pub record Left (known : List Event) (count : ℕ) (after : List Event) : Type 0 where
  pub gone : List Event
  pub left : List Event
  pub whole : known ≡ gone ++ left
  pub ahead : after ≡ left ++ unknown count

left_access : (known : List Event) (count : ℕ) → Left known count (after_access (known ++ unknown count))
left_access [] count = record { gone = []; left = []; whole = refl; ahead = refl }
left_access (Gate ∷ known) count = record { gone = Gate ∷ []; left = known; whole = refl; ahead = refl }
left_access (Mark ∷ known) count = record { gone = []; left = Mark ∷ known; whole = refl; ahead = refl }
left_access (event ∷ known) count =
    let r = left_access known count in
    record { gone = event ∷ r.gone; left = r.left; whole = ap (λ (es : List Event). event ∷ es) r.whole; ahead = r.ahead }

left_step : (m n : MachineState) (access : Access) → MachineStep m access n → n.ahead ≡ after_access m.ahead
left_step m n (Read offset value) step = ap (λ (o : MachineState). o.ahead) step.0
left_step m n (Write offset value) step = ap (λ (o : MachineState). o.ahead) step

pub left_path : (made : List Access) (m n : MachineState) (known : List Event) (count : ℕ) → m.ahead ≡ known ++ unknown count →
    Path MachineStep m made n → Left known count n.ahead
left_path [] m n known count e path =
    record { gone = []; left = known; whole = refl; ahead = ap (λ (o : MachineState). o.ahead) path ∙ e }
left_path (access ∷ made) m n known count e path =
    let a = left_access known count in
    let b = left_path made path.0 n a.left count (left_step m path.0 access path.1 ∙ (ap after_access e ∙ a.ahead)) path.2 in
    record {
      gone = a.gone ++ b.gone;
      left = b.left;
      whole = a.whole ∙ (ap (λ (es : List Event). a.gone ++ es) b.whole ∙ sym (append_assoc a.gone b.gone b.left));
      ahead = b.ahead;
    }

-- a settled machine has left no event that was known
pub left_settled : (known : List Event) (count : ℕ) → AllUnmarked known →
    after_mark (known ++ unknown count) ≡ replicate count (Arrive 0 0)
left_settled [] count u = refl
left_settled (Mark ∷ known) count u = absurd (u.0 refl)
left_settled (event ∷ known) count u = left_settled known count u.1

-- ---- the wire

-- these bytes are on the wire, and more behind them
abbrev pub Grown : List ℕ → TransmitterState → Type 0
Grown bytes t = (more : List ℕ) × (t.wire ≡ bytes ++ more)

module _ (bytes : List ℕ) where
  either_grown : (u v : TransmitterState) (b : Bool) → Grown bytes u → Grown bytes v → Grown bytes (if b then u else v)
  either_grown u v true p q = p
  either_grown u v false p q = q

  shift_grown : (loopback : Bool) (place : Option Shifting) (u : TransmitterState) → Grown bytes u → Grown bytes (shift loopback place u)
  shift_grown loopback None u p = p
  shift_grown loopback (Some s) u p =
      either_grown _ _ (nat_lt 1 s.ticks_left) p (either_grown _ _ loopback p (either_grown _ _ (nat_lt (length u.wire) u.capacity)
      (p.0 ++ s.byte ∷ [], ap (λ zs. zs ++ s.byte ∷ []) p.1 ∙ append_assoc bytes p.0 (s.byte ∷ [])) p))

  refill_grown : (place : Option Shifting) (queue : List ℕ) (u : TransmitterState) → Grown bytes u → Grown bytes (refill place queue u)
  refill_grown None (x ∷ []) u p = p
  refill_grown _ _ u p = p

  grown_lasts : Lasts (Grown bytes)
  grown_lasts = record {
    in_accesses = record { pending = λ u pending p. p; cleared = λ u pending p. p; resized = λ u size p. p };
    in_tick =
        λ loopback held_off u p. let v : TransmitterState = shift loopback u.shift_register u in
        let q : Grown bytes v = shift_grown loopback u.shift_register u p in
        either_grown _ _ held_off q (refill_grown v.shift_register v.queue v q);
  }

  write_grown : (offset value : ℕ) (c : ChipState) → Grown bytes c.transmitter → Grown bytes (after_write offset value c).transmitter
  write_grown offset value c p = go (offset == offsets.DATA) refl
    where
      go : (b : Bool) → (offset == offsets.DATA) ≡ b → Grown bytes (after_write offset value c).transmitter
      go false e = lasts-write (Grown bytes) grown_lasts.in_accesses offset value c e p
      go true e = rw e (latched (is_dlab_set c.latches))
        where
          latched : (b : Bool) →
              Grown bytes
              (if b then record c { latches = record c.latches { dll = value } }
              else record c { transmitter = load c.fifo (cut_of c value) c.transmitter }).transmitter
          latched true = p
          latched false = either_grown _ _ (nat_lt (length c.transmitter.queue) (room c.fifo c.transmitter.size)) p p

  grown_path : (made : List Access) (m n : MachineState) → Grown bytes m.chip.transmitter → Path MachineStep m made n →
      Grown bytes n.chip.transmitter
  grown_path [] m n p path = rw path p
  grown_path (Read offset value ∷ made) m n p (mid, step, rest) =
      grown_path made mid n
      (rw step.0
      (lasts-read (Grown bytes) grown_lasts.in_accesses offset (at_access m).chip
      (lasts-before (Grown bytes) grown_lasts.in_tick m.ahead m.chip p))) rest
  grown_path (Write offset value ∷ made) m n p (mid, step, rest) =
      grown_path made mid n
      (rw step (write_grown offset value (at_access m).chip (lasts-before (Grown bytes) grown_lasts.in_tick m.ahead m.chip p))) rest

-- the wire only grows
pub path_grows : (made : List Access) (m n : MachineState) → Path MachineStep m made n →
    Grown m.chip.transmitter.wire n.chip.transmitter
path_grows made m n path = grown_path m.chip.transmitter.wire made m n ([], sym (append-nil m.chip.transmitter.wire)) path

pub settled_grows : (m : MachineState) → Grown m.chip.transmitter.wire (settled m).chip.transmitter
settled_grows m =
    let wire = m.chip.transmitter.wire in
    lasts-before_mark (Grown wire) (grown_lasts wire).in_tick m.ahead m.chip ([], sym (append-nil wire))
