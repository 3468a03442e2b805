-- A machine that can be built is sound.
use Rattle.std.proofs.Common.{◌≡◌, ℕ, suc, ◌+◌, ◌≤◌, Bool, true, false, not, ◌&&◌, ◌==◌, nat_lt, nat_le, List, [], ◌∷◌, length, replicate}
use Rattle.std.proofs.Common.{Option, Some, None, refl, arith, sym, ◌∙◌, ap, bit_and, zero-le, if◌then◌else◌}
use Rattle.std.specs.List.{position, prefix_len, count_by}
use Rattle.std.specs.Option.{option_map, option_or}
use Rattle.std.proofs.lemmas.Grind.{common_steps}
use Rattle.std.proofs.lemmas.List.{length-replicate, get_or-replicate}
use Rattle.std.proofs.lemmas.List.Recursion.{is_count_by}
use Rattle.uart_events.specs.declared.event.ArrivalMark.{ArrivalMark}
use Rattle.uart_events.specs.declared.event.ArrivalMark.TheVariants.{Pending, Waiting}
use Rattle.uart_events.specs.declared.event.BuildError.TheVariants.{BadTicks, BadWire, BadErrors, BadLines}
use Rattle.uart_events.specs.declared.event.Chip.{Chip}
use Rattle.uart_events.specs.declared.event.TheConstants.{MAX_CHAR_TICKS, MAX_WIRE_CAPACITY}
use Rattle.uart_events.specs.declared.event.Event.{Event}
use Rattle.uart_events.specs.declared.event.Event.TheVariants.{Arrive, Lines}
use Rattle.uart_spec.specs.declared.registers.line_status.TheConstants.LSR
use Rattle.uart_spec.specs.declared.registers.modem_status.TheConstants.MSR
use Rattle.uart_chip.specs.Receiver.{mark_at}
use Rattle.uart_chip.specs.Chip as chip
use Rattle.uart_chip.specs.Chip.{ChipState}
use Rattle.uart_chip.specs.Machine.{MachineState, arrivals, fresh, cutting, flowing, switchable, sized}
use Rattle.uart_spec.specs.declared.setup.FifoSize.{FifoSize}
use Rattle.uart_events.specs.Build.{is_arrival, has_bad_errors, has_bad_lines, refusal}
use Rattle.uart_chip.specs.Sound.{AllLegal, IsWhole}
use Rattle.uart_chip.proofs.McrBits.{within_flowing}

pub arrivals-count : (events : List Event) → arrivals events ≡ count_by is_arrival events
arrivals-count events = is_count_by arrivals is_arrival refl next events
  where
    next : (event : Event) (events : List Event) →
        arrivals (event ∷ events) ≡ (if is_arrival event then 1 + arrivals events else arrivals events)
    next (Arrive byte errors) events = refl
    next _ events = refl

-- nothing passes if there is no first place
none_passes : (p : Event → Bool) (events : List Event) → position p events ≡ None →
    length events ≤ prefix_len (λ event. not (p event)) events
none_passes p events e = go (nat_lt (prefix_len (λ event. not (p event)) events) (length events)) refl e
  where
    go : (b : Bool) → nat_lt (prefix_len (λ event. not (p event)) events) (length events) ≡ b →
        (if b then Some (prefix_len (λ event. not (p event)) events) else None) ≡ None →
        length events ≤ prefix_len (λ event. not (p event)) events
    go true l e = cc
    go false l e = grind (arith, common_steps)

legal_arrival : (byte errors : ℕ) (events : List Event) →
    length (Arrive byte errors ∷ events) ≤ prefix_len (λ event. not (has_bad_errors event)) (Arrive byte errors ∷ events) →
    (length events ≤ prefix_len (λ event. not (has_bad_errors event)) events → AllLegal events) → AllLegal (Arrive byte errors ∷ events)
legal_arrival byte errors events p rest = go (bit_and errors LSR.CHARACTER_ERRORS.0 == errors) refl p
  where
    go : (b : Bool) → (bit_and errors LSR.CHARACTER_ERRORS.0 == errors) ≡ b →
        suc (length events) ≤ (if not (not b) then 1 + prefix_len (λ event. not (has_bad_errors event)) events else 0) →
        AllLegal (Arrive byte errors ∷ events)
    go true e p = (grind (arith, common_steps), rest (omega (arith, p)))
    go false e p = absurd (omega (arith, p))

legal_lines : (inputs : ℕ) (events : List Event) →
    length (Lines inputs ∷ events) ≤ prefix_len (λ event. not (has_bad_lines event)) (Lines inputs ∷ events) →
    (length events ≤ prefix_len (λ event. not (has_bad_lines event)) events → AllLegal events) → AllLegal (Lines inputs ∷ events)
legal_lines inputs events p rest = go (bit_and inputs MSR.LINES.0 == inputs) refl p
  where
    go : (b : Bool) → (bit_and inputs MSR.LINES.0 == inputs) ≡ b →
        suc (length events) ≤ (if not (not b) then 1 + prefix_len (λ event. not (has_bad_lines event)) events else 0) →
        AllLegal (Lines inputs ∷ events)
    go true e p = (grind (arith, common_steps), rest (omega (arith, p)))
    go false e p = absurd (omega (arith, p))

all_legal : (events : List Event) → length events ≤ prefix_len (λ event. not (has_bad_errors event)) events →
    length events ≤ prefix_len (λ event. not (has_bad_lines event)) events → AllLegal events
all_legal [] p q = tt
all_legal (Arrive byte errors ∷ events) p q = legal_arrival byte errors events p (λ p. all_legal events p (omega (arith, q)))
all_legal (Lines inputs ∷ events) p q = legal_lines inputs events q (λ q. all_legal events (omega (arith, p)) q)
all_legal (_ ∷ events) p q = (tt, all_legal events (omega (arith, p)) (omega (arith, q)))

-- ---- from no refusal

pub record IsAccepted (char_ticks : ℕ) (events : List Event) : Type 0 where
  pub at_least_one : 1 ≤ char_ticks
  pub at_most : char_ticks ≤ MAX_CHAR_TICKS
  pub legal : AllLegal events

accepted : (char_ticks capacity : ℕ) (events : List Event) → refusal char_ticks capacity events ≡ None → IsAccepted char_ticks events
accepted char_ticks capacity events e =
    go (nat_le 1 char_ticks) refl (nat_le char_ticks MAX_CHAR_TICKS) refl (nat_lt MAX_WIRE_CAPACITY capacity)
    (position has_bad_errors events) refl (position has_bad_lines events) refl e
  where
    go : (a : Bool) → nat_le 1 char_ticks ≡ a → (b : Bool) → nat_le char_ticks MAX_CHAR_TICKS ≡ b → (w : Bool) → (x : Option ℕ) →
        position has_bad_errors events ≡ x → (y : Option ℕ) → position has_bad_lines events ≡ y →
        (if not (a && b) then Some BadTicks else if w then Some BadWire else option_or (option_map BadErrors x) (option_map BadLines y)) ≡
        None → IsAccepted char_ticks events
    go true l true m false None x None y e = record {
      at_least_one = grind (arith, common_steps);
      at_most = grind (arith, common_steps);
      legal = all_legal events (none_passes has_bad_errors events x) (none_passes has_bad_lines events y);
    }
    go false l b m w p x q y e = absurd (cc)
    go true l false m w p x q y e = absurd (cc)
    go true l true m true p x q y e = absurd (cc)
    go true l true m false (Some i) x q y e = absurd (cc)
    go true l true m false None x (Some i) y e = absurd (cc)

-- the chip that new makes, with its schedule, is the fresh machine
pub is_fresh : (model : Chip) (char_ticks capacity n : ℕ) (events seen : List Event) (c : ChipState) →
    c ≡ chip.fresh model char_ticks capacity n → n ≡ count_by is_arrival seen → seen ≡ events →
    record { chip = c; ahead = events } ≡ fresh model char_ticks capacity events
is_fresh model char_ticks capacity n events seen c p q r =
    let all : n ≡ arrivals events = q ∙ (ap (λ (xs : List Event). count_by is_arrival xs) r ∙ sym (arrivals-count events)) in
    let f : ℕ → MachineState = λ n. record { chip = chip.fresh model char_ticks capacity n; ahead = events } in
    ap (λ (c : ChipState). let m : MachineState = record { chip = c; ahead = events } in m) p ∙ ap f all

-- and with the options
pub is_sized : (model : Chip) (size : FifoSize) (char_ticks capacity n : ℕ) (cuts : Bool) (events seen : List Event) (c : ChipState) →
    c ≡ chip.with_size size (record (chip.fresh model char_ticks capacity n) { cuts = cuts }) →
    n ≡ count_by is_arrival seen → seen ≡ events →
    record { chip = c; ahead = events } ≡ sized size (cutting cuts (fresh model char_ticks capacity events))
is_sized model size char_ticks capacity n cuts events seen c p q r =
    ap (λ (c : ChipState). let m : MachineState = record { chip = c; ahead = events } in m) p ∙
    ap (λ (m : MachineState). sized size (cutting cuts m))
    (is_fresh model char_ticks capacity n events seen (chip.fresh model char_ticks capacity n) refl q r)

pub whole_cutting : (cuts : Bool) (m : MachineState) → IsWhole m → IsWhole (cutting cuts m)
whole_cutting cuts m w = record {
  sound = record {
    chip = record {
      receiver = w.sound.chip.receiver;
      transmitter = w.sound.chip.transmitter;
      modem = w.sound.chip.modem;
      latches = w.sound.chip.latches;
      implemented = w.sound.chip.implemented;
      sizes = w.sound.chip.sizes;
      limit = w.sound.chip.limit;
    };
    foreseen = w.sound.foreseen;
    legal = w.sound.legal;
  };
  bytes = w.bytes;
}

-- with automatic flow control MCR keeps one bit more
pub whole_flowing : (m : MachineState) → IsWhole m → IsWhole (flowing true m)
whole_flowing m w = record {
  sound = record {
    chip = record {
      receiver = w.sound.chip.receiver;
      transmitter = w.sound.chip.transmitter;
      modem = w.sound.chip.modem;
      latches = record {
        ier = w.sound.chip.latches.ier;
        mcr = within_flowing m.chip.auto_flow m.chip.latches.mcr w.sound.chip.latches.mcr;
      };
      implemented = w.sound.chip.implemented;
      sizes = w.sound.chip.sizes;
      limit = w.sound.chip.limit;
    };
    foreseen = w.sound.foreseen;
    legal = w.sound.legal;
  };
  bytes = w.bytes;
}

-- nothing that holds of every machine speaks of the switch
pub whole_switchable : (m : MachineState) → IsWhole m → IsWhole (switchable m)
whole_switchable m w = record {
  sound = record {
    chip = record {
      receiver = w.sound.chip.receiver;
      transmitter = w.sound.chip.transmitter;
      modem = w.sound.chip.modem;
      latches = w.sound.chip.latches;
      implemented = w.sound.chip.implemented;
      sizes = w.sound.chip.sizes;
      limit = w.sound.chip.limit;
    };
    foreseen = w.sound.foreseen;
    legal = w.sound.legal;
  };
  bytes = w.bytes;
}

all_pending : (n k : ℕ) → mark_at (replicate n Pending) k ≡ Pending
all_pending n k = grind (arith, common_steps, get_or-replicate)

pub whole_fresh : (chip : Chip) (char_ticks capacity : ℕ) (events : List Event) → refusal char_ticks capacity events ≡ None →
    IsWhole (fresh chip char_ticks capacity events)
whole_fresh chip char_ticks capacity events e =
    let a : IsAccepted char_ticks events = accepted char_ticks capacity events e in
    record {
      sound = record {
        chip = record {
          receiver = record {
            marked =
                record { wait = tt; distinct = tt; to_come = λ k h. all_pending (arrivals events) k; in_room = zero-le; counted = zero-le };
            settled = λ k h. absurd (omega (arith, h));
            no_other = λ k h w. never (all_pending (arrivals events) k) w;
            legal = tt;
            idle = zero-le;
          };
          transmitter = record { in_room = zero-le; ticking = tt; at_least_one = a.at_least_one; at_most = a.at_most; on_wire = zero-le };
          modem = record { inputs = refl; lines = refl; deltas = refl };
          latches = record { ier = refl; mcr = refl };
          implemented = λ e. cc;
          sizes = refl;
          limit = refl;
        };
        foreseen = length-marks (arrivals events);
        legal = a.legal;
      };
      bytes = record { ier = omega arith; lcr = omega arith; mcr = omega arith; scr = omega arith; dll = omega arith; dlm = omega arith };
    }
  where
    never : {m : ArrivalMark} → m ≡ Pending → m ≡ Waiting → ⊥
    never p w = cc

    length-marks : (n : ℕ) → 0 + n ≡ length (replicate n Pending)
    length-marks n = simp length-replicate (omega arith)

-- nothing waits in a fresh machine, so a FIFO of any size has room for it
pub whole_sized : (chip : Chip) (size : FifoSize) (char_ticks capacity : ℕ) (cuts : Bool) (events : List Event) →
    refusal char_ticks capacity events ≡ None → IsWhole (sized size (cutting cuts (fresh chip char_ticks capacity events)))
whole_sized chip size char_ticks capacity cuts events e =
    let w = whole_fresh chip char_ticks capacity events e in
    let r = w.sound.chip.receiver in
    let t = w.sound.chip.transmitter in
    record {
      sound = record {
        chip = record {
          receiver = record {
            marked =
                record {
                  wait = tt;
                  distinct = tt;
                  to_come = r.marked.to_come;
                  in_room = zero-le;
                  counted = zero-le;
                };
            settled = r.settled;
            no_other = r.no_other;
            legal = tt;
            idle = zero-le;
          };
          transmitter =
              record { in_room = zero-le; ticking = tt; at_least_one = t.at_least_one; at_most = t.at_most; on_wire = zero-le };
          modem = w.sound.chip.modem;
          latches = w.sound.chip.latches;
          implemented = w.sound.chip.implemented;
          sizes = refl;
          limit = refl;
        };
        foreseen = w.sound.foreseen;
        legal = w.sound.legal;
      };
      bytes = w.bytes;
    }
