-- A chip that was just made, at a cable on which nothing has been sent yet.
use Rattle.uart_link.proofs.Names.{◌≤◌, ◌≡◌, ℕ, zero, suc, Bool, true, false, not, nat_lt, List, [], ◌++◌, length, drop, replicate, Some}
use Rattle.uart_link.proofs.Names.{None, refl, arith, sym, ◌∙◌, ap, subst, if◌then◌else◌, position, prefix_len, common_steps, Event, Arrive}
use Rattle.uart_link.proofs.Names.{has_bad_errors, has_bad_lines, refusal, ChipState, FifoSize, MachineState, fresh, cutting, sized}
use Rattle.uart_link.proofs.Names.{whole_sized, drop_all, IsBrought, unknown, IsKnown}
use Rattle.uart_events.specs.declared.event.Chip.{Chip}
use Rattle.uart_chip.specs.Chip as chip
use Rattle.uart_link.proofs.Schedules.{arrivals-unknown}

none_at : (p : Event → Bool) (events : List Event) → prefix_len (λ event. not (p event)) events ≡ length events →
    position p events ≡ None
none_at p events e = go (nat_lt (prefix_len (λ event. not (p event)) events) (length events)) refl
  where
    go : (b : Bool) → nat_lt (prefix_len (λ event. not (p event)) events) (length events) ≡ b →
        (if b then Some (prefix_len (λ event. not (p event)) events) else None) ≡ None
    go false l = refl
    go true l = absurd (grind (arith, common_steps))

pass_errors : (count : ℕ) → prefix_len (λ event. not (has_bad_errors event)) (replicate count (Arrive 0 0)) ≡
    length (replicate count (Arrive 0 0))
pass_errors zero = refl
pass_errors (suc count) = let h = pass_errors count in omega (arith, h)

pass_lines : (count : ℕ) → prefix_len (λ event. not (has_bad_lines event)) (replicate count (Arrive 0 0)) ≡
    length (replicate count (Arrive 0 0))
pass_lines zero = refl
pass_lines (suc count) = let h = pass_lines count in omega (arith, h)

-- blanks are no reason to refuse a machine
refusal_unknown : (char_ticks capacity count : ℕ) → refusal char_ticks capacity (unknown count) ≡ refusal char_ticks capacity []
refusal_unknown char_ticks capacity count =
    let errors : position has_bad_errors (unknown count) ≡ None =
    none_at has_bad_errors (unknown count) (let h = pass_errors count in omega (arith, h)) in
    let lines : position has_bad_lines (unknown count) ≡ None =
    none_at has_bad_lines (unknown count) (let h = pass_lines count in omega (arith, h)) in
    rw (errors, lines) refl

-- the chip that `new_sized` makes is the fresh machine, of which nothing is known
pub is_new : (model : Chip) (size : FifoSize) (char_ticks capacity count : ℕ) (cuts : Bool) (events : List Event) (c : ChipState) →
    c ≡ chip.with_size size (record (chip.fresh model char_ticks capacity count) { cuts = cuts }) → events ≡ [] →
    record { chip = c; ahead = drop 0 events ++ unknown count } ≡
    sized size (cutting cuts (fresh model char_ticks capacity (unknown count)))
is_new model size char_ticks capacity count cuts events c p q =
    let f : ℕ → MachineState =
    λ n. sized size (cutting cuts (record { chip = chip.fresh model char_ticks capacity n; ahead = unknown count })) in
    ap (λ (d : ChipState). let m : MachineState = record { chip = d; ahead = drop 0 events ++ unknown count } in m) p ∙
    (ap (λ (es : List Event). let m : MachineState = record {
      chip = chip.with_size size (record (chip.fresh model char_ticks capacity count) { cuts = cuts });
      ahead = drop 0 es ++ unknown count;
    } in m) q ∙ ap f (sym (arrivals-unknown count)))

pub known_new : (model : Chip) (size : FifoSize) (char_ticks capacity count : ℕ) (cuts : Bool) (events : List Event) (c : ChipState) →
    c ≡ chip.with_size size (record (chip.fresh model char_ticks capacity count) { cuts = cuts }) → events ≡ [] →
    refusal char_ticks capacity [] ≡ None → IsKnown c (drop 0 events) count
known_new model size char_ticks capacity count cuts events c p q e = record {
  whole = rw (is_new model size char_ticks capacity count cuts events c p q)
      (whole_sized model size char_ticks capacity cuts (unknown count) (refusal_unknown char_ticks capacity count ∙ e));
  unmarked = rw q tt;
  wired = rw p refl;
}

-- a chip to which nothing has come yet: whatever has left the other one may come
pub untouched : (s : MachineState) (c : ChipState) (events : List Event) (k count : ℕ) →
    record { chip = c; ahead = drop k events ++ unknown count } ≡ s → IsKnown c (drop k events) count → length events ≤ k →
    count ≡ length c.receiver.marks → (wire : List ℕ) → IsBrought wire s
untouched s c events k count same known all unused wire =
    let e : drop k events ≡ [] = drop_all k events all in
    let none : IsKnown c [] count = rw e at known in
    let h = arrivals-unknown count in
    let first : c.receiver.arrived ≡ 0 = omega (arith, h, none.whole.sound.foreseen, unused) in
    let here : IsBrought wire (record { chip = c; ahead = drop k events ++ unknown count }) = record {
      known = [];
      count = count;
      rest = wire;
      ahead = ap (λ (es : List Event). es ++ unknown count) e;
      unmarked = tt;
      clean = tt;
      behind = omega (arith, first);
      next = ap (λ n. drop n wire) first;
    } in
    subst (λ (m : MachineState). IsBrought wire m) same here
