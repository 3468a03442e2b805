-- What is put ahead of a chip are the bytes that are on the cable.
use Rattle.uart_link.proofs.Names.{◌≡◌, ℕ, ◌+◌, ◌-◌, ◌≤◌, min, Bool, true, false, nat_le, List, ◌++◌, length, take, drop, refl, sym, ◌∙◌}
use Rattle.uart_link.proofs.Names.{ap, arith, if◌then◌else◌, slice_range, common_steps, drop_all, take_min, length-drop, length-take, Event}
use Rattle.uart_link.proofs.Names.{IsWithin, has_any, ChipState, is_loopback, rts_output, MachineState, arrivals, Moment, events_of}
use Rattle.uart_link.proofs.Names.{unknown, to_come, with_ahead, arranged, on_cable, lines_joined, lines_from, IsKnown}
use Rattle.uart_spec.specs.declared.registers.modem_control.TheConstants.MCR
use Rattle.uart_spec.specs.declared.registers.modem_status.TheConstants.MSR
use Rattle.uart_chip.proofs.soundness.Within.{within_or, within_flag}
use Rattle.uart_link.proofs.Schedules.{few_arrivals, legal_events, unmarked_events, known_ahead, known_arranged, HasSettled}
use Rattle.uart_link.proofs.Schedules.{arrivals-unknown}

-- the lines of a cable are lines
pub lines_within : (c : ChipState) → IsWithin (lines_from c) MSR.LINES.0
lines_within c = go (is_loopback c.latches)
  where
    go : (b : Bool) → IsWithin (if b then 0 else lines_joined (rts_output c) (has_any c.latches.mcr MCR.DTR.0)) MSR.LINES.0
    go true = refl
    go false =
        within_or _ _ MSR.LINES.0 (within_flag (rts_output c) MSR.CTS.0 MSR.LINES.0 refl refl)
        (within_or _ _ MSR.LINES.0 (within_flag (has_any c.latches.mcr MCR.DTR.0) MSR.DSR.0 MSR.LINES.0 refl refl)
        (within_flag (has_any c.latches.mcr MCR.DTR.0) MSR.CD.0 MSR.LINES.0 refl refl))

drop_min : (n : ℕ) (xs : List ℕ) → drop (min n (length xs)) xs ≡ drop n xs
drop_min n xs = go (nat_le n (length xs)) refl
  where
    go : (b : Bool) → nat_le n (length xs) ≡ b → drop (min n (length xs)) xs ≡ drop n xs
    go true e =
        let few : n ≤ length xs = grind (arith, common_steps) in
        let same : min n (length xs) ≡ n = omega (arith, few) in ap (λ k. drop k xs) same
    go false e =
        let many : length xs ≤ n = grind (arith, common_steps) in
        let same : min n (length xs) ≡ length xs = omega (arith, many) in
        ap (λ k. drop k xs) same ∙ (drop_all (length xs) xs (omega arith) ∙ sym (drop_all n xs many))

cable_slice : (wire : List ℕ) (arrived count first past : ℕ) → first ≡ min arrived (length wire) →
    past ≡ first + min count (length wire - first) → slice_range wire first past ≡ take count (drop arrived wire)
cable_slice wire arrived count first past f p =
    let whole : drop first wire ≡ drop arrived wire = ap (λ k. drop k wire) f ∙ drop_min arrived wire in
    let long = length-drop first wire in
    let number : past - first ≡ min count (length (drop first wire)) = omega (arith, p, long) in
    ap (λ k. take k (drop first wire)) number ∙ (take_min count (drop first wire) ∙ ap (take count) whole)

-- the events that moments become at a chip
abbrev pub arranged_events : List Moment → ChipState → ChipState → List Event
arranged_events moments there c = events_of moments (take (to_come c) (on_cable there c)) (lines_from there)

-- these events lie ahead of the machine, as its memory has them
pub record HasArranged (moments : List Moment) (there : ChipState) (m : MachineState) (c : ChipState) (items : List Event)
    (left : ℕ) : Type 0 where
  pub same : record { chip = c; ahead = items ++ unknown left } ≡ arranged moments there m
  pub known : IsKnown c items left

few_arranged : (moments : List Moment) (there c : ChipState) → arrivals (arranged_events moments there c) ≤ to_come c
few_arranged moments there c =
    let cable = on_cable there c in
    let few = few_arrivals moments (take (to_come c) cable) (lines_from there) in
    let short = length-take (to_come c) cable in omega (arith, few, short)

pub has_arranged : (moments : List Moment) (there c : ChipState) (m : MachineState) (count : ℕ) → HasSettled m c count →
    HasArranged moments there m c (arranged_events moments there c) (count - arrivals (arranged_events moments there c))
has_arranged moments there c m count h =
    let events = arranged_events moments there c in
    let few : arrivals events ≤ count = let g = few_arranged moments there c in omega (arith, g, h.number) in
    let D : ChipState → MachineState = λ d. with_ahead (arranged_events moments there d) d in
    record {
      same = sym (known_arranged c count events h.known) ∙ ap D (sym h.chip);
      known = known_ahead c count events h.known
          (legal_events moments (take (to_come c) (on_cable there c)) (lines_from there) (lines_within there))
          (unmarked_events moments (take (to_come c) (on_cable there c)) (lines_from there)) few;
    }

-- what was put is what is on the cable
pub put_arranged : (moments : List Moment) (there c : ChipState) (m : MachineState) (count first past lines : ℕ) (items : List Event) →
    HasSettled m c count → first ≡ min (length c.receiver.marks - count) (length there.transmitter.wire) →
    past ≡ first + min count (length there.transmitter.wire - first) → lines ≡ lines_from there →
    items ≡ events_of moments (slice_range there.transmitter.wire first past) lines → items ≡ arranged_events moments there c
put_arranged moments there c m count first past lines items h f p l e =
    let wire = there.transmitter.wire in
    let few = arrivals-unknown count in
    let arrived : length c.receiver.marks - count ≡ c.receiver.arrived = omega (arith, h.known.whole.sound.foreseen, few) in
    let cable : slice_range wire first past ≡ take (to_come c) (on_cable there c) =
    cable_slice wire (length c.receiver.marks - count) count first past f p ∙
    (ap (λ k. take count (drop k wire)) arrived ∙ ap (λ k. take k (drop c.receiver.arrived wire)) (sym h.number)) in
    e ∙ (ap (λ bytes. events_of moments bytes lines) cable ∙ ap (λ n. events_of moments (take (to_come c) (on_cable there c)) n) l)

pub record IsPut (moments : List Moment) (there : ChipState) (m : MachineState) (c : ChipState) (items : List Event)
    (count taken : ℕ) : Type 0 where
  pub arranges : HasArranged moments there m c items (count - taken)
  pub few : taken ≤ count

pub is_put : (moments : List Moment) (there c : ChipState) (m : MachineState) (count taken : ℕ) (items : List Event) →
    HasSettled m c count → items ≡ arranged_events moments there c → taken ≡ arrivals items → IsPut moments there m c items count taken
is_put moments there c m count taken items h e n = rw (n, e) (record {
  arranges = has_arranged moments there c m count h;
  few = let g = few_arranged moments there c in omega (arith, g, h.number);
})
