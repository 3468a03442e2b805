-- The next event of a schedule is performed.
use Rattle.std.proofs.Common.{◌≡◌, ◌≢◌, ℕ, suc, ◌+◌, ◌<◌, ◌≤◌, List, ◌∷◌, length, drop, slice_index_or, refl, sym, ◌∙◌, ap, add-one}
use Rattle.std.proofs.Common.{drop-cons, arith}
use Rattle.uart_events.specs.declared.event.Event.{Event}
use Rattle.uart_events.specs.declared.event.Event.TheVariants.{Access as Gate, Mark}
use Rattle.uart_chip.specs.Chip.{ChipState}
use Rattle.uart_chip.specs.Machine.{MachineState, perform, at_access, at_mark}
use Rattle.uart_chip.specs.Sound.{IsWhole}
use Rattle.uart_chip.proofs.soundness.Sounds.{whole_perform}

pub access_performs : (event : Event) (events : List Event) (c : ChipState) → event ≢ Gate → event ≢ Mark →
    at_access (record { chip = perform event c; ahead = events }) ≡ at_access (record { chip = c; ahead = event ∷ events })
access_performs Gate events c g m = absurd (g refl)
access_performs Mark events c g m = absurd (m refl)
access_performs _ events c g m = refl

pub mark_performs : (event : Event) (events : List Event) (c : ChipState) → event ≢ Mark →
    at_mark (record { chip = perform event c; ahead = events }) ≡ at_mark (record { chip = c; ahead = event ∷ events })
mark_performs Mark events c m = absurd (m refl)
mark_performs _ events c m = refl

next_event : (events : List Event) (k : ℕ) (event : Event) → k < length events → event ≡ slice_index_or events k event →
    drop k events ≡ event ∷ drop (k + 1) events
next_event events k event h e = rw (add-one, drop-cons events k event) (ap (λ (x : Event). x ∷ drop (suc k) events) (sym e))

-- a loop over a schedule: what it is to reach from its current place is what it was to reach from the start
pub record IsOnTheWay (reach : MachineState → MachineState) (start : MachineState) (c : ChipState) (cursor : ℕ)
    (events : List Event) : Type 0 where
  pub in_schedule : cursor ≤ length events
  pub whole : IsWhole (record { chip = c; ahead = drop cursor events })
  pub same : reach (record { chip = c; ahead = drop cursor events }) ≡ reach start

-- an event that does not stop it is performed
pub goes_on : (reach : MachineState → MachineState) (start : MachineState) (events : List Event) (k : ℕ) (event : Event) (c d : ChipState) →
    k < length events → event ≡ slice_index_or events k event → d ≡ perform event c →
    reach (record { chip = perform event c; ahead = drop (k + 1) events })
    ≡ reach (record { chip = c; ahead = event ∷ drop (k + 1) events }) →
    IsOnTheWay reach start c k events → IsOnTheWay reach start d (k + 1) events
goes_on reach start events k event c d h e p performs way = rw p (record {
  in_schedule = omega (arith, h);
  whole = whole_perform event (drop (k + 1) events) c (rw (next_event events k event h e) at way.whole);
  same = performs ∙ rw (next_event events k event h e) at way.same;
})
