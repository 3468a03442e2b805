-- What a stretch of a session does to the machine: the events up to an access or a mark, and accesses with them.
use Rattle.std.proofs.Common.{◌≡◌, ℕ, ◌+◌, ◌≤◌, false, List, [], ◌∷◌, ◌++◌, length, append_assoc, refl, arith, sym, ◌∙◌, ap}
use Rattle.uart_events.specs.declared.event.Event.{Event}
use Rattle.uart_events.specs.declared.event.Event.TheVariants.{Arrive, Access as Gate, Mark}
use Rattle.uart_chip.specs.declared.receiver.Character.{Character}
use Rattle.uart_spec.specs.declared.access.Access.{Access}
use Rattle.uart_chip.specs.Chip.{ChipState, tick}
use Rattle.uart_chip.specs.Machine.{MachineState, perform, arrivals, at_access, at_mark}
use Rattle.uart_chip.specs.Sound.{IsSound}
use Rattle.uart_chip.proofs.soundness.Sounds.{sound_perform, sound_tick}
use Rattle.uart_chip.proofs.conservation.Went.{Modes, IsIn, fixed, loopback, Went, went-trans, went-refl, went-tick, went-perform}

-- from m to n: these accesses were made, these bytes written and these characters taken
pub record Passed (x : Modes) (m n : MachineState) (made : List Access) (written : List ℕ) (takes : List Character) : Type 0 where
  pub events : List Event
  pub ahead : m.ahead ≡ events ++ n.ahead
  pub went : Went x m.chip n.chip events made written takes
  pub sound : IsSound n

pub passed-refl : (x : Modes) (m : MachineState) → IsSound m → IsIn x m.chip → Passed x m m [] [] []
passed-refl x m s w = record { events = []; ahead = refl; went = went-refl x m.chip s.chip w; sound = s }

-- one stretch and then another, which may begin in other modes
pub passed-trans : (x y : Modes) (m n o : MachineState) (xs ys : List Access) (ws vs : List ℕ) (ts us : List Character) →
    fixed y ≡ fixed x →
    Passed x m n xs ws ts → Passed y n o ys vs us → Passed y m o (xs ++ ys) (ws ++ vs) (ts ++ us)
passed-trans x y m n o xs ys ws vs ts us same p q = record {
  events = p.events ++ q.events;
  ahead = p.ahead ∙ (ap (λ es. p.events ++ es) q.ahead ∙ sym (append_assoc p.events q.events o.ahead));
  went = went-trans x y m.chip n.chip o.chip p.events q.events xs ys ws vs ts us same p.went q.went;
  sound = q.sound;
}

-- ---- events

-- one event and then more
passed_more : (x : Modes) (c : ChipState) (event : Event) (events : List Event) (n : MachineState) → loopback x ≡ false →
    IsSound (record { chip = c; ahead = event ∷ events }) → IsIn x c →
    (IsSound (record { chip = perform event c; ahead = events }) → IsIn x (perform event c) →
    Passed x (record { chip = perform event c; ahead = events }) n [] [] []) →
    Passed x (record { chip = c; ahead = event ∷ events }) n [] [] []
passed_more x c event events n l s w rest =
    let a : Went x c (perform event c) (event ∷ []) [] [] [] = went-perform x event c l s.chip w (few event s.foreseen) in
    let p = rest (sound_perform event events c s) a.modes in
    let one : Passed x (record { chip = c; ahead = event ∷ events }) (record { chip = perform event c; ahead = events }) [] [] [] =
    record { events = event ∷ []; ahead = refl; went = a; sound = sound_perform event events c s } in
    passed-trans x x (record { chip = c; ahead = event ∷ events })
    (record { chip = perform event c; ahead = events }) n [] [] [] [] [] [] refl one p
  where
    few : (event : Event) → c.receiver.arrived + arrivals (event ∷ events) ≡ length c.receiver.marks →
        c.receiver.arrived + arrivals (event ∷ []) ≤ length c.receiver.marks
    few (Arrive byte errors) e = omega (arith, e)
    few _ e = omega (arith, e)

-- a tick while the events wait
passed_tick : (x : Modes) (c : ChipState) (events : List Event) → loopback x ≡ false → IsSound (record { chip = c; ahead = events }) →
    IsIn x c →
    Passed x (record { chip = c; ahead = events }) (record { chip = tick c; ahead = events }) [] [] []
passed_tick x c events l s w = record { events = []; ahead = refl; went = went-tick x c l s.chip w; sound = sound_tick events c s }

-- the events up to an access
passed_before : (x : Modes) (events : List Event) (c : ChipState) → loopback x ≡ false → IsSound (record { chip = c; ahead = events }) →
    IsIn x c →
    Passed x (record { chip = c; ahead = events }) (at_access (record { chip = c; ahead = events })) [] [] []
passed_before x [] c l s w = passed_tick x c [] l s w
passed_before x (Gate ∷ events) c l s w =
    passed_more x c Gate events _ l s w (λ t v. passed-refl x (record { chip = c; ahead = events }) t v)
passed_before x (Mark ∷ events) c l s w = passed_tick x c (Mark ∷ events) l s w
passed_before x (event ∷ events) c l s w = passed_more x c event events _ l s w (λ t v. passed_before x events (perform event c) l t v)

pub passed-access : (x : Modes) (m : MachineState) → loopback x ≡ false → IsSound m → IsIn x m.chip → Passed x m (at_access m) [] [] []
passed-access x m l s w = passed_before x m.ahead m.chip l s w

-- the events up to the next mark
passed_until : (x : Modes) (events : List Event) (c : ChipState) → loopback x ≡ false → IsSound (record { chip = c; ahead = events }) →
    IsIn x c →
    Passed x (record { chip = c; ahead = events }) (at_mark (record { chip = c; ahead = events })) [] [] []
passed_until x [] c l s w = passed-refl x (record { chip = c; ahead = [] }) s w
passed_until x (Mark ∷ events) c l s w =
    passed_more x c Mark events _ l s w (λ t v. passed-refl x (record { chip = c; ahead = events }) t v)
passed_until x (event ∷ events) c l s w = passed_more x c event events _ l s w (λ t v. passed_until x events (perform event c) l t v)

pub passed-mark : (x : Modes) (m : MachineState) → loopback x ≡ false → IsSound m → IsIn x m.chip → Passed x m (at_mark m) [] [] []
passed-mark x m l s w = passed_until x m.ahead m.chip l s w

-- ---- accesses

-- the events before an access, and then its effect, in the modes that it leaves
pub passed-effect : (x y : Modes) (m n : MachineState) (d : ChipState) (access : Access) (ws : List ℕ) (ts : List Character) →
    loopback x ≡ false → fixed y ≡ fixed x →
    IsSound m → IsIn x m.chip → n ≡ record (at_access m) { chip = d } → IsSound (record (at_access m) { chip = d }) →
    (Passed x m (at_access m) [] [] [] → Went y (at_access m).chip d [] (access ∷ []) ws ts) → Passed y m n (access ∷ []) ws ts
passed-effect x y m n d access ws ts l same s w e after effect =
    let p : Passed x m (at_access m) [] [] [] = passed-access x m l s w in
    let q : Passed y (at_access m) (record (at_access m) { chip = d }) (access ∷ []) ws ts =
    record { events = []; ahead = refl; went = effect p; sound = after } in
    rw e (passed-trans x y m (at_access m) (record (at_access m) { chip = d }) [] (access ∷ []) [] ws [] ts same p q)
