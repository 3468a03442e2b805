-- What is still due at an end grows less with what the schedule has ahead of its chip: in events, accesses and calls.
use Rattle.uart_link.proofs.Names.{◌≡◌, ◌⊎◌, inl, inr, ℕ, ◌+◌, List, [], ◌∷◌, sym, subst, arith, Event, Gate, Mark, Path, Access, Read}
use Rattle.uart_link.proofs.Names.{Write, Modes, sound_perform, sound_access, sound_step, ChipState, tick, after_read, after_write}
use Rattle.uart_link.proofs.Names.{MachineState, MachineStep, perform, before_access, after_access, before_mark, at_access, IsSound}
use Rattle.uart_link.proofs.Names.{IsSoundChip, RingState, ring_machine, RingAnswer, RingCall, Moment, settled, arranged, EndStep}
use Rattle.uart_link.proofs.{Calm.IsMild, Calm.AllMild, EndActs.end_begins, EndFlows.calm_call, EndPasses.InEnd}

-- the weights of the events before the next Mark
abbrev pub ahead_of : (weight : Event → ℕ) → List Event → ℕ
ahead_of weight [] = 0
ahead_of weight (Mark ∷ events) = 0
ahead_of weight (event ∷ events) = weight event + ahead_of weight events

-- where so much is due, an event leaves less due by its weight, and nothing else makes more due
pub record Spends (weight : Event → ℕ) (Due : ChipState → ℕ → Type 0) : Type 0 where
  pub in_event : (event : Event) (events : List Event) (c : ChipState) (n : ℕ) → IsSound (record { chip = c; ahead = event ∷ events }) →
      Due c (weight event + n) → Due (perform event c) n
  pub in_tick : (c : ChipState) (n : ℕ) → IsSoundChip c → Due c n → Due (tick c) n
  pub in_read : (offset : ℕ) (c : ChipState) (n : ℕ) → IsSoundChip c → Due c n → Due (after_read offset c) n
  pub in_write : (offset value : ℕ) (c : ChipState) (n : ℕ) → IsMild (Write offset value) → IsSoundChip c → Due c n →
      Due (after_write offset value c) n

module _ (weight : Event → ℕ) (Due : ChipState → ℕ → Type 0) (w : Spends weight Due) where
  spend_event : (event : Event) (events : List Event) (c : ChipState) (n : ℕ) → IsSound (record { chip = c; ahead = event ∷ events }) →
      Due c ((weight event + ahead_of weight events) + n) → Due (perform event c) (ahead_of weight events + n)
  spend_event event events c n s h =
      let same : (weight event + ahead_of weight events) + n ≡ weight event + (ahead_of weight events + n) = omega arith in
      w.in_event event events c (ahead_of weight events + n) s (subst (Due c) same h)

  spend_before : (events : List Event) (c : ChipState) (n : ℕ) → IsSound (record { chip = c; ahead = events }) →
      Due c (ahead_of weight events + n) → Due (before_access events c) (ahead_of weight (after_access events) + n)
  spend_before [] c n s h = w.in_tick c _ s.chip h
  spend_before (Gate ∷ events) c n s h = spend_event Gate events c n s h
  spend_before (Mark ∷ events) c n s h = w.in_tick c _ s.chip h
  spend_before (event ∷ events) c n s h =
      spend_before events (perform event c) n (sound_perform event events c s) (spend_event event events c n s h)

  spend_mark : (events : List Event) (c : ChipState) (n : ℕ) → IsSound (record { chip = c; ahead = events }) →
      Due c (ahead_of weight events + n) → Due (before_mark events c) n
  spend_mark [] c n s h = let none : 0 + n ≡ n = omega arith in subst (Due c) none h
  spend_mark (Mark ∷ events) c n s h = let none : 0 + n ≡ n = omega arith in subst (Due c) none h
  spend_mark (event ∷ events) c n s h =
      spend_mark events (perform event c) n (sound_perform event events c s) (spend_event event events c n s h)

  -- what is due of a machine, whose schedule may bring some of it
  abbrev pub DueAt : MachineState → ℕ → Type 0
  DueAt m n = Due m.chip (ahead_of weight m.ahead + n)

  spend_access : (m : MachineState) (n : ℕ) → IsSound m → DueAt m n → DueAt (at_access m) n
  spend_access m n s h = spend_before m.ahead m.chip n (record { chip = s.chip; foreseen = s.foreseen; legal = s.legal }) h

  spend_path : (made : List Access) (m o : MachineState) (n : ℕ) → IsSound m → AllMild made → DueAt m n → Path MachineStep m made o →
      DueAt o n
  spend_path [] m o n s mild h path = rw path h
  spend_path (Read offset value ∷ made) m o n s mild h (mid, step, rest) =
      let now = spend_access m n s h in
      let next : DueAt mid n = rw step.0 (w.in_read offset (at_access m).chip _ (sound_access m s).chip now) in
      spend_path made mid o n (sound_step m mid (Read offset value) s step) mild.1 next rest
  spend_path (Write offset value ∷ made) m o n s mild h (mid, step, rest) =
      let now = spend_access m n s h in
      let next : DueAt mid n = rw step (w.in_write offset value (at_access m).chip _ mild.0 (sound_access m s).chip now) in
      spend_path made mid o n (sound_step m mid (Write offset value) s step) mild.1 next rest

  spend_settled : (m : MachineState) (n : ℕ) → IsSound m → DueAt m n → Due (settled m).chip n
  spend_settled m n s h = spend_mark m.ahead m.chip n (record { chip = s.chip; foreseen = s.foreseen; legal = s.legal }) h

  -- a call at an end: what its moments bring is due no more
  pub spend_call : (x : Modes) (moments : List Moment) (there s t : RingState) (c : RingCall) (a : RingAnswer) (amount n : ℕ) → InEnd x s →
      EndStep moments there s c a t →
      (Due (settled (ring_machine s)).chip (amount + n) → DueAt (arranged moments (ring_machine there).chip (ring_machine s)) n) →
      DueAt (ring_machine s) (amount + n) → DueAt (ring_machine t) n
  spend_call x moments there s t c a amount n e h arrange due =
      let m = ring_machine s in
      let begins = ring_machine h.begins in
      let b = end_begins x moments there s t c a e h in
      let D : MachineState → Type 0 = λ o. DueAt o n in
      let first : DueAt begins n =
      subst D (sym h.arranges.machine) (arrange (spend_settled m (amount + n) e.session.stands.sound due)) in
      by first b.session (calm_call x h.begins t c a b.session h.called)
    where
      by : DueAt (ring_machine h.begins) n → InEnd x h.begins →
          ((made : List Access) × Path MachineStep (ring_machine h.begins) made (ring_machine t) × AllMild made)
          ⊎ (ring_machine t ≡ settled (ring_machine h.begins)) → DueAt (ring_machine t) n
      by first e (inl d) = spend_path d.0 (ring_machine h.begins) (ring_machine t) n e.session.stands.sound d.2 first d.1
      by first e (inr same) =
          let D : MachineState → Type 0 = λ o. DueAt o n in
          let none : n ≡ 0 + n = omega arith in
          subst D (sym same) (subst (Due (settled (ring_machine h.begins)).chip) none
          (spend_settled (ring_machine h.begins) n e.session.stands.sound first))
