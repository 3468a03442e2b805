-- The receiver of a chip is never so late that a character is dropped.
use Rattle.uart_latency.proofs.Names.{◌≡◌, ℕ, zero, suc, ◌+◌, ◌-◌, ◌*◌, ◌≤◌, ◌<◌, ◌==◌, ◌⊎◌, inl, inr, Bool, true, false, not, nat_le}
use Rattle.uart_latency.proofs.Names.{nat_lt, List, [], ◌∷◌, length, refl, sym, ◌∙◌, ap, subst, arith, if◌then◌else◌, common_steps}
use Rattle.uart_latency.proofs.Names.{nat_tests, mul-le-mul_right, Path, characters, Access, Read, Write, Event, Ticks, Arrive, Lines, Gate}
use Rattle.uart_latency.proofs.Names.{Mark, ChipState, is_loopback, is_dlab_set, tick, ticks, arrive, change_lines, after_read, after_write}
use Rattle.uart_latency.proofs.Names.{MachineState, MachineStep, before_access, after_access, at_access, before_mark, after_mark, at_mark}
use Rattle.uart_latency.proofs.Names.{ReceiverState, characters_of, is_data_pending, Drop, drop_split, some_characters, SpacedAfter}
use Rattle.uart_latency.proofs.Names.{late_if, late_at, late_to_mark, given_back, IsPrompt, AreSpaced}
use Rattle.uart_spec.specs.declared.registers.offsets.TheConstants as offsets
use Rattle.uart_latency.proofs.Moves.{IsCalm, calm_tick, calm_lines, calm_read, calm_write, arrives, read_takes}
use Rattle.uart_latency.proofs.{Moves.calm_none, Moves.calm_then, Moves.tick_keeps, Moves.no_drop_same, Arriving.level_most, Told.IsTold}
use Rattle.uart_latency.proofs.{Told.told_tick, Told.told_arrives, Tame.AllTame}

-- ---- numbers

-- so late, if the level is reached
abbrev late_with : (reached : Bool) → ℕ → ℕ
late_with reached late = if reached then late else 0

-- with trigger level l so many wait, it is so late, and so many ticks have passed since the last character: those above the level came
-- in the time for which it is late
pub record Numbers (t d l q late passed : ℕ) : Type 0 where
  pub few : late ≤ d → l ≤ q → q * t + passed ≤ late + l * t
  pub idle : q < l → late ≡ 0

-- later than before
record Later (t d l q before late passed : ℕ) : Type 0 where
  pub numbers : Numbers t d l q late passed
  pub later : before ≤ late

-- some ticks pass, of which at least as many are counted
idles : (t d l q v late passed j k : ℕ) → v ≡ q → j ≤ k → Numbers t d l q late passed →
    Later t d l v late (late_with (nat_le l v) (late + k)) (passed + j)
idles t d l q v late passed j k same less n = go (nat_le l v) refl
  where
    go : (b : Bool) → nat_le l v ≡ b → Later t d l v late (late_with b (late + k)) (passed + j)
    go true e =
        let times : v * t ≡ q * t = ap (λ x. x * t) same in
        record {
          numbers = record {
            few = λ early reached. let h = n.few (omega (arith, early)) (omega (arith, reached, same)) in omega (arith, h, times, less);
            idle = λ below. let reached : l ≤ v = grind (arith, common_steps) in absurd (omega (arith, below, reached));
          };
          later = omega arith;
        }
    go false e =
        let below : v < l = grind (arith, common_steps) in
        record {
          numbers = record { few = λ early reached. absurd (omega (arith, below, reached)); idle = λ below. refl };
          later = let none = n.idle (omega (arith, below, same)) in omega (arith, none);
        }

-- a character comes, t ticks or more after the last
comes : (t d l q v late passed : ℕ) → q ≤ v → v ≤ q + 1 → t ≤ passed → Numbers t d l q late passed →
    Later t d l v late (late_with (nat_le l v) (late + 0)) 0
comes t d l q v late passed stays fewer spaced n = go (nat_le l v) refl
  where
    times : v * t ≤ q * t + t
    times = let h = mul-le-mul_right t fewer in omega (arith, h)

    few : late ≤ d → l ≤ v → v * t + 0 ≤ late + l * t
    few early reached = at (nat_le l q) refl
      where
        at : (b : Bool) → nat_le l q ≡ b → v * t + 0 ≤ late + l * t
        at true e =
            let before : l ≤ q = grind (arith, common_steps) in
            let h = n.few early before in omega (arith, h, times, spaced)
        at false e =
            let before : q < l = grind (arith, common_steps) in
            let same : v ≤ l = omega (arith, before, fewer) in
            let h = mul-le-mul_right t same in omega (arith, h)

    go : (b : Bool) → nat_le l v ≡ b → Later t d l v late (late_with b (late + 0)) 0
    go true e = record {
      numbers = record {
        few = λ early reached. let h = few (omega (arith, early)) reached in omega (arith, h);
        idle = λ below. let reached : l ≤ v = grind (arith, common_steps) in absurd (omega (arith, below, reached));
      };
      later = omega arith;
    }
    go false e =
        let below : v < l = grind (arith, common_steps) in
        record {
          numbers = record { few = λ early reached. absurd (omega (arith, below, reached)); idle = λ below. refl };
          later = let none = n.idle (omega (arith, below, stays)) in omega (arith, none);
        }

-- there is room for it
has_room : (t d l f q late passed : ℕ) → l ≤ f → d < (f - l + 1) * t → t ≤ passed → late ≤ d → Numbers t d l q late passed → q < f
has_room t d l f q late passed fits early spaced now n = go (nat_le f q) refl
  where
    go : (b : Bool) → nat_le f q ≡ b → q < f
    go true e =
        let full : f ≤ q = grind (arith, common_steps) in
        let h = n.few now (omega (arith, fits, full)) in
        let times = mul-le-mul_right t full in
        let parts : f - l + l ≡ f = omega (arith, fits) in
        let split : (f - l) * t + l * t ≡ f * t = omega (arith, ap (λ x. x * t) parts) in
        absurd (omega (arith, h, times, split, early, spaced, now))
    go false e = grind (arith, common_steps)

-- an access takes none of those that wait, and gives no time back; or it takes one; or fewer are left than the trigger level
abbrev IsTaken : (t l q v back : ℕ) → Type 0
IsTaken t l q v back = (back ≡ 0) ⊎ ((back ≡ t) × (v + 1 ≡ q)) ⊎ (v < l)

accesses : (t d l q v now passed back : ℕ) → v ≤ q → IsTaken t l q v back → now ≤ d → Numbers t d l q now passed →
    Numbers t d l v (late_with (nat_le l v) (now - back)) passed
accesses t d l q v now passed back less taken early n = go (nat_le l v) refl
  where
    few : l ≤ v → IsTaken t l q v back → v * t + passed ≤ (now - back) + l * t
    few reached (inl none) =
        let h = n.few early (omega (arith, reached, less)) in
        let times = mul-le-mul_right t less in omega (arith, h, times, none)
    few reached (inr (inr below)) = absurd (omega (arith, reached, below))
    few reached (inr (inl (one, next))) =
        let h = n.few early (omega (arith, reached, next)) in
        let times : v * t + t ≡ q * t = omega (arith, ap (λ x. x * t) next) in
        let most = mul-le-mul_right t reached in omega (arith, h, times, most, one)

    go : (b : Bool) → nat_le l v ≡ b → Numbers t d l v (late_with b (now - back)) passed
    go true e = record {
      few = λ now reached. few reached taken;
      idle = λ below. let reached : l ≤ v = grind (arith, common_steps) in absurd (omega (arith, below, reached));
    }
    go false e =
        let below : v < l = grind (arith, common_steps) in
        record { few = λ early reached. absurd (omega (arith, below, reached)); idle = λ below. refl }

-- ---- the chip

-- ticks and changes of the modem's lines leave what waits
record Idles (c d : ChipState) : Type 0 where
  pub calm : IsCalm c d
  pub same : length d.receiver.queue ≡ length c.receiver.queue

idles_ticks : (n : ℕ) (c : ChipState) → is_loopback c.latches ≡ false → Idles c (ticks n c)
idles_ticks zero c off = record { calm = calm_none c off; same = refl }
idles_ticks (suc n) c off =
    let before = idles_ticks n c off in
    let one = calm_tick (ticks n c) before.calm.loopback in
    record { calm = calm_then c (ticks n c) _ before.calm one; same = tick_keeps (ticks n c) before.calm.loopback ∙ before.same }

told_ticks : (n : ℕ) (c : ChipState) → is_loopback c.latches ≡ false → IsTold c.receiver → IsTold (ticks n c).receiver
told_ticks zero c off h = h
told_ticks (suc n) c off h = told_tick (ticks n c) (idles_ticks n c off).calm.loopback (told_ticks n c off h)

-- from the receiver r to the chip c, if a character takes t ticks, and its time and the room that is left are more than d
pub record IsBehind (t d : ℕ) (r : ReceiverState) (late passed : ℕ) (c : ChipState) : Type 0 where
  pub fifo : c.fifo ≡ true
  pub dlab : is_dlab_set c.latches ≡ false
  pub loopback : is_loopback c.latches ≡ false
  pub size : c.receiver.size ≡ r.size
  pub trigger : c.receiver.trigger ≡ r.trigger
  pub numbers : Numbers t d (characters_of r.size r.trigger) (length c.receiver.queue) late passed
  pub whole : late ≤ d → Drop r c.receiver → ⊥

module _ (t d : ℕ) (r : ReceiverState) (early : d < (characters r.size - characters_of r.size r.trigger + 1) * t) where
  abbrev l : ℕ
  l = characters_of r.size r.trigger

  -- so late it is then
  late_is : (c : ChipState) (late : ℕ) → c.fifo ≡ true → c.receiver.size ≡ r.size → c.receiver.trigger ≡ r.trigger →
      late_with (nat_le l (length c.receiver.queue)) late ≡ late_if late c
  late_is c late fifo size trigger =
      let waits = length c.receiver.queue in
      sym (ap (λ b. late_with (if b then nat_le (characters_of c.receiver.size c.receiver.trigger) waits else nat_lt 0 waits) late) fifo
      ∙ (ap (λ size. if nat_le (characters_of size c.receiver.trigger) waits then late else 0) size
      ∙ ap (λ trigger. if nat_le (characters_of r.size trigger) waits then late else 0) trigger))

  -- as many wait as the trigger level
  pub pending_is : (c : ChipState) → c.fifo ≡ true → c.receiver.size ≡ r.size → c.receiver.trigger ≡ r.trigger →
      is_data_pending c.fifo c.receiver ≡ nat_le (characters_of r.size r.trigger) (length c.receiver.queue)
  pending_is c fifo size trigger =
      let waits = length c.receiver.queue in
      ap (λ b. if b then nat_le (characters_of c.receiver.size c.receiver.trigger) waits else nat_lt 0 waits) fifo
      ∙ (ap (λ size. nat_le (characters_of size c.receiver.trigger) waits) size
      ∙ ap (λ trigger. nat_le (characters_of r.size trigger) waits) trigger)

  behind_idles : (c e : ChipState) (late passed j k : ℕ) → Idles c e → j ≤ k → IsBehind t d r late passed c →
      IsBehind t d r (late_if (late + k) e) (passed + j) e
  behind_idles c e late passed j k i less h =
      let fifo = i.calm.fifo ∙ h.fifo in
      let size = i.calm.still.size ∙ h.size in
      let trigger = i.calm.still.trigger ∙ h.trigger in
      let n = idles t d l (length c.receiver.queue) (length e.receiver.queue) late passed j k i.same less h.numbers in
      let is = late_is e (late + k) fifo size trigger in
      let N : ℕ → Type 0 = λ x. Numbers t d l (length e.receiver.queue) x (passed + j) in
      record {
        fifo = fifo;
        dlab = i.calm.dlab ∙ h.dlab;
        loopback = i.calm.loopback;
        size = size;
        trigger = trigger;
        numbers = subst N is n.numbers;
        whole = λ now drop. split (let later = n.later in omega (arith, later, now, is)) (drop_split r c.receiver _ drop);
      }
    where
      split : late ≤ d → Drop r c.receiver ⊎ Drop c.receiver e.receiver → ⊥
      split now (inl drop) = h.whole now drop
      split now (inr drop) = i.calm.still.whole drop

  behind_arrives : (byte errors : ℕ) (c : ChipState) (late passed : ℕ) → t ≤ passed → IsBehind t d r late passed c →
      IsBehind t d r (late_if (late + 0) (arrive byte errors c)) 0 (arrive byte errors c)
  behind_arrives byte errors c late passed spaced h =
      let e = arrive byte errors c in
      let a = arrives byte errors c h.fifo h.loopback in
      let size = a.size ∙ h.size in
      let trigger = a.trigger ∙ h.trigger in
      let n = comes t d l (length c.receiver.queue) (length e.receiver.queue) late passed a.stays a.fewer spaced h.numbers in
      let is = late_is e (late + 0) h.fifo size trigger in
      let N : ℕ → Type 0 = λ x. Numbers t d l (length e.receiver.queue) x 0 in
      record {
        fifo = h.fifo;
        dlab = h.dlab;
        loopback = h.loopback;
        size = size;
        trigger = trigger;
        numbers = subst N is n.numbers;
        whole = λ now drop. split a.whole (let later = n.later in omega (arith, later, now, is)) (drop_split r c.receiver _ drop);
      }
    where
      free : late ≤ d → length c.receiver.queue < characters c.receiver.size
      free now =
          let same = ap characters h.size in
          let room = has_room t d l (characters r.size) (length c.receiver.queue) late passed (level_most r.size r.trigger) early spaced
          now h.numbers in
          omega (arith, room, same)

      split : (length c.receiver.queue < characters c.receiver.size → Drop c.receiver (arrive byte errors c).receiver → ⊥) → late ≤ d →
          Drop r c.receiver ⊎ Drop c.receiver (arrive byte errors c).receiver → ⊥
      split whole now (inl drop) = h.whole now drop
      split whole now (inr drop) = whole (free now) drop

  -- an event that is none of the program's
  pub record After (events : List Event) (late : ℕ) (c : ChipState) : Type 0 where
    pub passed : ℕ
    pub spaced : SpacedAfter t passed events
    pub behind : IsBehind t d r late passed c

  after_ticks : (n : ℕ) (events : List Event) (late : ℕ) (c : ChipState) → After (Ticks n ∷ events) late c →
      After events (late_if (late + n) (ticks n c)) (ticks n c)
  after_ticks n events late c h = record {
    passed = h.passed + n;
    spaced = h.spaced;
    behind = behind_idles c (ticks n c) late h.passed n n (idles_ticks n c h.behind.loopback) (omega arith) h.behind;
  }

  after_arrival : (byte errors : ℕ) (events : List Event) (late : ℕ) (c : ChipState) → After (Arrive byte errors ∷ events) late c →
      After events (late_if (late + 0) (arrive byte errors c)) (arrive byte errors c)
  after_arrival byte errors events late c h =
      record { passed = 0; spaced = h.spaced.1; behind = behind_arrives byte errors c late h.passed h.spaced.0 h.behind }

  after_lines : (inputs : ℕ) (events : List Event) (late : ℕ) (c : ChipState) → After (Lines inputs ∷ events) late c →
      After events (late_if (late + 0) (change_lines inputs c)) (change_lines inputs c)
  after_lines inputs events late c h = record {
    passed = h.passed + 0;
    spaced = let S : ℕ → Type 0 = λ p. SpacedAfter t p events in subst S (omega arith) h.spaced;
    behind = behind_idles c (change_lines inputs c) late h.passed 0 0
        (record { calm = calm_lines inputs c h.behind.loopback; same = refl }) (omega arith) h.behind;
  }

  -- one tick more, which the schedule has not
  after_tick : (events : List Event) (late : ℕ) (c : ChipState) → After events late c → After events (late_if (late + 1) (tick c)) (tick c)
  after_tick events late c h = record {
    passed = h.passed + 0;
    spaced = let S : ℕ → Type 0 = λ p. SpacedAfter t p events in subst S (omega arith) h.spaced;
    behind = behind_idles c (tick c) late h.passed 0 1
        (record { calm = calm_tick c h.behind.loopback; same = tick_keeps c h.behind.loopback }) (omega arith) h.behind;
  }

  -- up to an access
  pub after_before : (events : List Event) (late : ℕ) (c : ChipState) → After events late c →
      After (after_access events) (late_at late events c) (before_access events c)
  after_before [] late c h = after_tick [] late c h
  after_before (Gate ∷ events) late c h = record { passed = h.passed; spaced = h.spaced; behind = h.behind }
  after_before (Mark ∷ events) late c h = after_tick (Mark ∷ events) late c h
  after_before (Ticks n ∷ events) late c h = after_before events _ (ticks n c) (after_ticks n events late c h)
  after_before (Arrive byte errors ∷ events) late c h =
      after_before events _ (arrive byte errors c) (after_arrival byte errors events late c h)
  after_before (Lines inputs ∷ events) late c h = after_before events _ (change_lines inputs c) (after_lines inputs events late c h)

  -- it is no earlier than before, as long as as many wait
  later_if : (c e : ChipState) (late passed k : ℕ) → IsBehind t d r late passed c → e.fifo ≡ true → e.receiver.size ≡ r.size →
      e.receiver.trigger ≡ r.trigger → length c.receiver.queue ≤ length e.receiver.queue → late ≤ late_if (late + k) e
  later_if c e late passed k h fifo size trigger stays =
      let is = late_is e (late + k) fifo size trigger in
      let more = go (nat_le l (length e.receiver.queue)) refl in
      omega (arith, is, more)
    where
      go : (b : Bool) → nat_le l (length e.receiver.queue) ≡ b → late ≤ late_with b (late + k)
      go true p = omega arith
      go false p =
          let below : length e.receiver.queue < l = grind (arith, common_steps) in
          let none = h.numbers.idle (omega (arith, below, stays)) in
          omega (arith, none)

  later_idles : (c e : ChipState) (late passed k : ℕ) → Idles c e → IsBehind t d r late passed c → late ≤ late_if (late + k) e
  later_idles c e late passed k i h =
      let same = i.same in
      later_if c e late passed k h (i.calm.fifo ∙ h.fifo) (i.calm.still.size ∙ h.size) (i.calm.still.trigger ∙ h.trigger)
      (omega (arith, same))

  -- from one chip to a later one at least as many wait, and it is no earlier
  pub record Passes (late : ℕ) (c : ChipState) (now : ℕ) (e : ChipState) : Type 0 where
    pub stays : length c.receiver.queue ≤ length e.receiver.queue
    pub later : late ≤ now

  passes_on : (late : ℕ) (c : ChipState) (now : ℕ) (e : ChipState) (last : ℕ) (f : ChipState) → Passes late c now e → Passes now e last f →
      Passes late c last f
  passes_on late c now e last f a b =
      let first = a.stays in
      let second = b.stays in
      let soon = a.later in
      let next = b.later in
      record { stays = omega (arith, first, second); later = omega (arith, soon, next) }

  passes_tick : (events : List Event) (late : ℕ) (c : ChipState) → After events late c →
      Passes late c (late_if (late + 1) (tick c)) (tick c)
  passes_tick events late c h =
      let same = tick_keeps c h.behind.loopback in
      let i : Idles c (tick c) = record { calm = calm_tick c h.behind.loopback; same = same } in
      record { stays = omega (arith, same); later = later_idles c (tick c) late h.passed 1 i h.behind }

  passes_ticks : (n : ℕ) (events : List Event) (late : ℕ) (c : ChipState) → After events late c →
      Passes late c (late_if (late + n) (ticks n c)) (ticks n c)
  passes_ticks n events late c h =
      let i = idles_ticks n c h.behind.loopback in
      let same = i.same in
      record { stays = omega (arith, same); later = later_idles c (ticks n c) late h.passed n i h.behind }

  passes_arrival : (byte errors : ℕ) (events : List Event) (late : ℕ) (c : ChipState) → After events late c →
      Passes late c (late_if (late + 0) (arrive byte errors c)) (arrive byte errors c)
  passes_arrival byte errors events late c h =
      let a = arrives byte errors c h.behind.fifo h.behind.loopback in
      record {
        stays = a.stays;
        later = later_if c (arrive byte errors c) late h.passed 0 h.behind h.behind.fifo (a.size ∙ h.behind.size)
            (a.trigger ∙ h.behind.trigger) a.stays;
      }

  passes_lines : (inputs : ℕ) (events : List Event) (late : ℕ) (c : ChipState) → After events late c →
      Passes late c (late_if (late + 0) (change_lines inputs c)) (change_lines inputs c)
  passes_lines inputs events late c h =
      let i : Idles c (change_lines inputs c) = record { calm = calm_lines inputs c h.behind.loopback; same = refl } in
      record { stays = omega arith; later = later_idles c (change_lines inputs c) late h.passed 0 i h.behind }

  pub passes_before : (events : List Event) (late : ℕ) (c : ChipState) → After events late c →
      Passes late c (late_at late events c) (before_access events c)
  passes_before [] late c h = passes_tick [] late c h
  passes_before (Gate ∷ events) late c h = record { stays = omega arith; later = omega arith }
  passes_before (Mark ∷ events) late c h = passes_tick (Mark ∷ events) late c h
  passes_before (Ticks n ∷ events) late c h =
      passes_on late c _ (ticks n c) _ _ (passes_ticks n (Ticks n ∷ events) late c h)
      (passes_before events _ (ticks n c) (after_ticks n events late c h))
  passes_before (Arrive byte errors ∷ events) late c h =
      passes_on late c _ (arrive byte errors c) _ _ (passes_arrival byte errors (Arrive byte errors ∷ events) late c h)
      (passes_before events _ (arrive byte errors c) (after_arrival byte errors events late c h))
  passes_before (Lines inputs ∷ events) late c h =
      passes_on late c _ (change_lines inputs c) _ _ (passes_lines inputs (Lines inputs ∷ events) late c h)
      (passes_before events _ (change_lines inputs c) (after_lines inputs events late c h))

  -- up to an access that is found in time no line error comes
  pub told_before : (events : List Event) (late : ℕ) (c : ChipState) → After events late c → IsTold c.receiver →
      late_at late events c ≤ d → IsTold (before_access events c).receiver
  told_before [] late c h told few = told_tick c h.behind.loopback told
  told_before (Gate ∷ events) late c h told few = told
  told_before (Mark ∷ events) late c h told few = told_tick c h.behind.loopback told
  told_before (Ticks n ∷ events) late c h told few =
      told_before events _ (ticks n c) (after_ticks n events late c h) (told_ticks n c h.behind.loopback told) few
  told_before (Arrive byte errors ∷ events) late c h told few =
      let next = after_arrival byte errors events late c h in
      let first = (passes_arrival byte errors (Arrive byte errors ∷ events) late c h).later in
      let others = (passes_before events _ (arrive byte errors c) next).later in
      let now : late ≤ d = omega (arith, first, others, few) in
      let same = ap characters h.behind.size in
      let room = has_room t d l (characters r.size) (length c.receiver.queue) late h.passed (level_most r.size r.trigger) early h.spaced.0
      now h.behind.numbers in
      told_before events _ (arrive byte errors c) next
      (told_arrives byte errors c h.behind.fifo h.behind.loopback (omega (arith, room, same)) told) few
  told_before (Lines inputs ∷ events) late c h told few =
      told_before events _ (change_lines inputs c) (after_lines inputs events late c h) told few

  -- up to a Mark
  after_to_mark : (events : List Event) (late : ℕ) (c : ChipState) → After events late c →
      After (after_mark events) (late_to_mark late events c) (before_mark events c)
  after_to_mark [] late c h = h
  after_to_mark (Mark ∷ events) late c h = record { passed = h.passed; spaced = h.spaced; behind = h.behind }
  after_to_mark (Gate ∷ events) late c h =
      after_to_mark events _ c (record {
        passed = h.passed + 0;
        spaced = let S : ℕ → Type 0 = λ p. SpacedAfter t p events in subst S (omega arith) h.spaced;
        behind = behind_idles c c late h.passed 0 0 (record { calm = calm_none c h.behind.loopback; same = refl }) (omega arith) h.behind;
      })
  after_to_mark (Ticks n ∷ events) late c h = after_to_mark events _ (ticks n c) (after_ticks n events late c h)
  after_to_mark (Arrive byte errors ∷ events) late c h =
      after_to_mark events _ (arrive byte errors c) (after_arrival byte errors events late c h)
  after_to_mark (Lines inputs ∷ events) late c h = after_to_mark events _ (change_lines inputs c) (after_lines inputs events late c h)

  -- ---- accesses

  late_most : (b : Bool) (n : ℕ) → late_with b n ≤ n
  late_most true n = omega arith
  late_most false n = omega arith

  -- what is known of a machine between two accesses
  pub record IsEarlyAt (late : ℕ) (m : MachineState) : Type 0 where
    pub after : After m.ahead late m.chip
    pub few : late ≤ d

  pub after_step : (c e : ChipState) (events : List Event) (now back : ℕ) → IsCalm c e →
      IsTaken t l (length c.receiver.queue) (length e.receiver.queue) back → now ≤ d → After events now c →
      IsEarlyAt (late_if (now - back) e) (record { chip = e; ahead = events })
  after_step c e events now back calm taken few h =
      let fifo = calm.fifo ∙ h.behind.fifo in
      let size = calm.still.size ∙ h.behind.size in
      let trigger = calm.still.trigger ∙ h.behind.trigger in
      let n = accesses t d l (length c.receiver.queue) (length e.receiver.queue) now h.passed back calm.still.fewer taken few
      h.behind.numbers in
      let is = late_is e (now - back) fifo size trigger in
      let N : ℕ → Type 0 = λ x. Numbers t d l (length e.receiver.queue) x h.passed in
      record {
        after = record {
          passed = h.passed;
          spaced = h.spaced;
          behind = record {
            fifo = fifo;
            dlab = calm.dlab ∙ h.behind.dlab;
            loopback = calm.loopback;
            size = size;
            trigger = trigger;
            numbers = subst N is n;
            whole = λ late drop. split (h.behind.whole few) (drop_split r c.receiver _ drop);
          };
        };
        few = let most = late_most (nat_le l (length e.receiver.queue)) (now - back) in omega (arith, most, few, is);
      }
    where
      split : (Drop r c.receiver → ⊥) → Drop r c.receiver ⊎ Drop c.receiver e.receiver → ⊥
      split none (inl drop) = none drop
      split none (inr drop) = calm.still.whole drop

  -- a read of DATA takes one of those that wait
  read_taken : (offset value : ℕ) (c : ChipState) → is_dlab_set c.latches ≡ false → is_loopback c.latches ≡ false →
      IsTaken t l (length c.receiver.queue) (length (after_read offset c).receiver.queue) (given_back t (Read offset value))
  read_taken offset value c dlab off = go (offset == offsets.DATA) refl
    where
      reads : (b : Bool) → nat_le 1 (length c.receiver.queue) ≡ b →
          IsTaken t l (length c.receiver.queue) (length (after_read offsets.DATA c).receiver.queue) t
      reads true e =
          let some : 1 ≤ length c.receiver.queue = grind (arith, common_steps) in inr (inl (refl, read_takes c dlab some))
      reads false e =
          let none : length c.receiver.queue < 1 = grind (arith, common_steps) in
          let less = (calm_read offsets.DATA c off).still.fewer in
          let one = some_characters r.size r.trigger in inr (inr (omega (arith, none, less, one)))

      go : (b : Bool) → (offset == offsets.DATA) ≡ b →
          IsTaken t l (length c.receiver.queue) (length (after_read offset c).receiver.queue) (if b then t else 0)
      go true e = let is : offset ≡ offsets.DATA = grind (arith, nat_tests) in rw is (reads (nat_le 1 (length c.receiver.queue)) refl)
      go false e = inl refl

  -- these accesses
  pub prompt_path : (made : List Access) (late after : ℕ) (m n : MachineState) (path : Path MachineStep m made n) → AllTame made →
      IsPrompt t d late after made m n path → IsEarlyAt late m → IsEarlyAt after n
  prompt_path [] late after m n path tame prompt h =
      let M : MachineState → Type 0 = λ o. IsEarlyAt late o in
      let L : ℕ → Type 0 = λ x. IsEarlyAt x n in subst L (sym prompt) (subst M (sym path) h)
  prompt_path (Read offset value ∷ made) late after m n (mid, step, rest) tame prompt h =
      let c = (at_access m).chip in
      let now = late_at late m.ahead m.chip in
      let back = given_back t (Read offset value) in
      let at = after_before m.ahead late m.chip h.after in
      let next = after_step c (after_read offset c) (after_access m.ahead) now back (calm_read offset c at.behind.loopback)
      (read_taken offset value c at.behind.dlab at.behind.loopback) prompt.0 at in
      let M : MachineState → Type 0 = λ o. IsEarlyAt (late_if (now - back) o.chip) o in
      prompt_path made (late_if (now - back) mid.chip) after mid n rest tame.1 prompt.1 (subst M (sym step.0) next)
  prompt_path (Write offset value ∷ made) late after m n (mid, step, rest) tame prompt h =
      let c = (at_access m).chip in
      let now = late_at late m.ahead m.chip in
      let at = after_before m.ahead late m.chip h.after in
      let next = after_step c (after_write offset value c) (after_access m.ahead) now 0
      (calm_write offset value c tame.0 at.behind.loopback) (inl refl) prompt.0 at in
      let M : MachineState → Type 0 = λ o. IsEarlyAt (late_if (now - 0) o.chip) o in
      prompt_path made (late_if (now - 0) mid.chip) after mid n rest tame.1 prompt.1 (subst M (sym step) next)

  -- up to the next Mark
  pub prompt_mark : (late : ℕ) (m n : MachineState) → n ≡ at_mark m → late_to_mark late m.ahead m.chip ≤ d → IsEarlyAt late m →
      IsEarlyAt (late_to_mark late m.ahead m.chip) n
  prompt_mark late m n is few h =
      let M : MachineState → Type 0 = λ o. IsEarlyAt (late_to_mark late m.ahead m.chip) o in
      subst M (sym is) (record { after = after_to_mark m.ahead late m.chip h.after; few = few })

-- at first
pub early_first : (t d : ℕ) (m : MachineState) →
    (early : d < (characters m.chip.receiver.size - characters_of m.chip.receiver.size m.chip.receiver.trigger + 1) * t) →
    m.chip.fifo ≡ true → is_dlab_set m.chip.latches ≡ false → is_loopback m.chip.latches ≡ false →
    not (is_data_pending m.chip.fifo m.chip.receiver) ≡ true → AreSpaced t m.ahead → IsEarlyAt t d m.chip.receiver early 0 m
early_first t d m early fifo dlab loopback below spaced =
    let r = m.chip.receiver in
    let c = m.chip in
    let low : not (nat_le (characters_of r.size r.trigger) (length r.queue)) ≡ true =
    ap (λ b. not (if b then nat_le (characters_of r.size r.trigger) (length r.queue) else nat_lt 0 (length r.queue))) (sym fifo) ∙ below in
    record {
      after = record {
        passed = t;
        spaced = spaced;
        behind = record {
          fifo = fifo;
          dlab = dlab;
          loopback = loopback;
          size = refl;
          trigger = refl;
          numbers = record {
            few = λ now reached. absurd (above (nat_le (characters_of r.size r.trigger) (length r.queue)) refl low reached);
            idle = λ q. refl;
          };
          whole = λ now drop. no_drop_same r r refl refl drop;
        };
      };
      few = omega arith;
    }
  where
    r : ReceiverState
    r = m.chip.receiver

    above : (b : Bool) → nat_le (characters_of r.size r.trigger) (length r.queue) ≡ b → not b ≡ true →
        characters_of r.size r.trigger ≤ length r.queue → ⊥
    above true e low reached = absurd (cc (low))
    above false e low reached =
        let q : length r.queue < characters_of r.size r.trigger = grind (arith, common_steps) in omega (arith, q, reached)
