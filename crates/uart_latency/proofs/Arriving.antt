-- Characters arrive in time: none is dropped.
use Rattle.uart_latency.proofs.Names.{All, All-head, All-tail, ◌≡◌, ℕ, ◌+◌, ◌-◌, ◌≤◌, ◌<◌, ◌⊎◌, inl, inr, Bool, true, false, List, [], ◌∷◌}
use Rattle.uart_latency.proofs.Names.{length, refl, sym, ◌∙◌, ap, subst, arith, if◌then◌else◌, Path, characters, Access, FifoSize, Sixteen}
use Rattle.uart_latency.proofs.Names.{ThirtyTwo, SixtyFour, OneHundredTwentyEight, TwoHundredFiftySix, FifoTriggerLevel, One, Four, Eight}
use Rattle.uart_latency.proofs.Names.{Fourteen, Read, Write, Event, ChipState, is_loopback, is_dlab_set, arrive, after_read, after_write}
use Rattle.uart_latency.proofs.Names.{MachineState, MachineStep, at_access, before_mark, ReceiverState, by_level, characters_of, Drop}
use Rattle.uart_latency.proofs.Names.{drop_split, ring_fields, free, rts_at, RingCall, RingAnswer, RingState, ring_machine, IsOfRings}
use Rattle.uart_latency.proofs.Names.{RingCallStep, RingLink, RingChain, under, Ready, IsDrop, drop_receivers, false≢true, MakesBlocks}
use Rattle.uart_latency.proofs.Names.{in_blocks, receiver_of, waits, level, spare, is_below_level, arrived_in, since_level, AllInTime}
use Rattle.uart_chip.proofs.lasting.Lasting.{LastsInEvents, chip_lasts-before, chip_lasts-before_mark}
use Rattle.uart_ring_runs.specs.declared.call.RingCall.TheVariants as call
use Rattle.uart_run.specs.Chains.{calls_of}
use Rattle.uart_ring_runs.proofs.RingMeanings.{meaning_of}
use Rattle.uart_latency.proofs.Moves.{IsCalm, Enters, calm_tick, calm_lines, calm_read, calm_write, arrives}
use Rattle.uart_latency.proofs.{Moves.no_drop_same, Tame.AllTame, Tame.tame_blocks, Tame.tame_rts}

-- ---- a stretch

-- from the receiver r to the chip c: how many have arrived, how many wait at most, and that none was dropped as long as no more than
-- `last` have arrived
pub record Stretch (r : ReceiverState) (last : ℕ) (c : ChipState) : Type 0 where
  pub fifo : c.fifo ≡ true
  pub dlab : is_dlab_set c.latches ≡ false
  pub loopback : is_loopback c.latches ≡ false
  pub size : c.receiver.size ≡ r.size
  pub trigger : c.receiver.trigger ≡ r.trigger
  pub grows : r.arrived ≤ c.receiver.arrived
  pub fewer : length c.receiver.queue + r.arrived ≤ length r.queue + c.receiver.arrived
  pub whole : c.receiver.arrived ≤ last → Drop r c.receiver → ⊥

-- there is room for all that arrive up to then
module _ (r : ReceiverState) (last : ℕ) (room : length r.queue + last ≤ characters r.size + r.arrived) where
  stretch_calm : (c d : ChipState) → IsCalm c d → Stretch r last c → Stretch r last d
  stretch_calm c d k h = record {
    fifo = k.fifo ∙ h.fifo;
    dlab = k.dlab ∙ h.dlab;
    loopback = k.loopback;
    size = k.still.size ∙ h.size;
    trigger = k.still.trigger ∙ h.trigger;
    grows = omega (arith, h.grows, k.still.arrived);
    fewer = omega (arith, h.fewer, k.still.arrived, k.still.fewer);
    whole = λ few d. split (omega (arith, few, k.still.arrived)) (drop_split r c.receiver _ d);
  }
    where
      split : c.receiver.arrived ≤ last → Drop r c.receiver ⊎ Drop c.receiver d.receiver → ⊥
      split few (inl e) = h.whole few e
      split few (inr e) = k.still.whole e

  stretch_arrive : (byte errors : ℕ) (c : ChipState) → Stretch r last c → Stretch r last (arrive byte errors c)
  stretch_arrive byte errors c h =
      let n = arrives byte errors c h.fifo h.loopback in record {
        fifo = h.fifo;
        dlab = h.dlab;
        loopback = h.loopback;
        size = n.size ∙ h.size;
        trigger = n.trigger ∙ h.trigger;
        grows = omega (arith, h.grows, n.arrived);
        fewer = omega (arith, h.fewer, n.arrived, n.fewer);
        whole = λ few d. split n (omega (arith, few, n.arrived)) (drop_split r c.receiver _ d);
      }
    where
      free : c.receiver.arrived + 1 ≤ last → length c.receiver.queue < characters c.receiver.size
      free few = let same = ap characters h.size in omega (arith, few, h.fewer, room, same)

      split : Enters c.receiver (arrive byte errors c).receiver → c.receiver.arrived + 1 ≤ last →
          Drop r c.receiver ⊎ Drop c.receiver (arrive byte errors c).receiver → ⊥
      split n few (inl e) = h.whole (omega (arith, few)) e
      split n few (inr e) = n.whole (free few) e

  stretch_events : LastsInEvents (Stretch r last)
  stretch_events = record {
    in_tick = λ c h. stretch_calm c _ (calm_tick c h.loopback) h;
    in_arrival = stretch_arrive;
    in_lines = λ inputs c h. stretch_calm c _ (calm_lines inputs c h.loopback) h;
  }

  pub stretch_path : (made : List Access) (m n : MachineState) → AllTame made → Stretch r last m.chip → Path MachineStep m made n →
      Stretch r last n.chip
  stretch_path [] m n tame h path = rw path h
  stretch_path (Read offset value ∷ made) m n tame h (mid, step, rest) =
      let now = chip_lasts-before (Stretch r last) stretch_events m.ahead m.chip h in
      let c = (at_access m).chip in
      stretch_path made mid n tame.1 (rw step.0 (stretch_calm c (after_read offset c) (calm_read offset c now.loopback) now)) rest
  stretch_path (Write offset value ∷ made) m n tame h (mid, step, rest) =
      let now = chip_lasts-before (Stretch r last) stretch_events m.ahead m.chip h in
      let c = (at_access m).chip in
      stretch_path made mid n tame.1
      (rw step (stretch_calm c (after_write offset value c) (calm_write offset value c tame.0 now.loopback) now)) rest

  pub stretch_mark : (events : List Event) (c : ChipState) → Stretch r last c → Stretch r last (before_mark events c)
  stretch_mark events c h = chip_lasts-before_mark (Stretch r last) stretch_events events c h

-- at first
pub stretch_first : (last : ℕ) (c : ChipState) → c.fifo ≡ true → is_dlab_set c.latches ≡ false → is_loopback c.latches ≡ false →
    Stretch c.receiver last c
stretch_first last c fifo dlab loopback = record {
  fifo = fifo;
  dlab = dlab;
  loopback = loopback;
  size = refl;
  trigger = refl;
  grows = omega arith;
  fewer = omega arith;
  whole = λ few d. no_drop_same c.receiver c.receiver refl refl d;
}

-- ---- a call

-- from s to t
call_stretch : (last : ℕ) (s t : RingState) (c : RingCall) (a : RingAnswer) → IsOfRings c → RingCallStep s c a t →
    waits s + last ≤ characters (receiver_of s).size + (receiver_of s).arrived → Stretch (receiver_of s) last (ring_machine s).chip →
    Stretch (receiver_of s) last (ring_machine t).chip
call_stretch last s t (call.AdjustRts marks) a own h room begun =
    let d = h.did in
    let tame = tame_rts (rts_at marks (free (ring_fields s).receive)) (ring_fields s) d.list (ring_fields t) d.does in
    stretch_path (receiver_of s) last room d.list (ring_machine s) (ring_machine t) tame begun d.path
call_stretch last s t (call.Driver c) a own h room begun = absurd own
call_stretch last s t call.Next a own h room begun =
    let m = ring_machine s in
    let R : MachineState → Type 0 = λ o. Stretch (receiver_of s) last o.chip in
    subst R (sym h.machine) (stretch_mark (receiver_of s) last room m.ahead m.chip begun)
call_stretch last s t other a own h room begun =
    let k = meaning_of s t other a tt h in
    let tame = tame_blocks (ring_fields s) k.list (ring_fields t) (k.walks MakesBlocks in_blocks) in
    stretch_path (receiver_of s) last room k.list (ring_machine s) (ring_machine t) tame begun k.path

-- ---- calls in turn

-- no trigger level is above the FIFO's size
by_level_most : (most a b c d : ℕ) → a ≤ most → b ≤ most → c ≤ most → d ≤ most → (level : FifoTriggerLevel) →
    by_level a b c d level ≤ most
by_level_most most a b c d p q r s One = p
by_level_most most a b c d p q r s Four = q
by_level_most most a b c d p q r s Eight = r
by_level_most most a b c d p q r s Fourteen = s

-- case by case: the number is computed from the size
pub level_most : (size : FifoSize) (level : FifoTriggerLevel) → characters_of size level ≤ characters size
level_most Sixteen level = by_level_most 16 1 4 8 14 (omega arith) (omega arith) (omega arith) (omega arith) level
level_most ThirtyTwo level = by_level_most 32 8 16 24 28 (omega arith) (omega arith) (omega arith) (omega arith) level
level_most SixtyFour level = by_level_most 64 1 16 32 56 (omega arith) (omega arith) (omega arith) (omega arith) level
level_most OneHundredTwentyEight level =
    by_level_most 128 16 32 112 120 (omega arith) (omega arith) (omega arith) (omega arith) level
level_most TwoHundredFiftySix level =
    by_level_most 256 1 64 128 254 (omega arith) (omega arith) (omega arith) (omega arith) level

-- between two calls: at most so many have come since as many waited as the trigger level
pub record IsBetween (since : ℕ) (s : RingState) : Type 0 where
  pub fifo : (ring_machine s).chip.fifo ≡ true
  pub dlab : is_dlab_set (ring_machine s).chip.latches ≡ false
  pub loopback : is_loopback (ring_machine s).chip.latches ≡ false
  pub few : is_below_level s ≡ false → waits s ≤ level s + since

-- the numbers of a call: the trigger level, the size of the FIFO, how many waited and have come
room_for : (below : Bool) (since l f w came : ℕ) → l ≤ f → (below ≡ false → w ≤ l + since) →
    (if below then w + came - l else since + came) ≤ f - l → w + came ≤ f
room_for true since l f w came fits few h = omega (arith, fits, h)
room_for false since l f w came fits few h = let k = few refl in omega (arith, fits, h, k)

few_after : (below : Bool) (since l w came v : ℕ) → v ≤ w + came → (below ≡ false → w ≤ l + since) →
    v ≤ l + (if below then w + came - l else since + came)
few_after true since l w came v less few = omega (arith, less)
few_after false since l w came v less few = let k = few refl in omega (arith, less, k)

-- a call in time
pub record InTime (now : ℕ) (s t : RingState) : Type 0 where
  pub between : IsBetween now t
  pub whole : Drop (receiver_of s) (receiver_of t) → ⊥

in_time : (since : ℕ) (link : RingLink) → IsOfRings link.call → RingCallStep link.before link.call link.answer link.after →
    IsBetween since link.before → since_level since link ≤ spare link.before → InTime (since_level since link) link.before link.after
in_time since link own h b few =
    let s = link.before in
    let t = link.after in
    let r = receiver_of s in
    let q = receiver_of t in
    let fits = level_most r.size r.trigger in
    let all : waits s + arrived_in link ≤ characters r.size =
    room_for (is_below_level s) since (level s) (characters r.size) (waits s) (arrived_in link) fits b.few few in
    let begun = stretch_first q.arrived (ring_machine s).chip b.fifo b.dlab b.loopback in
    let k = call_stretch q.arrived s t link.call link.answer own h (omega (arith, all)) begun in
    let less : waits t ≤ waits s + arrived_in link = omega (arith, k.fewer, k.grows) in
    let same : level t ≡ level s =
    ap (λ size. characters_of size q.trigger) k.size ∙ ap (λ trigger. characters_of r.size trigger) k.trigger in
    let most = few_after (is_below_level s) since (level s) (waits s) (arrived_in link) (waits t) less b.few in
    record {
      between = record {
        fifo = k.fifo;
        dlab = k.dlab;
        loopback = k.loopback;
        few = λ reached. omega (arith, most, same);
      };
      whole = λ d. k.whole (omega arith) d;
    }

-- none is dropped in any of them
pub in_time_keeps : (since : ℕ) (s t : RingState) (links : List RingLink) → All IsOfRings (calls_of links) → RingChain s links t →
    IsBetween since s → AllInTime since links → Drop (receiver_of s) (receiver_of t) → ⊥
in_time_keeps since s t [] own chain b few d =
    no_drop_same (receiver_of s) (receiver_of t) (ap (λ (u : RingState). (receiver_of u).marks) chain)
    (ap (λ (u : RingState). (receiver_of u).is_unscheduled_lost) chain) d
in_time_keeps since s t (link ∷ links) own chain b few d =
    let B : RingState → Type 0 = λ u. IsBetween since u in
    let D : RingState → Type 0 = λ u. Drop (receiver_of u) (receiver_of t) in
    let k = in_time since link (All-head IsOfRings link.call (calls_of links) own) chain.1 (subst B (sym chain.0) b) few.0 in
    let later = in_time_keeps (since_level since link) link.after t links (All-tail IsOfRings link.call (calls_of links) own) chain.2
    k.between few.1 in
    split k.whole later (drop_split (receiver_of link.before) (receiver_of link.after) (receiver_of t) (subst D (sym chain.0) d))
  where
    split : (Drop (receiver_of link.before) (receiver_of link.after) → ⊥) → (Drop (receiver_of link.after) (receiver_of t) → ⊥) →
        Drop (receiver_of link.before) (receiver_of link.after) ⊎ Drop (receiver_of link.after) (receiver_of t) → ⊥
    split here later (inl e) = here e
    split here later (inr e) = later e

pub drops_nothing : (s t : RingState) (links : List RingLink) → Ready (under s) → (ring_machine s).chip.fifo ≡ true →
    is_below_level s ≡ true → All IsOfRings (calls_of links) → RingChain s links t → AllInTime 0 links →
    IsDrop (ring_machine s) (ring_machine t) → ⊥
drops_nothing s t links ready fifo below own chain few d =
    let begins : IsBetween 0 s = record {
      fifo = fifo;
      dlab = ready.dlab;
      loopback = ready.loopback;
      few = λ reached. absurd (false≢true (sym reached ∙ below));
    } in
    in_time_keeps 0 s t links own chain begins few (drop_receivers (ring_machine s) (ring_machine t) d)
