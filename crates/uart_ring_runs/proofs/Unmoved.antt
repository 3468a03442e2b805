-- A round in which no byte moves: each interrupt that it serves was left to be shown at its start, or was brought by the schedule.
use Rattle.uart_ring_runs.proofs.Names.{◌≡◌, ◌≢◌, ◌⊎◌, ℕ, ◌+◌, ◌≤◌, ◌<◌, ◌==◌, ◌-◌, ◌||◌, ◌&&◌, zero, suc, Bool, true, false, not}
use Rattle.uart_ring_runs.proofs.Names.{MatchBool, List, [], ◌∷◌, ◌++◌, length, length-append, append_assoc, append-nil, Option, Some, None}
use Rattle.uart_ring_runs.proofs.Names.{inl, inr, refl, sym, ◌∙◌, ap, subst, arith, drop, min, Result, Ok, Err, and_parts, false≢true}
use Rattle.uart_ring_runs.proofs.Names.{nat_tests, length-drop, nil_from_length, take-append_seam, MatchOption, option_to_list, Path}
use Rattle.uart_ring_runs.proofs.Names.{has_any, Access, Read, Write, characters, InterruptType, Event, Mark, Gate, Settings, Fields}
use Rattle.uart_ring_runs.proofs.Names.{settings_of, Receives, Sends, interrupt, is_thr_empty, between, at_least_16, MachineState}
use Rattle.uart_ring_runs.proofs.Names.{MachineStep, at_access, after_access, path_as, path_split, Ready, Queue, RingFields, RingDid}
use Rattle.uart_ring_runs.proofs.Names.{OnDriver, ring_fields, free, is_full, with_driver, sendable, allowed, without_sent}
use Rattle.uart_ring_runs.proofs.Names.{with_received, with_paused, Stays, urgent_left, ArmsIfLeft, Pumps, PausesIfFull, FillsReceiveRing}
use Rattle.uart_ring_runs.proofs.Names.{SendsOnIf, ServesData, ServesInterrupt, ServesOne, ServesTimes}
use Rattle.uart_ring_runs.proofs.Names.{Stops, IsWithin, Handles, RetriggersUnlessIdle, has_moved, counts_as}
use Rattle.uart_ring_runs.proofs.Names.{CountsRound, HandlesRound, StaysStuck, TriesToHandle, unless_stuck, round_limit, HandleEnd, Idle}
use Rattle.uart_ring_runs.proofs.Names.{Unknown, Limit, Handled, StuckError, RingState, under, ring_machine, news, news_between}
use Rattle.uart_ring_runs.proofs.Names.{most_without_news, IsInRoom, Disables, is_data_pending, is_timed_out, without, Kept, kept_step}
use Rattle.std.specs.Option.{is_some}
use Rattle.uart_spec.specs.declared.registers.interrupt_enable.TheConstants.IER
use Rattle.uart_spec.specs.declared.registers.interrupt_type.InterruptType.TheVariants as interrupts
use Rattle.uart_spec.specs.declared.registers.offsets.TheConstants as offsets
use Rattle.uart_ring_runs.proofs.{Pending.left_most, Pending.news-append, RingEdges.none_unknown}
use Rattle.uart_ring_runs.proofs.Served.{IsOpenAt, Leaves, leaves-trans, leaves-none, looks_left, shown, told_by, line_served, modem_served}
use Rattle.uart_ring_runs.proofs.Served.{thr_served, unsent_looks, data_shown, data_served, armed_left, disarmed_left, not_thr, AllLooks}
use Rattle.uart_ring.proofs.Storms.{handles_keep}

-- ---- what moved

-- bytes only leave the transmit ring and only come into the receive ring, and no urgent byte comes
record Moves (f g : RingFields) : Type 0 where
  pub transmit : length g.transmit.items ≤ length f.transmit.items
  pub urgent : is_some g.urgent ≡ true → is_some f.urgent ≡ true
  pub receive : length f.receive.items ≤ length g.receive.items
  pub capacity : g.receive.capacity ≡ f.receive.capacity

-- none did
record Still (f g : RingFields) : Type 0 where
  pub transmit : length g.transmit.items ≡ length f.transmit.items
  pub urgent : is_some f.urgent ≡ true → is_some g.urgent ≡ true
  pub receive : length g.receive.items ≡ length f.receive.items

moves-none : (f : RingFields) → Moves f f
moves-none f = record { transmit = omega arith; urgent = λ e. e; receive = omega arith; capacity = refl }

moves-trans : (f g h : RingFields) → Moves f g → Moves g h → Moves f h
moves-trans f g h a b = record {
  transmit = omega (arith, a.transmit, b.transmit);
  urgent = λ e. a.urgent (b.urgent e);
  receive = omega (arith, a.receive, b.receive);
  capacity = b.capacity ∙ a.capacity;
}

-- what is still from first to last is so in between
still-first : (f g h : RingFields) → Moves f g → Moves g h → Still f h → Still f g
still-first f g h a b s = record {
  transmit = omega (arith, a.transmit, b.transmit, s.transmit);
  urgent = λ e. b.urgent (s.urgent e);
  receive = omega (arith, a.receive, b.receive, s.receive);
}

still-second : (f g h : RingFields) → Moves f g → Moves g h → Still f h → Still g h
still-second f g h a b s = record {
  transmit = omega (arith, a.transmit, b.transmit, s.transmit);
  urgent = λ e. s.urgent (a.urgent e);
  receive = omega (arith, a.receive, b.receive, s.receive);
}

kept_moves : (f g : RingFields) → g.transmit ≡ f.transmit → g.urgent ≡ f.urgent → g.receive ≡ f.receive → Moves f g
kept_moves f g t u r = record {
  transmit = let e = ap (λ (q : Queue). length q.items) t in omega (arith, e);
  urgent = λ e. ap is_some (sym u) ∙ e;
  receive = let e = ap (λ (q : Queue). length q.items) r in omega (arith, e);
  capacity = ap (λ (q : Queue). q.capacity) r;
}

-- other fields changed
moves_by : (f g h : RingFields) → h ≡ g → g.transmit ≡ f.transmit → g.urgent ≡ f.urgent → g.receive ≡ f.receive → Moves f h
moves_by f g h e t u r = subst (λ (k : RingFields). Moves f k) (sym e) (kept_moves f g t u r)

-- the driver's fields changed too
moves_with : (f g : RingFields) (d : Fields) → Moves f g → Moves f (with_driver d g)
moves_with f g d m = record { transmit = m.transmit; urgent = m.urgent; receive = m.receive; capacity = m.capacity }

moves_as : (f g h : RingFields) → h ≡ g → Moves f g → Moves f h
moves_as f g h e m = subst (λ (k : RingFields). Moves f k) (sym e) m

still_as : (f g h : RingFields) → h ≡ g → Still f h → Still f g
still_as f g h e s = subst (λ (k : RingFields). Still f k) e s

-- ---- a pump

less : (count : ℕ) (items : List ℕ) → length (drop count items) ≤ length items
less count items = omega (arith, length-drop count items)

sent_moves : (sent : ℕ) (f : RingFields) → Moves f (without_sent sent f)
sent_moves sent f = record {
  transmit = less (sent - length (option_to_list f.urgent)) f.transmit.items;
  urgent = was sent f.urgent;
  receive = omega arith;
  capacity = refl;
}
  where
    was : (sent : ℕ) (urgent : Option ℕ) → is_some (urgent_left sent urgent) ≡ true → is_some urgent ≡ true
    was zero urgent e = e
    was (suc n) urgent e = absurd (cc (e))

-- nothing may be sent where nothing waits
none_allowed : (stuck : Option StuckError) (held : Bool) → allowed stuck held None [] ≡ []
none_allowed (Some error) held = refl
none_allowed None true = refl
none_allowed None false = refl

none_sent : (bytes : List ℕ) (count : ℕ) (s : Settings) (l : List Access) → length bytes ≡ 0 → Sends bytes count s l → count ≡ 0
none_sent bytes count s l none (inl t) = t.1
none_sent bytes count s l none (inr (inl t)) = t.1
none_sent bytes count s l none (inr (inr t)) = absurd (let some = t.0 in omega (arith, some, none))

-- if no byte moved, none was sent
unsent : (sent : ℕ) (f : RingFields) (s : Settings) (l : List Access) → Sends (sendable f) sent s l →
    Still f (without_sent sent f) → sent ≡ 0
unsent sent f s l sends still = go sent f.urgent f.transmit.items refl refl refl
  where
    go : (n : ℕ) (urgent : Option ℕ) (items : List ℕ) → sent ≡ n → f.urgent ≡ urgent → f.transmit.items ≡ items → sent ≡ 0
    go zero urgent items is u t = is
    go (suc n) (Some byte) items is u t =
        let kept : is_some (urgent_left sent f.urgent) ≡ true = still.urgent (ap is_some u) in
        let left_over : is_some (urgent_left (suc n) f.urgent) ≡ true =
        subst (λ (k : ℕ). is_some (urgent_left k f.urgent) ≡ true) is kept in
        absurd (false≢true left_over)
    go (suc n) None [] is u t =
        let none : sendable f ≡ [] =
        (λ i. allowed f.stuck f.is_held (u i) (t i)) ∙ none_allowed f.stuck f.is_held in
        none_sent (sendable f) sent s l (ap length none) sends
    go (suc n) None (x ∷ xs) is u t =
        let same : length (drop (sent - length (option_to_list f.urgent)) f.transmit.items) ≡ length f.transmit.items = still.transmit in
        let fewer = length-drop (sent - length (option_to_list f.urgent)) f.transmit.items in
        let none : length (option_to_list f.urgent) ≡ 0 = ap (λ o. length (option_to_list o)) u in
        let some : 0 < length f.transmit.items = rw t (omega arith) in
        absurd (omega (arith, same, fewer, none, some, is))

arms_left : (rest : List ℕ) (f after : Fields) (l : List Access) (m n : MachineState) → ArmsIfLeft rest f l after → IsOpenAt m →
    has_any m.chip.latches.ier IER.THR_EMPTY.0 ≡ true → Path MachineStep m l n → Leaves m n 0
arms_left [] f after l m n t o enabled path = disarmed_left t.0 l m n o t.1 path
arms_left (x ∷ xs) f after l m n t o enabled path = armed_left t.0 l m n o enabled t.1 path

-- looks change no latch
looks_keep : (l : List Access) (m n : MachineState) → AllLooks l → Path MachineStep m l n → n.chip.latches.ier ≡ m.chip.latches.ier
looks_keep [] m n all p = ap (λ (k : MachineState). k.chip.latches.ier) p
looks_keep (Read offset value ∷ l) m n all p =
    looks_keep l p.0 n all.1 p.2 ∙ ap (λ (k : Kept). k.latches.ier) (kept_step (Read offset value) m p.0 p.1)
looks_keep (Write offset value ∷ l) m n all p = absurd all.0

pump_left : (f after : RingFields) (l : List Access) (m n : MachineState) → Pumps f l after → Still f after → IsOpenAt m →
    has_any m.chip.latches.ier IER.THR_EMPTY.0 ≡ true → Path MachineStep m l n → Leaves m n 0
pump_left f after l m n (sent, (t, same)) still o enabled path =
    let there = still_as f (with_driver after.driver (without_sent sent f)) after same still in
    let none = unsent sent f (settings_of f.driver) t.front t.first.0
    (record { transmit = there.transmit; urgent = there.urgent; receive = there.receive }) in
    let p = path_split MachineStep m n t.front t.back (subst (λ k. Path MachineStep m k n) t.whole path) in
    let looks = unsent_looks (sendable f) (settings_of f.driver) t.front (rw none at t.first.0) in
    let first = looks_left t.front m p.0 looks o p.1 in
    let kept : has_any p.0.chip.latches.ier IER.THR_EMPTY.0 ≡ true =
    ap (λ (v : ℕ). has_any v IER.THR_EMPTY.0) (looks_keep t.front m p.0 looks p.1) ∙ enabled in
    leaves-trans m p.0 n 0 0 first (arms_left _ t.mid after.driver t.back p.0 n t.second first.open_at kept p.2)

-- ---- data

received_moves : (bytes : List ℕ) (f : RingFields) → Moves f (with_received bytes f)
received_moves bytes f = record {
  transmit = omega arith;
  urgent = λ e. e;
  receive = omega (arith, length-append f.receive.items bytes);
  capacity = refl;
}

pauses_moves : (full : Bool) (f : RingFields) (l : List Access) (after : RingFields) →
    MatchBool full (OnDriver (Disables IER.DATA_READY.0) (with_paused true) f l after) (Stays f l after) → Moves f after
pauses_moves true f l after t = moves_by f (with_driver after.driver (with_paused true f)) after t.1 refl refl refl
pauses_moves false f l after t = moves_by f f after t.1 refl refl refl

fills_moves : (f : RingFields) (l : List Access) (after : RingFields) → FillsReceiveRing f l after → Moves f after
fills_moves f l after (bytes, t) =
    let g : RingFields = with_driver t.mid.driver (with_received bytes f) in
    moves-trans f t.mid after
    (moves_as f g t.mid t.first.1 (moves_with f (with_received bytes f) t.mid.driver (received_moves bytes f)))
    (pauses_moves (is_full t.mid.receive) t.mid t.back after t.second)

-- data has been shown
record DataShown (m o : MachineState) (isr : ℕ) : Type 0 where
  pub open_at : IsOpenAt m
  pub enabled : has_any (at_access m).chip.latches.ier IER.DATA_READY.0 ≡ true
  pub readable : (is_data_pending (at_access m).chip.fifo (at_access m).chip.receiver ≡ true)
      ⊎ (is_timed_out (at_access m).chip.fifo (at_access m).chip.receiver ≡ true)
  pub other : is_thr_empty (interrupt (at_access m).chip) ≡ false
  pub step : MachineStep m (Read offsets.ISR isr) o

-- the ring is full, so the interrupt is disabled
full_left : (f after : RingFields) (l : List Access) (m o n : MachineState) (isr : ℕ) → DataShown m o isr → is_full f.receive ≡ true →
    PausesIfFull f l after → Path MachineStep o l n → Leaves m n 1
full_left f after l m o n isr d full t path = go (is_full f.receive) full t
  where
    go : (b : Bool) → b ≡ true → MatchBool b (OnDriver (Disables IER.DATA_READY.0) (with_paused true) f l after) (Stays f l after) →
        Leaves m n 1
    go true e ((ier, is, changed), same) =
        data_served m o n isr ier d.open_at d.enabled d.other d.step
        (path_as o n l (Read offsets.IER ier ∷ Write offsets.IER (without 8 ier IER.DATA_READY.0) ∷ []) is path)
    go false e t = absurd (false≢true e)

fills_left : (f after : RingFields) (l : List Access) (m o n : MachineState) (isr : ℕ) → DataShown m o isr → FillsReceiveRing f l after →
    Still f after → length f.receive.items ≤ f.receive.capacity → Path MachineStep o l n → Leaves m n 1
fills_left f after l m o n isr d (bytes, t) still room path =
    let g : RingFields = with_driver t.mid.driver (with_received bytes f) in
    let mid : t.mid ≡ g = t.first.1 in
    let later = pauses_moves (is_full t.mid.receive) t.mid t.back after t.second in
    let size : length t.mid.receive.items ≡ length (f.receive.items ++ bytes) = ap (λ (k : RingFields). length k.receive.items) mid in
    let few : length bytes ≡ 0 =
    omega (arith, later.receive, size, length-append f.receive.items bytes, still.receive) in
    let none = nil_from_length bytes few in
    let p = path_split MachineStep o n t.front t.back (subst (λ k. Path MachineStep o k n) t.whole path) in
    by (rw none at t.first.0.0) mid none p.0 p.1 p.2
  where
    by : Receives (min (characters f.driver.size) (free f.receive)) [] (settings_of f.driver) t.front →
        t.mid ≡ with_driver t.mid.driver (with_received bytes f) → bytes ≡ [] → (q : MachineState) → Path MachineStep o t.front q →
        Path MachineStep q t.back n → Leaves m n 1
    by (inl (all, hits)) mid none q front back =
        let at : q ≡ o = path_as o q t.front [] hits.is front in
        let long : length t.mid.receive.items ≡ length f.receive.items =
        ap (λ (k : RingFields). length k.receive.items) mid ∙ (ap (λ xs. length (f.receive.items ++ xs)) none
        ∙ ap length (append-nil f.receive.items)) in
        let wide : t.mid.receive.capacity ≡ f.receive.capacity = ap (λ (k : RingFields). k.receive.capacity) mid in
        let some = at_least_16 f.driver.size in
        let same : length t.mid.receive.items ≡ t.mid.receive.capacity = omega (arith, all, room, long, wide, some) in
        let full : is_full t.mid.receive ≡ true = grind (arith, nat_tests) in
        full_left t.mid after t.back m o n isr d full t.second (subst (λ k. Path MachineStep k t.back n) at back)
    by (inr (fewer, miss)) mid none q front back =
        let is : t.front ≡ Read offsets.LSR miss.second.answer ∷ [] =
        miss.whole ∙ (ap (λ xs. xs ++ miss.back) miss.first.is ∙ miss.second.is) in
        let r = path_as o q t.front (Read offsets.LSR miss.second.answer ∷ []) is front in
        absurd (data_shown m o r.0 isr miss.second.answer d.open_at d.readable d.other d.step r.1 miss.second.shows)

-- ---- one interrupt

sends_on_moves : (room : Bool) (f : RingFields) (l : List Access) (after : RingFields) → SendsOnIf room f l after → Moves f after
sends_on_moves true f l after (zero, t) = moves_by f _ after t.1 refl refl refl
sends_on_moves true f l after (suc n, (t, same)) =
    moves_as f _ after same (moves_with f (without_sent (suc n) f) after.driver (sent_moves (suc n) f))
sends_on_moves false f l after t = moves_by f f after t.1 refl refl refl

serves_data_moves : (room : Bool) (f : RingFields) (l : List Access) (after : RingFields) → ServesData room f l after → Moves f after
serves_data_moves room f l after t =
    moves-trans f t.mid after (fills_moves f t.front t.mid t.first) (sends_on_moves room t.mid t.back after t.second)

serve_moves : (room left : Bool) (interrupt : InterruptType) (f : RingFields) (l : List Access) (after : RingFields) →
    ServesInterrupt true room left interrupt f l after → Moves f after
serve_moves room left interrupts.ReceiverLineStatus f l after (status, told, (t, same)) = moves_by f _ after same refl refl refl
serve_moves room left interrupts.ReceivedDataReady f l after (is, t) = serves_data_moves room f l after t
serve_moves room left interrupts.ReceptionTimeout f l after (is, t) = serves_data_moves room f l after t
serve_moves room left interrupts.TransmitterHoldingRegisterEmpty f l after (is, (sent, (t, same))) =
    moves_as f _ after same (moves_with f (without_sent sent f) after.driver (sent_moves sent f))
serve_moves room left interrupts.ModemStatus f l after (is, (status, (t, same))) = moves_by f _ after same refl refl refl
serve_moves room left interrupts.DmaReceptionEndOfTransfer f l after (is, t) = moves_by f f after t.1 refl refl refl
serve_moves room left interrupts.DmaTransmissionEndOfTransfer f l after (is, t) = moves_by f f after t.1 refl refl refl

one_moves : (room left : Bool) (f : RingFields) (l : List Access) (after : RingFields) → ServesOne true room left f l after → Moves f after
one_moves room left f l after (interrupt, t) =
    moves-trans f t.mid after (moves_by f _ t.mid t.first.1 refl refl refl) (serve_moves room left interrupt t.mid t.back after t.second)

times_moves : (n : ℕ) (room left : Bool) (f : RingFields) (l : List Access) (after : RingFields) → ServesTimes true n room left f l after →
    Moves f after
times_moves zero room left f l after t = moves_by f f after t.1.1 refl refl refl
times_moves (suc n) room left f l after (next, t) =
    moves-trans f t.mid after (one_moves room next f t.front t.mid t.first) (times_moves n next left t.mid t.back after t.second)

-- if no byte moved, there were only looks
sends_on_left : (room : Bool) (f after : RingFields) (l : List Access) (m n : MachineState) → SendsOnIf room f l after → Still f after →
    IsOpenAt m → Path MachineStep m l n → Leaves m n 0
sends_on_left true f after l m n (zero, t) still o path =
    looks_left l m n (unsent_looks (sendable f) (settings_of f.driver) l t.0.0) o path
sends_on_left true f after l m n (suc k, (t, same)) still o path =
    let there = still_as f (with_driver after.driver (without_sent (suc k) f)) after same still in
    let none = unsent (suc k) f (settings_of f.driver) t.front t.first.0
    (record { transmit = there.transmit; urgent = there.urgent; receive = there.receive }) in
    absurd (omega (arith, none))
sends_on_left false f after l m n t still o path = let at : n ≡ m = path_as m n l [] t.0 path in rw at (leaves-none m o)

serves_data_left : (room : Bool) (f after : RingFields) (l : List Access) (m o n : MachineState) (isr : ℕ) → DataShown m o isr →
    ServesData room f l after → Still f after → length f.receive.items ≤ f.receive.capacity → Path MachineStep o l n → Leaves m n 1
serves_data_left room f after l m o n isr d t still space path =
    let p = path_split MachineStep o n t.front t.back (subst (λ k. Path MachineStep o k n) t.whole path) in
    let first = fills_moves f t.front t.mid t.first in
    let second = sends_on_moves room t.mid t.back after t.second in
    let filled = fills_left f t.mid t.front m o p.0 isr d t.first (still-first f t.mid after first second still) space p.1 in
    leaves-trans m p.0 n 1 0 filled
    (sends_on_left room t.mid after t.back p.0 n t.second (still-second f t.mid after first second still) filled.open_at p.2)

interrupt_left : (room left : Bool) (i : InterruptType) (f after : RingFields) (l : List Access) (m o n : MachineState) (isr : ℕ) →
    IsOpenAt m → ServesInterrupt true room left i f l after → Still f after → length f.receive.items ≤ f.receive.capacity →
    interrupt (at_access m).chip ≡ Some i → MachineStep m (Read offsets.ISR isr) o → Path MachineStep o l n → Leaves m n 1
interrupt_left room left interrupts.ReceiverLineStatus f after l m o n isr a (status, shows, ((line, is, told, emptied), same))
    still space e s
    path = line_served m o n isr line a e s (path_as o n l (Read offsets.LSR line ∷ []) is path)
interrupt_left room left interrupts.ReceivedDataReady f after l m o n isr a t still space e s path =
    let told = and_parts _ _ (told_by (at_access m).chip interrupts.ReceivedDataReady e) in
    let other = not_thr (at_access m).chip interrupts.ReceivedDataReady e refl in
    serves_data_left room f after l m o n isr
    (record { open_at = a; enabled = told.0; readable = inl told.1; other = other; step = s }) t.1 still space path
interrupt_left room left interrupts.ReceptionTimeout f after l m o n isr a t still space e s path =
    let told = and_parts _ _ (told_by (at_access m).chip interrupts.ReceptionTimeout e) in
    let other = not_thr (at_access m).chip interrupts.ReceptionTimeout e refl in
    serves_data_left room f after l m o n isr
    (record { open_at = a; enabled = told.0; readable = inr told.1; other = other; step = s }) t.1 still space path
interrupt_left room left interrupts.TransmitterHoldingRegisterEmpty f after l m o n isr a t still space e s path =
    let served = thr_served m o isr a e s in
    leaves-trans m o n 1 0 served.leaves (pump_left f after l o n t.1 still served.leaves.open_at served.enabled path)
interrupt_left room left interrupts.ModemStatus f after l m o n isr a (kept, (status, ((modem, is, told, emptied), same))) still space e s
    path = modem_served m o n isr modem a e s (path_as o n l (Read offsets.MSR modem ∷ []) is path)
interrupt_left room left interrupts.DmaReceptionEndOfTransfer f after l m o n isr a t still space e s path =
    absurd (told_by (at_access m).chip interrupts.DmaReceptionEndOfTransfer e)
interrupt_left room left interrupts.DmaTransmissionEndOfTransfer f after l m o n isr a t still space e s path =
    absurd (told_by (at_access m).chip interrupts.DmaTransmissionEndOfTransfer e)

one_left : (room left : Bool) (f after : RingFields) (l : List Access) (m n : MachineState) → ServesOne true room left f l after →
    Still f after → length f.receive.items ≤ f.receive.capacity → IsOpenAt m → Path MachineStep m l n → Leaves m n 1
one_left room left f after l m n (i, t) still space a path =
    let p = path_split MachineStep m n t.front t.back (subst (λ k. Path MachineStep m k n) t.whole path) in
    let isr = t.first.0.0 in
    let q = path_as m p.0 t.front (Read offsets.ISR isr ∷ []) t.first.0.2.0.is p.1 in
    let same : t.mid ≡ with_driver t.mid.driver f = t.first.1 in
    let begins : Still t.mid after = record {
      transmit = still.transmit ∙ sym (ap (λ (k : RingFields). length k.transmit.items) same);
      urgent = λ e. still.urgent (sym (ap (λ (k : RingFields). is_some k.urgent) same) ∙ e);
      receive = still.receive ∙ sym (ap (λ (k : RingFields). length k.receive.items) same);
    } in
    let long : length t.mid.receive.items ≡ length f.receive.items = ap (λ (k : RingFields). length k.receive.items) same in
    let wide : t.mid.receive.capacity ≡ f.receive.capacity = ap (λ (k : RingFields). k.receive.capacity) same in
    interrupt_left room left i t.mid after t.back m q.0 n isr a t.second begins (omega (arith, space, long, wide))
    (shown isr i m q.0 t.first.0.1 q.1) q.1 (subst (λ k. Path MachineStep k t.back n) q.2 p.2)

-- ---- a round

times_left : (k : ℕ) (room left : Bool) (f after : RingFields) (l : List Access) (m n : MachineState) →
    ServesTimes true k room left f l after → Still f after → length f.receive.items ≤ f.receive.capacity → IsOpenAt m →
    Path MachineStep m l n → Leaves m n k
times_left zero room left f after l m n t still space a path =
    let at : n ≡ m = path_as m n l [] t.1.0 path in rw at (leaves-none m a)
times_left (suc k) room left f after l m n (next, t) still space a path =
    let p = path_split MachineStep m n t.front t.back (subst (λ xs. Path MachineStep m xs n) t.whole path) in
    let first = one_moves room next f t.front t.mid t.first in
    let second = times_moves k next left t.mid t.back after t.second in
    let one = one_left room next f t.mid t.front m p.0 t.first (still-first f t.mid after first second still) space a p.1 in
    let here = still-first f t.mid after first second still in
    let rest = times_left k next left t.mid after t.back p.0 n t.second (still-second f t.mid after first second still)
    (let e = here.receive in let w = first.capacity in omega (arith, space, e, w)) one.open_at p.2 in
    let one_more : 1 + k ≡ suc k = omega arith in
    subst (λ (j : ℕ). Leaves m n j) one_more (leaves-trans m p.0 n 1 k one rest)

-- what the schedule had, whatever the accesses are
record Came (m n : MachineState) : Type 0 where
  pub came : List Event
  pub ahead : m.ahead ≡ came ++ n.ahead

gone : (events : List Event) → (came : List Event) × (events ≡ came ++ after_access events)
gone [] = ([], refl)
gone (Gate ∷ events) = (Gate ∷ [], refl)
gone (Mark ∷ events) = ([], refl)
gone (event ∷ events) = let rest = gone events in (event ∷ rest.0, ap (λ es. event ∷ es) rest.1)

step_came : (access : Access) (m n : MachineState) → MachineStep m access n → Came m n
step_came (Read offset value) m n s = let g = gone m.ahead in
    record { came = g.0; ahead = g.1 ∙ ap (λ es. g.0 ++ es) (sym (ap (λ (k : MachineState). k.ahead) s.0)) }
step_came (Write offset value) m n s = let g = gone m.ahead in
    record { came = g.0; ahead = g.1 ∙ ap (λ es. g.0 ++ es) (sym (ap (λ (k : MachineState). k.ahead) s)) }

came-trans : (m n o : MachineState) → Came m n → Came n o → Came m o
came-trans m n o a b =
    record { came = a.came ++ b.came; ahead = a.ahead ∙ (ap (λ es. a.came ++ es) b.ahead ∙ sym (append_assoc a.came b.came o.ahead)) }

path_came : (l : List Access) (m n : MachineState) → Path MachineStep m l n → Came m n
path_came [] m n p = record { came = []; ahead = sym (ap (λ (k : MachineState). k.ahead) p) }
path_came (access ∷ l) m n p = came-trans m p.0 n (step_came access m p.0 p.1) (path_came l p.0 n p.2)

-- what came up to a moment is among what came up to a later one
news_within : (m o n : MachineState) (came : List Event) → m.ahead ≡ came ++ o.ahead → Came o n → news came ≤ news (between m n)
news_within m o n came is later =
    let all : m.ahead ≡ (came ++ later.came) ++ n.ahead =
    is ∙ (ap (λ es. came ++ es) later.ahead ∙ sym (append_assoc came later.came n.ahead)) in
    let long : length m.ahead ≡ length (came ++ later.came) + length n.ahead =
    ap length all ∙ length-append (came ++ later.came) n.ahead in
    let few : length m.ahead - length n.ahead ≡ length (came ++ later.came) = omega (arith, long) in
    let whole : between m n ≡ came ++ later.came = rw (few, all) (take-append_seam (came ++ later.came) n.ahead) in
    let number : news (between m n) ≡ news (came ++ later.came) = ap news whole in
    omega (arith, number, news-append came later.came)

-- fields of which only the driver's changed
still_before : (f g h : RingFields) → h ≡ with_driver h.driver g → Still f h → Still f g
still_before f g h e s = record {
  transmit = sym (ap (λ (k : RingFields). length k.transmit.items) e) ∙ s.transmit;
  urgent = λ x. sym (ap (λ (k : RingFields). is_some k.urgent) e) ∙ s.urgent x;
  receive = sym (ap (λ (k : RingFields). length k.receive.items) e) ∙ s.receive;
}

-- a round that did not end with no interrupt pending, and in which no byte moved
round_left : (limit : ℕ) (handled : Handled) (f mid : RingFields) (l : List Access) (m o n : MachineState) → Handles limit handled f l mid →
    handled.end ≢ Idle → Still f mid → length f.receive.items ≤ f.receive.capacity → IsOpenAt m → Path MachineStep m l o → Came o n →
    limit ≤ most_without_news + news (between m n)
round_left limit handled f mid l m o n (room, t) not_idle still space a path later =
    by handled.end refl t.first.0 t.first.1.second t.second
  where
    by : (end : HandleEnd) → handled.end ≡ end → IsWithin limit handled.served end →
        Stops end t.first.1.mid t.first.1.back t.mid → RetriggersUnlessIdle room end t.mid t.back mid →
        limit ≤ most_without_news + news (between m n)
    by Idle e within stops ends = absurd (not_idle e)
    by Unknown e within stops ends =
        let p = path_split MachineStep m o t.front t.back (subst (λ xs. Path MachineStep m xs o) t.whole path) in
        let u = t.first.1 in
        let q = path_split MachineStep m p.0 u.front u.back (subst (λ xs. Path MachineStep m xs p.0) u.whole p.1) in
        let isr = stops.0.0 in
        let r = path_as q.0 p.0 u.back (Read offsets.ISR isr ∷ []) stops.0.3.0.is q.2 in
        absurd (none_unknown isr q.0 r.0 stops.0.1 stops.0.2 r.1)
    by Limit e within stops ends =
        let p = path_split MachineStep m o t.front t.back (subst (λ xs. Path MachineStep m xs o) t.whole path) in
        let u = t.first.1 in
        let q = path_split MachineStep m p.0 u.front u.back (subst (λ xs. Path MachineStep m xs p.0) u.whole p.1) in
        let at_end = still_before f ends.mid mid ends.second.1 still in
        let all = times_moves handled.served false room f u.front u.mid u.first in
        let sent = sends_on_moves room t.mid ends.front ends.mid ends.first in
        let at_mid = still-first f t.mid ends.mid (moves_as f u.mid t.mid stops.1 all) sent at_end in
        let at_last = still_as f u.mid t.mid stops.1 at_mid in
        let served = times_left handled.served false room f u.mid u.front m q.0 u.first at_last space a q.1 in
        let rest = came-trans q.0 p.0 n (path_came u.back q.0 p.0 q.2) (came-trans p.0 o n (path_came t.back p.0 o p.2) later) in
        let most = left_most m.chip in
        let few = news_within m q.0 n served.came served.ahead rest in
        let fewer = served.fewer in
        omega (arith, within, most, few, fewer)

-- ---- what a call of `try_handle` counts

none_of : (a b c : Bool) → (not a || b || not c) ≡ false → (a ≡ true) × (b ≡ false) × (c ≡ true)
none_of true false true e = (refl, refl, refl)
none_of true false false e = absurd (false≢true (sym e))
none_of true true c e = absurd (false≢true (sym e))
none_of false b c e = absurd (false≢true (sym e))

urgent_kept : (was is : Bool) → (was && not is) ≡ false → was ≡ true → is ≡ true
urgent_kept true true e x = refl
urgent_kept true false e x = absurd (false≢true (sym e))
urgent_kept false is e x = absurd (false≢true x)

unmoved : (f mid : RingFields) → has_moved f mid ≡ false → Still f mid
unmoved f mid e =
    let h = none_of (length mid.transmit.items == length f.transmit.items) (is_some f.urgent && not (is_some mid.urgent))
    (length mid.receive.items == length f.receive.items) e in
    let sent = h.0 in
    let received = h.2 in
    record {
      transmit = grind (arith, nat_tests);
      urgent = λ x. urgent_kept (is_some f.urgent) (is_some mid.urgent) h.1 x;
      receive = grind (arith, nat_tests);
    }

-- a round that counts for what it is: no byte moved, and it did not end with no interrupt pending
record Counts (f mid : RingFields) (end : HandleEnd) : Type 0 where
  pub still : Still f mid
  pub not_idle : end ≢ Idle

counts : (f mid : RingFields) (end : HandleEnd) → counts_as (has_moved f mid) end ≢ Idle → Counts f mid end
counts f mid end h = go (has_moved f mid) refl h
  where
    go : (moved : Bool) → has_moved f mid ≡ moved → counts_as moved end ≢ Idle → Counts f mid end
    go true e h = absurd (h refl)
    go false e h = record { still = unmoved f mid e; not_idle = h }

-- the count goes up by one, or the chip is found stuck, only after such a round
counted_end : (rounds : ℕ) (end : HandleEnd) (found : Option StuckError) (f : RingFields) (l : List Access) (after : RingFields) →
    CountsRound rounds end found f l after → (found ≡ None → after.rounds ≡ suc f.rounds) → end ≢ Idle
counted_end rounds Idle found f l after t h e =
    let up = h t.0 in
    let zero : after.rounds ≡ 0 = ap (λ (k : RingFields). k.rounds) t.1.1 in
    omega (arith, up, zero)
counted_end rounds Unknown found f l after t h e = cc (e)
counted_end rounds Limit found f l after t h e = cc (e)

served_count : (limit : ℕ) (handled : Handled) (f : RingFields) (l : List Access) (after : RingFields) → Handles limit handled f l after →
    after.rounds ≡ f.rounds
served_count limit handled f l after t = handles_keep limit handled f l after t

tried : (limit rounds : ℕ) (result : Result Handled StuckError) (s t : RingState) →
    (h : RingDid MachineStep (TriesToHandle limit rounds result) s t) → Ready (under s) → IsInRoom s → (ring_fields s).stuck ≡ None →
    ((handled : Handled) → result ≡ Ok handled → (ring_fields t).rounds ≡ suc (ring_fields s).rounds) →
    round_limit limit ≤ most_without_news + news_between s t
tried limit rounds result s t h ready room none up = go (subst M none h.does)
  where
    M : Option StuckError → Type 0
    M was = MatchOption was (HandlesRound (round_limit limit) rounds result (ring_fields s) h.list (ring_fields t))
        (λ error. StaysStuck result error (ring_fields s) h.list (ring_fields t))

    go : HandlesRound (round_limit limit) rounds result (ring_fields s) h.list (ring_fields t) →
        round_limit limit ≤ most_without_news + news_between s t
    go (handled, found, is, d) =
        let kept = served_count (round_limit limit) handled (ring_fields s) d.front d.mid d.first in
        let not_idle = counted_end rounds (counts_as (has_moved (ring_fields s) d.mid) handled.end) found d.mid d.back
        (ring_fields t) d.second
        (λ e. up handled (is ∙ ap (unless_stuck handled) e) ∙ ap suc (sym kept)) in
        let c = counts (ring_fields s) d.mid handled.end not_idle in
        let p = path_split MachineStep (ring_machine s) (ring_machine t) d.front d.back
        (subst (λ xs. Path MachineStep (ring_machine s) xs (ring_machine t)) d.whole h.path) in
        round_left (round_limit limit) handled (ring_fields s) d.mid d.front (ring_machine s) p.0 (ring_machine t) d.first c.not_idle
        c.still room (record { dlab = ready.dlab; loopback = ready.loopback }) p.1 (path_came d.back p.0 (ring_machine t) p.2)

pub counted_left : (limit rounds : ℕ) (handled : Handled) (s t : RingState) → Ready (under s) → IsInRoom s → (ring_fields s).stuck ≡ None →
    RingDid MachineStep (TriesToHandle limit rounds (Ok handled)) s t → (ring_fields t).rounds ≡ suc (ring_fields s).rounds →
    round_limit limit ≤ most_without_news + news_between s t
counted_left limit rounds handled s t ready room none h up = tried limit rounds (Ok handled) s t h ready room none (λ other is. up)

pub stuck_left : (limit rounds : ℕ) (error : StuckError) (s t : RingState) → Ready (under s) → IsInRoom s → (ring_fields s).stuck ≡ None →
    RingDid MachineStep (TriesToHandle limit rounds (Err error)) s t → round_limit limit ≤ most_without_news + news_between s t
stuck_left limit rounds error s t ready room none h = tried limit rounds (Err error) s t h ready room none (λ other is. absurd (cc (is)))
