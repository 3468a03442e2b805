-- What is told by XOFF and XON is obeyed: over bytes, then over the fields of rings, and then over calls of a link.
use Rattle.uart_link.proofs.Names.{◌≡◌, ◌⊎◌, inl, inr, ◌≤◌, ◌-◌, ◌==◌, ℕ, zero, suc, Bool, true, false, not, if◌then◌else◌, List, [], ◌∷◌}
use Rattle.uart_link.proofs.Names.{◌++◌, length, append_assoc, append-nil, take, drop, map, Option, Some, None, refl, sym, ◌∙◌, ap, subst}
use Rattle.uart_link.proofs.Names.{arith, AllByRecursion, option_to_list, append_cancel_left, drop-append-le, drop_all, map-id, Access}
use Rattle.uart_link.proofs.Names.{waiting, out, IsSound, held, Modes, Queue, latest, flow_character, held_as_told, is_flow_character}
use Rattle.uart_link.proofs.Names.{last_told, ObeysXoff, TellsIfAny, xon, RingFields, ring_fields, with_queued, with_told_xoff, with_urgent}
use Rattle.uart_link.proofs.Names.{without_taken, ReceiveMarks, in_order, RingAnswer, RingCall, gone_in, KeepsOrder, queued_by, to_send}
use Rattle.uart_link.proofs.Names.{to_send_with, to_take, RingState, ring_machine, Moment, Side, Left, Right, Link, Agree, Agreed, IsInTurn}
use Rattle.uart_link.proofs.Names.{IsText, KeepsAgreed, not_looked_at, ObeysInTurn, TellsInTurn, will_hold, on_cable, Carries, IsJoined}
use Rattle.uart_link.proofs.Names.{OfEnd, of_end, on_the_way, receiver_at, to_be_taken, CarriesAll, DropsNothing, at_end, CabledCallStep}
use Rattle.uart_link.proofs.Names.{EndStep, LinkChain, other, Step, has_told, is_holding}
use Rattle.uart_ring.proofs.Rts.{obeys_xoff_holds}
use Rattle.uart_ring_runs.specs.declared.call.RingAnswer.TheVariants as answers
use Rattle.uart_ring_runs.specs.declared.call.RingCall.TheVariants as call
use Rattle.uart_link.proofs.{EndPasses.InEnd, Holds.Keeps, Holds.call_keeps, LinkSteps.bytes_gone_first, LinkSteps.joined_after}
use Rattle.uart_link.proofs.{LinkSteps.link_chain, Rounds.none_before, Rounds.stands_before, Stretches.Going, Wholes.carries_all}
use Rattle.uart_link.proofs.{XoffFlows.Sent, XoffFlows.sent_end}
use Rattle.uart_link.proofs.Holds as holds

-- ---- bytes

-- whether a ring is held once these bytes were looked at
abbrev held_after : Bool → List ℕ → Bool
held_after is_held [] = is_held
held_after is_held (byte ∷ bytes) = held_after (if is_flow_character byte then not (byte == xon) else is_held) bytes

held_as : (before : Option ℕ) (is_held : Bool) (bytes : List ℕ) →
    held_as_told (last_told before bytes) is_held ≡ held_after (held_as_told before is_held) bytes
held_as before is_held [] = refl
held_as before is_held (byte ∷ bytes) = go (is_flow_character byte) (held_as (Some byte) is_held bytes) (held_as before is_held bytes)
  where
    go : (flow : Bool) → held_as_told (last_told (Some byte) bytes) is_held ≡ held_after (not (byte == xon)) bytes →
        held_as_told (last_told before bytes) is_held ≡ held_after (held_as_told before is_held) bytes →
        held_as_told (last_told (if flow then Some byte else before) bytes) is_held ≡
        held_after (if flow then not (byte == xon) else held_as_told before is_held) bytes
    go true told same = told
    go false told same = same

held_after-append : (is_held : Bool) (xs ys : List ℕ) → held_after is_held (xs ++ ys) ≡ held_after (held_after is_held xs) ys
held_after-append is_held [] ys = refl
held_after-append is_held (x ∷ xs) ys = held_after-append (if is_flow_character x then not (x == xon) else is_held) xs ys

-- text changes nothing
text_passes : (is_held : Bool) (bytes : List ℕ) → IsText bytes → held_after is_held bytes ≡ is_held
text_passes is_held [] t = refl
text_passes is_held (byte ∷ bytes) t =
    ap (λ flow. held_after (if flow then not (byte == xon) else is_held) bytes) t.0 ∙ text_passes is_held bytes t.1

told_passes : (on is_held : Bool) (bytes : List ℕ) → IsText bytes → held_after is_held (flow_character on ∷ bytes) ≡ not on
told_passes true is_held bytes t = text_passes false bytes t
told_passes false is_held bytes t = text_passes true bytes t

-- none of the latest bytes
latest_none : (bytes : List ℕ) → latest 0 bytes ≡ []
latest_none bytes = drop_all (length bytes - 0) bytes (omega arith)

-- bytes are taken from the front
taken_first : (n : ℕ) (xs : List ℕ) → take n xs ++ drop (length (take n xs)) xs ≡ xs
taken_first zero xs = refl
taken_first (suc n) [] = refl
taken_first (suc n) (x ∷ xs) = ap (λ zs. x ∷ zs) (taken_first n xs)

-- ---- a call of the end that is told, in its rings

-- these bytes left the receive ring, and new ones came; and once all were looked at, the hold is the same
record Looks (gone : List ℕ) (f after : RingFields) : Type 0 where
  pub new : List ℕ
  pub items : gone ++ after.receive.items ≡ f.receive.items ++ new
  pub hold : held_after after.is_held (latest after.unlooked after.receive.items) ≡
      held_after f.is_held (latest f.unlooked f.receive.items ++ new)

looks_on : (f g after : RingFields) → g.is_held ≡ f.is_held → g.receive ≡ f.receive → g.unlooked ≡ f.unlooked → Keeps g after →
    Looks [] f after
looks_on f g after same receive unlooked k = record {
  new = k.new;
  items = k.came ∙ ap (λ (ring : Queue). ring.items ++ k.new) receive;
  hold = (λ i. held_after ((k.held ∙ same) i) (k.unseen i)) ∙
      (λ i. held_after f.is_held (latest (unlooked i) (receive i).items ++ k.new));
}

-- what was looked at leaves the ring
looks_taken : (count : ℕ) (gone : List ℕ) (f after : RingFields) → f.unlooked ≡ 0 → gone ++ drop count f.receive.items ≡ f.receive.items →
    Keeps (without_taken count f) after → Looks gone f after
looks_taken count gone f after none whole k =
    let rest = drop count f.receive.items in
    let before : latest f.unlooked f.receive.items ≡ [] = ap (λ n. latest n f.receive.items) none ∙ latest_none f.receive.items in
    let later : latest f.unlooked rest ≡ [] = ap (λ n. latest n rest) none ∙ latest_none rest in
    record {
      new = k.new;
      items = ap (λ zs. gone ++ zs) k.came ∙ (sym (append_assoc gone rest k.new) ∙ ap (λ zs. zs ++ k.new) whole);
      hold = (λ i. held_after (k.held i) (k.unseen i)) ∙
          (ap (λ zs. held_after f.is_held (zs ++ k.new)) later ∙ sym (ap (λ zs. held_after f.is_held (zs ++ k.new)) before));
    }

looks_obeyed : (told : Option ℕ) (f : RingFields) (l : List Access) (after : RingFields) → ObeysXoff told f l after → Looks [] f after
looks_obeyed told f l after t =
    let h = obeys_xoff_holds told f l after t in
    let here = latest f.unlooked f.receive.items in
    let none : latest after.unlooked after.receive.items ≡ [] =
    ap (λ n. latest n after.receive.items) h.2 ∙ latest_none after.receive.items in
    record {
      new = [];
      items = ap (λ (ring : Queue). ring.items) h.1 ∙ sym (append-nil f.receive.items);
      hold = (λ i. held_after (h.0 i) (none i)) ∙ (ap (λ told. held_as_told told f.is_held) t.0 ∙ (held_as None f.is_held here ∙
          ap (held_after f.is_held) (sym (append-nil here))));
    }

-- each call
call_looks : (s t : RingState) (c : RingCall) (a : RingAnswer) → CabledCallStep s c a t → ObeysInTurn c s →
    Looks (gone_in c a (to_take s)) (ring_fields s) (ring_fields t)
call_looks s t (call.Queue bytes) a h turn =
    let f = ring_fields s in
    let g = with_queued (take h.outcome bytes.items) f in
    looks_on f g (ring_fields t) refl refl refl (holds.any h.outcome holds.pumps g h.did.list (ring_fields t) h.did.does.1)
call_looks s t call.ResumeTransmit a h turn =
    let f = ring_fields s in looks_on f f (ring_fields t) refl refl refl (holds.resumes f h.did.list (ring_fields t) h.did.does)
call_looks s t (call.Take slots) a h turn =
    let f = ring_fields s in
    let count = length h.outcome in
    let whole : h.outcome ++ drop count f.receive.items ≡ f.receive.items =
    ap (λ zs. zs ++ drop (length zs) f.receive.items) h.did.does.0 ∙ taken_first slots f.receive.items in
    rw h.answered (looks_taken count h.outcome f (ring_fields t) turn whole
    (holds.any count holds.ends_pause (without_taken count f) h.did.list (ring_fields t) h.did.does.1))
call_looks s t call.Service a h turn =
    let f = ring_fields s in
    looks_on f f (ring_fields t) refl refl refl (holds.services h.outcome f h.did.list (ring_fields t) h.did.does)
call_looks s t (call.Handle limit) a h turn =
    let f = ring_fields s in
    looks_on f f (ring_fields t) refl refl refl (holds.handles limit h.outcome f h.did.list (ring_fields t) h.did.does)
call_looks s t call.Retrigger a h turn =
    let f = ring_fields s in
    looks_on f f (ring_fields t) refl refl refl (holds.alike f _ (ring_fields t) h.did.does.1 refl refl refl refl refl refl)
call_looks s t call.TakeLine a h turn =
    let f = ring_fields s in
    looks_on f f (ring_fields t) refl refl refl (holds.alike f _ (ring_fields t) h.did.does.2.1 refl refl refl refl refl refl)
call_looks s t call.TakeModem a h turn =
    let f = ring_fields s in
    looks_on f f (ring_fields t) refl refl refl (holds.alike f _ (ring_fields t) h.did.does.2.1 refl refl refl refl refl refl)
call_looks s t call.HoldTransmit a h turn = absurd turn
call_looks s t call.ReleaseTransmit a h turn = absurd turn
call_looks s t (call.QueueUrgent byte) a h turn =
    let f = ring_fields s in
    let g = with_urgent (Some byte) f in
    looks_on f g (ring_fields t) refl refl refl (holds.pumps g h.did.list (ring_fields t) h.did.does.1)
call_looks s t call.ClearTransmit a h turn =
    let f = ring_fields s in
    let same = h.did.does.1.1 in
    record {
      new = [];
      items = ap (λ (g : RingFields). g.receive.items) same ∙ sym (append-nil f.receive.items);
      hold = ap (λ (g : RingFields). held_after g.is_held (latest g.unlooked g.receive.items)) same ∙
          ap (held_after f.is_held) (sym (append-nil (latest f.unlooked f.receive.items)));
    }
call_looks s t call.ClearReceive a h turn =
    let f = ring_fields s in
    let few : length f.receive.items ≤ h.outcome = let e = h.did.does.0 in omega (arith, e) in
    let whole : f.receive.items ++ drop h.outcome f.receive.items ≡ f.receive.items =
    ap (λ zs. f.receive.items ++ zs) (drop_all h.outcome f.receive.items few) ∙ append-nil f.receive.items in
    looks_taken h.outcome f.receive.items f (ring_fields t) turn whole
    (holds.any h.outcome holds.ends_pause (without_taken h.outcome f) h.did.list (ring_fields t) h.did.does.1)
call_looks s t (call.SetLowMark mark) a h turn =
    let f = ring_fields s in
    looks_on f f (ring_fields t) refl refl refl (holds.alike f _ (ring_fields t) h.did.does.1 refl refl refl refl refl refl)
call_looks s t call.TakeLow a h turn =
    let f = ring_fields s in
    looks_on f f (ring_fields t) refl refl refl (holds.alike f _ (ring_fields t) h.did.does.1.1 refl refl refl refl refl refl)
call_looks s t (call.TryHandle limit rounds) a h turn =
    let f = ring_fields s in
    looks_on f f (ring_fields t) refl refl refl (holds.tries limit rounds h.outcome f h.did.list (ring_fields t) h.did.does)
call_looks s t (call.Restart interrupts) a h turn =
    let f = ring_fields s in
    looks_on f f (ring_fields t) refl refl refl (holds.restarts interrupts.0 f h.did.list (ring_fields t) h.did.does)
call_looks s t (call.AdjustRts marks) a h turn =
    let f = ring_fields s in
    looks_on f f (ring_fields t) refl refl refl (holds.adjusts_rts marks f h.did.list (ring_fields t) h.did.does)
call_looks s t (call.AdjustXoff marks) a h turn =
    let f = ring_fields s in tells _ h.outcome f h.did.list (ring_fields t) h.did.does
  where
    tells : (wanted : Option Bool) (told : Option ℕ) (f : RingFields) (l : List Access) (after : RingFields) →
        TellsIfAny wanted told f l after → Looks [] f after
    tells None told f l after t = looks_on f f after refl refl refl (holds.stays f l after t.1)
    tells (Some on) told f l after t =
        let g = with_urgent (Some (flow_character on)) (with_told_xoff (not on) f) in
        looks_on f g after refl refl refl (holds.pumps g l after t.1.1)
call_looks s t call.ObeyXoff a h turn = looks_obeyed h.outcome (ring_fields s) h.did.list (ring_fields t) h.did.does
call_looks s t (call.Driver c) a h turn = absurd h
call_looks s t call.Next a h turn =
    let f = ring_fields s in
    looks_on f f (ring_fields t) refl refl refl (holds.alike f f (ring_fields t) h.passes.rings refl refl refl refl refl refl)

-- ---- a call of the end that tells, in its rings

-- it told nothing, and so it told last what it did before; or this, and no urgent byte waited
record Told (told : Option ℕ) (on : Bool) (f after : RingFields) : Type 0 where
  pub told_is : told ≡ Some (flow_character on)
  pub none : f.urgent ≡ None
  pub now : after.has_told_xoff ≡ not on

abbrev Tells : Option ℕ → (f after : RingFields) → Type 0
Tells told f after = ((told ≡ None) × (after.has_told_xoff ≡ f.has_told_xoff)) ⊎ ((on : Bool) × Told told on f after)

tells : (wanted : Option Bool) (told : Option ℕ) (f : RingFields) (l : List Access) (after : RingFields) →
    TellsIfAny wanted told f l after → Tells told f after
tells None told f l after t = inl (t.0, ap (λ (g : RingFields). g.has_told_xoff) t.1.1)
tells (Some on) told f l after t =
    let g = with_urgent (Some (flow_character on)) (with_told_xoff (not on) f) in
    inr (on, record { told_is = t.0; none = sym t.1.0; now = (holds.pumps g l after t.1.1).told })

-- ---- both ends

-- what will become of the hold, byte by byte
will_hold_is : (from to : RingState) → will_hold from to ≡ held_after (is_holding to) (not_looked_at from to)
will_hold_is from to = held_as None (is_holding to) (not_looked_at from to)

-- a call of the end that is told: the bytes go on, and the last one of them that says so counts
obeyer_lists : (gone items_t items_s new later before ways_t ways_s : List ℕ) (held_t held_s : Bool) →
    gone ++ items_t ≡ items_s ++ new → held_after held_t later ≡ held_after held_s (before ++ new) →
    gone ++ (items_t ++ ways_t) ≡ items_s ++ ways_s → held_after held_t (later ++ ways_t) ≡ held_after held_s (before ++ ways_s)
obeyer_lists gone items_t items_s new later before ways_t ways_s held_t held_s items hold all =
    let both : items_s ++ (new ++ ways_t) ≡ items_s ++ ways_s =
    sym (append_assoc items_s new ways_t) ∙ (ap (λ zs. zs ++ ways_t) (sym items) ∙ (append_assoc gone items_t ways_t ∙ all)) in
    let rest : new ++ ways_t ≡ ways_s = append_cancel_left items_s (new ++ ways_t) ways_s both in
    held_after-append held_t later ways_t ∙ (ap (λ h. held_after h ways_t) hold ∙ (sym (held_after-append held_s (before ++ new) ways_t) ∙
    (ap (held_after held_s) (append_assoc before new ways_t) ∙ ap (λ zs. held_after held_s (before ++ zs)) rest)))

obeyer_acts : (moments : List Moment) (c : RingCall) (a : RingAnswer) (s t r u : RingState) → EndStep moments r s c a t → u ≡ r →
    ObeysInTurn c s →
    gone_in c a (to_take s) ++ (to_be_taken t ++ on_the_way u t) ≡ to_be_taken s ++ on_the_way r s → Agree r s → Agree u t
obeyer_acts moments c a s t r u h same turn all agree =
    (subst Goal (sym same) at_r) all
  where
    Goal : RingState → Type 0
    Goal u = gone_in c a (to_take s) ++ (to_be_taken t ++ on_the_way u t) ≡ to_be_taken s ++ on_the_way r s → Agree u t

    T : RingFields → Type 0
    T f = Looks (gone_in c a f.receive.items) f (ring_fields t)

    at_r : Goal r
    at_r all =
        let looks = subst T h.arranges.rings (call_looks h.begins t c a h.called (turn_of c h.begins h.arranges.rings turn)) in
        let f = ring_fields s in
        let g = ring_fields t in
        let gone = gone_in c a (to_take s) in
        let ways_t = waiting (ring_machine t) ++ on_the_way r t in
        let ways_s = waiting (ring_machine s) ++ on_the_way r s in
        let whole : gone ++ (to_take t ++ ways_t) ≡ to_take s ++ ways_s =
        ap (λ zs. gone ++ zs) (sym (append_assoc (to_take t) (waiting (ring_machine t)) (on_the_way r t))) ∙ (all ∙
        append_assoc (to_take s) (waiting (ring_machine s)) (on_the_way r s)) in
        record {
          same = will_hold_is r t ∙ (obeyer_lists gone (to_take t) (to_take s) looks.new (latest g.unlooked (to_take t))
              (latest f.unlooked (to_take s)) ways_t ways_s g.is_held f.is_held looks.items looks.hold whole ∙
              (sym (will_hold_is r s) ∙ agree.same));
          text = agree.text;
        }
      where
        turn_of : (c : RingCall) (begins : RingState) → ring_fields begins ≡ ring_fields s → ObeysInTurn c s → ObeysInTurn c begins
        turn_of (call.Take slots) begins same turn = ap (λ (f : RingFields). f.unlooked) same ∙ turn
        turn_of call.ClearReceive begins same turn = ap (λ (f : RingFields). f.unlooked) same ∙ turn
        turn_of call.HoldTransmit begins same turn = turn
        turn_of call.ReleaseTransmit begins same turn = turn
        turn_of other begins same turn = tt

-- what is on the way once an end has made a call
way_after : (x : Modes) (c : RingCall) (a : RingAnswer) (s t r : RingState) → x.cut ≡ (λ (byte : ℕ). byte) →
    (receiver_at r).arrived ≤ length (ring_machine s).chip.transmitter.wire →
    (receiver_at r).arrived ≤ length (ring_machine t).chip.transmitter.wire → (p : Sent x (to_send_with c a) s t) →
    on_the_way t r ≡
    (on_cable (ring_machine s).chip (ring_machine r).chip ++ held (ring_machine s).chip.transmitter) ++ to_send_with c a (to_send s)
way_after x c a s t r whole before behind p =
    let k = (receiver_at r).arrived in
    let m = (ring_machine s).chip.transmitter in
    let n = (ring_machine t).chip.transmitter in
    let all : out (ring_machine t) ≡ out (ring_machine s) ++ p.written =
    p.grows ∙ ap (λ zs. out (ring_machine s) ++ zs) (ap (λ (cut : ℕ → ℕ). map cut p.written) whole ∙ map-id p.written) in
    let left : drop k (out (ring_machine t)) ≡ drop k n.wire ++ held n = drop-append-le k n.wire (held n) behind in
    let right : drop k (out (ring_machine s) ++ p.written) ≡ (drop k m.wire ++ held m) ++ p.written =
    ap (drop k) (append_assoc m.wire (held m) p.written) ∙ (drop-append-le k m.wire (held m ++ p.written) before ∙
    sym (append_assoc (drop k m.wire) (held m) p.written)) in
    let both : drop k n.wire ++ held n ≡ (drop k m.wire ++ held m) ++ p.written = sym left ∙ (ap (drop k) all ∙ right) in
    sym (append_assoc (drop k n.wire) (held n) (to_send t)) ∙ (ap (λ zs. zs ++ to_send t) both ∙
    (append_assoc (drop k m.wire ++ held m) p.written (to_send t) ∙ ap (λ zs. (drop k m.wire ++ held m) ++ zs) p.all))

-- what is queued is text
queued_text : (c : RingCall) (a : RingAnswer) → TellsInTurn c → IsText (queued_by c a)
queued_text (call.Queue bytes) (answers.Count count) t = holds.text_take count bytes.items t
queued_text (call.Queue bytes) other t = tt
queued_text other a t = tt

-- bytes of text that come last change nothing
text_last : (is_held : Bool) (bytes more : List ℕ) → IsText more → held_after is_held (bytes ++ more) ≡ held_after is_held bytes
text_last is_held bytes more t = held_after-append is_held bytes more ∙ text_passes (held_after is_held bytes) more t

-- what is told counts, and what waits behind it is text
told_last : (on is_held : Bool) (bytes more : List ℕ) → IsText more → held_after is_held (bytes ++ flow_character on ∷ more) ≡ not on
told_last on is_held bytes more t =
    held_after-append is_held bytes (flow_character on ∷ more) ∙ told_passes on (held_after is_held bytes) more t

-- the bytes that an end has not looked at, if these are on the way
four : (here there way more : List ℕ) → here ++ (there ++ (way ++ more)) ≡ (here ++ (there ++ way)) ++ more
four here there way more =
    ap (λ zs. here ++ zs) (sym (append_assoc there way more)) ∙ sym (append_assoc here (there ++ way) more)

-- a call of the end that tells
teller_acts : (x : Modes) (moments : List Moment) (c : RingCall) (a : RingAnswer) (s t r u : RingState) → InEnd x s →
    x.cut ≡ (λ (byte : ℕ). byte) → EndStep moments r s c a t → u ≡ r → TellsInTurn c →
    (receiver_at r).arrived ≤ length (ring_machine s).chip.transmitter.wire →
    (receiver_at u).arrived ≤ length (ring_machine t).chip.transmitter.wire → Agree s r → Agree t u
teller_acts x moments c a s t r u w whole h same turn before behind agree = (subst Goal (sym same) at_r) behind
  where
    Goal : RingState → Type 0
    Goal u = (receiver_at u).arrived ≤ length (ring_machine t).chip.transmitter.wire → Agree t u

    f : RingFields
    f = ring_fields s

    here : List ℕ
    here = latest (ring_fields r).unlooked (to_take r)

    cable : List ℕ
    cable = on_cable (ring_machine s).chip (ring_machine r).chip ++ held (ring_machine s).chip.transmitter

    -- what was not looked at is the same, and then what waits at the end
    looked : not_looked_at s r ≡ (here ++ (waiting (ring_machine r) ++ cable)) ++ to_send s
    looked =
        ap (λ zs. here ++ (waiting (ring_machine r) ++ zs)) (sym (append_assoc (on_cable (ring_machine s).chip (ring_machine r).chip)
        (held (ring_machine s).chip.transmitter) (to_send s))) ∙ four here (waiting (ring_machine r)) cable (to_send s)

    front : List ℕ
    front = here ++ (waiting (ring_machine r) ++ cable)

    at_r : Goal r
    at_r behind =
        let sent = sent_end x moments r s t c a w h in
        let way = way_after x c a s t r whole before behind sent in
        let now : not_looked_at t r ≡ front ++ to_send_with c a (to_send s) =
        ap (λ zs. here ++ (waiting (ring_machine r) ++ zs)) way ∙
        four here (waiting (ring_machine r)) cable (to_send_with c a (to_send s)) in
        let k = call_keeps h.begins t c a h.called in
        let C : RingFields → Type 0 = λ g. holds.CallKeeps c a g (ring_fields t) in
        let kept = subst C h.arranges.rings k in
        record {
          same = will_hold_is t r ∙ (ap (held_after (is_holding r)) now ∙ after c a h turn kept);
          text = kept.text turn agree.text;
        }
      where
        -- it was so before
        was : held_after (is_holding r) (front ++ to_send s) ≡ has_told s
        was = sym (ap (held_after (is_holding r)) looked) ∙ (sym (will_hold_is s r) ∙ agree.same)

        other_calls : (c : RingCall) (a : RingAnswer) → KeepsOrder c → IsText (queued_by c a) → has_told t ≡ has_told s →
            held_after (is_holding r) (front ++ to_send_with c a (to_send s)) ≡ has_told t
        other_calls c a order text told =
            ap (λ zs. held_after (is_holding r) (front ++ zs)) (in_order c a (to_send s) order) ∙
            (sym (ap (held_after (is_holding r)) (append_assoc front (to_send s) (queued_by c a))) ∙
            (text_last (is_holding r) (front ++ to_send s) (queued_by c a) text ∙ (was ∙ sym told)))

        adjusts : (marks : ReceiveMarks) (told : Option ℕ) → Tells told f (ring_fields t) →
            held_after (is_holding r) (front ++ to_send_with (call.AdjustXoff marks) (answers.Told told) (to_send s)) ≡ has_told t
        adjusts marks told (inl (none, same)) =
            ap (λ told. held_after (is_holding r) (front ++ (option_to_list told ++ to_send s))) none ∙ (was ∙ sym same)
        adjusts marks told (inr (on, k)) =
            ap (λ told. held_after (is_holding r) (front ++ (option_to_list told ++ to_send s))) k.told_is ∙
            (ap (λ urgent. held_after (is_holding r) (front ++ flow_character on ∷ (option_to_list urgent ++ f.transmit.items))) k.none ∙
            (told_last on (is_holding r) front f.transmit.items agree.text ∙ sym k.now))

        after : (c : RingCall) (a : RingAnswer) → EndStep moments r s c a t → TellsInTurn c → holds.CallKeeps c a f (ring_fields t) →
            held_after (is_holding r) (front ++ to_send_with c a (to_send s)) ≡ has_told t
        after (call.AdjustXoff marks) a h turn k =
            let d = h.called.did in
            let S : RingFields → Type 0 = λ g. Tells h.called.outcome g (ring_fields t) in
            let told = subst S h.arranges.rings (tells _ h.called.outcome (ring_fields h.begins) d.list (ring_fields t) d.does) in
            rw h.called.answered (adjusts marks h.called.outcome told)
        after (call.Queue bytes) a h turn k = other_calls (call.Queue bytes) a tt (queued_text (call.Queue bytes) a turn) (k.told refl)
        after other a h turn k = other_calls other a turn (queued_text other a turn) (k.told refl)

-- ---- calls of a link

-- a call of the end that is told: what left its receive ring, what waits there, and what is on the way were so before
obeyed_all : (end side : Side) (gone queued left there way : List ℕ) (Order : Type 0) →
    (OfEnd end side Order × Unit {0} → (of_end (other end) side gone ++ []) ++ left ≡ there ++ (way ++ (of_end end side queued ++ []))) →
    OfEnd (other end) side (gone ++ left ≡ there ++ way)
obeyed_all Left Left gone queued left there way Order h = tt
obeyed_all Right Right gone queued left there way Order h = tt
obeyed_all Left Right gone queued left there way Order h =
    sym (ap (λ zs. zs ++ left) (append-nil gone)) ∙ (h (tt, tt) ∙ ap (λ zs. there ++ zs) (append-nil way))
obeyed_all Right Left gone queued left there way Order h =
    sym (ap (λ zs. zs ++ left) (append-nil gone)) ∙ (h (tt, tt) ∙ ap (λ zs. there ++ zs) (append-nil way))

step_agrees : (x z : Modes) (end side : Side) (moments : List Moment) (c : RingCall) (answer : RingAnswer) (a b : Link) →
    InEnd x a.left → InEnd z a.right → x.cut ≡ (λ (byte : ℕ). byte) → z.cut ≡ (λ (byte : ℕ). byte) →
    EndStep moments (at_end (other side) a) (at_end side a) c answer (at_end side b) → at_end (other side) b ≡ at_end (other side) a →
    IsJoined a → IsJoined b → OfEnd end side (TellsInTurn c) → OfEnd (other end) side (ObeysInTurn c (at_end (other end) a)) →
    OfEnd (other end) side (gone_in c answer (to_take (at_end side a)) ++
    (to_be_taken (at_end (other end) b) ++ on_the_way (at_end end b) (at_end (other end) b)) ≡
    to_be_taken (at_end (other end) a) ++ on_the_way (at_end end a) (at_end (other end) a)) →
    Agree (at_end end a) (at_end (other end) a) → Agree (at_end end b) (at_end (other end) b)
step_agrees x z Left Left moments c answer a b w v whole whole_too h same before after tells obeys all agree =
    teller_acts x moments c answer a.left b.left a.right b.right w whole h same tells before.right.behind after.right.behind agree
step_agrees x z Right Right moments c answer a b w v whole whole_too h same before after tells obeys all agree =
    teller_acts z moments c answer a.right b.right a.left b.left v whole_too h same tells before.left.behind after.left.behind agree
step_agrees x z Left Right moments c answer a b w v whole whole_too h same before after tells obeys all agree =
    obeyer_acts moments c answer a.right b.right a.left b.left h same obeys all agree
step_agrees x z Right Left moments c answer a b w v whole whole_too h same before after tells obeys all agree =
    obeyer_acts moments c answer a.left b.left a.right b.right h same obeys all agree

-- the machine of the other end is sound
sound_there : (x z : Modes) (end : Side) (a : Link) → InEnd x a.left → InEnd z a.right → IsSound (ring_machine (at_end (other end) a))
sound_there x z Left a w v = v.session.stands.sound
sound_there x z Right a w v = w.session.stands.sound

chain_agrees : (x z : Modes) (end : Side) (a b : Link) (steps : List Step) → InEnd x a.left → InEnd z a.right → IsJoined a →
    x.cut ≡ (λ (byte : ℕ). byte) → z.cut ≡ (λ (byte : ℕ). byte) →
    ((u v : Link) (part : List Step) → InEnd x u.left → InEnd z u.right → IsJoined u → LinkChain u part v → Carries end u part v) →
    LinkChain a steps b → AllByRecursion (IsInTurn end) steps → DropsNothing (other end) a b → Agree (at_end end a) (at_end (other end) a) →
    Agree (at_end end b) (at_end (other end) b)
chain_agrees x z end a b [] w v joined whole whole_too carries h each none agree =
    subst (λ (o : Link). Agree (at_end end o) (at_end (other end) o)) (sym h) agree
chain_agrees x z end a b (step ∷ steps) w v joined whole whole_too carries h each none agree =
    let here = sym h.0 in
    let to = other end in
    let w' = subst (λ (o : Link). InEnd x o.left) here w in
    let v' = subst (λ (o : Link). InEnd z o.right) here v in
    let joined' = subst (λ (o : Link). IsJoined o) here joined in
    let none' = subst (λ (o : Link). DropsNothing to o b) here none in
    let agree' = subst (λ (o : Link). Agree (at_end end o) (at_end to o)) here agree in
    let first : LinkChain step.before (step ∷ []) step.after = (refl, h.1, refl) in
    let one = link_chain x z step.before step.after (step ∷ []) w' v' joined' first in
    let after = joined_after x z _ _ _ _ step.before step.after one in
    let goes : Going x z step.before = record { left = w'; right = v'; joined = joined' } in
    let goes_on : Going x z step.after = record { left = one.in_left; right = one.in_right; joined = after } in
    let none_first = none_before to step.before step.after b (stands_before x z to step.after b steps goes_on h.2) none' in
    let none_rest : DropsNothing to step.after b = λ d. none' (record {
      origin = d.origin;
      stood = stands_before x z to step.before step.after (step ∷ []) goes first d.origin d.stood;
      lost = d.lost;
    }) in
    let all : CarriesAll end step.before (step ∷ []) step.after = carries_all end step.before step.after (step ∷ [])
    (sound_there x z end step.before w' v') none_first (carries step.before step.after (step ∷ []) w' v' joined' first) in
    let gone = gone_in step.call.call step.answer (to_take (at_end step.call.side step.before)) in
    let queued = queued_by step.call.call step.answer in
    let left = to_be_taken (at_end to step.after) ++ on_the_way (at_end end step.after) (at_end to step.after) in
    let obeyed = obeyed_all end step.call.side gone queued left (to_be_taken (at_end to step.before))
    (on_the_way (at_end end step.before) (at_end to step.before)) (KeepsOrder step.call.call)
    (λ order. ap (λ zs. zs ++ left) (sym (bytes_gone_first to step [])) ∙ all order) in
    chain_agrees x z end step.after b steps one.in_left one.in_right after whole whole_too carries h.2 each.1 none_rest
    (step_agrees x z end step.call.side step.call.moments.items step.call.call step.answer step.before step.after w' v' whole whole_too
    h.1.0 h.1.1 joined' after each.0.tells each.0.obeys obeyed agree')

-- and once all is text that is on the way, the hold is as it was told
agreed : (from to : RingState) → Agree from to → Agreed from to
agreed from to agree = record {
  agree = agree;
  settled = λ text. sym (text_passes (is_holding to) (not_looked_at from to) text) ∙ (sym (will_hold_is from to) ∙ agree.same);
}

pub keeps_agreed : (x z : Modes) (end : Side) (a b : Link) (steps : List Step) → InEnd x a.left → InEnd z a.right → IsJoined a →
    x.cut ≡ (λ (byte : ℕ). byte) → z.cut ≡ (λ (byte : ℕ). byte) →
    ((u v : Link) (part : List Step) → InEnd x u.left → InEnd z u.right → IsJoined u → LinkChain u part v → Carries end u part v) →
    LinkChain a steps b → KeepsAgreed end a steps b
keeps_agreed x z end a b steps w v joined whole whole_too carries chain each none agree =
    agreed (at_end end b) (at_end (other end) b)
    (chain_agrees x z end a b steps w v joined whole whole_too carries chain each none agree)
