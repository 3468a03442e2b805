-- What a ring call makes of the hold, of what was told last, of the bytes that wait, and of those that came: while the transmit ring is
-- held, only an urgent byte leaves the rings.
use Rattle.uart_link.proofs.Names.{◌≡◌, inl, inr, ◌≤◌, ◌+◌, ◌-◌, ◌==◌, ℕ, zero, suc, nat_lt, Bool, true, false, not, MatchBool, List, []}
use Rattle.uart_link.proofs.Names.{◌∷◌, ◌++◌, length, length-append, length-take, length-drop, append-nil, append_assoc, take, drop, min}
use Rattle.uart_link.proofs.Names.{Option, Some, None, Result, refl, sym, ◌∙◌, ap, subst, arith, common_steps, drop-append-le, MatchOption}
use Rattle.uart_link.proofs.Names.{option_to_list, Access, InterruptType, settings_of, Settings, Enables, Disables, Sends, each-append}
use Rattle.uart_link.proofs.Names.{Queue, latest, RingDoing, RingFields, OnDriver, Stays, IfAny, ring_fields, free, is_full}
use Rattle.uart_link.proofs.Names.{sendable, allowed, urgent_left, with_driver, with_queued, with_received, with_hold, with_urgent}
use Rattle.uart_link.proofs.Names.{with_told_xoff, without_taken, looked, with_rounds, with_paused, RingSets, cleared, Implies, Pumps}
use Rattle.uart_link.proofs.Names.{ResumesTransmit, Holds, Releases, PausesIfFull, FillsReceiveRing, EndsPause, MakesRtsIfAny, rts_at}
use Rattle.uart_link.proofs.Names.{to_tell, flow_character, TellsIfAny, AdjustsRts, AdjustsXoff, is_flow_character, xon, Obeys}
use Rattle.uart_link.proofs.Names.{ReceiveMarks, Handled, RingCall, RingAnswer, RingState, to_send_with, IsText, TellsInTurn}
use Rattle.uart_link.proofs.Names.{CabledCallStep, xoff_hold_of, urged_by, MayTell}
use Rattle.uart_spec.specs.declared.registers.interrupt_enable.TheConstants.IER
use Rattle.uart_spec.specs.declared.registers.interrupt_type.InterruptType.TheVariants as interrupts
use Rattle.uart_ring.specs.Ring.{waiting}
use Rattle.uart_ring.specs.Service.{SendsOnIf, ServesData, ServesInterrupt, ServesOne, ServesTimes, Stops, ServesUpTo, Services}
use Rattle.uart_ring.specs.Handle.{RetriggersUnlessIdle, Handles, SendsAndRetriggers}
use Rattle.uart_ring.specs.Storm.{LooksOnceMore, CountsUnfinished, CountsRound, HandlesRound, StaysStuck, TriesToHandle, counts_as}
use Rattle.uart_ring.specs.Storm.{Restarts}
use Rattle.uart_ring.specs.Storm.{has_moved, round_limit}
use Rattle.uart_ring.specs.declared.ring.storm.StuckError.{StuckError}
use Rattle.uart_ring.specs.declared.ring.service.TheConstants.{MAX_INTERRUPTS}
use Rattle.uart_ring.specs.declared.ring.service.HandleEnd.{HandleEnd}
use Rattle.uart_ring.specs.declared.ring.service.HandleEnd.TheVariants.{Idle, Unknown, Limit}
use Rattle.uart_ring_runs.specs.declared.call.RingCall.TheVariants as call
use Rattle.uart_ring_runs.specs.declared.call.RingAnswer.TheVariants as answers

-- ---- what the rings do

-- the urgent bytes that wait
abbrev pub urgents : RingFields → ℕ
urgents f = length (option_to_list f.urgent)

-- the latest bytes, once more have come
latest_more : (count : ℕ) (xs ys : List ℕ) → latest (min count (length xs) + length ys) (xs ++ ys) ≡ latest count xs ++ ys
latest_more count xs ys =
    let all = length-append xs ys in
    let e : length (xs ++ ys) - (min count (length xs) + length ys) ≡ length xs - count = omega (arith, all) in
    ap (λ n. drop n (xs ++ ys)) e ∙ drop-append-le (length xs - count) xs ys (omega arith)

-- a part of a text is one
text_drop : (n : ℕ) (bytes : List ℕ) → IsText bytes → IsText (drop n bytes)
text_drop zero bytes t = t
text_drop (suc n) [] t = tt
text_drop (suc n) (byte ∷ bytes) t = text_drop n bytes t.1

pub text_take : (n : ℕ) (bytes : List ℕ) → IsText bytes → IsText (take n bytes)
text_take zero bytes t = tt
text_take (suc n) [] t = tt
text_take (suc n) (byte ∷ bytes) t = (t.0, text_take n bytes t.1)

-- from these fields to those: the hold and what was told last are the same, no urgent byte was queued, none of the ring left while it is
-- held, and what is left of a text is one; and these bytes came, and were not looked at
pub record Keeps (f after : RingFields) : Type 0 where
  pub held : after.is_held ≡ f.is_held
  pub told : after.has_told_xoff ≡ f.has_told_xoff
  pub urgent : urgents after ≤ urgents f
  pub items : f.is_held ≡ true → after.transmit.items ≡ f.transmit.items
  pub text : IsText f.transmit.items → IsText after.transmit.items
  pub new : List ℕ
  pub came : after.receive.items ≡ f.receive.items ++ new
  pub unseen : latest after.unlooked after.receive.items ≡ latest f.unlooked f.receive.items ++ new

abbrev Keeping : RingDoing
Keeping f l after = Keeps f after

keeps-then : (f mid after : RingFields) → Keeps f mid → Keeps mid after → Keeps f after
keeps-then f mid after a b = record {
  held = b.held ∙ a.held;
  told = b.told ∙ a.told;
  urgent = omega (arith, a.urgent, b.urgent);
  items = λ on. b.items (a.held ∙ on) ∙ a.items on;
  text = λ t. b.text (a.text t);
  new = a.new ++ b.new;
  came = b.came ∙ (ap (λ zs. zs ++ b.new) a.came ∙ append_assoc f.receive.items a.new b.new);
  unseen = b.unseen ∙ (ap (λ zs. zs ++ b.new) a.unseen ∙ append_assoc (latest f.unlooked f.receive.items) a.new b.new);
}

-- nothing of all this changes
pub alike : (f g after : RingFields) → after ≡ g → g.is_held ≡ f.is_held → g.has_told_xoff ≡ f.has_told_xoff → g.urgent ≡ f.urgent →
    g.transmit ≡ f.transmit → g.receive ≡ f.receive → g.unlooked ≡ f.unlooked → Keeps f after
alike f g after same held told urgent transmit receive unlooked =
    let items : after.transmit.items ≡ f.transmit.items =
    ap (λ (h : RingFields). h.transmit.items) same ∙ ap (λ (ring : Queue). ring.items) transmit in
    record {
      held = ap (λ (h : RingFields). h.is_held) same ∙ held;
      told = ap (λ (h : RingFields). h.has_told_xoff) same ∙ told;
      urgent =
          let e : urgents after ≡ urgents f = ap (λ (h : RingFields). urgents h) same ∙ ap (λ u. length (option_to_list u)) urgent in
          omega (arith, e);
      items = λ on. items;
      text = λ t. subst (λ bytes. IsText bytes) (sym items) t;
      new = [];
      came = ap (λ (h : RingFields). h.receive.items) same ∙ (ap (λ (ring : Queue). ring.items) receive ∙ sym (append-nil f.receive.items));
      unseen = ap (λ (h : RingFields). latest h.unlooked h.receive.items) same ∙ ((λ i. latest (unlooked i) (receive i).items) ∙
          sym (append-nil (latest f.unlooked f.receive.items)));
    }

pub stays : Implies Stays Keeping
stays f l after t = alike f f after t.1 refl refl refl refl refl refl

-- of a held ring only an urgent byte may be sent
held_allows : (stuck : Option StuckError) (held : Bool) (urgent : Option ℕ) (items : List ℕ) → held ≡ true →
    length (allowed stuck held urgent items) ≤ length (option_to_list urgent)
held_allows (Some error) held urgent items on = omega arith
held_allows None true urgent items on = let k = length-append (option_to_list urgent) [] in omega (arith, k)
held_allows None false urgent items on = absurd (cc)

sent_within : (bytes : List ℕ) (sent : ℕ) (s : Settings) (l : List Access) → Sends bytes sent s l → sent ≤ length bytes
sent_within bytes sent s l (inl t) = omega (arith, t.1)
sent_within bytes sent s l (inr (inl t)) = omega (arith, t.1)
sent_within bytes sent s l (inr (inr t)) = omega (arith, t.1)

fewer_urgent : (sent : ℕ) (urgent : Option ℕ) → length (option_to_list (urgent_left sent urgent)) ≤ length (option_to_list urgent)
fewer_urgent zero urgent = omega arith
fewer_urgent (suc n) urgent = omega arith

pub pumps : Implies Pumps Keeping
pumps f l after (sent, (t, same)) =
    let bytes = sendable f in
    let few = sent_within bytes sent (settings_of f.driver) t.front t.first.0 in
    record {
      held = ap (λ (h : RingFields). h.is_held) same;
      told = ap (λ (h : RingFields). h.has_told_xoff) same;
      urgent =
          let e : urgents after ≡ length (option_to_list (urgent_left sent f.urgent)) = ap (λ (h : RingFields). urgents h) same in
          let k = fewer_urgent sent f.urgent in omega (arith, e, k);
      items = λ on.
          let k = held_allows f.stuck f.is_held f.urgent f.transmit.items on in
          let none : sent - length (option_to_list f.urgent) ≡ 0 = omega (arith, few, k) in
          ap (λ (h : RingFields). h.transmit.items) same ∙ ap (λ n. drop n f.transmit.items) none;
      text = λ t.
          subst (λ bytes. IsText bytes) (sym (ap (λ (h : RingFields). h.transmit.items) same))
          (text_drop (sent - length (option_to_list f.urgent)) f.transmit.items t);
      new = [];
      came = ap (λ (h : RingFields). h.receive.items) same ∙ sym (append-nil f.receive.items);
      unseen = ap (λ (h : RingFields). latest h.unlooked h.receive.items) same ∙ sym (append-nil (latest f.unlooked f.receive.items));
    }

pub any : {G : RingDoing} (count : ℕ) → Implies G Keeping → Implies (IfAny count G) Keeping
any zero k f l after t = stays f l after t
any (suc n) k f l after t = k f l after t

pub ends_pause : Implies EndsPause Keeping
ends_pause f l after t = go f.is_paused t
  where
    go : (b : Bool) → MatchBool b (OnDriver (Enables IER.DATA_READY.0) (with_paused false) f l after) (Stays f l after) → Keeps f after
    go true t = alike f _ after t.1 refl refl refl refl refl refl
    go false t = stays f l after t

pauses : Implies PausesIfFull Keeping
pauses f l after t = go (is_full f.receive) t
  where
    go : (b : Bool) → MatchBool b (OnDriver (Disables IER.DATA_READY.0) (with_paused true) f l after) (Stays f l after) → Keeps f after
    go true t = alike f _ after t.1 refl refl refl refl refl refl
    go false t = stays f l after t

-- bytes come
receives : (bytes : List ℕ) (f after : RingFields) → after ≡ with_driver after.driver (with_received bytes f) → Keeps f after
receives bytes f after same = record {
  held = ap (λ (h : RingFields). h.is_held) same;
  told = ap (λ (h : RingFields). h.has_told_xoff) same;
  urgent = let e : urgents after ≡ urgents f = ap (λ (h : RingFields). urgents h) same in omega (arith, e);
  items = λ on. ap (λ (h : RingFields). h.transmit.items) same;
  text = λ t. subst (λ bytes. IsText bytes) (sym (ap (λ (h : RingFields). h.transmit.items) same)) t;
  new = bytes;
  came = ap (λ (h : RingFields). h.receive.items) same;
  unseen = ap (λ (h : RingFields). latest h.unlooked h.receive.items) same ∙ latest_more f.unlooked f.receive.items bytes;
}

fills : Implies FillsReceiveRing Keeping
fills f l after (bytes, t) = keeps-then f t.mid after (receives bytes f t.mid t.first.1) (pauses t.mid t.back after t.second)

sends_on : (room : Bool) → Implies (SendsOnIf room) Keeping
sends_on true f l after (zero, t) = alike f _ after t.1 refl refl refl refl refl refl
sends_on true f l after (suc n, t) = pumps f l after (suc n, t)
sends_on false f l after t = stays f l after t

serves_data : (room : Bool) → Implies (ServesData room) Keeping
serves_data room f l after t = keeps-then f t.mid after (fills f t.front t.mid t.first) (sends_on room t.mid t.back after t.second)

serves : (sends room left : Bool) (interrupt : InterruptType) → Implies (ServesInterrupt sends room left interrupt) Keeping
serves sends room left interrupts.ReceiverLineStatus f l after (status, told, t) = alike f _ after t.1 refl refl refl refl refl refl
serves sends room left interrupts.ReceivedDataReady f l after (is, t) = serves_data room f l after t
serves sends room left interrupts.ReceptionTimeout f l after (is, t) = serves_data room f l after t
serves sends room left interrupts.TransmitterHoldingRegisterEmpty f l after (is, t) = pumps f l after t
serves sends room left interrupts.ModemStatus f l after (is, (status, t)) = alike f _ after t.1 refl refl refl refl refl refl
serves sends room left interrupts.DmaReceptionEndOfTransfer f l after (is, t) = stays f l after t
serves sends room left interrupts.DmaTransmissionEndOfTransfer f l after (is, t) = stays f l after t

serves_one : (sends room left : Bool) → Implies (ServesOne sends room left) Keeping
serves_one sends room left f l after (interrupt, t) =
    keeps-then f t.mid after (alike f _ t.mid t.first.1 refl refl refl refl refl refl)
    (serves sends room left interrupt t.mid t.back after t.second)

times : (sends : Bool) (n : ℕ) (room left : Bool) → Implies (ServesTimes sends n room left) Keeping
times sends zero room left f l after (is, t) = stays f l after t
times sends (suc n) room left f l after (next, t) =
    keeps-then f t.mid after (serves_one sends room next f t.front t.mid t.first) (times sends n next left t.mid t.back after t.second)

stops : (end : HandleEnd) → Implies (Stops end) Keeping
stops Idle f l after t = alike f _ after t.1 refl refl refl refl refl refl
stops Unknown f l after t = alike f _ after t.1 refl refl refl refl refl refl
stops Limit f l after t = stays f l after t

serves_up_to : (sends : Bool) (limit : ℕ) (handled : Handled) (room : Bool) → Implies (ServesUpTo sends limit handled room) Keeping
serves_up_to sends limit handled room f l after (within, t) =
    keeps-then f t.mid after (times sends handled.served false room f t.front t.mid t.first) (stops handled.end t.mid t.back after t.second)

sends_and_retriggers : (room : Bool) → Implies (SendsAndRetriggers room) Keeping
sends_and_retriggers room f l after t =
    keeps-then f t.mid after (sends_on room f t.front t.mid t.first) (alike t.mid _ after t.second.1 refl refl refl refl refl refl)

unless_idle : (room : Bool) (end : HandleEnd) → Implies (RetriggersUnlessIdle room end) Keeping
unless_idle room Idle f l after t = stays f l after t
unless_idle room Unknown f l after t = sends_and_retriggers room f l after t
unless_idle room Limit f l after t = sends_and_retriggers room f l after t

pub handles : (limit : ℕ) (handled : Handled) → Implies (Handles limit handled) Keeping
handles limit handled f l after (room, t) =
    keeps-then f t.mid after (serves_up_to true limit handled room f t.front t.mid t.first)
    (unless_idle room handled.end t.mid t.back after t.second)

looks : (found : Option StuckError) → Implies (LooksOnceMore found) Keeping
looks None f l after t = alike f _ after t.1 refl refl refl refl refl refl
looks (Some error) f l after t =
    keeps-then f t.mid after (alike f _ t.mid t.first.1 refl refl refl refl refl refl)
    (alike t.mid _ after t.second.1 refl refl refl refl refl refl)

counts_unfinished : (rounds : ℕ) (found : Option StuckError) → Implies (CountsUnfinished rounds found) Keeping
counts_unfinished rounds found f l after t = go (nat_lt (suc f.rounds) rounds) t
  where
    go : (more : Bool) → MatchBool more ((found ≡ None) × RingSets (with_rounds (suc f.rounds)) f l after)
        (LooksOnceMore found f l after) → Keeps f after
    go true t = alike f _ after t.1.1 refl refl refl refl refl refl
    go false t = looks found f l after t

counts : (rounds : ℕ) (end : HandleEnd) (found : Option StuckError) → Implies (CountsRound rounds end found) Keeping
counts rounds Idle found f l after t = alike f _ after t.1.1 refl refl refl refl refl refl
counts rounds Unknown found f l after t = counts_unfinished rounds found f l after t
counts rounds Limit found f l after t = counts_unfinished rounds found f l after t

pub tries : (limit rounds : ℕ) (result : Result Handled StuckError) → Implies (TriesToHandle limit rounds result) Keeping
tries limit rounds result f l after t = go f.stuck t
  where
    go : (was : Option StuckError) → MatchOption was (HandlesRound (round_limit limit) rounds result f l after)
        (λ error. StaysStuck result error f l after) → Keeps f after
    go None (handled, found, is, t) =
        keeps-then f t.mid after (handles (round_limit limit) handled f t.front t.mid t.first)
        (counts rounds (counts_as (has_moved f t.mid) handled.end) found t.mid t.back after t.second)
    go (Some error) t = alike f _ after t.1.1 refl refl refl refl refl refl

pub resumes : Implies ResumesTransmit Keeping
resumes f l after t = any (length (waiting f)) pumps f l after t

makes_rts : (wanted : Option Bool) → Implies (MakesRtsIfAny wanted) Keeping
makes_rts None f l after t = stays f l after t
makes_rts (Some on) f l after t = alike f _ after t.1 refl refl refl refl refl refl

pub adjusts_rts : (marks : ReceiveMarks) → Implies (AdjustsRts marks) Keeping
adjusts_rts marks f l after t = makes_rts (rts_at marks (free f.receive)) f l after t

pub services : (count : ℕ) → Implies (Services count) Keeping
services count f l after (end, room, t) = serves_up_to false MAX_INTERRUPTS (record { served = count; end = end }) room f l after t

pub restarts : (bits : ℕ) → Implies (Restarts bits) Keeping
restarts bits f l after t =
    keeps-then f t.mid after (alike f _ t.mid t.first.1 refl refl refl refl refl refl) (resumes t.mid t.back after t.second)

-- ---- what a call does

-- if the ring is held after a call, no more was sent of what waits than urgent bytes; no more urgent bytes wait than did and were queued;
-- only `adjust_xoff` changes what was told last; and a text stays one if what is queued is
pub record CallKeeps (c : RingCall) (a : RingAnswer) (f after : RingFields) : Type 0 where
  pub held : after.is_held ≡ true →
      length (to_send_with c a (waiting f)) ≤ (length (option_to_list f.urgent) + urged_by c a) + length after.transmit.items
  pub urgent : length (option_to_list after.urgent) ≤ length (option_to_list f.urgent) + urged_by c a
  pub told : xoff_hold_of c ≡ None → after.has_told_xoff ≡ f.has_told_xoff
  pub text : TellsInTurn c → IsText f.transmit.items → IsText after.transmit.items

-- all that waits, and nothing more
all_waits : (f : RingFields) → length (waiting f ++ []) ≡ length (option_to_list f.urgent) + length f.transmit.items
all_waits f =
    let one = length-append (waiting f) [] in
    let two = length-append (option_to_list f.urgent) f.transmit.items in omega (arith, one, two)

-- what may change before is none of this
kept_on : (c : RingCall) (a : RingAnswer) (f g after : RingFields) → to_send_with c a (waiting f) ≡ waiting f ++ [] →
    g.is_held ≡ f.is_held → g.has_told_xoff ≡ f.has_told_xoff → g.urgent ≡ f.urgent → g.transmit ≡ f.transmit → Keeps g after →
    CallKeeps c a f after
kept_on c a f g after none held told urgent transmit k =
    let few : urgents g ≡ urgents f = ap (λ u. length (option_to_list u)) urgent in
    record {
      held = λ on.
          let same : length (to_send_with c a (waiting f)) ≡ length (waiting f ++ []) = ap length none in
          let items : length after.transmit.items ≡ length f.transmit.items =
          ap length (k.items (sym k.held ∙ on)) ∙ ap (λ (ring : Queue). length ring.items) transmit in
          let all = all_waits f in omega (arith, same, items, all);
      urgent = let h = k.urgent in omega (arith, h, few);
      told = λ other. k.told ∙ told;
      text = λ turn t. k.text (subst (λ (ring : Queue). IsText ring.items) (sym transmit) t);
    }

kept : (c : RingCall) (a : RingAnswer) (f after : RingFields) → to_send_with c a (waiting f) ≡ waiting f ++ [] → Keeps f after →
    CallKeeps c a f after
kept c a f after none k = kept_on c a f f after none refl refl refl refl k

-- no ring is held that was released
released : (c : RingCall) (a : RingAnswer) (f g after : RingFields) → g.has_told_xoff ≡ f.has_told_xoff → g.urgent ≡ f.urgent →
    g.transmit ≡ f.transmit → Keeps (with_hold false g) after → CallKeeps c a f after
released c a f g after told urgent transmit k =
    let few : urgents g ≡ urgents f = ap (λ u. length (option_to_list u)) urgent in
    record {
      held = λ on. let e : false ≡ true = sym k.held ∙ on in absurd (cc);
      urgent = let h = k.urgent in omega (arith, h, few);
      told = λ other. k.told ∙ told;
      text = λ turn t. k.text (subst (λ (ring : Queue). IsText ring.items) (sym transmit) t);
    }

-- and one that is held keeps its bytes
holds : (c : RingCall) (a : RingAnswer) (f g after : RingFields) → to_send_with c a (waiting f) ≡ waiting f ++ [] → after ≡ g →
    g.has_told_xoff ≡ f.has_told_xoff → g.urgent ≡ f.urgent → g.transmit ≡ f.transmit → CallKeeps c a f after
holds c a f g after none same told urgent transmit =
    let items : after.transmit.items ≡ f.transmit.items =
    ap (λ (h : RingFields). h.transmit.items) same ∙ ap (λ (ring : Queue). ring.items) transmit in
    let few : urgents after ≡ urgents f = ap (λ (h : RingFields). urgents h) same ∙ ap (λ u. length (option_to_list u)) urgent in
    let all = all_waits f in
    record {
      held = λ on.
          let e : length (to_send_with c a (waiting f)) ≡ length (waiting f ++ []) = ap length none in
          let n : length after.transmit.items ≡ length f.transmit.items = ap length items in omega (arith, e, n, all);
      urgent = omega (arith, few);
      told = λ other. ap (λ (h : RingFields). h.has_told_xoff) same ∙ told;
      text = λ turn t. subst (λ bytes. IsText bytes) (sym items) t;
    }

-- bytes are queued at the end of the ring
queued : (bytes : List ℕ) (count : ℕ) (f after : RingFields) (a : RingAnswer) (c : RingCall) →
    to_send_with c a (waiting f) ≡ waiting f ++ take count bytes → (TellsInTurn c → IsText bytes) →
    Keeps (with_queued (take count bytes) f) after → CallKeeps c a f after
queued bytes count f after a c is plain k = record {
  held = λ on.
      let same : length (to_send_with c a (waiting f)) ≡ length (waiting f ++ take count bytes) = ap length is in
      let one = length-append (waiting f) (take count bytes) in
      let two = length-append (option_to_list f.urgent) f.transmit.items in
      let ring = length-append f.transmit.items (take count bytes) in
      let items : length after.transmit.items ≡ length (f.transmit.items ++ take count bytes) = ap length (k.items (sym k.held ∙ on)) in
      omega (arith, same, one, two, ring, items);
  urgent = let h = k.urgent in omega (arith, h);
  told = λ other. k.told;
  text = λ turn t.
      k.text (each-append (λ byte. is_flow_character byte ≡ false) f.transmit.items (take count bytes) t
      (text_take count bytes (plain turn)));
}

-- an urgent byte is queued where none waits, or in place of one that does
urged : (byte : ℕ) (f g after : RingFields) (a : RingAnswer) (c : RingCall) → urged_by c a ≡ 1 →
    length (to_send_with c a (waiting f)) ≤ (length (option_to_list f.urgent) + 1) + length f.transmit.items →
    (xoff_hold_of c ≡ None → g.has_told_xoff ≡ f.has_told_xoff) → g.is_held ≡ f.is_held → g.transmit ≡ f.transmit →
    Keeps (with_urgent (Some byte) g) after → CallKeeps c a f after
urged byte f g after a c one all told same transmit k = record {
  held = λ on.
      let items : length after.transmit.items ≡ length f.transmit.items =
      ap length (k.items (sym k.held ∙ on)) ∙ ap (λ (ring : Queue). length ring.items) transmit in omega (arith, one, all, items);
  urgent = let h = k.urgent in omega (arith, h, one);
  told = λ other. k.told ∙ told other;
  text = λ turn t. k.text (subst (λ (ring : Queue). IsText ring.items) (sym transmit) t);
}

-- what waits once so many bytes are gone from its end
dropped : (n : ℕ) (bytes : List ℕ) → length (take n bytes) ≤ n
dropped n bytes = let h = length-take n bytes in omega (arith, h)

obeys : (told : Option ℕ) (f g : RingFields) (l : List Access) (after : RingFields) (a : RingAnswer) → g.is_held ≡ f.is_held →
    g.has_told_xoff ≡ f.has_told_xoff → g.urgent ≡ f.urgent → g.transmit ≡ f.transmit → Obeys told g l after →
    CallKeeps call.ObeyXoff a f after
obeys None f g l after a held said urgent transmit t = kept_on call.ObeyXoff a f g after refl held said urgent transmit (stays g l after t)
obeys (Some byte) f g l after a held said urgent transmit t = go (byte == xon) t
  where
    go : (on : Bool) → MatchBool on (Releases g l after) (Holds g l after) → CallKeeps call.ObeyXoff a f after
    go true t = released call.ObeyXoff a f g after said urgent transmit (resumes (with_hold false g) l after t)
    go false t = holds call.ObeyXoff a f (with_hold true g) after refl t.1 said urgent transmit

tells : (marks : ReceiveMarks) (wanted : Option Bool) (told : Option ℕ) (f : RingFields) (l : List Access) (after : RingFields) →
    TellsIfAny wanted told f l after → CallKeeps (call.AdjustXoff marks) (answers.Told told) f after
tells marks None told f l after t =
    rw t.0 (kept (call.AdjustXoff marks) (answers.Told None) f after (sym (append-nil (waiting f))) (stays f l after t.1))
tells marks (Some on) told f l after t =
    let g = with_told_xoff (not on) f in
    let all = length-append (option_to_list f.urgent) f.transmit.items in
    rw t.0 (urged (flow_character on) f g after (answers.Told (Some (flow_character on))) (call.AdjustXoff marks) refl (omega (arith, all))
    (λ other. absurd (cc)) refl refl (pumps (with_urgent (Some (flow_character on)) g) l after t.1.1))

-- each call
pub call_keeps : (s t : RingState) (c : RingCall) (a : RingAnswer) → CabledCallStep s c a t → CallKeeps c a (ring_fields s) (ring_fields t)
call_keeps s t (call.Queue bytes) a h =
    rw h.answered (queued bytes.items h.outcome (ring_fields s) (ring_fields t) (answers.Count h.outcome) (call.Queue bytes) refl (λ t. t)
    (any h.outcome pumps (with_queued (take h.outcome bytes.items) (ring_fields s)) h.did.list (ring_fields t) h.did.does.1))
call_keeps s t call.ResumeTransmit a h = kept _ a _ _ refl (resumes (ring_fields s) h.did.list (ring_fields t) h.did.does)
call_keeps s t (call.Take slots) a h =
    let g = without_taken (length h.outcome) (ring_fields s) in
    kept_on _ a (ring_fields s) g (ring_fields t) refl refl refl refl refl
    (any (length h.outcome) ends_pause g h.did.list (ring_fields t) h.did.does.1)
call_keeps s t call.Service a h = kept _ a _ _ refl (services h.outcome (ring_fields s) h.did.list (ring_fields t) h.did.does)
call_keeps s t (call.Handle limit) a h = kept _ a _ _ refl (handles limit h.outcome (ring_fields s) h.did.list (ring_fields t) h.did.does)
call_keeps s t call.Retrigger a h = kept _ a _ _ refl (alike (ring_fields s) _ (ring_fields t) h.did.does.1 refl refl refl refl refl refl)
call_keeps s t call.TakeLine a h = kept _ a _ _ refl (alike (ring_fields s) _ (ring_fields t) h.did.does.2.1 refl refl refl refl refl refl)
call_keeps s t call.TakeModem a h = kept _ a _ _ refl (alike (ring_fields s) _ (ring_fields t) h.did.does.2.1 refl refl refl refl refl refl)
call_keeps s t call.HoldTransmit a h = holds _ a (ring_fields s) _ (ring_fields t) refl h.did.does.1 refl refl refl
call_keeps s t call.ReleaseTransmit a h =
    released _ a (ring_fields s) (ring_fields s) (ring_fields t) refl refl refl
    (resumes (with_hold false (ring_fields s)) h.did.list (ring_fields t) h.did.does)
call_keeps s t (call.QueueUrgent byte) a h =
    let f = ring_fields s in
    let d = h.did.does in
    rw h.answered (urged byte f f (ring_fields t) (answers.Replaced h.outcome) (call.QueueUrgent byte) refl (overtakes f h.outcome d.0)
    (λ other. refl) refl refl (pumps (with_urgent (Some byte) f) h.did.list (ring_fields t) d.1))
  where
    overtakes : (f : RingFields) (replaced : Option ℕ) → replaced ≡ f.urgent →
        length (byte ∷ drop (length (option_to_list replaced)) (waiting f)) ≤
        (length (option_to_list f.urgent) + 1) + length f.transmit.items
    overtakes f replaced is =
        let e = length-drop (length (option_to_list replaced)) (waiting f) in
        let all = length-append (option_to_list f.urgent) f.transmit.items in omega (arith, e, all)
call_keeps s t call.ClearTransmit a h =
    let f = ring_fields s in
    rw h.answered (clears f h.outcome h.did.does.0 h.did.does.1.1)
  where
    clears : (f : RingFields) (count : ℕ) → count ≡ length f.transmit.items → ring_fields t ≡ cleared f →
        CallKeeps call.ClearTransmit (answers.Count count) f (ring_fields t)
    clears f count is same =
        let few : urgents (ring_fields t) ≡ urgents f = ap (λ (g : RingFields). urgents g) same in
        let all = length-append (option_to_list f.urgent) f.transmit.items in
        let left = dropped (length (waiting f) - count) (waiting f) in
        record {
          held = λ on. omega (arith, all, left, is);
          urgent = omega (arith, few);
          told = λ other. ap (λ (g : RingFields). g.has_told_xoff) same;
          text = λ turn t. absurd turn;
        }
call_keeps s t call.ClearReceive a h =
    let g = without_taken h.outcome (ring_fields s) in
    kept_on _ a (ring_fields s) g (ring_fields t) refl refl refl refl refl
    (any h.outcome ends_pause g h.did.list (ring_fields t) h.did.does.1)
call_keeps s t (call.SetLowMark mark) a h =
    kept _ a _ _ refl (alike (ring_fields s) _ (ring_fields t) h.did.does.1 refl refl refl refl refl refl)
call_keeps s t call.TakeLow a h = kept _ a _ _ refl (alike (ring_fields s) _ (ring_fields t) h.did.does.1.1 refl refl refl refl refl refl)
call_keeps s t (call.TryHandle limit rounds) a h =
    kept _ a _ _ refl (tries limit rounds h.outcome (ring_fields s) h.did.list (ring_fields t) h.did.does)
call_keeps s t (call.Restart interrupts) a h =
    kept _ a _ _ refl (restarts interrupts.0 (ring_fields s) h.did.list (ring_fields t) h.did.does)
call_keeps s t (call.AdjustRts marks) a h =
    kept _ a _ _ refl (adjusts_rts marks (ring_fields s) h.did.list (ring_fields t) h.did.does)
call_keeps s t (call.AdjustXoff marks) a h =
    let f = ring_fields s in
    rw h.answered (tells marks (to_tell (rts_at marks (free f.receive)) f.urgent f.has_told_xoff) h.outcome f h.did.list (ring_fields t)
    h.did.does)
call_keeps s t call.ObeyXoff a h =
    obeys h.outcome (ring_fields s) (looked (ring_fields s)) h.did.list (ring_fields t) a refl refl refl refl h.did.does.1
call_keeps s t (call.Driver c) a h = absurd h
call_keeps s t call.Next a h =
    kept _ a _ _ refl (alike (ring_fields s) (ring_fields s) (ring_fields t) h.passes.rings refl refl refl refl refl refl)

-- ---- `adjust_xoff`

-- the receive ring is as it was
tells_receive : (wanted : Option Bool) (told : Option ℕ) (f : RingFields) (l : List Access) (after : RingFields) →
    TellsIfAny wanted told f l after → after.receive ≡ f.receive
tells_receive None told f l after t = ap (λ (g : RingFields). g.receive) t.1.1
tells_receive (Some on) told f l after t = ap (λ (g : RingFields). g.receive) t.1.1.1.1

-- below the mark XOFF was told last, unless another urgent byte waits
below_told : (urgent : Option ℕ) (was : Bool) (told : Option ℕ) (f : RingFields) (l : List Access) (after : RingFields) →
    f.has_told_xoff ≡ was → MayTell urgent was → TellsIfAny (to_tell (Some false) urgent was) told f l after →
    after.has_told_xoff ≡ true
below_told (Some byte) was told f l after is (inl none) t = absurd (omega (arith, none))
below_told (Some byte) was told f l after is (inr on) t = ap (λ (g : RingFields). g.has_told_xoff) t.1.1 ∙ (is ∙ on)
below_told None true told f l after is may t = ap (λ (g : RingFields). g.has_told_xoff) t.1.1 ∙ is
below_told None false told f l after is may t =
    let k = pumps (with_urgent (Some (flow_character false)) (with_told_xoff true f)) l after t.1.1 in k.told

-- what an `adjust_xoff` shows: where it leaves XOFF untold, there is room
pub record Adjusts (marks : ReceiveMarks) (f after : RingFields) : Type 0 where
  pub receive : after.receive ≡ f.receive
  pub room : MayTell f.urgent f.has_told_xoff → after.has_told_xoff ≡ false → marks.hold ≤ free after.receive

pub adjusts : (marks : ReceiveMarks) (told : Option ℕ) (f : RingFields) (l : List Access) (after : RingFields) →
    AdjustsXoff marks told f l after → Adjusts marks f after
adjusts marks told f l after t =
    let receive = tells_receive _ told f l after t in
    record { receive = receive; room = λ may off. go may off receive (nat_lt (free f.receive) marks.hold) refl }
  where
    go : MayTell f.urgent f.has_told_xoff → after.has_told_xoff ≡ false → after.receive ≡ f.receive →
        (low : Bool) → nat_lt (free f.receive) marks.hold ≡ low → marks.hold ≤ free after.receive
    go may off same true e =
        let at : rts_at marks (free f.receive) ≡ Some false = rw e refl in
        let T : Option Bool → Type 0 = λ wanted. TellsIfAny (to_tell wanted f.urgent f.has_told_xoff) told f l after in
        let on = below_told f.urgent f.has_told_xoff told f l after refl may (subst T at t) in
        let no : true ≡ false = sym on ∙ off in absurd (cc)
    go may off same false e =
        let high : marks.hold ≤ free f.receive = grind (arith, common_steps) in
        let room : free after.receive ≡ free f.receive = ap free same in omega (arith, high, room)
