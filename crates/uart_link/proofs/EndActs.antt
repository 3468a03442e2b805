-- What a call at one end does there, and to what crosses the cable.
use Rattle.uart_link.proofs.Names.{◌≡◌, ◌≢◌, ℕ, ◌+◌, ◌-◌, ◌≤◌, List, [], ◌∷◌, ◌++◌, length, drop, take, replicate, append_assoc, append-nil}
use Rattle.uart_link.proofs.Names.{zero-le, refl, sym, ◌∙◌, ap, subst, arith, append_cancel_right, length-take, take-append-drop, Event}
use Rattle.uart_link.proofs.Names.{Arrive, Mark, IsLegal, Path, Access, Character, ChipState, TransmitterState, MachineState, MachineStep}
use Rattle.uart_link.proofs.Names.{arrivals, at_mark, after_mark, AllLegal, IsSound, IsSoundChip, each-append, each-front, each-back, Modes}
use Rattle.uart_link.proofs.Names.{Went, IsWired, IsWiredChip, wired_path, wired_mark, RingFields, RingCall, RingAnswer, RingState}
use Rattle.uart_link.proofs.Names.{RingCallStep, under, ring_machine, IsOfRings, to_take, queued_by, gone_in, KeepsOrder, Moment, brought}
use Rattle.uart_link.proofs.Names.{AllClean, IsClean, IsBrought, unknown, to_come, with_ahead, settled, on_cable, lines_from, IsUnmarked}
use Rattle.uart_link.proofs.Names.{AllUnmarked, CabledCallStep, EndStep, LetsPass}
use Rattle.uart_ring_runs.specs.declared.call.RingCall.TheVariants as call
use Rattle.uart_link.proofs.Arranges.{lines_within, arranged_events}
use Rattle.uart_link.proofs.Crossings.{brought-append, arriving_count, events_first, clean_events, Crosses, crosses-trans, crosses_next}
use Rattle.uart_link.proofs.Lefts.{Left, left_path, left_settled, Grown, path_grows, settled_grows}
use Rattle.uart_link.proofs.Schedules.{arrivals-known, few_arrivals, legal_events, legal_unknown, unmarked_events}
use Rattle.uart_link.proofs.EndPasses.{InEnd, EndPasses, passes-trans, in_session-passed, call_passes, settle_passes}

-- ---- soundness

sound_ahead : (c : ChipState) (events : List Event) → IsSoundChip c → AllLegal events → arrivals events ≤ to_come c →
    IsSound (with_ahead events c)
sound_ahead c events w legal few = record {
  chip = w;
  foreseen = let h = arrivals-known events (to_come c - arrivals events) in omega (arith, h, few, w.receiver.marked.counted);
  legal = each-append IsLegal events (unknown (to_come c - arrivals events)) legal (legal_unknown (to_come c - arrivals events));
}

pub sound_settled : (m : MachineState) → IsSoundChip (settled m).chip → IsSound (settled m)
sound_settled m w = sound_ahead (settled m).chip [] w tt zero-le

pub sound_arranged : (moments : List Moment) (there c : ChipState) → IsSoundChip c →
    IsSound (with_ahead (arranged_events moments there c) c)
sound_arranged moments there c w =
    let cable = on_cable there c in
    let few = few_arrivals moments (take (to_come c) cable) (lines_from there) in
    let short = length-take (to_come c) cable in
    sound_ahead c (arranged_events moments there c) w
    (legal_events moments (take (to_come c) cable) (lines_from there) (lines_within there)) (omega (arith, few, short))

-- ---- what crosses at an end while the other end is as it is

-- these events came from m to n
record Crossed (wire : List ℕ) (m n : MachineState) (events : List Event) : Type 0 where
  pub crosses : Crosses m.chip.receiver.arrived (brought events) n.chip.receiver.arrived wire
  pub clean : AllClean events

crossed-trans : (wire : List ℕ) (m n o : MachineState) (e f : List Event) → Crossed wire m n e → Crossed wire n o f →
    Crossed wire m o (e ++ f)
crossed-trans wire m n o e f a b = record {
  crosses = rw (brought-append e f) (crosses-trans _ _ _ (brought e) (brought f) wire a.crosses b.crosses);
  clean = each-append IsClean e f a.clean b.clean;
}

-- the number of arrivals after a stretch
pub arrived_after : (x : Modes) (c d : ChipState) (events : List Event) →
    {made : List Access} → {written : List ℕ} → {takes : List Character} →
    Went x c d events made written takes → d.receiver.arrived ≡ c.receiver.arrived + length (brought events)
arrived_after x c d events went =
    went.receives.number ∙ ap (λ n. c.receiver.arrived + n) (arriving_count x.cut c.receiver.arrived events)

-- all that was known has happened, and these bytes are next on the cable
record SettledCrossed (wire : List ℕ) (m n : MachineState) (events : List Event) (rest : List ℕ) : Type 0 where
  pub crossed : Crossed wire m n events
  pub next : drop n.chip.receiver.arrived wire ≡ rest

settle_crosses : (wire : List ℕ) (m n : MachineState) (events : List Event) → (b : IsBrought wire m) →
    m.ahead ≡ events ++ after_mark m.ahead → n.chip.receiver.arrived ≡ m.chip.receiver.arrived + length (brought events) →
    SettledCrossed wire m n events b.rest
settle_crosses wire m n events b ahead number =
    let blanks : List Event = replicate b.count (Arrive 0 0) in
    let after : after_mark m.ahead ≡ blanks = ap after_mark b.ahead ∙ left_settled b.known b.count b.unmarked in
    let whole : (b.known ++ Mark ∷ []) ++ blanks ≡ events ++ blanks =
    append_assoc b.known (Mark ∷ []) blanks ∙ (sym b.ahead ∙ (ahead ∙ ap (λ (es : List Event). events ++ es) after)) in
    let same : b.known ++ Mark ∷ [] ≡ events = append_cancel_right (b.known ++ Mark ∷ []) events blanks whole in
    let bytes : brought events ≡ brought b.known =
    ap brought (sym same) ∙ (brought-append b.known (Mark ∷ []) ∙ append-nil (brought b.known)) in
    let next = crosses_next m.chip.receiver.arrived n.chip.receiver.arrived (brought b.known) b.rest wire b.behind b.next
    (number ∙ ap (λ (bs : List ℕ). m.chip.receiver.arrived + length bs) bytes) in
    record {
      crossed = record {
        crosses = rw bytes next.crosses;
        clean = subst (λ (es : List Event). AllClean es) same (each-append IsClean b.known (Mark ∷ []) b.clean (tt, tt));
      };
      next = next.next;
    }

-- the moments of a call lie ahead
begins_brought : (wire : List ℕ) (moments : List Moment) (there : ChipState) (m : MachineState) (c : ChipState) →
    there.transmitter.wire ≡ wire → m ≡ with_ahead (arranged_events moments there c) c → c.receiver.arrived ≤ length wire →
    IsBrought wire m
begins_brought wire moments there m c is same behind =
    let cable = on_cable there c in
    let first = events_first moments (take (to_come c) cable) (lines_from there) in
    let events = arranged_events moments there c in
    rw same (record {
      known = events;
      count = to_come c - arrivals events;
      rest = first.0 ++ drop (to_come c) cable;
      ahead = refl;
      unmarked = unmarked_events moments (take (to_come c) cable) (lines_from there);
      clean = clean_events moments (take (to_come c) cable) (lines_from there);
      behind = behind;
      next = ap (drop c.receiver.arrived) (sym is) ∙ (sym (take-append-drop (to_come c) cable) ∙
          (ap (λ zs. zs ++ drop (to_come c) cable) first.1 ∙ append_assoc (brought events) first.0 (drop (to_come c) cable)));
    })

-- accesses take the first of the events that were known
record Takes (wire : List ℕ) (m n : MachineState) (events : List Event) : Type 0 where
  pub crossed : Crossed wire m n events
  pub now : IsBrought wire n

path_crosses : (wire : List ℕ) (m n : MachineState) (events : List Event) → (b : IsBrought wire m) → Left b.known b.count n.ahead →
    m.ahead ≡ events ++ n.ahead → n.chip.receiver.arrived ≡ m.chip.receiver.arrived + length (brought events) →
    Takes wire m n events
path_crosses wire m n events b l ahead number =
    let others : List Event = l.left ++ unknown b.count in
    let whole : events ++ others ≡ l.gone ++ others =
    ap (λ (es : List Event). events ++ es) (sym l.ahead) ∙ (sym ahead ∙ (b.ahead ∙
    (ap (λ (es : List Event). es ++ unknown b.count) l.whole ∙ append_assoc l.gone l.left (unknown b.count)))) in
    let same : events ≡ l.gone = append_cancel_right events l.gone others whole in
    let first : drop m.chip.receiver.arrived wire ≡ brought l.gone ++ (brought l.left ++ b.rest) =
    b.next ∙ (ap (λ (es : List Event). brought es ++ b.rest) l.whole ∙ (ap (λ zs. zs ++ b.rest) (brought-append l.gone l.left) ∙
    append_assoc (brought l.gone) (brought l.left) b.rest)) in
    let next = crosses_next m.chip.receiver.arrived n.chip.receiver.arrived (brought l.gone) (brought l.left ++ b.rest) wire b.behind first
    (number ∙ ap (λ (es : List Event). m.chip.receiver.arrived + length (brought es)) same) in
    let clean : AllClean (l.gone ++ l.left) = subst (λ (es : List Event). AllClean es) l.whole b.clean in
    record {
      crossed = rw same (record { crosses = next.crosses; clean = each-front IsClean l.gone l.left clean });
      now = record {
        known = l.left;
        count = b.count;
        rest = b.rest;
        ahead = l.ahead;
        unmarked = each-back IsUnmarked l.gone l.left (subst (λ (es : List Event). AllUnmarked es) l.whole b.unmarked);
        clean = each-back IsClean l.gone l.left clean;
        behind = next.crosses.ends;
        next = next.next;
      };
    }

-- ---- a call

-- a call at an end, once its moments lie ahead
record CallPart (x : Modes) (wire : List ℕ) (c : RingCall) (a : RingAnswer) (s t : RingState) : Type 0 where
  pub events : List Event
  pub ends : EndPasses x (KeepsOrder c) (queued_by c a) (c ≢ call.TakeLine) s t (gone_in c a (to_take s)) events
  pub sound : IsSound (ring_machine t)
  pub crossed : Crossed wire (ring_machine s) (ring_machine t) events
  pub now : IsBrought wire (ring_machine t)
  pub grown : Grown (ring_machine s).chip.transmitter.wire (ring_machine t).chip.transmitter
  pub wired : IsWired (under t)

access_part : (x : Modes) (wire : List ℕ) (s t : RingState) (c : RingCall) (a : RingAnswer) → IsOfRings c → InEnd x s →
    IsBrought wire (ring_machine s) → RingCallStep s c a t → (made : List Access) →
    Path MachineStep (ring_machine s) made (ring_machine t) → CallPart x wire c a s t
access_part x wire s t c a own w b h made path =
    let p = call_passes x s t c a own w h in
    let takes = path_crosses wire (ring_machine s) (ring_machine t) p.events b
    (left_path made (ring_machine s) (ring_machine t) b.known b.count b.ahead path) p.ahead
    (arrived_after _ _ _ p.events p.ends.went) in
    record {
      events = p.events;
      ends = p.ends;
      sound = p.sound;
      crossed = takes.crossed;
      now = takes.now;
      grown = path_grows made (ring_machine s) (ring_machine t) path;
      wired = wired_path made (ring_machine s) (ring_machine t) w.wired path;
    }

next_part : (x : Modes) (wire : List ℕ) (s t : RingState) (a : RingAnswer) → InEnd x s → IsBrought wire (ring_machine s) →
    LetsPass a s t → CallPart x wire call.Next a s t
next_part x wire s t a w b h =
    let m = ring_machine s in
    let chip : (ring_machine t).chip ≡ (at_mark m).chip = ap (λ (o : MachineState). o.chip) h.passes.machine in
    let p = settle_passes x (KeepsOrder call.Next) (call.Next ≢ call.TakeLine) s t w.session chip h.passes.rings in
    let settles = settle_crosses wire m (ring_machine t) p.events b p.ahead (arrived_after _ _ _ p.events p.ends.went) in
    record {
      events = p.events;
      ends = p.ends;
      sound = subst (λ (o : MachineState). IsSound o) (sym h.passes.machine) (sound_settled m p.sound.chip);
      crossed = settles.crossed;
      now = record {
        known = [];
        count = to_come (settled m).chip - 0;
        rest = b.rest;
        ahead = ap (λ (o : MachineState). o.ahead) h.passes.machine;
        unmarked = tt;
        clean = tt;
        behind = settles.crossed.crosses.ends;
        next = settles.next;
      };
      grown = subst (λ (o : MachineState). Grown m.chip.transmitter.wire o.chip.transmitter) (sym h.passes.machine) (settled_grows m);
      wired = subst (λ (d : ChipState). IsWiredChip d) (sym chip) (wired_mark m w.wired);
    }

call_part : (x : Modes) (wire : List ℕ) (s t : RingState) (c : RingCall) (a : RingAnswer) → InEnd x s →
    IsBrought wire (ring_machine s) → CabledCallStep s c a t → CallPart x wire c a s t
call_part x wire s t call.Next a w b h = next_part x wire s t a w b h
call_part x wire s t (call.Driver c) a w b h = absurd h
call_part x wire s t other a w b h = access_part x wire s t other a tt w b h h.did.list h.did.path

-- a call at an end, with its moments
pub record EndActs (x : Modes) (wire : List ℕ) (c : RingCall) (a : RingAnswer) (s t : RingState) : Type 0 where
  pub events : List Event
  pub ends : EndPasses x (KeepsOrder c) (queued_by c a) (c ≢ call.TakeLine) s t (gone_in c a (to_take s)) events
  pub session : InEnd x t
  pub crosses : Crosses (ring_machine s).chip.receiver.arrived (brought events) (ring_machine t).chip.receiver.arrived wire
  pub clean : AllClean events
  pub now : IsBrought wire (ring_machine t)
  pub grown : Grown (ring_machine s).chip.transmitter.wire (ring_machine t).chip.transmitter

-- nothing was asked of the moments before the call
only_second : (x : Modes) (B O : Type 0) (s u : RingState) (p f : List ℕ) (events : List Event) →
    EndPasses x (Unit {0} × B) p (Unit {0} × O) s u f events → EndPasses x B p O s u f events
only_second x B O s u p f events e = record {
  made = e.made;
  takes = e.takes;
  bytes = e.bytes;
  open_modes = e.open_modes;
  went = e.went;
  settings = e.settings;
  sent = λ o. e.sent (tt, o);
  received = e.received;
  line = λ n. e.line (tt, n);
}

pub grown-trans : (w v : List ℕ) (t : TransmitterState) → (first : (more : List ℕ) × (v ≡ w ++ more)) → Grown v t → Grown w t
grown-trans w v t first second =
    (first.0 ++ second.0, second.1 ∙ (ap (λ zs. zs ++ second.0) first.1 ∙ append_assoc w first.0 second.0))

pub end_acts : (x : Modes) (moments : List Moment) (there s t : RingState) (c : RingCall) (a : RingAnswer) → InEnd x s →
    IsBrought (ring_machine there).chip.transmitter.wire (ring_machine s) → EndStep moments there s c a t →
    EndActs x (ring_machine there).chip.transmitter.wire c a s t
end_acts x moments there s t c a w b h =
    let m = ring_machine s in
    let far = (ring_machine there).chip in
    let wire = far.transmitter.wire in
    let begins = h.begins in
    let chip : (ring_machine begins).chip ≡ (at_mark m).chip = ap (λ (o : MachineState). o.chip) h.arranges.machine in
    let p = settle_passes x (Unit {0}) (Unit {0}) s begins w.session chip h.arranges.rings in
    let ready = sound_arranged moments far (settled m).chip p.sound.chip in
    let sound = subst (λ (o : MachineState). IsSound o) (sym h.arranges.machine) ready in
    let goes : InEnd x begins = record {
      session = in_session-passed x _ _ s begins _ _ p.events w.session p.ends sound;
      wired = subst (λ (d : ChipState). IsWiredChip d) (sym chip) (wired_mark m w.wired);
    } in
    let settles = settle_crosses wire m (ring_machine begins) p.events b p.ahead (arrived_after _ _ _ p.events p.ends.went) in
    let behind : (settled m).chip.receiver.arrived ≤ length wire =
    subst (λ (d : ChipState). d.receiver.arrived ≤ length wire) chip settles.crossed.crosses.ends in
    let ahead = begins_brought wire moments far (ring_machine begins) (settled m).chip refl h.arranges.machine behind in
    let q = call_part x wire begins t c a goes ahead h.called in
    let to_take_same : to_take begins ≡ to_take s = ap (λ (f : RingFields). f.receive.items) h.arranges.rings in
    let P : List ℕ → Type 0 =
    λ zs. EndPasses x (KeepsOrder c) (queued_by c a) (c ≢ call.TakeLine) begins t (gone_in c a zs) q.events in
    let late = subst P to_take_same q.ends in
    let both = passes-trans x _ _ _ _ s begins t _ _ _ _ p.events q.events p.ends late in
    let crossed = crossed-trans wire m (ring_machine begins) (ring_machine t) p.events q.events settles.crossed q.crossed in
    let early : Grown m.chip.transmitter.wire (ring_machine begins).chip.transmitter =
    subst (λ (d : ChipState). Grown m.chip.transmitter.wire d.transmitter) (sym chip) (settled_grows m) in
    record {
      events = p.events ++ q.events;
      ends = only_second x _ _ s t _ _ _ both;
      session = record {
        session = in_session-passed x _ _ begins t _ _ q.events goes.session q.ends q.sound;
        wired = q.wired;
      };
      crosses = crossed.crosses;
      clean = crossed.clean;
      now = q.now;
      grown = grown-trans m.chip.transmitter.wire _ (ring_machine t).chip.transmitter early q.grown;
    }

-- the moments of a call lie ahead, and the session goes on
pub record EndBegins (x : Modes) (s begins : RingState) : Type 0 where
  pub events : List Event
  pub ends : EndPasses x (Unit {0}) [] (Unit {0}) s begins [] events
  pub session : InEnd x begins

pub end_begins : (x : Modes) (moments : List Moment) (there s t : RingState) (c : RingCall) (a : RingAnswer) → InEnd x s →
    (h : EndStep moments there s c a t) → EndBegins x s h.begins
end_begins x moments there s t c a w h =
    let far = (ring_machine there).chip in
    let m = ring_machine s in
    let chip : (ring_machine h.begins).chip ≡ (at_mark m).chip = ap (λ (o : MachineState). o.chip) h.arranges.machine in
    let p = settle_passes x (Unit {0}) (Unit {0}) s h.begins w.session chip h.arranges.rings in
    let ready = sound_arranged moments far (settled m).chip p.sound.chip in
    let sound = subst (λ (o : MachineState). IsSound o) (sym h.arranges.machine) ready in
    record {
      events = p.events;
      ends = p.ends;
      session = record {
        session = in_session-passed x _ _ s h.begins _ _ p.events w.session p.ends sound;
        wired = subst (λ (d : ChipState). IsWiredChip d) (sym chip) (wired_mark m w.wired);
      };
    }
