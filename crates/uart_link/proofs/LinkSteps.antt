-- What calls of a link do at both ends, and to the bytes that cross the cable.
use Rattle.uart_link.proofs.Names.{◌≡◌, ◌≢◌, ℕ, List, [], ◌∷◌, ◌++◌, map, length-append, append_assoc, append-nil, refl, sym, ◌∙◌, ap}
use Rattle.uart_link.proofs.Names.{subst, arith, drop-append-le, map-append, Event, MachineState, each-append, Modes, went-refl, modes_at}
use Rattle.uart_link.proofs.Names.{RingCall, RingAnswer, RingState, ring_machine, to_take, queued_by, taken_by, gone_in, KeepsOrder, Moment}
use Rattle.uart_link.proofs.Names.{Side, Left, Right, Link, brought, AllClean, IsClean, IsBrought, Gone, Taken, Cleared, byte_of, left_in}
use Rattle.uart_link.proofs.Names.{of_end, OfEnd, queued_at, gone_at, bytes_gone, AllKeepOrderAt, IsJoined, at_end, other, EndStep, Step}
use Rattle.uart_link.proofs.Names.{LinkChain, NoLineAt}
use Rattle.uart_ring_runs.specs.declared.call.RingCall.TheVariants as call
use Rattle.uart_link.proofs.Crossings.{brought-append, Crosses, crosses-refl, crosses-trans, crosses-more}
use Rattle.uart_link.proofs.{Lefts.Grown, EndActs.end_acts, EndActs.grown-trans, EndPasses.InEnd, EndPasses.EndPasses}
use Rattle.uart_link.proofs.{EndPasses.passes_events, EndPasses.passes-trans}

-- what has left the chip at an end
abbrev wire_of : RingState → List ℕ
wire_of s = (ring_machine s).chip.transmitter.wire

abbrev arrived_of : RingState → ℕ
arrived_of s = (ring_machine s).chip.receiver.arrived

-- from s to t at one end and from r to u at the other, these events came to the other: they brought the next bytes
pub record Brings (s t r u : RingState) (events : List Event) : Type 0 where
  pub crosses : Crosses (arrived_of r) (brought events) (arrived_of u) (wire_of t)
  pub clean : AllClean events
  pub now : IsBrought (wire_of t) (ring_machine u)
  pub grown : Grown (wire_of s) (ring_machine t).chip.transmitter

brings-trans : (s t v r u w : RingState) (e f : List Event) → Brings s t r u e → Brings t v u w f → Brings s v r w (e ++ f)
brings-trans s t v r u w e f a b = record {
  crosses =
      let later : Crosses (arrived_of r) (brought e) (arrived_of u) (wire_of v) =
      rw b.grown.1 (crosses-more (arrived_of r) (arrived_of u) (brought e) (wire_of t) b.grown.0 a.crosses) in
      rw (brought-append e f)
      (crosses-trans (arrived_of r) (arrived_of u) (arrived_of w) (brought e) (brought f) (wire_of v) later b.crosses);
  clean = each-append IsClean e f a.clean b.clean;
  now = b.now;
  grown = grown-trans (wire_of s) (wire_of t) (ring_machine v).chip.transmitter a.grown b.grown;
}

-- more has left the other chip
brought-more : (wire more : List ℕ) (m : MachineState) → IsBrought wire m → IsBrought (wire ++ more) m
brought-more wire more m b = record {
  known = b.known;
  count = b.count;
  rest = b.rest ++ more;
  ahead = b.ahead;
  unmarked = b.unmarked;
  clean = b.clean;
  behind = let h = length-append wire more in omega (arith, h, b.behind);
  next = drop-append-le m.chip.receiver.arrived wire more b.behind ∙ (ap (λ zs. zs ++ more) b.next ∙
      append_assoc (brought b.known) b.rest more);
}

-- nothing arrived
brings_nothing : (s t r : RingState) → IsBrought (wire_of s) (ring_machine r) → Grown (wire_of s) (ring_machine t).chip.transmitter →
    Brings s t r r []
brings_nothing s t r b g =
    let now : IsBrought (wire_of t) (ring_machine r) = rw g.1 (brought-more (wire_of s) g.0 (ring_machine r) b) in
    record { crosses = crosses-refl (arrived_of r) (wire_of t) now.behind; clean = tt; now = now; grown = g }

-- the end at s acts, and the other one is as it was
record OneActs (x y : Modes) (c : RingCall) (a : RingAnswer) (s t r u : RingState) : Type 0 where
  pub events : List Event
  pub ends : EndPasses x (KeepsOrder c) (queued_by c a) (c ≢ call.TakeLine) s t (gone_in c a (to_take s)) events
  pub stays : EndPasses y (Unit {0}) [] (Unit {0}) r u [] []
  pub session : InEnd x t
  pub other_session : InEnd y u
  pub away : Brings s t r u []
  pub back : Brings r u s t events

one_acts : (x y : Modes) (moments : List Moment) (c : RingCall) (a : RingAnswer) (s t r u : RingState) → InEnd x s →
    InEnd y r → IsBrought (wire_of r) (ring_machine s) → IsBrought (wire_of s) (ring_machine r) →
    EndStep moments r s c a t → u ≡ r → OneActs x y c a s t r u
one_acts x y moments c a s t r u w v b d h same = subst (λ (o : RingState). OneActs x y c a s t r o) (sym same) still
  where
    still : OneActs x y c a s t r r
    still =
        let acts = end_acts x moments r s t c a w b h in
        let rm = ring_machine r in
        record {
          events = acts.events;
          ends = acts.ends;
          stays = passes_events y (Unit {0}) (Unit {0}) r r [] v.session.open_modes
              (went-refl (modes_at y r) rm.chip v.session.stands.sound.chip v.session.stands.modes) refl;
          session = acts.session;
          other_session = v;
          away = brings_nothing s t r d acts.grown;
          back = record {
            crosses = acts.crosses;
            clean = acts.clean;
            now = acts.now;
            grown = ([], sym (append-nil (wire_of r)));
          };
        }

-- ---- both ends

-- what a part of a run does at both ends: by the end, whether it kept the order, whether it told no line status, what it
-- queued, and what left its receive ring
pub record LinkPasses (x y : Modes) (Order NoLine : Side → Type 0) (queued gone : Side → List ℕ) (a b : Link) : Type 0 where
  pub events : Side → List Event
  pub left : EndPasses x (Order Left) (queued Left) (NoLine Left) a.left b.left (gone Left) (events Left)
  pub right : EndPasses y (Order Right) (queued Right) (NoLine Right) a.right b.right (gone Right) (events Right)
  pub in_left : InEnd x b.left
  pub in_right : InEnd y b.right
  pub rightward : Brings a.left b.left a.right b.right (events Right)
  pub leftward : Brings a.right b.right a.left b.left (events Left)

-- a part of a run that is no call
pub links-refl : (x y : Modes) (a : Link) → InEnd x a.left → InEnd y a.right → IsJoined a →
    LinkPasses x y (λ end. Unit {0}) (λ end. Unit {0}) (λ end. []) (λ end. []) a a
links-refl x y a w v joined = record {
  events = λ end. [];
  left = passes_events x (Unit {0}) (Unit {0}) a.left a.left [] w.session.open_modes
      (went-refl (modes_at x a.left) (ring_machine a.left).chip w.session.stands.sound.chip w.session.stands.modes) refl;
  right = passes_events y (Unit {0}) (Unit {0}) a.right a.right [] v.session.open_modes
      (went-refl (modes_at y a.right) (ring_machine a.right).chip v.session.stands.sound.chip v.session.stands.modes) refl;
  in_left = w;
  in_right = v;
  rightward = brings_nothing a.left a.left a.right joined.right ([], sym (append-nil (wire_of a.left)));
  leftward = brings_nothing a.right a.right a.left joined.left ([], sym (append-nil (wire_of a.right)));
}

links-trans : (x y : Modes) (A B N O : Side → Type 0) (q p e f : Side → List ℕ) (a b c : Link) → LinkPasses x y A N q e a b →
    LinkPasses x y B O p f b c →
    LinkPasses x y (λ end. A end × B end) (λ end. N end × O end) (λ end. q end ++ p end) (λ end. e end ++ f end) a c
links-trans x y A B N O q p e f a b c m n = record {
  events = λ end. m.events end ++ n.events end;
  left = passes-trans x _ _ _ _ a.left b.left c.left _ _ _ _ (m.events Left) (n.events Left) m.left n.left;
  right = passes-trans y _ _ _ _ a.right b.right c.right _ _ _ _ (m.events Right) (n.events Right) m.right n.right;
  in_left = n.in_left;
  in_right = n.in_right;
  rightward = brings-trans a.left b.left c.left a.right b.right c.right (m.events Right) (n.events Right) m.rightward n.rightward;
  leftward = brings-trans a.right b.right c.right a.left b.left c.left (m.events Left) (n.events Left) m.leftward n.leftward;
}

-- events at one end
abbrev only_at : (acting end : Side) → List Event → List Event
only_at Left Left events = events
only_at Right Right events = events
only_at acting end events = []

-- a call at either end
link_step : (x y : Modes) (a b : Link) (side : Side) (moments : List Moment) (c : RingCall) (answer : RingAnswer) →
    InEnd x a.left → InEnd y a.right → IsJoined a →
    EndStep moments (at_end (other side) a) (at_end side a) c answer (at_end side b) →
    at_end (other side) b ≡ at_end (other side) a →
    LinkPasses x y (λ end. OfEnd end side (KeepsOrder c)) (λ end. OfEnd end side (c ≢ call.TakeLine))
    (λ end. of_end end side (queued_by c answer)) (λ end. of_end end side (gone_in c answer (to_take (at_end side a)))) a b
link_step x y a b Left moments c answer w v joined h same =
    let one = one_acts x y moments c answer a.left b.left a.right b.right w v joined.left joined.right h same in
    record {
      events = λ end. only_at Left end one.events;
      left = one.ends;
      right = one.stays;
      in_left = one.session;
      in_right = one.other_session;
      rightward = one.away;
      leftward = one.back;
    }
link_step x y a b Right moments c answer w v joined h same =
    let one = one_acts y x moments c answer a.right b.right a.left b.left v w joined.right joined.left h same in
    record {
      events = λ end. only_at Right end one.events;
      left = one.stays;
      right = one.ends;
      in_left = one.other_session;
      in_right = one.session;
      rightward = one.back;
      leftward = one.away;
    }

pub joined_after : (x y : Modes) (Order NoLine : Side → Type 0) (queued gone : Side → List ℕ) (a b : Link) →
    LinkPasses x y Order NoLine queued gone a b → IsJoined b
joined_after x y Order NoLine queued gone a b p = record { left = p.leftward.now; right = p.rightward.now }

-- ---- what left a receive ring

bytes_as : (how : ℕ → Gone) → ((byte : ℕ) → byte_of (how byte) ≡ byte) → (bytes : List ℕ) → map byte_of (map how bytes) ≡ bytes
bytes_as how same [] = refl
bytes_as how same (byte ∷ bytes) = λ i. same byte i ∷ bytes_as how same bytes i

-- in a call
bytes_left : (c : RingCall) (a : RingAnswer) (there : List ℕ) → map byte_of (left_in c a there) ≡ gone_in c a there
bytes_left call.ClearReceive a there = bytes_as Cleared (λ byte. refl) there
bytes_left other a there = bytes_as Taken (λ byte. refl) (taken_by other a)

left_at : (end side : Side) (gone : List Gone) (bytes : List ℕ) → map byte_of gone ≡ bytes →
    map byte_of (of_end end side gone) ≡ of_end end side bytes
left_at Left Left gone bytes e = e
left_at Right Right gone bytes e = e
left_at Left Right gone bytes e = refl
left_at Right Left gone bytes e = refl

-- in a call, and then in others
pub bytes_gone_first : (end : Side) (step : Step) (steps : List Step) → bytes_gone end (step ∷ steps) ≡
    of_end end step.call.side (gone_in step.call.call step.answer (to_take (at_end step.call.side step.before))) ++ bytes_gone end steps
bytes_gone_first end step steps =
    let there = to_take (at_end step.call.side step.before) in
    map-append byte_of (of_end end step.call.side (left_in step.call.call step.answer there)) (gone_at end steps)
    ∙ ap (λ zs. zs ++ bytes_gone end steps)
    (left_at end step.call.side _ _ (bytes_left step.call.call step.answer there))

pub link_chain : (x y : Modes) (a b : Link) (steps : List Step) → InEnd x a.left → InEnd y a.right →
    IsJoined a → LinkChain a steps b →
    LinkPasses x y (λ end. AllKeepOrderAt end steps) (λ end. NoLineAt end steps) (λ end. queued_at end steps)
    (λ end. bytes_gone end steps) a b
link_chain x y a b [] w v joined h = rw h (links-refl x y a w v joined)
link_chain x y a b (step ∷ steps) w v joined h =
    let P : (Side → List ℕ) → Link → Type 0 = λ gone o. LinkPasses x y (λ end. AllKeepOrderAt end (step ∷ steps))
    (λ end. NoLineAt end (step ∷ steps)) (λ end. queued_at end (step ∷ steps)) gone o b in
    let here = sym h.0 in
    let first = link_step x y step.before step.after step.call.side step.call.moments.items step.call.call step.answer
    (subst (λ (o : Link). InEnd x o.left) here w) (subst (λ (o : Link). InEnd y o.right) here v)
    (subst (λ (o : Link). IsJoined o) here joined) h.1.0 h.1.1 in
    let rest = link_chain x y step.after b steps first.in_left first.in_right (joined_after x y _ _ _ _ step.before step.after first) h.2 in
    let both = links-trans x y _ _ _ _ _ _ _ _ step.before step.after b first rest in
    subst (P (λ end. bytes_gone end (step ∷ steps))) h.0
    (subst (λ (gone : Side → List ℕ). P gone step.before) (λ i end. sym (bytes_gone_first end step steps) i) both)
