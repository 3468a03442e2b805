-- The schedule of a chip at a cable: what is known of it, and behind that what nobody knows yet.
use Rattle.uart_link.proofs.Names.{◌≡◌, ◌≢◌, ℕ, zero, suc, true, ◌+◌, ◌-◌, ◌<◌, ◌≤◌, List, [], ◌∷◌, ◌++◌, length, drop, replicate, refl}
use Rattle.uart_link.proofs.Names.{sym, ◌∙◌, ap, subst, eqb-true, common_steps, slice_index_or, drop-cons, add-one, arith, zero-le}
use Rattle.uart_link.proofs.Names.{drop_all, Event, Ticks, Arrive, Lines as Change, Gate, Mark, IsLegal, IsWithin, ChipState, MachineState}
use Rattle.uart_link.proofs.Names.{arrivals, perform, AllLegal, IsSound, each-append, whole_flowing, whole_perform, IsWiredChip}
use Rattle.uart_link.proofs.Names.{wired-ticks, Moment, events_of, unknown, to_come, with_ahead, settled, may_happen, expecting, performed}
use Rattle.uart_link.proofs.Names.{IsUnmarked, AllUnmarked, IsKnown}
use Rattle.uart_spec.specs.declared.registers.modem_status.TheConstants.MSR
use Rattle.uart_link.specs.declared.call.Moment.TheVariants as moment

-- ---- arrivals

pub arrivals-append : (xs ys : List Event) → arrivals (xs ++ ys) ≡ arrivals xs + arrivals ys
arrivals-append [] ys = omega arith
arrivals-append (Arrive byte errors ∷ xs) ys = let h = arrivals-append xs ys in omega (arith, h)
arrivals-append (_ ∷ xs) ys = arrivals-append xs ys

pub arrivals-unknown : (count : ℕ) → arrivals (unknown count) ≡ count
arrivals-unknown zero = refl
arrivals-unknown (suc count) = let h = arrivals-unknown count in omega (arith, h)

pub arrivals-known : (known : List Event) (count : ℕ) → arrivals (known ++ unknown count) ≡ arrivals known + count
arrivals-known known count = arrivals-append known (unknown count) ∙ ap (λ n. arrivals known + n) (arrivals-unknown count)

-- no more characters arrive than are on the cable
pub few_arrivals : (moments : List Moment) (cable : List ℕ) (lines : ℕ) → arrivals (events_of moments cable lines) ≤ length cable
few_arrivals [] cable lines = zero-le
few_arrivals (moment.Ticks n ∷ moments) cable lines = few_arrivals moments cable lines
few_arrivals (moment.Arrives ∷ moments) [] lines = few_arrivals moments [] lines
few_arrivals (moment.Arrives ∷ moments) (byte ∷ cable) lines = let h = few_arrivals moments cable lines in omega (arith, h)
few_arrivals (moment.Lines ∷ moments) cable lines = few_arrivals moments cable lines
few_arrivals (moment.Access ∷ moments) cable lines = few_arrivals moments cable lines

-- ---- legal events, and none is a Mark

pub legal_unknown : (count : ℕ) → AllLegal (unknown count)
legal_unknown count = (tt, blanks count)
  where
    blanks : (count : ℕ) → AllLegal (replicate count (Arrive 0 0))
    blanks zero = tt
    blanks (suc count) = (refl, blanks count)

pub legal_events : (moments : List Moment) (cable : List ℕ) (lines : ℕ) → IsWithin lines MSR.LINES.0 →
    AllLegal (events_of moments cable lines)
legal_events [] cable lines w = tt
legal_events (moment.Ticks n ∷ moments) cable lines w = (tt, legal_events moments cable lines w)
legal_events (moment.Arrives ∷ moments) [] lines w = legal_events moments [] lines w
legal_events (moment.Arrives ∷ moments) (byte ∷ cable) lines w = (refl, legal_events moments cable lines w)
legal_events (moment.Lines ∷ moments) cable lines w = (w, legal_events moments cable lines w)
legal_events (moment.Access ∷ moments) cable lines w = (tt, legal_events moments cable lines w)

pub unmarked_events : (moments : List Moment) (cable : List ℕ) (lines : ℕ) → AllUnmarked (events_of moments cable lines)
unmarked_events [] cable lines = tt
unmarked_events (moment.Ticks n ∷ moments) cable lines = (λ e. cc, unmarked_events moments cable lines)
unmarked_events (moment.Arrives ∷ moments) [] lines = unmarked_events moments [] lines
unmarked_events (moment.Arrives ∷ moments) (byte ∷ cable) lines = (λ e. cc, unmarked_events moments cable lines)
unmarked_events (moment.Lines ∷ moments) cable lines = (λ e. cc, unmarked_events moments cable lines)
unmarked_events (moment.Access ∷ moments) cable lines = (λ e. cc, unmarked_events moments cable lines)

-- ---- what is known

-- how many characters may still come, where nothing is known
pub count_to_come : (c : ChipState) (count : ℕ) → IsSound (record { chip = c; ahead = unknown count }) → to_come c ≡ count
count_to_come c count w = let h = arrivals-unknown count in omega (arith, w.foreseen, h)

pub known_settled : (c : ChipState) (count : ℕ) → IsKnown c [] count → with_ahead [] c ≡ record { chip = c; ahead = unknown count }
known_settled c count k =
    let f : ℕ → MachineState = λ n. record { chip = c; ahead = unknown n } in
    let h = count_to_come c count k.whole.sound in
    let e : to_come c - 0 ≡ count = omega (arith, h) in
    ap f e

-- automatic flow control changes none of it
pub known_flowing : (c : ChipState) (known : List Event) (count : ℕ) → IsKnown c known count →
    IsKnown (record c { auto_flow = true }) known count
known_flowing c known count k = record {
  whole = whole_flowing (record { chip = c; ahead = known ++ unknown count }) k.whole;
  unmarked = k.unmarked;
  wired = k.wired;
}

-- new events are known
pub known_ahead : (c : ChipState) (count : ℕ) (events : List Event) → IsKnown c [] count → AllLegal events → AllUnmarked events →
    arrivals events ≤ count → IsKnown c events (count - arrivals events)
known_ahead c count events k legal unmarked few = record {
  whole = record {
    sound = record {
      chip = k.whole.sound.chip;
      foreseen =
          let h = arrivals-known events (count - arrivals events) in
          let g = arrivals-unknown count in omega (arith, h, g, k.whole.sound.foreseen, few);
      legal = each-append IsLegal events (unknown (count - arrivals events)) legal (legal_unknown (count - arrivals events));
    };
    bytes = k.whole.bytes;
  };
  unmarked = unmarked;
  wired = k.wired;
}

pub known_arranged : (c : ChipState) (count : ℕ) (events : List Event) → IsKnown c [] count →
    with_ahead events c ≡ record { chip = c; ahead = events ++ unknown (count - arrivals events) }
known_arranged c count events k =
    let f : ℕ → MachineState = λ n. record { chip = c; ahead = events ++ unknown (n - arrivals events) } in
    ap f (count_to_come c count k.whole.sound)

-- ---- the next event is performed

pub next_event : (events : List Event) (k : ℕ) (event : Event) → k < length events → event ≡ slice_index_or events k event →
    drop k events ≡ event ∷ drop (k + 1) events
next_event events k event h e = rw (add-one, drop-cons events k event) (ap (λ (x : Event). x ∷ drop (suc k) events) (sym e))

-- a loop over what is known: what it is to reach from its current place is what it was to reach from the start
pub record IsOnTheWay (reach : MachineState → MachineState) (start : MachineState) (c : ChipState) (cursor : ℕ)
    (events : List Event) (count : ℕ) : Type 0 where
  pub in_schedule : cursor ≤ length events
  pub known : IsKnown c (drop cursor events) count
  pub same : reach (record { chip = c; ahead = drop cursor events ++ unknown count }) ≡ reach start

-- an event leaves a chip wired
wired_performed : (event : Event) (c : ChipState) → IsWiredChip c → IsWiredChip (perform event c)
wired_performed (Ticks n) c w = wired-ticks n c w
wired_performed (Change inputs) c w = refl
wired_performed _ c w = w

-- what is known after one event of it was performed
pub known_perform : (event : Event) (events : List Event) (c : ChipState) (count : ℕ) → IsKnown c (event ∷ events) count →
    IsKnown (perform event c) events count
known_perform event events c count k =
    record {
      whole = whole_perform event (events ++ unknown count) c k.whole;
      unmarked = k.unmarked.1;
      wired = wired_performed event c k.wired;
    }

pub goes_on : (reach : MachineState → MachineState) (start : MachineState) (events : List Event) (k count : ℕ) (event : Event)
    (c d : ChipState) → k < length events → event ≡ slice_index_or events k event → d ≡ perform event c →
    ((others : List Event) → event ≢ Mark →
    reach (record { chip = perform event c; ahead = others }) ≡ reach (record { chip = c; ahead = event ∷ others })) →
    IsOnTheWay reach start c k events count → IsOnTheWay reach start d (k + 1) events count
goes_on reach start events k count event c d h e p performs way =
    let next = next_event events k event h e in
    let known : IsKnown c (event ∷ drop (k + 1) events) count = rw next at way.known in
    let same : reach (record { chip = c; ahead = event ∷ (drop (k + 1) events ++ unknown count) }) ≡ reach start = rw next at way.same in
    rw p (record {
      in_schedule = omega (arith, h);
      known = known_perform event (drop (k + 1) events) c count known;
      same = performs (drop (k + 1) events ++ unknown count) known.unmarked.0 ∙ same;
    })

-- all that is known has happened
pub settle_performs : (event : Event) (events : List Event) (c : ChipState) → event ≢ Mark →
    settled (record { chip = perform event c; ahead = events }) ≡ settled (record { chip = c; ahead = event ∷ events })
settle_performs Mark events c m = absurd (m refl)
settle_performs _ events c m = refl

-- a machine that has settled has nothing that is known, and as many characters may come as before
pub record IsBlank (known : List Event) (count n : ℕ) : Type 0 where
  pub none : known ≡ []
  pub same : count ≡ n

blanks_count : (count n : ℕ) → unknown count ≡ unknown n → count ≡ n
blanks_count count n e = sym (arrivals-unknown count) ∙ (ap arrivals e ∙ arrivals-unknown n)

pub is_blank : (known : List Event) (count n : ℕ) → AllUnmarked known → known ++ unknown count ≡ unknown n → IsBlank known count n
is_blank [] count n u e = record { none = refl; same = blanks_count count n e }
is_blank (event ∷ known) count n u e = absurd (u.0 (ap (λ (es : List Event). first es) e))
  where
    first : List Event → Event
    first [] = Mark
    first (event ∷ events) = event

-- all that was known has been performed
pub settled_all : (c : ChipState) (events : List Event) (k count : ℕ) → length events ≤ k → IsKnown c (drop k events) count →
    record { chip = c; ahead = drop k events ++ unknown count } ≡ settled (record { chip = c; ahead = drop k events ++ unknown count })
settled_all c events k count h known =
    let e : drop k events ≡ [] = drop_all k events h in
    let none : IsKnown c [] count = rw e at known in
    rw e (sym (known_settled c count none))

-- ---- moments

-- the next moment
pub next_moment : (moments : List Moment) (k : ℕ) (m : Moment) → k < length moments → m ≡ slice_index_or moments k m →
    m ∷ drop (k + 1) moments ≡ drop k moments
next_moment moments k m h e =
    sym (rw (add-one, drop-cons moments k m) (ap (λ (x : Moment). x ∷ drop (suc k) moments) (sym e)))

-- ---- a machine that has settled, as it lies in memory

pub record HasSettled (m : MachineState) (c : ChipState) (count : ℕ) : Type 0 where
  pub chip : (settled m).chip ≡ c
  pub known : IsKnown c [] count
  pub number : to_come c ≡ count

pub has_settled : (m : MachineState) (c : ChipState) (known : List Event) (count : ℕ) →
    record { chip = c; ahead = known ++ unknown count } ≡ settled m → IsKnown c known count → HasSettled m c count
has_settled m c known count e k =
    let chip : c ≡ (settled m).chip = ap (λ (o : MachineState). o.chip) e in
    let blank = is_blank known count (to_come (settled m).chip - 0) k.unmarked (ap (λ (o : MachineState). o.ahead) e) in
    let none : IsKnown c [] count = rw blank.none at k in
    record { chip = sym chip; known = none; number = count_to_come c count none.whole.sound }

-- ---- an event that lies ahead alone

-- how many characters may come once all that is known has happened
remain_settled : (events : List Event) (c : ChipState) (count : ℕ) → IsKnown c events count →
    to_come (settled (record { chip = c; ahead = events ++ unknown count })).chip ≡ count
remain_settled [] c count k = count_to_come c count k.whole.sound
remain_settled (event ∷ events) c count k =
    ap (λ (m : MachineState). to_come m.chip) (sym (settle_performs event (events ++ unknown count) c k.unmarked.0)) ∙
    remain_settled events (perform event c) count (known_perform event events c count k)

pub come_settled : (m : MachineState) (c : ChipState) (known : List Event) (count : ℕ) →
    record { chip = c; ahead = known ++ unknown count } ≡ m → IsKnown c known count → to_come (settled m).chip ≡ count
come_settled m c known count same k =
    subst (λ (n : MachineState). to_come (settled n).chip ≡ count) same (remain_settled known c count k)

-- it may happen at a cable, if so many characters may come
pub record IsAllowed (event : Event) (count : ℕ) : Type 0 where
  pub legal : IsLegal event
  pub unmarked : IsUnmarked event
  pub few : arrivals (event ∷ []) ≤ count

pub is_allowed : (event : Event) (count : ℕ) → may_happen event count ≡ true → IsAllowed event count
is_allowed (Arrive byte errors) count e = record {
  legal = let none : errors ≡ 0 = grind (arith, common_steps, e) in rw none refl;
  unmarked = λ e. cc;
  few = grind (arith, common_steps, e);
}
is_allowed (Change inputs) count e = record { legal = eqb-true _ _ e; unmarked = λ e. cc; few = zero-le }
is_allowed Mark count e = absurd (cc)
is_allowed (Ticks n) count e = record { legal = tt; unmarked = λ e. cc; few = zero-le }
is_allowed Gate count e = record { legal = tt; unmarked = λ e. cc; few = zero-le }

-- the event lies ahead of the machine, as its memory has it
pub record IsExpected (event : Event) (m : MachineState) (c : ChipState) (items : List Event) (count taken : ℕ) : Type 0 where
  pub same : record { chip = c; ahead = items ++ unknown (count - taken) } ≡ expecting event m
  pub known : IsKnown c items (count - taken)
  pub few : taken ≤ count

pub is_expected : (event : Event) (c : ChipState) (m : MachineState) (count taken : ℕ) (items : List Event) → HasSettled m c count →
    items ≡ event ∷ [] → taken ≡ arrivals items → IsLegal event → IsUnmarked event → arrivals (event ∷ []) ≤ to_come (settled m).chip →
    IsExpected event m c items count taken
is_expected event c m count taken items h e n legal unmarked few =
    let fits : arrivals (event ∷ []) ≤ to_come c = subst (λ (d : ChipState). arrivals (event ∷ []) ≤ to_come d) h.chip few in
    let enough : arrivals (event ∷ []) ≤ count = let k = h.number in omega (arith, fits, k) in
    let D : ChipState → MachineState = λ d. with_ahead (event ∷ []) d in
    rw (n, e) (record {
      same = sym (known_arranged c count (event ∷ []) h.known) ∙ ap D (sym h.chip);
      known = known_ahead c count (event ∷ []) h.known (legal, tt) (unmarked, tt) enough;
      few = enough;
    })

-- once it has happened
pub performs : (event : Event) (m : MachineState) → event ≢ Gate → settled (expecting event m) ≡ performed event m
performs Gate m other = absurd (other refl)
performs _ m other = refl

-- the journal is made for all that may still come
pub few_remain : (c : ChipState) (known : List Event) (count : ℕ) → IsKnown c known count → count ≤ length c.receiver.marks
few_remain c known count k = let h = arrivals-known known count in omega (arith, h, k.whole.sound.foreseen)
