-- Whatever happens to a receiver, it stays sound.
use Rattle.std.proofs.Common.{◌≡◌, ◌≢◌, ℕ, ◌+◌, ◌≤◌, ◌<◌, Bool, true, false, nat_lt, List, [], ◌∷◌, ◌++◌, length, Option, Some, None, refl}
use Rattle.std.proofs.Common.{arith, ◌∙◌, ap, slice_set, get_or-set_same, length-append, if◌then◌else◌, zero-le}
use Rattle.std.proofs.lemmas.List.{length-set}
use Rattle.std.proofs.lemmas.Grind.{common_steps}
use Rattle.uart_events.specs.declared.event.ArrivalMark.{ArrivalMark}
use Rattle.uart_events.specs.declared.event.ArrivalMark.TheVariants.{Pending, Waiting, Read, Discarded, Dropped}
use Rattle.uart_chip.specs.declared.receiver.Character.{Character}
use Rattle.uart_chip.specs.declared.receiver.Origin.{Origin}
use Rattle.uart_chip.specs.declared.receiver.Origin.TheVariants.{Arrived, Looped, Live}
use Rattle.uart_spec.specs.declared.registers.fifo_trigger_level.FifoTriggerLevel.{FifoTriggerLevel}
use Rattle.uart_spec.specs.declared.registers.line_status.TheConstants.LSR
use Rattle.uart_spec.specs.Bits.{IsWithin}
use Rattle.uart_spec.specs.declared.setup.FifoSize.{FifoSize}
use Rattle.uart_chip.specs.Transmitter.{room}
use Rattle.uart_chip.specs.Receiver.{ReceiverState, set_mark, replace, come_back, grow_timeout, tick, arrive, take_front, report, discard}
use Rattle.uart_chip.specs.Receiver.{clear, enter, arrive_live, is_unscheduled}
use Rattle.uart_chip.specs.Sound.{IsInQueue, AllInQueue, NoneIs, Distinct, AllErrorsLegal, IsSoundReceiver}
use Rattle.uart_chip.proofs.Lists.{each-append}
use Rattle.uart_chip.proofs.Sizes.{some_room}
use Rattle.uart_chip.proofs.soundness.Marks.{length-set_mark, none_to_come, all_in_queue-set, all_in_queue-set_mark, all_in_queue-next}
use Rattle.uart_chip.proofs.soundness.Marks.{all_in_queue-found, all_in_queue-append, distinct-next, distinct-unscheduled, ToCome, Settled}
use Rattle.uart_chip.proofs.soundness.Marks.{NoOther, to_come-next, to_come-set, settled-next, settled-set, no_other-set, no_other-rest}
use Rattle.uart_chip.proofs.soundness.Marks.{no_other-next}

-- the receiver is sound after a move, with the same number of arrivals, and as many to come
pub record Safe (fifo : Bool) (arrived : ℕ) (r s : ReceiverState) : Type 0 where
  pub sound : IsSoundReceiver fifo s
  pub number : s.arrived ≡ arrived
  pub known : length s.marks ≡ length r.marks
  pub limit : s.timeout_limit ≡ r.timeout_limit
  pub size : s.size ≡ r.size

pub safe_if : (fifo : Bool) (arrived : ℕ) (r x y : ReceiverState) (b : Bool) → (b ≡ true → Safe fifo arrived r x) →
    (b ≡ false → Safe fifo arrived r y) → Safe fifo arrived r (if b then x else y)
safe_if fifo arrived r x y true p q = p refl
safe_if fifo arrived r x y false p q = q refl

-- ---- what soundness does not speak of

-- flags, ticks and the trigger, as long as the ticks are within their limit
sound_beside : (fifo : Bool) (r : ReceiverState) (overrun reported : Bool) (ticks : ℕ) (level : FifoTriggerLevel) →
    IsSoundReceiver fifo r → ticks ≤ r.timeout_limit →
    IsSoundReceiver fifo (record r { is_overrun = overrun; is_front_reported = reported; timeout_ticks = ticks; trigger = level })
sound_beside fifo r overrun reported ticks level w i =
    let m = w.marked in
    record {
      marked = record { wait = m.wait; distinct = m.distinct; to_come = m.to_come; in_room = m.in_room; counted = m.counted };
      settled = w.settled;
      no_other = w.no_other;
      legal = w.legal;
      idle = i;
    }

-- a looped character came, so none is lost since
sound_found : (fifo : Bool) (r : ReceiverState) → IsSoundReceiver fifo r → IsSoundReceiver fifo (record r { is_unscheduled_lost = false })
sound_found fifo r w =
    let m = w.marked in
    let found : AllInQueue r.arrived r.marks false r.queue = all_in_queue-found r.arrived r.marks r.is_unscheduled_lost r.queue m.wait in
    record {
      marked = record { wait = found; distinct = m.distinct; to_come = m.to_come; in_room = m.in_room; counted = m.counted };
      settled = w.settled;
      no_other = w.no_other;
      legal = w.legal;
      idle = w.idle;
    }

-- one that waits alone, as it does without FIFO
record WaitsAlone (fifo : Bool) (r : ReceiverState) (old : Character) : Type 0 where
  pub waits : IsInQueue r.arrived r.marks r.is_unscheduled_lost old.origin
  pub others : NoOther (old ∷ []) r.marks
  pub one : 1 ≤ room fifo r.size

waits_alone : (fifo : Bool) (r : ReceiverState) (old : Character) → IsSoundReceiver fifo r → r.queue ≡ old ∷ [] → WaitsAlone fifo r old
waits_alone fifo r old w e =
    let waits : AllInQueue r.arrived r.marks r.is_unscheduled_lost (old ∷ []) = rw e at w.marked.wait in
    let one : length (old ∷ []) ≤ room fifo r.size = rw e at w.marked.in_room in
    record { waits = waits.0; others = rw e at w.no_other; one = one }

-- ---- one more character

length-next : (queue : List Character) (new : Character) (n : ℕ) → nat_lt (length queue) n ≡ true → length (queue ++ new ∷ []) ≤ n
length-next queue new n e = let free : length queue < n = grind (arith, common_steps) in simp length-append (omega arith)

legal-next : (queue : List Character) (new : Character) → IsWithin new.errors LSR.CHARACTER_ERRORS.0 → AllErrorsLegal queue →
    AllErrorsLegal (queue ++ new ∷ [])
legal-next queue new n h =
    each-append (λ (x : Character). IsWithin x.errors LSR.CHARACTER_ERRORS.0) queue (new ∷ []) h (n, tt)

counted-next : (arrived k : ℕ) (m : ArrivalMark) (marks : List ArrivalMark) → arrived < length marks →
    arrived + 1 ≤ length (slice_set marks k m)
counted-next arrived k m marks h = simp length-set (omega arith)

-- ---- an arrival

safe_arrival_room : (fifo : Bool) (r : ReceiverState) (byte errors : ℕ) (reported : Bool) → IsSoundReceiver fifo r →
    r.arrived < length r.marks → IsWithin errors LSR.CHARACTER_ERRORS.0 →
    nat_lt (length r.queue) (room fifo r.size) ≡ true →
    Safe fifo (r.arrived + 1) r (record r {
      queue = r.queue ++ record { byte = byte; errors = errors; origin = Arrived r.arrived } ∷ [];
      is_front_reported = reported;
      timeout_ticks = 0;
      arrived = r.arrived + 1;
      marks = slice_set r.marks r.arrived Waiting;
    })
safe_arrival_room fifo r byte errors reported w k l e =
    let new : Character = record { byte = byte; errors = errors; origin = Arrived r.arrived } in
    let none : NoneIs r.arrived r.queue = none_to_come r.arrived r.marks r.is_unscheduled_lost r.queue w.marked.wait in
    let old : AllInQueue (r.arrived + 1) (slice_set r.marks r.arrived Waiting) r.is_unscheduled_lost r.queue =
    all_in_queue-set (r.arrived + 1) r.marks r.is_unscheduled_lost r.arrived Waiting r.queue none
    (all_in_queue-next r.arrived r.marks r.is_unscheduled_lost r.queue w.marked.wait) in
    let here : IsInQueue (r.arrived + 1) (slice_set r.marks r.arrived Waiting) r.is_unscheduled_lost (Arrived r.arrived) =
    (omega arith, get_or-set_same r.marks r.arrived Waiting Pending k) in
    record {
      sound = record {
        marked = record {
          wait =
              all_in_queue-append (r.arrived + 1) (slice_set r.marks r.arrived Waiting) r.is_unscheduled_lost r.queue
              (new ∷ []) old (here, tt);
          distinct = distinct-next r.queue new r.arrived refl none w.marked.distinct;
          to_come = to_come-next r.arrived r.marks Waiting w.marked.to_come;
          in_room = length-next r.queue new (room fifo r.size) e;
          counted = counted-next r.arrived r.arrived Waiting r.marks k;
        };
        settled = settled-next r.arrived r.marks Waiting k (λ e. cc) w.settled;
        no_other = no_other-next r.queue new r.marks Waiting w.no_other;
        legal = legal-next r.queue new l w.legal;
        idle = zero-le;
      };
      number = refl;
      known = length-set r.marks r.arrived Waiting;
      limit = refl;
      size = refl;
    }

-- what waits stays, and the arrival is lost
safe_arrival_lost : (fifo : Bool) (r : ReceiverState) (m : ArrivalMark) (overrun : Bool) (idle : ℕ) → IsSoundReceiver fifo r →
    r.arrived < length r.marks → m ≢ Pending → m ≢ Waiting → idle ≤ r.timeout_limit →
    Safe fifo (r.arrived + 1) r
    (record r { is_overrun = overrun; timeout_ticks = idle; arrived = r.arrived + 1; marks = slice_set r.marks r.arrived m })
safe_arrival_lost fifo r m overrun idle w k p q i =
    let none : NoneIs r.arrived r.queue = none_to_come r.arrived r.marks r.is_unscheduled_lost r.queue w.marked.wait in
    record {
      sound = record {
        marked = record {
          wait =
              all_in_queue-set (r.arrived + 1) r.marks r.is_unscheduled_lost r.arrived m r.queue none
              (all_in_queue-next r.arrived r.marks r.is_unscheduled_lost r.queue w.marked.wait);
          distinct = w.marked.distinct;
          to_come = to_come-next r.arrived r.marks m w.marked.to_come;
          in_room = w.marked.in_room;
          counted = counted-next r.arrived r.arrived m r.marks k;
        };
        settled = settled-next r.arrived r.marks m k p w.settled;
        no_other = no_other-set r.queue r.marks (Arrived r.arrived) m q w.no_other;
        legal = w.legal;
        idle = i;
      };
      number = refl;
      known = length-set r.marks r.arrived m;
      limit = refl;
      size = refl;
    }

-- the one that waits is replaced
safe_arrival_replaced : (fifo : Bool) (r : ReceiverState) (byte errors : ℕ) (old : Character) (missing : Bool) → IsSoundReceiver fifo r →
    r.arrived < length r.marks → IsWithin errors LSR.CHARACTER_ERRORS.0 →
    r.queue ≡ old ∷ [] →
    Safe fifo (r.arrived + 1) r (record r {
      queue = record { byte = byte; errors = errors; origin = Arrived r.arrived } ∷ [];
      is_overrun = true;
      is_front_reported = false;
      timeout_ticks = 0;
      arrived = r.arrived + 1;
      marks = slice_set (set_mark old.origin Dropped r.marks) r.arrived Waiting;
      is_unscheduled_lost = missing;
    })
safe_arrival_replaced fifo r byte errors old missing w k l e =
    let new : Character = record { byte = byte; errors = errors; origin = Arrived r.arrived } in
    let marks : List ArrivalMark = set_mark old.origin Dropped r.marks in
    let same : length marks ≡ length r.marks = length-set_mark old.origin Dropped r.marks in
    let within : r.arrived < length marks = omega arith in
    let alone : WaitsAlone fifo r old = waits_alone fifo r old w e in
    record {
      sound = record {
        marked = record {
          wait = ((omega arith, get_or-set_same marks r.arrived Waiting Pending within), tt);
          distinct = (tt, tt);
          to_come =
              to_come-next r.arrived marks Waiting
              (to_come-set r.arrived r.marks r.marks r.is_unscheduled_lost old.origin Dropped alone.waits w.marked.to_come);
          in_room = alone.one;
          counted = counted-next r.arrived r.arrived Waiting marks within;
        };
        settled =
            settled-next r.arrived marks Waiting within (λ e. cc) (settled-set r.arrived r.marks old.origin Dropped (λ e. cc) w.settled);
        no_other = no_other-next [] new marks Waiting (no_other-rest old [] r.marks Dropped (λ e. cc) alone.others);
        legal = (l, tt);
        idle = zero-le;
      };
      number = refl;
      known = length-set marks r.arrived Waiting ∙ same;
      limit = refl;
      size = refl;
    }

-- what is full without FIFO holds one character
one_waits : (fifo : Bool) (size : FifoSize) (queue : List Character) → fifo ≡ false → length queue ≤ room fifo size → length queue ≤ 1
one_waits true size queue e h = absurd (cc)
one_waits false size queue e h = h

none_full : (fifo : Bool) (size : FifoSize) → nat_lt 0 (room fifo size) ≡ false → ⊥
none_full fifo size e = let some = some_room fifo size in grind (arith, common_steps)

pub safe_arrive : (loopback fifo : Bool) (r : ReceiverState) (byte errors : ℕ) → IsSoundReceiver fifo r → r.arrived < length r.marks →
    IsWithin errors LSR.CHARACTER_ERRORS.0 →
    Safe fifo (r.arrived + 1) r (arrive loopback fifo byte errors r)
safe_arrive true fifo r byte errors w k l = safe_arrival_lost fifo r Discarded r.is_overrun r.timeout_ticks w k (λ e. cc) (λ e. cc) w.idle
safe_arrive false fifo r byte errors w k l =
    safe_if fifo (r.arrived + 1) r _ _ (nat_lt (length r.queue) (room fifo r.size)) (safe_arrival_room fifo r byte errors _ w k l)
    (λ full. safe_if fifo (r.arrived + 1) r _ _ fifo (λ e. safe_arrival_lost fifo r Dropped true 0 w k (λ e. cc) (λ e. cc) zero-le)
    (λ off. swap r.queue refl full (one_waits fifo r.size r.queue off w.marked.in_room)))
  where
    swap : (queue : List Character) → r.queue ≡ queue → nat_lt (length r.queue) (room fifo r.size) ≡ false → length r.queue ≤ 1 →
        Safe fifo (r.arrived + 1) r
        (replace r.queue (record { byte = byte; errors = errors; origin = Arrived r.arrived }) (record r { arrived = r.arrived + 1 }))
    swap [] e full one = let h : nat_lt 0 (room fifo r.size) ≡ false = rw e at full in absurd (none_full fifo r.size h)
    swap (old ∷ []) e full one =
        let new : Character = record { byte = byte; errors = errors; origin = Arrived r.arrived } in
        let next : ReceiverState = record r { arrived = r.arrived + 1 } in
        let f : replace r.queue new next ≡ replace (old ∷ []) new next = ap (λ (xs : List Character). replace xs new next) e in
        rw f (safe_arrival_replaced fifo r byte errors old _ w k l e)
    swap (old ∷ other ∷ others) e full one = let h : length (old ∷ other ∷ others) ≤ 1 = rw e at one in absurd (omega arith)

-- ---- an unscheduled character: one that came back in loopback, or came in without a schedule

safe_unscheduled_room : (fifo : Bool) (r : ReceiverState) (byte errors : ℕ) (o : Origin) (reported : Bool) → is_unscheduled o ≡ true →
    IsSoundReceiver fifo r → IsWithin errors LSR.CHARACTER_ERRORS.0 → nat_lt (length r.queue) (room fifo r.size) ≡ true →
    Safe fifo r.arrived r (record r {
      queue = r.queue ++ record { byte = byte; errors = errors; origin = o } ∷ [];
      is_front_reported = reported;
      timeout_ticks = 0;
      is_unscheduled_lost = false;
    })
safe_unscheduled_room fifo r byte errors (Arrived k) reported s w l e = absurd (cc)
safe_unscheduled_room fifo r byte errors o reported s w l e =
    let new : Character = record { byte = byte; errors = errors; origin = o } in
    let found : AllInQueue r.arrived r.marks false r.queue =
    all_in_queue-found r.arrived r.marks r.is_unscheduled_lost r.queue w.marked.wait in
    record {
      sound = record {
        marked = record {
          wait = all_in_queue-append r.arrived r.marks false r.queue (new ∷ []) found (refl, tt);
          distinct = distinct-unscheduled r.queue new refl w.marked.distinct;
          to_come = w.marked.to_come;
          in_room = length-next r.queue new (room fifo r.size) e;
          counted = w.marked.counted;
        };
        settled = w.settled;
        no_other = no_other-next r.queue new r.marks Waiting w.no_other;
        legal = legal-next r.queue new l w.legal;
        idle = zero-le;
      };
      number = refl;
      known = refl;
      limit = refl;
      size = refl;
    }

safe_unscheduled_lost : (fifo : Bool) (r : ReceiverState) → IsSoundReceiver fifo r →
    Safe fifo r.arrived r (record r { is_overrun = true; timeout_ticks = 0; is_unscheduled_lost = false })
safe_unscheduled_lost fifo r w =
    record { sound = sound_beside fifo _ _ _ _ _ (sound_found fifo r w) zero-le; number = refl; known = refl; limit = refl; size = refl }

safe_unscheduled_replaced : (fifo : Bool) (r : ReceiverState) (byte errors : ℕ) (o : Origin) (old : Character) → is_unscheduled o ≡ true →
    IsSoundReceiver fifo r → IsWithin errors LSR.CHARACTER_ERRORS.0 → r.queue ≡ old ∷ [] →
    Safe fifo r.arrived r (record r {
      queue = record { byte = byte; errors = errors; origin = o } ∷ [];
      is_overrun = true;
      is_front_reported = false;
      timeout_ticks = 0;
      marks = set_mark old.origin Dropped r.marks;
      is_unscheduled_lost = false;
    })
safe_unscheduled_replaced fifo r byte errors (Arrived k) old s w l e = absurd (cc)
safe_unscheduled_replaced fifo r byte errors o old s w l e =
    let new : Character = record { byte = byte; errors = errors; origin = o } in
    let marks : List ArrivalMark = set_mark old.origin Dropped r.marks in
    let same : length marks ≡ length r.marks = length-set_mark old.origin Dropped r.marks in
    let alone : WaitsAlone fifo r old = waits_alone fifo r old w e in
    record {
      sound = record {
        marked = record {
          wait = (refl, tt);
          distinct = (tt, tt);
          to_come = to_come-set r.arrived r.marks r.marks r.is_unscheduled_lost old.origin Dropped alone.waits w.marked.to_come;
          in_room = alone.one;
          counted = omega (arith, same, w.marked.counted);
        };
        settled = settled-set r.arrived r.marks old.origin Dropped (λ e. cc) w.settled;
        no_other = no_other-next [] new marks Waiting (no_other-rest old [] r.marks Dropped (λ e. cc) alone.others);
        legal = (l, tt);
        idle = zero-le;
      };
      number = refl;
      known = same;
      limit = refl;
      size = refl;
    }

pub safe_unscheduled : (fifo : Bool) (r : ReceiverState) (byte errors : ℕ) (o : Origin) → is_unscheduled o ≡ true → IsSoundReceiver fifo r →
    IsWithin errors LSR.CHARACTER_ERRORS.0 →
    Safe fifo r.arrived r (enter fifo (record { byte = byte; errors = errors; origin = o }) r)
safe_unscheduled fifo r byte errors (Arrived k) s w l = absurd (cc)
safe_unscheduled fifo r byte errors o s w l =
    safe_if fifo r.arrived r _ _ (nat_lt (length r.queue) (room fifo r.size)) (safe_unscheduled_room fifo r byte errors o _ refl w l)
    (λ full. safe_if fifo r.arrived r _ _ fifo (λ e. safe_unscheduled_lost fifo r w)
    (λ off. swap r.queue refl full (one_waits fifo r.size r.queue off w.marked.in_room)))
  where
    swap : (queue : List Character) → r.queue ≡ queue → nat_lt (length r.queue) (room fifo r.size) ≡ false → length r.queue ≤ 1 →
        Safe fifo r.arrived r (replace r.queue (record { byte = byte; errors = errors; origin = o }) r)
    swap [] e full one = let h : nat_lt 0 (room fifo r.size) ≡ false = rw e at full in absurd (none_full fifo r.size h)
    swap (old ∷ []) e full one =
        let new : Character = record { byte = byte; errors = errors; origin = o } in
        let f : replace r.queue new r ≡ replace (old ∷ []) new r = ap (λ (xs : List Character). replace xs new r) e in
        rw f (safe_unscheduled_replaced fifo r byte errors o old refl w l e)
    swap (old ∷ other ∷ others) e full one = let h : length (old ∷ other ∷ others) ≤ 1 = rw e at one in absurd (omega arith)

pub safe_come_back : (fifo : Bool) (place : Option ℕ) (r : ReceiverState) → IsSoundReceiver fifo r →
    Safe fifo r.arrived r (come_back fifo place r)
safe_come_back fifo None r w = record { sound = w; number = refl; known = refl; limit = refl; size = refl }
safe_come_back fifo (Some byte) r w = safe_unscheduled fifo r byte 0 Looped refl w refl

pub safe_bring : (loopback fifo : Bool) (r : ReceiverState) (byte errors : ℕ) → IsSoundReceiver fifo r →
    IsWithin errors LSR.CHARACTER_ERRORS.0 → Safe fifo r.arrived r (arrive_live loopback fifo byte errors r)
safe_bring true fifo r byte errors w l = record { sound = w; number = refl; known = refl; limit = refl; size = refl }
safe_bring false fifo r byte errors w l = safe_unscheduled fifo r byte errors Live refl w l

-- ---- a tick

pub safe_tick : (fifo : Bool) (place : Option ℕ) (r : ReceiverState) → IsSoundReceiver fifo r → Safe fifo r.arrived r (tick fifo place r)
safe_tick fifo place r w = idle (come_back fifo place r) (safe_come_back fifo place r w)
  where
    idle : (s : ReceiverState) → Safe fifo r.arrived r s → Safe fifo r.arrived r (grow_timeout s)
    idle s a = record {
      sound = sound_beside fifo s _ _ _ _ a.sound (omega arith);
      number = a.number;
      known = a.known;
      limit = a.limit;
      size = a.size;
    }

-- ---- the front is taken

pub safe_take_front : (fifo : Bool) (r : ReceiverState) → IsSoundReceiver fifo r → Safe fifo r.arrived r (take_front r.queue r)
safe_take_front fifo r w = go r.queue refl
  where
    go : (queue : List Character) → r.queue ≡ queue → Safe fifo r.arrived r (take_front r.queue r)
    go [] e =
        let f : take_front r.queue r ≡ r = ap (λ (xs : List Character). take_front xs r) e in
        rw f (record { sound = w; number = refl; known = refl; limit = refl; size = refl })
    go (front ∷ others) e =
        let f : take_front r.queue r ≡ take_front (front ∷ others) r = ap (λ (xs : List Character). take_front xs r) e in
        let waits : AllInQueue r.arrived r.marks r.is_unscheduled_lost (front ∷ others) = rw e at w.marked.wait in
        let distinct : Distinct (front ∷ others) = rw e at w.marked.distinct in
        let rest : NoOther (front ∷ others) r.marks = rw e at w.no_other in
        let legal : AllErrorsLegal (front ∷ others) = rw e at w.legal in
        let few : length (front ∷ others) ≤ room fifo r.size = rw e at w.marked.in_room in
        let same : length (set_mark front.origin Read r.marks) ≡ length r.marks = length-set_mark front.origin Read r.marks in
        rw f (record {
          sound = record {
            marked = record {
              wait = all_in_queue-set_mark r.arrived r.marks r.is_unscheduled_lost front.origin Read others distinct.0 waits.1;
              distinct = distinct.1;
              to_come = to_come-set r.arrived r.marks r.marks r.is_unscheduled_lost front.origin Read waits.0 w.marked.to_come;
              in_room = omega (arith, few);
              counted = omega (arith, same, w.marked.counted);
            };
            settled = settled-set r.arrived r.marks front.origin Read (λ e. cc) w.settled;
            no_other = no_other-rest front others r.marks Read (λ e. cc) rest;
            legal = legal.1;
            idle = zero-le;
          };
          number = refl;
          known = same;
          limit = refl;
          size = refl;
        })

-- ---- what waits is discarded

length-discard : (queue : List Character) (marks : List ArrivalMark) → length (discard queue marks) ≡ length marks
length-discard [] marks = refl
length-discard (x ∷ xs) marks = length-discard xs (set_mark x.origin Discarded marks) ∙ length-set_mark x.origin Discarded marks

to_come-discard : (queue : List Character) (arrived : ℕ) (marks old : List ArrivalMark) (missing : Bool) →
    AllInQueue arrived old missing queue → ToCome arrived marks → ToCome arrived (discard queue marks)
to_come-discard [] arrived marks old missing w h = h
to_come-discard (x ∷ xs) arrived marks old missing w h =
    to_come-discard xs arrived (set_mark x.origin Discarded marks) old missing w.1
    (to_come-set arrived marks old missing x.origin Discarded w.0 h)

settled-discard : (queue : List Character) (arrived : ℕ) (marks : List ArrivalMark) → Settled arrived marks →
    Settled arrived (discard queue marks)
settled-discard [] arrived marks h = h
settled-discard (x ∷ xs) arrived marks h =
    settled-discard xs arrived (set_mark x.origin Discarded marks) (settled-set arrived marks x.origin Discarded (λ e. cc) h)

no_other-discard : (queue : List Character) (marks : List ArrivalMark) → NoOther queue marks → NoOther [] (discard queue marks)
no_other-discard [] marks h = h
no_other-discard (x ∷ xs) marks h = no_other-discard xs (set_mark x.origin Discarded marks) (no_other-rest x xs marks Discarded (λ e. cc) h)

-- the FIFO may have been switched at the same time
pub safe_clear : (fifo on : Bool) (r : ReceiverState) → IsSoundReceiver fifo r → Safe on r.arrived r (clear r)
safe_clear fifo on r w =
    let same : length (discard r.queue r.marks) ≡ length r.marks = length-discard r.queue r.marks in
    record {
      sound = record {
        marked = record {
          wait = tt;
          distinct = tt;
          to_come = to_come-discard r.queue r.arrived r.marks r.marks r.is_unscheduled_lost w.marked.wait w.marked.to_come;
          in_room = zero-le;
          counted = omega (arith, same, w.marked.counted);
        };
        settled = settled-discard r.queue r.arrived r.marks w.settled;
        no_other = no_other-discard r.queue r.marks w.no_other;
        legal = tt;
        idle = w.idle;
      };
      number = refl;
      known = same;
      limit = refl;
      size = refl;
    }

-- ---- flags alone

pub sound_report : (fifo : Bool) (r : ReceiverState) → IsSoundReceiver fifo r → IsSoundReceiver fifo (report r)
sound_report fifo r w = sound_beside fifo r _ _ _ _ w w.idle

pub sound_trigger : (fifo : Bool) (r : ReceiverState) (level : FifoTriggerLevel) → IsSoundReceiver fifo r →
    IsSoundReceiver fifo (record r { trigger = level })
sound_trigger fifo r level w = sound_beside fifo r _ _ _ _ w w.idle
