-- How `try_handle` ends a storm.
use Rattle.std.proofs.Common.{◌≡◌, ◌≢◌, ◌<◌, ◌≤◌, ◌⊎◌, ℕ, zero, suc, nat_lt, Bool, true, false, MatchBool, List, [], ◌∷◌, ◌++◌}
use Rattle.std.proofs.Common.{append_assoc}
use Rattle.std.proofs.Common.{append-nil, inl, inr, refl, sym, ◌∙◌, ap, subst, arith, Option, Some, None, Result, Ok, Err}
use Rattle.std.specs.Prelude.{MatchOption}
use Rattle.std.proofs.lemmas.Bool.Decides.{nat_tests}
use lib.Bits.{and_zero_r}
use Rattle.uart_spec.specs.Bits.{has}
use Rattle.uart_spec.specs.declared.access.Access.{Access}
use Rattle.uart_spec.specs.declared.access.Access.TheVariants.{Read, Write}
use Rattle.uart_spec.specs.declared.registers.interrupt_enable.TheConstants.IER
use Rattle.uart_spec.specs.declared.registers.interrupt_status.TheConstants.ISR
use Rattle.uart_spec.specs.declared.registers.interrupt_type.InterruptType.{InterruptType}
use Rattle.uart_spec.specs.declared.registers.interrupt_type.InterruptType.TheVariants as interrupts
use Rattle.uart_spec.specs.declared.registers.offsets.TheConstants as offsets
use Rattle.uart_16550.specs.Driver.{Fields}
use Rattle.uart_ring.specs.Ring.{RingDoing, RingFields, OnDriver, RingSets, is_full, with_rounds, with_stuck}
use Rattle.uart_ring.specs.Ring.{with_driver, unchanged}
use Rattle.uart_ring.specs.Receive.{PausesIfFull, FillsReceiveRing}
use Rattle.uart_ring.specs.Service.{ServesInterrupt, ServesOne, Stops, SendsOnIf, ServesData, ServesTimes}
use Rattle.uart_ring.specs.Handle.{RetriggersUnlessIdle, Handles, SendsAndRetriggers}
use Rattle.uart_ring.specs.Storm.{TurnsOff, LooksOnceMore, CountsUnfinished, CountsRound, HandlesRound, StaysStuck}
use Rattle.uart_ring.specs.Storm.{TriesToHandle, unless_stuck, EndsWith, LeavesOff, CountsOrIsIdle, IsLastStill}
use Rattle.uart_ring.specs.Storm.{counts_as, has_moved, CountsSince, round_limit}
use Rattle.uart_ring.specs.Lossless.{Implies}
use Rattle.uart_ring.specs.declared.ring.service.HandleEnd.{HandleEnd}
use Rattle.uart_ring.specs.declared.ring.service.HandleEnd.TheVariants.{Idle, Unknown, Limit}
use Rattle.uart_ring.specs.declared.ring.service.Handled.{Handled}
use Rattle.uart_ring.specs.declared.ring.storm.StuckError.{StuckError}
use Rattle.uart_ring.proofs.Pausing.{Pausing, rid_of}

-- ---- what is served changes no count

abbrev KeepsRounds : RingDoing
KeepsRounds f l after = after.rounds ≡ f.rounds

pausing_keeps : (change : ℕ → ℕ) (paused when : Bool) → Implies (Pausing change paused when) KeepsRounds
pausing_keeps change paused true f l after t = ap (λ (g : RingFields). g.rounds) t.1
pausing_keeps change paused false f l after t = ap (λ (g : RingFields). g.rounds) t.1

pauses_keep : Implies PausesIfFull KeepsRounds
pauses_keep f l after t = pausing_keeps (rid_of IER.DATA_READY.0) true (is_full f.receive) f l after t

fills_keep : Implies FillsReceiveRing KeepsRounds
fills_keep f l after (bytes, t) = pauses_keep t.mid t.back after t.second ∙ ap (λ (g : RingFields). g.rounds) t.first.1

sends_on_keep : (room : Bool) → Implies (SendsOnIf room) KeepsRounds
sends_on_keep true f l after (zero, t) = ap (λ (g : RingFields). g.rounds) t.1
sends_on_keep true f l after (suc n, t) = ap (λ (g : RingFields). g.rounds) t.1
sends_on_keep false f l after t = ap (λ (g : RingFields). g.rounds) t.1

serves_data_keeps : (room : Bool) → Implies (ServesData room) KeepsRounds
serves_data_keeps room f l after t = sends_on_keep room t.mid t.back after t.second ∙ fills_keep f t.front t.mid t.first

serves_keep : (sends room left : Bool) (interrupt : InterruptType) → Implies (ServesInterrupt sends room left interrupt) KeepsRounds
serves_keep sends room left interrupts.ReceiverLineStatus f l after t = ap (λ (g : RingFields). g.rounds) t.2.1
serves_keep sends room left interrupts.ReceivedDataReady f l after t = serves_data_keeps room f l after t.1
serves_keep sends room left interrupts.ReceptionTimeout f l after t = serves_data_keeps room f l after t.1
serves_keep sends room left interrupts.DmaReceptionEndOfTransfer f l after t = ap (λ (g : RingFields). g.rounds) t.1.1
serves_keep sends room left interrupts.DmaTransmissionEndOfTransfer f l after t = ap (λ (g : RingFields). g.rounds) t.1.1
serves_keep sends room left _ f l after t = ap (λ (g : RingFields). g.rounds) t.1.1.1

serves_one_keeps : (sends room left : Bool) → Implies (ServesOne sends room left) KeepsRounds
serves_one_keeps sends room left f l after (interrupt, t) =
    serves_keep sends room left interrupt t.mid t.back after t.second ∙ ap (λ (g : RingFields). g.rounds) t.first.1

times_keep : (sends : Bool) (n : ℕ) (room left : Bool) → Implies (ServesTimes sends n room left) KeepsRounds
times_keep sends zero room left f l after t = ap (λ (g : RingFields). g.rounds) t.1.1
times_keep sends (suc n) room left f l after (next, t) =
    times_keep sends n next left t.mid t.back after t.second ∙ serves_one_keeps sends room next f t.front t.mid t.first

stops_keep : (end : HandleEnd) → Implies (Stops end) KeepsRounds
stops_keep Idle f l after t = ap (λ (g : RingFields). g.rounds) t.1
stops_keep _ f l after t = ap (λ (g : RingFields). g.rounds) t.1

sends_and_retriggers_keep : (room : Bool) → Implies (SendsAndRetriggers room) KeepsRounds
sends_and_retriggers_keep room f l after t = ap (λ (g : RingFields). g.rounds) t.second.1 ∙ sends_on_keep room f t.front t.mid t.first

unless_idle_keep : (room : Bool) (end : HandleEnd) → Implies (RetriggersUnlessIdle room end) KeepsRounds
unless_idle_keep room Idle f l after t = ap (λ (g : RingFields). g.rounds) t.1
unless_idle_keep room Unknown f l after t = sends_and_retriggers_keep room f l after t
unless_idle_keep room Limit f l after t = sends_and_retriggers_keep room f l after t

pub handles_keep : (limit : ℕ) (handled : Handled) → Implies (Handles limit handled) KeepsRounds
handles_keep limit handled f l after (room, t) =
    let u = t.first.1 in
    unless_idle_keep room handled.end t.mid t.back after t.second ∙
    (stops_keep handled.end u.mid u.back t.mid u.second ∙ times_keep true handled.served false room f u.front u.mid u.first)

-- ---- how lists end

ends_later : (access : Access) (front back whole : List Access) → whole ≡ front ++ back → EndsWith access back → EndsWith access whole
ends_later access front back whole is e =
    (front ++ e.0, is ∙ (ap (λ xs. front ++ xs) e.1 ∙ sym (append_assoc front e.0 (access ∷ []))))

turns_off_ends : (f : Fields) (l : List Access) (after : Fields) → TurnsOff f l after → EndsWith (Write offsets.IER 0) l
turns_off_ends f l after (ier, is, changed) =
    (Read offsets.IER ier ∷ [], is ∙ ap (λ v. Read offsets.IER ier ∷ Write offsets.IER v ∷ []) (and_zero_r ier))

-- ---- a chip that is found stuck

looks_off : (error : StuckError) → Implies (LooksOnceMore (Some error)) (LeavesOff error)
looks_off error f l after t = (
  ends_later (Write offsets.IER 0) t.front t.back l t.whole (turns_off_ends t.mid.driver t.back after.driver t.second.0),
  ap (λ (g : RingFields). g.stuck) t.second.1,
)

unfinished_off : (rounds : ℕ) (error : StuckError) → Implies (CountsUnfinished rounds (Some error)) (LeavesOff error)
unfinished_off rounds error f l after t = go (nat_lt (suc f.rounds) rounds) t
  where
    go : (more : Bool) → MatchBool more ((Some error ≡ None) × RingSets (with_rounds (suc f.rounds)) f l after)
        (LooksOnceMore (Some error) f l after) → LeavesOff error f l after
    go true t = absurd (let e = t.0 in cc)
    go false t = looks_off error f l after t

counts_off : (rounds : ℕ) (end : HandleEnd) (error : StuckError) → Implies (CountsRound rounds end (Some error)) (LeavesOff error)
counts_off rounds Idle error f l after t = absurd (let e = t.0 in cc)
counts_off rounds Unknown error f l after t = unfinished_off rounds error f l after t
counts_off rounds Limit error f l after t = unfinished_off rounds error f l after t

found_stuck : (handled : Handled) (found : Option StuckError) (error : StuckError) → Err error ≡ unless_stuck handled found →
    found ≡ Some error
found_stuck handled None error is = absurd (cc)
found_stuck handled (Some other) error is = cc

pub tries_off : (limit rounds : ℕ) (error : StuckError) → Implies (TriesToHandle limit rounds (Err error)) (LeavesOff error)
tries_off limit rounds error f l after t = go f.stuck refl t
  where
    go : (was : Option StuckError) → f.stuck ≡ was → MatchOption was (HandlesRound (round_limit limit) rounds (Err error) f l after)
        (λ other. StaysStuck (Err error) other f l after) → LeavesOff error f l after
    go None e (handled, found, is, t) =
        let end = counts_as (has_moved f t.mid) handled.end in
        let F : Option StuckError → Type 0 = λ o. CountsRound rounds end o t.mid t.back after in
        let off = counts_off rounds end error t.mid t.back after (subst F (found_stuck handled found error is) t.second) in
        (ends_later (Write offsets.IER 0) t.front t.back l t.whole off.0, off.1)
    go (Some other) e t =
        let same : Some other ≡ Some error = let both = t.0 in cc in
        (turns_off_ends f.driver l after.driver t.1.0, ap (λ (g : RingFields). g.stuck) t.1.1 ∙ (e ∙ same))

-- ---- found stuck for the first time: no byte moved, and it was the last round

-- a round that is found stuck counts for what it is, and it is the last
last_unfinished : (rounds : ℕ) (error : StuckError) (f : RingFields) (l : List Access) (after : RingFields) →
    CountsUnfinished rounds (Some error) f l after → (rounds ≤ suc f.rounds) × (after ≡ with_driver after.driver (with_stuck error f))
last_unfinished rounds error f l after t = go (nat_lt (suc f.rounds) rounds) refl t
  where
    go : (more : Bool) → nat_lt (suc f.rounds) rounds ≡ more →
        MatchBool more ((Some error ≡ None) × RingSets (with_rounds (suc f.rounds)) f l after) (LooksOnceMore (Some error) f l after) →
        (rounds ≤ suc f.rounds) × (after ≡ with_driver after.driver (with_stuck error f))
    go true e t = absurd (let e = t.0 in cc)
    go false e t = (grind (arith, nat_tests), t.second.1 ∙ ap (λ (g : RingFields). with_driver after.driver (with_stuck error g)) t.first.1)

last_round : (rounds : ℕ) (end : HandleEnd) (error : StuckError) (f : RingFields) (l : List Access) (after : RingFields) →
    CountsRound rounds end (Some error) f l after →
    (end ≢ Idle) × (rounds ≤ suc f.rounds) × (after ≡ with_driver after.driver (with_stuck error f))
last_round rounds Idle error f l after t = absurd (let e = t.0 in cc)
last_round rounds Unknown error f l after t =
    let last = last_unfinished rounds error f l after t in
    (λ e. absurd (cc), last.0, last.1)
last_round rounds Limit error f l after t =
    let last = last_unfinished rounds error f l after t in
    (λ e. absurd (cc), last.0, last.1)

pub tries_still : (limit rounds : ℕ) (error : StuckError) → Implies (TriesToHandle limit rounds (Err error)) (IsLastStill rounds)
tries_still limit rounds error f l after t none = go (subst M none t)
  where
    M : Option StuckError → Type 0
    M was = MatchOption was (HandlesRound (round_limit limit) rounds (Err error) f l after)
        (λ other. StaysStuck (Err error) other f l after)

    unmoved : (moved : Bool) (end : HandleEnd) → counts_as moved end ≢ Idle → moved ≡ false
    unmoved true end not_idle = absurd (not_idle refl)
    unmoved false end not_idle = refl

    go : HandlesRound (round_limit limit) rounds (Err error) f l after → (has_moved f after ≡ false) × (rounds ≤ suc f.rounds)
    go (handled, found, is, t) =
        let end = counts_as (has_moved f t.mid) handled.end in
        let F : Option StuckError → Type 0 = λ o. CountsRound rounds end o t.mid t.back after in
        let last = last_round rounds end error t.mid t.back after (subst F (found_stuck handled found error is) t.second) in
        let kept : t.mid.rounds ≡ f.rounds = handles_keep (round_limit limit) handled f t.front t.mid t.first in (
          ap (has_moved f) last.2 ∙ unmoved (has_moved f t.mid) handled.end last.0,
          rw kept at last.1,
        )

-- ---- one that is not

-- the last access read ISR, which showed that no interrupt is pending
abbrev EndsIdle : List Access → Type 0
EndsIdle l = (isr : ℕ) × (has isr ISR.INTERRUPT_STATUS.0 ≡ true) × EndsWith (Read offsets.ISR isr) l

idle_later : (front back whole : List Access) → whole ≡ front ++ back → EndsIdle back → EndsIdle whole
idle_later front back whole is e = (e.0, e.1, ends_later (Read offsets.ISR e.0) front back whole is e.2)

idle_before : (front back whole : List Access) → whole ≡ front ++ back → back ≡ [] → EndsIdle front → EndsIdle whole
idle_before front back whole is none e =
    (e.0, e.1, (e.2.0, is ∙ (ap (λ xs. front ++ xs) none ∙ (append-nil front ∙ e.2.1))))

stops_idle : (end : HandleEnd) → end ≡ Idle → (f : RingFields) (l : List Access) (after : RingFields) → Stops end f l after → EndsIdle l
stops_idle Idle e f l after ((isr, shown, idle, t), same) = (isr, idle, ([], t.0.is))
stops_idle Unknown e f l after t = absurd (cc)
stops_idle Limit e f l after t = absurd (cc)

none_after : (room : Bool) (end : HandleEnd) → end ≡ Idle → (f : RingFields) (l : List Access) (after : RingFields) →
    RetriggersUnlessIdle room end f l after → l ≡ []
none_after room Idle e f l after t = t.0
none_after room Unknown e f l after t = absurd (cc)
none_after room Limit e f l after t = absurd (cc)

handles_idle : (limit : ℕ) (handled : Handled) → handled.end ≡ Idle → (f : RingFields) (l : List Access) (after : RingFields) →
    Handles limit handled f l after → EndsIdle l
handles_idle limit handled e f l after (room, t) =
    let u = t.first.1 in
    idle_before t.front t.back l t.whole (none_after room handled.end e t.mid t.back after t.second)
    (idle_later u.front u.back t.front u.whole (stops_idle handled.end e u.mid u.back t.mid u.second))

abbrev not_found : Option StuckError
not_found = None

-- how the count goes on after a `handle`
abbrev GoesOn : (rounds before : ℕ) → (l : List Access) → RingFields → Type 0
GoesOn rounds before l after =
    ((after.rounds ≡ suc before) × (suc before < rounds)) ⊎ (EndsIdle l × (after.rounds ≡ 0))

unfinished_still : (rounds : ℕ) (before f : RingFields) (l : List Access) (after : RingFields) → CountsUnfinished rounds None f l after →
    has_moved before after ≡ has_moved before f
unfinished_still rounds before f l after t = go (nat_lt (suc f.rounds) rounds) t
  where
    go : (more : Bool) → MatchBool more ((not_found ≡ None) × RingSets (with_rounds (suc f.rounds)) f l after)
        (LooksOnceMore None f l after) → has_moved before after ≡ has_moved before f
    go true t = ap (has_moved before) t.1.1
    go false (shown, same) = ap (has_moved before) same

-- what is counted moves no byte
counted_still : (rounds : ℕ) (before f : RingFields) (end : HandleEnd) (l : List Access) (after : RingFields) →
    CountsRound rounds end None f l after → has_moved before after ≡ has_moved before f
counted_still rounds before f Idle l after t = ap (has_moved before) t.1.1
counted_still rounds before f Unknown l after t = unfinished_still rounds before f l after t
counted_still rounds before f Limit l after t = unfinished_still rounds before f l after t

unfinished_goes_on : (rounds : ℕ) (f : RingFields) (l : List Access) (after : RingFields) → CountsUnfinished rounds None f l after →
    GoesOn rounds f.rounds l after
unfinished_goes_on rounds f l after t = go (nat_lt (suc f.rounds) rounds) refl t
  where
    go : (more : Bool) → nat_lt (suc f.rounds) rounds ≡ more →
        MatchBool more ((not_found ≡ None) × RingSets (with_rounds (suc f.rounds)) f l after) (LooksOnceMore None f l after) →
        GoesOn rounds f.rounds l after
    go true e t = inl (ap (λ (g : RingFields). g.rounds) t.1.1, grind (arith, nat_tests))
    go false e ((isr, shown, idle, t), same) = inr ((isr, idle, ([], t.0.is)), ap (λ (g : RingFields). g.rounds) same)

found_none : (handled other : Handled) (found : Option StuckError) → Ok handled ≡ unless_stuck other found → found ≡ None
found_none handled other None is = refl
found_none handled other (Some error) is = absurd (cc)

pub tries_count : (limit rounds : ℕ) (handled : Handled) → Implies (TriesToHandle limit rounds (Ok handled)) (CountsOrIsIdle rounds)
tries_count limit rounds handled f l after t = go f.stuck t
  where
    as_law : has_moved f after ≡ false → GoesOn rounds f.rounds l after → CountsOrIsIdle rounds f l after
    as_law still (inl more) = inl (more.0, more.1, still)
    as_law still (inr idle) = inr (inr (idle.0.0, idle.0.1, idle.0.2, idle.1))

    later : (front back : List Access) (before : ℕ) → l ≡ front ++ back → before ≡ f.rounds → GoesOn rounds before back after →
        GoesOn rounds f.rounds l after
    later front back before is same (inl more) = inl (rw same at more)
    later front back before is same (inr idle) = inr (idle_later front back l is idle.0, idle.1)

    ends : (end : HandleEnd) (front back : List Access) (mid : RingFields) → l ≡ front ++ back → mid.rounds ≡ f.rounds →
        (end ≡ Idle → EndsIdle front) → CountsRound rounds end None mid back after → GoesOn rounds f.rounds l after
    ends Idle front back mid is same idle t =
        inr (idle_before front back l is t.1.0 (idle refl), ap (λ (g : RingFields). g.rounds) t.1.1)
    ends Unknown front back mid is same idle t = later front back mid.rounds is same (unfinished_goes_on rounds mid back after t)
    ends Limit front back mid is same idle t = later front back mid.rounds is same (unfinished_goes_on rounds mid back after t)

    -- a byte moved, or not
    counts : (other : Handled) (front back : List Access) (mid : RingFields) → l ≡ front ++ back →
        Handles (round_limit limit) other f front mid → (moved : Bool) → has_moved f mid ≡ moved →
        CountsRound rounds (counts_as moved other.end) None mid back after → CountsOrIsIdle rounds f l after
    counts other front back mid is first true e t =
        inr (inl (counted_still rounds f mid Idle back after t ∙ e, ap (λ (g : RingFields). g.rounds) t.1.1))
    counts other front back mid is first false e t =
        as_law (counted_still rounds f mid other.end back after t ∙ e)
        (ends other.end front back mid is (handles_keep (round_limit limit) other f front mid first)
        (λ idle. handles_idle (round_limit limit) other idle f front mid first) t)

    go : (was : Option StuckError) → MatchOption was (HandlesRound (round_limit limit) rounds (Ok handled) f l after)
        (λ error. StaysStuck (Ok handled) error f l after) → CountsOrIsIdle rounds f l after
    go None (other, found, is, t) =
        let F : Option StuckError → Type 0 = λ o. CountsSince rounds f other.end o t.mid t.back after in
        counts other t.front t.back t.mid t.whole t.first (has_moved f t.mid) refl (subst F (found_none handled other found is) t.second)
    go (Some error) t = absurd (let both = t.0 in cc)

-- ---- the calls

-- the chip was stuck before the call, or it was not
pub already_stuck : (limit rounds : ℕ) (error : StuckError) (f : RingFields) (l : List Access) (after : RingFields) → f.stuck ≡ Some error →
    OnDriver TurnsOff unchanged f l after → TriesToHandle limit rounds (Err error) f l after
already_stuck limit rounds error f l after is t =
    let M : Option StuckError → Type 0 = λ was. MatchOption was (HandlesRound (round_limit limit) rounds (Err error) f l after)
    (λ other. StaysStuck (Err error) other f l after) in
    subst M (sym is) (refl, t)

pub not_stuck : (limit rounds : ℕ) (result : Result Handled StuckError) (f : RingFields) (l : List Access) (after : RingFields) →
    f.stuck ≡ None → HandlesRound (round_limit limit) rounds result f l after → TriesToHandle limit rounds result f l after
not_stuck limit rounds result f l after is t =
    let M : Option StuckError → Type 0 = λ was. MatchOption was (HandlesRound (round_limit limit) rounds result f l after)
    (λ other. StaysStuck result other f l after) in
    subst M (sym is) t
