-- Marks of arrivals that are set, one by one.
use Rattle.std.proofs.Common.{◌≡◌, ◌≢◌, ℕ, ◌+◌, ◌≤◌, ◌<◌, Bool, true, false, nat_lt, nat_eq, List, [], ◌∷◌, ◌++◌, length, refl, arith, sym}
use Rattle.std.proofs.Common.{◌∙◌, slice_set, get_or-set_same, get_or-set_other}
use Rattle.std.proofs.lemmas.List.{length-set}
use Rattle.std.proofs.lemmas.Grind.{common_steps}
use Rattle.uart_events.specs.declared.event.ArrivalMark.{ArrivalMark}
use Rattle.uart_events.specs.declared.event.ArrivalMark.TheVariants.{Pending, Waiting}
use Rattle.uart_chip.specs.declared.receiver.Character.{Character}
use Rattle.uart_chip.specs.declared.receiver.Origin.{Origin}
use Rattle.uart_chip.specs.declared.receiver.Origin.TheVariants.{Arrived}
use Rattle.uart_chip.specs.Receiver.{mark_at, set_mark, is_unscheduled}
use Rattle.uart_chip.specs.Sound.{IsInQueue, AllInQueue, OtherOrigin, NoneIs, NoneHas, Distinct}
use Rattle.uart_chip.proofs.Lists.{each-append, each-front, each-back, each-weaker}

pub length-set_mark : (o : Origin) (m : ArrivalMark) (marks : List ArrivalMark) → length (set_mark o m marks) ≡ length marks
length-set_mark (Arrived k) m marks = length-set marks k m
length-set_mark _ m marks = refl

-- a mark that is set becomes nothing but that
pub mark_at-set_not : (marks : List ArrivalMark) (k : ℕ) (m other : ArrivalMark) (j : ℕ) → m ≢ other → mark_at marks j ≢ other →
    mark_at (slice_set marks k m) j ≢ other
mark_at-set_not marks k m other j new old = go (nat_eq j k) refl
  where
    inside : j ≡ k → (b : Bool) → nat_lt k (length marks) ≡ b → mark_at (slice_set marks k m) j ≢ other
    inside same true h =
        let within : k < length marks = grind (arith, common_steps) in
        rw (same, get_or-set_same marks k m Pending within) new
    inside same false h =
        let outside : length marks ≤ k = grind (arith, common_steps) in
        let still : slice_set marks k m ≡ marks = grind (arith, common_steps) in
        rw still old

    go : (b : Bool) → nat_eq j k ≡ b → mark_at (slice_set marks k m) j ≢ other
    go true g = let same : j ≡ k = grind arith in inside same (nat_lt k (length marks)) refl
    go false g = let apart : j ≢ k = grind arith in rw (get_or-set_other marks k j m Pending apart) old

pub mark_at-set_mark_not : (o : Origin) (m other : ArrivalMark) (marks : List ArrivalMark) (j : ℕ) → m ≢ other → mark_at marks j ≢ other →
    mark_at (set_mark o m marks) j ≢ other
mark_at-set_mark_not (Arrived k) m other marks j new old = mark_at-set_not marks k m other j new old
mark_at-set_mark_not _ m other marks j new old = old

-- ---- what waits

-- the numbers of those that wait are below those to come
pub none_to_come : (arrived : ℕ) (marks : List ArrivalMark) (missing : Bool) (queue : List Character) →
    AllInQueue arrived marks missing queue →
    NoneIs arrived queue
none_to_come arrived marks missing [] h = tt
none_to_come arrived marks missing (x ∷ xs) h = (other x.origin h.0, none_to_come arrived marks missing xs h.1)
  where
    other : (o : Origin) → IsInQueue arrived marks missing o → OtherOrigin arrived o
    other (Arrived k) h = omega (arith, h.0)
    other _ h = tt

-- another's mark is set
pub all_in_queue-set : (arrived : ℕ) (marks : List ArrivalMark) (missing : Bool) (k : ℕ) (m : ArrivalMark) (queue : List Character) →
    NoneIs k queue → AllInQueue arrived marks missing queue → AllInQueue arrived (slice_set marks k m) missing queue
all_in_queue-set arrived marks missing k m [] d h = tt
all_in_queue-set arrived marks missing k m (x ∷ xs) d h = (one x.origin d.0 h.0, all_in_queue-set arrived marks missing k m xs d.1 h.1)
  where
    one : (o : Origin) → OtherOrigin k o → IsInQueue arrived marks missing o → IsInQueue arrived (slice_set marks k m) missing o
    one (Arrived j) d h = (h.0, get_or-set_other marks k j m Pending d ∙ h.1)
    one _ d h = h

pub all_in_queue-set_mark : (arrived : ℕ) (marks : List ArrivalMark) (missing : Bool) (o : Origin) (m : ArrivalMark)
    (queue : List Character) →
    NoneHas o queue → AllInQueue arrived marks missing queue → AllInQueue arrived (set_mark o m marks) missing queue
all_in_queue-set_mark arrived marks missing (Arrived k) m queue d h = all_in_queue-set arrived marks missing k m queue d h
all_in_queue-set_mark arrived marks missing _ m queue d h = h

-- one more has arrived
pub all_in_queue-next : (arrived : ℕ) (marks : List ArrivalMark) (missing : Bool) (queue : List Character) →
    AllInQueue arrived marks missing queue → AllInQueue (arrived + 1) marks missing queue
all_in_queue-next arrived marks missing queue h =
    each-weaker (λ (x : Character). IsInQueue arrived marks missing x.origin)
    (λ (x : Character). IsInQueue (arrived + 1) marks missing x.origin)
    (λ x h. one x.origin h) queue h
  where
    one : (o : Origin) → IsInQueue arrived marks missing o → IsInQueue (arrived + 1) marks missing o
    one (Arrived j) h = (omega (arith, h.0), h.1)
    one _ h = h

-- an unscheduled character came, so none is lost since
pub all_in_queue-found : (arrived : ℕ) (marks : List ArrivalMark) (missing : Bool) (queue : List Character) →
    AllInQueue arrived marks missing queue → AllInQueue arrived marks false queue
all_in_queue-found arrived marks missing queue h =
    each-weaker (λ (x : Character). IsInQueue arrived marks missing x.origin) (λ (x : Character). IsInQueue arrived marks false x.origin)
    (λ x h. one x.origin h) queue h
  where
    one : (o : Origin) → IsInQueue arrived marks missing o → IsInQueue arrived marks false o
    one (Arrived j) h = h
    one _ h = refl

pub all_in_queue-append : (arrived : ℕ) (marks : List ArrivalMark) (missing : Bool) (xs ys : List Character) →
    AllInQueue arrived marks missing xs → AllInQueue arrived marks missing ys → AllInQueue arrived marks missing (xs ++ ys)
all_in_queue-append arrived marks missing xs ys h k =
    each-append (λ (x : Character). IsInQueue arrived marks missing x.origin) xs ys h k

-- ---- each once

pub none_is-append : (k : ℕ) (xs ys : List Character) → NoneIs k xs → NoneIs k ys → NoneIs k (xs ++ ys)
none_is-append k xs ys h j = each-append (λ (x : Character). OtherOrigin k x.origin) xs ys h j

pub none_is-front : (k : ℕ) (xs ys : List Character) → NoneIs k (xs ++ ys) → NoneIs k xs
none_is-front k xs ys h = each-front (λ (x : Character). OtherOrigin k x.origin) xs ys h

pub none_is-back : (k : ℕ) (xs ys : List Character) → NoneIs k (xs ++ ys) → NoneIs k ys
none_is-back k xs ys h = each-back (λ (x : Character). OtherOrigin k x.origin) xs ys h

-- a character with a number of its own is put last
pub distinct-next : (queue : List Character) (new : Character) (k : ℕ) → new.origin ≡ Arrived k → NoneIs k queue → Distinct queue →
    Distinct (queue ++ new ∷ [])
distinct-next [] new k o n d = (rw o tt, tt)
distinct-next (x ∷ xs) new k o n d = (more x.origin n.0 d.0, distinct-next xs new k o n.1 d.1)
  where
    more : (from : Origin) → OtherOrigin k from → NoneHas from xs → NoneHas from (xs ++ new ∷ [])
    more (Arrived j) h d = none_is-append j xs (new ∷ []) d (rw o (λ e. h (sym e)), tt)
    more _ h d = tt

-- an unscheduled character has no number
unscheduled-other : (k : ℕ) (o : Origin) → is_unscheduled o ≡ true → OtherOrigin k o
unscheduled-other k (Arrived j) s = absurd (cc)
unscheduled-other k _ s = tt

unscheduled-has : (o : Origin) (characters : List Character) → is_unscheduled o ≡ true → NoneHas o characters
unscheduled-has (Arrived j) characters s = absurd (cc)
unscheduled-has _ characters s = tt

-- an unscheduled character is put last
pub distinct-unscheduled : (queue : List Character) (new : Character) → is_unscheduled new.origin ≡ true → Distinct queue →
    Distinct (queue ++ new ∷ [])
distinct-unscheduled [] new o d = (unscheduled-has new.origin [] o, tt)
distinct-unscheduled (x ∷ xs) new o d = (more x.origin d.0, distinct-unscheduled xs new o d.1)
  where
    more : (from : Origin) → NoneHas from xs → NoneHas from (xs ++ new ∷ [])
    more (Arrived k) h = none_is-append k xs (new ∷ []) h (unscheduled-other k new.origin o, tt)
    more _ h = tt

-- ---- what the marks say of all numbers

-- no arrival from here on has come
abbrev pub ToCome : ℕ → List ArrivalMark → Type 0
ToCome arrived marks = (number : ℕ) → arrived ≤ number → mark_at marks number ≡ Pending

-- what arrived is not Pending
abbrev pub Settled : ℕ → List ArrivalMark → Type 0
Settled arrived marks = (number : ℕ) → number < arrived → mark_at marks number ≢ Pending

-- only these wait
abbrev pub NoOther : List Character → List ArrivalMark → Type 0
NoOther queue marks = (number : ℕ) → NoneIs number queue → mark_at marks number ≢ Waiting

pub to_come-next : (arrived : ℕ) (marks : List ArrivalMark) (m : ArrivalMark) → ToCome arrived marks →
    ToCome (arrived + 1) (slice_set marks arrived m)
to_come-next arrived marks m h k l =
    let apart : k ≢ arrived = omega arith in get_or-set_other marks arrived k m Pending apart ∙ h k (omega arith)

-- the mark of one that waits is set
pub to_come-set : (arrived : ℕ) (marks old : List ArrivalMark) (missing : Bool) (o : Origin) (m : ArrivalMark) →
    IsInQueue arrived old missing o → ToCome arrived marks → ToCome arrived (set_mark o m marks)
to_come-set arrived marks old missing (Arrived j) m w h k l =
    let apart : k ≢ j = omega (arith, w.0) in get_or-set_other marks j k m Pending apart ∙ h k l
to_come-set arrived marks old missing _ m w h k l = h k l

pub settled-next : (arrived : ℕ) (marks : List ArrivalMark) (m : ArrivalMark) → arrived < length marks → m ≢ Pending →
    Settled arrived marks → Settled (arrived + 1) (slice_set marks arrived m)
settled-next arrived marks m within new h k l = go (nat_eq k arrived) refl
  where
    go : (b : Bool) → nat_eq k arrived ≡ b → mark_at (slice_set marks arrived m) k ≢ Pending
    go true e = let same : k ≡ arrived = grind arith in rw (same, get_or-set_same marks arrived m Pending within) new
    go false e =
        let apart : k ≢ arrived = grind arith in let below : k < arrived = omega arith in
        rw (get_or-set_other marks arrived k m Pending apart) (h k below)

pub settled-set : (arrived : ℕ) (marks : List ArrivalMark) (o : Origin) (m : ArrivalMark) → m ≢ Pending → Settled arrived marks →
    Settled arrived (set_mark o m marks)
settled-set arrived marks o m new h k l = mark_at-set_mark_not o m Pending marks k new (h k l)

-- a mark is set that says that it does not wait
pub no_other-set : (queue : List Character) (marks : List ArrivalMark) (o : Origin) (m : ArrivalMark) → m ≢ Waiting → NoOther queue marks →
    NoOther queue (set_mark o m marks)
no_other-set queue marks o m new h k n = mark_at-set_mark_not o m Waiting marks k new (h k n)

-- the front is taken away, and its mark says so
pub no_other-rest : (front : Character) (others : List Character) (marks : List ArrivalMark) (m : ArrivalMark) → m ≢ Waiting →
    NoOther (front ∷ others) marks →
    NoOther others (set_mark front.origin m marks)
no_other-rest front others marks m new h k n = go front.origin (λ o. h k (o, n))
  where
    go : (o : Origin) → (OtherOrigin k o → mark_at marks k ≢ Waiting) → mark_at (set_mark o m marks) k ≢ Waiting
    go (Arrived j) h = at (nat_eq k j) refl
      where
        at : (b : Bool) → nat_eq k j ≡ b → mark_at (slice_set marks j m) k ≢ Waiting
        at true e = let same : k ≡ j = grind arith in rw same (own (nat_lt j (length marks)) refl)
          where
            own : (b : Bool) → nat_lt j (length marks) ≡ b → mark_at (slice_set marks j m) j ≢ Waiting
            own true l = let within : j < length marks = grind (arith, common_steps) in rw (get_or-set_same marks j m Pending within) new
            own false l =
                let outside : length marks ≤ j = grind (arith, common_steps) in
                let still : slice_set marks j m ≡ marks = grind (arith, common_steps) in
                let none : mark_at marks j ≡ Pending = grind (arith, common_steps) in
                rw (still, none) (λ e. cc)
        at false e = let apart : k ≢ j = grind arith in rw (get_or-set_other marks j k m Pending apart) (h (λ same. apart (sym same)))
    go _ h = h tt

-- a character is put last, and its mark says so
pub no_other-next : (queue : List Character) (new : Character) (marks : List ArrivalMark) (m : ArrivalMark) → NoOther queue marks →
    NoOther (queue ++ new ∷ []) (set_mark new.origin m marks)
no_other-next queue new marks m h k n = go new.origin (none_is-back k queue (new ∷ []) n).0
  where
    go : (o : Origin) → OtherOrigin k o → mark_at (set_mark o m marks) k ≢ Waiting
    go (Arrived j) apart = rw (get_or-set_other marks j k m Pending (λ e. apart (sym e))) (h k (none_is-front k queue (new ∷ []) n))
    go _ apart = h k (none_is-front k queue (new ∷ []) n)
