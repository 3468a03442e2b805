-- Bytes that wait to be sent, and those of them that may be sent.
use Rattle.std.proofs.Common.{◌≡◌, ◌≤◌, ◌-◌, ◌+◌, ◌<◌, ℕ, zero, suc, Bool, true, false, List, [], ◌∷◌, ◌++◌, length}
use Rattle.std.proofs.Common.{take, drop, Option, Some, None, is_some, refl, arith, sym, ◌∙◌, ap}
use Rattle.std.proofs.Common.{take-append-drop, length-append, length-drop}
use Rattle.std.proofs.lemmas.Bool.{false≢true}
use Rattle.std.specs.Prelude.{option_to_list}
use Rattle.uart_ring.specs.declared.ring.storm.StuckError.{StuckError}
use Rattle.uart_ring.specs.Ring.{RingFields, allowed, unless_held, sendable, waiting, without_sent, urgent_left, cleared}
use Rattle.uart_ring.specs.Lossless.{without_dropped}

-- nothing was sent
unsent : (urgent : Option ℕ) (items : List ℕ) →
    option_to_list (urgent_left 0 urgent) ++ drop (0 - length (option_to_list urgent)) items ≡ option_to_list urgent ++ items
unsent None items = refl
unsent (Some byte) items = refl

-- what is sent are the first of the bytes that wait, and the others still wait
sent_first : (stuck : Option StuckError) (held : Bool) (urgent : Option ℕ) (items : List ℕ) (sent : ℕ) →
    sent ≤ length (allowed stuck held urgent items) →
    take sent (allowed stuck held urgent items) ++
    (option_to_list (urgent_left sent urgent) ++ drop (sent - length (option_to_list urgent)) items) ≡ option_to_list urgent ++ items
sent_first (Some error) held urgent items zero few = unsent urgent items
sent_first (Some error) held urgent items (suc n) few = absurd (omega (arith, few))
sent_first None true None items zero few = refl
sent_first None true None items (suc n) few = absurd (omega (arith, few))
sent_first None true (Some byte) items zero few = refl
sent_first None true (Some byte) items (suc n) few =
    let one : n ≡ 0 = omega (arith, few) in
    rw one refl
sent_first None false None items zero few = refl
sent_first None false None items (suc n) few =
    let all : suc n - 0 ≡ suc n = omega arith in
    ap (λ k. take (suc n) items ++ drop k items) all ∙ take-append-drop (suc n) items
sent_first None false (Some byte) items zero few = refl
sent_first None false (Some byte) items (suc n) few =
    let rest : suc n - 1 ≡ n = omega arith in
    ap (λ k. byte ∷ (take n items ++ drop k items)) rest ∙ ap (λ xs. byte ∷ xs) (take-append-drop n items)

pub waiting_sent : (f : RingFields) (sent : ℕ) → sent ≤ length (sendable f) →
    take sent (sendable f) ++ waiting (without_sent sent f) ≡ waiting f
waiting_sent f sent few = sent_first f.stuck f.is_held f.urgent f.transmit.items sent few

-- of those that may be sent no more are left
fewer : (stuck : Option StuckError) (held : Bool) (urgent : Option ℕ) (items : List ℕ) (sent k : ℕ) →
    length (allowed stuck held (urgent_left sent urgent) (drop k items)) ≤ length (allowed stuck held urgent items)
fewer (Some error) held urgent items sent k = omega arith
fewer None held urgent items sent k =
    let some : length (option_to_list (urgent_left sent urgent)) ≤ length (option_to_list urgent) = urgents sent urgent in
    omega (
      arith,
      some,
      length-append (option_to_list (urgent_left sent urgent)) (unless_held held (drop k items)),
      length-append (option_to_list urgent) (unless_held held items),
      rings held,
    )
  where
    urgents : (sent : ℕ) (urgent : Option ℕ) → length (option_to_list (urgent_left sent urgent)) ≤ length (option_to_list urgent)
    urgents zero urgent = omega arith
    urgents (suc n) urgent = omega arith

    rings : (held : Bool) → length (unless_held held (drop k items)) ≤ length (unless_held held items)
    rings true = omega arith
    rings false = omega (arith, length-drop k items)

pub fewer_sendable : (f : RingFields) (sent : ℕ) → length (sendable (without_sent sent f)) ≤ length (sendable f)
fewer_sendable f sent =
    fewer f.stuck f.is_held f.urgent f.transmit.items sent (sent - length (option_to_list f.urgent))

-- those that are sent of the ring are in it
in_ring : (stuck : Option StuckError) (held : Bool) (urgent : Option ℕ) (items : List ℕ) (sent : ℕ) →
    sent ≤ length (allowed stuck held urgent items) → sent - length (option_to_list urgent) ≤ length items
in_ring (Some error) held urgent items sent few = omega (arith, few)
in_ring None true urgent items sent few =
    omega (arith, few, length-append (option_to_list urgent) (unless_held true items))
in_ring None false urgent items sent few =
    omega (arith, few, length-append (option_to_list urgent) (unless_held false items))

pub sent_in_ring : (f : RingFields) (sent : ℕ) → sent ≤ length (sendable f) →
    sent - length (option_to_list f.urgent) ≤ length f.transmit.items
sent_in_ring f sent few = in_ring f.stuck f.is_held f.urgent f.transmit.items sent few

-- the urgent byte is left if the ring is emptied of all its bytes
pub cleared_left : (urgent : Option ℕ) (items : List ℕ) →
    option_to_list urgent ++ [] ≡ without_dropped (length items) (option_to_list urgent ++ items)
cleared_left None items =
    let none : length items - length items ≡ 0 = omega arith in
    sym (ap (λ k. take k items) none)
cleared_left (Some byte) items =
    let one : suc (length items) - length items ≡ 1 = omega arith in
    sym (ap (λ k. take k (byte ∷ items)) one)

-- nothing may be sent while the chip is stuck, or if nothing waits
pub none_stuck : (f : RingFields) (error : StuckError) → f.stuck ≡ Some error → sendable f ≡ []
none_stuck f error is = ap (λ s. allowed s f.is_held f.urgent f.transmit.items) is

pub none_if_stuck : (stuck : Option StuckError) (held : Bool) (urgent : Option ℕ) (items : List ℕ) → is_some stuck ≡ true →
    allowed stuck held urgent items ≡ []
none_if_stuck (Some error) held urgent items is = refl
none_if_stuck None held urgent items is = absurd (cc (is))

none_allowed : (stuck : Option StuckError) (held : Bool) (urgent : Option ℕ) (items : List ℕ) → option_to_list urgent ++ items ≡ [] →
    allowed stuck held urgent items ≡ []
none_allowed (Some error) held urgent items e = refl
none_allowed None held (Some byte) items e = absurd (cc)
none_allowed None true None items e = refl
none_allowed None false None items e = e

pub none_waiting : (f : RingFields) → waiting f ≡ [] → sendable f ≡ []
none_waiting f e = none_allowed f.stuck f.is_held f.urgent f.transmit.items e

-- a hold leaves fewer bytes that may be sent
held_none : (stuck : Option StuckError) (held : Bool) (urgent : Option ℕ) (items : List ℕ) → allowed stuck held urgent items ≡ [] →
    allowed stuck true urgent items ≡ []
held_none (Some error) held urgent items e = refl
held_none None held (Some byte) items e = absurd (cc)
held_none None held None items e = refl

pub hold_none : (f : RingFields) → sendable f ≡ [] → allowed f.stuck true f.urgent f.transmit.items ≡ []
hold_none f e = held_none f.stuck f.is_held f.urgent f.transmit.items e

-- and so does an emptied ring
emptied_none : (stuck : Option StuckError) (held : Bool) (urgent : Option ℕ) (items : List ℕ) → allowed stuck held urgent items ≡ [] →
    allowed stuck held urgent [] ≡ []
emptied_none (Some error) held urgent items e = refl
emptied_none None held (Some byte) items e = absurd (cc)
emptied_none None true None items e = refl
emptied_none None false None items e = refl

pub clear_none : (f : RingFields) → sendable f ≡ [] → sendable (cleared f) ≡ []
clear_none f e = emptied_none f.stuck f.is_held f.urgent f.transmit.items e

-- ---- as the code looks at them

pub allowed_stuck : (stuck : Option StuckError) (held : Bool) (urgent : Option ℕ) (items : List ℕ) → true ≡ is_some stuck →
    allowed stuck held urgent items ≡ []
allowed_stuck (Some error) held urgent items is = refl
allowed_stuck None held urgent items is = absurd (false≢true (sym is))

pub allowed_not_stuck : (stuck : Option StuckError) (held : Bool) (urgent : Option ℕ) (items : List ℕ) → false ≡ is_some stuck →
    allowed stuck held urgent items ≡ option_to_list urgent ++ unless_held held items
allowed_not_stuck (Some error) held urgent items is = absurd (false≢true is)
allowed_not_stuck None held urgent items is = refl

-- a byte was put into the first slot, and others behind it
pub put_first : (byte k : ℕ) (items slots tail : List ℕ) → 0 < length slots → tail ≡ take k items ++ drop k (drop 1 slots) →
    byte ∷ tail ≡ take (1 + k) (byte ∷ items) ++ drop (1 + k) slots
put_first byte k items [] tail some is = absurd (omega (arith, some))
put_first byte k items (slot ∷ slots) tail some is =
    let one : 1 + k ≡ suc k = omega arith in
    ap (λ xs. byte ∷ xs) is ∙ ap (λ n. take n (byte ∷ items) ++ drop n (slot ∷ slots)) (sym one)
