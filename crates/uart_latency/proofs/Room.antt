-- The receive ring has room for a whole FIFO, if `take` comes often enough; and the two tables of trigger levels are the same.
use Rattle.uart_latency.proofs.Names.{◌≡◌, ℕ, ◌+◌, ◌≤◌, Bool, true, false, List, [], ◌∷◌, ◌++◌, length, length-append, refl, ap, arith}
use Rattle.uart_latency.proofs.Names.{filter, characters_at, FifoTriggerLevel, One, FifoSize, Sixteen, ThirtyTwo, SixtyFour}
use Rattle.uart_latency.proofs.Names.{OneHundredTwentyEight, TwoHundredFiftySix, Character, entered, kept, stands, waiting, MachineState}
use Rattle.uart_latency.proofs.Names.{characters_of, ring_fields, free, OwnConserves, gone, to_take, RingState, RingLink, ring_machine}
use Rattle.std.proofs.lemmas.List.{length-map}

-- ---- the receive ring

some_of : (p : Character → Bool) (xs : List Character) → length (filter p xs) ≤ length xs
some_of p [] = omega arith
some_of p (x ∷ xs) = go (p x) refl (some_of p xs)
  where
    go : (b : Bool) → p x ≡ b → length (filter p xs) ≤ length xs → length (filter p (x ∷ xs)) ≤ length (x ∷ xs)
    go true e less = rw e (omega (arith, less))
    go false e less = rw e (omega (arith, less))

kept_most : (m n : MachineState) → length (kept m n) ≤ length (entered m n)
kept_most m n =
    let all = filter (stands n.chip.receiver) (entered m n) in
    let less = some_of (stands n.chip.receiver) (entered m n) in
    let same = length-map all (λ (character : Character). character.byte) in
    omega (arith, less, same)

pub has_room : (s t : RingState) (links : List RingLink) (count : ℕ) → OwnConserves s links t →
    length (to_take s) + length (entered (ring_machine s) (ring_machine t)) + count ≤ (ring_fields t).receive.capacity →
    count ≤ free (ring_fields t).receive
has_room s t links count conserves few =
    let all = ap length conserves.kept in
    let first = length-append (gone links) (to_take t ++ waiting (ring_machine t)) in
    let second = length-append (to_take t) (waiting (ring_machine t)) in
    let others = length-append (to_take s) (kept (ring_machine s) (ring_machine t)) in
    let most = kept_most (ring_machine s) (ring_machine t) in
    omega (arith, all, first, second, others, most, few)

-- ---- trigger levels

pub same_levels : (size : FifoSize) (level : FifoTriggerLevel) → characters_at size level ≡ characters_of size level
same_levels Sixteen One = refl
same_levels ThirtyTwo One = refl
same_levels SixtyFour One = refl
same_levels OneHundredTwentyEight One = refl
same_levels TwoHundredFiftySix One = refl
same_levels _ _ = refl
