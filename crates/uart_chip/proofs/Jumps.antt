-- Ticks in jumps come to the same as ticks.
use Rattle.std.proofs.Common.{◌≡◌, ℕ, zero, suc, ◌+◌, ◌-◌, min, max, ◌≤◌, ◌<◌, Bool, true, false, not, ◌==◌, nat_lt, List, [], ◌∷◌, ◌++◌}
use Rattle.std.proofs.Common.{length}
use Rattle.std.proofs.Common.{Option, Some, None, refl, arith, zero-le, sym, ◌∙◌, ap, subst, if◌then◌else◌}
use Rattle.std.proofs.lemmas.Grind.{common_steps}
use Rattle.uart_chip.specs.declared.transmitter.Shifting.{Shifting}
use Rattle.uart_chip.specs.Transmitter as transmitter
use Rattle.uart_chip.specs.Transmitter.{TransmitterState, looped_byte, shift, refill}
use Rattle.uart_chip.specs.Receiver as receiver
use Rattle.uart_chip.specs.Receiver.{ReceiverState, grow_timeout}
use Rattle.uart_chip.specs.Chip.{ChipState, is_loopback, is_held_off, tick, ticks}
use Rattle.uart_chip.specs.Jumps.{next_move_of, next_move, left_after, place_after, count_down, count_up, skip, moves_of, moves}
use Rattle.uart_chip.specs.Jumps.{is_one, is_moving, jumps_in}

-- nothing moves within so many ticks
abbrev pub StillFor : ℕ → Option ℕ → Type 0
StillFor n None = Unit {0}
StillFor n (Some k) = n < k

still-less : (n : ℕ) (move : Option ℕ) → StillFor (suc n) move → StillFor n move
still-less n None h = tt
still-less n (Some k) h = omega arith

-- ---- while nothing moves

fewer : (n left : ℕ) → nat_lt 1 (left_after n left) ≡ true → left_after n left - 1 ≡ left_after (suc n) left
fewer n left e = grind (arith, common_steps)

no_fewer : (n left : ℕ) → nat_lt 1 (left_after n left) ≡ false → left_after n left ≡ left_after (suc n) left
no_fewer n left e = grind (arith, common_steps)

-- it is not done yet
not_done : (n left : ℕ) → suc n < max left 1 → nat_lt 1 (left_after n left) ≡ true
not_done n left h = grind (arith, common_steps)

-- it is done
is_done : (n left : ℕ) → max left 1 ≡ suc n → nat_lt 1 (left_after n left) ≡ false
is_done n left h = grind (arith, common_steps)

count_up-next : (n : ℕ) (r : ReceiverState) → grow_timeout (count_up n r) ≡ count_up (suc n) r
count_up-next zero r = refl
count_up-next (suc n) r = ap (λ (i : ℕ). record r { timeout_ticks = i }) (next r.timeout_ticks r.timeout_limit)
  where
    next : (i l : ℕ) → min (min (i + suc n) l + 1) l ≡ min (i + suc (suc n)) l
    next i l = omega arith

-- with this place and this queue
abbrev with_place : Option Shifting → List ℕ → TransmitterState → TransmitterState
with_place place queue t = record t { shift_register = place; queue = queue }

abbrev leaves : Bool → TransmitterState → Bool
leaves loopback t = if loopback then loopback else nat_lt (length t.wire) t.capacity

abbrev with_left : Shifting → ℕ → Option Shifting
with_left s left = Some (record { byte = s.byte; ticks_left = left })

tick-shifted : (loopback held_off : Bool) (t u : TransmitterState) → shift loopback t.shift_register t ≡ u →
    transmitter.tick loopback held_off t ≡ (if held_off then u else refill u.shift_register u.queue u)
tick-shifted loopback held_off t u e = ap (λ (v : TransmitterState). if held_off then v else refill v.shift_register v.queue v) e

either-same : (held_off : Bool) (u : TransmitterState) → (if held_off then u else u) ≡ u
either-same true u = refl
either-same false u = refl

still-tick : (loopback held_off : Bool) (n : ℕ) (place : Option Shifting) (queue : List ℕ) (t : TransmitterState) →
    StillFor (suc n) (next_move_of (leaves loopback t) (not held_off) place queue) →
    transmitter.tick loopback held_off (with_place (place_after n place) queue t) ≡ with_place (place_after (suc n) place) queue t
still-tick loopback held_off n None [] t h = either-same held_off (with_place None [] t)
still-tick loopback true n None (x ∷ xs) t h = refl
still-tick loopback false n None (x ∷ xs) t h = absurd (omega arith)
still-tick loopback held_off n (Some s) queue t h =
    go (nat_lt 1 (left_after n s.ticks_left)) refl loopback refl (nat_lt (length t.wire) t.capacity) refl
  where
    u : TransmitterState
    u = with_place (with_left s (left_after n s.ticks_left)) queue t

    go : (more : Bool) → nat_lt 1 (left_after n s.ticks_left) ≡ more → (b : Bool) → loopback ≡ b → (room : Bool) →
        nat_lt (length t.wire) t.capacity ≡ room →
        transmitter.tick loopback held_off (with_place (place_after n (Some s)) queue t) ≡
        with_place (place_after (suc n) (Some s)) queue t
    go true e b f room g =
        let v : TransmitterState = with_place (with_left s (left_after n s.ticks_left - 1)) queue t in
        tick-shifted loopback held_off u v (rw e refl) ∙
        (either-same held_off v ∙ ap (λ (k : ℕ). with_place (with_left s k) queue t) (fewer n s.ticks_left e))
    go false e true f room g = let k : suc n < max s.ticks_left 1 = rw f at h in absurd (grind (arith, not_done n s.ticks_left k))
    go false e false f true g = let k : suc n < max s.ticks_left 1 = rw (f, g) at h in absurd (grind (arith, not_done n s.ticks_left k))
    go false e false f false g =
        let v : TransmitterState = with_place (with_left s (left_after n s.ticks_left)) queue t in
        tick-shifted loopback held_off u v (rw (e, f, g) refl) ∙
        (either-same held_off v ∙ ap (λ (k : ℕ). with_place (with_left s k) queue t) (no_fewer n s.ticks_left e))

still-looped : (loopback may_enter : Bool) (n : ℕ) (place : Option Shifting) (queue : List ℕ) (t : TransmitterState) →
    StillFor (suc n) (next_move_of (leaves loopback t) may_enter place queue) →
    looped_byte loopback (place_after n place) ≡ None
still-looped false may_enter n place queue t h = refl
still-looped true may_enter n None queue t h = refl
still-looped true may_enter n (Some s) queue t h = rw (not_done n s.ticks_left h) refl

tick_skip : (n : ℕ) (c : ChipState) → StillFor (suc n) (next_move (is_loopback c.latches) (is_held_off c) c.transmitter) →
    tick (skip n c) ≡ skip (suc n) c
tick_skip n c h =
    let loopback : Bool = is_loopback c.latches in
    let held_off : Bool = is_held_off c in
    let t : TransmitterState = c.transmitter in
    let a = still-tick loopback held_off n t.shift_register t.queue t h in
    let b : receiver.tick c.fifo (looped_byte loopback (place_after n t.shift_register)) (count_up n c.receiver) ≡
    count_up (suc n) c.receiver =
    ap (λ looped. receiver.tick c.fifo looped (count_up n c.receiver))
    (still-looped loopback (not held_off) n t.shift_register t.queue t h) ∙
    count_up-next n c.receiver in
    ap (λ (u : TransmitterState). record c {
      transmitter = u;
      receiver = receiver.tick c.fifo (looped_byte loopback (place_after n t.shift_register)) (count_up n c.receiver);
    }) a ∙
    ap (λ (r : ReceiverState). record c { transmitter = count_down (suc n) t; receiver = r }) b

place-same : (place : Option Shifting) → place_after 0 place ≡ place
place-same None = refl
place-same (Some s) = ap (λ (k : ℕ). with_left s k) (same s.ticks_left)
  where
    same : (left : ℕ) → left_after 0 left ≡ left
    same left = grind (arith, common_steps)

skip-none : (c : ChipState) → skip 0 c ≡ c
skip-none c =
    ap (λ (place : Option Shifting). record c { transmitter = record c.transmitter { shift_register = place } })
    (place-same c.transmitter.shift_register)

-- ticks in which nothing moves
pub ticks_skip : (n : ℕ) (c : ChipState) → StillFor n (next_move (is_loopback c.latches) (is_held_off c) c.transmitter) →
    ticks n c ≡ skip n c
ticks_skip zero c h =
    ap (λ (place : Option Shifting). record c { transmitter = record c.transmitter { shift_register = place } })
    (sym (place-same c.transmitter.shift_register))
ticks_skip (suc n) c h = ap tick (ticks_skip n c (still-less n _ h)) ∙ tick_skip n c h

-- ---- when something moves

pub ticks-add : (j k : ℕ) (c : ChipState) → ticks (j + k) c ≡ ticks j (ticks k c)
ticks-add zero k c = ap (λ (n : ℕ). ticks n c) (no_more k)
  where
    no_more : (k : ℕ) → 0 + k ≡ k
    no_more k = omega arith
ticks-add (suc j) k c = ap (λ (n : ℕ). ticks n c) (one_more j k) ∙ ap tick (ticks-add j k c)
  where
    one_more : (j k : ℕ) → suc j + k ≡ suc (j + k)
    one_more j k = omega arith

-- how many more times a character may leave the shift register or enter it: while the transmitter is held off none enters
abbrev moves_from : (held_off : Bool) → TransmitterState → ℕ
moves_from held_off t = moves_of t.shift_register (if held_off then [] else t.queue)

-- of a chip
abbrev pub moves_in : ChipState → ℕ
moves_in c = moves_from (is_held_off c) c.transmitter

-- they are at most as many as if it was not held off
pub moves_in-most : (c : ChipState) → moves_in c ≤ moves c.transmitter
moves_in-most c = go (is_held_off c) c.transmitter.shift_register c.transmitter.queue
  where
    go : (b : Bool) (place : Option Shifting) (queue : List ℕ) → moves_of place (if b then [] else queue) ≤ moves_of place queue
    go false place queue = omega arith
    go true None queue = zero-le
    go true (Some s) queue = omega arith

freed : (held_off : Bool) (queue : List ℕ) (t : TransmitterState) →
    moves_from held_off (let u = with_place None queue t in if held_off then u else refill None queue u) ≡
    length (if held_off then [] else queue)
freed false (x ∷ y ∷ xs) t = refl
freed _ _ t = refl

moved-tick : (loopback held_off : Bool) (k : ℕ) (place : Option Shifting) (queue : List ℕ) (t : TransmitterState) →
    next_move_of (leaves loopback t) (not held_off) place queue ≡ Some (suc k) →
    suc (moves_from held_off (transmitter.tick loopback held_off (with_place (place_after k place) queue t))) ≡
    moves_from held_off (with_place place queue t)
moved-tick loopback held_off k None [] t h = absurd (cc)
moved-tick loopback true k None (x ∷ xs) t h = absurd (cc)
moved-tick loopback false k None (x ∷ []) t h = refl
moved-tick loopback false k None (x ∷ y ∷ xs) t h = refl
moved-tick loopback held_off k (Some s) queue t h = go loopback refl (nat_lt (length t.wire) t.capacity) refl
  where
    some-same : (i j : ℕ) → Some i ≡ Some j → i ≡ j
    some-same i j e = cc

    v : TransmitterState
    v = with_place (with_left s (left_after k s.ticks_left)) queue t

    go : (b : Bool) → loopback ≡ b → (room : Bool) → nat_lt (length t.wire) t.capacity ≡ room →
        suc (moves_from held_off (transmitter.tick loopback held_off (with_place (place_after k (Some s)) queue t))) ≡
        suc (length (if held_off then [] else queue))
    go true f room g =
        let d : nat_lt 1 (left_after k s.ticks_left) ≡ false = is_done k s.ticks_left (some-same _ _ (rw f at h)) in
        ap (λ (w : TransmitterState). suc (moves_from held_off w))
        (tick-shifted loopback held_off v (with_place None queue t) (rw (d, f) refl)) ∙
        ap suc (freed held_off queue t)
    go false f true g =
        let d : nat_lt 1 (left_after k s.ticks_left) ≡ false = is_done k s.ticks_left (some-same _ _ (rw (f, g) at h)) in
        let u : TransmitterState = record t { wire = t.wire ++ s.byte ∷ [] } in
        ap (λ (w : TransmitterState). suc (moves_from held_off w))
        (tick-shifted loopback held_off v (with_place None queue u) (rw (d, f, g) refl)) ∙
        ap suc (freed held_off queue u)
    go false f false g = let none : None ≡ Some (suc k) = rw (f, g) at h in absurd (cc)

-- ---- jumps

-- no character moves in the tick after j still ones, if it is still too
still-unmoving : (j : ℕ) (c : ChipState) → StillFor (suc j) (next_move (is_loopback c.latches) (is_held_off c) c.transmitter) →
    is_moving (skip j c) ≡ false
still-unmoving j c h =
    go (leaves (is_loopback c.latches) c.transmitter) (is_held_off c) c.transmitter.shift_register c.transmitter.queue h
  where
    still-left : (left : ℕ) → suc j < max left 1 → (max (left_after j left) 1 == 1) ≡ false
    still-left left h = grind (arith, common_steps)

    go : (b held_off : Bool) (place : Option Shifting) (queue : List ℕ) → StillFor (suc j) (next_move_of b (not held_off) place queue) →
        is_one (next_move_of b (not held_off) (place_after j place) queue) ≡ false
    go b held_off None [] h = refl
    go b true None (x ∷ xs) h = refl
    go b false None (x ∷ xs) h = absurd (omega arith)
    go true held_off (Some s) queue h = still-left s.ticks_left h
    go false held_off (Some s) queue h = refl

-- a character moves in the tick after k still ones
moving : (k : ℕ) (c : ChipState) → next_move (is_loopback c.latches) (is_held_off c) c.transmitter ≡ Some (suc k) →
    is_moving (skip k c) ≡ true
moving k c h =
    go (leaves (is_loopback c.latches) c.transmitter) (is_held_off c) c.transmitter.shift_register c.transmitter.queue h
  where
    some-same : (i j : ℕ) → Some i ≡ Some j → i ≡ j
    some-same i j e = cc

    last : (left : ℕ) → max left 1 ≡ suc k → (max (left_after k left) 1 == 1) ≡ true
    last left h = grind (arith, common_steps)

    go : (b held_off : Bool) (place : Option Shifting) (queue : List ℕ) → next_move_of b (not held_off) place queue ≡ Some (suc k) →
        is_one (next_move_of b (not held_off) (place_after k place) queue) ≡ true
    go b held_off None [] e = absurd (cc)
    go b true None (x ∷ xs) e = absurd (cc)
    go b false None (x ∷ xs) e = refl
    go true held_off (Some s) queue e = last s.ticks_left (some-same _ _ e)
    go false held_off (Some s) queue e = absurd (cc)

-- a tick in which no character moves ends no jump, and one in which a character moves does
goes-on : (b : Bool) (later : ℕ) → b ≡ false → 1 ≤ later → (if b then suc later else max 1 later) ≡ later
goes-on true later e least = absurd (cc)
goes-on false later e least = omega (arith, least)

ends : (b : Bool) (later : ℕ) → b ≡ true → (if b then suc later else max 1 later) ≡ suc later
ends true later e = refl
ends false later e = absurd (cc)

ends-last : (b : Bool) → (if b then suc 0 else max 1 0) ≡ 1
ends-last true = refl
ends-last false = refl

at-least : (n : ℕ) (c : ChipState) → 0 < n → 1 ≤ jumps_in n c
at-least zero c some = absurd (omega arith)
at-least (suc n) c some = go (is_moving c) (jumps_in n (tick c))
  where
    go : (b : Bool) (later : ℕ) → 1 ≤ (if b then suc later else max 1 later)
    go true later = omega arith
    go false later = omega arith

none-first : (n : ℕ) → 0 + n ≡ n
none-first n = omega arith

still-tick-jumps : (n : ℕ) (c d : ChipState) → 0 < n → is_moving c ≡ false → tick c ≡ d → jumps_in (suc n) c ≡ jumps_in n d
still-tick-jumps n c d some e f =
    goes-on (is_moving c) (jumps_in n (tick c)) e (at-least n (tick c) some) ∙ ap (λ (x : ChipState). jumps_in n x) f

jumps-still : (k j n : ℕ) (c : ChipState) → StillFor (j + k) (next_move (is_loopback c.latches) (is_held_off c) c.transmitter) →
    jumps_in (k + suc n) (skip j c) ≡ jumps_in (suc n) (skip (j + k) c)
jumps-still zero j n c h =
    ap (λ (m : ℕ). jumps_in m (skip j c)) (none-first (suc n)) ∙ ap (λ (i : ℕ). jumps_in (suc n) (skip i c)) (sym (none_more j))
  where
    none_more : (j : ℕ) → j + 0 ≡ j
    none_more j = omega arith
jumps-still (suc k) j n c h =
    ap (λ (m : ℕ). jumps_in m (skip j c)) (one_more k (suc n)) ∙
    (still-tick-jumps (k + suc n) (skip j c) (skip (suc j) c) (omega arith) (still-unmoving j c (still h)) (tick_skip j c (still h)) ∙
    (jumps-still k (suc j) n c (subst (λ (i : ℕ). StillFor i (next_move (is_loopback c.latches) (is_held_off c) c.transmitter))
    (moved j k) h) ∙
    ap (λ (i : ℕ). jumps_in (suc n) (skip i c)) (sym (moved j k))))
  where
    one_more : (k n : ℕ) → suc k + n ≡ suc (k + n)
    one_more k n = omega arith

    fewer-still : (i m : ℕ) (move : Option ℕ) → i ≤ m → StillFor m move → StillFor i move
    fewer-still i m None le h = tt
    fewer-still i m (Some x) le h = omega (arith, le, h)

    still : StillFor (j + suc k) (next_move (is_loopback c.latches) (is_held_off c) c.transmitter) →
        StillFor (suc j) (next_move (is_loopback c.latches) (is_held_off c) c.transmitter)
    still h = fewer-still (suc j) (j + suc k) _ (omega arith) h

    moved : (j k : ℕ) → j + suc k ≡ suc j + k
    moved j k = omega arith

-- still ticks begin a jump, and end none
still-first : (k n : ℕ) (c : ChipState) → StillFor k (next_move (is_loopback c.latches) (is_held_off c) c.transmitter) →
    jumps_in (k + suc n) c ≡ jumps_in (suc n) (skip k c)
still-first k n c h =
    ap (λ (d : ChipState). jumps_in (k + suc n) d) (sym (skip-none c)) ∙
    (jumps-still k 0 n c (subst (λ (i : ℕ). StillFor i (next_move (is_loopback c.latches) (is_held_off c) c.transmitter))
    (sym (none-first k)) h) ∙
    ap (λ (i : ℕ). jumps_in (suc n) (skip i c)) (none-first k))

-- how many jumps there may be for so many ticks
abbrev pub jumps_left : ℕ → ChipState → ℕ
jumps_left zero c = 0
jumps_left (suc n) c = suc (moves_in c)

-- after a jump so many ticks are left, and one jump less
pub record IsTurn (left : ℕ) (c : ChipState) (left_after : ℕ) (d : ChipState) : Type 0 where
  pub same : ticks left_after d ≡ ticks left c
  pub fewer : jumps_left left_after d + 1 ≤ jumps_left left c
  pub counted : jumps_in left_after d + 1 ≡ jumps_in left c

jumps-most : (n : ℕ) (c : ChipState) → jumps_left n c ≤ suc (moves_in c)
jumps-most zero c = omega arith
jumps-most (suc n) c = omega arith

jumps-some : (n : ℕ) (c : ChipState) → 0 < n → jumps_left n c ≡ suc (moves_in c)
jumps-some zero c h = absurd (omega arith)
jumps-some (suc n) c h = refl

-- of a whole loop
pub jumps-first : (n : ℕ) (c : ChipState) → jumps_left n c ≤ moves c.transmitter + 1
jumps-first n c = let a = jumps-most n c in let b = moves_in-most c in omega (arith, a, b)

-- something moves after k more ticks and one
goes_after : (left k : ℕ) (c : ChipState) → next_move (is_loopback c.latches) (is_held_off c) c.transmitter ≡ Some (suc k) → suc k ≤ left →
    IsTurn left c (left - suc k) (tick (skip k c))
goes_after left k c h le = record { same = same; fewer = fewer; counted = counted }
  where
    loopback : Bool
    loopback = is_loopback c.latches

    still : (move : Option ℕ) → move ≡ Some (suc k) → StillFor k move
    still move e = rw e (omega arith)

    whole : (left k : ℕ) → suc k ≤ left → left - suc k + suc k ≡ left
    whole left k le = omega arith

    same : ticks (left - suc k) (tick (skip k c)) ≡ ticks left c
    same =
        ap (λ (d : ChipState). ticks (left - suc k) (tick d)) (sym (ticks_skip k c (still _ h))) ∙
        (sym (ticks-add (left - suc k) (suc k) c) ∙ ap (λ (n : ℕ). ticks n c) (whole left k le))

    fewer : jumps_left (left - suc k) (tick (skip k c)) + 1 ≤ jumps_left left c
    fewer =
        let a = moved-tick loopback (is_held_off c) k c.transmitter.shift_register c.transmitter.queue c.transmitter h in
        let b = jumps-most (left - suc k) (tick (skip k c)) in
        let d = jumps-some left c (omega arith) in
        omega (arith, a, b, d)

    split : (left k : ℕ) → suc k ≤ left → k + suc (left - suc k) ≡ left
    split left k le = omega arith

    plus_one : (i : ℕ) → i + 1 ≡ suc i
    plus_one i = omega arith

    counted : jumps_in (left - suc k) (tick (skip k c)) + 1 ≡ jumps_in left c
    counted =
        plus_one (jumps_in (left - suc k) (tick (skip k c))) ∙
        (sym (ends (is_moving (skip k c)) (jumps_in (left - suc k) (tick (skip k c))) (moving k c h)) ∙
        (sym (still-first k (left - suc k) c (still _ h)) ∙ ap (λ (n : ℕ). jumps_in n c) (split left k le)))

-- something moves after k ticks
pub goes_on : (left k : ℕ) (c d e : ChipState) → next_move (is_loopback c.latches) (is_held_off c) c.transmitter ≡ Some k → 1 ≤ k →
    k ≤ left →
    d ≡ skip (k - 1) c → e ≡ tick d → IsTurn left c (left - k) e
goes_on left zero c d e h few le p q = absurd (omega arith)
goes_on left (suc k) c d e h few le p q =
    let one : suc k - 1 ≡ k = omega arith in
    let here : e ≡ tick (skip k c) = q ∙ ap tick (p ∙ ap (λ (n : ℕ). skip n c) one) in
    subst (λ (e : ChipState). IsTurn left c (left - suc k) e) (sym here) (goes_after left k c h le)

one-jump : (left : ℕ) (c : ChipState) → 0 < left → StillFor left (next_move (is_loopback c.latches) (is_held_off c) c.transmitter) →
    jumps_in left c ≡ 1
one-jump zero c some still = absurd (omega arith)
one-jump (suc m) c some still =
    ap (λ (n : ℕ). jumps_in n c) (last m) ∙ (still-first m 0 c (still-less m _ still) ∙ ends-last (is_moving (skip m c)))
  where
    last : (m : ℕ) → suc m ≡ m + suc 0
    last m = omega arith

-- nothing moves
pub stays : (left : ℕ) (c d : ChipState) → 0 < left → StillFor left (next_move (is_loopback c.latches) (is_held_off c) c.transmitter) →
    d ≡ skip left c →
    IsTurn left c 0 d
stays left c d some still p =
    rw p (record {
      same = sym (ticks_skip left c still);
      fewer = let e = jumps-some left c some in omega (arith, e);
      counted = sym (one-jump left c some still);
    })

-- ---- a jump of the loop, as the code sees it

pub seen : (a b c d : Bool) (t u : TransmitterState) (move : Option ℕ) → a ≡ b → c ≡ d → t ≡ u → move ≡ next_move a c t →
    next_move b d u ≡ move
seen a b c d t u move e f g h =
    sym (h ∙ (ap (λ (x : Bool). next_move x c t) e ∙ (ap (λ (x : Bool). next_move b x t) f ∙
    ap (λ (v : TransmitterState). next_move b d v) g)))

pub at_least_one : (loopback held_off : Bool) (t : TransmitterState) (k : ℕ) → next_move loopback held_off t ≡ Some k → 1 ≤ k
at_least_one loopback held_off t k h = go (leaves loopback t) (not held_off) t.shift_register t.queue h
  where
    some : (n k : ℕ) → 1 ≤ n → Some n ≡ Some k → 1 ≤ k
    some n k le e = let f : n ≡ k = cc in omega arith

    go : (b may_enter : Bool) (place : Option Shifting) (queue : List ℕ) → next_move_of b may_enter place queue ≡ Some k → 1 ≤ k
    go b may_enter None [] e = absurd (cc)
    go b true None (x ∷ xs) e = some 1 k (omega arith) e
    go b false None (x ∷ xs) e = absurd (cc)
    go true may_enter (Some s) queue e = some (max s.ticks_left 1) k (omega arith) e
    go false may_enter (Some s) queue e = absurd (cc)

pub still_some : (left k : ℕ) (move : Option ℕ) → move ≡ Some k → left < k → StillFor left move
still_some left k move e h = rw e h

pub still_none : (left : ℕ) (move : Option ℕ) → move ≡ None → StillFor left move
still_none left move e = rw e tt
