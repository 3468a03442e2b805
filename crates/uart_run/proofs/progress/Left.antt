-- With room on the wire, or in loopback, each tick brings the transmitter nearer to its end.
use Rattle.uart_run.proofs.Names.{◌≡◌, ℕ, suc, ◌+◌, ◌-◌, ◌*◌, ◌≤◌, ◌<◌, Bool, true, false, nat_lt, List, [], ◌∷◌, ◌++◌, length}
use Rattle.uart_run.proofs.Names.{length-append, Option, Some, None, refl, arith, sym, ◌∙◌, ap, subst, mul-suc, mul_comm, suc-mul}
use Rattle.uart_run.proofs.Names.{common_steps, characters, Shifting, TransmitterState, shift, refill, out, ChipState, IsTicking}
use Rattle.uart_run.proofs.Names.{IsSoundTransmitter, IsSoundChip, room_within, left_of, left, most_held}
use Rattle.uart_chip.specs.Transmitter.{tick}

-- from t to u the end came nearer by at least so many ticks, and nothing was added to what is to go out
pub record Nearer (least : ℕ) (t u : TransmitterState) : Type 0 where
  pub fewer : left u ≤ left t - least
  pub no_longer : length (out u) ≤ length (out t)
  pub capacity : u.capacity ≡ t.capacity
  pub char_ticks : u.char_ticks ≡ t.char_ticks

pub nearer-refl : (t : TransmitterState) → Nearer 0 t t
nearer-refl t = record { fewer = omega arith; no_longer = omega arith; capacity = refl; char_ticks = refl }

pub nearer-trans : (j k : ℕ) (t u v : TransmitterState) → Nearer j t u → Nearer k u v → Nearer (j + k) t v
nearer-trans j k t u v a b = record {
  fewer = omega (arith, a.fewer, b.fewer);
  no_longer = omega (arith, a.no_longer, b.no_longer);
  capacity = b.capacity ∙ a.capacity;
  char_ticks = b.char_ticks ∙ a.char_ticks;
}

pub nearer-less : (j k : ℕ) (t u : TransmitterState) → j ≤ k → Nearer k t u → Nearer j t u
nearer-less j k t u h a =
    record { fewer = omega (arith, a.fewer, h); no_longer = a.no_longer; capacity = a.capacity; char_ticks = a.char_ticks }

-- ---- one tick

-- a free place is filled
nearer-refill : (queue : List ℕ) (t : TransmitterState) → t.shift_register ≡ None → t.queue ≡ queue → Nearer 1 t (refill None queue t)
nearer-refill [] t e f = record { fewer = rw (e, f) (omega arith); no_longer = omega arith; capacity = refl; char_ticks = refl }
nearer-refill (x ∷ []) t e f =
    record { fewer = rw (e, f) (omega arith); no_longer = rw (e, f) (grind (arith, common_steps)); capacity = refl; char_ticks = refl }
nearer-refill (x ∷ y ∷ xs) t e f =
    record {
      fewer = rw (e, f) (grind (arith, common_steps));
      no_longer = rw (e, f) (grind (arith, common_steps));
      capacity = refl;
      char_ticks = refl;
    }

-- after a shift that left the transmitter so
nearer-shifted : (loopback : Bool) (t u : TransmitterState) → shift loopback t.shift_register t ≡ u →
    Nearer 1 t (refill u.shift_register u.queue u) → Nearer 1 t (tick loopback false t)
nearer-shifted loopback t u e n = subst (λ (v : TransmitterState). Nearer 1 t (refill v.shift_register v.queue v)) (sym e) n

-- a character has left its place, which is filled
nearer-freed : (s : Shifting) (t u : TransmitterState) → t.shift_register ≡ Some s → nat_lt 1 s.ticks_left ≡ false → 1 ≤ s.ticks_left →
    u.shift_register ≡ None → u.queue ≡ t.queue → u.char_ticks ≡ t.char_ticks → u.capacity ≡ t.capacity → length (out u) ≤ length (out t) →
    Nearer 1 t (refill None u.queue u)
nearer-freed s t u e last some f g c k h = go u.queue refl
  where
    whole : (queue : List ℕ) → t.queue ≡ queue → left t ≡ s.ticks_left + t.char_ticks * length queue
    whole queue w = rw (e, w) refl

    go : (queue : List ℕ) → u.queue ≡ queue → Nearer 1 t (refill None queue u)
    go [] w = record { fewer = rw (f, w) (omega arith); no_longer = h; capacity = k; char_ticks = c }
    go (x ∷ []) w =
        let a = nearer-refill (x ∷ []) u f w in
        record {
          fewer = let b = whole (x ∷ []) (sym g ∙ w) in rw (b, c) (grind (arith, common_steps));
          no_longer = omega (arith, a.no_longer, h);
          capacity = k;
          char_ticks = c;
        }
    go (x ∷ y ∷ xs) w =
        let a = nearer-refill (x ∷ y ∷ xs) u f w in
        record {
          fewer = let b = whole (x ∷ y ∷ xs) (sym g ∙ w) in rw (b, c) (grind (arith, common_steps));
          no_longer = omega (arith, a.no_longer, h);
          capacity = k;
          char_ticks = c;
        }

-- a character is shifted on, or leaves for the wire, where there is room, or comes back
nearer-some : (loopback : Bool) (s : Shifting) (t : TransmitterState) → t.shift_register ≡ Some s → 1 ≤ s.ticks_left →
    (loopback ≡ false → length (out t) ≤ t.capacity) → Nearer 1 t (tick loopback false t)
nearer-some loopback s t e some free = go (nat_lt 1 s.ticks_left) refl loopback refl
  where
    shifts : (u : TransmitterState) → shift loopback (Some s) t ≡ u → shift loopback t.shift_register t ≡ u
    shifts u h = ap (λ place. shift loopback place t) e ∙ h

    long : length (out t) ≡ length t.wire + suc (length t.queue)
    long = rw e (length-append t.wire (s.byte ∷ t.queue))

    go : (more : Bool) → nat_lt 1 s.ticks_left ≡ more → (b : Bool) → loopback ≡ b → Nearer 1 t (tick loopback false t)
    go true f b g =
        let u : TransmitterState = record t { shift_register = Some (record { byte = s.byte; ticks_left = s.ticks_left - 1 }) } in
        nearer-shifted loopback t u (shifts u (rw f refl)) (record {
          fewer = let h : left t ≡ s.ticks_left + t.char_ticks * length t.queue = rw e refl in rw h (omega (arith, some));
          no_longer = rw long (simp length-append (omega arith));
          capacity = refl;
          char_ticks = refl;
        })
    go false f true g =
        let u : TransmitterState = record t { shift_register = None } in
        nearer-shifted loopback t u (shifts u (rw (f, g) refl))
        (nearer-freed s t u e f some refl refl refl refl (rw long (simp length-append (omega arith))))
    go false f false g =
        let u : TransmitterState = record t { shift_register = None; wire = t.wire ++ s.byte ∷ [] } in
        let few : length t.wire < t.capacity = omega (arith, long, free g) in
        let k : nat_lt (length t.wire) t.capacity ≡ true = grind (arith, common_steps) in
        nearer-shifted loopback t u (shifts u (rw (f, g, k) refl))
        (nearer-freed s t u e f some refl refl refl refl (rw long (simp length-append (omega arith))))

nearer-none : (loopback : Bool) (t : TransmitterState) → t.shift_register ≡ None → Nearer 1 t (tick loopback false t)
nearer-none loopback t e =
    nearer-shifted loopback t t (ap (λ place. shift loopback place t) e)
    (subst (λ (place : Option Shifting). Nearer 1 t (refill place t.queue t)) (sym e) (nearer-refill t.queue t e refl))

pub nearer-tick : (fifo loopback : Bool) (t : TransmitterState) → IsSoundTransmitter fifo t →
    (loopback ≡ false → length (out t) ≤ t.capacity) → Nearer 1 t (tick loopback false t)
nearer-tick fifo loopback t w free = go t.shift_register refl
  where
    go : (place : Option Shifting) → t.shift_register ≡ place → Nearer 1 t (tick loopback false t)
    go None e = nearer-none loopback t e
    go (Some s) e = let ticking : IsTicking t.char_ticks (Some s) = rw e at w.ticking in nearer-some loopback s t e ticking.0 free

-- ---- one tick, whether the transmitter is held off or not

-- no more is to go out than was
pub record NoLonger (t u : TransmitterState) : Type 0 where
  pub no_longer : length (out u) ≤ length (out t)
  pub capacity : u.capacity ≡ t.capacity

no_longer-trans : (t u v : TransmitterState) → NoLonger t u → NoLonger u v → NoLonger t v
no_longer-trans t u v a b = record { no_longer = omega (arith, a.no_longer, b.no_longer); capacity = b.capacity ∙ a.capacity }

no_longer-shift : (loopback : Bool) (place : Option Shifting) (t : TransmitterState) → t.shift_register ≡ place →
    NoLonger t (shift loopback place t)
no_longer-shift loopback None t e = record { no_longer = omega arith; capacity = refl }
no_longer-shift loopback (Some s) t e =
    go (nat_lt 1 s.ticks_left) refl loopback refl (nat_lt (length t.wire) t.capacity) refl
  where
    long : length (out t) ≡ length t.wire + suc (length t.queue)
    long = rw e (length-append t.wire (s.byte ∷ t.queue))

    go : (more : Bool) → nat_lt 1 s.ticks_left ≡ more → (b : Bool) → loopback ≡ b → (room : Bool) →
        nat_lt (length t.wire) t.capacity ≡ room → NoLonger t (shift loopback (Some s) t)
    go true f b g room h = rw f (record { no_longer = rw long (simp length-append (omega arith)); capacity = refl })
    go false f true g room h = rw (f, g) (record { no_longer = rw long (simp length-append (omega arith)); capacity = refl })
    go false f false g true h = rw (f, g, h) (record { no_longer = rw long (simp length-append (omega arith)); capacity = refl })
    go false f false g false h = rw (f, g, h) (record { no_longer = omega arith; capacity = refl })

no_longer-refill : (place : Option Shifting) (queue : List ℕ) (t : TransmitterState) → t.shift_register ≡ place → t.queue ≡ queue →
    NoLonger t (refill place queue t)
no_longer-refill (Some s) queue t e f = record { no_longer = omega arith; capacity = refl }
no_longer-refill None queue t e f =
    let a = nearer-refill queue t e f in record { no_longer = a.no_longer; capacity = a.capacity }

pub no_longer-tick : (loopback held_off : Bool) (t : TransmitterState) → NoLonger t (tick loopback held_off t)
no_longer-tick loopback true t = no_longer-shift loopback t.shift_register t refl
no_longer-tick loopback false t =
    let u : TransmitterState = shift loopback t.shift_register t in
    no_longer-trans t u (tick loopback false t) (no_longer-shift loopback t.shift_register t refl)
    (no_longer-refill u.shift_register u.queue u refl refl)

-- ---- how far the end is at most

one_more : (n : ℕ) → n + 1 ≡ suc n
one_more n = omega arith

pub left-most : (c : ChipState) → IsSoundChip c → left c.transmitter ≤ most_held c.transmitter * c.transmitter.char_ticks
left-most c sound = go t.shift_register t.queue w.ticking few
  where
    t : TransmitterState
    t = c.transmitter

    w : IsSoundTransmitter c.fifo t
    w = sound.transmitter

    few : length t.queue ≤ characters t.size
    few = let room = room_within c.fifo t.size in let h = w.in_room in omega (arith, room, h)

    product : (n k : ℕ) → n ≤ k → t.char_ticks * n ≤ t.char_ticks * k
    product n k h = grind (arith, common_steps)

    whole : most_held t * t.char_ticks ≡ t.char_ticks * characters t.size + t.char_ticks
    whole =
        ap (λ (n : ℕ). n * t.char_ticks) (one_more (characters t.size)) ∙
        (suc-mul (characters t.size) t.char_ticks ∙ ap (λ (n : ℕ). n + t.char_ticks) (mul_comm (characters t.size) t.char_ticks))

    go : (place : Option Shifting) (queue : List ℕ) → IsTicking t.char_ticks place → length queue ≤ characters t.size →
        left_of t.char_ticks place queue ≤ most_held t * t.char_ticks
    go None [] h k = omega arith
    go None (x ∷ xs) h k = let p = product (length (x ∷ xs)) (characters t.size) k in omega (arith, p, whole, w.at_least_one)
    go (Some s) queue h k = let p = product (length queue) (characters t.size) k in omega (arith, p, whole, h.1)

-- a limit that is long enough for each character and a tick more exceeds what is left
pub exceeds : (t : TransmitterState) (limit : ℕ) → left t ≤ most_held t * t.char_ticks →
    most_held t * (t.char_ticks + 1) ≤ limit → left t + most_held t ≤ limit
exceeds t limit most enough =
    let whole : most_held t * (t.char_ticks + 1) ≡ most_held t * t.char_ticks + most_held t =
    ap (λ (n : ℕ). most_held t * n) (one_more t.char_ticks) ∙ mul-suc (most_held t) t.char_ticks in
    omega (arith, most, enough, whole)
