-- After the time of a call nothing is left to happen.
use Rattle.std.proofs.Common.{◌≡◌, ℕ, zero, suc, ◌+◌, ◌*◌, ◌≤◌, Bool, true, false, ◌&&◌, ◌==◌, ◌⊎◌, inl, inr, min, nat_lt}
use Rattle.std.proofs.Common.{List, [], ◌∷◌, ◌++◌, length, take, drop, Option, Some, None, refl, ap, sym, ◌∙◌, subst, arith, if◌then◌else◌}
use Rattle.std.proofs.lemmas.Bool.{cases_lt}
use Rattle.std.proofs.lemmas.Grind.{common_steps}
use Rattle.uart_spec.specs.FifoSize.{characters}
use Rattle.uart_spec.specs.declared.registers.offsets.TheConstants as offsets
use Rattle.uart_chip.specs.declared.transmitter.Shifting.{Shifting}
use Rattle.uart_chip.specs.Transmitter as transmitter
use Rattle.uart_chip.specs.Transmitter.{TransmitterState, room, looped_byte, shift, refill, held, shift_bytes}
use Rattle.uart_chip.specs.Receiver as receiver
use Rattle.uart_chip.specs.Receiver.{ReceiverState, grow_timeout}
use Rattle.uart_chip.specs.Chip.{ChipState, tick, ticks, is_loopback, is_held_off, is_dlab_set, interrupt}
use Rattle.uart_chip.specs.Chip.{is_thr_empty, after_read, after_write, take_wire, arrive_live}
use Rattle.uart_chip.specs.Jumps.{next_move_of, next_move, left_after, place_after, timeout_after, moves}
use Rattle.uart_chip.specs.Sound.{IsSoundChip, IsTicking}
use Rattle.uart_chip.proofs.AutoFlow.{never_held_off, flow-ticks}
use Rattle.uart_chip.proofs.Jumps.{StillFor, ticks_skip}
use Rattle.uart_chip.proofs.soundness.Idle.{moves-most}
use Rattle.uart_chip.proofs.lasting.Lasting.{LastsInAccesses, lasts-read, lasts-write}
use Rattle.uart_chip.proofs.soundness.Sounds.{char_ticks-tick, steady_ticks}
use Rattle.uart_live.specs.Held.{expire}
use Rattle.uart_live.specs.declared.fixed.TheConstants.{WIRE_ROOM}
use Rattle.uart_chip.proofs.AccessMoves.{both_if}
use Rattle.uart_virtual.specs.Port.{PortCall, Read, Write, Receive, happen, holds_less, settle, settle_ticks}
use Rattle.uart_virtual.specs.Port.{accepted, arrive_all, IsStill, IsPaced, IsUnmoved}

-- ---- the ticks of a character stay the same, and the room of the wire

abbrev Pace : TransmitterState → Type 0
Pace t = (t.char_ticks ≡ 1) × (t.capacity ≡ WIRE_ROOM)

pace_lasts : LastsInAccesses Pace
pace_lasts = record { pending = λ t pending h. h; cleared = λ t pending h. h; resized = λ t size h. h }

-- of a chip
abbrev CharTakes : ℕ → ChipState → Type 0
CharTakes k c = c.transmitter.char_ticks ≡ k

takes-ticks : (k n : ℕ) (c : ChipState) → CharTakes k c → CharTakes k (ticks n c)
takes-ticks k zero c h = h
takes-ticks k (suc n) c h =
    let d : ChipState = ticks n c in char_ticks-tick (is_loopback d.latches) (is_held_off d) d.transmitter ∙ takes-ticks k n c h

abbrev SameRoom : TransmitterState → TransmitterState → Type 0
SameRoom t u = u.capacity ≡ t.capacity

room-shift : (loopback : Bool) (place : Option Shifting) (t : TransmitterState) → SameRoom t (shift loopback place t)
room-shift loopback None t = refl
room-shift loopback (Some s) t =
    both_if (SameRoom t) _ _ (nat_lt 1 s.ticks_left) refl
    (both_if (SameRoom t) _ _ loopback refl (both_if (SameRoom t) _ _ (nat_lt (length t.wire) t.capacity) refl refl))

room-refill : (place : Option Shifting) (queue : List ℕ) (t : TransmitterState) → SameRoom t (refill place queue t)
room-refill None (x ∷ []) t = refl
room-refill _ _ t = refl

room-tick : (loopback held_off : Bool) (t : TransmitterState) → SameRoom t (transmitter.tick loopback held_off t)
room-tick loopback true t = room-shift loopback t.shift_register t
room-tick loopback false t =
    let u : TransmitterState = shift loopback t.shift_register t in
    room-refill u.shift_register u.queue u ∙ room-shift loopback t.shift_register t

room-ticks : (n : ℕ) (c : ChipState) → SameRoom c.transmitter (ticks n c).transmitter
room-ticks zero c = refl
room-ticks (suc n) c =
    let d : ChipState = ticks n c in room-tick (is_loopback d.latches) (is_held_off d) d.transmitter ∙ room-ticks n c

pub paced-ticks : (n : ℕ) (c : ChipState) → IsPaced c → IsPaced (ticks n c)
paced-ticks n c h = record { takes = takes-ticks 1 n c h.takes; room = room-ticks n c ∙ h.room }

pace-write : (offset value : ℕ) (c : ChipState) → Pace c.transmitter → Pace (after_write offset value c).transmitter
pace-write offset value c h = go (offset == offsets.DATA) refl
  where
    go : (b : Bool) → (offset == offsets.DATA) ≡ b → Pace (after_write offset value c).transmitter
    go false e = lasts-write Pace pace_lasts offset value c e h
    go true e =
        rw e (both_if (λ (d : ChipState). Pace d.transmitter) _ _ (is_dlab_set c.latches) h
        (both_if Pace _ _ (nat_lt (length c.transmitter.queue) (room c.fifo c.transmitter.size)) h h))

pace-all : (bytes : List ℕ) (c : ChipState) → Pace c.transmitter → Pace (arrive_all bytes c).transmitter
pace-all [] c h = h
pace-all (byte ∷ bytes) c h = pace-all bytes _ h

pace-happen : (call : PortCall) (c : ChipState) → Pace c.transmitter → Pace (happen call c).transmitter
pace-happen (Read offset) c h = lasts-read Pace pace_lasts offset c h
pace-happen (Write offset value) c h =
    let d : ChipState = after_write offset value c in
    let w = pace-write offset value c h in
    both_if (λ (x : ChipState). Pace x.transmitter) _ _ ((offset == offsets.FCR) && holds_less c d) w w
pace-happen (Receive bytes) c h = pace-all (take (accepted bytes c) bytes) c h
pace-happen _ c h = h

pub paced-happen : (call : PortCall) (c : ChipState) → IsPaced c → IsPaced (happen call c)
paced-happen call c h =
    let after : Pace (happen call c).transmitter = pace-happen call c (h.takes, h.room) in
    record { takes = after.0; room = after.1 }

pub paced-all : (bytes : List ℕ) (c : ChipState) → IsPaced c → IsPaced (arrive_all bytes c)
paced-all bytes c h =
    let after : Pace (arrive_all bytes c).transmitter = pace-all bytes c (h.takes, h.room) in
    record { takes = after.0; room = after.1 }

-- ---- no character can move after what leaves the transmitter alone

pub unmoved-read : (offset : ℕ) (c : ChipState) → IsUnmoved c → IsUnmoved (after_read offset c)
unmoved-read offset c u =
    both_if IsUnmoved _ _ (offset == offsets.DATA) (both_if IsUnmoved _ _ (is_dlab_set c.latches) u u)
    (both_if IsUnmoved _ _ (offset == offsets.ISR) (both_if IsUnmoved _ _ (is_thr_empty (interrupt c)) u u)
    (both_if IsUnmoved _ _ (offset == offsets.LSR) u (both_if IsUnmoved _ _ (offset == offsets.MSR) u u)))

pub unmoved-all : (bytes : List ℕ) (c : ChipState) → IsUnmoved c → IsUnmoved (arrive_all bytes c)
unmoved-all [] c u = u
unmoved-all (byte ∷ bytes) c u = unmoved-all bytes (arrive_live byte 0 c) u

-- ---- a tick moves a character, or nothing in the transmitter changes any more

record IsStuck (loopback : Bool) (t : TransmitterState) : Type 0 where
  none : next_move loopback false t ≡ None
  same : (held_off : Bool) → transmitter.tick loopback held_off t ≡ t
  unlooped : looped_byte loopback t.shift_register ≡ None

abbrev with_place : Option Shifting → List ℕ → TransmitterState → TransmitterState
with_place place queue t = record t { shift_register = place; queue = queue }

pub tick-shifted : (loopback : Bool) (t u : TransmitterState) → shift loopback t.shift_register t ≡ u →
    transmitter.tick loopback false t ≡ refill u.shift_register u.queue u
tick-shifted loopback t u e = ap (λ (v : TransmitterState). refill v.shift_register v.queue v) e

either-same : (held_off : Bool) (t : TransmitterState) → (if held_off then t else t) ≡ t
either-same true t = refl
either-same false t = refl

freed : (queue : List ℕ) (t : TransmitterState) → moves (refill None queue (with_place None queue t)) ≡ length queue
freed (x ∷ []) t = refl
freed _ t = refl

unlooped-none : (loopback : Bool) → looped_byte loopback None ≡ None
unlooped-none true = refl
unlooped-none false = refl

pub last_tick : (left : ℕ) → 1 ≤ left → left ≤ 1 → nat_lt 1 left ≡ false
last_tick left low high = grind (arith, common_steps)

stuck_or_moves : (loopback : Bool) (place : Option Shifting) (queue : List ℕ) (t : TransmitterState) → IsTicking 1 place →
    IsStuck loopback (with_place place queue t) ⊎
    (suc (moves (transmitter.tick loopback false (with_place place queue t))) ≡ moves (with_place place queue t))
stuck_or_moves loopback None [] t h =
    inl (record {
      none = refl;
      same = λ held_off. either-same held_off (with_place None [] t);
      unlooped = unlooped-none loopback;
    })
stuck_or_moves loopback None (x ∷ []) t h = inr refl
stuck_or_moves loopback None (x ∷ y ∷ xs) t h = inr refl
stuck_or_moves loopback (Some s) queue t h =
    go (last_tick s.ticks_left h.0 h.1) loopback refl (nat_lt (length t.wire) t.capacity) refl
  where
    v : TransmitterState
    v = with_place (Some s) queue t

    go : nat_lt 1 s.ticks_left ≡ false → (b : Bool) → loopback ≡ b → (free : Bool) → nat_lt (length t.wire) t.capacity ≡ free →
        IsStuck loopback (with_place (Some s) queue t) ⊎
        (suc (moves (transmitter.tick loopback false (with_place (Some s) queue t))) ≡ suc (length queue))
    go d true f free g =
        inr (ap (λ (w : TransmitterState). suc (moves w)) (tick-shifted loopback v (with_place None queue t) (rw (d, f) refl)) ∙
        ap suc (freed queue t))
    go d false f true g =
        let u : TransmitterState = record t { wire = t.wire ++ s.byte ∷ [] } in
        inr (ap (λ (w : TransmitterState). suc (moves w)) (tick-shifted loopback v (with_place None queue u) (rw (d, f, g) refl)) ∙
        ap suc (freed queue u))
    go d false f false g =
        let stays : shift loopback v.shift_register v ≡ v = rw (d, f, g) refl in
        inl (record {
          none = rw (f, g) refl;
          same =
              λ held_off. ap (λ (w : TransmitterState). if held_off then w else refill w.shift_register w.queue w) stays ∙
              either-same held_off v;
          unlooped = rw f refl;
        })

-- ---- after the time of a call

-- the ticks towards a timeout, n ticks after which at most so many moved a character
abbrev pub Nears : (moved n : ℕ) → ReceiverState → Type 0
Nears moved n r = (n ≤ moved + r.timeout_ticks) ⊎ (r.timeout_ticks ≡ r.timeout_limit)

nears-tick : (moved n ticks limit : ℕ) → (n ≤ moved + ticks) ⊎ (ticks ≡ limit) →
    (suc n ≤ moved + min (ticks + 1) limit) ⊎ (min (ticks + 1) limit ≡ limit)
nears-tick moved n ticks limit (inr e) = inr (omega (arith, e))
nears-tick moved n ticks limit (inl h) = elim (cases_lt ticks limit) [
  | inl low ↦ inl (omega (arith, h, low))
  | inr high ↦ inr (omega (arith, high))
]

record Stops (moved n : ℕ) (c : ChipState) : Type 0 where
  stuck : IsStuck (is_loopback c.latches) c.transmitter
  nears : Nears moved n c.receiver

stops-tick : (moved n : ℕ) (c : ChipState) → Stops moved n c → Stops moved (suc n) (tick c)
stops-tick moved n c h =
    let loopback : Bool = is_loopback c.latches in
    let r : (tick c).receiver ≡ grow_timeout c.receiver =
    ap (λ looped. receiver.tick c.fifo looped c.receiver) h.stuck.unlooped in
    record {
      stuck = subst (λ (t : TransmitterState). IsStuck loopback t) (sym (h.stuck.same (is_held_off c))) h.stuck;
      nears = subst (λ (r : ReceiverState). Nears moved (suc n) r) (sym r)
          (nears-tick moved n c.receiver.timeout_ticks c.receiver.timeout_limit h.nears);
    }

-- what a transmitter holds at most: a full FIFO, and a character in the shift register
abbrev most_held : ChipState → ℕ
most_held c = characters c.transmitter.size + 1

nearer : (n : ℕ) (c : ChipState) → IsSoundChip c → c.auto_flow ≡ false → CharTakes 1 c →
    (moves (ticks n c).transmitter + n ≤ most_held c) ⊎ Stops (most_held c) n (ticks n c)
nearer zero c w f k =
    let few = moves-most c.fifo c.transmitter w.transmitter in
    inl (omega (arith, few))
nearer (suc n) c w f k =
    let d : ChipState = ticks n c in
    let t : TransmitterState = d.transmitter in
    let sound = (steady_ticks n c w).sound.transmitter in
    let ticking : IsTicking 1 t.shift_register =
    subst (λ m. IsTicking m t.shift_register) (takes-ticks 1 n c k) sound.ticking in
    let goes_on : is_held_off d ≡ false = never_held_off d (flow-ticks n c ∙ f) in
    elim (nearer n c w f k) [
      | inl more ↦ elim (stuck_or_moves (is_loopback d.latches) t.shift_register t.queue t ticking) [
        | inl stuck ↦ inr (stops-tick (most_held c) n d (record { stuck = stuck; nears = inl (omega (arith, more)) }))
        | inr moved ↦
            let ticked : moves (tick d).transmitter ≡ moves (transmitter.tick (is_loopback d.latches) false t) =
            ap (λ (b : Bool). moves (transmitter.tick (is_loopback d.latches) b t)) goes_on in
            inl (omega (arith, more, moved, ticked))
      ]
      | inr stops ↦ inr (stops-tick (most_held c) n d stops)
    ]

-- nothing is left to happen five ticks after the last character can have moved
still_after : (n : ℕ) (c : ChipState) → most_held c + 5 ≤ n → IsSoundChip c → c.auto_flow ≡ false → IsPaced c → IsStill (ticks n c)
still_after n c many w f k =
    let d : ChipState = ticks n c in
    let sound = (steady_ticks n c w).sound in
    let one : d.transmitter.char_ticks ≡ 1 = takes-ticks 1 n c k.takes in
    elim (nearer n c w f k.takes) [
      | inl more ↦ absurd (omega (arith, more, many))
      | inr stops ↦ record {
        paced = paced-ticks n c k;
        unmoved = stops.stuck.none;
        due = elim stops.nears [
          | inl h ↦ omega (arith, h, many, one, sound.limit, sound.receiver.idle)
          | inr e ↦ e
        ];
      }
    ]

pub still_settle : (c : ChipState) → IsSoundChip c → c.auto_flow ≡ false → IsPaced c → IsStill (settle c)
unfolding settle_ticks
still_settle c w f k = still_after (settle_ticks c.transmitter.size) c (omega arith) w f k

-- a transmitter that nothing moves stays so if it is held off too
pub still_too : (n : ℕ) (held_off : Bool) (c : ChipState) → IsUnmoved c →
    StillFor n (next_move (is_loopback c.latches) held_off c.transmitter)
still_too n false c u = subst (λ move. StillFor n move) (sym u) tt
still_too n true c u = go (leaves c) c.transmitter.shift_register c.transmitter.queue u
  where
    leaves : ChipState → Bool
    leaves c = if is_loopback c.latches then is_loopback c.latches else nat_lt (length c.transmitter.wire) c.transmitter.capacity

    go : (free : Bool) (place : Option Shifting) (queue : List ℕ) → next_move_of free true place queue ≡ None →
        StillFor n (next_move_of free false place queue)
    go free None [] e = tt
    go free None (x ∷ xs) e = tt
    go true (Some s) queue e = absurd (cc)
    go false (Some s) queue e = tt

-- ---- time does nothing to a chip that is still

left-still : (n left : ℕ) → 1 ≤ left → left ≤ 1 → left_after n left ≡ left
left-still n left low high = grind (arith, common_steps)

place-still : (n : ℕ) (place : Option Shifting) → IsTicking 1 place → place_after n place ≡ place
place-still n None h = refl
place-still n (Some s) h =
    ap (λ (k : ℕ). Some (record { byte = s.byte; ticks_left = k })) (left-still n s.ticks_left h.0 h.1)

timeout-still : (n ticks limit : ℕ) → ticks ≡ limit → timeout_after n ticks limit ≡ ticks
timeout-still zero ticks limit e = refl
timeout-still (suc n) ticks limit e = omega (arith, e)

pub still_ticks : (n : ℕ) (c : ChipState) → IsSoundChip c → IsStill c → ticks n c ≡ c
still_ticks n c w s =
    let ticking : IsTicking 1 c.transmitter.shift_register =
    subst (λ m. IsTicking m c.transmitter.shift_register) s.paced.takes w.transmitter.ticking in
    ticks_skip n c (still_too n (is_held_off c) c s.unmoved) ∙
    (ap (λ (place : Option Shifting). record c {
      transmitter = record c.transmitter { shift_register = place };
      receiver = record c.receiver { timeout_ticks = timeout_after n c.receiver.timeout_ticks c.receiver.timeout_limit };
    }) (place-still n c.transmitter.shift_register ticking) ∙
    ap (λ (i : ℕ). record c { receiver = record c.receiver { timeout_ticks = i } })
    (timeout-still n c.receiver.timeout_ticks c.receiver.timeout_limit s.due))

-- ---- while no character can move, time brings a reception timeout and nothing else

timeout-over : (n ticks limit : ℕ) → 1 ≤ n → limit ≤ n → timeout_after n ticks limit ≡ limit
timeout-over zero ticks limit some h = absurd (omega (arith, some))
timeout-over (suc n) ticks limit some h = omega (arith, h)

pub settle-unmoved : (c : ChipState) → IsSoundChip (expire c) → IsPaced c → IsUnmoved c → settle c ≡ expire c
unfolding settle_ticks
settle-unmoved c w k u =
    let t : TransmitterState = c.transmitter in
    let r : ReceiverState = c.receiver in
    let n : ℕ = settle_ticks t.size in
    let limit : r.timeout_limit ≡ 4 * t.char_ticks = w.limit in
    let held : IsTicking t.char_ticks t.shift_register = w.transmitter.ticking in
    let ticking : IsTicking 1 t.shift_register = subst (λ m. IsTicking m t.shift_register) k.takes held in
    let soon : r.timeout_limit ≤ n = omega (arith, limit, k.takes) in
    ticks_skip n c (still_too n (is_held_off c) c u) ∙
    (ap (λ (place : Option Shifting). record c {
      transmitter = record t { shift_register = place };
      receiver = record r { timeout_ticks = timeout_after n r.timeout_ticks r.timeout_limit };
    }) (place-still n t.shift_register ticking) ∙
    ap (λ (i : ℕ). record c { receiver = record r { timeout_ticks = i } })
    (timeout-over n r.timeout_ticks r.timeout_limit (omega arith) soon))

pub still-expire : (c : ChipState) → IsPaced c → IsUnmoved c → IsStill (expire c)
still-expire c k u = record { paced = record { takes = k.takes; room = k.room }; unmoved = u; due = refl }

-- a read of another register than DATA leaves it still
pub still_read : (offset : ℕ) (c : ChipState) → (offset == offsets.DATA) ≡ false → IsStill c → IsStill (after_read offset c)
still_read offset c other s =
    rw other
    (both_if IsStill _ _ (offset == offsets.ISR)
    (both_if IsStill _ _ (is_thr_empty (interrupt c)) (record {
      paced = record { takes = s.paced.takes; room = s.paced.room };
      unmoved = s.unmoved;
      due = s.due;
    }) s)
    (both_if IsStill _ _ (offset == offsets.LSR) (record {
      paced = record { takes = s.paced.takes; room = s.paced.room };
      unmoved = s.unmoved;
      due = s.due;
    })
    (both_if IsStill _ _ (offset == offsets.MSR) (record {
      paced = record { takes = s.paced.takes; room = s.paced.room };
      unmoved = s.unmoved;
      due = s.due;
    }) s)))

-- what the host takes of the output leaves a chip still whose transmitter holds nothing
pub still_take : (count : ℕ) (c : ChipState) → length (held c.transmitter) ≡ 0 → IsStill c → IsStill (take_wire count c)
still_take count c none s = record {
  paced = record { takes = s.paced.takes; room = s.paced.room };
  unmoved = go c.transmitter.shift_register c.transmitter.queue none;
  due = s.due;
}
  where
    go : (place : Option Shifting) (queue : List ℕ) → length (shift_bytes place ++ queue) ≡ 0 →
        next_move_of (if is_loopback c.latches then is_loopback c.latches
        else nat_lt (length (drop count c.transmitter.wire)) c.transmitter.capacity) true place queue ≡ None
    go None [] e = refl
    go None (x ∷ xs) e = absurd (omega (arith, e))
    go (Some s) queue e = absurd (omega (arith, e))
