-- In loopback nothing comes back but some of what was written, in order: what the receiver and the transmitter hold.
use Rattle.std.proofs.Common.{◌≡◌, ℕ, suc, ◌+◌, ◌-◌, ◌^◌, ◌<◌, min, Bool, true, false, ◌==◌, nat_lt, List, [], ◌∷◌, ◌++◌, length, map}
use Rattle.std.proofs.Common.{append_assoc, drop, Option, Some, None, refl, arith, sym, ap, subst, if◌then◌else◌}
use Rattle.std.proofs.lemmas.Grind.{common_steps}
use Rattle.std.proofs.lemmas.List.{map-append}
use Rattle.std.specs.List.{position_or_len}
use Rattle.uart_spec.specs.declared.registers.offsets.TheConstants as offsets
use Rattle.uart_chip.specs.declared.receiver.Character.{Character}
use Rattle.uart_chip.specs.declared.receiver.Origin.TheVariants.{Looped}
use Rattle.uart_chip.specs.declared.transmitter.Shifting.{Shifting}
use Rattle.uart_chip.specs.Transmitter as transmitter
use Rattle.uart_chip.specs.Transmitter.{TransmitterState, shift, looped_byte, refill, load, room, held, shift_bytes}
use Rattle.uart_chip.specs.Receiver as receiver
use Rattle.uart_chip.specs.Receiver.{ReceiverState, enter, replace, come_back, take_front, waiting}
use Rattle.uart_chip.specs.Chip.{ChipState, is_loopback, is_held_off, tick, arrive}
use Rattle.uart_chip.proofs.AccessMoves.{both_if, ReadMove, takes, WriteMove, sends, steers, switches, resizes, clears, empties}
use Rattle.uart_chip.proofs.loopback.Loops.{line_of, line_in}

-- ---- some of these, in order

pub data Within : List ℕ → List ℕ → Type 0 where
  none : {ys : List ℕ} → Within [] ys
  lost : {y : ℕ} {xs ys : List ℕ} → Within xs ys → Within xs (y ∷ ys)
  kept : {y : ℕ} {xs ys : List ℕ} → Within xs ys → Within (y ∷ xs) (y ∷ ys)

pub within-refl : (xs : List ℕ) → Within xs xs
within-refl [] = none
within-refl (x ∷ xs) = kept (within-refl xs)

pub within-trans : {xs ys zs : List ℕ} → Within xs ys → Within ys zs → Within xs zs
within-trans none q = none
within-trans p (lost q) = lost (within-trans p q)
within-trans (lost p) (kept q) = lost (within-trans p q)
within-trans (kept p) (kept q) = kept (within-trans p q)

-- some of the front, with nothing behind
pub within-front : (xs ys : List ℕ) → Within xs (xs ++ ys)
within-front [] ys = none
within-front (x ∷ xs) ys = kept (within-front xs ys)

-- some of the end
pub within-end : (xs ys : List ℕ) → Within ys (xs ++ ys)
within-end [] ys = within-refl ys
within-end (x ∷ xs) ys = lost (within-end xs ys)

-- the same before both
pub within-behind : (ws : List ℕ) {xs ys : List ℕ} → Within xs ys → Within (ws ++ xs) (ws ++ ys)
within-behind [] p = p
within-behind (w ∷ ws) p = kept (within-behind ws p)

-- the same behind both
pub within-before : {xs ys : List ℕ} (bs : List ℕ) → Within xs ys → Within (xs ++ bs) (ys ++ bs)
within-before {ys = ys} bs none = within-end ys bs
within-before bs (lost p) = lost (within-before bs p)
within-before bs (kept p) = kept (within-before bs p)

-- without the first
within-rest : {x : ℕ} {xs ys : List ℕ} → Within (x ∷ xs) ys → Within xs ys
within-rest (lost p) = lost (within-rest p)
within-rest (kept p) = lost p

-- the first place of a byte is one of these, and the others are behind it
abbrev pub Placed : (byte : ℕ) → List ℕ → List ℕ → Type 0
Placed byte others ys =
    (position_or_len (λ y. y == byte) ys < length ys) × Within others (drop (position_or_len (λ y. y == byte) ys + 1) ys)

placed_first : (x : ℕ) (xs ys : List ℕ) → Within xs ys → Placed x xs (x ∷ ys)
placed_first x xs ys p = let same : (x == x) ≡ true = grind (arith, common_steps) in rw same (omega arith, p)

placed_later : (y x : ℕ) (xs ys : List ℕ) → Within (x ∷ xs) ys → Placed x xs ys → Placed x xs (y ∷ ys)
placed_later y x xs ys p q = go (y == x) refl
  where
    go : (b : Bool) → (y == x) ≡ b → Placed x xs (y ∷ ys)
    go true e = rw e (omega arith, within-rest p)
    go false e =
        let before : ℕ = position_or_len (λ z. z == x) ys in
        let more : 1 + before + 1 ≡ suc (before + 1) = omega arith in
        rw e (omega (arith, q.0), subst (λ n. Within xs (drop n (y ∷ ys))) (sym more) q.1)

pub within-place : (x : ℕ) (xs ys : List ℕ) → Within (x ∷ xs) ys → Placed x xs ys
within-place x xs ys (kept p) = placed_first x xs _ p
within-place x xs ys (lost p) = placed_later _ x xs _ p (within-place x xs _ p)

-- ---- a tick in loopback

-- what comes is put last, or something is lost
within_enter : (fifo : Bool) (new : Character) (r : ReceiverState) → Within (waiting (enter fifo new r)) (waiting r ++ new.byte ∷ [])
within_enter fifo new r =
    both_if (λ (s : ReceiverState). Within (waiting s) (waiting r ++ new.byte ∷ [])) _ _ (nat_lt (length r.queue) (room fifo r.size))
    (subst (λ ws. Within ws (waiting r ++ new.byte ∷ [])) (sym (map-append (λ (c : Character). c.byte) r.queue (new ∷ [])))
    (within-refl (waiting r ++ new.byte ∷ [])))
    (both_if (λ (s : ReceiverState). Within (waiting s) (waiting r ++ new.byte ∷ [])) _ _ fifo (within-front (waiting r) (new.byte ∷ []))
    (replaced r.queue))
  where
    replaced : (queue : List Character) → Within (waiting (replace queue new r)) (waiting r ++ new.byte ∷ [])
    replaced [] = within-front (waiting r) (new.byte ∷ [])
    replaced (old ∷ others) = within-end (waiting r) (new.byte ∷ [])

within_shift : (fifo : Bool) (place : Option Shifting) (t : TransmitterState) (r : ReceiverState) → t.shift_register ≡ place →
    Within (line_of (shift true place t) (come_back fifo (looped_byte true place) r)) (line_of t r)
within_shift fifo None t r e = within-refl (line_of t r)
within_shift fifo (Some s) t r e = go (nat_lt 1 s.ticks_left) refl
  where
    there : line_of t r ≡ waiting r ++ s.byte ∷ t.queue
    there = ap (λ place. waiting r ++ (shift_bytes place ++ t.queue)) e

    came : Within (waiting (enter fifo (record { byte = s.byte; errors = 0; origin = Looped }) r) ++ t.queue)
        (waiting r ++ s.byte ∷ t.queue)
    came =
        subst (Within _) (append_assoc (waiting r) (s.byte ∷ []) t.queue)
        (within-before t.queue (within_enter fifo (record { byte = s.byte; errors = 0; origin = Looped }) r))

    go : (b : Bool) → nat_lt 1 s.ticks_left ≡ b →
        Within (line_of (shift true (Some s) t) (come_back fifo (looped_byte true (Some s)) r)) (line_of t r)
    go true g = rw (g, there) (within-refl (waiting r ++ s.byte ∷ t.queue))
    go false g = rw (g, there) came

held_refill : (place : Option Shifting) (queue : List ℕ) (t : TransmitterState) → t.shift_register ≡ place → t.queue ≡ queue →
    held (refill place queue t) ≡ held t
held_refill (Some s) queue t e f = refl
held_refill None [] t e f = refl
held_refill None (x ∷ []) t e f = rw (e, f) refl
held_refill None (x ∷ y ∷ xs) t e f = rw (e, f) refl

within_ticked : (fifo held_off : Bool) (t : TransmitterState) (r : ReceiverState) →
    Within (line_of (transmitter.tick true held_off t) (receiver.tick fifo (looped_byte true t.shift_register) r)) (line_of t r)
within_ticked fifo true t r = within_shift fifo t.shift_register t r refl
within_ticked fifo false t r =
    let u : TransmitterState = shift true t.shift_register t in
    let s : ReceiverState = come_back fifo (looped_byte true t.shift_register) r in
    subst (λ hs. Within (waiting s ++ hs) (line_of t r)) (sym (held_refill u.shift_register u.queue u refl refl))
    (within_shift fifo t.shift_register t r refl)

pub within_tick : (c : ChipState) → is_loopback c.latches ≡ true → Within (line_in (tick c)) (line_in c)
within_tick c e = rw e (within_ticked c.fifo (is_held_off c) c.transmitter c.receiver)

-- what arrives in loopback is discarded
pub within_arrive : (byte errors : ℕ) (c : ChipState) → is_loopback c.latches ≡ true → Within (line_in (arrive byte errors c)) (line_in c)
within_arrive byte errors c e = rw e (within-refl (line_in c))

-- ---- accesses

within_taken : (queue : List Character) (t : TransmitterState) (r : ReceiverState) → r.queue ≡ queue →
    Within (line_of t (take_front queue r)) (line_of t r)
within_taken [] t r e = within-refl (line_of t r)
within_taken (front ∷ others) t r e =
    let byte = λ (c : Character). c.byte in
    rw e (lost (within-refl (map byte others ++ held t)))

-- a read brings nothing
pub within_read : (offset : ℕ) (c d : ChipState) → ReadMove offset c d → Within (line_in d) (line_in c)
within_read offset c d (takes p q) = within_taken c.receiver.queue c.transmitter c.receiver refl
within_read offset c d _ = within-refl (line_in c)

-- a byte that is written comes last, or one is lost
pub within_load : (fifo : Bool) (byte : ℕ) (t : TransmitterState) (r : ReceiverState) →
    Within (line_of (load fifo byte t) r) (line_of t r ++ byte ∷ [])
within_load fifo byte t r =
    subst (Within _) (sym (append_assoc (waiting r) (held t) (byte ∷ []))) (within-behind (waiting r)
    (subst (Within _) (sym (append_assoc (shift_bytes t.shift_register) t.queue (byte ∷ [])))
    (queued (nat_lt (length t.queue) (room fifo t.size)))))
  where
    place : List ℕ
    place = shift_bytes t.shift_register

    queued : (b : Bool) →
        Within (held (if b
        then record t { queue = t.queue ++ byte ∷ []; is_thr_pending = false }
        else record t {
          queue = if fifo then t.queue else byte ∷ [];
          overflows = min (t.overflows + 1) (2 ^ 64 - 1);
          is_thr_pending = false;
        })) (place ++ (t.queue ++ byte ∷ []))
    queued true = within-refl (place ++ (t.queue ++ byte ∷ []))
    queued false = within-behind place
        (both_if (λ queue. Within queue (t.queue ++ byte ∷ [])) t.queue (byte ∷ []) fifo (within-front t.queue (byte ∷ []))
        (within-end t.queue (byte ∷ [])))

-- what is emptied leaves what is on its way
pub within_emptied : (c : ChipState) → Within (shift_bytes c.transmitter.shift_register ++ []) (line_in c)
within_emptied c =
    within-trans (within-behind (shift_bytes c.transmitter.shift_register) none)
    (within-end (waiting c.receiver) (held c.transmitter))

-- another write than one of MCR leaves loopback as it is
pub loops_write : (offset value : ℕ) → (offset == offsets.MCR) ≡ false → (c d : ChipState) → WriteMove offset value c d →
    is_loopback d.latches ≡ is_loopback c.latches
loops_write offset value m c d (steers e) = let no : true ≡ false = rw e at m in absurd (cc)
loops_write offset value m c d _ = refl

-- another write than one of the data or of MCR brings nothing
pub within_write : (offset value : ℕ) → (offset == offsets.DATA) ≡ false → (offset == offsets.MCR) ≡ false → (c d : ChipState) →
    WriteMove offset value c d → Within (line_in d) (line_in c)
within_write offset value n m c d (sends e q) = let no : true ≡ false = rw e at n in absurd (cc)
within_write offset value n m c d (steers e) = let no : true ≡ false = rw e at m in absurd (cc)
within_write offset value n m c d (switches e f on) = within_emptied c
within_write offset value n m c d (resizes e f) = within_emptied c
within_write offset value n m c d (clears e) = within-end (waiting c.receiver) (held c.transmitter)
within_write offset value n m c d (empties e) =
    within-behind (waiting c.receiver) (within-behind (shift_bytes c.transmitter.shift_register) none)
within_write offset value n m c d _ = within-refl (line_in c)
