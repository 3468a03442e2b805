-- In loopback a transmitter that is flooded fills the receiver: a character is lost only where one of the two is full.
use Rattle.uart_run.proofs.Names.{◌≡◌, ◌⊎◌, ℕ, suc, ◌+◌, ◌≤◌, Bool, true, false, inl, inr, nat_lt, List, [], ◌∷◌, ◌++◌, length}
use Rattle.uart_run.proofs.Names.{length-append, Option, Some, None, refl, arith, sym, ◌∙◌, ap, common_steps, AllByRecursion, Character}
use Rattle.uart_run.proofs.Names.{Looped, Shifting, TransmitterState, shift, looped_byte, refill, load, room, shift_bytes, ReceiverState}
use Rattle.uart_run.proofs.Names.{enter, come_back, each-append}
use Rattle.uart_chip.specs.Transmitter as transmitter
use Rattle.uart_chip.specs.Receiver as receiver

-- each of these bytes is this one
abbrev pub AllAre : ℕ → List ℕ → Type 0
AllAre byte bytes = AllByRecursion (λ (other : ℕ). other ≡ byte) bytes

-- how many characters are in the two
abbrev pub held_by : TransmitterState → ReceiverState → ℕ
held_by t r = length r.queue + (length (shift_bytes t.shift_register) + length t.queue)

-- so many more fill the receiver; the wire is this, and this byte alone is on its way
pub record Fills (fifo : Bool) (gone : List ℕ) (byte more : ℕ) (t : TransmitterState) (r : ReceiverState) : Type 0 where
  pub wire : t.wire ≡ gone
  pub place : AllAre byte (shift_bytes t.shift_register)
  pub queue : AllAre byte t.queue
  pub enough : room fifo r.size ≤ held_by t r + more
  pub size : t.size ≡ r.size

-- ---- a character comes

-- the receiver is full, or it has one more
pub record Came (fifo : Bool) (r s : ReceiverState) : Type 0 where
  pub size : s.size ≡ r.size
  pub queue : (room fifo r.size ≤ length s.queue) ⊎ (length s.queue ≡ length r.queue + 1)

came_full : (fifo : Bool) (new : Character) (r : ReceiverState) (queue : List Character) → r.queue ≡ queue →
    nat_lt (length r.queue) (room fifo r.size) ≡ false → Came fifo r (enter fifo new r)
came_full true new r queue q e =
    let most : room true r.size ≤ length r.queue = grind (arith, common_steps) in rw e (record { size = refl; queue = inl most })
came_full false new r [] q e = let g : nat_lt 0 1 ≡ false = rw q at e in absurd (cc)
came_full false new r (old ∷ others) q e = rw (e, q) (record { size = refl; queue = inl (omega arith) })

came : (fifo : Bool) (new : Character) (r : ReceiverState) → Came fifo r (enter fifo new r)
came fifo new r = go (nat_lt (length r.queue) (room fifo r.size)) refl
  where
    go : (b : Bool) → nat_lt (length r.queue) (room fifo r.size) ≡ b → Came fifo r (enter fifo new r)
    go true e = rw e (record { size = refl; queue = inr (length-append r.queue (new ∷ [])) })
    go false e = came_full fifo new r r.queue refl e

-- ---- a tick in loopback

module _ (fifo : Bool) (gone : List ℕ) (byte more : ℕ) where
  fills_shift : (place : Option Shifting) (t : TransmitterState) (r : ReceiverState) → t.shift_register ≡ place →
      Fills fifo gone byte more t r → Fills fifo gone byte more (shift true place t) (come_back fifo (looped_byte true place) r)
  fills_shift None t r e f = f
  fills_shift (Some s) t r e f = go (nat_lt 1 s.ticks_left) refl
    where
      first : AllAre byte (s.byte ∷ [])
      first = rw e at f.place

      before : room fifo r.size ≤ (length r.queue + (1 + length t.queue)) + more
      before = rw e at f.enough

      back : (u : ReceiverState) → Came fifo r u → Fills fifo gone byte more (record t { shift_register = None }) u
      back u c =
          record { wire = f.wire; place = tt; queue = f.queue; enough = rw c.size (enough c.queue); size = f.size ∙ sym c.size }
        where
          enough : (room fifo r.size ≤ length u.queue) ⊎ (length u.queue ≡ length r.queue + 1) →
              room fifo r.size ≤ (length u.queue + (0 + length t.queue)) + more
          enough (inl full) = omega (arith, full)
          enough (inr one) = omega (arith, one, before)

      go : (b : Bool) → nat_lt 1 s.ticks_left ≡ b →
          Fills fifo gone byte more (shift true (Some s) t) (come_back fifo (looped_byte true (Some s)) r)
      go true g = rw g (record { wire = f.wire; place = (first.0, tt); queue = f.queue; enough = before; size = f.size })
      go false g =
          rw g
          (let new : Character = record { byte = s.byte; errors = 0; origin = Looped } in back (enter fifo new r) (came fifo new r))

  fills_refill : (place : Option Shifting) (queue : List ℕ) (t : TransmitterState) (r : ReceiverState) → t.shift_register ≡ place →
      t.queue ≡ queue → Fills fifo gone byte more t r → Fills fifo gone byte more (refill place queue t) r
  fills_refill (Some s) queue t r e q f = f
  fills_refill None [] t r e q f = f
  fills_refill None (x ∷ xs) t r e q f = go xs q
    where
      go : (xs : List ℕ) → t.queue ≡ x ∷ xs → Fills fifo gone byte more (refill None (x ∷ xs) t) r
      go [] q =
          let all : AllAre byte (x ∷ []) = rw q at f.queue in
          let enough : room fifo r.size ≤ (length r.queue + (0 + 1)) + more = rw (e, q) at f.enough in
          record { wire = f.wire; place = (all.0, tt); queue = tt; enough = omega (arith, enough); size = f.size }
      go (y ∷ ys) q =
          let all : AllAre byte (x ∷ y ∷ ys) = rw q at f.queue in
          let enough : room fifo r.size ≤ (length r.queue + (0 + length (x ∷ y ∷ ys))) + more = rw (e, q) at f.enough in
          record { wire = f.wire; place = (all.0, tt); queue = all.1; enough = omega (arith, enough); size = f.size }

  pub fills_tick : (held_off : Bool) (t : TransmitterState) (r : ReceiverState) → Fills fifo gone byte more t r →
      Fills fifo gone byte more (transmitter.tick true held_off t) (receiver.tick fifo (looped_byte true t.shift_register) r)
  fills_tick true t r f =
      let a = fills_shift t.shift_register t r refl f in
      record { wire = a.wire; place = a.place; queue = a.queue; enough = a.enough; size = a.size }
  fills_tick false t r f =
      let u : TransmitterState = shift true t.shift_register t in
      let s : ReceiverState = come_back fifo (looped_byte true t.shift_register) r in
      let a : Fills fifo gone byte more u s = fills_shift t.shift_register t r refl f in
      let b : Fills fifo gone byte more (transmitter.tick true false t) s = fills_refill u.shift_register u.queue u s refl refl a in
      record { wire = b.wire; place = b.place; queue = b.queue; enough = b.enough; size = b.size }

-- ---- a byte is written

full_load : (fifo : Bool) (gone : List ℕ) (byte more : ℕ) (t : TransmitterState) (r : ReceiverState) → Fills fifo gone byte (suc more) t r →
    nat_lt (length t.queue) (room fifo t.size) ≡ false → Fills fifo gone byte more (load fifo byte t) r
full_load true gone byte more t r f e =
    let most : room true t.size ≤ length t.queue = grind (arith, common_steps) in
    let same : room true t.size ≡ room true r.size = ap (room true) f.size in
    rw e (record { wire = f.wire; place = f.place; queue = f.queue; enough = omega (arith, most, same); size = f.size })
full_load false gone byte more t r f e =
    rw e (record { wire = f.wire; place = f.place; queue = (refl, tt); enough = omega arith; size = f.size })

pub fills_load : (fifo : Bool) (gone : List ℕ) (byte more : ℕ) (t : TransmitterState) (r : ReceiverState) →
    Fills fifo gone byte (suc more) t r → Fills fifo gone byte more (load fifo byte t) r
fills_load fifo gone byte more t r f = go (nat_lt (length t.queue) (room fifo t.size)) refl
  where
    go : (b : Bool) → nat_lt (length t.queue) (room fifo t.size) ≡ b → Fills fifo gone byte more (load fifo byte t) r
    go true e =
        let one : length (t.queue ++ byte ∷ []) ≡ length t.queue + 1 = length-append t.queue (byte ∷ []) in
        rw e
        (record {
          wire = f.wire;
          place = f.place;
          queue = each-append (λ (other : ℕ). other ≡ byte) t.queue (byte ∷ []) f.queue (refl, tt);
          enough = omega (arith, one, f.enough);
          size = f.size;
        })
    go false e = full_load fifo gone byte more t r f e
