-- What lasts between the accesses: an empty transmitter stays empty, and a character that waits stays.
use Rattle.std.proofs.Common.{◌≡◌, ℕ, suc, ◌+◌, Bool, true, false, nat_lt, List, [], ◌∷◌, ◌++◌, length, Option, Some, None, refl}
use Rattle.std.proofs.Common.{arith, ◌∙◌, ap, if◌then◌else◌}
use Rattle.std.proofs.lemmas.Bool.{lt-ltb}
use Rattle.uart_chip.specs.declared.receiver.Character.{Character}
use Rattle.uart_chip.specs.declared.transmitter.Shifting.{Shifting}
use Rattle.uart_chip.specs.Transmitter as transmitter
use Rattle.uart_chip.specs.Transmitter.{TransmitterState, shift, refill, looped_byte, room}
use Rattle.uart_chip.specs.Receiver.{ReceiverState, enter, come_back, replace}
use Rattle.uart_chip.specs.Chip.{ChipState, is_loopback, tick, arrive}
use Rattle.uart_chip.proofs.lasting.Lasting.{Lasts}
use Rattle.uart_judges.specs.declared.replay.known.Sender.{Sender}
use Rattle.uart_judges.specs.declared.replay.known.Sender.TheVariants.{Unknown, ThrEmpty, Idle}

-- ---- the transmitter

-- the transmitter is as it is known
abbrev pub SenderHolds : Sender → TransmitterState → Type 0
SenderHolds Unknown t = Unit {0}
SenderHolds ThrEmpty t = t.queue ≡ []
SenderHolds Idle t = (t.queue ≡ []) × (t.shift_register ≡ None)

queue_if : (t u v : TransmitterState) (b : Bool) → u.queue ≡ t.queue → v.queue ≡ t.queue → (if b then u else v).queue ≡ t.queue
queue_if t u v true p q = p
queue_if t u v false p q = q

queue-shift : (loopback : Bool) (place : Option Shifting) (t : TransmitterState) → (shift loopback place t).queue ≡ t.queue
queue-shift loopback None t = refl
queue-shift loopback (Some s) t =
    queue_if t _ _ (nat_lt 1 s.ticks_left) refl
    (queue_if t _ _ loopback refl (queue_if t _ _ (nat_lt (length t.wire) t.capacity) refl refl))

queue-refill : (place : Option Shifting) (queue : List ℕ) (t : TransmitterState) → queue ≡ [] → t.queue ≡ [] →
    (refill place queue t).queue ≡ []
queue-refill (Some s) queue t e f = f
queue-refill None [] t e f = f
queue-refill None (x ∷ []) t e f = absurd (cc)
queue-refill None (x ∷ y ∷ xs) t e f = absurd (cc)

queue-tick : (loopback held_off : Bool) (t : TransmitterState) → t.queue ≡ [] → (transmitter.tick loopback held_off t).queue ≡ []
queue-tick loopback true t e = queue-shift loopback t.shift_register t ∙ e
queue-tick loopback false t e =
    let u : TransmitterState = shift loopback t.shift_register t in
    let f : u.queue ≡ [] = queue-shift loopback t.shift_register t ∙ e in
    queue-refill u.shift_register u.queue u f f

still-shift : (loopback : Bool) (place : Option Shifting) (t : TransmitterState) → place ≡ None → shift loopback place t ≡ t
still-shift loopback None t e = refl
still-shift loopback (Some s) t e = absurd (cc)

still-refill : (place : Option Shifting) (queue : List ℕ) (t : TransmitterState) → place ≡ None → queue ≡ [] → refill place queue t ≡ t
still-refill None [] t e f = refl
still-refill None (x ∷ xs) t e f = absurd (cc)
still-refill (Some s) queue t e f = absurd (cc)

still-tick : (loopback held_off : Bool) (t : TransmitterState) → t.queue ≡ [] → t.shift_register ≡ None →
    transmitter.tick loopback held_off t ≡ t
still-tick loopback true t e f = still-shift loopback t.shift_register t f
still-tick loopback false t e f =
    let u : TransmitterState = shift loopback t.shift_register t in
    let same : u ≡ t = still-shift loopback t.shift_register t f in
    let queue : u.queue ≡ [] = ap (λ (u : TransmitterState). u.queue) same ∙ e in
    let place : u.shift_register ≡ None = ap (λ (u : TransmitterState). u.shift_register) same ∙ f in
    still-refill u.shift_register u.queue u place queue ∙ same

pub sender_lasts : (sender : Sender) → Lasts (SenderHolds sender)
sender_lasts Unknown = record {
  in_accesses = record { pending = λ t pending h. tt; cleared = λ t pending h. tt; resized = λ t size h. tt };
  in_tick = λ loopback held_off t h. tt;
}
sender_lasts ThrEmpty = record {
  in_accesses = record { pending = λ t pending h. h; cleared = λ t pending h. refl; resized = λ t size h. refl };
  in_tick = λ loopback held_off t h. queue-tick loopback held_off t h;
}
sender_lasts Idle = record {
  in_accesses = record { pending = λ t pending h. h; cleared = λ t pending h. (refl, h.1); resized = λ t size h. (refl, h.1) };
  in_tick =
      λ loopback held_off t h. (
        ap (λ (u : TransmitterState). u.queue) (still-tick loopback held_off t h.0 h.1) ∙ h.0,
        ap (λ (u : TransmitterState). u.shift_register) (still-tick loopback held_off t h.0 h.1) ∙ h.1,
      );
}

-- ---- the receiver

-- a character waits
abbrev pub HasCharacter : ReceiverState → Type 0
HasCharacter r = nat_lt 0 (length r.queue) ≡ true

has_if : (r s : ReceiverState) (b : Bool) → HasCharacter r → HasCharacter s → HasCharacter (if b then r else s)
has_if r s true p q = p
has_if r s false p q = q

-- a number that is not zero
pub positive : (n : ℕ) → nat_lt 0 (suc n) ≡ true
positive n = lt-ltb 0 (suc n) (omega arith)

longer : (queue : List Character) (new : Character) → nat_lt 0 (length (queue ++ new ∷ [])) ≡ true
longer [] new = refl
longer (x ∷ xs) new = positive (length (xs ++ new ∷ []))

has-replace : (queue : List Character) (new : Character) (r : ReceiverState) → HasCharacter r → HasCharacter (replace queue new r)
has-replace [] new r h = h
has-replace (old ∷ others) new r h = refl

has-enter : (fifo : Bool) (new : Character) (r : ReceiverState) → HasCharacter r → HasCharacter (enter fifo new r)
has-enter fifo new r h =
    has_if _ _ (nat_lt (length r.queue) (room fifo r.size)) (longer r.queue new) (has_if _ _ fifo h (has-replace r.queue new r h))

has-come_back : (fifo : Bool) (looped : Option ℕ) (r : ReceiverState) → HasCharacter r → HasCharacter (come_back fifo looped r)
has-come_back fifo None r h = h
has-come_back fifo (Some byte) r h = has-enter fifo _ r h

pub has-tick : (c : ChipState) → HasCharacter c.receiver → HasCharacter (tick c).receiver
has-tick c h = has-come_back c.fifo (looped_byte (is_loopback c.latches) c.transmitter.shift_register) c.receiver h

pub has-arrive : (byte errors : ℕ) (c : ChipState) → HasCharacter c.receiver → HasCharacter (arrive byte errors c).receiver
has-arrive byte errors c h =
    has_if _ _ (is_loopback c.latches) h (has-enter c.fifo _ (record c.receiver { arrived = c.receiver.arrived + 1 }) h)
