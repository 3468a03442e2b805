-- In loopback what is sent is received: what is in the receiver, what is shifted and what is queued are one line.
use Rattle.std.proofs.Common.{◌≡◌, ℕ, zero, suc, ◌+◌, ◌≤◌, Bool, true, false, nat_lt, List, [], ◌∷◌, ◌++◌, length, map, append_assoc}
use Rattle.std.proofs.Common.{append-nil, length-append, Option, Some, None, refl, arith, sym, ◌∙◌, ap}
use Rattle.std.proofs.lemmas.Grind.{common_steps}
use Rattle.uart_events.specs.declared.event.Event.{Event}
use Rattle.uart_events.specs.declared.event.Event.TheVariants.{Ticks, Arrive, Lines, Access as Gate, Mark}
use Rattle.uart_chip.specs.declared.receiver.Character.{Character}
use Rattle.uart_chip.specs.declared.transmitter.Shifting.{Shifting}
use Rattle.uart_chip.specs.Transmitter as transmitter
use Rattle.uart_chip.specs.Transmitter.{TransmitterState, shift, looped_byte, refill, room, held}
use Rattle.uart_chip.specs.Receiver as receiver
use Rattle.uart_chip.specs.Receiver.{ReceiverState, come_back, waiting}
use Rattle.uart_chip.specs.Chip.{ChipState, cut_of, is_loopback, is_held_off, tick, ticks, arrive, change_lines}
use Rattle.uart_chip.specs.Machine.{perform, before_access}
use Rattle.uart_chip.proofs.conservation.Went.{Modes, IsIn, loopback, loopback-in}

-- ---- the line

-- what is in the receiver, and then what is still to be received, in order
abbrev pub line_of : TransmitterState → ReceiverState → List ℕ
line_of t r = waiting r ++ held t

abbrev pub line_in : ChipState → List ℕ
line_in c = line_of c.transmitter c.receiver

-- the line moves on, and nothing leaves it or comes to it
pub record Carries (t u : TransmitterState) (r s : ReceiverState) : Type 0 where
  pub line : line_of u s ≡ line_of t r
  pub wire : u.wire ≡ t.wire
  pub place : length u.queue ≤ length t.queue
  pub fuller : length r.queue ≤ length s.queue
  pub size : s.size ≡ r.size

pub carries-refl : (t : TransmitterState) (r : ReceiverState) → Carries t t r r
carries-refl t r = record { line = refl; wire = refl; place = omega arith; fuller = omega arith; size = refl }

carries-trans : (t u v : TransmitterState) (r s q : ReceiverState) → Carries t u r s → Carries u v s q → Carries t v r q
carries-trans t u v r s q a b =
    record {
      line = b.line ∙ a.line;
      wire = b.wire ∙ a.wire;
      place = omega (arith, a.place, b.place);
      fuller = omega (arith, a.fuller, b.fuller);
      size = b.size ∙ a.size;
    }

-- ---- a tick in loopback

carries_shift : (fifo : Bool) (place : Option Shifting) (t : TransmitterState) (r : ReceiverState) → t.shift_register ≡ place →
    length (line_of t r) ≤ room fifo r.size →
    Carries t (shift true place t) r (come_back fifo (looped_byte true place) r)
carries_shift fifo None t r e h = carries-refl t r
carries_shift fifo (Some s) t r e h = go (nat_lt 1 s.ticks_left) refl
  where
    bound : length (map (λ (c : Character). c.byte) r.queue ++ (s.byte ∷ t.queue)) ≤ room fifo r.size
    bound = rw e at h

    go : (b : Bool) → nat_lt 1 s.ticks_left ≡ b → Carries t (shift true (Some s) t) r (come_back fifo (looped_byte true (Some s)) r)
    go true g = rw g (record { line = rw e refl; wire = refl; place = omega arith; fuller = omega arith; size = refl })
    go false g =
        let free : nat_lt (length r.queue) (room fifo r.size) ≡ true = grind (arith, common_steps, bound) in
        rw (g, free)
        (record {
          line = rw e (grind (arith, common_steps));
          wire = refl;
          place = omega arith;
          fuller = simp length-append (omega arith);
          size = refl;
        })

carries_refill : (place : Option Shifting) (queue : List ℕ) (t : TransmitterState) (r : ReceiverState) → t.shift_register ≡ place →
    t.queue ≡ queue → Carries t (refill place queue t) r r
carries_refill (Some s) queue t r e f = carries-refl t r
carries_refill None [] t r e f = carries-refl t r
carries_refill None (x ∷ []) t r e f =
    record { line = rw (e, f) refl; wire = refl; place = rw f (omega arith); fuller = omega arith; size = refl }
carries_refill None (x ∷ y ∷ xs) t r e f =
    record { line = rw (e, f) refl; wire = refl; place = rw f (omega arith); fuller = omega arith; size = refl }

carries_tick : (fifo held_off : Bool) (t : TransmitterState) (r : ReceiverState) → length (line_of t r) ≤ room fifo r.size →
    Carries t (transmitter.tick true held_off t) r (receiver.tick fifo (looped_byte true t.shift_register) r)
carries_tick fifo true t r h =
    let a = carries_shift fifo t.shift_register t r refl h in
    record { line = a.line; wire = a.wire; place = a.place; fuller = a.fuller; size = a.size }
carries_tick fifo false t r h =
    let u : TransmitterState = shift true t.shift_register t in
    let s : ReceiverState = come_back fifo (looped_byte true t.shift_register) r in
    let a : Carries t u r s = carries_shift fifo t.shift_register t r refl h in
    let b : Carries t (transmitter.tick true false t) r s =
    carries-trans t u (transmitter.tick true false t) r s s a (carries_refill u.shift_register u.queue u s refl refl) in
    record { line = b.line; wire = b.wire; place = b.place; fuller = b.fuller; size = b.size }

-- ---- a stretch in loopback

-- from c to d these came to the line and these were read: what was read is the front of the line, what was written its end, and the wire
-- stays
pub record Loops (x : Modes) (c d : ChipState) (written read : List ℕ) : Type 0 where
  pub modes : IsIn x d
  pub line : read ++ line_in d ≡ line_in c ++ written
  pub wire : d.transmitter.wire ≡ c.transmitter.wire
  pub place : length d.transmitter.queue ≤ length c.transmitter.queue + length written
  pub fuller : length c.receiver.queue ≤ length d.receiver.queue + length read
  pub size : d.receiver.size ≡ c.receiver.size

-- one stretch and then another, which may begin in other modes
pub loops-trans : (x y : Modes) (c d e : ChipState) (ws vs rs qs : List ℕ) → Loops x c d ws rs → Loops y d e vs qs →
    Loops y c e (ws ++ vs) (rs ++ qs)
loops-trans x y c d e ws vs rs qs a b = record {
  modes = b.modes;
  line = append_assoc rs qs (line_in e) ∙
      (ap (λ zs. rs ++ zs) b.line ∙ (sym (append_assoc rs (line_in d) vs) ∙ (ap (λ zs. zs ++ vs) a.line ∙ append_assoc (line_in c) ws vs)));
  wire = b.wire ∙ a.wire;
  place = simp length-append (omega (arith, a.place, b.place));
  fuller = simp length-append (omega (arith, a.fuller, b.fuller));
  size = b.size ∙ a.size;
}

-- nothing is written or read
pub loops-still : (x : Modes) (c d : ChipState) → IsIn x d → Carries c.transmitter d.transmitter c.receiver d.receiver → Loops x c d [] []
loops-still x c d w a =
    record {
      modes = w;
      line = a.line ∙ sym (append-nil (line_in c));
      wire = a.wire;
      place = omega (arith, a.place);
      fuller = omega (arith, a.fuller);
      size = a.size;
    }

pub loops-refl : (x : Modes) (c : ChipState) → IsIn x c → Loops x c c [] []
loops-refl x c w = loops-still x c c w (carries-refl c.transmitter c.receiver)

-- how long the line is afterwards
pub line-length : (x : Modes) (c d : ChipState) (ws rs : List ℕ) → Loops x c d ws rs →
    length rs + length (line_in d) ≡ length (line_in c) + length ws
line-length x c d ws rs a = sym (length-append rs (line_in d)) ∙ (ap length a.line ∙ length-append (line_in c) ws)

-- a chip in these modes, of which loopback is one, whose line fits into the queue of the receiver
pub record Fits (x : Modes) (c : ChipState) : Type 0 where
  pub modes : IsIn x c
  pub few : length (line_in c) ≤ room x.fifo c.receiver.size

pub fits-after : (x y : Modes) (c d : ChipState) (rs : List ℕ) → y.fifo ≡ x.fifo → Fits x c → Loops y c d [] rs → Fits y d
fits-after x y c d rs same f a =
    let long = line-length y c d [] rs a in record { modes = a.modes; few = rw (same, a.size) (omega (arith, long, f.few)) }

-- ---- events

loops_tick : (x : Modes) (c : ChipState) → loopback x ≡ true → Fits x c → Loops x c (tick c) [] []
loops_tick x c l f =
    let few : length (line_in c) ≤ room c.fifo c.receiver.size = rw f.modes.fifo f.few in
    rw (in_loopback (loopback-in x c f.modes ∙ l))
    (loops-still x c _ (record { lcr = f.modes.lcr; mcr = f.modes.mcr; fifo = f.modes.fifo; cut = f.modes.cut })
    (carries_tick c.fifo (is_held_off c) c.transmitter c.receiver few))
  where
    in_loopback : is_loopback c.latches ≡ true →
        tick c ≡
        record c {
          transmitter = transmitter.tick true (is_held_off c) c.transmitter;
          receiver = receiver.tick c.fifo (looped_byte true c.transmitter.shift_register) c.receiver;
        }
    in_loopback e =
        ap (λ (b : Bool). record c {
          transmitter = transmitter.tick b (is_held_off c) c.transmitter;
          receiver = receiver.tick c.fifo (looped_byte b c.transmitter.shift_register) c.receiver;
        }) e

loops_ticks : (x : Modes) (n : ℕ) (c : ChipState) → loopback x ≡ true → Fits x c → Loops x c (ticks n c) [] []
loops_ticks x zero c l f = loops-refl x c f.modes
loops_ticks x (suc n) c l f =
    let a = loops_ticks x n c l f in
    loops-trans x x c (ticks n c) (ticks (suc n) c) [] [] [] [] a (loops_tick x (ticks n c) l (fits-after x x c (ticks n c) [] refl f a))

-- what arrives is discarded
loops_arrive : (x : Modes) (byte errors : ℕ) (c : ChipState) → loopback x ≡ true → Fits x c → Loops x c (arrive byte errors c) [] []
loops_arrive x byte errors c l f =
    let e : arrive byte errors c ≡ record c { receiver = receiver.arrive true c.fifo (cut_of c byte) errors c.receiver } =
    ap (λ (b : Bool). record c { receiver = receiver.arrive b c.fifo (cut_of c byte) errors c.receiver }) (loopback-in x c f.modes ∙ l) in
    rw e
    (loops-still x c _ (record { lcr = f.modes.lcr; mcr = f.modes.mcr; fifo = f.modes.fifo; cut = f.modes.cut })
    (record { line = refl; wire = refl; place = omega arith; fuller = omega arith; size = refl }))

loops_lines : (x : Modes) (inputs : ℕ) (c : ChipState) → Fits x c → Loops x c (change_lines inputs c) [] []
loops_lines x inputs c f =
    loops-still x c (change_lines inputs c) (record { lcr = f.modes.lcr; mcr = f.modes.mcr; fifo = f.modes.fifo; cut = f.modes.cut })
    (carries-refl c.transmitter c.receiver)

-- one event
loops_perform : (x : Modes) (event : Event) (c : ChipState) → loopback x ≡ true → Fits x c → Loops x c (perform event c) [] []
loops_perform x (Ticks n) c l f = loops_ticks x n c l f
loops_perform x (Arrive byte errors) c l f = loops_arrive x byte errors c l f
loops_perform x (Lines inputs) c l f = loops_lines x inputs c f
loops_perform x _ c l f = loops-refl x c f.modes

-- one event and then more
loops_more : (x : Modes) (c d e : ChipState) → Fits x c → Loops x c d [] [] → (Fits x d → Loops x d e [] []) → Loops x c e [] []
loops_more x c d e f a rest = loops-trans x x c d e [] [] [] [] a (rest (fits-after x x c d [] refl f a))

-- the events up to an access
pub loops_before : (x : Modes) (events : List Event) (c : ChipState) → loopback x ≡ true → Fits x c →
    Loops x c (before_access events c) [] []
loops_before x [] c l f = loops_tick x c l f
loops_before x (Gate ∷ events) c l f = loops-refl x c f.modes
loops_before x (Mark ∷ events) c l f = loops_tick x c l f
loops_before x (event ∷ events) c l f =
    loops_more x c (perform event c) _ f (loops_perform x event c l f) (λ g. loops_before x events (perform event c) l g)
