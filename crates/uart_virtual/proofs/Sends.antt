-- A byte that the guest writes while the transmitter is idle is on the output after the time of the call.
use Rattle.std.proofs.Common.{◌≡◌, ℕ, ◌+◌, Bool, true, false}
use Rattle.std.proofs.Common.{◌==◌, ◌⊎◌, inl, inr, min, nat_lt, List, [], ◌∷◌}
use Rattle.std.proofs.Common.{length, Option, Some, None, is_some, refl, ap, sym, ◌∙◌, subst, arith}
use Rattle.std.proofs.lemmas.Grind.{common_steps}
use Rattle.uart_spec.specs.declared.registers.offsets.TheConstants as offsets
use Rattle.uart_spec.specs.FifoSize.{characters}
use Rattle.uart_spec.specs.declared.setup.FifoSize.{FifoSize}
use Rattle.uart_chip.specs.declared.transmitter.Shifting.{Shifting}
use Rattle.uart_chip.specs.Transmitter as transmitter
use Rattle.uart_chip.specs.Transmitter.{TransmitterState, room, looped_byte, load}
use Rattle.uart_chip.specs.Receiver as receiver
use Rattle.uart_chip.specs.Receiver.{ReceiverState}
use Rattle.uart_chip.specs.Chip.{ChipState, tick, ticks, is_loopback, is_held_off, cut_of, after_write}
use Rattle.uart_chip.specs.Sending.{sends_at_once, put_on_wire, send_at_once}
use Rattle.uart_chip.specs.Sound.{IsSoundChip}
use Rattle.uart_chip.proofs.Jumps.{ticks-add}
use Rattle.uart_chip.proofs.Sizes.{some_room}
use Rattle.uart_chip.proofs.soundness.Sounds.{steady_ticks, steady_write}
use Rattle.uart_live.proofs.Sends.{Sends, sends}
use Rattle.uart_virtual.specs.declared.told.Kind.{Kind}
use Rattle.uart_virtual.specs.declared.told.Told.{Told}
use Rattle.uart_virtual.specs.Port.{settle, settle_ticks, IsStill, tell, todo_of}
use Rattle.uart_virtual.proofs.Times.{still_ticks, tick-shifted, last_tick}

-- nothing in the queue and in the shift register
abbrev idle : TransmitterState → TransmitterState
idle t = record t { queue = []; shift_register = None }

-- the byte in the queue, in the shift register, on the wire
abbrev queued : ℕ → TransmitterState → TransmitterState
queued byte t = record t { queue = byte ∷ []; shift_register = None; is_thr_pending = false }

abbrev shifted : ℕ → TransmitterState → TransmitterState
shifted byte t =
    record t { queue = []; shift_register = Some (record { byte = byte; ticks_left = t.char_ticks }); is_thr_pending = true }

-- an empty queue has room, whatever its size
pub empty_has_room : (fifo : Bool) (size : FifoSize) → nat_lt 0 (room fifo size) ≡ true
empty_has_room fifo size = let some = some_room fifo size in grind (arith, common_steps)

load-idle : (fifo : Bool) (byte : ℕ) (t : TransmitterState) → load fifo byte (idle t) ≡ queued byte t
load-idle fifo byte t = rw (empty_has_room fifo t.size) refl

first-tick : (byte : ℕ) (t : TransmitterState) → transmitter.tick false false (queued byte t) ≡ shifted byte t
first-tick byte t = refl

second-tick : (byte : ℕ) (t : TransmitterState) → t.char_ticks ≡ 1 → nat_lt (length t.wire) t.capacity ≡ true →
    transmitter.tick false false (shifted byte t) ≡ put_on_wire byte (idle t)
second-tick byte t one room =
    let last : nat_lt 1 t.char_ticks ≡ false = last_tick t.char_ticks (omega (arith, one)) (omega (arith, one)) in
    tick-shifted false (shifted byte t) (put_on_wire byte (idle t)) (rw (last, room) refl)

-- a receiver whose timeout is due stays as it is
receiver-still : (loopback fifo : Bool) (place : Option Shifting) (r : ReceiverState) → loopback ≡ false →
    r.timeout_ticks ≡ r.timeout_limit → receiver.tick fifo (looped_byte loopback place) r ≡ r
receiver-still true fifo place r l due = absurd (cc)
receiver-still false fifo place r l due =
    ap (λ (i : ℕ). record r { timeout_ticks = i }) (more r.timeout_ticks r.timeout_limit due)
  where
    more : (i limit : ℕ) → i ≡ limit → min (i + 1) limit ≡ i
    more i limit e = omega (arith, e)

tick-outside : (c : ChipState) (t : TransmitterState) → is_loopback c.latches ≡ false → is_held_off c ≡ false →
    c.receiver.timeout_ticks ≡ c.receiver.timeout_limit → transmitter.tick false false c.transmitter ≡ t →
    tick c ≡ record c { transmitter = t }
tick-outside c t outside goes_on due e =
    let place : Option Shifting = c.transmitter.shift_register in
    ap (λ (r : ReceiverState). record c {
      transmitter = transmitter.tick (is_loopback c.latches) (is_held_off c) c.transmitter;
      receiver = r;
    }) (receiver-still (is_loopback c.latches) c.fifo place c.receiver outside due) ∙
    (ap (λ (b : Bool). record c { transmitter = transmitter.tick b (is_held_off c) c.transmitter }) outside ∙
    (ap (λ (b : Bool). record c { transmitter = transmitter.tick false b c.transmitter }) goes_on ∙
    ap (λ (u : TransmitterState). record c { transmitter = u }) e))

nothing : (queue : List ℕ) → (length queue == 0) ≡ true → queue ≡ []
nothing [] e = refl
nothing (x ∷ xs) e = let no : false ≡ true = grind (arith, common_steps) in absurd (cc)

nowhere : (place : Option Shifting) → is_some place ≡ false → place ≡ None
nowhere None e = refl
nowhere (Some s) e = absurd (cc)

-- a chip with an idle transmitter is that chip
with_idle : (c : ChipState) → Sends c → record c { transmitter = idle c.transmitter } ≡ c
with_idle c s =
    ap (λ (queue : List ℕ). record c { transmitter = record c.transmitter { queue = queue; shift_register = None } })
    (sym (nothing c.transmitter.queue s.empty)) ∙
    ap (λ (place : Option Shifting). record c { transmitter = record c.transmitter { shift_register = place } })
    (sym (nowhere c.transmitter.shift_register s.free))

-- two ticks after a write of DATA
pub two_ticks : (value : ℕ) (c : ChipState) → IsStill c → Sends c →
    tick (tick (after_write offsets.DATA value c)) ≡ send_at_once value c
two_ticks value c still s =
    let t : TransmitterState = c.transmitter in
    let byte : ℕ = cut_of c value in
    let idle_is : idle t ≡ t = ap (λ (d : ChipState). d.transmitter) (with_idle c s) in
    let loaded : load c.fifo byte t ≡ queued byte t =
    ap (λ (u : TransmitterState). load c.fifo byte u) (sym idle_is) ∙ load-idle c.fifo byte t in
    let written : after_write offsets.DATA value c ≡ record c { transmitter = queued byte t } =
    rw s.latched (ap (λ (u : TransmitterState). record c { transmitter = u }) loaded) in
    let first : tick (record c { transmitter = queued byte t }) ≡ record c { transmitter = shifted byte t } =
    tick-outside (record c { transmitter = queued byte t }) (shifted byte t) s.outside s.goes_on still.due (first-tick byte t) in
    let second : tick (record c { transmitter = shifted byte t }) ≡ record c { transmitter = put_on_wire byte (idle t) } =
    tick-outside (record c { transmitter = shifted byte t }) (put_on_wire byte (idle t)) s.outside s.goes_on still.due
    (second-tick byte t still.paced.takes s.room) in
    ap (λ (d : ChipState). tick (tick d)) written ∙
    (ap tick first ∙ (second ∙ ap (λ (u : TransmitterState). record c { transmitter = put_on_wire byte u }) idle_is))

-- it is still then
still_sent : (value : ℕ) (c : ChipState) → IsStill c → Sends c → IsStill (send_at_once value c)
still_sent value c still s = record {
  paced = record { takes = still.paced.takes; room = still.paced.room };
  unmoved = rw (nothing c.transmitter.queue s.empty, nowhere c.transmitter.shift_register s.free) refl;
  due = still.due;
}

ticks-sent : (n value : ℕ) (c : ChipState) → IsSoundChip c → IsStill c → Sends c →
    ticks (n + 2) (after_write offsets.DATA value c) ≡ send_at_once value c
ticks-sent n value c w still s =
    let d : ChipState = after_write offsets.DATA value c in
    let two : ticks 2 d ≡ send_at_once value c = two_ticks value c still s in
    let sound : IsSoundChip (send_at_once value c) =
    subst (λ (e : ChipState). IsSoundChip e) two (steady_ticks 2 d (steady_write offsets.DATA value c w).sound).sound in
    ticks-add n 2 d ∙ (ap (λ (e : ChipState). ticks n e) two ∙
    still_ticks n (send_at_once value c) sound (still_sent value c still s))

-- after the time of a call the byte is on the output, and the chip is still
pub settle-sent : (value : ℕ) (c : ChipState) → IsSoundChip c → IsStill c → sends_at_once c ≡ true →
    (settle (after_write offsets.DATA value c) ≡ send_at_once value c) × IsStill (send_at_once value c)
unfolding settle_ticks
settle-sent value c w still e = (
  ap (λ (n : ℕ). ticks n d) many ∙ ticks-sent (characters d.transmitter.size + 4) value c w still (sends c e),
  still_sent value c still (sends c e),
)
  where
    d : ChipState
    d = after_write offsets.DATA value c

    many : settle_ticks d.transmitter.size ≡ (characters d.transmitter.size + 4) + 2
    many = omega arith

-- ---- what is told

-- if the line was down before, whether it was up all the time makes no difference
was_down : (told : Told) → told.line ≡ false → record told { line = false } ≡ told
was_down told e = ap (λ (line : Bool). record told { line = line }) (sym e)

same_told : (kind : Kind) (v w : Bool) (ended : ChipState) (told : Told) → told.line ≡ false →
    tell kind v ended told ≡ tell kind w ended told
same_told kind v w ended told e =
    subst (λ (t : Told). tell kind v ended t ≡ tell kind w ended t) (was_down told e) refl

same_todo : (kind : Kind) (v w : Bool) (ended : ChipState) (told : Told) → told.line ≡ false →
    todo_of kind v ended told ≡ todo_of kind w ended told
same_todo kind v w ended told e =
    subst (λ (t : Told). todo_of kind v ended t ≡ todo_of kind w ended t) (was_down told e) refl

-- the same, or the line was down before
pub told_alike : (kind : Kind) (v w : Bool) (ended : ChipState) (told : Told) → ((told.line ≡ false) ⊎ (v ≡ w)) →
    tell kind v ended told ≡ tell kind w ended told
told_alike kind v w ended told (inl e) = same_told kind v w ended told e
told_alike kind v w ended told (inr e) = ap (λ (up : Bool). tell kind up ended told) e

pub todo_alike : (kind : Kind) (v w : Bool) (ended : ChipState) (told : Told) → ((told.line ≡ false) ⊎ (v ≡ w)) →
    todo_of kind v ended told ≡ todo_of kind w ended told
todo_alike kind v w ended told (inl e) = same_todo kind v w ended told e
todo_alike kind v w ended told (inr e) = ap (λ (up : Bool). todo_of kind up ended told) e
