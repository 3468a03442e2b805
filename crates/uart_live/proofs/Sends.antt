-- A byte that goes onto the wire at once leaves a live chip live.
use Rattle.std.proofs.Common.{◌≡◌, ℕ, ◌≤◌, ◌<◌, Bool, true, false, not, ◌&&◌, ◌==◌, nat_lt, [], ◌∷◌, ◌++◌, length, is_some, refl, arith}
use Rattle.std.proofs.lemmas.Grind.{common_steps}
use Rattle.std.proofs.lemmas.List.{length-append}
use Rattle.uart_chip.specs.Chip.{ChipState, cut_of, is_dlab_set, is_loopback, is_held_off}
use Rattle.uart_chip.specs.Sending.{sends_at_once, put_on_wire, send_at_once}
use Rattle.uart_chip.proofs.soundness.Sounds.{steady_transmitter}
use Rattle.uart_live.specs.Live.{IsLive}
use Rattle.uart_live.proofs.Lives.{live-part}
use Rattle.uart_spec.specs.declared.setup.FifoSize.{FifoSize}

-- both tests succeed
pub each : (a b : Bool) → (a && b) ≡ true → (a ≡ true) × (b ≡ true)
each true b e = (refl, e)
each false b e = absurd (cc)

-- what the test says, part by part
pub record Sends (c : ChipState) : Type 0 where
  pub latched : is_dlab_set c.latches ≡ false
  pub outside : is_loopback c.latches ≡ false
  pub goes_on : is_held_off c ≡ false
  pub empty : (length c.transmitter.queue == 0) ≡ true
  pub free : is_some c.transmitter.shift_register ≡ false
  pub room : nat_lt (length c.transmitter.wire) c.transmitter.capacity ≡ true

pub unset : (b : Bool) → not b ≡ true → b ≡ false
unset true e = absurd (cc)
unset false e = refl

pub sends : (c : ChipState) → sends_at_once c ≡ true → Sends c
sends c e =
    let a = each (not (is_dlab_set c.latches)) _ e in
    let b = each (not (is_loopback c.latches)) _ a.1 in
    let g = each (not (is_held_off c)) _ b.1 in
    let d = each (length c.transmitter.queue == 0) _ g.1 in
    let f = each (not (is_some c.transmitter.shift_register)) _ d.1 in
    record { latched = unset _ a.0; outside = unset _ b.0; goes_on = unset _ g.0; empty = d.0; free = unset _ f.0; room = f.1 }

pub live-send : {size : FifoSize} (value : ℕ) (c : ChipState) → sends_at_once c ≡ true → IsLive size c → IsLive size (send_at_once value c)
live-send value c e w =
    let t = w.whole.sound.chip.transmitter in
    let free : nat_lt (length c.transmitter.wire) c.transmitter.capacity ≡ true = (sends c e).room in
    let fits : length c.transmitter.wire < c.transmitter.capacity = grind (arith, common_steps) in
    let more : length (c.transmitter.wire ++ cut_of c value ∷ []) ≤ c.transmitter.capacity =
    rw (length-append c.transmitter.wire (cut_of c value ∷ [])) (omega (arith, fits)) in
    live-part c (send_at_once value c) w
    (steady_transmitter c (put_on_wire (cut_of c value) c.transmitter) w.whole.sound.chip
    (record { in_room = t.in_room; ticking = t.ticking; at_least_one = t.at_least_one; at_most = t.at_most; on_wire = more })
    refl refl) refl
    (w.none_lost, ((w.room, w.size), (w.flow, w.switch)))
