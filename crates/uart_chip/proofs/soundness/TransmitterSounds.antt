-- Whatever happens to a transmitter or to the modem lines, they stay sound.
use Rattle.std.proofs.Common.{◌≡◌, ℕ, ◌-◌, ◌≤◌, ◌<◌, Bool, true, false, not, ◌&&◌, nat_lt, List, [], ◌∷◌, ◌++◌, length, Option, Some, None}
use Rattle.std.proofs.Common.{refl, arith, length-append, if◌then◌else◌, zero-le}
use Rattle.std.proofs.lemmas.Grind.{common_steps}
use Rattle.uart_chip.specs.declared.transmitter.Shifting.{Shifting}
use Rattle.uart_spec.specs.Bits.{IsWithin, has_any}
use Rattle.uart_spec.specs.declared.registers.modem_control.TheConstants.MCR
use Rattle.uart_spec.specs.declared.registers.modem_status.TheConstants.MSR
use Rattle.uart_chip.specs.Transmitter.{TransmitterState, room, shift, refill, tick, load}
use Rattle.uart_spec.specs.Lines.{is_changed, line_changes}
use Rattle.uart_chip.specs.Modem.{ModemState, looped_lines, lines_under, renew}
use Rattle.uart_chip.specs.Sound.{IsTicking, IsSoundTransmitter, IsSoundModem}
use Rattle.uart_chip.proofs.soundness.Within.{within_or, within_flags}

sound_if : (fifo : Bool) (x y : TransmitterState) (b : Bool) → (b ≡ true → IsSoundTransmitter fifo x) →
    (b ≡ false → IsSoundTransmitter fifo y) → IsSoundTransmitter fifo (if b then x else y)
sound_if fifo x y true p q = p refl
sound_if fifo x y false p q = q refl

-- a free shift register needs no ticks
sound_free : (fifo : Bool) (t : TransmitterState) → IsSoundTransmitter fifo t → IsSoundTransmitter fifo (record t { shift_register = None })
sound_free fifo t w = record { in_room = w.in_room; ticking = tt; at_least_one = w.at_least_one; at_most = w.at_most; on_wire = w.on_wire }

sound_sent : (fifo : Bool) (t : TransmitterState) (byte : ℕ) → IsSoundTransmitter fifo t → nat_lt (length t.wire) t.capacity ≡ true →
    IsSoundTransmitter fifo (record t { shift_register = None; wire = t.wire ++ byte ∷ [] })
sound_sent fifo t byte w e = record {
  in_room = w.in_room;
  ticking = tt;
  at_least_one = w.at_least_one;
  at_most = w.at_most;
  on_wire = next t.wire t.capacity e;
}
  where
    next : (wire : List ℕ) (n : ℕ) → nat_lt (length wire) n ≡ true → length (wire ++ byte ∷ []) ≤ n
    next wire n e = let free : length wire < n = grind (arith, common_steps) in simp length-append (omega arith)

pub sound_shift : (fifo loopback : Bool) (place : Option Shifting) (t : TransmitterState) → t.shift_register ≡ place →
    IsSoundTransmitter fifo t → IsSoundTransmitter fifo (shift loopback place t)
sound_shift fifo loopback None t e w = w
sound_shift fifo loopback (Some s) t e w =
    let ticking : IsTicking t.char_ticks (Some s) = rw e at w.ticking in
    sound_if fifo _ _ (nat_lt 1 s.ticks_left) (λ more. record {
      in_room = w.in_room;
      ticking = fewer s.ticks_left t.char_ticks more ticking.1;
      at_least_one = w.at_least_one;
      at_most = w.at_most;
      on_wire = w.on_wire;
    })
    (λ done. sound_if fifo _ _ loopback (λ back. sound_free fifo t w)
    (λ leaves. sound_if fifo _ _ (nat_lt (length t.wire) t.capacity) (sound_sent fifo t s.byte w) (λ full. w)))
  where
    fewer : (left n : ℕ) → nat_lt 1 left ≡ true → left ≤ n → (1 ≤ left - 1) × (left - 1 ≤ n)
    fewer left n e h = let more : 1 < left = grind (arith, common_steps) in (omega arith, omega arith)

pub sound_refill : (fifo : Bool) (place : Option Shifting) (queue : List ℕ) (t : TransmitterState) → t.queue ≡ queue →
    IsSoundTransmitter fifo t → IsSoundTransmitter fifo (refill place queue t)
sound_refill fifo (Some s) queue t e w = w
sound_refill fifo None [] t e w = w
sound_refill fifo None (x ∷ []) t e w = record {
  in_room = zero-le;
  ticking = (w.at_least_one, omega arith);
  at_least_one = w.at_least_one;
  at_most = w.at_most;
  on_wire = w.on_wire;
}
sound_refill fifo None (x ∷ y ∷ xs) t e w =
    let few : length (x ∷ y ∷ xs) ≤ room fifo t.size = rw e at w.in_room in
    record {
      in_room = omega (arith, few);
      ticking = (w.at_least_one, omega arith);
      at_least_one = w.at_least_one;
      at_most = w.at_most;
      on_wire = w.on_wire;
    }

pub sound_tick : (fifo loopback held_off : Bool) (t : TransmitterState) → IsSoundTransmitter fifo t →
    IsSoundTransmitter fifo (tick loopback held_off t)
sound_tick fifo loopback true t w = sound_shift fifo loopback t.shift_register t refl w
sound_tick fifo loopback false t w =
    let u : TransmitterState = shift loopback t.shift_register t in
    sound_refill fifo u.shift_register u.queue u refl (sound_shift fifo loopback t.shift_register t refl w)

pub sound_load : (fifo : Bool) (byte : ℕ) (t : TransmitterState) → IsSoundTransmitter fifo t → IsSoundTransmitter fifo (load fifo byte t)
sound_load fifo byte t w =
    sound_if fifo _ _ (nat_lt (length t.queue) (room fifo t.size)) (λ free. record {
      in_room = next t.queue (room fifo t.size) free;
      ticking = w.ticking;
      at_least_one = w.at_least_one;
      at_most = w.at_most;
      on_wire = w.on_wire;
    })
    (λ full. record {
      in_room = kept fifo w.in_room;
      ticking = w.ticking;
      at_least_one = w.at_least_one;
      at_most = w.at_most;
      on_wire = w.on_wire;
    })
  where
    next : (queue : List ℕ) (n : ℕ) → nat_lt (length queue) n ≡ true → length (queue ++ byte ∷ []) ≤ n
    next queue n e = let free : length queue < n = grind (arith, common_steps) in simp length-append (omega arith)

    kept : (fifo : Bool) → length t.queue ≤ room fifo t.size → length (if fifo then t.queue else byte ∷ []) ≤ room fifo t.size
    kept true h = h
    kept false h = omega arith

-- an empty queue fits with FIFO or without
pub sound_clear : (fifo on pending : Bool) (t : TransmitterState) → IsSoundTransmitter fifo t →
    IsSoundTransmitter on (record t { queue = []; is_thr_pending = pending })
sound_clear fifo on pending t w =
    record { in_room = zero-le; ticking = w.ticking; at_least_one = w.at_least_one; at_most = w.at_most; on_wire = w.on_wire }

pub sound_pending : (fifo pending : Bool) (t : TransmitterState) → IsSoundTransmitter fifo t →
    IsSoundTransmitter fifo (record t { is_thr_pending = pending })
sound_pending fifo pending t w =
    record { in_room = w.in_room; ticking = w.ticking; at_least_one = w.at_least_one; at_most = w.at_most; on_wire = w.on_wire }

-- ---- the modem lines

lines-within : (mcr inputs : ℕ) → IsWithin inputs MSR.LINES.0 → IsWithin (lines_under mcr inputs) MSR.LINES.0
lines-within mcr inputs w = go (has_any mcr MCR.LOOP_BACK.0)
  where
    go : (b : Bool) → IsWithin (if b then looped_lines mcr else inputs) MSR.LINES.0
    go true =
        within_flags (has_any mcr MCR.RTS.0) (has_any mcr MCR.DTR.0) (has_any mcr MCR.OUT_1.0)
        (has_any mcr MCR.OUT_2_INT_ENABLE.0) MSR.CTS.0 MSR.DSR.0 MSR.RI.0 MSR.CD.0 MSR.LINES.0
        refl refl refl refl refl
    go false = w

changes-within : (old new : ℕ) → IsWithin (line_changes old new) MSR.CHANGES.0
changes-within old new =
    within_flags (is_changed old new MSR.CTS.0) (is_changed old new MSR.DSR.0) (has_any old MSR.RI.0 && not (has_any new MSR.RI.0))
    (is_changed old new MSR.CD.0)
    MSR.DELTA_CTS.0 MSR.DELTA_DSR.0 MSR.TRAILING_EDGE_RI.0 MSR.DELTA_CD.0 MSR.CHANGES.0 refl refl refl refl refl

pub sound_renew : (mcr inputs : ℕ) (m : ModemState) → IsWithin inputs MSR.LINES.0 → IsSoundModem m →
    IsSoundModem (renew mcr (record m { inputs = inputs }))
sound_renew mcr inputs m i w = record {
  inputs = i;
  lines = lines-within mcr inputs i;
  deltas = within_or m.deltas (line_changes m.lines (lines_under mcr inputs)) MSR.CHANGES.0 w.deltas
      (changes-within m.lines (lines_under mcr inputs));
}
