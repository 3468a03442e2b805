-- What a stretch of a session does to the transmitter: bytes are written, move on, and none is lost.
use Rattle.std.proofs.Common.{◌≡◌, ℕ, ◌+◌, ◌≤◌, ◌<◌, Bool, true, false, List, [], ◌∷◌, ◌++◌, length, length-append, append_assoc}
use Rattle.std.proofs.Common.{append-nil}
use Rattle.std.proofs.Common.{Option, Some, None, refl, arith, sym, ◌∙◌, ap}
use Rattle.std.proofs.lemmas.Grind.{common_steps}
use Rattle.uart_chip.specs.declared.transmitter.Shifting.{Shifting}
use Rattle.uart_chip.specs.Transmitter.{TransmitterState, shift, refill, tick, load, out, room}

-- from t to u these were written; the queue may have grown by no more than that, and the FIFO is as large as it was
pub record Sends (t u : TransmitterState) (written : List ℕ) : Type 0 where
  pub grows : out u ≡ out t ++ written
  pub same_overflows : u.overflows ≡ t.overflows
  pub place : length u.queue ≤ length t.queue + length written
  pub size : u.size ≡ t.size

pub sends-refl : (t : TransmitterState) → Sends t t []
sends-refl t = record { grows = sym (append-nil (out t)); same_overflows = refl; place = omega arith; size = refl }

pub sends-trans : (t u v : TransmitterState) (xs ys : List ℕ) → Sends t u xs → Sends u v ys → Sends t v (xs ++ ys)
sends-trans t u v xs ys a b = record {
  grows = b.grows ∙ (ap (λ zs. zs ++ ys) a.grows ∙ append_assoc (out t) xs ys);
  same_overflows = b.same_overflows ∙ a.same_overflows;
  place = simp length-append (omega (arith, a.place, b.place));
  size = b.size ∙ a.size;
}

-- the interrupt flag of the transmitter doesn't matter
pub sends-pending : (t : TransmitterState) (pending : Bool) → Sends t (record t { is_thr_pending = pending }) []
sends-pending t pending = record { grows = sym (append-nil (out t)); same_overflows = refl; place = omega arith; size = refl }

-- ---- a tick outside of loopback

sends-shift : (place : Option Shifting) (t : TransmitterState) → t.shift_register ≡ place → Sends t (shift false place t) []
sends-shift None t e = sends-refl t
sends-shift (Some s) t e = record {
  grows = grind (arith, common_steps);
  same_overflows = grind (arith, common_steps);
  place = grind (arith, common_steps);
  size = grind (arith, common_steps);
}

sends-refill : (place : Option Shifting) (queue : List ℕ) (t : TransmitterState) → t.shift_register ≡ place → t.queue ≡ queue →
    Sends t (refill place queue t) []
sends-refill (Some s) queue t e f = sends-refl t
sends-refill None [] t e f = sends-refl t
sends-refill None (x ∷ []) t e f = record {
  grows = grind (arith, common_steps);
  same_overflows = refl;
  place = grind (arith, common_steps);
  size = refl;
}
sends-refill None (x ∷ y ∷ xs) t e f = record {
  grows = grind (arith, common_steps);
  same_overflows = refl;
  place = grind (arith, common_steps);
  size = refl;
}

pub sends-tick : (held_off : Bool) (t : TransmitterState) → Sends t (tick false held_off t) []
sends-tick true t = sends-shift t.shift_register t refl
sends-tick false t =
    let u : TransmitterState = shift false t.shift_register t in
    sends-trans t u (tick false false t) [] [] (sends-shift t.shift_register t refl) (sends-refill u.shift_register u.queue u refl refl)

-- ---- a write with room

pub sends-load : (fifo : Bool) (x : ℕ) (t : TransmitterState) → length t.queue < room fifo t.size → Sends t (load fifo x t) (x ∷ [])
sends-load fifo x t free = record {
  grows = grind (arith, common_steps);
  same_overflows = grind (arith, common_steps);
  place = grind (arith, common_steps);
  size = grind (arith, common_steps);
}
