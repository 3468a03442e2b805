-- What a flood leaves in the transmitter: once the FIFOs are reset, at most the character in the shift register goes out.
use Rattle.uart_run.proofs.Names.{◌≡◌, ◌⊎◌, ℕ, Bool, true, false, inl, inr, nat_lt, List, [], ◌∷◌, ◌++◌, length, append-nil, Option, Some}
use Rattle.uart_run.proofs.Names.{None, refl, ◌∙◌, Path, Access, FifoTriggerLevel, One, has_any, fifo_bits, Chip, Uart16550A, Shifting}
use Rattle.uart_run.proofs.Names.{TransmitterState, shift, refill, shift_bytes, out, FifoSize, ChipState, switch, is_same, switched_size}
use Rattle.uart_run.proofs.Names.{is_switching, switch_size, set_fifo, control, reset_receiver, reset_transmitter, MachineState}
use Rattle.uart_run.proofs.Names.{MachineStep, Lasts, AllSendNothing, lasts-path}
use Rattle.uart_spec.specs.declared.registers.fifo_control.TheConstants.FCR
use Rattle.uart_chip.specs.Transmitter.{tick}
use Rattle.uart_run.proofs.sizing.Filling.{AllAre}

-- nothing is queued, and of this byte at most one is in the shift register, or has followed what was on the wire
pub record SendsLast (gone : List ℕ) (byte : ℕ) (t : TransmitterState) : Type 0 where
  pub queue : t.queue ≡ []
  pub rest : ((t.wire ≡ gone) × AllAre byte (shift_bytes t.shift_register))
      ⊎ ((t.wire ≡ gone ++ byte ∷ []) × (t.shift_register ≡ None))

module _ (gone : List ℕ) (byte : ℕ) where
  -- ---- it lasts

  last_shift : (loopback : Bool) (place : Option Shifting) (t : TransmitterState) → t.shift_register ≡ place → SendsLast gone byte t →
      SendsLast gone byte (shift loopback place t)
  last_shift loopback None t e w = w
  last_shift loopback (Some s) t e w = go w.rest
    where
      go : ((t.wire ≡ gone) × AllAre byte (shift_bytes t.shift_register)) ⊎ ((t.wire ≡ gone ++ byte ∷ []) × (t.shift_register ≡ None)) →
          SendsLast gone byte (shift loopback (Some s) t)
      go (inr p) = absurd (cc (e, p.1))
      go (inl p) = shifts (nat_lt 1 s.ticks_left) refl loopback refl (nat_lt (length t.wire) t.capacity) refl
        where
          first : AllAre byte (s.byte ∷ [])
          first = rw e at p.1

          shifts : (b : Bool) → nat_lt 1 s.ticks_left ≡ b → (c : Bool) → loopback ≡ c → (d : Bool) →
              nat_lt (length t.wire) t.capacity ≡ d → SendsLast gone byte (shift loopback (Some s) t)
          shifts true g c h d k = rw g (record { queue = w.queue; rest = inl (p.0, (first.0, tt)) })
          shifts false g true h d k = rw (g, h) (record { queue = w.queue; rest = inl (p.0, tt) })
          shifts false g false h true k =
              rw (g, h, k) (record { queue = w.queue; rest = inr (rw (p.0, first.0) refl, refl) })
          shifts false g false h false k = rw (g, h, k) w

  last_refill : (place : Option Shifting) (queue : List ℕ) (t : TransmitterState) → queue ≡ [] → SendsLast gone byte t →
      SendsLast gone byte (refill place queue t)
  last_refill (Some s) queue t e w = w
  last_refill None [] t e w = w
  last_refill None (x ∷ xs) t e w = absurd (cc)

  last_tick : (loopback held_off : Bool) (t : TransmitterState) → SendsLast gone byte t → SendsLast gone byte (tick loopback held_off t)
  last_tick loopback true t w = last_shift loopback t.shift_register t refl w
  last_tick loopback false t w =
      let u : TransmitterState = shift loopback t.shift_register t in
      let v : SendsLast gone byte u = last_shift loopback t.shift_register t refl w in
      last_refill u.shift_register u.queue u v.queue v

  last_lasts : Lasts (SendsLast gone byte)
  last_lasts = record {
    in_accesses = record {
      pending = λ t pending w. record { queue = w.queue; rest = w.rest };
      cleared = λ t pending w. record { queue = refl; rest = w.rest };
      resized = λ t size w. record { queue = refl; rest = w.rest };
    };
    in_tick = λ loopback held_off t w. last_tick loopback held_off t w;
  }

  pub last_path : (made : List Access) (m n : MachineState) → AllSendNothing made → SendsLast gone byte m.chip.transmitter →
      Path MachineStep m made n → SendsLast gone byte n.chip.transmitter
  last_path made m n silent w path = lasts-path (SendsLast gone byte) last_lasts made m n silent w path

  -- ---- what that is

  pub last_out : (t : TransmitterState) → SendsLast gone byte t → (out t ≡ gone) ⊎ (out t ≡ gone ++ byte ∷ [])
  last_out t w = go t.shift_register refl w.rest
    where
      go : (place : Option Shifting) → t.shift_register ≡ place →
          ((t.wire ≡ gone) × AllAre byte (shift_bytes t.shift_register)) ⊎ ((t.wire ≡ gone ++ byte ∷ []) × (t.shift_register ≡ None)) →
          (out t ≡ gone) ⊎ (out t ≡ gone ++ byte ∷ [])
      go None e (inl p) = inl (rw (e, w.queue, p.0) (append-nil gone))
      go (Some s) e (inl p) =
          let first : AllAre byte (s.byte ∷ []) = rw e at p.1 in inr (rw (e, w.queue, p.0, first.0) refl)
      go place e (inr p) = inr (rw (p.1, w.queue, p.0) (append-nil (gone ++ byte ∷ [])))

-- ---- the reset

pub sets_on : (level : FifoTriggerLevel) → has_any (fifo_bits (Some level)) FCR.FIFO_ENABLE.0 ≡ true
sets_on One = refl
sets_on _ = refl

pub resets : (level : FifoTriggerLevel) → has_any (fifo_bits (Some level)) FCR.TX_FIFO_RESET.0 ≡ true
resets One = refl
resets _ = refl

-- what is left of a transmitter when its FIFO is reset, and has this size
abbrev pub emptied : FifoSize → TransmitterState → TransmitterState
emptied size t = record t { size = size; queue = []; is_thr_pending = true }

reset_leaves : (value : ℕ) (c : ChipState) → has_any value FCR.TX_FIFO_RESET.0 ≡ true →
    (reset_transmitter value (reset_receiver value c)).transmitter ≡ emptied c.transmitter.size c.transmitter
reset_leaves value c e = go (has_any value FCR.RX_FIFO_RESET.0) refl
  where
    go : (b : Bool) → has_any value FCR.RX_FIFO_RESET.0 ≡ b →
        (reset_transmitter value (reset_receiver value c)).transmitter ≡ emptied c.transmitter.size c.transmitter
    go true f = rw (e, f) refl
    go false f = rw (e, f) refl

-- whether its size is switched or not
abbrev IsEmptied : TransmitterState → TransmitterState → Type 0
IsEmptied t u = (size : FifoSize) × (u ≡ emptied size t)

sized_leaves : (value : ℕ) (c : ChipState) → has_any value FCR.TX_FIFO_RESET.0 ≡ true →
    IsEmptied c.transmitter (reset_transmitter value (reset_receiver value (switch_size value c))).transmitter
sized_leaves value c e =
    let d : ChipState = switch_size value c in
    let left = sized (is_switching value c) refl in
    (left.0, reset_leaves value d e ∙ left.1)
  where
    sized : (b : Bool) → is_switching value c ≡ b →
        IsEmptied c.transmitter (emptied (switch_size value c).transmitter.size (switch_size value c).transmitter)
    sized true f = (switched_size value, rw f refl)
    sized false f = (c.transmitter.size, rw f refl)

set_leaves : (value : ℕ) (c : ChipState) → has_any value FCR.FIFO_ENABLE.0 ≡ true → has_any value FCR.TX_FIFO_RESET.0 ≡ true →
    IsEmptied c.transmitter (set_fifo value c).transmitter
set_leaves value c on e = go (is_same c.fifo true) refl
  where
    go : (b : Bool) → is_same c.fifo true ≡ b → IsEmptied c.transmitter (set_fifo value c).transmitter
    go true f = let left = sized_leaves value c e in (left.0, rw (on, f) left.1)
    go false f = let left = sized_leaves value (switch true c) e in (left.0, rw (on, f) left.1)

pub reset_written : (level : FifoTriggerLevel) (model : Chip) (c : ChipState) → model ≡ Uart16550A →
    (size : FifoSize) × ((control model (fifo_bits (Some level)) c).transmitter ≡ emptied size c.transmitter)
reset_written level model c e = rw e (set_leaves (fifo_bits (Some level)) c (sets_on level) (resets level))
