-- What lasts of the receiver between accesses, with the FIFO on and outside of loopback.
use Rattle.uart_run.proofs.Names.{◌≡◌, ℕ, zero, suc, ◌<◌, Bool, true, false, List, [], ◌∷◌, length, refl, sym, ◌∙◌, ap, subst, arith, Event}
use Rattle.uart_run.proofs.Names.{Ticks, Arrive, Gate, Mark, ChipState, cut_of, is_loopback, tick, ticks, MachineState, perform}
use Rattle.uart_run.proofs.Names.{before_access, at_access, before_mark, at_mark, ReceiverState, grow_timeout, IsMarked, IsSound}
use Rattle.uart_run.proofs.Names.{looped_byte, sound_perform}
use Rattle.uart_chip.specs.Receiver as receiver

fifo_ticks : (n : ℕ) (c : ChipState) → (ticks n c).fifo ≡ c.fifo
fifo_ticks zero c = refl
fifo_ticks (suc n) c = fifo_ticks n c

fifo_perform : (event : Event) (c : ChipState) → (perform event c).fifo ≡ c.fifo
fifo_perform (Ticks n) c = fifo_ticks n c
fifo_perform _ c = refl

open_ticks : (n : ℕ) (c : ChipState) → is_loopback (ticks n c).latches ≡ is_loopback c.latches
open_ticks zero c = refl
open_ticks (suc n) c = open_ticks n c

open_perform : (event : Event) (c : ChipState) → is_loopback (perform event c).latches ≡ is_loopback c.latches
open_perform (Ticks n) c = open_ticks n c
open_perform _ c = refl

-- what lasts while time passes and while characters arrive
module _ (P : ReceiverState → Type 0) (idles : (r : ReceiverState) → P r → P (grow_timeout r))
    (arrives : (r : ReceiverState) (byte errors : ℕ) → IsMarked true r → r.arrived < length r.marks → P r →
    P (receiver.arrive false true byte errors r)) where
  tick_lasts : (c : ChipState) → is_loopback c.latches ≡ false → P c.receiver → P (tick c).receiver
  tick_lasts c off p =
      let same : (tick c).receiver ≡ grow_timeout c.receiver =
      ap (λ (b : Bool). receiver.tick c.fifo (looped_byte b c.transmitter.shift_register) c.receiver) off in
      subst P (sym same) (idles c.receiver p)

  ticks_last : (n : ℕ) (c : ChipState) → is_loopback c.latches ≡ false → P c.receiver → P (ticks n c).receiver
  ticks_last zero c off p = p
  ticks_last (suc n) c off p = tick_lasts (ticks n c) (open_ticks n c ∙ off) (ticks_last n c off p)

  perform_lasts : (event : Event) (events : List Event) (c : ChipState) → IsSound (record { chip = c; ahead = event ∷ events }) →
      c.fifo ≡ true → is_loopback c.latches ≡ false → P c.receiver → P (perform event c).receiver
  perform_lasts (Ticks n) events c w on off p = ticks_last n c off p
  perform_lasts (Arrive byte errors) events c w on off p =
      let same : (perform (Arrive byte errors) c).receiver ≡ receiver.arrive false true (cut_of c byte) errors c.receiver =
      ap (λ (b : Bool). receiver.arrive b c.fifo (cut_of c byte) errors c.receiver) off
      ∙ ap (λ (b : Bool). receiver.arrive false b (cut_of c byte) errors c.receiver) on in
      let within : c.receiver.arrived < length c.receiver.marks = omega (arith, w.foreseen) in
      subst P (sym same)
      (arrives c.receiver (cut_of c byte) errors (subst (λ (b : Bool). IsMarked b c.receiver) on w.chip.receiver.marked) within p)
  perform_lasts _ events c w on off p = p

  before_lasts : (events : List Event) (c : ChipState) → IsSound (record { chip = c; ahead = events }) → c.fifo ≡ true →
      is_loopback c.latches ≡ false → P c.receiver → P (before_access events c).receiver
  before_lasts [] c w on off p = tick_lasts c off p
  before_lasts (Gate ∷ events) c w on off p = p
  before_lasts (Mark ∷ events) c w on off p = tick_lasts c off p
  before_lasts (event ∷ events) c w on off p =
      before_lasts events (perform event c) (sound_perform event events c w) (fifo_perform event c ∙ on) (open_perform event c ∙ off)
      (perform_lasts event events c w on off p)

  -- lasts up to the next access
  pub access_lasts : (m : MachineState) → IsSound m → m.chip.fifo ≡ true → is_loopback m.chip.latches ≡ false → P m.chip.receiver →
      P (at_access m).chip.receiver
  access_lasts m w on off p =
      before_lasts m.ahead m.chip (record { chip = w.chip; foreseen = w.foreseen; legal = w.legal }) on off p

  until_lasts : (events : List Event) (c : ChipState) → IsSound (record { chip = c; ahead = events }) → c.fifo ≡ true →
      is_loopback c.latches ≡ false → P c.receiver → P (before_mark events c).receiver
  until_lasts [] c w on off p = p
  until_lasts (Mark ∷ events) c w on off p = p
  until_lasts (event ∷ events) c w on off p =
      until_lasts events (perform event c) (sound_perform event events c w) (fifo_perform event c ∙ on) (open_perform event c ∙ off)
      (perform_lasts event events c w on off p)

  -- lasts up to the next mark
  pub mark_lasts : (m : MachineState) → IsSound m → m.chip.fifo ≡ true → is_loopback m.chip.latches ≡ false → P m.chip.receiver →
      P (at_mark m).chip.receiver
  mark_lasts m w on off p =
      until_lasts m.ahead m.chip (record { chip = w.chip; foreseen = w.foreseen; legal = w.legal }) on off p
