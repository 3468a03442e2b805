-- The FIFO step of an `init` or a loopback test: the FIFO is on afterwards where a level is configured and the chip
-- has one, and the driver knows it.
use Rattle.uart_run.proofs.Names.{◌≡◌, ℕ, Bool, true, false, ◌&&◌, List, [], ◌∷◌, Option, Some, None, refl, sym, ◌∙◌, ap, has, has_any}
use Rattle.uart_run.proofs.Names.{FifoTriggerLevel, One, Path, Access, Read, Write, Settings, Only, Asks, fifo_bits, SetsFifo, Chip}
use Rattle.uart_run.proofs.Names.{Uart16550A, Uart16450, MachineState, MachineStep, has_fifo, is_level, IsSound, path_as}
use Rattle.uart_spec.specs.declared.registers.offsets.TheConstants as offsets
use Rattle.uart_spec.specs.declared.registers.interrupt_status.TheConstants.ISR
use Rattle.uart_spec.specs.declared.registers.fifo_control.TheConstants.FCR
use Rattle.uart_run.proofs.{Latches.Kept, Latches.kept_in, Latches.keep_control, Latches.kept_list, Latches.kept_path}
use Rattle.uart_run.proofs.{initialising.FifoShown.fifo_shown, Pieces.then_parts}

enables : (level : Option FifoTriggerLevel) → has_any (fifo_bits level) FCR.FIFO_ENABLE.0 ≡ (is_level level && true)
enables (Some One) = refl
enables _ = refl

never_on : (level : Option FifoTriggerLevel) → (is_level level && false) ≡ false
never_on None = refl
never_on (Some level) = refl

-- a chip without FIFO has it off
is_off : (fifo : Bool) → (fifo ≡ true → Uart16450 ≡ Uart16550A) → fifo ≡ false
is_off true implemented = let same = implemented refl in absurd (cc)
is_off false implemented = refl

-- what a write of the bits for a level leaves
pub controlled : (model : Chip) (level : Option FifoTriggerLevel) (k : Kept) → (k.fifo ≡ true → model ≡ Uart16550A) →
    keep_control model (fifo_bits level) k ≡ record k { fifo = is_level level && has_fifo model }
controlled Uart16450 level k implemented = ap (λ (on : Bool). record k { fifo = on }) (is_off k.fifo implemented ∙ sym (never_on level))
controlled Uart16550A level k implemented = ap (λ (on : Bool). record k { fifo = on }) (enables level)

-- from m to n the FIFO was set for this level, and the driver takes it to be on or off
pub record FifoSet (level : Option FifoTriggerLevel) (on : Bool) (m n : MachineState) : Type 0 where
  pub kept : kept_in n.chip ≡ record (kept_in m.chip) { fifo = on }
  pub is_on : on ≡ (is_level level && has_fifo m.chip.model)

-- the write
written : (level : Option FifoTriggerLevel) (m n : MachineState) → IsSound m →
    Path MachineStep m (Write offsets.FCR (fifo_bits level) ∷ []) n →
    kept_in n.chip ≡ record (kept_in m.chip) { fifo = is_level level && has_fifo m.chip.model }
written level m n w p =
    kept_path (Write offsets.FCR (fifo_bits level) ∷ []) m n p ∙ controlled m.chip.model level (kept_in m.chip) w.chip.implemented

pub sets_fifo : (level : Option FifoTriggerLevel) (on : Bool) (s : Settings) (l : List Access) (m n : MachineState) → IsSound m →
    SetsFifo level on s l → Path MachineStep m l n → FifoSet level on m n
sets_fifo None on s l m n w (off, is) p = record {
  kept =
      written None m n w (path_as m n l (Write offsets.FCR (fifo_bits None) ∷ []) is p)
      ∙ ap (λ (b : Bool). record (kept_in m.chip) { fifo = b }) (sym off);
  is_on = off;
}
sets_fifo (Some level) on s l m n w t p =
    let a = then_parts (Only (Write offsets.FCR (fifo_bits (Some level)) ∷ [])) (Asks offsets.ISR ISR.FIFOS_ENABLED.0 on) s l m n t p in
    let first = written (Some level) m a.between w
    (path_as m a.between a.front (Write offsets.FCR (fifo_bits (Some level)) ∷ []) a.first.is a.before) in
    let is_on : on ≡ has_fifo m.chip.model = shown a.between a.second.answer a.second.shows
    (path_as a.between n a.back (Read offsets.ISR a.second.answer ∷ []) a.second.is a.after) ∙ ap (λ (k : Kept). k.fifo) first in
    record {
      kept =
          kept_list a.back (Read offsets.ISR a.second.answer ∷ []) a.between n a.second.is a.after
          ∙ (first ∙ ap (λ (b : Bool). record (kept_in m.chip) { fifo = b }) (sym is_on));
      is_on = is_on;
    }
  where
    shown : (k : MachineState) (answer : ℕ) → has answer ISR.FIFOS_ENABLED.0 ≡ on → Path MachineStep k (Read offsets.ISR answer ∷ []) n →
        on ≡ k.chip.fifo
    shown k answer shows (mid, step, same) = sym shows ∙ fifo_shown k mid answer step
