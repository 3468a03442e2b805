-- An access leaves a chip wired.
use Rattle.uart_link.proofs.Names.{ℕ, [], ◌∷◌, refl, Gate, Read, Write, ChipState, after_read, after_write, answer, MachineState}
use Rattle.uart_link.proofs.Names.{IsWiredChip, wired_step}

-- a machine whose next access takes place at once
abbrev at_once : ChipState → MachineState
at_once c = record { chip = c; ahead = Gate ∷ [] }

abbrev with_nothing_ahead : ChipState → MachineState
with_nothing_ahead c = record { chip = c; ahead = [] }

pub wired_read : (offset : ℕ) (c : ChipState) → IsWiredChip c → IsWiredChip (after_read offset c)
wired_read offset c w =
    wired_step (Read offset (answer offset c)) (at_once c) (with_nothing_ahead (after_read offset c)) (refl, refl) w

pub wired_write : (offset value : ℕ) (c : ChipState) → IsWiredChip c → IsWiredChip (after_write offset value c)
wired_write offset value c w = wired_step (Write offset value) (at_once c) (with_nothing_ahead (after_write offset value c)) refl w
