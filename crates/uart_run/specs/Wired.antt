-- Modem lines that are as MCR and the modem's inputs make them.
use Rattle.std.specs.Prelude.{◌≡◌}
use Rattle.uart_chip.specs.Chip.{ChipState}
use Rattle.uart_chip.specs.Modem.{lines_under}
use Rattle.uart_run.specs.Run.{State, machine_of}

-- MSR shows the modem's inputs, or in loopback the outputs
abbrev pub IsWiredChip : ChipState → Type 0
IsWiredChip c = c.modem.lines ≡ lines_under c.latches.mcr c.modem.inputs

-- A chip that is made is wired, and nothing that happens to it changes that. Only data of a chip that somebody made by
-- hand may show other lines. There the first write of MCR changes the lines, though no input changed.

-- the machine is wired
abbrev pub IsWired : State → Type 0
IsWired s = IsWiredChip (machine_of s).chip
