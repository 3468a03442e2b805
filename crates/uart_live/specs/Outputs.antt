-- What a live chip drives its outputs to.
use Rattle.std.specs.Prelude.{ℕ, ◌+◌, bit_and, if◌then◌else◌}
use Rattle.uart_chip.specs.Chip.{LatchesState, is_loopback}
use Rattle.uart_spec.specs.declared.registers.modem_control.TheConstants.MCR

-- the outputs as the lines have them: DTR, RTS, OUT1 and OUT2 as MCR has them; in loopback all are off
abbrev pub outputs : LatchesState → ℕ
outputs l =
    if is_loopback l then 0
    else bit_and l.mcr (MCR.DTR.0 + MCR.RTS.0 + MCR.OUT_1.0 + MCR.OUT_2_INT_ENABLE.0)
