-- The interrupt identification shows whether the FIFO is on, and whether a chip with a size switch has FIFOs of 64.
use Rattle.uart_run.proofs.Names.{◌≡◌, ℕ, Bool, ◌&&◌, ◌∙◌, ap, has, Read, ChipState, interrupt, is_64, answer, MachineState, MachineStep}
use Rattle.uart_run.proofs.Names.{at_access, all_shown}
use Rattle.uart_spec.specs.declared.registers.interrupt_status.TheConstants.ISR
use Rattle.uart_spec.specs.declared.registers.offsets.TheConstants as offsets
use Rattle.uart_run.proofs.Latches.{Kept, kept_access}

-- what it shows of the size while the FIFO is on: the chip has the switch, and its FIFOs hold 64
abbrev pub shows_64 : ChipState → Bool
shows_64 c = c.has_size_switch && is_64 c.receiver.size

chip_shows : (c : ChipState) → has (answer offsets.ISR c) ISR.FIFOS_ENABLED.0 ≡ c.fifo
chip_shows c = all_shown c.fifo (shows_64 c) (interrupt c)

-- what a read shows of the machine before it
pub fifo_shown : (m n : MachineState) (value : ℕ) → MachineStep m (Read offsets.ISR value) n → has value ISR.FIFOS_ENABLED.0 ≡ m.chip.fifo
fifo_shown m n value s =
    ap (λ v. has v ISR.FIFOS_ENABLED.0) s.1 ∙ (chip_shows (at_access m).chip ∙ ap (λ (k : Kept). k.fifo) (kept_access m))
