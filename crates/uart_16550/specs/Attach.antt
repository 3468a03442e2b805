-- Taking a port as it was set up.
use Rattle.std.specs.Prelude.{◌<◌, ℕ, ◌+◌, ◌*◌, Bool, true, false, Result, Ok, Err}
use Rattle.uart_spec.specs.declared.errors.AttachError.{AttachError}
use Rattle.uart_spec.specs.declared.errors.AttachError.TheVariants.{DivisorLatchOpen, Loopback, NoDivisor}
use Rattle.uart_spec.specs.declared.registers.offsets.TheConstants as offsets
use Rattle.uart_spec.specs.declared.registers.interrupt_status.TheConstants.ISR
use Rattle.uart_spec.specs.declared.registers.line_control.TheConstants.LCR
use Rattle.uart_spec.specs.declared.registers.modem_control.TheConstants.MCR
use Rattle.uart_16550.specs.Grammar.{Language, Then, Asks}
use Rattle.uart_16550.specs.Driver.{Doing, Saving, Sets, Next, with_fifo}
use Rattle.uart_16550.specs.Status.{ReadsDivisor}

-- LCR shows whether DLAB is set; it is clear, and MCR shows whether the chip is in loopback
abbrev pub FindsLatch : Bool → Language
FindsLatch open_latch = Asks offsets.LCR LCR.DLAB.0 open_latch

abbrev pub FindsLoopback : Bool → Language
FindsLoopback looped = Then (FindsLatch false) (Asks offsets.MCR MCR.LOOP_BACK.0 looped)

-- DLAB and loopback are off, and the divisor latch is read
abbrev pub FindsDivisor : (low high : ℕ) → Language
FindsDivisor low high = Then (FindsLoopback false) (ReadsDivisor low high)

-- DLAB and loopback are off, the divisor latch is read, and then ISR shows whether the FIFOs are on
abbrev pub FindsPort : (fifo : Bool) → (low high : ℕ) → Language
FindsPort fifo low high = Then (FindsDivisor low high) (Asks offsets.ISR ISR.FIFOS_ENABLED.0 fifo)

-- `attach`: LCR shows that DLAB is off, MCR that loopback is off, the divisor latch a divisor, and ISR whether the
-- FIFOs are on, which the driver takes them to be; or these are read up to the one that the error is about, and the
-- driver stays as it was
abbrev pub Attaches : Result (ℕ × ℕ) AttachError → Doing
Attaches (Ok latch) f l after = (0 < 256 * latch.1 + latch.0)
    × (fifo : Bool) × Next (Saving (FindsPort fifo latch.0 latch.1)) (Sets (with_fifo fifo)) f l after
Attaches (Err DivisorLatchOpen) f l after = Saving (FindsLatch true) f l after
Attaches (Err Loopback) f l after = Saving (FindsLoopback true) f l after
Attaches (Err NoDivisor) f l after = Saving (FindsDivisor 0 0) f l after
