-- How the size of the FIFOs is found, and how FIFOs of 64 are turned on, access by access.
use Rattle.std.specs.Prelude.{◌≡◌, ◌<◌, ◌+◌, ◌⊎◌, ℕ, Bool, true, false, List, [], ◌∷◌, Result, Ok, Err, Option, None}
use Rattle.std.specs.Prelude.{◌&&◌, not, Some, unwrap_or}
use Rattle.std.specs.Int.RustNames.{bit_or}
use Rattle.bitflags.specs.Sets.{without}
use Rattle.uart_spec.specs.Bits.{has}
use Rattle.uart_spec.specs.FifoSize.{characters, IsLargestUpTo}
use Rattle.uart_spec.specs.declared.setup.FifoSize.{FifoSize}
use Rattle.uart_spec.specs.declared.setup.FifoSize.TheVariants.{TwoHundredFiftySix}
use Rattle.uart_spec.specs.declared.errors.FifoSizeError.{FifoSizeError}
use Rattle.uart_spec.specs.declared.errors.FifoSizeError.TheVariants.{FifosOff, TooFew, Stalled}
use Rattle.uart_spec.specs.declared.registers.fifo_control.TheConstants.FCR
use Rattle.uart_spec.specs.declared.registers.fifo_trigger_level.FifoTriggerLevel.{FifoTriggerLevel}
use Rattle.uart_spec.specs.declared.registers.fifo_trigger_level.FifoTriggerLevel.TheVariants.{One}
use Rattle.uart_spec.specs.declared.registers.interrupt_status.TheConstants.ISR
use Rattle.uart_spec.specs.declared.registers.line_control.TheConstants.LCR
use Rattle.uart_spec.specs.declared.registers.offsets.TheConstants as offsets
use Rattle.uart_spec.specs.declared.registers.line_status.TheConstants.LSR
use Rattle.uart_spec.specs.declared.access.Access.{Access}
use Rattle.uart_spec.specs.declared.access.Access.TheVariants.{Read, Write}
use Rattle.uart_16550.specs.Grammar.{Language, Only, Then, Times}
use Rattle.uart_16550.specs.Receive.{Miss}
use Rattle.uart_16550.specs.Transmit.{WaitsFor}
use Rattle.uart_16550.specs.Init.{SetsFifo}
use Rattle.uart_16550.specs.Driver.{Doing, Saving, Sets, Next, with_fifo}
use Rattle.uart_16550.specs.Setup.{level_of, level_bits}
use Rattle.uart_16550.specs.Loopback.{test_byte, TakesOne, DrainsLoopback, EntersAt, Inside, FromEmpty}

-- how many bytes are sent: one more than the largest FIFO holds, since the shift register takes the first of them
abbrev pub flood : ℕ
flood = characters TwoHundredFiftySix + 1

-- the test byte is written to DATA so many times, with no look between
abbrev pub Floods : Language
Floods = Times flood (Only (Write offsets.DATA test_byte ∷ []))

-- bytes that came back are taken, until LSR shows none, or as many as were sent were taken: so many
abbrev pub TakesBack : ℕ → Language
TakesBack count s l =
    ((count ≡ flood) × Times flood TakesOne s l) ⊎ ((count < flood) × Then (Times count TakesOne) Miss s l)

-- what so many bytes that came back tell: the largest size of no more characters; or that they are fewer than the
-- smallest FIFO holds
abbrev pub Tells : (count : ℕ) → Result FifoSize FifoSizeError → Type 0
Tells count (Ok size) = IsLargestUpTo count (Some size)
Tells count (Err (TooFew returned)) = (returned ≡ count) × IsLargestUpTo count None
Tells count (Err FifosOff) = ⊥
Tells count (Err Stalled) = ⊥

-- bytes from before are taken, the transmitter is flooded, and, once it is empty, what came back is counted; or one of
-- the two waits reaches the limit
abbrev pub Measures : Result FifoSize FifoSizeError → Language
Measures result s l =
    ((result ≡ Err Stalled) × DrainsLoopback false s l)
    ⊎ ((result ≡ Err Stalled)
    × Then (DrainsLoopback true) (Then Floods (WaitsFor LSR.TRANSMITTER_EMPTY.0 false)) s l)
    ⊎ ((count : ℕ) × Tells count result
    × Then (DrainsLoopback true) (Then Floods (Then (WaitsFor LSR.TRANSMITTER_EMPTY.0 true) (TakesBack count))) s l)

-- the FIFO step with this level, and whether the FIFOs are on then
abbrev pub SwitchesFifo : Option FifoTriggerLevel → Bool → Doing
SwitchesFifo level fifo = Next (Saving (SetsFifo level fifo)) (Sets (with_fifo fifo))

-- the measure, and then the FIFO step, which discards what is left of it
abbrev pub Sizes : Option FifoTriggerLevel → Result FifoSize FifoSizeError → Doing
Sizes level result f l after = (fifo : Bool) × Next (Saving (Measures result)) (SwitchesFifo level fifo) f l after

-- after the first wait: loopback with the level of FIFOs that are on, and the measure in it
abbrev pub SizesInLoopback : Result FifoSize FifoSizeError → (mcr ier : ℕ) → Doing
SizesInLoopback result mcr ier f l after =
    let level = level_of true f.config.fifo_trigger_level in
    Inside (EntersAt level) (Sizes level result) mcr ier f l after

-- `find_fifo_size`: nothing is done if the FIFOs are off. Else MCR and IER are read, and there is a wait for an empty
-- transmitter. If it reaches the limit, nothing is written, and the result is a stall; else loopback is entered, the
-- transmitter is flooded, what comes back is counted, the FIFOs are reset, and MCR and IER are restored. The result is
-- the largest size of no more characters than came back
abbrev pub FindsFifoSize : Result FifoSize FifoSizeError → Doing
FindsFifoSize result f l after =
    ((result ≡ Err FifosOff) × (f.fifo ≡ false) × (l ≡ []) × (after ≡ f))
    ⊎ ((f.fifo ≡ true) × FromEmpty (result ≡ Err Stalled) (SizesInLoopback result) f l after)

-- ---- the FIFOs of 64 of a 16750

-- LCR and IER are read, and then there is a wait for an empty transmitter
abbrev pub BeginsEnabling : (lcr ier : ℕ) → Bool → Language
BeginsEnabling lcr ier empty =
    Then (Only (Read offsets.LCR lcr ∷ Read offsets.IER ier ∷ [])) (WaitsFor LSR.TRANSMITTER_EMPTY.0 empty)

-- LCR while FIFOs of 64 are asked for: with DLAB, and with one stop bit
abbrev pub opened : ℕ → ℕ
opened lcr = bit_or (without 8 lcr LCR.MORE_STOP_BITS.0) LCR.DLAB.0

-- interrupts off; FIFOs of 64 asked for by FCR under DLAB; LCR as before; and FCR once more, without the bit that asks
abbrev pub enabling_writes : (lcr : ℕ) → FifoTriggerLevel → List Access
enabling_writes lcr level =
    Write offsets.IER 0 ∷ Write offsets.LCR (opened lcr) ∷
    Write offsets.FCR (bit_or (level_bits level) FCR.FIFO_64_ENABLE.0) ∷
    Write offsets.LCR lcr ∷ Write offsets.FCR (level_bits level) ∷ []

-- what ISR of a 16750 shows above the interrupt while its FIFOs are on and hold 64: bits 5 to 7, and not bit 4. None of
-- FF, 7F and 0 is so, which a bus shows where nobody answers
abbrev pub is_64_shown : ℕ → Bool
is_64_shown isr =
    has isr ISR.FIFOS_ENABLED.0 && (has isr ISR.FIFO_64_ENABLED.0 && not (has isr ISR.DMA_RX_END.0))

-- one read of ISR, which shows this, or does not
abbrev pub Shows64 : Bool → Language
Shows64 on s l = (isr : ℕ) × (is_64_shown isr ≡ on) × (l ≡ Read offsets.ISR isr ∷ [])

-- these writes, a read of ISR that shows whether the FIFOs hold 64 then, and IER as before
abbrev pub Enabling : (lcr ier : ℕ) → FifoTriggerLevel → Bool → Language
Enabling lcr ier level on =
    Then (Only (enabling_writes lcr level)) (Then (Shows64 on) (Only (Write offsets.IER ier ∷ [])))

-- `enable_64_byte_fifos`: nothing is done if the FIFOs are off. Else LCR and IER are read, and there is a wait for an
-- empty transmitter. If it reaches the limit, nothing is written, and the result is a stall; else FIFOs of 64 are asked
-- for, and the result is whether ISR shows them
abbrev pub Enables64 : Result Bool FifoSizeError → Doing
Enables64 (Ok on) f l after = (f.fifo ≡ true) × (lcr : ℕ) × (ier : ℕ) ×
    Saving (Then (BeginsEnabling lcr ier true) (Enabling lcr ier (unwrap_or f.config.fifo_trigger_level One) on))
    f l after
Enables64 (Err FifosOff) f l after = (f.fifo ≡ false) × (l ≡ []) × (after ≡ f)
Enables64 (Err (TooFew returned)) f l after = ⊥
Enables64 (Err Stalled) f l after =
    (f.fifo ≡ true) × (lcr : ℕ) × (ier : ℕ) × Saving (BeginsEnabling lcr ier false) f l after
