-- The presence check and the initialisation, access by access.
use Rattle.std.specs.Prelude.{◌≡◌, ◌<◌, ℕ, Bool, true, false, List, [], ◌∷◌, ◌+◌, ◌*◌, ◌%◌, ◌/◌, ◌==◌, ◌⊎◌, Result, Ok}
use Rattle.std.specs.Prelude.{Err, Option, Some, None, if◌then◌else◌}
use Rattle.uart_spec.specs.Baud.{IsDivisorAnswer}
use Rattle.uart_spec.specs.BaudRate.{to_integer}
use Rattle.uart_spec.specs.Fields.{word_length_code, parity_code, trigger_code}
use Rattle.uart_spec.specs.declared.config.Config.{Config}
use Rattle.uart_spec.specs.declared.registers.fifo_trigger_level.FifoTriggerLevel.{FifoTriggerLevel}
use Rattle.uart_spec.specs.declared.errors.InvalidDivisorError.{InvalidDivisorError}
use Rattle.uart_spec.specs.declared.errors.InitError.{InitError}
use Rattle.uart_spec.specs.declared.errors.InitError.TheVariants.{InvalidBaudRate, DeviceNotPresent, Stalled}
use Rattle.uart_spec.specs.declared.registers.offsets.TheConstants as offsets
use Rattle.uart_spec.specs.declared.registers.fifo_control.TheConstants.FCR
use Rattle.uart_spec.specs.declared.registers.interrupt_status.TheConstants.ISR
use Rattle.uart_spec.specs.declared.registers.line_control.TheConstants.LCR
use Rattle.uart_spec.specs.declared.registers.line_status.TheConstants.LSR
use Rattle.uart_spec.specs.declared.registers.modem_control.TheConstants.MCR
use Rattle.uart_spec.specs.declared.baud.TheConstants.{FIFO_SIZE}
use Rattle.uart_spec.specs.declared.access.Access.{Access}
use Rattle.uart_spec.specs.declared.access.Access.TheVariants.{Read, Write}
use Rattle.uart_16550.specs.Grammar.{Language, Only, Then, Times, Asks, ReadsRegister}
use Rattle.uart_16550.specs.Receive.{Miss}
use Rattle.uart_16550.specs.Transmit.{WaitsFor}
use Rattle.uart_16550.specs.Driver.{Doing, Saving, Plain, Sets, Next, with_config, with_fifo, with_saved}

-- the two patterns that are written to the scratch register
abbrev pub first_pattern : ℕ
first_pattern = 66

abbrev pub second_pattern : ℕ
second_pattern = 115

-- the scratch register is written with a pattern and keeps it, or not
abbrev pub Keeps : ℕ → Bool → Language
Keeps pattern outcome s l =
    (back : ℕ) × ((back == pattern) ≡ outcome) × (l ≡ Write offsets.SPR pattern ∷ Read offsets.SPR back ∷ [])

-- the scratch register keeps both patterns; or it does not keep the first; or it keeps the first and not the second
abbrev pub KeepsPatterns : Bool → Language
KeepsPatterns true s l = Then (Keeps first_pattern true) (Keeps second_pattern true) s l
KeepsPatterns false s l =
    Keeps first_pattern false s l ⊎ Then (Keeps first_pattern true) (Keeps second_pattern false) s l

-- `check_present`: the scratch register is read, tested with the patterns, and restored
abbrev pub ChecksPresence : Bool → Language
ChecksPresence present s l =
    (old : ℕ) ×
    Then (Only (Read offsets.SPR old ∷ [])) (Then (KeepsPatterns present) (Only (Write offsets.SPR old ∷ []))) s l

-- LCR for a configuration: data bits, stop bits, parity
abbrev pub frame_bits : Config → ℕ
frame_bits config =
    word_length_code config.data_bits + (if config.extra_stop_bits then LCR.MORE_STOP_BITS.0 else 0)
    + LCR.PARITY0.0 * parity_code config.parity

-- interrupts off, the divisor latch set under DLAB, and the frame
abbrev pub line_writes : (divisor frame : ℕ) → List Access
line_writes divisor frame =
    Write offsets.LCR 0 ∷ Write offsets.IER 0 ∷ Write offsets.LCR LCR.DLAB.0 ∷ Write offsets.DLL (divisor % 256) ∷
    Write offsets.DLM (divisor / 256) ∷ Write offsets.LCR 0 ∷ Write offsets.LCR frame ∷ []

-- FCR for a trigger level: both FIFOs reset and, if there is a level, enabled
abbrev pub fifo_bits : Option FifoTriggerLevel → ℕ
fifo_bits None = FCR.RX_FIFO_RESET.0 + FCR.TX_FIFO_RESET.0
fifo_bits (Some level) =
    FCR.FIFO_ENABLE.0 + FCR.RX_FIFO_RESET.0 + FCR.TX_FIFO_RESET.0 + FCR.RX_FIFO_TRIGGER_LEVEL0.0 * trigger_code level

-- the FIFO step: FCR is written and, if a level is configured, ISR shows whether the FIFO is on
abbrev pub SetsFifo : Option FifoTriggerLevel → Bool → Language
SetsFifo None on s l = (on ≡ false) × (l ≡ Write offsets.FCR (fifo_bits None) ∷ [])
SetsFifo (Some level) on s l =
    Then (Only (Write offsets.FCR (fifo_bits (Some level)) ∷ [])) (Asks offsets.ISR ISR.FIFOS_ENABLED.0 on) s l

-- a received byte is discarded
abbrev pub Discards : Language
Discards = Then (Asks offsets.LSR LSR.DATA_READY.0 true) (ReadsRegister offsets.DATA)

-- the most bytes that the receiver can hold: those in the FIFO, and the character in the shift register
abbrev pub most_waiting : ℕ
most_waiting = FIFO_SIZE + 1

-- received bytes are discarded until none is available, or as many as the receiver can hold
abbrev pub DrainsReceiver : Language
DrainsReceiver s l =
    Times most_waiting Discards s l ⊎ ((n : ℕ) × (n < most_waiting) × Then (Times n Discards) Miss s l)

-- the outputs that are set: DTR, RTS and OUT2
abbrev pub raised_outputs : ℕ
raised_outputs = MCR.DTR.0 + MCR.RTS.0 + MCR.OUT_2_INT_ENABLE.0

-- from storing the configuration to writing MCR
abbrev pub Begins : Config → (divisor : ℕ) → (fifo : Bool) → Doing
Begins config divisor fifo =
    Next (Sets (with_config config))
    (Next (Saving (Then (ChecksPresence true)
    (Then (Only (line_writes divisor (frame_bits config))) (SetsFifo config.fifo_trigger_level fifo))))
    (Next (Sets (with_fifo fifo))
    (Next (Plain DrainsReceiver)
    (Saving (Only (Write offsets.MCR raised_outputs ∷ []))))))

-- the statuses are read without being saved, and the interrupts enabled
abbrev pub Ends : Config → Doing
Ends config =
    Next (Plain (Then (ReadsRegister offsets.LSR) (Then (ReadsRegister offsets.ISR) (ReadsRegister offsets.MSR))))
    (Next (Sets (with_saved 0 0))
    (Saving (Only (Write offsets.IER config.interrupts.0 ∷ []))))

-- the divisor for a configuration, or why there is none
abbrev pub DivisorOf : Config → Result ℕ InvalidDivisorError → Type 0
DivisorOf config = IsDivisorAnswer config.frequency (to_integer config.baud_rate) config.prescaler_division_factor

-- `init`: the configuration is stored, the scratch register tested, divisor, frame and FIFO are set, the receiver is
-- drained, and MCR is written; after a wait for an empty transmitter the statuses are read, and IER is written. Or
-- nothing is done, if there is no divisor; or all up to the test that fails, or to the wait that reaches the limit
abbrev pub Inits : {T : Type 0} → Config → Result T InitError → Doing
Inits config (Ok x) f l after = (divisor : ℕ) × (fifo : Bool) × DivisorOf config (Ok divisor) ×
    Next (Begins config divisor fifo) (Next (Saving (WaitsFor LSR.TRANSMITTER_EMPTY.0 true)) (Ends config)) f l after
Inits config (Err (InvalidBaudRate cause)) f l after = DivisorOf config (Err cause) × (l ≡ []) × (after ≡ f)
Inits config (Err DeviceNotPresent) f l after = (divisor : ℕ) × DivisorOf config (Ok divisor) ×
    Next (Sets (with_config config)) (Saving (ChecksPresence false)) f l after
Inits config (Err Stalled) f l after = (divisor : ℕ) × (fifo : Bool) × DivisorOf config (Ok divisor) ×
    Next (Begins config divisor fifo) (Saving (WaitsFor LSR.TRANSMITTER_EMPTY.0 false)) f l after
