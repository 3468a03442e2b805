-- Initialisation otherwise than by `init`, and changes of the trigger level and of the frame that lose nothing.
use Rattle.std.specs.Prelude.{◌≡◌, ◌⊎◌, ℕ, Bool, true, false, List, [], ◌∷◌, ◌+◌, ◌*◌, Result, Ok, Err}
use Rattle.std.specs.Prelude.{Option, Some, None, unwrap_or}
use Rattle.uart_spec.specs.Fields.{trigger_code}
use Rattle.uart_spec.specs.declared.config.Config.{Config}
use Rattle.uart_spec.specs.declared.errors.FifosOffError.{FifosOffError}
use Rattle.uart_spec.specs.declared.errors.FrameError.{FrameError}
use Rattle.uart_spec.specs.declared.errors.FrameError.TheVariants as frame_error
use Rattle.uart_spec.specs.declared.errors.InitError.{InitError}
use Rattle.uart_spec.specs.declared.errors.InitError.TheVariants.{InvalidBaudRate, DeviceNotPresent, Stalled}
use Rattle.uart_spec.specs.declared.registers.fifo_control.TheConstants.FCR
use Rattle.uart_spec.specs.declared.registers.fifo_trigger_level.FifoTriggerLevel.{FifoTriggerLevel}
use Rattle.uart_spec.specs.declared.registers.line_status.TheConstants.LSR
use Rattle.uart_spec.specs.declared.registers.offsets.TheConstants as offsets
use Rattle.bitflags.specs.Sets.{without}
use Rattle.uart_spec.specs.Bits.{has}
use Rattle.uart_spec.specs.Dump.{divisor_of}
use Rattle.uart_spec.specs.declared.dump.ConfigRegisterDump.{ConfigRegisterDump}
use Rattle.uart_spec.specs.declared.registers.fifo_trigger_level.FifoTriggerLevel.TheVariants.{One}
use Rattle.uart_spec.specs.declared.registers.interrupt_status.TheConstants.ISR
use Rattle.uart_spec.specs.declared.registers.line_control.TheConstants.LCR
use Rattle.uart_spec.specs.declared.setup.FifoAction.{FifoAction}
use Rattle.uart_spec.specs.declared.setup.FifoAction.TheVariants.{Keep, Reset, Disable}
use Rattle.uart_spec.specs.declared.setup.Setup.{Setup}
use Rattle.uart_spec.specs.declared.setup.TransmitterWait.{TransmitterWait}
use Rattle.uart_spec.specs.declared.setup.TransmitterWait.TheVariants.{First, Last, Never as NoWait}
use Rattle.uart_spec.specs.declared.access.Access.{Access}
use Rattle.uart_spec.specs.declared.access.Access.TheVariants.{Write}
use Rattle.uart_16550.specs.Grammar.{Language, Only, Then, Never}
use Rattle.uart_16550.specs.Driver.{Doing, Fields, Saving, Plain, Sets, Next, with_config, with_fifo, with_interrupts}
use Rattle.uart_16550.specs.Transmit.{WaitsFor}
use Rattle.uart_16550.specs.Init.{ChecksPresence, line_writes, frame_bits, fifo_bits, SetsFifo}
use Rattle.uart_16550.specs.Init.{DrainsReceiver, Ends, DivisorOf}
use Rattle.uart_16550.specs.Frame.{unlooped, frame_writes, with_frame}

-- ---- the trigger level

-- FCR for FIFOs that are on and stay on: this level, and no reset
abbrev pub level_bits : FifoTriggerLevel → ℕ
level_bits level = FCR.FIFO_ENABLE.0 + FCR.RX_FIFO_TRIGGER_LEVEL0.0 * trigger_code level

abbrev pub with_level : FifoTriggerLevel → Fields → Fields
with_level level f = with_config (record f.config { fifo_trigger_level = Some level }) f

-- `set_trigger_level`: with the FIFOs on, the level is stored and written to FCR; with them off, nothing is done, and
-- the result is the error
abbrev pub SetsTrigger : {T : Type 0} → FifoTriggerLevel → Result T FifosOffError → Doing
SetsTrigger level (Ok x) f l after = (f.fifo ≡ true) ×
    Next (Sets (with_level level)) (Saving (Only (Write offsets.FCR (level_bits level) ∷ []))) f l after
SetsTrigger level (Err e) f l after = (f.fifo ≡ false) × (l ≡ []) × (after ≡ f)

-- ---- the frame, once the transmitter is empty

-- `set_frame_when_idle`: after a wait for an empty transmitter all is as in `set_frame`; or there is no divisor, and
-- nothing is done; or the wait reaches the limit, and nothing is written
abbrev pub SetsFrameWhenIdle : {T : Type 0} → Config → Result T FrameError → Doing
SetsFrameWhenIdle config (Ok x) f l after = (divisor : ℕ) × DivisorOf config (Ok divisor) ×
    Next (Saving (WaitsFor LSR.TRANSMITTER_EMPTY.0 true))
    (Next (Sets (with_frame config)) (Saving (Only (frame_writes divisor (frame_bits config))))) f l after
SetsFrameWhenIdle config (Err (frame_error.InvalidBaudRate cause)) f l after =
    DivisorOf config (Err cause) × (l ≡ []) × (after ≡ f)
SetsFrameWhenIdle config (Err frame_error.Stalled) f l after = (divisor : ℕ) × DivisorOf config (Ok divisor) ×
    Saving (WaitsFor LSR.TRANSMITTER_EMPTY.0 false) f l after

-- ---- the initialisation

-- the presence check, if it is asked for; without it a device is taken to be present
abbrev pub ChecksIf : (asked present : Bool) → Language
ChecksIf true present = ChecksPresence present
ChecksIf false true = Only []
ChecksIf false false = Never

-- the wait for an empty transmitter, if it is asked for; without it the transmitter is taken to be empty
abbrev pub WaitsIf : (asked empty : Bool) → Language
WaitsIf true empty = WaitsFor LSR.TRANSMITTER_EMPTY.0 empty
WaitsIf false true = Only []
WaitsIf false false = Never

abbrev pub is_first : TransmitterWait → Bool
is_first First = true
is_first Last = false
is_first NoWait = false

abbrev pub is_last : TransmitterWait → Bool
is_last First = false
is_last Last = true
is_last NoWait = false

-- what comes before the first write of the setup: the presence check, and the wait that comes first
abbrev pub Looks : Setup → (empty : Bool) → Language
Looks setup empty = Then (ChecksIf setup.checks_presence true) (WaitsIf (is_first setup.wait) empty)

-- interrupts off, divisor, frame and FIFO set, the receiver drained, and the outputs written
abbrev pub SetsUp : Setup → Config → (divisor : ℕ) → (fifo : Bool) → Doing
SetsUp setup config divisor fifo =
    Next (Saving (Then (Only (line_writes divisor (frame_bits config))) (SetsFifo config.fifo_trigger_level fifo)))
    (Next (Sets (with_fifo fifo))
    (Next (Plain DrainsReceiver)
    (Saving (Only (Write offsets.MCR (unlooped setup.outputs.0) ∷ [])))))

-- `init_with`: as `init`, with the test, the wait and the outputs of this setup. The configuration is stored; the test
-- and the wait that is to be first are made; divisor, frame and FIFO are set, the receiver is drained, and MCR is
-- written; the wait that is to be last is made; the statuses are read, and IER is written. Or nothing is done, if there
-- is no divisor; or all up to the test that fails, or to the wait that reaches the limit
abbrev pub InitsWith : {T : Type 0} → Setup → Config → Result T InitError → Doing
InitsWith setup config (Ok x) f l after = (divisor : ℕ) × (fifo : Bool) × DivisorOf config (Ok divisor) ×
    Next (Sets (with_config config))
    (Next (Saving (Looks setup true))
    (Next (SetsUp setup config divisor fifo)
    (Next (Saving (WaitsIf (is_last setup.wait) true)) (Ends config)))) f l after
InitsWith setup config (Err (InvalidBaudRate cause)) f l after = DivisorOf config (Err cause) × (l ≡ []) × (after ≡ f)
InitsWith setup config (Err DeviceNotPresent) f l after = (divisor : ℕ) × DivisorOf config (Ok divisor) ×
    Next (Sets (with_config config)) (Saving (ChecksIf setup.checks_presence false)) f l after
InitsWith setup config (Err Stalled) f l after = (divisor : ℕ) × DivisorOf config (Ok divisor) ×
    (Next (Sets (with_config config)) (Saving (Looks setup false)) f l after
    ⊎ ((fifo : Bool) × Next (Sets (with_config config))
    (Next (Saving (Looks setup true))
    (Next (SetsUp setup config divisor fifo) (Saving (WaitsIf (is_last setup.wait) false)))) f l after))

-- ---- a port that is left, and put back

-- the level of FIFOs that are on: the configured one, or one byte if none is; none of FIFOs that are off
abbrev pub level_of : (on : Bool) → Option FifoTriggerLevel → Option FifoTriggerLevel
level_of true level = Some (unwrap_or level One)
level_of false level = None

-- what is written to FCR, and whether the FIFOs are on then
abbrev pub fifo_writes : FifoAction → (on : Bool) → Option FifoTriggerLevel → List Access
fifo_writes Keep on level = []
fifo_writes Reset on level = Write offsets.FCR (fifo_bits (level_of on level)) ∷ []
fifo_writes Disable on level = Write offsets.FCR (fifo_bits None) ∷ []

abbrev pub stays_on : FifoAction → Bool → Bool
stays_on Keep on = on
stays_on Reset on = on
stays_on Disable on = false

-- `quiesce`: all interrupts are disabled, the outputs are written to MCR, without loopback, and then FCR, if the FIFOs
-- are to be reset or disabled
abbrev pub Quiesces : (outputs : ℕ) → FifoAction → Doing
Quiesces outputs action f =
    Next (Sets (with_interrupts 0))
    (Next (Saving (Only (Write offsets.IER 0 ∷ Write offsets.MCR (unlooped outputs) ∷
    fifo_writes action f.fifo f.config.fifo_trigger_level)))
    (Sets (with_fifo (stays_on action f.fifo)))) f

-- the level for FIFOs that were on when the registers were read
abbrev pub dumped_level : ConfigRegisterDump → Config → Option FifoTriggerLevel
dumped_level dump config = level_of (has dump.isr.0 ISR.FIFOS_ENABLED.0) config.fifo_trigger_level

-- what is written after the FIFO step: the outputs, the scratch register, and the interrupts last
abbrev pub last_writes : ConfigRegisterDump → List Access
last_writes dump =
    Write offsets.MCR (unlooped dump.mcr.0) ∷ Write offsets.SPR dump.spr ∷ Write offsets.IER dump.ier.0 ∷ []

-- `restore`: divisor and frame, the FIFOs, and then MCR without loopback, SPR and IER are written as the dump has them.
-- If it has the FIFOs on, ISR shows whether they are
abbrev pub Restores : ConfigRegisterDump → Doing
Restores dump f l after = (fifo : Bool) ×
    Next (Sets (with_interrupts dump.ier.0))
    (Next (Saving (Then (Only (line_writes (divisor_of dump) (without 8 dump.lcr.0 LCR.DLAB.0)))
    (Then (SetsFifo (dumped_level dump f.config) fifo) (Only (last_writes dump)))))
    (Sets (with_fifo fifo))) f l after
