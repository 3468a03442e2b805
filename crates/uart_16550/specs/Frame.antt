-- The lists of the calls that change the frame, or the outputs to the modem, and nothing else.
use Rattle.std.specs.Prelude.{◌≡◌, ◌%◌, ◌/◌, ℕ, Bool, List, [], ◌∷◌, Result, Ok, Err, if◌then◌else◌}
use Rattle.std.specs.Int.RustNames.{bit_or}
use Rattle.bitflags.specs.Sets.{without}
use Rattle.uart_spec.specs.Bits.{has}
use Rattle.uart_spec.specs.declared.config.Config.{Config}
use Rattle.uart_spec.specs.declared.errors.InvalidDivisorError.{InvalidDivisorError}
use Rattle.uart_spec.specs.declared.registers.offsets.TheConstants as offsets
use Rattle.uart_spec.specs.declared.registers.line_control.TheConstants.LCR
use Rattle.uart_spec.specs.declared.registers.line_status.TheConstants.LSR
use Rattle.uart_spec.specs.declared.registers.modem_control.TheConstants.MCR
use Rattle.uart_spec.specs.declared.access.Access.{Access}
use Rattle.uart_spec.specs.declared.access.Access.TheVariants.{Write}
use Rattle.uart_16550.specs.Grammar.{Language, Only, Asks, Modifies}
use Rattle.uart_16550.specs.Driver.{Doing, Fields, Saving, Sets, Next, with_config}
use Rattle.uart_16550.specs.Init.{DivisorOf, frame_bits}

-- ---- the frame

-- the divisor latch is set under DLAB, and DLAB is cleared; LCR has the frame from the first write on
abbrev pub frame_writes : (divisor frame : ℕ) → List Access
frame_writes divisor frame =
    Write offsets.LCR (bit_or frame LCR.DLAB.0) ∷ Write offsets.DLL (divisor % 256) ∷
    Write offsets.DLM (divisor / 256) ∷
    Write offsets.LCR frame ∷ []

-- the clock, the baud rate and the frame of the first configuration, and the rest of the second
abbrev pub framed : (given config : Config) → Config
framed given config =
    record config {
      frequency = given.frequency;
      prescaler_division_factor = given.prescaler_division_factor;
      baud_rate = given.baud_rate;
      data_bits = given.data_bits;
      extra_stop_bits = given.extra_stop_bits;
      parity = given.parity;
    }

abbrev pub with_frame : Config → Fields → Fields
with_frame given f = with_config (framed given f.config) f

-- `set_frame`: clock, baud rate and frame are stored, and written to the divisor latch and to LCR; or there is no
-- divisor, and nothing is done
abbrev pub SetsFrame : {T : Type 0} → Config → Result T InvalidDivisorError → Doing
SetsFrame config (Ok x) f l after = (divisor : ℕ) × DivisorOf config (Ok divisor) ×
    Next (Sets (with_frame config)) (Saving (Only (frame_writes divisor (frame_bits config)))) f l after
SetsFrame config (Err cause) f l after = DivisorOf config (Err cause) × (l ≡ []) × (after ≡ f)

-- ---- the transmitter

-- `is_idle`: one read of LSR, which shows whether the transmitter is empty
abbrev pub ShowsIdle : Bool → Language
ShowsIdle idle = Asks offsets.LSR LSR.TRANSMITTER_EMPTY.0 idle

-- ---- single bits

-- a value with these bits set, or cleared
abbrev pub switched : (on : Bool) → (bits value : ℕ) → ℕ
switched on bits value = if on then bit_or value bits else without 8 value bits

-- of a value that is read, what is written has this bit as asked, and the other bits as they were
abbrev pub ChangesOnly : (bit : ℕ) → Type 0
ChangesOnly bit = (on : Bool) (value : ℕ) →
    (has (switched on bit value) bit ≡ on) × (without 8 (switched on bit value) bit ≡ without 8 value bit)

-- `set_break`: LCR is read, and written with the break set or cleared
abbrev pub SetsBreak : Bool → Language
SetsBreak on = Modifies offsets.LCR (switched on LCR.SET_BREAK.0)

-- ---- the outputs

-- without loopback
abbrev pub unlooped : ℕ → ℕ
unlooped bits = without 8 bits MCR.LOOP_BACK.0

-- `set_modem_control`: these bits are written to MCR, without loopback
abbrev pub SetsControl : ℕ → Language
SetsControl bits = Only (Write offsets.MCR (unlooped bits) ∷ [])

-- `set_rts`, `set_dtr`: MCR is read, and written with this bit set or cleared, without loopback
abbrev pub SetsOutput : (output : ℕ) → Bool → Language
SetsOutput output on = Modifies offsets.MCR (λ mcr. unlooped (switched on output mcr))

-- of a value that is read, what is written has this output as asked, and the other bits as they were, without loopback
abbrev pub ChangesOutput : (output : ℕ) → Type 0
ChangesOutput output = (on : Bool) (mcr : ℕ) →
    (has (unlooped (switched on output mcr)) output ≡ on)
    × (without 8 (unlooped (switched on output mcr)) output ≡ without 8 (unlooped mcr) output)
