-- The errors of received bytes, as a backend notes them beside the rings.
use Rattle.std.specs.Prelude.{◌≡◌, ◌==◌, ◌-◌, ◌&&◌, ℕ, Bool, true, false, not, List, [], length, map}
use Rattle.std.specs.Prelude.{if◌then◌else◌}
use Rattle.std.specs.Int.RustNames.{bit_and, bit_or}
use Rattle.uart_spec.specs.Bits.{has}
use Rattle.uart_spec.specs.declared.access.Access.{Access}
use Rattle.uart_spec.specs.declared.access.Access.TheVariants.{Read, Write}
use Rattle.uart_spec.specs.declared.received.Received.{Received}
use Rattle.uart_spec.specs.declared.registers.fifo_control.TheConstants.FCR
use Rattle.uart_spec.specs.declared.registers.line_control.TheConstants.LCR
use Rattle.uart_spec.specs.declared.registers.line_status.TheConstants.LSR
use Rattle.uart_spec.specs.declared.registers.offsets.TheConstants as offsets
use Rattle.uart_ring.specs.Queue.{Queue, queue, latest, with_latest}
use Rattle.uart_ring.specs.Ring.{ring_backend_of, ring_fields}
use Rattle.uart_ring.specs.declared.notes.ErrorNotes.{ErrorNotes}
use Rattle.uart_ring.specs.declared.ring.Uart16550Ring.{Uart16550Ring}

-- what is noted
pub record Notes : Type 0 where
  -- the errors of the bytes that were read last from DATA, the oldest byte first
  pub noted : Queue
  -- what looks at LSR have shown since the last byte was read: it belongs to the next one
  pub shown : ℕ
  -- whether LCR was written so that offset 0 is the divisor latch
  pub is_latch : Bool
  -- whether an overrun that the next look shows may be of before the notes were made, or of before a reset of the
  -- receiver: the chip keeps it until a look, and it is of no byte that comes after
  pub is_overrun_old : Bool

-- what this backend has noted
abbrev pub notes_of : {B : Type 0} → ErrorNotes B → Notes
notes_of n = record {
  noted = n.noted;
  shown = n.shown.0;
  is_latch = n.is_latch;
  is_overrun_old = n.is_overrun_old;
}

-- which line errors of a look are of the next byte
abbrev pub told_errors : (is_overrun_old : Bool) → ℕ
told_errors is_overrun_old = if is_overrun_old then LSR.CHARACTER_ERRORS.0 else LSR.LINE_ERRORS.0

-- a read: the line errors that LSR shows join those that were shown, but for an overrun that may be of before; at a
-- read of DATA all that was shown is noted of that byte, and nothing has been shown of the next. What is read of the
-- divisor latch is no byte
abbrev pub with_read : (offset answer : ℕ) → Notes → Notes
with_read offset answer n =
    if offset == offsets.LSR
    then record n { shown = bit_or n.shown (bit_and answer (told_errors n.is_overrun_old)); is_overrun_old = false }
    else if (offset == offsets.DATA) && not n.is_latch
    then record n { noted = with_latest n.shown n.noted; shown = 0 }
    else n

-- a write: LCR decides whether offset 0 is the divisor latch; a reset of the receiver takes away the character of which
-- something was shown, and leaves the chip's overrun flag
abbrev pub with_write : (offset value : ℕ) → Notes → Notes
with_write offset value n =
    if offset == offsets.LCR then record n { is_latch = has value LCR.DLAB.0 }
    else if (offset == offsets.FCR) && has value FCR.RX_FIFO_RESET.0
    then record n { shown = 0; is_overrun_old = true }
    else n

-- what an access makes of the notes
abbrev pub with_access : Access → Notes → Notes
with_access (Read offset answer) = with_read offset answer
with_access (Write offset value) = with_write offset value

-- the access is made, and noted
pub record NotesErrors {B : Type 0} (step : B → Access → B → Type 0) (old : ErrorNotes B) (access : Access)
    (new : ErrorNotes B) : Type 0 where
  pub made : step old.backend access new.backend
  pub noted : notes_of new ≡ with_access access (notes_of old)

-- notes of nothing over this backend, with room for the errors of so many bytes
abbrev pub AreNew : {B : Type 0} → ErrorNotes B → B → ℕ → Type 0
AreNew n backend capacity =
    (n.backend ≡ backend)
    × (notes_of n ≡ record { noted = queue [] capacity; shown = 0; is_latch = false; is_overrun_old = true })

-- ---- beside the rings

-- how many bytes of the receive ring have no note among these: those at its front, if more are there than are noted
abbrev pub unnoted_among : {B : Type 0} → List ℕ → Uart16550Ring B → ℕ
unnoted_among noted r = length (ring_fields r).receive.items - length noted

-- the errors of the bytes in the receive ring: those that were noted last, as many as there are bytes
abbrev pub errors_among : {B : Type 0} → List ℕ → Uart16550Ring B → List ℕ
errors_among noted r = latest (length (ring_fields r).receive.items) noted

-- the errors of the bytes that were read last
abbrev pub noted_in : {B : Type 0} → Uart16550Ring (ErrorNotes B) → List ℕ
noted_in r = (ring_backend_of r).noted.items

-- how many bytes of the receive ring have no note in the backend
abbrev pub unnoted_in : {B : Type 0} → Uart16550Ring (ErrorNotes B) → ℕ
unnoted_in r = unnoted_among (noted_in r) r

-- the errors of the bytes in the receive ring, as the backend has noted them
abbrev pub errors_in : {B : Type 0} → Uart16550Ring (ErrorNotes B) → List ℕ
errors_in r = errors_among (noted_in r) r

-- the bytes of what was received
abbrev pub bytes_of : List Received → List ℕ
bytes_of items = map (λ (received : Received). received.byte) items

-- the errors of what was received
abbrev pub errors_of : List Received → List ℕ
errors_of items = map (λ (received : Received). received.errors.0) items
