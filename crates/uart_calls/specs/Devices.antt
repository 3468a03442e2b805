-- The devices that tests drive.
use Rattle.std.specs.Prelude.{◌≡◌, ℕ, Bool, ◌&&◌, List, [], ◌∷◌, ◌++◌, ◌==◌, nat_lt, length, slice_index, slice_set}
use Rattle.std.specs.Prelude.{◌+◌, if◌then◌else◌, ⊤}
use Rattle.uart_spec.specs.Bits.{has}
use Rattle.uart_spec.specs.declared.registers.offsets.TheConstants as offsets
use Rattle.uart_spec.specs.declared.registers.fifo_control.TheConstants.FCR
use Rattle.uart_spec.specs.declared.registers.interrupt_status.TheConstants.ISR
use Rattle.uart_spec.specs.declared.registers.line_control.TheConstants.LCR
use Rattle.uart_spec.specs.declared.access.Access.{Access}
use Rattle.uart_spec.specs.declared.access.Access.TheVariants.{Read, Write}

-- a read returns this byte, whatever the register
abbrev pub AnswersAlways : ℕ → Access → Type 0
AnswersAlways byte (Read offset answer) = answer ≡ byte
AnswersAlways byte (Write offset value) = ⊤

-- a file of registers: whether there are FIFOs, what reads of the registers return, the divisor latch, the sent bytes
pub record File : Type 0 where
  pub fifos : Bool
  pub registers : List ℕ
  pub latch : List ℕ
  pub sent : List ℕ

-- the file with these parts
abbrev pub file_of : Bool → (registers latch sent : List ℕ) → File
file_of fifos registers latch sent = record { fifos = fifos; registers = registers; latch = latch; sent = sent }

-- whether the first two registers are the divisor latch: they are while LCR shows DLAB
abbrev pub is_latch : List ℕ → ℕ → Bool
is_latch registers offset = nat_lt offset 2 && has (slice_index registers offsets.LCR) LCR.DLAB.0

-- what a read of a register returns
abbrev pub answer_of : File → ℕ → ℕ
answer_of file offset =
    if is_latch file.registers offset then slice_index file.latch offset else slice_index file.registers offset

-- what ISR shows after a write of FCR: whether the FIFOs are on
abbrev pub isr_after : Bool → ℕ → ℕ
isr_after fifos value =
    if fifos && has value FCR.FIFO_ENABLE.0 then ISR.FIFOS_ENABLED.0 + ISR.INTERRUPT_STATUS.0
    else ISR.INTERRUPT_STATUS.0

-- the bytes that were sent, as many as there is room for
abbrev pub sent_after : List ℕ → ℕ → List ℕ
sent_after sent value = if nat_lt (length sent) 64 then sent ++ value ∷ [] else sent

-- the file after a write: DATA is sent, FCR shows in ISR, LSR does not change, and the others keep what is written
abbrev pub file_after : File → ℕ → ℕ → File
file_after file offset value =
    if is_latch file.registers offset then record file { latch = slice_set file.latch offset value }
    else if offset == offsets.DATA then record file { sent = sent_after file.sent value }
    else if offset == offsets.FCR then
    record file { registers = slice_set file.registers offsets.ISR (isr_after file.fifos value) }
    else if offset == offsets.LSR then file
    else record file { registers = slice_set file.registers offset value }

-- an access of the file
abbrev pub FileStep : File → Access → File → Type 0
FileStep old (Read offset answer) new = (answer ≡ answer_of old offset) × (new ≡ old)
FileStep old (Write offset value) new = new ≡ file_after old offset value
