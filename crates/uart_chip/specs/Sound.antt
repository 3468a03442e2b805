-- What holds of every machine that was built, whatever has happened to it since.
use Rattle.std.specs.Prelude.{◌≡◌, ◌≢◌, ℕ, ◌+◌, ◌*◌, ◌<◌, ◌≤◌, Bool, true, false, List, [], ◌∷◌, length, Option, Some}
use Rattle.std.specs.Prelude.{None}
use Rattle.std.specs.List.{AllByRecursion}
use Rattle.uart_events.specs.declared.event.ArrivalMark.{ArrivalMark}
use Rattle.uart_events.specs.declared.event.ArrivalMark.TheVariants.{Pending, Waiting}
use Rattle.uart_events.specs.declared.event.Chip.TheVariants.{Uart16550A}
use Rattle.uart_events.specs.declared.event.Event.{Event}
use Rattle.uart_events.specs.declared.event.TheConstants.{MAX_CHAR_TICKS}
use Rattle.uart_chip.specs.declared.receiver.Character.{Character}
use Rattle.uart_chip.specs.declared.receiver.Origin.{Origin}
use Rattle.uart_chip.specs.declared.receiver.Origin.TheVariants.{Arrived, Looped, Live}
use Rattle.uart_chip.specs.declared.transmitter.Shifting.{Shifting}
use Rattle.uart_spec.specs.declared.registers.line_status.TheConstants.LSR
use Rattle.uart_spec.specs.declared.registers.modem_status.TheConstants.MSR
use Rattle.uart_chip.specs.Masks.{ier_bits, mcr_bits_of}
use Rattle.uart_spec.specs.Bits.{IsWithin}
use Rattle.uart_chip.specs.Transmitter.{TransmitterState, room}
use Rattle.uart_chip.specs.Receiver.{ReceiverState, mark_at}
use Rattle.uart_chip.specs.Modem.{ModemState}
use Rattle.uart_chip.specs.Chip.{LatchesState, ChipState}
use Rattle.uart_chip.specs.Machine.{MachineState, arrivals}
use Rattle.uart_events.specs.Build.{IsLegal}

-- ---- the receiver

-- a character of this origin may be in the queue: an arrival if it has arrived and is marked Waiting, an unscheduled
-- one if none was lost since the last one arrived
abbrev pub IsInQueue : ℕ → List ArrivalMark → Bool → Origin → Type 0
IsInQueue arrived marks missing (Arrived number) = (number < arrived) × (mark_at marks number ≡ Waiting)
IsInQueue arrived marks missing Looped = missing ≡ false
IsInQueue arrived marks missing Live = missing ≡ false

-- each of these characters may be in the queue
abbrev pub AllInQueue : ℕ → List ArrivalMark → Bool → List Character → Type 0
AllInQueue arrived marks unscheduled characters =
    AllByRecursion (λ (character : Character). IsInQueue arrived marks unscheduled character.origin) characters

-- the origin is not the arrival with this number
abbrev pub OtherOrigin : ℕ → Origin → Type 0
OtherOrigin number (Arrived other) = other ≢ number
OtherOrigin number Looped = Unit {0}
OtherOrigin number Live = Unit {0}

-- none of these characters is the arrival with this number
abbrev pub NoneIs : ℕ → List Character → Type 0
NoneIs number characters = AllByRecursion (λ (character : Character). OtherOrigin number character.origin) characters

-- none of these characters is the arrival of this origin
abbrev pub NoneHas : Origin → List Character → Type 0
NoneHas (Arrived number) characters = NoneIs number characters
NoneHas Looped characters = Unit {0}
NoneHas Live characters = Unit {0}

-- each arrival occurs at most once
abbrev pub Distinct : List Character → Type 0
Distinct [] = Unit {0}
Distinct (character ∷ characters) = NoneHas character.origin characters × Distinct characters

-- each has no error bits but those of a character
abbrev pub AllErrorsLegal : List Character → Type 0
AllErrorsLegal characters =
    AllByRecursion (λ (character : Character). IsWithin character.errors LSR.CHARACTER_ERRORS.0) characters

-- what is in the queue has this mark, each arrival at most once and within the room; those to come are marked Pending
pub record IsMarked (fifo : Bool) (r : ReceiverState) : Type 0 where
  pub wait : AllInQueue r.arrived r.marks r.is_unscheduled_lost r.queue
  pub distinct : Distinct r.queue
  pub to_come : (number : ℕ) → r.arrived ≤ number → mark_at r.marks number ≡ Pending
  pub in_room : length r.queue ≤ room fifo r.size
  pub counted : r.arrived ≤ length r.marks

-- the marks say what became of each arrival: one that has arrived is not Pending, and only those in the queue are
-- Waiting
pub record IsSoundReceiver (fifo : Bool) (r : ReceiverState) : Type 0 where
  pub marked : IsMarked fifo r
  pub settled : (number : ℕ) → number < r.arrived → mark_at r.marks number ≢ Pending
  pub no_other : (number : ℕ) → NoneIs number r.queue → mark_at r.marks number ≢ Waiting
  pub legal : AllErrorsLegal r.queue
  pub idle : r.timeout_ticks ≤ r.timeout_limit

-- ---- the transmitter, the modem lines and the latches

-- a character in the shift register has at least one tick left, and at most its whole time
abbrev pub IsTicking : ℕ → Option Shifting → Type 0
IsTicking char_ticks None = Unit {0}
IsTicking char_ticks (Some s) = (1 ≤ s.ticks_left) × (s.ticks_left ≤ char_ticks)

-- queue and wire hold no more than they have room for; a character takes 1 to 1000 ticks
pub record IsSoundTransmitter (fifo : Bool) (t : TransmitterState) : Type 0 where
  pub in_room : length t.queue ≤ room fifo t.size
  pub ticking : IsTicking t.char_ticks t.shift_register
  pub at_least_one : 1 ≤ t.char_ticks
  pub at_most : t.char_ticks ≤ MAX_CHAR_TICKS
  pub on_wire : length t.wire ≤ t.capacity

-- inputs and lines are in the high nibble, changes in the low one
pub record IsSoundModem (m : ModemState) : Type 0 where
  pub inputs : IsWithin m.inputs MSR.LINES.0
  pub lines : IsWithin m.lines MSR.LINES.0
  pub deltas : IsWithin m.deltas MSR.CHANGES.0

-- IER and MCR hold only bits that they keep
pub record IsSoundLatches (auto_flow : Bool) (l : LatchesState) : Type 0 where
  pub ier : IsWithin l.ier ier_bits
  pub mcr : IsWithin l.mcr (mcr_bits_of auto_flow)

-- every latch holds a byte
pub record HoldBytes (l : LatchesState) : Type 0 where
  pub ier : l.ier < 256
  pub lcr : l.lcr < 256
  pub mcr : l.mcr < 256
  pub scr : l.scr < 256
  pub dll : l.dll < 256
  pub dlm : l.dlm < 256

-- ---- the machine

-- That only a chip with a FIFO has it on is a part of soundness, so what an `init` leaves follows from any state.

-- the parts are sound, their FIFOs have one size, only a chip that has a FIFO has it on, and the idle limit is four
-- character times
pub record IsSoundChip (c : ChipState) : Type 0 where
  pub receiver : IsSoundReceiver c.fifo c.receiver
  pub transmitter : IsSoundTransmitter c.fifo c.transmitter
  pub modem : IsSoundModem c.modem
  pub latches : IsSoundLatches c.auto_flow c.latches
  -- both FIFOs have one size
  pub sizes : c.receiver.size ≡ c.transmitter.size
  -- only a chip that has a FIFO has it on
  pub implemented :
      -- the FIFO is on
      c.fifo ≡ true → c.model ≡ Uart16550A
  -- a reception timeout is due after four character times
  pub limit : c.receiver.timeout_limit ≡ 4 * c.transmitter.char_ticks

-- the events have only bits that they may have
abbrev pub AllLegal : List Event → Type 0
AllLegal events = AllByRecursion IsLegal events

-- the chip is sound, each arrival still to come has a mark, and the events to come are legal: every access preserves
-- this, whatever is written
pub record IsSound (m : MachineState) : Type 0 where
  pub chip : IsSoundChip m.chip
  -- each arrival still to come has a mark
  pub foreseen : m.chip.receiver.arrived + arrivals m.ahead ≡ length m.chip.receiver.marks
  pub legal : AllLegal m.ahead

-- `IsSound` is kept by every access of the step relation, whose written values are any numbers. That latches hold bytes
-- needs that a byte was written.

-- promise: every machine is sound: its parts are within their limits, and only a chip that has a FIFO has it on
-- with: IsWhole.sound, IsSoundChip.implemented
-- shown by: registers_one_by_one
-- refused: fifo_enabled_inverted

-- what holds of every machine: it is sound, and its latches hold bytes
pub record IsWhole (m : MachineState) : Type 0 where
  pub sound : IsSound m
  pub bytes : HoldBytes m.chip.latches
