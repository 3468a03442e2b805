-- What `find_fifo_size` and `enable_64_byte_fifos` find over the machine, and what they leave.
use Rattle.std.specs.Prelude.{◌≡◌, ◌⊎◌, ◌≤◌, ℕ, Bool, true, false, List, [], ◌∷◌, ◌++◌, Result, Ok, Err, unwrap_or}
use Rattle.std.specs.Prelude.{if◌then◌else◌}
use Rattle.std.specs.List.{AllByRecursion}
use Rattle.uart_spec.specs.declared.setup.FifoSize.{FifoSize}
use Rattle.uart_spec.specs.declared.setup.FifoSize.TheVariants.{SixtyFour}
use Rattle.uart_spec.specs.declared.errors.FifoSizeError.{FifoSizeError}
use Rattle.uart_spec.specs.declared.errors.FifoSizeError.TheVariants.{FifosOff, TooFew, Stalled}
use Rattle.uart_spec.specs.declared.registers.fifo_trigger_level.FifoTriggerLevel.TheVariants.{One}
use Rattle.uart_16550.specs.Driver.{fields}
use Rattle.uart_16550.specs.Loopback.{test_byte}
use Rattle.uart_16550.specs.Tty.{inner_of}
use Rattle.uart_events.specs.declared.event.Chip.TheVariants.{Uart16550A}
use Rattle.uart_chip.specs.declared.receiver.Character.{Character}
use Rattle.uart_chip.specs.declared.receiver.Origin.{Origin}
use Rattle.uart_chip.specs.declared.receiver.Origin.TheVariants.{Arrived}
use Rattle.uart_chip.specs.Chip.{cut_of, is_dlab_set, is_loopback}
use Rattle.uart_chip.specs.Receiver.{ReceiverState}
use Rattle.uart_chip.specs.Conserved.{out, waiting, kept}
use Rattle.uart_run.specs.Run.{State, machine_of}
use Rattle.uart_run.specs.Ready.{Ready, BurstsFit, latches_of}
use Rattle.uart_run.specs.Served.{transmitter_of, IsFlushed}

-- the size of the FIFOs of the chip
abbrev pub size_in : State → FifoSize
size_in s = (transmitter_of s).size

-- Whether the FIFOs are on is nothing that the call goes by: it turns them on.

-- DLAB and loopback are off, as in a ready state
pub record IsPlain (s : State) : Type 0 where
  -- DLAB is off
  pub dlab : is_dlab_set (latches_of s) ≡ false
  -- loopback is off
  pub loopback : is_loopback (latches_of s) ≡ false

-- the chip has FIFOs, and DLAB and loopback are off, so the size may be found. It is so in a ready state with FIFOs
-- that are on
pub record MayFind (s : State) : Type 0 where
  pub plain : IsPlain s
  -- the chip has FIFOs
  pub model : (machine_of s).chip.model ≡ Uart16550A

-- ---- what it leaves

-- the receiver of a state
abbrev pub receiver_of : State → ReceiverState
receiver_of s = (machine_of s).chip.receiver

-- the character is the arrival with this number, or a later one. One that came back in loopback is none
abbrev pub IsSince : (number : ℕ) → Origin → Type 0
IsSince number (Arrived other) = number ≤ other
IsSince number unscheduled = ⊥

-- each of these characters is
abbrev pub ArrivedSince : (number : ℕ) → List Character → Type 0
ArrivedSince number characters =
    AllByRecursion (λ (character : Character). IsSince number character.origin) characters

-- after a size was found the state is ready, if the driver takes the FIFOs for no larger than they are; the transmitter
-- is empty, and the wire has what was to be sent before, and nothing else; all that waits has arrived during the call;
-- and the receiver has the level of the configuration, or one byte if there is none
pub record IsMeasured (s t : State) : Type 0 where
  pub ready : BurstsFit t → Ready t
  pub flushed : IsFlushed s t
  pub waits : ArrivedSince (receiver_of s).arrived (receiver_of t).queue
  pub level : (receiver_of t).trigger ≡ unwrap_or (fields (inner_of s)).config.fifo_trigger_level One

-- the test byte, as the chip sends it
abbrev pub sent_test_byte : State → List ℕ
sent_test_byte s = cut_of (machine_of s).chip test_byte ∷ []

-- A stall may leave a test byte in the shift register. A reset of the FIFOs does not stop it.

-- what has been sent and what is still to be sent is as before, or one test byte was put to it
abbrev pub SendsAtMostOne : State → State → Type 0
SendsAtMostOne s t =
    (out (machine_of t) ≡ out (machine_of s)) ⊎ (out (machine_of t) ≡ out (machine_of s) ++ sent_test_byte s)

-- a find returns the size of the FIFOs or stalls: never too few bytes come back. Whatever it returns, at most one test
-- byte goes out, and the latches are as before; and a ready state stays ready, with the FIFO on
pub record FindsSize (s : State) (found : Result FifoSize FifoSizeError) (t : State) : Type 0 where
  pub answers : (found ≡ Ok (size_in s)) ⊎ (found ≡ Err Stalled)
  pub measured : found ≡ Ok (size_in s) → IsMeasured s t
  pub sends : SendsAtMostOne s t
  pub latches : latches_of t ≡ latches_of s
  pub ready : Ready s → Ready t
  pub fifo : Ready s → (machine_of t).chip.fifo ≡ (machine_of s).chip.fifo

-- a find of a driver that takes the FIFOs to be off does nothing
pub record FindsOff (s : State) (found : Result FifoSize FifoSizeError) (t : State) : Type 0 where
  pub answers : found ≡ Err FifosOff
  pub machine : machine_of t ≡ machine_of s
  pub driver : fields (inner_of t) ≡ fields (inner_of s)

-- a find over a chip that has no FIFOs, by a driver that takes them to be on, returns that one byte came back, which is
-- too few, or it stalls. If one came back, the transmitter is empty, with nothing of the call on the wire, and the
-- state is ready: the driver knows then that the FIFOs are off, and it still has to take them for no larger than they
-- are. The latches are as before
pub record FindsNone (s : State) (found : Result FifoSize FifoSizeError) (t : State) : Type 0 where
  pub answers : (found ≡ Err (TooFew 1)) ⊎ (found ≡ Err Stalled)
  pub flushed : found ≡ Err (TooFew 1) → IsFlushed s t
  pub ready : found ≡ Err (TooFew 1) → BurstsFit t → Ready t
  pub latches : latches_of t ≡ latches_of s

-- ---- `enable_64_byte_fifos`

-- the size of FIFOs that were asked to hold 64: 64 on a chip that has the switch of a 16750, and on any other the size
-- that they had
abbrev pub enabled_size : State → FifoSize
enabled_size s = if (machine_of s).chip.has_size_switch then SixtyFour else size_in s

-- nothing that was received is lost: what waits is what waited and what has arrived since, but for what was dropped
abbrev pub LosesNone : State → State → Type 0
LosesNone s t = waiting (machine_of t) ≡ kept (machine_of s) (machine_of t)

-- after one that asked: it returned whether the chip has the switch, and the FIFOs have the size that follows; the
-- transmitter is empty, and the wire has what was to be sent before, and nothing else; received bytes that were not
-- taken are lost only where the size has changed; the latches are as before, and the FIFOs are on; and the state is
-- ready, if the driver takes them for no larger than they are
pub record IsEnabled (s : State) (on : Bool) (t : State) : Type 0 where
  pub answers : on ≡ (machine_of s).chip.has_size_switch
  pub size : size_in t ≡ enabled_size s
  pub flushed : IsFlushed s t
  pub received :
      -- the size has not changed
      size_in t ≡ size_in s → LosesNone s t
  pub latches : latches_of t ≡ latches_of s
  pub fifo : (machine_of t).chip.fifo ≡ true
  pub ready : BurstsFit t → Ready t

-- after one that stalled, which has written nothing: the size and the latches are as before, nothing is lost, and the
-- state is ready
pub record IsStillAsBefore (s t : State) : Type 0 where
  pub sent : out (machine_of t) ≡ out (machine_of s)
  pub received : LosesNone s t
  pub size : size_in t ≡ size_in s
  pub latches : latches_of t ≡ latches_of s
  pub ready : Ready t

-- one of a driver that takes the FIFOs to be on asks or stalls
abbrev pub Enables : State → Result Bool FifoSizeError → State → Type 0
Enables s (Ok on) t = IsEnabled s on t
Enables s (Err Stalled) t = IsStillAsBefore s t
Enables s (Err other) t = ⊥

-- one of a driver that takes them to be off does nothing
pub record EnablesOff (s : State) (enabled : Result Bool FifoSizeError) (t : State) : Type 0 where
  pub answers : enabled ≡ Err FifosOff
  pub machine : machine_of t ≡ machine_of s
  pub driver : fields (inner_of t) ≡ fields (inner_of s)
