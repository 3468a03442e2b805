-- The port for a monitor that the data of C are, and what its monitor has to do.
use Rattle.std.specs.Prelude.{◌≡◌, ℕ, ◌<◌, ◌==◌, ◌&&◌, not, Bool, false}
use Rattle.uart_c.specs.Canonical.{IsCanonical}
use Rattle.uart_c.specs.Queue.{is_on}
use Rattle.uart_c.specs.Saved.{IsLiveChip}
use Rattle.uart_c.specs.State.{chip_of}
use Rattle.uart_c.specs.declared.port.UartPort.{UartPort}
use Rattle.uart_c.specs.declared.port.UartTodo.{UartTodo}
use Rattle.uart_c.specs.declared.port.UartTold.{UartTold}
use Rattle.uart_chip.specs.Chip.{ChipState}
use Rattle.uart_events.specs.declared.event.Chip.{Chip}
use Rattle.uart_spec.specs.Bits.{IsWithin, flag}
use Rattle.uart_spec.specs.declared.registers.line_status.TheConstants.LSR
use Rattle.uart_spec.specs.declared.registers.modem_status.TheConstants.MSR
use Rattle.uart_spec.specs.declared.setup.FifoSize.{FifoSize}
use Rattle.uart_virtual.specs.Port.{PortState, PortCall, Write, ReceiveOne, SetLines, IsPort, IsStill}
use Rattle.uart_virtual.specs.Port.{after, begun, fresh, has_room, is_up}
use Rattle.uart_virtual.specs.declared.told.Kind.{Kind}
use Rattle.uart_virtual.specs.declared.told.Todo.{Todo}
use Rattle.uart_virtual.specs.declared.told.Told.{Told}

-- what the monitor was told last
abbrev pub told_of : UartTold → Told
told_of t =
    record { line = is_on t.line; has_room = is_on t.has_room; has_looked = is_on t.has_looked; spare = t.spare }

-- the port that a struct of C is, whatever bytes it holds
abbrev pub port_of : UartPort → PortState
port_of p = record { chip = chip_of p.chip; told = told_of p.told }

-- the one struct of C that is written for what the monitor was told: flags are 0 or 1
abbrev pub kept : Told → UartTold
kept t =
    record { line = flag t.line 1; has_room = flag t.has_room 1; has_looked = flag t.has_looked 1; spare = t.spare }

-- the one struct of C that is written for what the monitor has to do: flags are 0 or 1
abbrev pub shown : Todo → UartTodo
shown t =
    record {
      ready = t.ready;
      signal = flag t.signal 1;
      level = flag t.level 1;
      has_moved = flag t.has_moved 1;
      has_room = flag t.has_room 1;
    }

-- what the monitor has to do, as a struct of C says it, whatever bytes it holds
abbrev pub asked : UartTodo → Todo
asked t =
    record {
      signal = is_on t.signal;
      level = is_on t.level;
      has_moved = is_on t.has_moved;
      has_room = is_on t.has_room;
      ready = t.ready;
    }

-- a port whose data are the one value for their meaning, but for bytes of its chip that mean nothing
abbrev pub IsCanonicalPort : UartPort → Type 0
IsCanonicalPort p = IsCanonical p.chip × (p.told ≡ kept (told_of p.told))

-- ---- calls of which nothing is to be told

-- a call of this kind leaves nothing to be told: it is no look; the line is down, as the monitor was told; and there is
-- room, of which the monitor knows
abbrev pub leaves_nothing : Kind → (ended : ChipState) → Told → Bool
leaves_nothing kind ended told =
    not kind.looks && (not told.line && (told.has_room && (has_room ended && not (is_up ended))))

-- the monitor has nothing to do, but to take the output
abbrev pub nothing_but : (ready : ℕ) → UartTodo
nothing_but ready =
    shown (record { signal = false; level = false; has_moved = false; has_room = false; ready = ready })

-- ---- ports that monitors have

-- a sound chip, of which the monitor was told what is so, and to which nothing is left to happen
pub record IsSoundPort (p : PortState) : Type 0 where
  pub live : IsLiveChip p.chip
  pub port : IsPort p

-- the call is one that is not refused; a value that is written is a byte
abbrev pub IsAcceptedCall : PortCall → Type 0
IsAcceptedCall (Write offset value) = value < 256
IsAcceptedCall (ReceiveOne byte errors) = IsWithin errors LSR.CHARACTER_ERRORS.0
IsAcceptedCall (SetLines inputs) = IsWithin inputs MSR.LINES.0
IsAcceptedCall _ = Unit {0}

-- a port that is made is sound, with FIFOs of any size
abbrev pub MadePortsAreSound : Type 0
MadePortsAreSound = (size : FifoSize) (model : Chip) → IsSoundPort (fresh size model)

-- a port that is restored is sound
abbrev pub RestoredPortsAreSound : Type 0
RestoredPortsAreSound = (c : ChipState) → IsLiveChip c → IsStill c → IsSoundPort (begun c)

-- a sound port stays sound, whatever is done with it
abbrev pub SoundPortsStaySound : Type 0
SoundPortsStaySound =
    (call : PortCall) (p : PortState) → IsAcceptedCall call → IsSoundPort p → IsSoundPort (after call p)
