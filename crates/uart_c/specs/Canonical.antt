-- Data of C with one value for each meaning.
use Rattle.std.specs.Prelude.{◌≡◌, ℕ, ◌≤◌, All, take}
use Rattle.uart_c.specs.Queue.{fifo_size_of}
use Rattle.uart_c.specs.State.{number_of, trigger_of}
use Rattle.uart_c.specs.declared.chip.UartChip.{UartChip}
use Rattle.uart_c.specs.declared.queue.UartCharacters.{UartCharacters}
use Rattle.uart_c.specs.declared.queue.UartWire.{UartWire}
use Rattle.uart_c.specs.declared.queue.TheConstants.{WIRE_ROOM}
use Rattle.uart_c.specs.declared.receiver.UartReceiver.{UartReceiver}
use Rattle.uart_c.specs.declared.transmitter.UartTransmitter.{UartTransmitter}
use Rattle.uart_spec.specs.FifoSize.{characters}
use Rattle.uart_spec.specs.declared.setup.FifoSize.{FifoSize}

-- What the library writes is one value for each meaning, though it reads any bytes. So a caller may compare structs
-- field by field. Bytes behind the end of a chip's queue, and those of an empty shift register, are any: a call would
-- pay for each that it clears.

-- a flag is 0 or 1
abbrev pub IsFlag : ℕ → Type 0
IsFlag flag = flag ≤ 1

-- the size of a FIFO is the number of its characters
abbrev pub IsCanonicalSize : ℕ → Type 0
IsCanonicalSize fifo_size = fifo_size ≡ characters (fifo_size_of fifo_size)

-- a length or a room is within the array
abbrev pub IsCanonicalWire : UartWire → Type 0
IsCanonicalWire w = (w.len ≤ WIRE_ROOM) × (w.capacity ≤ WIRE_ROOM)

-- a length is within the FIFO
abbrev pub IsCanonicalTransmitter : UartTransmitter → Type 0
IsCanonicalTransmitter t =
    IsFlag t.is_shifting × IsFlag t.is_thr_pending × IsCanonicalSize t.fifo_size ×
    -- no more bytes are in the queue than the FIFO holds
    (t.queue.len ≤ characters (fifo_size_of t.fifo_size)) × IsCanonicalWire t.wire

-- a flag of a character that waits too
abbrev pub IsCanonicalQueue : FifoSize → UartCharacters → Type 0
IsCanonicalQueue size q = (q.len ≤ characters size) × All (λ character. IsFlag character.is_looped) (take q.len q.items)

-- the trigger is the number of characters of its level
abbrev pub IsCanonicalReceiver : UartReceiver → Type 0
IsCanonicalReceiver r =
    IsFlag r.is_overrun × IsFlag r.is_front_reported ×
    -- the trigger is the number of characters of its level
    (r.trigger ≡ number_of (trigger_of r.trigger)) ×
    IsCanonicalSize r.fifo_size × IsCanonicalQueue (fifo_size_of r.fifo_size) r.queue

-- the whole chip, but for bytes behind the end of a queue and those of an empty shift register
abbrev pub IsCanonical : UartChip → Type 0
IsCanonical c =
    IsFlag c.model × IsFlag c.fifo × IsFlag c.cuts ×
    IsCanonicalTransmitter c.transmitter × IsCanonicalReceiver c.receiver
