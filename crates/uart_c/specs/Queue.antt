-- Queues of C: the first items of an array.
use Rattle.std.specs.Prelude.{ℕ, Bool, not, ◌==◌, min, List, take, map, if◌then◌else◌}
use Rattle.uart_spec.specs.FifoSize.{characters}
use Rattle.uart_spec.specs.declared.setup.FifoSize.{FifoSize}
use Rattle.uart_spec.specs.declared.setup.FifoSize.TheVariants.{Sixteen, ThirtyTwo, SixtyFour, OneHundredTwentyEight}
use Rattle.uart_c.specs.declared.queue.UartBytes.{UartBytes}
use Rattle.uart_c.specs.declared.queue.UartCharacter.{UartCharacter}
use Rattle.uart_c.specs.declared.queue.UartCharacters.{UartCharacters}
use Rattle.uart_c.specs.declared.queue.UartWire.{UartWire}
use Rattle.uart_c.specs.declared.queue.TheConstants.{WIRE_ROOM}
use Rattle.uart_chip.specs.declared.receiver.Character.{Character}
use Rattle.uart_chip.specs.declared.receiver.Origin.TheVariants.{Looped, Live}

-- a flag of C: any number but 0 is true
abbrev pub is_on : (flag : ℕ) → Bool
is_on flag = not (flag == 0)

-- a FIFO of so many characters; any other number counts as 16
abbrev pub fifo_size_of : (characters : ℕ) → FifoSize
fifo_size_of characters =
    if characters == 32 then ThirtyTwo
    else if characters == 64 then SixtyFour
    else if characters == 128 then OneHundredTwentyEight
    else Sixteen

-- what waits in a FIFO of this size: the first items of its array; a length beyond the FIFO counts as all of it
abbrev pub waiting : {X : Type 0} → FifoSize → (len : ℕ) → List X → List X
waiting size len items = take (min len (characters size)) items

-- the bytes of a queue
abbrev pub bytes_of : FifoSize → UartBytes → List ℕ
bytes_of size q = waiting size q.len q.items

-- a character of C
abbrev pub character_of : UartCharacter → Character
character_of c = record { byte = c.byte; errors = c.errors; origin = if is_on c.is_looped then Looped else Live }

-- the characters of a queue
abbrev pub characters_of : FifoSize → UartCharacters → List Character
characters_of size q = map character_of (waiting size q.len q.items)

-- the bytes on a wire; a length beyond the array counts as the whole array
abbrev pub wire_of : UartWire → List ℕ
wire_of w = take w.len w.items

-- how many bytes a wire has room for
abbrev pub capacity_of : UartWire → ℕ
capacity_of w = min w.capacity WIRE_ROOM
