-- The transmitter: a queue, the shift register, and the wire.
use Rattle.std.specs.Prelude.{ℕ, ◌+◌, ◌-◌, ◌^◌, min, Bool, true, false, List, [], ◌∷◌, ◌++◌, length, Option, Some, None}
use Rattle.std.specs.Prelude.{drop, nat_lt, if◌then◌else◌}
use Rattle.uart_chip.specs.declared.transmitter.Shifting.{Shifting}
use Rattle.uart_spec.specs.FifoSize.{characters}
use Rattle.uart_spec.specs.declared.setup.FifoSize.{FifoSize}

-- the size of the FIFO, the queue that data writes fill, the shift register, from which a character is shifted out, the
-- wire and its capacity, the ticks of a character, how many bytes met a full queue, and whether a THR-empty interrupt
-- is pending
pub record TransmitterState : Type 0 where
  pub size : FifoSize
  pub queue : List ℕ
  pub shift_register : Option Shifting
  pub wire : List ℕ
  pub capacity : ℕ
  pub char_ticks : ℕ
  pub overflows : ℕ
  pub is_thr_pending : Bool

-- how many characters a queue has room for: those of the FIFO, or one without it
abbrev pub room : (fifo : Bool) → FifoSize → ℕ
room fifo size = if fifo then characters size else 1

-- a transmitter that has sent nothing
abbrev pub fresh : FifoSize → ℕ → ℕ → TransmitterState
fresh size char_ticks capacity =
    record {
      size = size;
      queue = [];
      shift_register = None;
      wire = [];
      capacity = capacity;
      char_ticks = char_ticks;
      overflows = 0;
      is_thr_pending = false;
    }

-- one tick of the shift register: a character that is done comes back if in loopback, otherwise goes onto the wire if
-- there is room, and otherwise stays
abbrev pub shift : Bool → Option Shifting → TransmitterState → TransmitterState
shift loopback None t = t
shift loopback (Some s) t =
    if nat_lt 1 s.ticks_left
    then record t { shift_register = Some (record { byte = s.byte; ticks_left = s.ticks_left - 1 }) }
    else if loopback then record t { shift_register = None }
    else if nat_lt (length t.wire) t.capacity then record t { shift_register = None; wire = t.wire ++ s.byte ∷ [] }
    else t

-- the byte that returns in this tick
abbrev pub looped_byte : Bool → Option Shifting → Option ℕ
looped_byte true (Some s) = if nat_lt 1 s.ticks_left then None else Some s.byte
looped_byte true None = None
looped_byte false place = None

-- an empty shift register takes the front of the queue; if that was the last one, THR is empty again
abbrev pub refill : Option Shifting → List ℕ → TransmitterState → TransmitterState
refill (Some s) queue t = t
refill None [] t = t
refill None (x ∷ []) t =
    record t {
      queue = [];
      shift_register = Some (record { byte = x; ticks_left = t.char_ticks });
      is_thr_pending = true;
    }
refill None (x ∷ y ∷ xs) t =
    record t { queue = y ∷ xs; shift_register = Some (record { byte = x; ticks_left = t.char_ticks }) }

-- one tick: shift, and then refill unless the transmitter is held off. So a character that has begun goes out
abbrev pub tick : (loopback held_off : Bool) → TransmitterState → TransmitterState
tick loopback held_off t =
    let u = shift loopback t.shift_register t in if held_off then u else refill u.shift_register u.queue u

-- a byte is written to DATA: if there is room, it is put last; otherwise a full FIFO loses it, and without the FIFO it
-- replaces the one that waits
abbrev pub load : Bool → ℕ → TransmitterState → TransmitterState
load fifo byte t =
    if nat_lt (length t.queue) (room fifo t.size)
    then record t { queue = t.queue ++ byte ∷ []; is_thr_pending = false }
    else record t {
      queue = if fifo then t.queue else byte ∷ [];
      overflows = min (t.overflows + 1) (2 ^ 64 - 1);
      is_thr_pending = false;
    }

-- this number of bytes is removed from the front of the wire, which has more room then
abbrev pub take_wire : ℕ → TransmitterState → TransmitterState
take_wire count t = record t { wire = drop count t.wire }

-- the byte in the shift register, if there is one
abbrev pub shift_bytes : Option Shifting → List ℕ
shift_bytes None = []
shift_bytes (Some s) = s.byte ∷ []

-- what is still to be sent, in order
abbrev pub held : TransmitterState → List ℕ
held t = shift_bytes t.shift_register ++ t.queue

-- what has been sent and what is still to be sent, in order
abbrev pub out : TransmitterState → List ℕ
out t = t.wire ++ held t
