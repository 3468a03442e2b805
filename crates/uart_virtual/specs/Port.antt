-- The port: a live chip, what its monitor was told last, and what each call makes of both.
use Rattle.std.specs.Prelude.{◌≡◌, ℕ, Bool, true, false, not, ◌&&◌, ◌||◌, ◌==◌, ◌+◌, ◌-◌, List}
use Rattle.std.specs.Prelude.{[], ◌∷◌, length, take, min, is_some, nat_lt, nat_le, Option, None, Some, if◌then◌else◌}
use Rattle.uart_chip.specs.declared.chip.ChipData.{ChipData}
use Rattle.uart_chip.specs.Chip as chip
use Rattle.uart_chip.specs.Chip.{ChipState, interrupt, ticks, arrive_live, take_wire}
use Rattle.uart_chip.specs.Chip.{change_lines, after_read, after_write, is_loopback, receive_room, cut_of}
use Rattle.uart_chip.specs.Chip.{with_size, with_thr_pending, is_dlab_set}
use Rattle.uart_chip.specs.Jumps.{next_move}
use Rattle.uart_chip.specs.Receiver.{waiting}
use Rattle.uart_chip.specs.Sending.{sends_at_once}
use Rattle.uart_chip.specs.Snapshot.{chip_of}
use Rattle.uart_chip.specs.Transmitter.{held, room}
use Rattle.uart_chip.specs.declared.transmitter.TransmitterData.{TransmitterData}
use Rattle.uart_events.specs.declared.event.Chip.{Chip}
use Rattle.uart_live.specs.Live.{IsLive}
use Rattle.uart_live.specs.declared.fixed.TheConstants.{WIRE_ROOM}
use Rattle.uart_spec.specs.Bits.{has_any}
use Rattle.uart_spec.specs.FifoSize.{characters}
use Rattle.uart_spec.specs.declared.registers.interrupt_enable.TheConstants.IER
use Rattle.uart_spec.specs.declared.registers.line_status.TheConstants.LSR
use Rattle.uart_spec.specs.declared.registers.offsets.TheConstants as offsets
use Rattle.uart_spec.specs.declared.setup.FifoSize.{FifoSize}
use Rattle.uart_spec.specs.declared.setup.FifoSize.TheVariants.{Sixteen}
use Rattle.uart_virtual.specs.declared.told.Kind.{Kind}
use Rattle.uart_virtual.specs.declared.told.Seen.{Seen}
use Rattle.uart_virtual.specs.declared.told.Told.{Told}
use Rattle.uart_virtual.specs.declared.told.Todo.{Todo}

-- What a monitor has to do after a call is plain data. So the port knows no eventfd and no interrupt controller, and
-- edges and levels have the same port.

-- the chip, and what the monitor was told
pub record PortState : Type 0 where
  pub chip : ChipState
  pub told : Told

-- the ticks that pass in each call, which are 22 with FIFOs of 16: one for each character that a FIFO of this size
-- holds, and 6 more: one for the character in the shift register, 4 until a reception timeout is due, and one
unfoldable pub settle_ticks : FifoSize → ℕ
settle_ticks size = characters size + 6

-- so much time passes that nothing is left to happen
abbrev pub settle : ChipState → ChipState
settle c = ticks (settle_ticks c.transmitter.size) c

-- the level of the interrupt line
abbrev pub is_up : ChipState → Bool
is_up c = is_some (interrupt c)

-- a character can be received
abbrev pub has_room : ChipState → Bool
has_room c = not (receive_room c == 0)

-- no character waits
abbrev pub is_empty : ChipState → Bool
is_empty c = length (waiting c.receiver) == 0

-- ---- calls

-- what the guest and the host do: an access, characters without errors, of which those are received that there is room
-- for, one character with errors, which is received even if it overruns, modem lines, and a number of bytes that the
-- host took
pub data PortCall : Type 0 where
  Read : (offset : ℕ) → PortCall
  Write : (offset value : ℕ) → PortCall
  Receive : (bytes : List ℕ) → PortCall
  ReceiveOne : (byte errors : ℕ) → PortCall
  SetLines : (inputs : ℕ) → PortCall
  TakeOutput : (count : ℕ) → PortCall

-- these characters arrive, without errors
abbrev pub arrive_all : List ℕ → ChipState → ChipState
arrive_all [] c = c
arrive_all (byte ∷ bytes) c = arrive_all bytes (arrive_live byte 0 c)

-- how many of these characters there is room for
abbrev pub accepted : List ℕ → ChipState → ℕ
accepted bytes c = min (length bytes) (receive_room c)

-- the transmitter holds fewer bytes than before
abbrev pub holds_less : (before after : ChipState) → Bool
holds_less before after = nat_lt (length (held after.transmitter)) (length (held before.transmitter))

-- a write of a register. If it is one of FCR that discards bytes which the transmitter held, its queue is empty, and a
-- THR-empty interrupt is pending, as when the last byte leaves the queue
abbrev pub written : (offset value : ℕ) → ChipState → ChipState
written offset value c =
    let d = after_write offset value c in
    if (offset == offsets.FCR) && holds_less c d then with_thr_pending true d else d

-- the chip right after what happens in a call, before time passes
abbrev pub happen : PortCall → ChipState → ChipState
happen (Read offset) c = after_read offset c
happen (Write offset value) c = written offset value c
happen (Receive bytes) c = arrive_all (take (accepted bytes c) bytes) c
happen (ReceiveOne byte errors) c = arrive_live byte errors c
happen (SetLines inputs) c = change_lines inputs c
happen (TakeOutput count) c = take_wire count c

-- the host brings something: a character, modem lines, or room for what the transmitter could not send
abbrev pub brings : PortCall → ChipState → Bool
brings (Read offset) c = false
brings (Write offset value) c = false
brings (Receive bytes) c = nat_lt 0 (accepted bytes c)
brings (ReceiveOne byte errors) c = true
brings (SetLines inputs) c = true
brings (TakeOutput count) c = not (length (held c.transmitter) == 0)

-- the guest looks at what interrupted it
abbrev pub looks : PortCall → Bool
looks (Read offset) = offset == offsets.ISR
looks _ = false

-- the guest reads or writes DATA
abbrev pub moves_data : PortCall → Bool
moves_data (Read offset) = offset == offsets.DATA
moves_data (Write offset value) = offset == offsets.DATA
moves_data _ = false

-- the guest writes FCR, which can empty the FIFO, or MCR, which can end loopback: both can make room at once
abbrev pub may_make_room : PortCall → Bool
may_make_room (Write offset value) = (offset == offsets.FCR) || (offset == offsets.MCR)
may_make_room _ = false

-- what the call is, as far as signals are concerned
abbrev pub kind_of : PortCall → ChipState → Kind
kind_of call c =
    record {
      brings = brings call c;
      looks = looks call;
      moves_data = moves_data call;
      may_make_room = may_make_room call;
    }

-- of the chip right after what happens in a call: the line is up and stays up while time passes. What the guest sends
-- in loopback comes back while time passes, and that can take the line down for a moment
abbrev pub stays_up : PortCall → ChipState → Bool
stays_up (Write offset value) c = is_up c && not (is_loopback c.latches)
stays_up _ c = is_up c

-- ---- what the monitor is told

-- how many more characters than one a FIFO holds; none, if the guest has the FIFOs off
abbrev pub rest_of : ChipState → ℕ
rest_of c = room c.fifo c.transmitter.size - 1

-- what is seen of the chip when a call ends
abbrev pub seen_of : (ended : ChipState) → Seen
seen_of ended =
    record {
      level = is_up ended;
      has_room = has_room ended;
      is_empty = is_empty ended;
      rest = rest_of ended;
      ready = length ended.transmitter.wire;
    }

-- what the host brings is signalled although the line is up only if it leaves no room: nothing more can be received
-- then until the guest reads
abbrev pub is_news : Kind → Seen → Bool
is_news kind seen = kind.brings && not seen.has_room

-- the guest's interrupt is signalled: the line is up when the call ends, and it was down before; or what the host
-- brings leaves no room; or the line was down within the call, and no earlier signal covers that
abbrev pub is_signalled : Kind → (was_up : Bool) → Seen → Told → Bool
is_signalled kind was_up seen told =
    seen.level && (not told.line || (is_news kind seen || (not was_up && (told.spare == 0))))

-- the line was up before the call, and down at a moment of it
abbrev pub falls : (was_up : Bool) → Told → Bool
falls was_up told = told.line && not was_up

-- how many more falls of the line a signal covers. One that is given when the guest has looked, and now moves data,
-- covers what is left of a FIFO: the guest is in its handler, and this one signal calls the handler again. Any other
-- signal covers nothing. A fall in an access of DATA uses one up, and a look ends what is covered
abbrev pub spare_after : Kind → (was_up signal : Bool) → (rest : ℕ) → Told → ℕ
spare_after kind was_up signal rest told =
    if kind.looks then 0
    else if signal then (if kind.moves_data && told.has_looked then rest else 0)
    else if kind.moves_data && falls was_up told then told.spare - 1
    else told.spare

-- the monitor may take it that there is room: it knows that, or is told now. After there was none it is told when
-- nothing waits, and at once if the guest may have made room by a write
abbrev pub room_after : Kind → Seen → Told → Bool
room_after kind seen told = seen.has_room && (told.has_room || (kind.may_make_room || seen.is_empty))

-- what the monitor was told after a call of which this is seen, and of which it is known whether the line was up all
-- the time
abbrev pub told_after : Kind → (was_up : Bool) → Seen → Told → Told
told_after kind was_up seen told =
    let signal = is_signalled kind was_up seen told in
    record {
      line = seen.level;
      has_room = room_after kind seen told;
      has_looked = kind.looks || (told.has_looked && not signal);
      spare = spare_after kind was_up signal seen.rest told;
    }

-- the levels are not the same
abbrev pub differ : (before now : Bool) → Bool
differ before now = if now then not before else before

-- what the monitor has to do after it
abbrev pub todo_after : Kind → (was_up : Bool) → Seen → Told → Todo
todo_after kind was_up seen told =
    record {
      signal = is_signalled kind was_up seen told;
      level = seen.level;
      has_moved = differ told.line seen.level;
      has_room = room_after kind seen told && not told.has_room;
      ready = seen.ready;
    }

-- what the monitor was told, with what is seen of the chip when the call ends
abbrev pub tell : Kind → (was_up : Bool) → (ended : ChipState) → Told → Told
tell kind was_up ended told = told_after kind was_up (seen_of ended) told

-- what the monitor has to do, with what is seen of the chip when the call ends
abbrev pub todo_of : Kind → (was_up : Bool) → (ended : ChipState) → Told → Todo
todo_of kind was_up ended told = todo_after kind was_up (seen_of ended) told

-- a call that is nothing but time
abbrev pub idle : Kind
idle = record { brings = false; looks = false; moves_data = false; may_make_room = false }

-- a port that is new, or restored
abbrev pub renewed : Kind
renewed = record { brings = false; looks = false; moves_data = false; may_make_room = true }

-- nothing was told yet
abbrev pub untold : Told
untold = record { line = false; has_room = false; has_looked = false; spare = 0 }

-- a port whose monitor was told of this chip, and of nothing before
abbrev pub begun : ChipState → PortState
begun c = record { chip = c; told = tell renewed true c untold }

-- a port after power-on, with FIFOs of this size: the time of a call passed
abbrev pub fresh : FifoSize → Chip → PortState
fresh size model = begun (settle (with_size size (chip.fresh model 1 WIRE_ROOM 0)))

-- the port after this call: the access or what the host brings, and then the time that passes in each call
abbrev pub after : PortCall → PortState → PortState
after call p =
    let c = happen call p.chip in
    record { chip = settle c; told = tell (kind_of call p.chip) (stays_up call c) (settle c) p.told }

-- what the monitor has to do after this call: signal the interrupt, take output, bring input
abbrev pub todo : PortCall → PortState → Todo
todo call p =
    let c = happen call p.chip in todo_of (kind_of call p.chip) (stays_up call c) (settle c) p.told

-- what the monitor was told is true: the level of the line; if it may take it that there is room, there is, and if
-- nothing waits and there is room, it may
pub record IsTold (p : PortState) : Type 0 where
  pub line : p.told.line ≡ is_up p.chip
  pub room : p.told.has_room ≡ (has_room p.chip && (p.told.has_room || is_empty p.chip))

-- a character takes one tick, and the wire has the room of a port's output
pub record IsPaced (c : ChipState) : Type 0 where
  pub takes : c.transmitter.char_ticks ≡ 1
  pub room : c.transmitter.capacity ≡ WIRE_ROOM

-- no character can leave or enter the shift register; flow control is left to the driver, so nothing holds the
-- transmitter off
abbrev pub IsUnmoved : ChipState → Type 0
IsUnmoved c = next_move (is_loopback c.latches) false c.transmitter ≡ None

-- nothing is left to happen, however much time passes: no character can move, and a reception timeout is due if
-- characters wait in the FIFO
pub record IsStill (c : ChipState) : Type 0 where
  pub paced : IsPaced c
  pub unmoved : IsUnmoved c
  -- a reception timeout is due, if characters wait in the FIFO
  pub due : c.receiver.timeout_ticks ≡ c.receiver.timeout_limit

-- what is true of every port
pub record IsPort (p : PortState) : Type 0 where
  pub told : IsTold p
  pub still : IsStill p.chip

-- a read that returns this value is no look, and changes neither the line nor the room: LSR shows no error, or the
-- register has no side effects
abbrev pub is_quiet : (offset value : ℕ) → Bool
is_quiet offset value =
    if offset == offsets.LSR then not (has_any value LSR.LINE_ERRORS.0)
    else not (offset == offsets.DATA) && (not (offset == offsets.ISR) && not (offset == offsets.MSR))

-- what the monitor has to do after a call that changes neither the line nor the room: nothing
abbrev pub nothing_new : PortState → Todo
nothing_new p =
    record {
      signal = false;
      level = p.told.line;
      has_moved = false;
      has_room = false;
      ready = length p.chip.transmitter.wire;
    }

-- the guest has no interrupt enabled, as one that polls
abbrev pub is_polled : PortState → Bool
is_polled p = p.chip.latches.ier == 0

-- after a read of DATA the monitor has nothing to do: no interrupt is enabled, and the monitor knows of room
abbrev pub reads_polled : PortState → Bool
reads_polled p = is_polled p && p.told.has_room

-- after a byte of input the monitor has nothing to do: no interrupt is enabled, and the monitor knows of room
abbrev pub receives_polled : PortState → Bool
receives_polled p = is_polled p && (p.told.has_room && has_room p.chip)

-- a byte of input comes while none waits: there is room for it, of which the monitor knows, and the guest has the
-- interrupt of received characters enabled
abbrev pub receives_first : PortState → Bool
receives_first p =
    is_empty p.chip && (p.told.has_room && (has_any p.chip.latches.ier IER.DATA_READY.0 && has_room p.chip))

-- a read of DATA takes the last character that waits
abbrev pub reads_last : PortState → Bool
reads_last p = (length (waiting p.chip.receiver) == 1) && not (is_dlab_set p.chip.latches)

-- a read of DATA leaves a character, and the guest has the interrupt of received characters enabled
abbrev pub reads_more : PortState → Bool
reads_more p =
    has_any p.chip.latches.ier IER.DATA_READY.0 &&
    (nat_lt 1 (length (waiting p.chip.receiver)) && not (is_dlab_set p.chip.latches))

-- the host can take a byte that the guest writes to DATA before it is on the output: it would be alone there at once
abbrev pub passes : PortState → Bool
passes p = (length p.chip.transmitter.wire == 0) && sends_at_once p.chip

-- the byte, cut to the word length, if the host can take it before it is on the output
abbrev pub passing : (value : ℕ) → PortState → Option ℕ
passing value p = if passes p then Some (cut_of p.chip value) else None

-- ---- snapshots

-- no character of this transmitter can move: it is empty, or holds bytes only because the output is full
abbrev pub is_unmoved : TransmitterData → (loopback : Bool) → (output : List ℕ) → Bool
is_unmoved t loopback output =
    if is_some t.shift_register then not loopback && nat_le t.wire_capacity (length output)
    else length t.queue.items == 0

-- these data, and these bytes of output, are those of a port with FIFOs of 16: the chip is live, and nothing is left to
-- happen
pub record IsSaved (saved : ChipData) (output : List ℕ) : Type 0 where
  pub live : IsLive Sixteen (chip_of saved output)
  pub still : IsStill (chip_of saved output)
