-- What a monitor expects of a port: it is told of each rise of the line and of room, no byte is lost, and no guest
-- waits for time to pass.
use Rattle.std.specs.Prelude.{◌≡◌, ◌≢◌, ℕ, ◌+◌, ◌-◌, Bool, true, false, not, ◌&&◌, ◌||◌, List, [], if◌then◌else◌}
use Rattle.std.specs.Prelude.{◌==◌, ◌∷◌, ◌++◌, map, take, ◌⊎◌, length, ◌<◌, ◌≤◌, nat_lt}
use Rattle.uart_chip.specs.Chip.{ChipState, receive_room, is_loopback, line_status, ticks, after_write}
use Rattle.uart_chip.specs.Transmitter.{out, held}
use Rattle.uart_spec.specs.Bits.{has_any}
use Rattle.uart_spec.specs.FifoSize.{characters}
use Rattle.uart_spec.specs.declared.registers.interrupt_enable.TheConstants.IER
use Rattle.uart_spec.specs.declared.registers.line_status.TheConstants.LSR
use Rattle.uart_spec.specs.declared.registers.offsets.TheConstants as offsets
use Rattle.uart_live.specs.Laws as live
use Rattle.uart_live.specs.Laws.{Act, Ticks, Arrive, TakeWire, in_turn, AllInTurn, sent, taken, IsCareful}
use Rattle.uart_live.specs.declared.fixed.TheConstants.{WIRE_ROOM}
use Rattle.uart_virtual.specs.declared.told.Todo.{Todo}
use Rattle.uart_virtual.specs.Port.{PortState, PortCall, Read, Write, Receive, ReceiveOne}
use Rattle.uart_virtual.specs.Port.{SetLines, TakeOutput, after, todo, todo_of, untold}
use Rattle.uart_virtual.specs.Port.{falls, happen, brings, looks, moves_data, stays_up, settle_ticks, is_up, renewed}
use Rattle.uart_virtual.specs.Port.{has_room, is_empty, accepted, IsTold, IsStill, IsPort}

-- the port after these calls in turn
abbrev pub after_all : List PortCall → PortState → PortState
after_all [] p = p
after_all (call ∷ calls) p = after_all calls (after call p)

-- one of these calls tells the monitor this
abbrev pub some_told : (Todo → Bool) → List PortCall → PortState → Bool
some_told tells [] p = false
some_told tells (call ∷ calls) p = tells (todo call p) || some_told tells calls (after call p)

-- ---- the line

-- the level that a call tells is that of the chip's interrupt line when the call ends
abbrev pub LevelIsTold : Type 0
LevelIsTold = (call : PortCall) (p : PortState) → (todo call p).level ≡ is_up (after call p).chip

-- what a port remembers of what it told stays true: if it is true before some calls, it is true after them
abbrev pub ToldStays : Type 0
ToldStays = (calls : List PortCall) (p : PortState) → IsTold p → IsTold (after_all calls p)

-- a signal is given only while the line is up
abbrev pub SignalsAreUp : Type 0
SignalsAreUp = (call : PortCall) (p : PortState) → (todo call p).signal ≡ true → is_up (after call p).chip ≡ true

-- a line that was down between two calls and is up between later ones was signalled in between: so after a look that
-- shows no interrupt, the guest is interrupted as soon as there is a cause
abbrev pub EachRiseIsSignalled : Type 0
EachRiseIsSignalled =
    (calls : List PortCall) (p : PortState) → IsTold p →
    -- the line was down before the calls
    is_up p.chip ≡ false →
    -- it is up after them
    is_up (after_all calls p).chip ≡ true →
    some_told (λ (t : Todo). t.signal) calls p ≡ true

-- a line that was down at any moment of a call, and is up when the call ends, is signalled, unless an earlier signal
-- covers that
abbrev pub EachDipIsSignalled : Type 0
EachDipIsSignalled =
    (call : PortCall) (p : PortState) (n : ℕ) → IsPort p →
    -- the line was down at a moment of the call
    is_up (ticks n (happen call p.chip)) ≡ false →
    -- it is up when the call ends
    is_up (after call p).chip ≡ true →
    -- no earlier signal covers that
    p.told.spare ≡ 0 → (todo call p).signal ≡ true

-- the call signals, and this covers as many falls of the line more as a FIFO holds characters besides one, which are 15
-- with FIFOs of 16: the guest moves data, and has looked since the last signal
abbrev pub IsCovering : PortCall → PortState → Type 0
IsCovering call p =
    ((todo call p).signal ≡ true) × ((moves_data call ≡ true) × ((p.told.has_looked ≡ true) ×
    ((after call p).told.spare ≡ characters (after call p).chip.transmitter.size - 1)))

-- the call does not signal, an earlier signal still covers it, and a fall of the line in an access of DATA is one of
-- those that it covers
abbrev pub IsCovered : PortCall → PortState → Type 0
IsCovered call p =
    let fell = falls (stays_up call (happen call p.chip)) p.told in
    ((todo call p).signal ≡ false) × ((p.told.spare ≢ 0) ×
    ((after call p).told.spare ≡ (if moves_data call && fell then p.told.spare - 1 else p.told.spare)))

-- a signal covers others only if it was given since the guest last read ISR, while the guest was moving data, and it
-- covers at most as many falls of the line more as a FIFO holds characters besides one
abbrev pub ASignalCovers : Type 0
ASignalCovers =
    (call : PortCall) (p : PortState) →
    -- a signal covers accesses after the call
    (after call p).told.spare ≢ 0 →
    (looks call ≡ false) × (IsCovering call p ⊎ IsCovered call p)

-- each fall of the line in an access of DATA that is not signalled uses up one of those that a signal covers
abbrev pub AFallUsesOneUp : Type 0
AFallUsesOneUp =
    (call : PortCall) (p : PortState) (n : ℕ) → IsPort p →
    -- the guest reads or writes DATA
    moves_data call ≡ true →
    -- the line was up before the call
    is_up p.chip ≡ true →
    -- it was down at a moment of the call
    is_up (ticks n (happen call p.chip)) ≡ false →
    -- the call does not signal
    (todo call p).signal ≡ false → (after call p).told.spare ≡ p.told.spare - 1

-- none of these calls is a look of the guest
abbrev pub none_looks : List PortCall → Bool
none_looks [] = true
none_looks (call ∷ calls) = not (looks call) && none_looks calls

-- nothing is covered while the guest does not look: a guest that never reads ISR is signalled each time that the line
-- falls and rises
abbrev pub NoLookCoversNothing : Type 0
NoLookCoversNothing =
    (calls : List PortCall) (p : PortState) →
    -- no call reads ISR
    none_looks calls ≡ true →
    -- ISR was not read since the signal before
    p.told.has_looked ≡ false →
    -- no signal covers others at first
    p.told.spare ≡ 0 →
    ((after_all calls p).told.has_looked ≡ false) × ((after_all calls p).told.spare ≡ 0)

-- input that leaves no room is signalled, if the line is up when the call ends. So no guest is without a signal for
-- good while input comes
abbrev pub AFullFifoIsSignalled : Type 0
AFullFifoIsSignalled =
    (call : PortCall) (p : PortState) →
    -- the call brings input
    brings call p.chip ≡ true →
    -- the line is up when it ends
    is_up (after call p).chip ≡ true →
    -- no room is left then
    has_room (after call p).chip ≡ false → (todo call p).signal ≡ true

-- there are no other signals: the line was down before the call, or at a moment of it (a write in loopback counts as
-- such a moment), or the call brings something and leaves no room
abbrev pub NoOtherSignals : Type 0
NoOtherSignals =
    (call : PortCall) (p : PortState) → IsTold p →
    -- the call signals
    (todo call p).signal ≡ true →
    (is_up p.chip ≡ false) ⊎ ((stays_up call (happen call p.chip) ≡ false) ⊎
    ((brings call p.chip ≡ true) × (has_room (after call p).chip ≡ false)))

-- ---- room

-- if there is no room between two calls, and later there is room and nothing waits, a call in between told of room
abbrev pub RoomIsTold : Type 0
RoomIsTold =
    (calls : List PortCall) (p : PortState) → IsTold p →
    -- there is no room before the calls
    has_room p.chip ≡ false →
    -- there is room after them
    has_room (after_all calls p).chip ≡ true →
    -- nothing waits then
    is_empty (after_all calls p).chip ≡ true →
    some_told (λ (t : Todo). t.has_room) calls p ≡ true

-- the guest reads DATA
abbrev pub reads_data : PortCall → Bool
reads_data (Read offset) = offset == offsets.DATA
reads_data _ = false

-- if there is no room before a call and there is room after it, the call tells of it, unless it is a read of DATA that
-- leaves characters: so room that comes by a write of FCR or by the end of loopback is told at once
abbrev pub RoomIsToldAtOnce : Type 0
RoomIsToldAtOnce =
    (call : PortCall) (p : PortState) → IsTold p →
    -- there is no room before the call
    has_room p.chip ≡ false →
    -- there is room after it
    has_room (after call p).chip ≡ true →
    -- the call is no read of DATA that leaves characters
    (reads_data call ≡ false) ⊎ (is_empty (after call p).chip ≡ true) → (todo call p).has_room ≡ true

-- room is told only if there was none since it was told last: what is told stays so as long as there is room
abbrev pub RoomIsToldOnce : Type 0
RoomIsToldOnce =
    (call : PortCall) (p : PortState) →
    -- room was told, and there has been some since
    p.told.has_room ≡ true →
    ((todo call p).has_room ≡ false) × ((after call p).told.has_room ≡ has_room (after call p).chip)

-- a call that receives fewer bytes than it was offered leaves no room
abbrev pub RefusalLeavesNoRoom : Type 0
RefusalLeavesNoRoom =
    (bytes : List ℕ) (p : PortState) →
    -- more bytes are offered than there is room for
    receive_room p.chip < length bytes →
    has_room (after (Receive bytes) p).chip ≡ false

-- a restored port tells of the room that it has, and signals if its line is up
abbrev pub RestoredIsTold : Type 0
RestoredIsTold =
    (c : ChipState) →
    ((todo_of renewed true c untold).has_room ≡ has_room c) × ((todo_of renewed true c untold).signal ≡ is_up c)

-- ---- output

-- what a call does with the chip before time passes
abbrev pub acts_at_once : PortCall → ChipState → List Act
acts_at_once (Read offset) c = live.Read offset ∷ []
acts_at_once (Write offset value) c = live.Write offset value ∷ []
acts_at_once (Receive bytes) c = map (λ byte. Arrive byte 0) (take (accepted bytes c) bytes)
acts_at_once (ReceiveOne byte errors) c = Arrive byte errors ∷ []
acts_at_once (SetLines inputs) c = live.SetLines inputs ∷ []
acts_at_once (TakeOutput count) c = TakeWire count ∷ []

-- what a call does with the chip
abbrev pub acts_of : PortCall → ChipState → List Act
acts_of call c = acts_at_once call c ++ Ticks (settle_ticks (happen call c).transmitter.size) ∷ []

-- what these calls do with the chip
abbrev pub acts_of_all : List PortCall → PortState → List Act
acts_of_all [] p = []
acts_of_all (call ∷ calls) p = acts_of call p.chip ++ acts_of_all calls (after call p)

-- what the host took, and then what the port still holds, is what it held before and what the guest wrote, in order
abbrev pub BytesGoOut : Type 0
BytesGoOut =
    (calls : List PortCall) (p : PortState) →
    let acts = acts_of_all calls p in
    AllInTurn IsCareful acts p.chip →
    in_turn taken acts p.chip ++ out (after_all calls p).chip.transmitter ≡
    out p.chip.transmitter ++ in_turn sent acts p.chip

-- a byte that is written while LSR shows an empty THR is not lost
abbrev pub EmptyThrTakesAByte : Type 0
EmptyThrTakesAByte =
    (value : ℕ) (c : ChipState) → has_any (line_status c) LSR.THR_EMPTY.0 ≡ true →
    IsCareful (live.Write offsets.DATA value) c

-- a write of FCR discards nothing, if the transmitter's queue is empty: so it is also while the output is not full
abbrev pub FcrKeepsTheOutput : Type 0
FcrKeepsTheOutput =
    (value : ℕ) (c : ChipState) → c.transmitter.queue ≡ [] →
    out (after_write offsets.FCR value c).transmitter ≡ out c.transmitter

-- a transmitter's queue that held bytes before a call and is empty after it interrupts a guest that has this enabled,
-- whether the bytes left it or a write of FCR discarded them
abbrev pub AnEmptiedQueueInterrupts : Type 0
AnEmptiedQueueInterrupts =
    (call : PortCall) (p : PortState) →
    -- the transmitter's queue held bytes before the call
    p.chip.transmitter.queue ≢ [] →
    -- it is empty after the call
    (after call p).chip.transmitter.queue ≡ [] →
    -- the guest has its interrupt enabled
    has_any (after call p).chip.latches.ier IER.THR_EMPTY.0 ≡ true → is_up (after call p).chip ≡ true

-- what the host does not take comes back to the guest: if more bytes are to go out than the output has room for, LSR
-- shows a transmitter that is not empty, and with one more a THR that is not empty
abbrev pub ASlowHostShows : Type 0
ASlowHostShows =
    (p : PortState) →
    -- the output holds no more than it has room for
    length p.chip.transmitter.wire ≤ WIRE_ROOM →
    (WIRE_ROOM < length (out p.chip.transmitter) → has_any (line_status p.chip) LSR.TRANSMITTER_EMPTY.0 ≡ false) ×
    (WIRE_ROOM + 1 < length (out p.chip.transmitter) → has_any (line_status p.chip) LSR.THR_EMPTY.0 ≡ false)

-- ---- no guest waits for time that never passes

-- what the guest wrote and is not on the output is held back only because the output is full
abbrev pub HeldOnlyIfFull : Type 0
HeldOnlyIfFull =
    (c : ChipState) → IsStill c → held c.transmitter ≢ [] → is_loopback c.latches ≡ false →
    nat_lt (length c.transmitter.wire) c.transmitter.capacity ≡ false

-- while a character waits and the guest has its interrupt enabled, the line is up, whatever the trigger level
abbrev pub WaitingInterrupts : Type 0
WaitingInterrupts =
    (c : ChipState) → IsStill c →
    -- the guest has its interrupt enabled
    has_any c.latches.ier IER.DATA_READY.0 ≡ true →
    -- a character waits
    nat_lt 0 (length c.receiver.queue) ≡ true → is_up c ≡ true

-- ---- moments within a call

-- while time passes the line does not fall, outside of loopback: so it was down at some moment of a call only if it was
-- down before the call, or right after what happened in it
abbrev pub LineStays : Type 0
LineStays =
    (n : ℕ) (c : ChipState) → is_loopback c.latches ≡ false → is_up c ≡ true → is_up (ticks n c) ≡ true
