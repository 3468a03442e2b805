-- What an owner expects of a live chip: nothing is lost unnoticed, and the order is kept.
use Rattle.std.specs.Prelude.{◌≡◌, ◌≢◌, ℕ, ◌<◌, Bool, true, false, not, ◌&&◌, ◌||◌, ◌==◌, List, [], ◌∷◌, ◌++◌, length}
use Rattle.std.specs.Prelude.{take, map, is_some, if◌then◌else◌}
use Rattle.uart_chip.specs.declared.receiver.Character.{Character}
use Rattle.uart_chip.specs.declared.receiver.Origin.TheVariants.{Live}
use Rattle.uart_chip.specs.Transmitter.{room, out}
use Rattle.uart_chip.specs.Chip.{ChipState, cut_of, is_dlab_set, is_loopback, line_status, ticks, arrive_live}
use Rattle.uart_chip.specs.Chip.{take_wire}
use Rattle.uart_chip.specs.Chip.{change_lines, answer, interrupt, after_read, after_write}
use Rattle.uart_live.specs.Held.{is_due, arrive_holding}
use Rattle.uart_spec.specs.Bits.{has_any}
use Rattle.uart_spec.specs.declared.registers.interrupt_enable.TheConstants.IER
use Rattle.uart_spec.specs.declared.registers.line_status.TheConstants.LSR
use Rattle.uart_spec.specs.declared.registers.offsets.TheConstants as offsets

-- what can be done with a live chip: an access of the guest, ticks, a character, which may hold a timeout that is due,
-- modem lines, bytes taken from the wire
pub data Act : Type 0 where
  Read : (offset : ℕ) → Act
  Write : (offset value : ℕ) → Act
  Ticks : (count : ℕ) → Act
  Arrive : (byte errors : ℕ) → Act
  ArriveHolding : (byte errors : ℕ) → Act
  SetLines : (inputs : ℕ) → Act
  TakeWire : (count : ℕ) → Act

-- the chip after an act, according to the contract of the call
abbrev pub after : Act → ChipState → ChipState
after (Read offset) c = after_read offset c
after (Write offset value) c = after_write offset value c
after (Ticks count) c = ticks count c
after (Arrive byte errors) c = arrive_live byte errors c
after (ArriveHolding byte errors) c = arrive_holding byte errors c
after (SetLines inputs) c = change_lines inputs c
after (TakeWire count) c = take_wire count c

-- the chip after these in turn
abbrev pub after_all : List Act → ChipState → ChipState
after_all [] c = c
after_all (act ∷ acts) c = after_all acts (after act c)

-- what these acts yield, in turn, each for the chip before it
abbrev pub in_turn : {X : Type 0} → (Act → ChipState → List X) → List Act → ChipState → List X
in_turn of_act [] c = []
in_turn of_act (act ∷ acts) c = of_act act c ++ in_turn of_act acts (after act c)

-- each of these acts has this property, for the chip before it
abbrev pub AllInTurn : (Act → ChipState → Type 0) → List Act → ChipState → Type 0
AllInTurn P [] c = Unit {0}
AllInTurn P (act ∷ acts) c = P act c × AllInTurn P acts (after act c)

-- the access is to the data register, and not to the divisor latch
abbrev pub is_data : ℕ → ChipState → Bool
is_data offset c = offset == offsets.DATA && not (is_dlab_set c.latches)

-- ---- what goes out

-- the byte that the guest writes to the transmitter, as it is sent
abbrev pub sent : Act → ChipState → List ℕ
sent (Write offset value) c = if is_data offset c then cut_of c value ∷ [] else []
sent _ c = []

-- the bytes that the owner takes
abbrev pub taken : Act → ChipState → List ℕ
taken (TakeWire count) c = take count c.transmitter.wire
taken _ c = []

-- time passes outside of loopback; FCR, whose resets discard bytes, is not written; a byte is written to the
-- transmitter only if its queue has room
abbrev pub IsCareful : Act → ChipState → Type 0
IsCareful (Ticks count) c = is_loopback c.latches ≡ false
IsCareful (Write offset value) c =
    (offset ≢ offsets.FCR) × (is_data offset c ≡ true → length c.transmitter.queue < room c.fifo c.transmitter.size)
IsCareful _ c = Unit {0}

-- bytes are sent in the order in which they were written, each once, whether the wire is full or not: what was to be
-- sent and what was written is what was taken and what is still to be sent
abbrev pub BytesLeaveInOrder : Type 0
BytesLeaveInOrder =
    (acts : List Act) (c : ChipState) → AllInTurn IsCareful acts c →
    in_turn taken acts c ++ out (after_all acts c).transmitter ≡ out c.transmitter ++ in_turn sent acts c

-- ---- what comes in

-- the character that is received, unless it is lost in loopback
abbrev pub entering : (byte errors : ℕ) → ChipState → List Character
entering byte errors c =
    if is_loopback c.latches then [] else record { byte = cut_of c byte; errors = errors; origin = Live } ∷ []

-- the character that an act brings, unless it is lost in loopback
abbrev pub came : Act → ChipState → List Character
came (Arrive byte errors) c = entering byte errors c
came (ArriveHolding byte errors) c = entering byte errors c
came _ c = []

-- the character that the guest reads
abbrev pub read : Act → ChipState → List Character
read (Read offset) c = if is_data offset c then take 1 c.receiver.queue else []
read _ c = []

-- time passes outside of loopback, and FCR is not written
abbrev pub IsUnreset : Act → ChipState → Type 0
IsUnreset (Ticks count) c = is_loopback c.latches ≡ false
IsUnreset (Write offset value) c = offset ≢ offsets.FCR
IsUnreset _ c = Unit {0}

-- the guest reads the overrun flag, and it is set
abbrev pub shows_overrun : Act → ChipState → Bool
shows_overrun (Read offset) c = offset == offsets.LSR && has_any (line_status c) LSR.OVERRUN_ERROR.0
shows_overrun _ c = false

-- one of these acts shows it
abbrev pub some_overrun : List Act → ChipState → Bool
some_overrun [] c = false
some_overrun (act ∷ acts) c = shows_overrun act c || some_overrun acts (after act c)

-- characters are read in the order in which they were received, each once, or an overrun is reported: if no read of
-- LSR returned the overrun flag and it is not set now, then what was in the receiver and was received is what was
-- read and what is in the receiver
abbrev pub CharactersAreReadInOrder : Type 0
CharactersAreReadInOrder =
    (acts : List Act) (c : ChipState) → AllInTurn IsUnreset acts c →
    -- no read of LSR returned the overrun flag
    some_overrun acts c ≡ false →
    -- the flag is not set now
    (after_all acts c).receiver.is_overrun ≡ false →
    c.receiver.queue ++ in_turn came acts c ≡ in_turn read acts c ++ (after_all acts c).receiver.queue

-- ---- what a read leaves alone

-- the register only shows its value: IER, LCR, MCR, SCR, and under DLAB both bytes of the divisor latch
abbrev pub is_plain : ℕ → ChipState → Bool
is_plain offset c =
    (offset == offsets.IER || offset == offsets.LCR) || (offset == offsets.MCR || offset == offsets.SPR) ||
    (offset == offsets.DATA && is_dlab_set c.latches)

-- a read of such a register changes nothing
abbrev pub PlainReadsChangeNothing : Type 0
PlainReadsChangeNothing = (offset : ℕ) (c : ChipState) → is_plain offset c ≡ true → after_read offset c ≡ c

-- ---- a timeout that is held

-- the act, but a character withdraws a timeout that is due
abbrev pub withdrawing : Act → Act
withdrawing (ArriveHolding byte errors) = Arrive byte errors
withdrawing act = act

-- what a register other than ISR returns to the guest, and what the owner takes
abbrev pub seen : Act → ChipState → List ℕ
seen (Read offset) c = if offset == offsets.ISR then [] else answer offset c ∷ []
seen (TakeWire count) c = take count c.transmitter.wire
seen _ c = []

-- only ISR and the interrupt line show whether timeouts are held
abbrev pub OnlyInterruptsShowHolding : Type 0
OnlyInterruptsShowHolding =
    (acts : List Act) (c : ChipState) → in_turn seen (map withdrawing acts) c ≡ in_turn seen acts c

-- DATA is not read, FCR is not written, time passes outside of loopback, and each character holds a timeout
abbrev pub IsHolding : Act → ChipState → Type 0
IsHolding (Read offset) c = is_data offset c ≡ false
IsHolding (Write offset value) c = offset ≢ offsets.FCR
IsHolding (Ticks count) c = is_loopback c.latches ≡ false
IsHolding (Arrive byte errors) c = ⊥
IsHolding _ c = Unit {0}

-- a timeout that is due stays due
abbrev pub HeldTimeoutsStay : Type 0
HeldTimeoutsStay =
    (acts : List Act) (c : ChipState) → AllInTurn IsHolding acts c →
    -- a reception timeout is due
    is_due c ≡ true → is_due (after_all acts c) ≡ true

-- an interrupt is pending if a timeout is due and the guest enabled it
abbrev pub DueTimeoutsInterrupt : Type 0
DueTimeoutsInterrupt =
    (c : ChipState) → is_due c ≡ true → has_any c.latches.ier IER.DATA_READY.0 ≡ true → is_some (interrupt c) ≡ true
