-- The receiver: a queue of characters, and what became of each arrival.
use Rattle.std.specs.Prelude.{ℕ, ◌+◌, ◌*◌, min, Bool, true, false, ◌&&◌, List, [], ◌∷◌, ◌++◌, map, length, drop}
use Rattle.std.specs.Prelude.{replicate, slice_set, slice_index_or, Option, Some, None, nat_lt, nat_le, if◌then◌else◌}
use Rattle.std.specs.Prelude.{◌==◌, bit_and}
use Rattle.uart_chip.specs.declared.receiver.Character.{Character}
use Rattle.uart_chip.specs.declared.receiver.Origin.{Origin}
use Rattle.uart_chip.specs.declared.receiver.Origin.TheVariants.{Arrived, Looped, Live}
use Rattle.uart_events.specs.declared.event.ArrivalMark.{ArrivalMark}
use Rattle.uart_events.specs.declared.event.ArrivalMark.TheVariants.{Pending, Waiting, Read, Discarded, Dropped}
use Rattle.uart_chip.specs.Transmitter.{room}
use Rattle.uart_spec.specs.Bits.{has_any}
use Rattle.uart_spec.specs.declared.setup.FifoSize.{FifoSize}
use Rattle.uart_spec.specs.declared.setup.FifoSize.TheVariants.{Sixteen, ThirtyTwo, SixtyFour, OneHundredTwentyEight}
use Rattle.uart_spec.specs.declared.setup.FifoSize.TheVariants.{TwoHundredFiftySix}
use Rattle.uart_spec.specs.declared.registers.fifo_trigger_level.FifoTriggerLevel.{FifoTriggerLevel}
use Rattle.uart_spec.specs.declared.registers.fifo_trigger_level.FifoTriggerLevel.TheVariants.{One, Four, Eight}
use Rattle.uart_spec.specs.declared.registers.fifo_trigger_level.FifoTriggerLevel.TheVariants.{Fourteen}
use Rattle.uart_spec.specs.declared.registers.line_status.TheConstants.LSR

-- a receiver, and what it knows of a schedule
pub record ReceiverState : Type 0 where
  -- the size of the FIFO
  pub size : FifoSize
  -- the characters that wait, the first one first
  pub queue : List Character
  pub is_overrun : Bool
  -- whether a read of LSR has shown the errors of the first character
  pub is_front_reported : Bool
  -- the byte that was taken last
  pub last_byte : ℕ
  -- the ticks towards a reception timeout, and at how many it is due
  pub timeout_ticks : ℕ
  pub timeout_limit : ℕ
  pub trigger : FifoTriggerLevel
  -- how many characters of the schedule have arrived, and what became of each
  pub arrived : ℕ
  pub marks : List ArrivalMark
  -- whether an unscheduled character was lost since the last one came
  pub is_unscheduled_lost : Bool

-- That a looped character was lost is noted until the next unscheduled one is received, even if that one is lost in a
-- full FIFO. So the note is set only while no looped character waits.

-- a receiver that has received nothing, for a schedule with this number of arrivals
abbrev pub fresh : FifoSize → ℕ → ℕ → ReceiverState
fresh size char_ticks arrivals =
    record {
      size = size;
      queue = [];
      is_overrun = false;
      is_front_reported = false;
      last_byte = 0;
      timeout_ticks = 0;
      timeout_limit = 4 * char_ticks;
      trigger = One;
      arrived = 0;
      marks = replicate arrivals Pending;
      is_unscheduled_lost = false;
    }

-- the mark of the arrival with this number
abbrev pub mark_at : List ArrivalMark → ℕ → ArrivalMark
mark_at marks number = slice_index_or marks number Pending

-- the marks after that of this origin was set; an unscheduled character has none
abbrev pub set_mark : Origin → ArrivalMark → List ArrivalMark → List ArrivalMark
set_mark (Arrived number) mark marks = slice_set marks number mark
set_mark Looped mark marks = marks
set_mark Live mark marks = marks

-- the character is unscheduled: it came back in loopback, or arrived without a schedule
abbrev pub is_unscheduled : Origin → Bool
is_unscheduled (Arrived number) = false
is_unscheduled Looped = true
is_unscheduled Live = true

-- a character is received without FIFO while there is one: that one is dropped
abbrev pub replace : List Character → Character → ReceiverState → ReceiverState
replace [] new r = r
replace (old ∷ others) new r =
    record r {
      queue = new ∷ [];
      is_overrun = true;
      is_front_reported = false;
      timeout_ticks = 0;
      marks = set_mark new.origin Waiting (set_mark old.origin Dropped r.marks);
      is_unscheduled_lost =
          if is_unscheduled new.origin then false
          else if is_unscheduled old.origin then true
          else r.is_unscheduled_lost;
    }

-- a character is received: it is put last; or it is dropped if the FIFO is full; or it replaces the one without FIFO
abbrev pub enter : Bool → Character → ReceiverState → ReceiverState
enter fifo new r =
    if nat_lt (length r.queue) (room fifo r.size)
    then record r {
      queue = r.queue ++ new ∷ [];
      is_front_reported = if length r.queue == 0 then false else r.is_front_reported;
      timeout_ticks = 0;
      marks = set_mark new.origin Waiting r.marks;
      is_unscheduled_lost = if is_unscheduled new.origin then false else r.is_unscheduled_lost;
    }
    else if fifo
    then record r {
      is_overrun = true;
      timeout_ticks = 0;
      marks = set_mark new.origin Dropped r.marks;
      is_unscheduled_lost = if is_unscheduled new.origin then false else r.is_unscheduled_lost;
    }
    else replace r.queue new r

-- the byte that came back in this tick, if there is one, arrives
abbrev pub come_back : Bool → Option ℕ → ReceiverState → ReceiverState
come_back fifo None r = r
come_back fifo (Some byte) r = enter fifo (record { byte = byte; errors = 0; origin = Looped }) r

-- one more tick without a character, up to the limit
abbrev pub grow_timeout : ReceiverState → ReceiverState
grow_timeout r = record r { timeout_ticks = min (r.timeout_ticks + 1) r.timeout_limit }

-- one tick, with the byte that loopback returned in it
abbrev pub tick : Bool → Option ℕ → ReceiverState → ReceiverState
tick fifo looped r = grow_timeout (come_back fifo looped r)

-- the next arrival of the schedule: in loopback it is discarded, otherwise it arrives
abbrev pub arrive : Bool → Bool → ℕ → ℕ → ReceiverState → ReceiverState
arrive loopback fifo byte errors r =
    let new : Character = record { byte = byte; errors = errors; origin = Arrived r.arrived } in
    if loopback
    then record r { arrived = r.arrived + 1; marks = slice_set r.marks r.arrived Discarded }
    else enter fifo new (record r { arrived = r.arrived + 1 })

-- a character is received without a schedule; in loopback it is lost
abbrev pub arrive_live : Bool → Bool → ℕ → ℕ → ReceiverState → ReceiverState
arrive_live loopback fifo byte errors r =
    if loopback then r else enter fifo (record { byte = byte; errors = errors; origin = Live }) r

-- the front of the queue is taken
abbrev pub take_front : List Character → ReceiverState → ReceiverState
take_front [] r = r
take_front (front ∷ others) r =
    record r {
      queue = others;
      is_front_reported = false;
      timeout_ticks = 0;
      last_byte = front.byte;
      marks = set_mark front.origin Read r.marks;
    }

-- the errors of the front, unless they were reported
abbrev pub front_errors : List Character → Bool → ℕ
front_errors [] reported = 0
front_errors (front ∷ others) reported = if reported then 0 else bit_and front.errors LSR.CHARACTER_ERRORS.0

-- the characters whose errors were not reported
abbrev pub unreported : List Character → Bool → List Character
unreported queue reported = if reported then drop 1 queue else queue

-- the character has a parity error or a framing error, or is a break
abbrev pub has_errors : Character → Bool
has_errors character = has_any character.errors LSR.CHARACTER_ERRORS.0

-- the line status was read: overrun is cleared, and the front counts as reported
abbrev pub report : ReceiverState → ReceiverState
report r = record r {
  is_overrun = false;
  is_front_reported = if length r.queue == 0 then r.is_front_reported else true;
}

-- the marks of these characters become Discarded
abbrev pub discard : List Character → List ArrivalMark → List ArrivalMark
discard [] marks = marks
discard (character ∷ characters) marks = discard characters (set_mark character.origin Discarded marks)

-- the queue is emptied
abbrev pub clear : ReceiverState → ReceiverState
clear r = record r { queue = []; marks = discard r.queue r.marks }

-- A trigger level has the name of the number of characters that it is for a 16550. A chip with larger FIFOs has other
-- numbers for the same four codes.

-- one of four numbers, for the lowest trigger level to the highest
abbrev pub by_level : (first second third fourth : ℕ) → FifoTriggerLevel → ℕ
by_level first second third fourth One = first
by_level first second third fourth Four = second
by_level first second third fourth Eight = third
by_level first second third fourth Fourteen = fourth

-- the number of characters of a trigger level, for a FIFO of this size: as a 16550, a 16650, a 16750 and a 16950 have
-- them, and those of DesignWare: one, a quarter, a half, and two less than full
abbrev pub characters_of : FifoSize → FifoTriggerLevel → ℕ
characters_of Sixteen = by_level 1 4 8 14
characters_of ThirtyTwo = by_level 8 16 24 28
characters_of SixtyFour = by_level 1 16 32 56
characters_of OneHundredTwentyEight = by_level 16 32 112 120
characters_of TwoHundredFiftySix = by_level 1 64 128 254

-- there are as many characters as the trigger level, or without FIFO any
abbrev pub is_data_pending : Bool → ReceiverState → Bool
is_data_pending fifo r =
    if fifo then nat_le (characters_of r.size r.trigger) (length r.queue) else nat_lt 0 (length r.queue)

-- A timeout that is due is withdrawn when a character arrives. A real chip holds it until the FIFO is read.

-- there are characters in the FIFO, and none was received or read for four character times
abbrev pub is_timed_out : Bool → ReceiverState → Bool
is_timed_out fifo r = fifo && (nat_lt 0 (length r.queue) && (r.timeout_ticks == r.timeout_limit))

-- the received bytes that have not been read
abbrev pub waiting : ReceiverState → List ℕ
waiting r = map (λ character. character.byte) r.queue
