-- The definition of a script, line by line, and of the first faulty line of bytes that are not a script.
use Rattle.std.specs.Prelude.{◌≡◌, ◌↔◌, ℕ, ◌+◌, ◌<◌, ◌≤◌, ◌==◌, ◌&&◌, nat_lt, Bool, true, false, not, List}
use Rattle.std.specs.Prelude.{[], ◌∷◌, ◌++◌, length, map, Option, Some, None, Result, Ok, Err, IfOk, All, if◌then◌else◌}
use Rattle.std.specs.Prelude.{flat_map, codes, drop}
use Rattle.std.specs.Int.NonZero.{non_zero_u64_get}
use Rattle.uart_spec.specs.declared.setup.FifoSize.{FifoSize}
use Rattle.uart_spec.specs.declared.setup.FifoSize.TheVariants.{Sixteen}
use Rattle.uart_events.specs.declared.event.TheConstants.{MAX_CHAR_TICKS, MAX_WIRE_CAPACITY}
use Rattle.uart_events.specs.Build.{IsLegal}
use Rattle.uart_events.specs.declared.event.Chip.{Chip}
use Rattle.uart_events.specs.declared.event.Event.{Event}
use Rattle.uart_call.specs.declared.call.Call.{Call}
use Rattle.uart_language.specs.declared.cause.Cause.{Cause}
use Rattle.uart_language.specs.declared.cause.Cause.TheVariants.{BadByte, Misplaced, UnknownWord, WrongCount, TooLong}
use Rattle.uart_language.specs.declared.cause.ScriptError.{ScriptError}
use Rattle.uart_language.specs.declared.cause.ScriptError.TheVariants as errors
use Rattle.uart_language.specs.declared.limits.TheConstants.{MOST_BYTES, MOST_LINES, MOST_LIMIT, DEFAULT_LIMIT}
use Rattle.uart_language.specs.declared.parsing.Script.{Script}
use Rattle.uart_language.specs.declared.words.Place.{Place}
use Rattle.uart_language.specs.declared.words.Word.{Word}
use Rattle.uart_call.specs.Calls.{IsRunnable}
use Rattle.uart_language.specs.Text.{lines_of, words_of, word_at, has_bad_byte}
use Rattle.uart_language.specs.Fields.{char_ticks_in, wire_capacity_in, kind, chip_in}
use Rattle.uart_language.specs.Words.{word_of, has_count, is_limited, is_placed, place_of, fields_of}
use Rattle.uart_language.specs.Sayings.{Saying, Nothing, Limit, Size, events_said, calls_said, plain, Means}

-- The definition is a relation of lines and what they say. What the parser computes is a step on the way to it, and no
-- part of it.

-- ---- the script

-- A line after the first: a blank line means nothing; any other has no byte outside of 20 to 7E, and the meaning of
-- its words.
pub data Says (place : Place) (line : List ℕ) (said : Saying) : Type 0 where
  blank : line ≡ [] → said ≡ Nothing → Says place line said
  printable : has_bad_byte line ≡ false → Means place (words_of line) said → Says place line said

-- the meanings of the lines, in order; the first line has this number, and `limited` says whether line 2 of the script
-- starts with `limit`
abbrev pub SayInOrder : (limited : Bool) → ℕ → List (List ℕ) → List Saying → Type 0
SayInOrder limited number [] [] = Unit {0}
SayInOrder limited number [] (said ∷ sayings) = ⊥
SayInOrder limited number (line ∷ lines) [] = ⊥
SayInOrder limited number (line ∷ lines) (said ∷ sayings) =
    Says (place_of limited number) line said × SayInOrder limited (number + 1) lines sayings

-- a script as a value: chip, size of its FIFOs, whether it has automatic flow control, ticks, wire capacity, whether
-- characters are cut, the limit of the driver and the size that it takes the FIFOs for, events, calls
pub record Plan : Type 0 where
  pub chip : Chip
  pub fifo_size : FifoSize
  pub auto_flow : Bool
  pub ticks : ℕ
  pub wire_capacity : ℕ
  pub cuts : Bool
  pub limit : ℕ
  pub driver_fifo_size : FifoSize
  pub events : List Event
  pub calls : List Call

-- the plan of a parsed script
abbrev pub plan_of : Script → Plan
plan_of s = record {
  chip = s.header.chip.model;
  fifo_size = s.header.chip.size;
  auto_flow = s.header.chip.auto_flow;
  ticks = s.header.ticks;
  wire_capacity = s.header.wire_capacity;
  cuts = s.header.cuts;
  limit = non_zero_u64_get s.limit;
  driver_fifo_size = s.driver_fifo_size;
  events = s.events.items;
  calls = map plain s.calls.items;
}

-- the word of the option, if it is on
abbrev pub option_words : Bool → List (List ℕ)
option_words false = []
option_words true = codes "cut" ∷ []

-- the line is `chip NAME T W`, or `chip NAME T W cut`, with these values
pub record IsHeader (line : List ℕ) (chip : Chip) (fifo_size : FifoSize) (auto_flow : Bool) (ticks wire_capacity : ℕ)
    (cuts : Bool) : Type 0 where
  pub NAME : List ℕ
  pub T : List ℕ
  pub W : List ℕ
  pub printable : has_bad_byte line ≡ false
  pub words : words_of line ≡ codes "chip" ∷ NAME ∷ T ∷ W ∷ option_words cuts
  pub chip_is : chip_in NAME ≡ Ok (kind chip fifo_size auto_flow)
  pub ticks_is : char_ticks_in T ≡ Ok ticks
  pub wire_capacity_is : wire_capacity_in W ≡ Ok wire_capacity

-- the limit that is set last, or this one if none is
abbrev pub limit_from : ℕ → List Saying → ℕ
limit_from limit [] = limit
limit_from limit (Limit n ∷ sayings) = limit_from n sayings
limit_from limit (other ∷ sayings) = limit_from limit sayings

-- the size that is set last, or this one if none is
abbrev pub size_from : FifoSize → List Saying → FifoSize
size_from size [] = size
size_from size (Size n ∷ sayings) = size_from n sayings
size_from size (other ∷ sayings) = size_from size sayings

-- The bytes are a script with this meaning: a header, and lines after it whose events are the schedule, and whose
-- calls are the list of calls, in order.
pub record IsScript (bytes : List ℕ) (plan : Plan) : Type 0 where
  pub first : List ℕ
  pub others : List (List ℕ)
  pub sayings : List Saying
  pub fits : length bytes ≤ MOST_BYTES
  pub lines : lines_of bytes ≡ first ∷ others
  pub few : length others < MOST_LINES
  pub header : IsHeader first plan.chip plan.fifo_size plan.auto_flow plan.ticks plan.wire_capacity plan.cuts
  pub body : SayInOrder (is_limited others) 2 others sayings
  pub limit : plan.limit ≡ limit_from DEFAULT_LIMIT sayings
  pub driver_fifo_size : plan.driver_fifo_size ≡ size_from Sixteen sayings
  pub events : plan.events ≡ flat_map events_said sayings
  pub calls : plan.calls ≡ flat_map calls_said sayings

-- ---- the first faulty line

-- a fault, if the test holds
abbrev pub fault_where : Bool → Cause → Option Cause
fault_where test cause = if test then Some cause else None

-- the first of some faults
abbrev pub first_of : List (Option Cause) → Option Cause
first_of [] = None
first_of (None ∷ faults) = first_of faults
first_of (Some cause ∷ faults) = Some cause

-- what is wrong with the words after the first, each as the field at its place
abbrev pub field_faults : List (List ℕ → Option Cause) → List (List ℕ) → List (Option Cause)
field_faults [] rest = []
field_faults (field ∷ fields) [] = []
field_faults (field ∷ fields) (word ∷ rest) = field word ∷ field_faults fields rest

-- what is wrong with a line that starts with a word of the language, and with one that does not
abbrev pub word_faults : Place → Option Word → List (List ℕ) → List (Option Cause)
word_faults place (Some word) ws =
    fault_where (not (is_placed place (Some word))) Misplaced
    ∷ fault_where (not (has_count word (length ws))) WrongCount ∷ field_faults (fields_of word) (drop 1 ws)
word_faults place None ws = fault_where (not (is_placed place None)) Misplaced ∷ Some UnknownWord ∷ []

-- What is wrong with a line, from left to right. A line beyond the most lines is too long, whatever it has; and a
-- blank line after the first has no fault.
abbrev pub fault_at : (limited : Bool) → ℕ → List ℕ → Option Cause
fault_at limited number line =
    if nat_lt MOST_LINES number then Some TooLong
    else if length line == 0 && not (number == 1) then None
    else first_of (fault_where (has_bad_byte line) BadByte
    ∷ word_faults (place_of limited number) (word_of (word_at 0 (words_of line))) (words_of line))

-- none of these lines has a fault; the first has this number
abbrev pub AreFaultless : (limited : Bool) → ℕ → List (List ℕ) → Type 0
AreFaultless limited number [] = Unit {0}
AreFaultless limited number (line ∷ lines) =
    (fault_at limited number line ≡ None) × AreFaultless limited (number + 1) lines

-- among these lines, the first of which has the number `start`, this is the first faulty one
pub record IsFirstFault (limited : Bool) (start : ℕ) (lines : List (List ℕ)) (number : ℕ) (cause : Cause) : Type 0 where
  pub before : List (List ℕ)
  pub line : List ℕ
  pub after : List (List ℕ)
  pub cut : lines ≡ before ++ line ∷ after
  pub faultless : AreFaultless limited start before
  pub number_is : number ≡ start + length before
  pub faulty : fault_at limited number line ≡ Some cause

-- The bytes are not a script, and this is reported: too many bytes, before anything else; no line at all; or the
-- first faulty line.
pub data IsFaulty (bytes : List ℕ) (number : ℕ) (cause : Cause) : Type 0 where
  long : MOST_BYTES < length bytes → number ≡ 0 → cause ≡ TooLong → IsFaulty bytes number cause
  empty : bytes ≡ [] → number ≡ 1 → cause ≡ Misplaced → IsFaulty bytes number cause
  faulty : length bytes ≤ MOST_BYTES
      → IsFirstFault (is_limited (drop 1 (lines_of bytes))) 1 (lines_of bytes) number cause
      → IsFaulty bytes number cause

-- ---- what parsing returns

-- The one script of the bytes; or their first fault, exactly if they are not a script; or out of memory, and that
-- only for a script.
pub record IsParsed (bytes : List ℕ) (result : Result Script ScriptError) : Type 0 where
  pub script : IfOk result (λ s. IsScript bytes (plan_of s))
  pub only : IfOk result (λ s. (plan : Plan) → IsScript bytes plan → plan ≡ plan_of s)
  pub refused : (line : ℕ) (cause : Cause) → (result ≡ Err (errors.Refused line cause)) ↔ IsFaulty bytes line cause
  pub memory : result ≡ Err errors.OutOfMemory → (plan : Plan) × IsScript bytes plan

-- ---- what every script keeps

-- its numbers are in their ranges, its events legal and its calls runnable, so that it can be played
pub record IsPlayable (plan : Plan) : Type 0 where
  pub ticks : (1 ≤ plan.ticks) × (plan.ticks ≤ MAX_CHAR_TICKS)
  pub wire_capacity : plan.wire_capacity ≤ MAX_WIRE_CAPACITY
  pub limit : (1 ≤ plan.limit) × (plan.limit ≤ MOST_LIMIT)
  pub events : All IsLegal plan.events
  pub calls : All IsRunnable plan.calls
