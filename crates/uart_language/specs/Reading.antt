-- How a script is read line by line, as the parser reads it. `parse` is proved against `Script`; these definitions, and
-- those of `Items`, are steps on the way.
use Rattle.std.specs.Prelude.{◌≡◌, ℕ, ◌+◌, Bool, List, [], ◌∷◌, ◌++◌, Result, Ok, Err, nat_lt, if◌then◌else◌, flat_map}
use Rattle.std.specs.Prelude.{length, IsOk}
use Rattle.uart_spec.specs.declared.setup.FifoSize.TheVariants.{Sixteen}
use Rattle.uart_language.specs.declared.cause.Cause.{Cause}
use Rattle.uart_language.specs.declared.cause.Cause.TheVariants.{Misplaced, TooLong}
use Rattle.uart_language.specs.declared.cause.ScriptError.{ScriptError}
use Rattle.uart_language.specs.declared.cause.ScriptError.TheVariants as errors
use Rattle.uart_language.specs.declared.items.Header.{Header}
use Rattle.uart_language.specs.declared.limits.TheConstants.{MOST_BYTES, MOST_LINES, DEFAULT_LIMIT}
use Rattle.uart_language.specs.declared.parsing.Script.{Script}
use Rattle.uart_language.specs.Text.{lines_of}
use Rattle.uart_language.specs.Words.{is_limited, place_of}
use Rattle.uart_language.specs.Fields.{◌>>=◌}
use Rattle.uart_language.specs.Sayings.{Saying, events_said, calls_said}
use Rattle.uart_language.specs.Script.{Plan, limit_from, size_from, plan_of}
use Rattle.uart_language.specs.Items.{header_at, item_at}

-- a fault and the number of its line
pub record Fault : Type 0 where
  pub line : ℕ
  pub cause : Cause

-- a cause reported with its line; a line returned with its number
abbrev pub on_line : {A : Type 0} → ℕ → Result A Cause → Result A Fault
on_line number (Ok x) = Ok x
on_line number (Err c) = Err (record { line = number; cause = c })

abbrev pub numbered : (limited : Bool) → ℕ → List ℕ → Result Saying Fault
numbered limited number line =
    on_line number (if nat_lt MOST_LINES number then Err TooLong else item_at (place_of limited number) line)

-- what a line says, before what the lines after it say, or the first fault
abbrev pub with_saying : Saying → Result (List Saying) Fault → Result (List Saying) Fault
with_saying said (Ok sayings) = Ok (said ∷ sayings)
with_saying said (Err e) = Err e

abbrev pub before : Result Saying Fault → Result (List Saying) Fault → Result (List Saying) Fault
before (Ok said) sayings = with_saying said sayings
before (Err e) sayings = Err e

-- the meanings of lines, the first of which has this number, or the first fault
unfoldable pub sayings_from : (limited : Bool) → ℕ → List (List ℕ) → Result (List Saying) Fault
sayings_from limited number [] = Ok []
sayings_from limited number (line ∷ lines) =
    before (numbered limited number line) (sayings_from limited (number + 1) lines)

-- the meanings of the lines after the first
abbrev pub sayings_after_first : List (List ℕ) → Result (List Saying) Fault
sayings_after_first lines = sayings_from (is_limited lines) 2 lines

-- the script of a header and what the other lines say, or the first faulty line and its cause
abbrev pub plan_by : Header → List Saying → Plan
plan_by header sayings = record {
  chip = header.chip.model;
  fifo_size = header.chip.size;
  auto_flow = header.chip.auto_flow;
  ticks = header.ticks;
  wire_capacity = header.wire_capacity;
  cuts = header.cuts;
  limit = limit_from DEFAULT_LIMIT sayings;
  driver_fifo_size = size_from Sixteen sayings;
  events = flat_map events_said sayings;
  calls = flat_map calls_said sayings;
}

unfoldable pub planned : Header → Result (List Saying) Fault → Result Plan Fault
planned header sayings = do
  said ← sayings
  Ok (plan_by header said)

unfoldable pub from_lines : List (List ℕ) → Result Plan Fault
from_lines [] = Err (record { line = 1; cause = Misplaced })
from_lines (first ∷ others) = do
  header ← on_line 1 (header_at first)
  planned header (sayings_after_first others)

-- the script of these bytes, or the first faulty line and its cause
unfoldable pub script_of : List ℕ → Result Plan Fault
script_of bytes =
    if nat_lt MOST_BYTES (length bytes) then Err (record { line = 0; cause = TooLong }) else from_lines (lines_of bytes)

-- ---- what the parser returns

-- this line is reported as the first faulty one
abbrev pub Refuses : {A : Type 0} → ScriptError → Result A Fault → Type 0
Refuses (errors.Refused line cause) read = read ≡ Err (record { line = line; cause = cause })
Refuses errors.OutOfMemory read = ⊥

-- no line has a fault, or this one is reported
abbrev pub Checks : {A : Type 0} → Result (Unit {0}) ScriptError → Result A Fault → Type 0
Checks (Ok done) read = IsOk read
Checks (Err e) read = Refuses e read

-- the script, or the line that is reported, or out of memory
abbrev pub BuildsPlan : Result Script ScriptError → Result Plan Fault → Type 0
BuildsPlan (Ok s) read = read ≡ Ok (plan_of s)
BuildsPlan (Err (errors.Refused line cause)) read = read ≡ Err (record { line = line; cause = cause })
BuildsPlan (Err errors.OutOfMemory) read = Unit {0}

-- the result is the script, or the first fault; and out of memory only for a script
abbrev pub Parses : Result Script ScriptError → Result Plan Fault → Type 0
Parses (Ok s) read = read ≡ Ok (plan_of s)
Parses (Err (errors.Refused line cause)) read = read ≡ Err (record { line = line; cause = cause })
Parses (Err errors.OutOfMemory) read = IsOk read

-- a script with one more line
abbrev pub added : Plan → Saying → Plan
added plan said = record plan {
  limit = limit_from plan.limit (said ∷ []);
  driver_fifo_size = size_from plan.driver_fifo_size (said ∷ []);
  events = plan.events ++ events_said said;
  calls = plan.calls ++ calls_said said;
}
