-- What the next line of a recording says at its place.
use Rattle.std.specs.Prelude.{◌≡◌, ℕ, ◌+◌, List, Option, Some, None, Result, Ok, Err, ⊤}
use Rattle.uart_spec.specs.declared.access.Access.TheVariants as access
use Rattle.uart_judges.specs.RecordingLines.{says}
use Rattle.uart_judges.specs.declared.recording.cause.RecordingFault.{RecordingFault}
use Rattle.uart_judges.specs.declared.recording.cause.RecordingFault.TheVariants.{NoReadBefore}
use Rattle.uart_judges.specs.declared.recording.entry.Entry.{Entry}
use Rattle.uart_judges.specs.declared.recording.entry.Happening.{Happening}
use Rattle.uart_judges.specs.declared.recording.entry.Happening.TheVariants.{Access}
use Rattle.uart_judges.specs.declared.recording.lines.RecordingLine.{RecordingLine}
use Rattle.uart_judges.specs.declared.recording.lines.RecordingLine.TheVariants as line
use Rattle.uart_judges.specs.declared.recording.reading.RecordingError.{RecordingError}
use Rattle.uart_judges.specs.declared.recording.reading.RecordingError.TheVariants as error
use Rattle.uart_judges.specs.declared.recording.place.Place.{Place}

-- the entry so many times more, at this line and without time and level, if what happened is a read
abbrev pub repeated_as : Happening → Entry → ℕ → ℕ → Option Entry
repeated_as (Access (access.Read offset answer)) entry number times =
    Some (record { happening = entry.happening; times = times; line = number; time = None; interrupt = None })
repeated_as other entry number times = None

-- the entry so many times more, at the line with this number, if it is a read
abbrev pub repeated : Entry → ℕ → ℕ → Option Entry
repeated entry number times = repeated_as entry.happening entry number times

-- what happened last, so many times more
abbrev pub last_again : Option Entry → ℕ → ℕ → Option Entry
last_again None number times = None
last_again (Some entry) number times = repeated entry number times

-- the place after so many lines, with what happened last
abbrev pub place : ℕ → Option Entry → Place
place number last = record { number = number; last = last }

-- a line that repeats what happened last, which is to be a read
abbrev pub again_from : Place → Option Entry → Result (Option Entry) RecordingFault × Place
again_from old None = (Err NoReadBefore, place (old.number + 1) old.last)
again_from old (Some entry) = (Ok (Some entry), place (old.number + 1) (Some entry))

-- the entry of a line that means this, or what is wrong with it, and the place after it
abbrev pub read_as : Place → Result RecordingLine RecordingFault → Result (Option Entry) RecordingFault × Place
read_as old (Err fault) = (Err fault, place (old.number + 1) old.last)
read_as old (Ok line.Blank) = (Ok None, place (old.number + 1) old.last)
read_as old (Ok (line.Entry entry)) = (Ok (Some entry), place (old.number + 1) (Some entry))
read_as old (Ok (line.Again times)) = again_from old (last_again old.last (old.number + 1) times)

-- the line after this place was read: its entry or fault is returned, and this is the place after it
abbrev pub IsLineRead : Place → List ℕ → Result (Option Entry) RecordingFault → Place → Type 0
IsLineRead old bytes result new = read_as old (says (old.number + 1) bytes) ≡ (result, new)

-- if the error is that of a line, this is its number
abbrev pub IsAtLine : ℕ → RecordingError → Type 0
IsAtLine number (error.Faulty line fault) = line ≡ number
IsAtLine number other = ⊤
