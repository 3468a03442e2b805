-- What a recording gives next, from the bytes that are still to be read.
use Rattle.std.specs.Prelude.{◌≡◌, ℕ, ◌+◌, ◌-◌, ◌^◌, ◌<◌, ◌≤◌, ◌⊎◌}
use Rattle.std.specs.Prelude.{List, [], ◌∷◌, ◌++◌, length, take, drop, Option, Some, None, Result, Ok, Err, ⊤}
use Rattle.std.specs.Io.KnownBytes.{IsAtEnd, prepend_known}
use Rattle.uart_language.specs.Text.{lines_of}
use Rattle.uart_judges.specs.RecordingLines.{says}
use Rattle.uart_judges.specs.Places.{read_as}
use Rattle.uart_judges.specs.Windows.{items}
use Rattle.uart_judges.specs.declared.recording.cause.RecordingFault.{RecordingFault}
use Rattle.uart_judges.specs.declared.recording.entry.Entry.{Entry}
use Rattle.uart_judges.specs.declared.recording.limits.TheConstants.{MOST_LINE_BYTES}
use Rattle.uart_judges.specs.declared.recording.place.Place.{Place}
use Rattle.uart_judges.specs.declared.recording.reading.RecordingError.{RecordingError}
use Rattle.uart_judges.specs.declared.recording.reading.RecordingError.TheVariants as error
use Rattle.uart_judges.specs.declared.recording.window.Window.{Window}

-- what is found, the place after it, and the lines behind it
abbrev pub Found : Type 0
Found = Result (Option Entry) RecordingFault × (Place × List (List ℕ))

-- after a line was read: a line that is no entry is passed, and what is found is that of the lines behind it
abbrev pub after_line : List (List ℕ) → (Place → Found) → Result (Option Entry) RecordingFault × Place → Found
after_line lines more (Ok None, new) = more new
after_line lines more (Ok (Some entry), new) = (Ok (Some entry), (new, lines))
after_line lines more (Err fault, new) = (Err fault, (new, lines))

-- the first entry or fault of these lines, each of which is read once and in order
unfoldable pub next_in : List (List ℕ) → Place → Found
next_in [] old = (Ok None, (old, []))
next_in (line ∷ lines) old = after_line lines (next_in lines) (read_as old (says (old.number + 1) line))

-- the bytes that are still to be used: those that were read ahead, and then those that the reader has left, if they are
-- known
abbrev pub ahead : Window → Option (List ℕ) → Option (List ℕ)
ahead window left = prepend_known (items window) left

-- this is what was found, and the bytes that are left have the lines behind it, each of which can still be counted; a
-- reader may fail at any time
abbrev pub Gives : Found → ℕ → Result (Option Entry) RecordingError → Place → Option (List ℕ) → Type 0
Gives found most (Ok entry) new left =
    (rest : List ℕ) × (left ≡ Some rest) × (found ≡ (Ok entry, (new, lines_of rest)))
    × (new.number + length rest ≤ most)
Gives found most (Err (error.Faulty line fault)) new left = (found.0 ≡ Err fault) × (found.1.0 ≡ new)
Gives found most (Err (error.Unread cause)) new left = ⊤

-- the result is the next of the lines of the bytes that were to be used, unless these are not known
abbrev pub IsNext : Place → Option (List ℕ) → Result (Option Entry) RecordingError → Place → Option (List ℕ) → Type 0
IsNext old None result new left = ⊤
IsNext old (Some bytes) result new left =
    old.number + length bytes ≤ 2 ^ 64 - 1 →
    Gives (next_in (lines_of bytes) old) (old.number + length bytes) result new left

-- ---- the next line is in the window

-- the first line of these bytes has more bytes than a line may have
abbrev pub IsTooLong : List ℕ → Type 0
IsTooLong bytes =
    (line : List ℕ) × (lines : List (List ℕ)) × (lines_of bytes ≡ line ∷ lines) × (MOST_LINE_BYTES < length line)

-- the first line of these items, and what follows them, has so many bytes; or it is too long, and so are these
abbrev pub IsFirst : ℕ → List ℕ → List ℕ → Type 0
IsFirst count items more =
    (lines_of (items ++ more) ≡ take count items ∷ lines_of (drop (count + 1) items ++ more))
    ⊎ ((MOST_LINE_BYTES < count) × IsTooLong (items ++ more))

-- the same, if it is known what follows these items
abbrev pub IsFilledWith : ℕ → List ℕ → Option (List ℕ) → Type 0
IsFilledWith count items None = ⊤
IsFilledWith count items (Some more) = IsFirst count items more

-- the window has a whole line of so many bytes, or nothing is left
abbrev pub IsFilled : Option ℕ → List ℕ → Option (List ℕ) → Type 0
IsFilled None items left = (items ≡ []) × IsAtEnd left
IsFilled (Some count) items left = (0 < length items) × (count ≤ length items) × IsFilledWith count items left
