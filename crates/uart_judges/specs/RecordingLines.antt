-- What a line of a recording means.
use Rattle.std.specs.Prelude.{ℕ, ◌+◌, Bool, List, [], ◌∷◌, length, Option, Some, None, Result, Ok, Err, ⊤}
use Rattle.std.specs.Prelude.{◌≡◌, ◌==◌, ◌&&◌, nat_lt, if◌then◌else◌, bytes_eq, codes}
use Rattle.std.specs.List.{list_any}
use Rattle.uart_spec.specs.declared.access.Access.{Access}
use Rattle.uart_spec.specs.declared.access.Access.TheVariants.{Read, Write}
use Rattle.uart_language.specs.Fields.{◌>>=◌, byte_in}
use Rattle.uart_language.specs.Text.{words_of, word_at, has_bad_byte}
use Rattle.uart_language.specs.declared.cause.Cause.{Cause}
use Rattle.uart_language.specs.declared.cause.Cause.TheVariants.{BadByte, BadNumber, BadWord, UnknownWord, WrongCount}
use Rattle.uart_judges.specs.Entries.{IsEntry}
use Rattle.uart_judges.specs.Fields.{after, before, bits_in, level_in, log_byte_in, log_offset_in, log_time_in}
use Rattle.uart_judges.specs.Fields.{repeats_in, time_in}
use Rattle.uart_judges.specs.declared.recording.cause.RecordingFault.{RecordingFault}
use Rattle.uart_judges.specs.declared.recording.cause.RecordingFault.TheVariants as fault
use Rattle.uart_judges.specs.declared.recording.entry.Happening.{Happening}
use Rattle.uart_judges.specs.declared.recording.entry.Happening.TheVariants as happening
use Rattle.uart_judges.specs.declared.recording.limits.TheConstants.{MOST_LINE_BYTES}
use Rattle.uart_judges.specs.declared.recording.lines.Direction.{Direction}
use Rattle.uart_judges.specs.declared.recording.lines.Direction.TheVariants as direction
use Rattle.uart_judges.specs.declared.recording.lines.Key.{Key}
use Rattle.uart_judges.specs.declared.recording.lines.Key.TheVariants as key
use Rattle.uart_judges.specs.declared.recording.lines.RecordingLine.{RecordingLine}
use Rattle.uart_judges.specs.declared.recording.lines.RecordingLine.TheVariants as line
use Rattle.uart_judges.specs.declared.recording.lines.Stamp.{Stamp}
use Rattle.uart_spec.specs.declared.registers.line_status.TheConstants.LSR
use Rattle.uart_spec.specs.declared.registers.modem_status.TheConstants.MSR
use Rattle.uart_judges.specs.TraceLines.{before_remark, offset_in}

-- if the line is an entry, a chip can do what it says, and it has this number
abbrev pub HasEntry : ℕ → RecordingLine → Type 0
HasEntry number (line.Entry entry) = IsEntry entry × (entry.line ≡ number)
HasEntry number other = ⊤

-- ---- a line of our own: KEY FIELDS [LEVEL] [@TIME]

-- the letter that a line begins with, of either case
abbrev pub key_in : List ℕ → Option Key
key_in word =
    if bytes_eq word (codes "r") then Some key.Read
    else if bytes_eq word (codes "R") then Some key.Read
    else if bytes_eq word (codes "w") then Some key.Write
    else if bytes_eq word (codes "W") then Some key.Write
    else if bytes_eq word (codes "a") then Some key.Arrive
    else if bytes_eq word (codes "A") then Some key.Arrive
    else if bytes_eq word (codes "i") then Some key.Interrupt
    else if bytes_eq word (codes "I") then Some key.Interrupt
    else if bytes_eq word (codes "m") then Some key.Lines
    else if bytes_eq word (codes "M") then Some key.Lines
    else if bytes_eq word (codes "x") then Some key.Again
    else if bytes_eq word (codes "X") then Some key.Again
    else None

-- a level and a time, of which either may be absent
abbrev pub stamp : Option Bool → Option ℕ → Stamp
stamp interrupt time = record { interrupt = interrupt; time = time }

-- LEVEL or @TIME
unfoldable pub alone_in : List ℕ → Result Stamp Cause
alone_in [] = Err BadNumber
alone_in (b ∷ rest) =
    if b == 64 then time_in (b ∷ rest) >>= (λ time. Ok (stamp None (Some time)))
    else level_in (b ∷ rest) >>= (λ level. Ok (stamp level None))

-- [LEVEL] [@TIME] behind so many words
unfoldable pub stamp_in : ℕ → List (List ℕ) → Result Stamp Cause
stamp_in count ws =
    if length ws == count then Ok (stamp None None)
    else if length ws == count + 1 then alone_in (word_at count ws)
    else if length ws == count + 2
    then level_in (word_at count ws) >>= (λ level.
    time_in (word_at (count + 1) ws) >>= (λ time. Ok (stamp level (Some time))))
    else Err WrongCount

-- what happened once, at the line with this number
abbrev pub happened_at : ℕ → Happening → Stamp → RecordingLine
happened_at number what stamp =
    line.Entry (record { happening = what; times = 1; line = number; time = stamp.time; interrupt = stamp.interrupt })

-- an access in this direction
abbrev pub of_direction : Direction → ℕ → ℕ → Access
of_direction direction.Read offset byte = Read offset byte
of_direction direction.Write offset byte = Write offset byte

-- OFFSET VALUE: an access in this direction
unfoldable pub access_in : Direction → ℕ → List (List ℕ) → Result RecordingLine Cause
access_in way number ws =
    stamp_in 3 ws >>= (λ stamp.
    offset_in (word_at 1 ws) >>= (λ offset.
    byte_in (word_at 2 ws) >>= (λ byte.
    Ok (happened_at number (happening.Access (of_direction way offset byte)) stamp))))

-- ERRORS VALUE: an arrival
unfoldable pub arrival_in : ℕ → List (List ℕ) → Result RecordingLine Cause
arrival_in number ws =
    stamp_in 3 ws >>= (λ stamp.
    bits_in LSR.CHARACTER_ERRORS.0 (word_at 1 ws) >>= (λ errors.
    byte_in (word_at 2 ws) >>= (λ byte.
    Ok (happened_at number (happening.Arrive byte (record { 0 = errors })) stamp))))

-- the interrupt line has this level, which the line has to say
abbrev pub interrupt_at : ℕ → Stamp → Option Bool → Result RecordingLine Cause
interrupt_at number stamp (Some is_raised) = Ok (happened_at number (happening.Interrupt is_raised) stamp)
interrupt_at number stamp None = Err WrongCount

-- LEVEL: of the interrupt line, which changed by itself
unfoldable pub interrupt_in : ℕ → List (List ℕ) → Result RecordingLine Cause
interrupt_in number ws = stamp_in 1 ws >>= (λ stamp. interrupt_at number stamp stamp.interrupt)

-- LINES: the modem inputs
unfoldable pub modem_in : ℕ → List (List ℕ) → Result RecordingLine Cause
modem_in number ws =
    stamp_in 2 ws >>= (λ stamp.
    bits_in MSR.LINES.0 (word_at 1 ws) >>= (λ inputs.
    Ok (happened_at number (happening.Lines (record { 0 = inputs })) stamp)))

-- N: how often the read before is repeated
unfoldable pub again_in : List (List ℕ) → Result RecordingLine Cause
again_in ws =
    if length ws == 2 then repeats_in (word_at 1 ws) >>= (λ count. Ok (line.Again count)) else Err WrongCount

-- what a line of our own means
abbrev pub own_in : Option Key → ℕ → List (List ℕ) → Result RecordingLine Cause
own_in (Some key.Read) number ws = access_in direction.Read number ws
own_in (Some key.Write) number ws = access_in direction.Write number ws
own_in (Some key.Arrive) number ws = arrival_in number ws
own_in (Some key.Interrupt) number ws = interrupt_in number ws
own_in (Some key.Lines) number ws = modem_in number ws
own_in (Some key.Again) number ws = again_in ws
own_in None number ws = Err UnknownWord

-- ---- a line of QEMU's log: [PROCESS@SECONDS.MICROSECONDS:]NAME ..

-- the name of an event of QEMU has an underscore, and no first word of our own lines has
abbrev pub is_log : List ℕ → Bool
is_log word = list_any (λ b. b == 95) word

-- the first word has process and time in front
abbrev pub has_time : List ℕ → Bool
has_time word = list_any (λ b. b == 58) word

-- the name of the event
abbrev pub event_name : List ℕ → List ℕ
event_name word = if has_time word then after 58 word else word

-- the time in front of the name
unfoldable pub log_stamp_in : List ℕ → Result Stamp Cause
log_stamp_in word =
    if has_time word then log_time_in (before 58 word) >>= (λ time. Ok (stamp None (Some time)))
    else Ok (stamp None None)

-- whether the event is an access to a serial chip, and which
abbrev pub direction_of : List ℕ → Option Direction
direction_of name =
    if bytes_eq name (codes "serial_read") then Some direction.Read
    else if bytes_eq name (codes "serial_write") then Some direction.Write
    else None

-- the word that QEMU writes behind the name, which may be absent
abbrev pub word_of : Direction → List ℕ
word_of direction.Read = codes "read"
word_of direction.Write = codes "write"

-- addr 0xHH val 0xHH, from this word on
unfoldable pub log_fields_in : Direction → ℕ → List (List ℕ) → Result Access Cause
log_fields_in way k ws =
    if bytes_eq (word_at k ws) (codes "addr") && bytes_eq (word_at (k + 2) ws) (codes "val")
    then log_offset_in (word_at (k + 1) ws) >>= (λ offset.
    log_byte_in (word_at (k + 3) ws) >>= (λ byte. Ok (of_direction way offset byte)))
    else Err BadWord

-- the access of a line, with or without the word behind the name
unfoldable pub log_access_in : Direction → List (List ℕ) → Result Access Cause
log_access_in way ws =
    if length ws == 5 then log_fields_in way 1 ws
    else if length ws == 6 && bytes_eq (word_at 1 ws) (word_of way) then log_fields_in way 2 ws
    else Err WrongCount

-- what a line of the log means: other events mean nothing
unfoldable pub logged_in : Option Direction → ℕ → List (List ℕ) → Result RecordingLine Cause
logged_in None number ws = Ok line.Blank
logged_in (Some way) number ws =
    log_stamp_in (word_at 0 ws) >>= (λ stamp.
    log_access_in way ws >>= (λ access. Ok (happened_at number (happening.Access access) stamp)))

-- ---- any line

-- what a line without its remark means, or what is wrong with it
unfoldable pub said_in : ℕ → List ℕ → Result RecordingLine Cause
said_in number text =
    if length text == 0 then Ok line.Blank
    else if is_log (word_at 0 (words_of text))
    then logged_in (direction_of (event_name (word_at 0 (words_of text)))) number (words_of text)
    else if has_bad_byte text then Err BadByte
    else own_in (key_in (word_at 0 (words_of text))) number (words_of text)

-- a fault of a recording
abbrev pub faulty : Result RecordingLine Cause → Result RecordingLine RecordingFault
faulty (Ok said) = Ok said
faulty (Err cause) = Err (fault.Line cause)

-- what the line with this number means, or what is wrong with it
abbrev pub says : ℕ → List ℕ → Result RecordingLine RecordingFault
says number bytes =
    if nat_lt MOST_LINE_BYTES (length bytes) then Err fault.TooLong else faulty (said_in number (before_remark bytes))
