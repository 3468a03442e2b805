-- The words that a line may start with, and the fields after each.
use Rattle.std.specs.Prelude.{ℕ, ◌+◌, Bool, true, false, not, List, [], ◌∷◌, length, Option, Some, None}
use Rattle.std.specs.Prelude.{Result, Ok, Err, ◌==◌, ◌&&◌, ◌||◌, if◌then◌else◌, bytes_eq, codes, find}
use Rattle.uart_language.specs.declared.cause.Cause.{Cause}
use Rattle.uart_language.specs.declared.words.Place.{Place}
use Rattle.uart_language.specs.declared.words.Place.TheVariants as place
use Rattle.uart_language.specs.declared.words.Word.{Word}
use Rattle.uart_language.specs.declared.words.Word.TheVariants as word
use Rattle.uart_language.specs.Text.{words_of, word_at}
use Rattle.uart_language.specs.Fields.{count_in, limit_in, ticks_in, char_ticks_in, wire_capacity_in, byte_in, lines_in}
use Rattle.uart_language.specs.Fields.{bytes_in, text_in, errors_in, chip_in, cut_in, level_in, rate_in, cts_in}
use Rattle.uart_language.specs.Fields.{interrupts_in, word_length_in, check_in, wait_in, outputs_in, trigger_in}
use Rattle.uart_language.specs.Fields.{switch_in, fifos_in, dump_in, size_in}

-- a word as it is written in a script
abbrev pub name_of : Word → List ℕ
name_of word.Chip = codes "chip"
name_of word.Limit = codes "limit"
name_of word.Tick = codes "tick"
name_of word.Arrive = codes "arrive"
name_of word.Lines = codes "lines"
name_of word.Access = codes "access"
name_of word.Next = codes "next"
name_of word.Init = codes "init"
name_of word.Loopback = codes "loopback"
name_of word.Present = codes "present"
name_of word.Connected = codes "connected"
name_of word.ReadyReceive = codes "ready-receive"
name_of word.ReadySend = codes "ready-send"
name_of word.TryReceive = codes "try-receive"
name_of word.Flush = codes "flush"
name_of word.ReadReady = codes "read-ready"
name_of word.WriteReady = codes "write-ready"
name_of word.Ier = codes "ier"
name_of word.Isr = codes "isr"
name_of word.Lcr = codes "lcr"
name_of word.Mcr = codes "mcr"
name_of word.Lsr = codes "lsr"
name_of word.Msr = codes "msr"
name_of word.Spr = codes "spr"
name_of word.DllDlm = codes "dll-dlm"
name_of word.Fifo = codes "fifo"
name_of word.Dump = codes "dump"
name_of word.TrySend = codes "try-send"
name_of word.Enable = codes "enable"
name_of word.Disable = codes "disable"
name_of word.Receive = codes "receive"
name_of word.ReceiveExact = codes "receive-exact"
name_of word.Read = codes "read"
name_of word.Send = codes "send"
name_of word.SendExact = codes "send-exact"
name_of word.Write = codes "write"
name_of word.Text = codes "text"
name_of word.InitWith = codes "init-with"
name_of word.SetFrame = codes "set-frame"
name_of word.SetFrameWhenIdle = codes "set-frame-when-idle"
name_of word.SetTriggerLevel = codes "set-trigger-level"
name_of word.Attach = codes "attach"
name_of word.SetBreak = codes "set-break"
name_of word.SetModemControl = codes "set-modem-control"
name_of word.SetRts = codes "set-rts"
name_of word.SetDtr = codes "set-dtr"
name_of word.Quiesce = codes "quiesce"
name_of word.Restore = codes "restore"
name_of word.CheckConfigured = codes "check-configured"
name_of word.PeekModem = codes "peek-modem"
name_of word.IsIdle = codes "is-idle"
name_of word.RetriggerInterrupts = codes "retrigger-interrupts"
name_of word.ReceiveWithErrors = codes "receive-with-errors"
name_of word.FifoSize = codes "fifo-size"

-- all words of the language
abbrev pub words : List Word
words =
    word.Chip ∷ word.Limit ∷ word.Tick ∷ word.Arrive ∷ word.Lines ∷ word.Access ∷ word.Next ∷ word.Init ∷ word.Loopback
    ∷ word.Present ∷ word.Connected ∷ word.ReadyReceive ∷ word.ReadySend ∷ word.TryReceive ∷ word.Flush ∷ word.ReadReady
    ∷ word.WriteReady ∷ word.Ier ∷ word.Isr ∷ word.Lcr ∷ word.Mcr ∷ word.Lsr ∷ word.Msr ∷ word.Spr ∷ word.DllDlm
    ∷ word.Fifo ∷ word.Dump ∷ word.TrySend ∷ word.Enable ∷ word.Disable ∷ word.Receive ∷ word.ReceiveExact ∷ word.Read
    ∷ word.Send ∷ word.SendExact ∷ word.Write ∷ word.Text ∷ word.InitWith ∷ word.SetFrame ∷ word.SetFrameWhenIdle
    ∷ word.SetTriggerLevel ∷ word.Attach ∷ word.SetBreak ∷ word.SetModemControl ∷ word.SetRts ∷ word.SetDtr
    ∷ word.Quiesce ∷ word.Restore ∷ word.CheckConfigured ∷ word.PeekModem ∷ word.IsIdle ∷ word.RetriggerInterrupts
    ∷ word.ReceiveWithErrors ∷ word.FifoSize ∷ []

-- the word that is written like this
unfoldable pub word_of : List ℕ → Option Word
word_of text = find (λ w. bytes_eq (name_of w) text) words

-- what is wrong with a field, if it is faulty
abbrev pub fault_of : {A E : Type 0} → Result A E → Option E
fault_of (Ok x) = None
fault_of (Err e) = Some e

-- what is wrong with a word as a field
abbrev pub faulty : {A : Type 0} → (List ℕ → Result A Cause) → List ℕ → Option Cause
faulty reader text = fault_of (reader text)

-- the fields after a word; the errors of an arrival and the option of a chip may be omitted
abbrev pub fields_of : Word → List (List ℕ → Option Cause)
fields_of word.Chip = faulty chip_in ∷ faulty char_ticks_in ∷ faulty wire_capacity_in ∷ faulty cut_in ∷ []
fields_of word.Limit = faulty limit_in ∷ []
fields_of word.FifoSize = faulty size_in ∷ []
fields_of word.Tick = faulty ticks_in ∷ []
fields_of word.Arrive = faulty byte_in ∷ faulty errors_in ∷ []
fields_of word.Lines = faulty lines_in ∷ []
fields_of word.Init =
    faulty level_in ∷ faulty rate_in ∷ faulty cts_in ∷ faulty interrupts_in ∷ faulty word_length_in ∷ []
fields_of word.InitWith =
    faulty level_in ∷ faulty rate_in ∷ faulty cts_in ∷ faulty interrupts_in ∷ faulty word_length_in ∷ faulty check_in
    ∷ faulty wait_in ∷ faulty outputs_in ∷ []
fields_of word.SetFrame = faulty rate_in ∷ faulty word_length_in ∷ []
fields_of word.SetFrameWhenIdle = faulty rate_in ∷ faulty word_length_in ∷ []
fields_of word.SetTriggerLevel = faulty trigger_in ∷ []
fields_of word.SetBreak = faulty switch_in ∷ []
fields_of word.SetModemControl = faulty outputs_in ∷ []
fields_of word.SetRts = faulty switch_in ∷ []
fields_of word.SetDtr = faulty switch_in ∷ []
fields_of word.Quiesce = faulty outputs_in ∷ faulty fifos_in ∷ []
fields_of word.Restore = faulty dump_in ∷ []
fields_of word.CheckConfigured = faulty outputs_in ∷ []
fields_of word.TrySend = faulty byte_in ∷ []
fields_of word.Enable = faulty interrupts_in ∷ []
fields_of word.Disable = faulty interrupts_in ∷ []
fields_of word.Receive = faulty count_in ∷ []
fields_of word.ReceiveExact = faulty count_in ∷ []
fields_of word.ReceiveWithErrors = faulty count_in ∷ []
fields_of word.Read = faulty count_in ∷ []
fields_of word.Send = faulty bytes_in ∷ []
fields_of word.SendExact = faulty bytes_in ∷ []
fields_of word.Write = faulty bytes_in ∷ []
fields_of word.Text = faulty text_in ∷ []
fields_of other = []

-- whether a line with this word may have this many words; the errors of an arrival and the option of a chip may be left
-- out
abbrev pub has_count : Word → ℕ → Bool
has_count word.Chip count = count == 4 || count == 5
has_count word.Arrive count = count == 2 || count == 3
has_count word count = count == length (fields_of word) + 1

-- whether the first of these lines, which is line 2 of a script, starts with `limit`
abbrev pub is_limited : List (List ℕ) → Bool
is_limited [] = false
is_limited (line ∷ lines) = bytes_eq (name_of word.Limit) (word_at 0 (words_of line))

-- the place of the line with this number, in a script whose line 2 starts with `limit`, or does not
abbrev pub place_of : (limited : Bool) → ℕ → Place
place_of limited number =
    if number == 1 then place.First
    else if number == 2 then place.Second
    else if number == 3 && limited then place.BehindLimit
    else place.Later

-- whether it is this place
abbrev pub is_first : Place → Bool
is_first place.First = true
is_first other = false

abbrev pub is_second : Place → Bool
is_second place.Second = true
is_second other = false

abbrev pub is_behind_limit : Place → Bool
is_behind_limit place.BehindLimit = true
is_behind_limit other = false

-- Line 1 is a chip line and no other line is, only line 2 may set the limit, and only line 2, or line 3 behind `limit`,
-- the size of the FIFOs.
abbrev pub is_placed : Place → Option Word → Bool
is_placed place (Some word.Chip) = is_first place
is_placed place (Some word.Limit) = is_second place
is_placed place (Some word.FifoSize) = is_second place || is_behind_limit place
is_placed place other = not (is_first place)
