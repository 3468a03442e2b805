-- How a line is read, field by field, as the parser reads it.
use Rattle.std.specs.Prelude.{ℕ, false, List, length, Option, Some, None, Result, Ok, Err, ◌==◌, if◌then◌else◌}
use Rattle.std.specs.Option.{ok_or}
use Rattle.std.specs.Int.NonZero.{non_zero_u64_get}
use Rattle.uart_spec.specs.declared.config.Config.{Config}
use Rattle.uart_spec.specs.declared.setup.Setup.{Setup}
use Rattle.uart_events.specs.declared.event.Event.{Event}
use Rattle.uart_events.specs.declared.event.Event.TheVariants as event
use Rattle.uart_call.specs.declared.call.Call.{Call}
use Rattle.uart_call.specs.declared.call.Call.TheVariants as call
use Rattle.uart_language.specs.declared.cause.Cause.{Cause}
use Rattle.uart_language.specs.declared.cause.Cause.TheVariants.{BadByte, Misplaced, UnknownWord, WrongCount}
use Rattle.uart_language.specs.declared.items.Item.{Item}
use Rattle.uart_language.specs.declared.items.Item.TheVariants as item
use Rattle.uart_language.specs.declared.items.Header.{Header}
use Rattle.uart_language.specs.declared.words.Place.{Place}
use Rattle.uart_language.specs.declared.words.Place.TheVariants.{First}
use Rattle.uart_language.specs.declared.words.Word.{Word}
use Rattle.uart_language.specs.declared.words.Word.TheVariants as word
use Rattle.uart_language.specs.Text.{words_of, word_at, has_bad_byte}
use Rattle.uart_language.specs.Fields.{◌>>=◌, count_in, limit_in, ticks_in, char_ticks_in, wire_capacity_in, byte_in}
use Rattle.uart_language.specs.Fields.{lines_in, bytes_in, text_in, errors_in, chip_in, cut_in, level_in, rate_in}
use Rattle.uart_language.specs.Fields.{cts_in, interrupts_in, word_length_in, check_in, wait_in, outputs_in, trigger_in}
use Rattle.uart_language.specs.Fields.{switch_in, fifos_in, dump_in, size_in}
use Rattle.uart_language.specs.Words.{word_of, has_count, is_placed}
use Rattle.uart_language.specs.Sayings.{Saying, Nothing, Limit, Size, Happens, Calls, Marks, configured, array_of}
use Rattle.uart_language.specs.Sayings.{text_of, framed, arranged, plain, bare_call}

-- a value made of what was read
abbrev pub read_as : {A B : Type 0} → Result A Cause → (A → B) → Result B Cause
read_as read make = read >>= (λ x. Ok (make x))

-- init F BAUD C HH BITS
unfoldable pub config_in : List (List ℕ) → Result Config Cause
config_in ws = do
  level ← level_in (word_at 1 ws)
  rate ← rate_in (word_at 2 ws)
  cts ← cts_in (word_at 3 ws)
  interrupts ← interrupts_in (word_at 4 ws)
  word_length ← word_length_in (word_at 5 ws)
  Ok (configured level rate cts interrupts word_length)

-- P W HH, the last words of an init-with
unfoldable pub setup_in : List (List ℕ) → Result Setup Cause
setup_in ws = do
  checks ← check_in (word_at 6 ws)
  wait ← wait_in (word_at 7 ws)
  outputs ← outputs_in (word_at 8 ws)
  Ok (arranged checks wait outputs)

-- arrive HH, or arrive HH E
unfoldable pub arrival_in : List (List ℕ) → Result Event Cause
arrival_in ws = do
  byte ← byte_in (word_at 1 ws)
  errors ← if length ws == 3 then errors_in (word_at 2 ws) else Ok 0
  Ok (event.Arrive byte errors)

-- a value made of two that were read
abbrev pub both_read_as : {A B C : Type 0} → Result A Cause → Result B Cause → (A → B → C) → Result C Cause
both_read_as first second make = first >>= (λ x. read_as second (make x))

-- the call of a line
unfoldable pub call_of : Word → List (List ℕ) → Result Call Cause
call_of word.Init ws = read_as (config_in ws) call.Init
call_of word.InitWith ws = both_read_as (config_in ws) (setup_in ws) call.InitWith
call_of word.SetFrame ws =
    both_read_as (rate_in (word_at 1 ws)) (word_length_in (word_at 2 ws))
    (λ rate length. call.SetFrame (framed rate length))
call_of word.SetFrameWhenIdle ws =
    both_read_as (rate_in (word_at 1 ws)) (word_length_in (word_at 2 ws))
    (λ rate length. call.SetFrameWhenIdle (framed rate length))
call_of word.SetTriggerLevel ws = read_as (trigger_in (word_at 1 ws)) call.SetTriggerLevel
call_of word.SetBreak ws = read_as (switch_in (word_at 1 ws)) call.SetBreak
call_of word.SetModemControl ws = read_as (outputs_in (word_at 1 ws)) call.SetModemControl
call_of word.SetRts ws = read_as (switch_in (word_at 1 ws)) call.SetRts
call_of word.SetDtr ws = read_as (switch_in (word_at 1 ws)) call.SetDtr
call_of word.Quiesce ws = both_read_as (outputs_in (word_at 1 ws)) (fifos_in (word_at 2 ws)) call.Quiesce
call_of word.Restore ws = read_as (dump_in (word_at 1 ws)) call.Restore
call_of word.CheckConfigured ws = read_as (outputs_in (word_at 1 ws)) call.CheckConfigured
call_of word.TrySend ws = read_as (byte_in (word_at 1 ws)) call.TrySend
call_of word.Enable ws = read_as (interrupts_in (word_at 1 ws)) call.Enable
call_of word.Disable ws = read_as (interrupts_in (word_at 1 ws)) call.Disable
call_of word.Receive ws = read_as (count_in (word_at 1 ws)) call.Receive
call_of word.ReceiveExact ws = read_as (count_in (word_at 1 ws)) call.ReceiveExact
call_of word.ReceiveWithErrors ws = read_as (count_in (word_at 1 ws)) call.ReceiveWithErrors
call_of word.Read ws = read_as (count_in (word_at 1 ws)) call.Read
call_of word.Send ws = read_as (bytes_in (word_at 1 ws)) (λ bytes. call.Send (array_of bytes))
call_of word.SendExact ws = read_as (bytes_in (word_at 1 ws)) (λ bytes. call.SendExact (array_of bytes))
call_of word.Write ws = read_as (bytes_in (word_at 1 ws)) (λ bytes. call.Write (array_of bytes))
call_of word.Text ws = read_as (text_in (word_at 1 ws)) (λ bytes. call.Text (text_of bytes))
call_of other ws = ok_or (bare_call other) UnknownWord

-- the meaning of the words of a line after the first
unfoldable pub item_of : Word → List (List ℕ) → Result Saying Cause
item_of word.Limit ws = read_as (limit_in (word_at 1 ws)) Limit
item_of word.FifoSize ws = read_as (size_in (word_at 1 ws)) Size
item_of word.Tick ws = read_as (ticks_in (word_at 1 ws)) (λ n. Happens (event.Ticks n))
item_of word.Arrive ws = read_as (arrival_in ws) Happens
item_of word.Lines ws = read_as (lines_in (word_at 1 ws)) (λ lines. Happens (event.Lines lines))
item_of word.Access ws = Ok (Happens event.Access)
item_of word.Next ws = Ok Marks
item_of word ws = read_as (call_of word ws) Calls

-- the first word, if it is in its place and as many words follow as it takes; the same for a line, whose bytes are
-- checked first
abbrev pub placed_word : Place → List (List ℕ) → Option Word → Result Word Cause
placed_word place ws None = if is_placed place None then Err UnknownWord else Err Misplaced
placed_word place ws (Some word) =
    if is_placed place (Some word) then (if has_count word (length ws) then Ok word else Err WrongCount)
    else Err Misplaced

unfoldable pub starts_with : Place → List ℕ → Result Word Cause
starts_with place line =
    if has_bad_byte line then Err BadByte
    else placed_word place (words_of line) (word_of (word_at 0 (words_of line)))

-- a line after the first
unfoldable pub item_at : Place → List ℕ → Result Saying Cause
item_at place line =
    if length line == 0 then Ok Nothing
    else starts_with place line >>= (λ word. item_of word (words_of line))

-- chip NAME T W, or chip NAME T W cut
unfoldable pub header_in : List (List ℕ) → Result Header Cause
header_in ws = do
  chip ← chip_in (word_at 1 ws)
  ticks ← char_ticks_in (word_at 2 ws)
  capacity ← wire_capacity_in (word_at 3 ws)
  cuts ← if length ws == 5 then cut_in (word_at 4 ws) else Ok false
  Ok (record { chip = chip; ticks = ticks; wire_capacity = capacity; cuts = cuts })

-- the first line
unfoldable pub header_at : List ℕ → Result Header Cause
header_at line = starts_with First line >>= (λ word. header_in (words_of line))

-- the meaning of an item of the parser
abbrev pub saying_of : Item → Saying
saying_of item.Blank = Nothing
saying_of (item.Limit n) = Limit (non_zero_u64_get n)
saying_of (item.FifoSize size) = Size size
saying_of (item.Event e) = Happens e
saying_of (item.Call c) = Calls (plain c)
saying_of item.Next = Marks
