-- What a line of a trace means.
use Rattle.std.specs.Prelude.{ℕ, ◌==◌, ◌&&◌, nat_lt, nat_le, Bool, List, [], ◌∷◌, length, drop, Result, Ok, Err}
use Rattle.std.specs.Prelude.{if◌then◌else◌, bytes_eq, codes, ⊤}
use Rattle.std.specs.List.{list_all, before_first}
use Rattle.std.specs.Str.Parse.{digits_value}
use Rattle.uart_spec.specs.declared.access.Access.{Access}
use Rattle.uart_spec.specs.declared.access.Access.TheVariants as access
use Rattle.uart_call.specs.Calls.{IsRunnable}
use Rattle.uart_call.specs.declared.call.Call.{Call}
use Rattle.uart_language.specs.Fields.{◌>>=◌, byte_in}
use Rattle.uart_language.specs.declared.words.Place.TheVariants.{Later}
use Rattle.uart_language.specs.Items.{item_at}
use Rattle.uart_language.specs.Sayings as script
use Rattle.uart_language.specs.Text.{words_of, word_at, has_bad_byte}
use Rattle.uart_language.specs.declared.cause.Cause.{Cause}
use Rattle.uart_language.specs.declared.cause.Cause.TheVariants.{BadByte, BadNumber, WrongCount}
use Rattle.uart_judges.specs.declared.traces.cause.TraceFault.{TraceFault}
use Rattle.uart_judges.specs.declared.traces.cause.TraceFault.TheVariants as fault
use Rattle.uart_judges.specs.declared.traces.lines.TraceLine.{TraceLine}
use Rattle.uart_judges.specs.declared.traces.lines.TraceLine.TheVariants as line

-- what a line adds to a trace: nothing, a new driver, a call, an access, an answer
pub data Saying : Type 0 where
  Nothing : Saying
  Fresh : Saying
  Calls : Call → Saying
  Makes : Access → Saying
  Returns : List ℕ → Saying

-- the meaning of a line that was read; nothing is said about the room that a text does not use
abbrev pub saying_of : TraceLine → Saying
saying_of line.Blank = Nothing
saying_of line.Fresh = Fresh
saying_of (line.Call c) = Calls (script.plain c)
saying_of (line.Access e) = Makes e
saying_of (line.Answer text) = Returns text.now

-- if it is a call, it can be run
abbrev pub CanRun : TraceLine → Type 0
CanRun (line.Call c) = IsRunnable c
CanRun other = ⊤

-- a space
abbrev pub is_space : ℕ → Bool
is_space b = b == 32

-- without the spaces at its end
unfoldable pub without_end : List ℕ → List ℕ
without_end [] = []
without_end (b ∷ bytes) = if list_all is_space (b ∷ bytes) then [] else b ∷ without_end bytes

-- `#`
abbrev pub is_remark : ℕ → Bool
is_remark b = b == 35

-- a line up to its remark, and without the spaces at its end
abbrev pub before_remark : List ℕ → List ℕ
before_remark line = without_end (before_first is_remark line)

-- one digit from 0 to 7 as a register's offset
unfoldable pub offset_in : List ℕ → Result ℕ Cause
offset_in word =
    if length word == 1 && list_all (λ digit. nat_le 48 digit && nat_le digit 55) word then Ok (digits_value 10 word)
    else Err BadNumber

-- the offset and the byte of a line of three words
unfoldable pub access_in : List (List ℕ) → Result (ℕ × ℕ) Cause
access_in ws =
    if length ws == 3
    then offset_in (word_at 1 ws) >>= (λ offset. byte_in (word_at 2 ws) >>= (λ byte. Ok (offset, byte)))
    else Err WrongCount

-- an access of this kind, or what is wrong with its line
abbrev pub made_as : (ℕ → ℕ → Access) → Result (ℕ × ℕ) Cause → Result Saying TraceFault
made_as kind (Ok (offset, byte)) = Ok (Makes (kind offset byte))
made_as kind (Err cause) = Err (fault.Line cause)

-- a call of a script; any other line of a script is no call of the driver
abbrev pub called_as : Result script.Saying Cause → Result Saying TraceFault
called_as (Ok (script.Calls c)) = Ok (Calls c)
called_as (Ok other) = Err fault.NoDriverCall
called_as (Err cause) = Err (fault.Line cause)

-- `fresh`, which is a line of its own
abbrev pub fresh_in : List ℕ → Result Saying TraceFault
fresh_in text = if length (words_of text) == 1 then Ok Fresh else Err (fault.Line WrongCount)

-- = ANSWER, where the answer is all that follows the space
abbrev pub answer_in : List ℕ → Result Saying TraceFault
answer_in text = if nat_lt (length text) 2 then Err (fault.Line WrongCount) else Ok (Returns (drop 2 text))

-- what a line with this first word means
abbrev pub said_by : (word text : List ℕ) → Result Saying TraceFault
said_by word text =
    if bytes_eq word (codes "fresh") then fresh_in text
    else if bytes_eq word (codes "=") then answer_in text
    else if bytes_eq word (codes "r") then made_as access.Read (access_in (words_of text))
    else if bytes_eq word (codes "w") then made_as access.Write (access_in (words_of text))
    else called_as (item_at Later text)

-- what a line without its remark means, or what is wrong with it: a bad byte first
unfoldable pub said_in : List ℕ → Result Saying TraceFault
said_in text =
    if has_bad_byte text then Err (fault.Line BadByte)
    else if length text == 0 then Ok Nothing
    else said_by (word_at 0 (words_of text)) text

-- what a line means, or what is wrong with it
abbrev pub says : List ℕ → Result Saying TraceFault
says line = said_in (before_remark line)
