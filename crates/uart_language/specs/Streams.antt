-- What a reader returns, what is written, and which of the two failed.
use Rattle.std.specs.Prelude.{ℕ, ◌<◌, ◌≤◌, ◌==◌, ◌&&◌, nat_lt, Bool, true, false, List, length, take, Option, Result}
use Rattle.std.specs.Prelude.{Ok, Err, ⊤}
use Rattle.std.specs.Io.KnownBytes.{Consumes, Appends, IsAtEnd}
use Rattle.uart_language.specs.declared.streams.Std.{Std}
use Rattle.uart_language.specs.declared.limits.TheConstants.{MOST_READ}
use Rattle.uart_language.specs.declared.play_error.PlayError.{PlayError}
use Rattle.uart_language.specs.declared.play_error.PlayError.TheVariants as errors
use Rattle.uart_language.specs.declared.cause.ScriptError.{ScriptError}
use Rattle.uart_language.specs.declared.cause.ScriptError.TheVariants as script

-- the wrapped reader or writer of std
abbrev pub std_inner : {T : Type 0} → Std T → T
std_inner s = s.inner

-- whether a read or a write of it has failed
abbrev pub std_has_failed : {T : Type 0} → Std T → Bool
std_has_failed s = s.failed

-- whether a write failed: it returned an error, or accepted no byte of some
abbrev pub takes_none : {E : Type 0} → Result ℕ E → List ℕ → Bool
takes_none (Ok n) bytes = n == 0 && nat_lt 0 (length bytes)
takes_none (Err e) bytes = true

-- the result is this fault
abbrev pub is_read_fault : {A : Type 0} → Result A PlayError → Bool
is_read_fault (Ok x) = false
is_read_fault (Err errors.ReadFault) = true
is_read_fault (Err e) = false

abbrev pub is_write_fault : {A : Type 0} → Result A PlayError → Bool
is_write_fault (Ok x) = false
is_write_fault (Err errors.WriteFault) = true
is_write_fault (Err e) = false

-- an error that comes before anything is parsed
abbrev pub IsReading : PlayError → Type 0
IsReading errors.ReadFault = ⊤
IsReading errors.OutOfMemory = ⊤
IsReading e = ⊥

-- at most this number of bytes is taken from the reader
abbrev pub ConsumesAtMost : ℕ → Option (List ℕ) → Option (List ℕ) → Type 0
ConsumesAtMost most old new = (bytes : List ℕ) × Consumes old new bytes × (length bytes ≤ most)

-- the text is the whole input, or as much of it as is read at most
pub record IsReadText (old new : Option (List ℕ)) (text : List ℕ) : Type 0 where
  pub consumes : Consumes old new text
  pub to_end : length text < MOST_READ → IsAtEnd new

-- a beginning of the bytes is written
abbrev pub WritesFront : Option (List ℕ) → Option (List ℕ) → List ℕ → Type 0
WritesFront old new bytes = (n : ℕ) × Appends old new (take n bytes)

-- the error of a script as that of playing it
abbrev pub play_error : ScriptError → PlayError
play_error (script.Refused line cause) = errors.Refused line cause
play_error script.OutOfMemory = errors.OutOfMemory
