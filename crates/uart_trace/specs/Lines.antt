-- How the lines of a trace are written while a script runs: what each part appends.
use Rattle.std.specs.Prelude.{◌≡◌, ℕ, ◌==◌, false, List, [], ◌∷◌, ◌++◌, map, length, drop, Option, None}
use Rattle.std.specs.Prelude.{codes, bytes_eq, if◌then◌else◌, slice_index_or, OnOk, Result}
use Rattle.std.specs.List.{AllByRecursion, flat_map, list_any}
use Rattle.std.specs.Io.KnownBytes.{Appends}
use Rattle.uart_spec.specs.declared.access.Access.{Access}
use Rattle.uart_language.specs.Output.{line}
use Rattle.uart_trace.specs.Trace.{access_line, is_line_feed, line_said, printable}
use Rattle.uart_language.specs.declared.play_error.PlayError.{PlayError}
use Rattle.uart_language.specs.declared.play_error.PlayError.TheVariants as error
use Rattle.uart_trace.specs.declared.tracing.Failure.{Failure}
use Rattle.uart_trace.specs.declared.tracing.Failure.TheVariants as failure
use Rattle.uart_trace.specs.declared.tracing.Lines.{Lines}

-- ---- lines

-- it has no line feed
abbrev pub IsOneLine : List ℕ → Type 0
IsOneLine text = list_any is_line_feed text ≡ false

-- lines that say this were appended
pub record Adds (old new : List ℕ) (said : List (List ℕ)) : Type 0 where
  pub lines : List (List ℕ)
  pub whole : AllByRecursion IsOneLine lines
  pub text : new ≡ old ++ flat_map line lines
  pub says : flat_map line_said lines ≡ said

-- a line of a remark; nothing for an empty one
abbrev pub remark_line : List ℕ → List ℕ
remark_line text = if length text == 0 then [] else codes "# " ++ line text

-- what the lines before and after the accesses of a call say
abbrev pub begin_said : List ℕ → List (List ℕ)
begin_said line = if bytes_eq line (codes "next") then [] else line_said line

abbrev pub end_said : (line answer : List ℕ) → List (List ℕ)
end_said line answer = if bytes_eq line (codes "next") then [] else line_said (codes "= " ++ answer)

-- lines that say this were written
pub record Writes (old new : Option (List ℕ)) (said : List (List ℕ)) : Type 0 where
  pub bytes : List ℕ
  pub written : Appends old new bytes
  pub says : Adds [] bytes said

-- ---- the lines of a trace as a listener of the run

-- the error that a failure is reported as
abbrev pub error_of : Failure → PlayError
error_of failure.OutOfMemory = error.OutOfMemory
error_of failure.Writer = error.WriteFault

-- the lines of the script that are calls, and the lines that were printed for it, from the next call on
abbrev pub lines_left : {R W : Type 0} → Lines R W → List (List ℕ)
lines_left l = map (λ line. line.now) l.lines.now

abbrev pub answers_left : {R W : Type 0} → Lines R W → List (List ℕ)
answers_left l = map (λ line. line.now) l.answers.now

-- the line and the answer of the call
abbrev pub line_of : {R W : Type 0} → Lines R W → List ℕ
line_of l = printable (slice_index_or (lines_left l) 0 [])

abbrev pub answer_of : {R W : Type 0} → Lines R W → List ℕ
answer_of l = printable (slice_index_or (answers_left l) 0 [])

-- if nothing has failed, nothing had failed before, and lines that say this were written
abbrev pub IsWritten : {R W : Type 0} → (W → Option (List ℕ)) → (said : List (List ℕ)) → Lines R W → Lines R W → Type 0
IsWritten contents said old new =
    new.failure ≡ None → (old.failure ≡ None) × Writes (contents old.writer) (contents new.writer) said

-- the call stays the same, and lines that say this were written
pub record Stays {R W : Type 0} (contents : W → Option (List ℕ)) (said : List (List ℕ)) (old new : Lines R W) :
    Type 0 where
  pub lines : lines_left new ≡ lines_left old
  pub answers : answers_left new ≡ answers_left old
  pub written : IsWritten contents said old new

-- this text was to be written, and is if this succeeded; a failure that was kept before is not touched
pub record IsPut {R W E : Type 0} (contents : W → Option (List ℕ)) (text : List ℕ) (result : Result (Unit {0}) E)
    (old new : Lines R W) : Type 0 where
  pub lines : lines_left new ≡ lines_left old
  pub answers : answers_left new ≡ answers_left old
  pub failure : new.failure ≡ old.failure
  pub written : OnOk result (Appends (contents old.writer) (contents new.writer) text)

-- the same of lines that say this
pub record IsTried {R W E : Type 0} (contents : W → Option (List ℕ)) (said : List (List ℕ))
    (result : Result (Unit {0}) E) (old new : Lines R W) : Type 0 where
  pub lines : lines_left new ≡ lines_left old
  pub answers : answers_left new ≡ answers_left old
  pub failure : new.failure ≡ old.failure
  pub written : OnOk result (Writes (contents old.writer) (contents new.writer) said)

-- a call begins
abbrev pub BeginsCall : {R W : Type 0} → (W → Option (List ℕ)) → Lines R W → Lines R W → Type 0
BeginsCall contents old new = Stays contents (begin_said (line_of old)) old new

-- the call makes an access
abbrev pub HearsAccess : {R W : Type 0} → (W → Option (List ℕ)) → Lines R W → Access → Lines R W → Type 0
HearsAccess contents old access new = Stays contents (access_line access ∷ []) old new

-- the call has returned, and the next call has the next line and the next answer
pub record EndsCall {R W : Type 0} (contents : W → Option (List ℕ)) (old new : Lines R W) : Type 0 where
  pub lines : lines_left new ≡ drop 1 (lines_left old)
  pub answers : answers_left new ≡ drop 1 (answers_left old)
  pub written : IsWritten contents (end_said (line_of old) (answer_of old)) old new
