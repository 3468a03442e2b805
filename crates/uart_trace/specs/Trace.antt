-- The text of a trace: what its lines say, without their remarks.
use Rattle.std.specs.Prelude.{◌≡◌, ℕ, ◌==◌, ◌&&◌, nat_le, Bool, true, false, List, [], ◌∷◌, ◌++◌, map, length}
use Rattle.std.specs.Prelude.{drop, Result, Ok, Option, codes, bytes_eq, if◌then◌else◌, slice_index_or}
use Rattle.std.specs.List.{filter, flat_map, slice_split}
use Rattle.std.specs.Io.KnownBytes.{Appends}
use Rattle.uart_spec.specs.declared.access.Access.{Access}
use Rattle.uart_language.specs.declared.words.Place.TheVariants.{Later}
use Rattle.uart_language.specs.Items.{item_at}
use Rattle.uart_language.specs.Sayings.{Saying, Calls, Marks}
use Rattle.uart_language.specs.Script.{Plan}
use Rattle.uart_language.specs.declared.cause.Cause.{Cause}
use Rattle.uart_judges.specs.TraceLines.{before_remark}
use Rattle.uart_judges.specs.Telling.{access_text}
use Rattle.uart_trace.specs.Run.{IsRecorded}

-- ---- a text

-- the end of a line
abbrev pub is_line_feed : ℕ → Bool
is_line_feed b = b == 10

-- what a line says: all before its remark, if there is anything
abbrev pub line_said : List ℕ → List (List ℕ)
line_said text = if length (before_remark text) == 0 then [] else before_remark text ∷ []

-- what the lines of a text say, in order
abbrev pub text_said : List ℕ → List (List ℕ)
text_said text = flat_map line_said (slice_split is_line_feed text)

-- ---- a call

-- a call of a run: its line in the script, its accesses in order, and its answer as it is printed
pub record CallTold : Type 0 where
  pub line : List ℕ
  pub accesses : List Access
  pub answer : List ℕ

-- r OFFSET VALUE, or w OFFSET VALUE
abbrev pub access_line : Access → List ℕ
access_line access = access_text access

-- What a trace says of a call: its line, a line for each access, and its answer after `=`. `next` is the machine's own,
-- so that its line is a remark, and it has no answer.
abbrev pub call_said : CallTold → List (List ℕ)
call_said call =
    if bytes_eq call.line (codes "next") then map access_line call.accesses
    else line_said call.line ++ map access_line call.accesses ++ line_said (codes "= " ++ call.answer)

-- ---- a run

-- whether a line adds a call to a script, `next` among them
abbrev pub adds_call : Result Saying Cause → Bool
adds_call (Ok (Calls c)) = true
adds_call (Ok Marks) = true
adds_call other = false

abbrev pub is_call_line : List ℕ → Bool
is_call_line text = adds_call (item_at Later text)

-- the lines of a script that are calls
abbrev pub call_lines : List ℕ → List (List ℕ)
call_lines text = filter is_call_line (slice_split is_line_feed text)

-- a byte of printable ASCII, or `?` in place of any other
abbrev pub printable_byte : ℕ → ℕ
printable_byte b = if nat_le 32 b && nat_le b 126 then b else 63

-- bytes as text
abbrev pub printable : List ℕ → List ℕ
printable bytes = map printable_byte bytes

-- the calls of a script that ran, with the accesses of each: the next line of the script that is a call, and the next
-- line that was printed, belong to the next call
abbrev pub calls_told : (lines answers : List (List ℕ)) → List (List Access) → List CallTold
calls_told lines answers [] = []
calls_told lines answers (accesses ∷ more) =
    record {
      line = printable (slice_index_or lines 0 []);
      accesses = accesses;
      answer = printable (slice_index_or answers 0 []);
    } ∷ calls_told (drop 1 lines) (drop 1 answers) more

-- Lines were written that are a trace of the script, for which this was printed: without their remarks, they say what
-- the calls of a run of the script say, each with all the accesses that it made, and with the answer that was printed
-- for it.
pub record IsTraced (plan : Plan) (text printed : List ℕ) (old new : Option (List ℕ)) : Type 0 where
  pub accesses : List (List Access)
  pub recorded : IsRecorded plan accesses
  pub written : List ℕ
  pub appended : Appends old new written
  pub traced : text_said written ≡
      flat_map call_said (calls_told (call_lines text) (slice_split is_line_feed printed) accesses)
