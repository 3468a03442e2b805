-- How accesses are printed, and where a trace strays.
use Rattle.std.specs.Prelude.{ℕ, ◌%◌, List, [], ◌∷◌, ◌++◌, Option, Some, None, codes, slice_get}
use Rattle.std.specs.Char.{digit_char}
use Rattle.std.specs.Fmt.{decimal}
use Rattle.uart_spec.specs.declared.access.Access.{Access}
use Rattle.uart_spec.specs.declared.access.Access.TheVariants.{Read, Write}
use Rattle.uart_language.specs.Output.{answer_text, hex_byte}
use Rattle.uart_calls.specs.declared.tape.Request.{Request}
use Rattle.uart_calls.specs.declared.tape.Request.TheVariants as request
use Rattle.uart_calls.specs.declared.checking.Turn.{Turn}
use Rattle.uart_calls.specs.declared.checking.Turn.TheVariants.{Asks, Returns}
use Rattle.uart_judges.specs.declared.traces.judging.Stray.{Stray}
use Rattle.uart_judges.specs.declared.traces.exchange.Exchange.{Exchange}

-- a letter, a space and a register's offset in one digit
abbrev pub place_text : (letter offset : ℕ) → List ℕ
place_text letter offset = letter ∷ 32 ∷ digit_char (offset % 8) ∷ []

-- r OFFSET VALUE for a read with its answer, w OFFSET VALUE for a write
abbrev pub access_text : Access → List ℕ
access_text (Read offset answer) = place_text 114 offset ++ 32 ∷ hex_byte answer
access_text (Write offset value) = place_text 119 offset ++ 32 ∷ hex_byte value

-- a request as it is printed: a read has no answer yet
abbrev pub request_text : Request → List ℕ
request_text (request.Read offset) = place_text 114 offset
request_text (request.Write offset value) = access_text (Write offset value)

-- a line of a trace by its number
abbrev pub line_text : ℕ → List ℕ
line_text number = codes "line " ++ decimal number ++ codes ": '"

-- the answer of a call and its line
abbrev pub answer_line_text : Exchange → List ℕ
answer_line_text x = line_text x.answer_line ++ codes "= " ++ x.answer.items

-- this access and its line, or else the answer and its line
abbrev pub found_text : Option Access → Option ℕ → Exchange → List ℕ
found_text (Some access) (Some number) x = line_text number ++ access_text access
found_text (Some access) None x = answer_line_text x
found_text None number x = answer_line_text x

-- what the driver does: `makes '` and a request, or `returns '= ` and an answer
abbrev pub turn_text : Turn → List ℕ
turn_text (Asks request) = codes "makes '" ++ request_text request
turn_text (Returns returned) = codes "returns '= " ++ answer_text returned.answer

-- the line that strays, which is that of the first access that the driver does not make, and what the driver does there
abbrev pub stray_text : Stray → List ℕ
stray_text stray =
    found_text (slice_get stray.exchange.now.accesses.items stray.kept)
    (slice_get stray.exchange.now.access_lines.items stray.kept) stray.exchange.now
    ++ codes "' strays: the driver " ++ turn_text stray.turn ++ 39 ∷ []
