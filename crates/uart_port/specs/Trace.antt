-- What is written to a trace.
use Rattle.std.specs.Prelude.{◌≡◌, ◌-◌, ◌%◌, ℕ, List, [], ◌∷◌, ◌++◌, Option, codes, Bool, true, false, if◌then◌else◌}
use Rattle.std.specs.Char.{digit_char}
use Rattle.std.specs.Io.KnownBytes.{Appends}
use Rattle.std.specs.Option.{option_and_then}
use Rattle.uart_spec.specs.declared.baud.TheConstants.{NUM_REGISTERS}
use Rattle.uart_spec.specs.declared.access.Access.{Access}
use Rattle.uart_spec.specs.declared.access.Access.TheVariants.{Read, Write}
use Rattle.uart_call.specs.declared.call.Call.{Call}
use Rattle.uart_call.specs.declared.call.Call.TheVariants.{Next}
use Rattle.uart_language.specs.Output.{hex_byte, line}
use Rattle.uart_port.specs.Ports.{Attempt, Made, Failed}
use Rattle.uart_port.specs.declared.noted.NotedPorts.{NotedPorts}
use Rattle.uart_port.specs.declared.trace.Trace.{Trace}

-- ---- the lines

-- a letter, the register's offset in one digit and a byte in two, all hexadecimal
abbrev pub lettered : (letter offset byte : ℕ) → List ℕ
lettered letter offset byte = line (letter ∷ 32 ∷ digit_char offset ∷ 32 ∷ hex_byte byte)

-- r OFFSET VALUE for a read with its answer, w OFFSET VALUE for a write
abbrev pub access_line : Access → List ℕ
access_line (Read offset answer) = lettered 114 offset answer
access_line (Write offset value) = lettered 119 offset value

-- an answer, after = and a space
abbrev pub answer_line : List ℕ → List ℕ
answer_line text = line (codes "= " ++ text)

-- `Next` is not a call of the driver
abbrev pub is_driven : Call → Bool
is_driven Next = false
is_driven other = true

-- what is written for a call, if it is one of the driver
abbrev pub if_driven : Call → List ℕ → List ℕ
if_driven call text = if is_driven call then text else []

-- ---- where they are written

-- the output to which a trace is written
abbrev pub output_of : {W : Type 0} → Trace W → W
output_of trace = trace.output

-- the bytes of the output of a trace grow by exactly this text, if they are known
abbrev pub Grows : {W : Type 0} → (W → Option (List ℕ)) → Trace W → Trace W → List ℕ → Type 0
Grows contents old new text = Appends (contents (output_of old)) (contents (output_of new)) text

-- the bytes of the output of a trace, if there is one and they are known
abbrev pub traced : {W : Type 0} → (W → Option (List ℕ)) → Option (Trace W) → Option (List ℕ)
traced contents trace = option_and_then (λ t. contents (output_of t)) trace

-- the register at a port is its distance from the base
abbrev pub register_at : (base port : ℕ) → ℕ
register_at base port = (port - base) % NUM_REGISTERS

-- an access of a port, as one of the register that is there
abbrev pub at_register : ℕ → Access → Access
at_register base (Read port answer) = Read (register_at base port) answer
at_register base (Write port value) = Write (register_at base port) value

-- An access that was made is one that the file made, and is in the trace as the next line. Nothing is said about one
-- that failed.
abbrev pub NotesStep : {F W : Type 0} → (F → Attempt → F → Type 0) → (W → Option (List ℕ)) →
    NotedPorts F W → Attempt → NotedPorts F W → Type 0
NotesStep step contents old (Made access) new =
    (new.base ≡ old.base) × step old.file (Made access) new.file
    × Appends (traced contents old.trace) (traced contents new.trace) (access_line (at_register old.base access))
NotesStep step contents old (Failed port cause) new = new.base ≡ old.base
