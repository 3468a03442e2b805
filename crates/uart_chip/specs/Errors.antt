-- How many characters of a queue have errors.
use Rattle.std.specs.Prelude.{ℕ, ◌+◌, Bool, List, [], ◌∷◌, if◌then◌else◌}
use Rattle.uart_chip.specs.declared.receiver.Character.{Character}
use Rattle.uart_chip.specs.Receiver.{has_errors}

-- 1 if the character has errors, else 0
abbrev pub error_weight : Character → ℕ
error_weight character = if has_errors character then 1 else 0

-- how many characters have errors
abbrev pub error_count : List Character → ℕ
error_count [] = 0
error_count (character ∷ characters) = error_weight character + error_count characters

-- how many characters have errors that were reported: at most the front
abbrev pub known_errors : List Character → (reported : Bool) → ℕ
known_errors [] reported = 0
known_errors (character ∷ characters) reported = if reported then error_weight character else 0
