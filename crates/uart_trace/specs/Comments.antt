-- Comment lines of a script.
use Rattle.std.specs.Prelude.{ℕ, List, [], ◌∷◌, ◌++◌, ◌==◌, if◌then◌else◌, map, nat_lt, length}
use Rattle.std.specs.List.{slice_split, join_with_byte}
use Rattle.uart_language.specs.declared.limits.TheConstants.{MOST_BYTES}

-- a line, or an empty one if its first byte is #
abbrev pub uncommented : List ℕ → List ℕ
uncommented [] = []
uncommented (b ∷ line) = if b == 35 then [] else b ∷ line

-- a line without its comment, and a line feed
abbrev pub ended : List ℕ → List ℕ
ended line = uncommented line ++ 10 ∷ []

-- a script with an empty line in place of each comment; its other bytes, and the numbers of its lines, stay
abbrev pub without_comments : List ℕ → List ℕ
without_comments script = join_with_byte 10 (map uncommented (slice_split (λ b. b == 10) script))

-- a script without its comments; one with too many bytes, comments included, is refused as it is
abbrev pub plain : List ℕ → List ℕ
plain script = if nat_lt MOST_BYTES (length script) then script else without_comments script
