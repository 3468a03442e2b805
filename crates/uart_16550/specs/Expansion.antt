-- What a terminal sends for a text.
use Rattle.std.specs.Prelude.{◌≡◌, ◌<◌, ℕ, List, [], ◌∷◌, ◌++◌, ◌==◌, ◌||◌, Result, Ok, Err, length, take, min, ◌-◌}
use Rattle.std.specs.Prelude.{◌^◌, if◌then◌else◌}
use Rattle.uart_spec.specs.declared.errors.StalledError.{StalledError}
use Rattle.uart_16550.specs.Grammar.{Language, Then, InOrder, AllMisses}
use Rattle.uart_16550.specs.Transmit.{Round, SendMiss}

-- the bytes that are not sent unchanged, and the bytes that are sent for them
abbrev pub backspace : ℕ
backspace = 8

abbrev pub line_feed : ℕ
line_feed = 10

abbrev pub carriage_return : ℕ
carriage_return = 13

abbrev pub space : ℕ
space = 32

abbrev pub delete : ℕ
delete = 127

-- backspace and delete become backspace, space, backspace; a line feed becomes carriage return and line feed; any other
-- byte is itself
abbrev pub expansion_of : ℕ → List ℕ
expansion_of byte =
    if byte == backspace || byte == delete then backspace ∷ space ∷ backspace ∷ []
    else if byte == line_feed then carriage_return ∷ line_feed ∷ []
    else byte ∷ []

-- the expansion of each byte, in order
abbrev pub expansion : List ℕ → List ℕ
expansion [] = []
expansion (byte ∷ bytes) = expansion_of byte ++ expansion bytes

-- each of the bytes is sent by itself, after its own wait
abbrev pub SendsEach : List ℕ → Language
SendsEach = InOrder (λ byte. Round (byte ∷ []))

-- the first n of these bytes, which are not all of them, and then a wait that reaches the limit
abbrev pub SendsBeginning : List ℕ → ℕ → Language
SendsBeginning bytes n s l = (n < length bytes) × Then (SendsEach (take n bytes)) (AllMisses SendMiss) s l

-- these bytes, one by one: all of them, or a beginning
abbrev pub SendsSingly : {T : Type 0} → List ℕ → Result T StalledError → Language
SendsSingly bytes (Ok x) s l = SendsEach bytes s l
SendsSingly bytes (Err e) s l = SendsBeginning bytes e.done s l

-- `write_text`: the expansion of the text, byte by byte, each after its own wait; or a beginning of it, as long as the
-- error reports, at most 2 ^ 64 - 1, and then a wait that reaches the limit
abbrev pub SendsText : {T : Type 0} → List ℕ → Result T StalledError → Language
SendsText text (Ok x) s l = SendsEach (expansion text) s l
SendsText text (Err e) s l = (sent : ℕ) × (e.done ≡ min sent (2 ^ 64 - 1)) × SendsBeginning (expansion text) sent s l

-- `write_str`: the list of `write_text`, and no count
abbrev pub SendsStr : {T E : Type 0} → List ℕ → Result T E → Language
SendsStr text (Ok x) s l = SendsEach (expansion text) s l
SendsStr text (Err e) s l = (sent : ℕ) × SendsBeginning (expansion text) sent s l
