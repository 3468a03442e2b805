-- A queue in an array, which goes on at the start of the array when it reaches the end.
use Rattle.std.specs.Prelude.{ℕ, List, ◌++◌, take, drop}

-- the items of a queue of this length that begins at this place of the array
abbrev pub window : {X : Type 0} → (start len : ℕ) → (slots : List X) → List X
window start len slots = take len (drop start slots ++ take start slots)
