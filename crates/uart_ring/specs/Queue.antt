-- A queue of bytes in cells whose number is fixed.
use Rattle.std.specs.Prelude.{◌≡◌, ◌<◌, ◌≤◌, ◌+◌, ◌-◌, ◌⊎◌, ℕ, List, [], ◌∷◌, ◌++◌, length, take, drop}

-- the bytes of a queue, the first one first, and how many there may be
pub record Queue : Type 0 where
  pub items : List ℕ
  pub capacity : ℕ

-- a queue of these bytes, in which there may be so many
abbrev pub queue : List ℕ → ℕ → Queue
queue items capacity = record { items = items; capacity = capacity }

-- so many bytes from this cell on, which go on at the first cell after the last one
abbrev pub bytes_from : (cell count : ℕ) → (cells : List ℕ) → List ℕ
bytes_from cell count cells = take count (drop cell cells ++ take cell cells)

-- this is the cell that is `count` behind `cell`, of so many cells: behind the last one is the first
abbrev pub IsBehind : (cell count cells behind : ℕ) → Type 0
IsBehind cell count cells behind =
    ((cell + count < cells) × (behind ≡ cell + count)) ⊎ ((cells ≤ cell + count) × (behind + cells ≡ cell + count))

-- the last ones of a list, at most so many
abbrev pub latest : ℕ → List ℕ → List ℕ
latest count items = drop (length items - count) items

-- the queue with one more at its end; if there is no room for it, the first one makes way
abbrev pub with_latest : ℕ → Queue → Queue
with_latest item ring = queue (latest ring.capacity (ring.items ++ item ∷ [])) ring.capacity
