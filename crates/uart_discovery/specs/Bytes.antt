-- Numbers in tables, by the offset of their first byte.
use Rattle.std.specs.Prelude.{ℕ, ◌+◌, ◌%◌, List, [], ◌∷◌, slice_index, fold}
use Rattle.std.specs.Int.{w16, w32, w64, from_le_bytes}

-- the number in two bytes, the lowest first
abbrev pub le16 : List ℕ → ℕ → ℕ
le16 bytes at = from_le_bytes w16 (slice_index bytes at ∷ slice_index bytes (at + 1) ∷ [])

-- the number in four bytes, the lowest first
abbrev pub le32 : List ℕ → ℕ → ℕ
le32 bytes at =
    from_le_bytes w32 (slice_index bytes at ∷ slice_index bytes (at + 1) ∷ slice_index bytes (at + 2)
    ∷ slice_index bytes (at + 3) ∷ [])

-- the number in eight bytes, the lowest first
abbrev pub le64 : List ℕ → ℕ → ℕ
le64 bytes at =
    from_le_bytes w64 (slice_index bytes at ∷ slice_index bytes (at + 1) ∷ slice_index bytes (at + 2)
    ∷ slice_index bytes (at + 3) ∷ slice_index bytes (at + 4) ∷ slice_index bytes (at + 5)
    ∷ slice_index bytes (at + 6) ∷ slice_index bytes (at + 7) ∷ [])

-- the sum of the bytes, of which the lowest eight bits are kept
abbrev pub checksum : List ℕ → ℕ
checksum bytes = fold (λ sum byte. (sum + byte) % 256) 0 bytes
