-- Eight names, one for each bit.
use Rattle.std.proofs.Common.{ℕ, List, [], ◌∷◌, ◌∙◌}
use Rattle.std.proofs.Math.Nat.{mod-eq_of_lt}
use Rattle.std.proofs.lemmas.Nat.{and_mask}
use Rattle.bitflags.specs.Sets.{known_from}
use Rattle.uart_spec.specs.Bits.{NamesEachByte}

-- a table of the eight bits in their order, by whatever names
pub eight_names : (a b c d e f g h : List ℕ) →
    NamesEachByte ((a, 1) ∷ (b, 2) ∷ (c, 4) ∷ (d, 8) ∷ (e, 16) ∷ (f, 32) ∷ (g, 64) ∷ (h, 128) ∷ [])
unfolding known_from
eight_names a b c d e f g h byte below = and_mask byte 8 ∙ mod-eq_of_lt below
