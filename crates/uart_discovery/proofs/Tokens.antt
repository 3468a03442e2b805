-- The tokens of a device tree, one after the other.
use Rattle.std.proofs.Common.{◌≡◌, ℕ, suc, ◌+◌, ◌-◌, ◌<◌, List, ◌∷◌, subst, refl, arith}
use Rattle.uart_discovery.specs.Tree.{token_of, next_of, tokens_from}

-- with tokens left, the first of them is that at the place
pub tokens_step : (n i : ℕ) (structure : List ℕ) (at : ℕ) → i < n
    → tokens_from (n - i) structure at
    ≡ token_of structure at ∷ tokens_from (n - (i + 1)) structure (next_of (token_of structure at))
tokens_step n i structure at lt =
    let e : n - i ≡ suc (n - (i + 1)) = omega (arith, lt) in
    rw e refl
