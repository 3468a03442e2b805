-- The items of a list, taken one after the other by their indices.
use Rattle.std.proofs.Common.{◌≡◌, ◌+◌, ℕ, suc, List, [], ◌∷◌, length, Some, refl, ap, arith, slice_get}
use Rattle.std.specs.List.{filter_map, range_with_len}

-- the items from an index on
picks_from : {A : Type 0} (all xs : List A) (a : ℕ) → ((i j : ℕ) → a + i ≡ j → slice_get all j ≡ slice_get xs i) →
    filter_map (slice_get all) (range_with_len a (length xs)) ≡ xs
picks_from all [] a same = refl
picks_from all (x ∷ xs) a same =
    let first : slice_get all a ≡ Some x = same 0 a (omega arith) in
    rw first (ap (λ ys. x ∷ ys) (picks_from all xs (a + 1) (λ i j e. same (suc i) j (omega (arith, e)))))

pub picks_all : {A : Type 0} (xs : List A) → filter_map (slice_get xs) (range_with_len 0 (length xs)) ≡ xs
picks_all xs = picks_from xs xs 0 (λ i j e. ap (slice_get xs) (omega (arith, e)))
