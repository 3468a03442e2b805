-- The part of an array that holds a queue, after an item was put or taken.
use Rattle.std.proofs.Common.{◌≡◌, ℕ, ◌+◌, ◌-◌, ◌%◌, ◌<◌, ◌≤◌, ◌⊎◌, List, [], ◌∷◌, ◌++◌, length, get_or}
use Rattle.std.proofs.Common.{take, drop, set, min, ap, ◌∙◌, sym, inl, inr}
use Rattle.std.proofs.Common.{mod-eq_of_lt, arith, length-append, length-drop, length-set, length-take-le, get_or-drop, get_or-take}
use native.Mathlib.Nat.{mod-eq-sub-mod, mod-add-mod}
use Rattle.std.proofs.lemmas.List.{same_lists, get_or_append_left, get_or-append_right, take-set-le, drop-set-lt, drop-set-add}
use Rattle.std.proofs.Math.Seq.{take-set-lt}
use Rattle.std.proofs.lemmas.Bool.{cases_lt}
use Rattle.std.proofs.lemmas.Grind.{common_steps}
use Rattle.uart_live.specs.Ring.{window}

-- an index below 2 N wraps once at most
mod_wraps_once : (N j : ℕ) → j < N + N → ((j < N) × (j % N ≡ j)) ⊎ ((N ≤ j) × (j % N ≡ j - N))
mod_wraps_once N j below = elim (cases_lt j N) [
  | inl low ↦ inl (low, mod-eq_of_lt low)
  | inr high ↦ inr (high, mod-eq-sub-mod high ∙ mod-eq_of_lt (omega arith))
]

module _ {X : Type 0} (N k n : ℕ) (xs : List X) (start_in_range : k < N) (len_fits : n ≤ N) (length_xs : length xs ≡ N) where
  -- the window has n items
  pub length-window : length (window k n xs) ≡ n
  length-window = length-take-le n _ (simp (length-append, length-drop) (omega (arith, length-take-le k xs (omega arith))))

  -- item i of the window is slot (k + i) % N, which is before the end of the array or past it
  get_or-window : (i : ℕ) (d : X) → i < n → get_or (window k n xs) i d ≡ get_or xs ((k + i) % N) d
  get_or-window i d in_range =
      let length_tail = length-drop k xs in
      get_or-take n _ i d in_range ∙ elim (mod_wraps_once N (k + i) (omega arith)) [
        | inl unwrapped ↦ get_or_append_left _ _ d i (omega arith) ∙ get_or-drop k xs i d ∙ ap (λ j. get_or xs j d) (omega arith)
        | inr wrapped ↦
            get_or-append_right _ _ (N - k) i d (omega arith) (omega arith) ∙
            get_or-take k xs _ d (omega arith) ∙ ap (λ j. get_or xs j d) (omega arith)
      ]

-- A second block, since these use the lemmas above at other windows.
module _ {X : Type 0} (N k n : ℕ) (xs : List X) (start_in_range : k < N) (len_fits : n ≤ N) (length_xs : length xs ≡ N) where
  -- a write behind the last item puts it last
  pub window_after_push : (x : X) → n < N → window k (n + 1) (set xs ((k + n) % N) x) ≡ window k n xs ++ x ∷ []
  window_after_push x has_room =
      let ys = set xs ((k + n) % N) x in
      let length_ys = length-set xs ((k + n) % N) x ∙ length_xs in
      let length_old = length-window N k n xs start_in_range len_fits length_xs in
      let length_new = length-window N k (n + 1) ys start_in_range (omega arith) length_ys in
      let written_slot = mod_wraps_once N (k + n) (omega arith) in
      same_lists _ _ (grind (arith, common_steps)) (λ i d in_range. grind (
        arith,
        common_steps,
        mod_wraps_once N (k + i) (omega arith),
        get_or-window N k n xs start_in_range len_fits length_xs i d,
        get_or-window N k (n + 1) ys start_in_range (omega arith) length_ys i d,
      ))

  -- without its front, the window begins at the next slot
  pub window_after_pop : 0 < n → window ((k + 1) % N) (n - 1) xs ≡ drop 1 (window k n xs)
  window_after_pop nonempty =
      let next_in_range : (k + 1) % N < N = grind (arith, mod_wraps_once N (k + 1) (omega arith)) in
      let length_old = length-window N k n xs start_in_range len_fits length_xs in
      let length_new = length-window N ((k + 1) % N) (n - 1) xs next_in_range (omega arith) length_xs in
      same_lists _ _ (simp length-drop (omega arith)) (λ i d in_range. grind (
        arith,
        length-drop 1 (window k n xs),
        get_or-drop 1 (window k n xs) i d,
        mod-add-mod (k + 1) N i,
        get_or-window N k n xs start_in_range len_fits length_xs (1 + i) d,
        get_or-window N _ (n - 1) xs next_in_range (omega arith) length_xs i d,
      ))

-- A third, for arrays that hold each item twice.
module _ {X : Type 0} (N k n : ℕ) (xs : List X) (start_in_range : k < N) (len_fits : n ≤ N) (length_xs : length xs ≡ N) where
  -- without some of its items, the window begins at the next one
  pub window_after_take : (i : ℕ) → i ≤ n → window ((k + i) % N) (n - i) xs ≡ drop i (window k n xs)
  window_after_take i some =
      let next_in_range : (k + i) % N < N = grind (arith, mod_wraps_once N (k + i) (omega arith)) in
      let length_old = length-window N k n xs start_in_range len_fits length_xs in
      let length_new = length-window N ((k + i) % N) (n - i) xs next_in_range (omega arith) length_xs in
      same_lists _ _ (simp length-drop (omega arith)) (λ j d in_range. grind (
        arith,
        length-drop i (window k n xs),
        get_or-drop i (window k n xs) j d,
        mod-add-mod (k + i) N j,
        get_or-window N k n xs start_in_range len_fits length_xs (i + j) d,
        get_or-window N _ (n - i) xs next_in_range (omega arith) length_xs j d,
      ))

  -- where an array goes on with the same items, the window is a part of it
  pub window_of_twice : (ys : List X) → take N ys ≡ xs → drop N ys ≡ xs → length ys ≡ N + N → take n (drop k ys) ≡ window k n xs
  window_of_twice ys front back length_ys =
      let length_old = length-window N k n xs start_in_range len_fits length_xs in
      let length_tail = length-drop k ys in
      let length_new : length (take n (drop k ys)) ≡ n = length-take-le n _ (omega arith) in
      same_lists _ _ (length_new ∙ sym length_old) (λ i d in_range.
      get_or-take n _ i d (omega arith) ∙ get_or-drop k ys i d ∙ twice ys front back (k + i) d (omega arith) ∙
      sym (get_or-window N k n xs start_in_range len_fits length_xs i d (omega arith)))
    where
      twice : (ys : List X) → take N ys ≡ xs → drop N ys ≡ xs → (j : ℕ) (d : X) → j < N + N → get_or ys j d ≡ get_or xs (j % N) d
      twice ys front back j d below = elim (mod_wraps_once N j below) [
        | inl unwrapped ↦
            sym (get_or-take N ys j d unwrapped.0) ∙ ap (λ zs. get_or zs j d) front ∙ ap (λ m. get_or xs m d) (sym unwrapped.1)
        | inr wrapped ↦
            ap (λ m. get_or ys m d) (omega (arith, wrapped.0)) ∙ sym (get_or-drop N ys (j - N) d) ∙
            ap (λ zs. get_or zs (j - N) d) back ∙ ap (λ m. get_or xs m d) (sym wrapped.1)
      ]

-- an item that is written at both places
pub both_set : {X : Type 0} (N p : ℕ) (ys : List X) (x : X) → p < N → drop N ys ≡ take N ys →
    (take N (set (set ys p x) (N + p) x) ≡ set (take N ys) p x) ×
    (drop N (set (set ys p x) (N + p) x) ≡ take N (set (set ys p x) (N + p) x))
both_set N p ys x below same =
    let front : take N (set (set ys p x) (N + p) x) ≡ set (take N ys) p x =
    take-set-le N (set ys p x) (N + p) x (omega arith) ∙ take-set-lt N ys p x below in
    let back : drop N (set (set ys p x) (N + p) x) ≡ set (take N ys) p x =
    drop-set-add N (set ys p x) p x ∙ ap (λ zs. set zs p x) (drop-set-lt N ys p x below ∙ same) in
    (front, back ∙ sym front)

-- no more are dropped than there are
pub drop_least : {X : Type 0} (i n : ℕ) (xs : List X) → length xs ≡ n → drop (min i n) xs ≡ drop i xs
drop_least i n xs is =
    let fewer = length-drop (min i n) xs in
    let rest = length-drop i xs in
    same_lists _ _ (omega (arith, fewer, rest, is)) (λ j d in_range.
    get_or-drop (min i n) xs j d ∙ ap (λ k. get_or xs k d) (omega (arith, in_range, fewer, is)) ∙ sym (get_or-drop i xs j d))
