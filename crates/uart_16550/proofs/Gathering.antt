-- Bursts of bytes that lie in parts.
use Rattle.std.proofs.Common.{◌≡◌, ◌≤◌, ◌<◌, ◌+◌, ◌-◌, ◌⊎◌, ℕ, zero, suc, true, List, [], ◌∷◌, ◌++◌, refl, ◌∙◌, ap, arith}
use Rattle.std.proofs.Common.{length, take, min, inl, inr, Option, Some, None, is_some, length-append}
use Rattle.std.proofs.lemmas.Bool.{cases_lt}
use Rattle.std.specs.Prelude.{option_to_list}
use Rattle.uart_16550.specs.Transmit.{data_writes}

-- the writes of some bytes and then of others
pub writes_append : (xs ys : List ℕ) → data_writes (xs ++ ys) ≡ data_writes xs ++ data_writes ys
writes_append [] ys = refl
writes_append (x ∷ xs) ys = ap (λ l. data_writes (x ∷ []) ++ l) (writes_append xs ys)

-- the first k bytes of two parts: f of the one, which are all of it, or none of the other
take_both : (xs ys : List ℕ) (f s k : ℕ) → k ≡ f + s → f ≤ length xs → (f ≡ length xs) ⊎ (s ≡ 0) →
    take f xs ++ take s ys ≡ take k (xs ++ ys)
take_both [] ys f s k sum few whole =
    let none : f ≡ 0 = omega (arith, few) in
    let same : s ≡ k = omega (arith, sum, few) in
    ap (λ n. take n [] ++ take s ys) none ∙ ap (λ n. take n ys) same
take_both (x ∷ xs) ys zero s k sum few whole =
    let none : s ≡ 0 = omega (arith, whole) in
    let same : 0 ≡ k = omega (arith, sum, whole) in
    ap (λ n. take n ys) none ∙ ap (λ n. take n (x ∷ (xs ++ ys))) same
take_both (x ∷ xs) ys (suc f) s zero sum few whole = absurd (omega (arith, sum))
take_both (x ∷ xs) ys (suc f) s (suc k) sum few whole =
    let rest : (f ≡ length xs) ⊎ (s ≡ 0) = elim whole [ inl all ↦ inl (omega (arith, all)) | inr none ↦ inr none ] in
    ap (λ l. x ∷ l) (take_both xs ys f s k (omega (arith, sum)) (omega (arith, few)) rest)

-- an urgent byte, and the first bytes of two parts, as many as there is room for
pub gathered : (urgent : Option ℕ) (xs ys : List ℕ) (n u f s : ℕ) → u ≡ length (option_to_list urgent) → u ≤ n →
    f ≡ min (length xs) (n - u) → s ≡ min (length ys) (n - u - f) →
    option_to_list urgent ++ (take f xs ++ take s ys) ≡ take (u + f + s) (option_to_list urgent ++ (xs ++ ys))
gathered urgent xs ys n u f s is_u room is_f is_s = go urgent is_u
  where
    few : f ≤ length xs
    few = omega (arith, is_f)

    whole : (f ≡ length xs) ⊎ (s ≡ 0)
    whole = elim (cases_lt f (length xs)) [
      | inl less ↦ inr (omega (arith, less, is_f, is_s))
      | inr all ↦ inl (omega (arith, all, is_f))
    ]

    go : (urgent : Option ℕ) → u ≡ length (option_to_list urgent) →
        option_to_list urgent ++ (take f xs ++ take s ys) ≡ take (u + f + s) (option_to_list urgent ++ (xs ++ ys))
    go None none = take_both xs ys f s (u + f + s) (omega (arith, none)) few whole
    go (Some byte) one =
        let more : suc (f + s) ≡ u + f + s = omega (arith, one) in
        ap (λ l. byte ∷ l) (take_both xs ys f s (f + s) refl few whole) ∙ ap (λ k. take k (byte ∷ (xs ++ ys))) more

pub gathered_size : (urgent : Option ℕ) (xs ys : List ℕ) (n u f s : ℕ) → u ≡ length (option_to_list urgent) → u ≤ n →
    f ≡ min (length xs) (n - u) → s ≡ min (length ys) (n - u - f) →
    u + f + s ≡ min (length (option_to_list urgent ++ (xs ++ ys))) n
gathered_size urgent xs ys n u f s is_u room is_f is_s =
    omega (arith, is_u, room, is_f, is_s, length-append (option_to_list urgent) (xs ++ ys), length-append xs ys)

-- an urgent byte is a byte
pub some_urgent : (urgent : Option ℕ) → is_some urgent ≡ true → 0 < length (option_to_list urgent)
some_urgent None e = absurd (cc (e))
some_urgent (Some byte) e = omega arith
