-- The first line, and the lines after it.
use Rattle.std.proofs.Common.{◌≡◌, ℕ, zero, suc, ◌-◌, ◌<◌, ◌≤◌, Bool, true, false, cond, eqb, ltb, List, [], ◌∷◌, ◌++◌, length, take, drop}
use Rattle.std.proofs.Common.{Option, Some, None, refl, sym, ap, ◌∙◌, arith, inl, inr, Bor}
use Rattle.std.specs.Prelude.{unwrap_or, option_map, slice_get, slice_index_or}
use Rattle.std.specs.List.{position_or_len, onto_first}
use Rattle.std.proofs.lemmas.Bool.{cases_lt, lt-ltb, le-ltb}
use Rattle.std.proofs.lemmas.List.{nil_from_length, length-drop, take_all}
use Rattle.std.proofs.lemmas.List.Recursion.{is_position_or_len}
use Rattle.uart_language.specs.Text.{lines_of}

abbrev pub is_end : ℕ → Bool
is_end b = eqb b 10

-- where the first line ends
end_of : List ℕ → ℕ
end_of [] = 0
end_of (b ∷ bytes) = cond (is_end b) 0 (suc (end_of bytes))

end_of-is : (bytes : List ℕ) → end_of bytes ≡ position_or_len is_end bytes
unfolding end_of
end_of-is = is_position_or_len end_of is_end refl (λ b bytes. ap (cond (is_end b) 0) (omega arith))

end_of-le : (bytes : List ℕ) → end_of bytes ≤ length bytes
unfolding end_of
end_of-le [] = omega arith
end_of-le (b ∷ bytes) =
    let h = end_of-le bytes in
    elim (is_end b) as (λ t. cond t 0 (suc (end_of bytes)) ≤ suc (length bytes)) [ true ↦ omega arith | false ↦ omega arith ]

pub position-le : (bytes : List ℕ) → position_or_len is_end bytes ≤ length bytes
position-le bytes = rw (← end_of-is bytes) (end_of-le bytes)

no_end : (items more : List ℕ) → end_of items ≡ length items → length items ≤ end_of (items ++ more)
unfolding end_of
no_end [] more e = omega arith
no_end (b ∷ items) more e = go (is_end b) (λ f. no_end items more f) e
  where
    go : (t : Bool) → (end_of items ≡ length items → length items ≤ end_of (items ++ more)) →
        cond t 0 (suc (end_of items)) ≡ suc (length items) →
        suc (length items) ≤ cond t 0 (suc (end_of (items ++ more)))
    go true rest f = absurd (omega arith)
    go false rest f = let h : length items ≤ end_of (items ++ more) = rest (omega arith) in omega arith

-- if a line has no end among these items, it has all of them
pub none_before : (items more : List ℕ) → position_or_len is_end items ≡ length items →
    length items ≤ position_or_len is_end (items ++ more)
none_before items more e = rw (← end_of-is (items ++ more)) (no_end items more (end_of-is items ∙ e))

pub end_is : (bytes : List ℕ) (r : Option ℕ) → r ≡ cond (ltb (position_or_len is_end bytes) (length bytes))
    (Some (position_or_len is_end bytes)) None → unwrap_or r (length bytes) ≡ position_or_len is_end bytes
end_is bytes r e = elim (cases_lt (position_or_len is_end bytes) (length bytes)) [
  | inl lt ↦ rw (e, lt-ltb _ _ lt) refl
  | inr le ↦ rw (e, le-ltb _ _ le) (omega (arith, position-le bytes))
]

abbrev pub cut_at : List ℕ → ℕ → List (List ℕ)
cut_at bytes end = take end bytes ∷ lines_of (drop (suc end) bytes)

onto : (b : ℕ) (line : List ℕ) (lines : List (List ℕ)) (all : List (List ℕ)) → all ≡ line ∷ lines → onto_first b all ≡ (b ∷ line) ∷ lines
onto b line lines all e = rw e refl

lines_cut : (b : ℕ) (bytes : List ℕ) → lines_of (b ∷ bytes) ≡ cut_at (b ∷ bytes) (end_of (b ∷ bytes))
unfolding lines_of end_of
lines_cut b [] = elim (is_end b) as (λ t. cond t ([] ∷ []) ((b ∷ []) ∷ []) ≡ cut_at (b ∷ []) (cond t 0 1)) [ true ↦ refl | false ↦ refl ]
lines_cut b (c ∷ bytes) =
    let m = end_of (c ∷ bytes) in
    let h : lines_of (c ∷ bytes) ≡ cut_at (c ∷ bytes) m = lines_cut c bytes in
    elim (is_end b) as (λ t. cond t ([] ∷ lines_of (c ∷ bytes)) (onto_first b (lines_of (c ∷ bytes))) ≡ cut_at (b ∷ c ∷ bytes)
    (cond t 0 (suc m))) [ true ↦ refl | false ↦ onto b _ _ _ h ]

pub lines_first : (bytes : List ℕ) (end : ℕ) → 0 < length bytes → end ≡ position_or_len is_end bytes → lines_of bytes ≡ cut_at bytes end
lines_first [] end some e = absurd (omega arith)
lines_first (b ∷ bytes) end some e = rw (e, ← end_of-is (b ∷ bytes)) (lines_cut b bytes)

drop-suc : (n : ℕ) (bytes : List ℕ) → drop 1 (drop n bytes) ≡ drop (suc n) bytes
drop-suc zero bytes = refl
drop-suc (suc n) [] = refl
drop-suc (suc n) (b ∷ bytes) = drop-suc n bytes

pub cut_at_end : (bytes : List ℕ) (end : ℕ) (rest : List ℕ) → 0 < length bytes → end ≡ position_or_len is_end bytes → rest ≡ drop end bytes
    → length rest < 1 → lines_of bytes ≡ take end bytes ∷ lines_of rest
cut_at_end bytes end rest some e r none =
    let nothing : rest ≡ [] = nil_from_length rest (omega arith) in
    let after : drop 1 rest ≡ drop (suc end) bytes = rw r (drop-suc end bytes) in
    let beyond : drop (suc end) bytes ≡ rest = sym after ∙ rw nothing refl in
    lines_first bytes end some e ∙ ap (λ (x : List ℕ). take end bytes ∷ lines_of x) beyond

pub cut_before_end : (bytes : List ℕ) (end : ℕ) (rest : List ℕ) → 0 < length bytes → end ≡ position_or_len is_end bytes
    → rest ≡ drop end bytes → lines_of bytes ≡ take end bytes ∷ lines_of (take (length rest - 1) (drop 1 rest))
cut_before_end bytes end rest some e r =
    let whole : take (length rest - 1) (drop 1 rest) ≡ drop 1 rest = take_all _ _ (omega (arith, length-drop 1 rest)) in
    let after : drop 1 rest ≡ drop (suc end) bytes = rw r (drop-suc end bytes) in
    lines_first bytes end some e ∙ ap (λ (x : List ℕ). take end bytes ∷ lines_of x) (sym after ∙ sym whole)

-- the word that an iterator gives, or the empty word
pub word_from_get : (words : List (List ℕ)) (k : ℕ) (r : Option (Bor (List ℕ))) (d : Bor (List ℕ))
    → option_map (λ x. x.now) r ≡ slice_get words k → (unwrap_or r d).now ≡ slice_index_or words k d.now
word_from_get [] k None d e = refl
word_from_get [] k (Some x) d e = absurd cc
word_from_get (w ∷ words) zero None d e = absurd cc
word_from_get (w ∷ words) zero (Some x) d e = cc
word_from_get (w ∷ words) (suc k) r d e = word_from_get words k r d e
