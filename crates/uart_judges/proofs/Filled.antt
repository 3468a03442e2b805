-- The first line of the bytes ahead.
use Rattle.std.proofs.Common.{◌≡◌, ◌∙◌, ◌+◌, ◌-◌, ◌<◌, ◌≤◌, ℕ, suc, Bool, refl, ap, subst, sym, arith, List, [], ◌∷◌, ◌++◌, length, take}
use Rattle.std.proofs.Common.{drop, Option, Some, None, inl, inr, append-nil, append_assoc, length-append, cond, min}
use Rattle.std.specs.Global.{Vec}
use Rattle.std.specs.Vec.{with_items}
use Rattle.std.specs.Io.KnownBytes.{Consumes, IsAtEnd, Keeps, prepend_known}
use Rattle.std.specs.List.{position, position_or_len, slice_range}
use Rattle.std.proofs.Math.Seq.{take-append-add}
use Rattle.std.proofs.lemmas.List.{drop-append-le, drop-take, get_or_append_left, length-drop, length-take, length-take-le}
use Rattle.std.proofs.lemmas.List.{take-append-le, with_items_is}
use Rattle.std.proofs.lemmas.List.Quantifiers.{position-Some}
use Rattle.std.proofs.lemmas.Bool.{cases_lt, lt-ltb}
use Rattle.std.proofs.lemmas.List.Sums.{position_or_len_is}
use borrow.Rule.Slice.PartMut.{post_of, put_mid}
use Rattle.uart_language.specs.Text.{lines_of}
use Rattle.uart_language.proofs.Lines.{is_end, lines_first, none_before, position-le}
use Rattle.uart_judges.specs.Streams.{IsFilled, IsFilledWith, IsFirst}
use Rattle.uart_judges.specs.declared.recording.limits.TheConstants.{MOST_LINE_BYTES}
use Rattle.uart_judges.specs.declared.recording.window.TheConstants.{WINDOW_BYTES}

no_end : (items : List ℕ) → None ≡ position is_end items → position_or_len is_end items ≡ length items
no_end items e = elim (cases_lt (position_or_len is_end items) (length items)) [
  | inl lt ↦
      let end : ℕ = position_or_len is_end items in
      absurd (let f : None ≡ Some end = e ∙ ap (λ (b : Bool). cond b (Some end) None) (lt-ltb _ _ lt) in cc)
  | inr le ↦ omega (arith, position-le items)
]

-- the first line ends among these items
pub first_found : (count : ℕ) (items more : List ℕ) → Some count ≡ position is_end items → IsFirst count items more
first_found count items more e =
    let p = position-Some is_end items count 0 (sym e) in
    let lt : count < length items = p.0 in
    let all : length (items ++ more) ≡ length items + length more = length-append items more in
    let at : position_or_len is_end (items ++ more) ≡ count =
    position_or_len_is is_end (items ++ more) count 0 (omega arith)
    (λ k below. ap is_end (get_or_append_left items more 0 k (omega arith)) ∙ p.2 k below)
    (λ _. ap is_end (get_or_append_left items more 0 count lt) ∙ p.1) in
    let one : suc count ≡ count + 1 = omega arith in
    let rest : drop (suc count) (items ++ more) ≡ drop (count + 1) items ++ more =
    drop-append-le (suc count) items more (omega arith) ∙ ap (λ (n : ℕ). drop n items ++ more) one in
    let first : take count (items ++ more) ≡ take count items = take-append-le count items more (omega arith) in
    inl (lines_first (items ++ more) count (omega arith) (sym at) ∙ (λ i. first i ∷ lines_of (rest i)))

-- it does not, and they are more than a line may have
pub first_full : (items more : List ℕ) → None ≡ position is_end items → MOST_LINE_BYTES < length items →
    IsFirst (length items) items more
first_full items more e long =
    let end : ℕ = position_or_len is_end (items ++ more) in
    let all : length (items ++ more) ≡ length items + length more = length-append items more in
    let far : length items ≤ end = none_before items more (no_end items e) in
    let cut : length (take end (items ++ more)) ≡ min end (length (items ++ more)) = length-take end (items ++ more) in
    inr (
      long,
      (
        take end (items ++ more),
        lines_of (drop (suc end) (items ++ more)),
        lines_first (items ++ more) end (omega arith) refl,
        omega arith,
      ),
    )

-- it does not, and nothing follows them
pub first_rest : (items : List ℕ) → None ≡ position is_end items → 0 < length items → IsFirst (length items) items []
first_rest items e some =
    let all : items ++ [] ≡ items = append-nil items in
    let none : drop (length items + 1) items ++ [] ≡ drop (length items + 1) items =
    append-nil (drop (length items + 1) items) in
    let one : suc (length items) ≡ length items + 1 = omega arith in
    inl (ap lines_of all ∙ (lines_first items (length items) some (sym (no_end items e))
    ∙ (λ i. take (length items) items ∷ lines_of (drop (one i) items)))
    ∙ ap (λ l. take (length items) items ∷ lines_of l) (sym none))

-- ---- the window with its first line

pub filled_found : (count : ℕ) (items : List ℕ) (left : Option (List ℕ)) → Some count ≡ position is_end items →
    IsFilled (Some count) items left
filled_found count items left e =
    let p = position-Some is_end items count 0 (sym e) in (omega (arith, p.0), omega (arith, p.0), first left)
  where
    first : (left : Option (List ℕ)) → IsFilledWith count items left
    first None = tt
    first (Some more) = first_found count items more e

pub filled_full : (items : List ℕ) (left : Option (List ℕ)) → None ≡ position is_end items → length items ≡ WINDOW_BYTES →
    IsFilled (Some WINDOW_BYTES) items left
filled_full items left e full = (omega arith, omega arith, first left)
  where
    first : (left : Option (List ℕ)) → IsFilledWith WINDOW_BYTES items left
    first None = tt
    first (Some more) = subst (λ (n : ℕ). IsFirst n items more) full (first_full items more e (omega arith))

pub filled_rest : (items : List ℕ) (left : Option (List ℕ)) → None ≡ position is_end items → 0 < length items → IsAtEnd left →
    IsFilled (Some (length items)) items left
filled_rest items left e some none = (some, omega arith, first left none)
  where
    first : (left : Option (List ℕ)) → IsAtEnd left → IsFilledWith (length items) items left
    first None end = tt
    first (Some more) end = subst (IsFirst (length items) items) (sym end) (first_rest items e some)

-- ---- bytes that are read behind those that are there

pub read_behind : (old buf : List ℕ) (start end count : ℕ) → start ≤ end → end ≤ length old →
    slice_range (take end old ++ buf) start (end + count) ≡ slice_range old start end ++ take count buf
read_behind old buf start end count a b =
    let len : length (take end old) ≡ end = length-take-le end old b in
    let front : drop start (take end old ++ buf) ≡ drop start (take end old) ++ buf =
    drop-append-le start (take end old) buf (omega arith) in
    let whole : start + (end - start) ≡ end = omega arith in
    let part : drop start (take end old) ≡ take (end - start) (drop start old) =
    ap (λ (n : ℕ). drop start (take n old)) (sym whole) ∙ drop-take start (end - start) old in
    let left : length (drop start old) ≡ length old - start = length-drop start old in
    let size : length (take (end - start) (drop start old)) ≡ end - start =
    length-take-le (end - start) (drop start old) (omega arith) in
    let sum : end + count - start ≡ length (take (end - start) (drop start old)) + count = omega arith in
    ap (take (end + count - start)) (front ∙ ap (λ l. l ++ buf) part)
    ∙ (ap (λ (n : ℕ). take n (take (end - start) (drop start old) ++ buf)) sum
    ∙ take-append-add (take (end - start) (drop start old)) buf count)

-- the items of a window behind which bytes were read
pub read_items : (v : Vec ℕ) (all buf : List ℕ) (start end count : ℕ) → all ≡ v.items → start ≤ end →
    end ≤ length all → length buf + end ≡ length all → count ≤ length buf →
    slice_range (with_items v (put_mid end (length all - end) all buf)).items start (end + count)
    ≡ slice_range v.items start end ++ take count buf
read_items v all buf start end count e a b size fits =
    let rest : List ℕ = post_of end (length all - end) all in
    let none : length rest ≡ length (drop end all) - (length all - end) = length-drop (length all - end) (drop end all) in
    let put : List ℕ = take end all ++ (buf ++ rest) in
    let long : length put ≡ v.len =
    omega (
      arith,
      length-append (take end all) (buf ++ rest),
      length-append buf rest,
      length-take-le end all b,
      none,
      length-drop end all,
      ap length e,
      v.ok.0,
    ) in
    ap (λ (l : List ℕ). slice_range l start (end + count)) (with_items_is v put long)
    ∙ (read_behind all (buf ++ rest) start end count a b
    ∙ (ap (λ (l : List ℕ). slice_range l start end ++ take count (buf ++ rest)) e
    ∙ ap (λ (l : List ℕ). slice_range v.items start end ++ l) (take-append-le count buf rest fits)))

-- these items, where no byte was read
pub same_items : (v : Vec ℕ) (all buf : List ℕ) (start end : ℕ) → all ≡ v.items → start ≤ end →
    end ≤ length all → length buf + end ≡ length all →
    slice_range (with_items v (put_mid end (length all - end) all buf)).items start end ≡ slice_range v.items start end
same_items v all buf start end e a b size =
    let more : end ≡ end + 0 = omega arith in
    ap (λ (n : ℕ). slice_range (with_items v (put_mid end (length all - end) all buf)).items start n) more
    ∙ (read_items v all buf start end 0 e a b size (omega arith) ∙ append-nil (slice_range v.items start end))

pub ahead_kept : (items more bs : List ℕ) (left rest : Option (List ℕ)) → more ≡ items ++ bs → Consumes left rest bs →
    Keeps (prepend_known items left) (prepend_known more rest)
ahead_kept items more bs None rest e c = tt
ahead_kept items more bs (Some xs) None e c = c
ahead_kept items more bs (Some xs) (Some ys) e c =
    ap (λ l. l ++ ys) e ∙ (append_assoc items bs ys ∙ ap (λ l. items ++ l) (sym c))

pub ahead_same : (items more : List ℕ) (left rest : Option (List ℕ)) → more ≡ items → Keeps left rest →
    Keeps (prepend_known items left) (prepend_known more rest)
ahead_same items more None rest e c = tt
ahead_same items more (Some xs) None e c = c
ahead_same items more (Some xs) (Some ys) e c = λ i. e i ++ c i
