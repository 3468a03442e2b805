-- The bytes of a queue, after some were appended or dropped.
use Rattle.std.proofs.Common.{◌≡◌, ℕ, zero, suc, ◌+◌, ◌-◌, ◌<◌, ◌≤◌, ◌⊎◌, List, [], ◌∷◌, ◌++◌, length, get_or}
use Rattle.std.proofs.Common.{take, drop, min, ap, ◌∙◌, sym, refl, inl, inr}
use Rattle.std.proofs.Common.{arith, append_assoc, length-append, length-drop, length-take-le, get_or-drop, get_or-take}
use Rattle.std.proofs.lemmas.List.{same_lists, get_or_append_left, get_or-append_right, take-take, take_all, take_min, take_at, drop_at}
use Rattle.std.proofs.lemmas.List.{drop-drop, drop-append-le, take-append-le, take-append-drop, append-nil}
use Rattle.std.proofs.lemmas.Bool.{cases_lt}
use Rattle.uart_ring.specs.Queue.{bytes_from, latest, IsBehind}

-- ---- one cell

-- there is one such cell
behind_once : (k i N : ℕ) → k ≤ N → i < N → (p : ℕ) × IsBehind k i N p
behind_once k i N front_fits below = elim (cases_lt (k + i) N) [
  | inl low ↦ (k + i, inl (low, refl))
  | inr high ↦ (k + i - N, inr (high, omega arith))
]

-- it is one of the cells, or behind the last one
pub behind_within : (k n N p : ℕ) → k ≤ N → n ≤ N → IsBehind k n N p → p ≤ N
behind_within k n N p front_fits fits place = elim place [
  | inl low ↦ omega (arith, low.0, low.1)
  | inr high ↦ omega (arith, high.0, high.1)
]

-- so many behind, and so many behind that
behind_on : (k m i N p q : ℕ) → k ≤ N → m + i < N → IsBehind k m N p → IsBehind p i N q → IsBehind k (m + i) N q
behind_on k m i N p q front_fits below first second = elim first [
  | inl a ↦ elim second [
    | inl b ↦ inl (omega (arith, a.1, b.0), omega (arith, a.1, b.1))
    | inr b ↦ inr (omega (arith, a.1, b.0), omega (arith, a.1, b.1))
  ]
  | inr a ↦ elim second [
    | inl b ↦ inr (omega (arith, a.0), omega (arith, a.1, b.1))
    | inr b ↦ absurd (omega (arith, a.1, b.0))
  ]
]

-- ---- all of them

module _ (N k n : ℕ) (xs : List ℕ) (front_fits : k ≤ N) (len_fits : n ≤ N) (length_xs : length xs ≡ N) where
  pub length-bytes : length (bytes_from k n xs) ≡ n
  length-bytes = length-take-le n _ (simp (length-append, length-drop) (omega (arith, length-take-le k xs (omega arith))))

  -- byte i of a queue is in the cell that is i behind the front
  pub get_or-bytes : (i p d : ℕ) → i < n → IsBehind k i N p → get_or (bytes_from k n xs) i d ≡ get_or xs p d
  get_or-bytes i p d in_range wraps =
      let length_tail = length-drop k xs in
      get_or-take n _ i d in_range ∙ elim wraps [
        | inl low ↦ get_or_append_left _ _ d i (omega (arith, low.0)) ∙ get_or-drop k xs i d ∙ ap (λ j. get_or xs j d) (sym low.1)
        | inr high ↦
            let back : i - (N - k) ≡ p = omega (arith, high.0, high.1) in
            get_or-append_right (drop k xs) (take k xs) (N - k) i d (omega arith) (omega (arith, high.0)) ∙
            get_or-take k xs (i - (N - k)) d (omega (arith, high.0)) ∙ ap (λ j. get_or xs j d) back
      ]

-- without some of its bytes, a queue begins so many cells behind
pub after_drop : (N k n m p : ℕ) (xs : List ℕ) → k ≤ N → n ≤ N → length xs ≡ N → m ≤ n → IsBehind k m N p →
    bytes_from p (n - m) xs ≡ drop m (bytes_from k n xs)
after_drop N k n m p xs front_fits len_fits length_xs some place =
    let within : p ≤ N = behind_within k m N p front_fits (omega arith) place in
    let length_old = length-bytes N k n xs front_fits len_fits length_xs in
    let length_new = length-bytes N p (n - m) xs within (omega arith) length_xs in
    same_lists _ _ (omega (arith, length_old, length_new, length-drop m (bytes_from k n xs))) (λ i d in_range.
    let there = behind_once p i N within (omega (arith, in_range, length_new)) in
    let here : IsBehind k (m + i) N there.0 = behind_on k m i N p there.0 front_fits (omega (arith, in_range, length_new)) place there.1 in
    get_or-bytes N p (n - m) xs within (omega arith) length_xs i there.0 d (omega (arith, in_range, length_new)) there.1 ∙
    sym (get_or-drop m (bytes_from k n xs) i d ∙
    get_or-bytes N k n xs front_fits len_fits length_xs (m + i) there.0 d (omega (arith, in_range, length_new)) here))

-- ---- bytes over the front of others

written_before : (b j d : ℕ) (xs zs : List ℕ) → b ≤ length xs → j < b → get_or (take b xs ++ drop b zs) j d ≡ get_or xs j d
written_before b j d xs zs enough before =
    get_or_append_left (take b xs) (drop b zs) d j (omega (arith, length-take-le b xs enough)) ∙ get_or-take b xs j d before

written_behind : (b j d : ℕ) (xs zs : List ℕ) → b ≤ length xs → b ≤ j → get_or (take b xs ++ drop b zs) j d ≡ get_or zs j d
written_behind b j d xs zs enough behind =
    let there : b + (j - b) ≡ j = omega arith in
    get_or-append_right (take b xs) (drop b zs) b j d (length-take-le b xs enough) behind ∙
    get_or-drop b zs (j - b) d ∙ ap (λ m. get_or zs m d) there

length-written : (b : ℕ) (xs zs : List ℕ) → b ≤ length xs → b ≤ length zs → length (take b xs ++ drop b zs) ≡ length zs
length-written b xs zs enough room =
    omega (arith, length-append (take b xs) (drop b zs), length-take-le b xs enough, length-drop b zs)

-- bytes that are written behind the last one, and go on at the first cell, are the last ones of the queue
module _ (N k n p c b a : ℕ) (xs bs : List ℕ) (front_fits : k ≤ N) (fits : n + c ≤ N) (length_xs : length xs ≡ N)
    (length_bs : length bs ≡ c) (place : IsBehind k n N p) (within : p ≤ N) (to_end : b ≤ N - p) (all : b + a ≡ c)
    (goes_on : (b ≡ N - p) ⊎ (a ≡ 0)) where
  abbrev start : List ℕ
  start = take a (drop b bs) ++ drop a (take p xs)

  abbrev end : List ℕ
  end = take b bs ++ drop b (drop p xs)

  rest_is : a ≤ length (drop b bs)
  rest_is = omega (arith, length-drop b bs)

  some : b ≤ length bs
  some = omega arith

  length-start : length start ≡ p
  length-start =
      let front = length-take-le p xs (omega arith) in
      let room : a ≤ p = omega (arith, goes_on, place) in
      length-written a (drop b bs) (take p xs) rest_is (omega (arith, room, front)) ∙ front

  length-end : length end ≡ N - p
  length-end =
      let back : length (drop p xs) ≡ N - p = omega (arith, length-drop p xs) in
      length-written b bs (drop p xs) some (omega (arith, to_end, back)) ∙ back

  pub length-cells : length (start ++ end) ≡ N
  length-cells = omega (arith, length-append start end, length-start, length-end)

  kept : (i q d : ℕ) → i < n → IsBehind k i N q → get_or (start ++ end) q d ≡ get_or xs q d
  kept i q d old here = elim (cases_lt q p) [
    | inl low ↦
        let behind : a ≤ q = omega (arith, goes_on, place, here) in
        get_or_append_left start end d q (omega (arith, low, length-start)) ∙
        (written_behind a q d (drop b bs) (take p xs) rest_is behind ∙ get_or-take p xs q d low)
    | inr high ↦
        let behind : b ≤ q - p = omega (arith, goes_on, place, here, high) in
        let there : p + (q - p) ≡ q = omega (arith, high) in
        get_or-append_right start end p q d length-start high ∙
        (written_behind b (q - p) d bs (drop p xs) some behind ∙ (get_or-drop p xs (q - p) d ∙ ap (λ m. get_or xs m d) there))
  ]

  put : (i q d : ℕ) → n ≤ i → i < n + c → IsBehind k i N q → get_or (start ++ end) q d ≡ get_or bs (i - n) d
  put i q d new in_range here = elim (cases_lt q p) [
    | inl low ↦
        let before : q < a = omega (arith, goes_on, place, here, low) in
        let there : b + q ≡ i - n = omega (arith, goes_on, place, here, low) in
        get_or_append_left start end d q (omega (arith, low, length-start)) ∙
        (written_before a q d (drop b bs) (take p xs) rest_is before ∙ (get_or-drop b bs q d ∙ ap (λ m. get_or bs m d) there))
    | inr high ↦
        let before : q - p < b = omega (arith, goes_on, place, here, high) in
        let there : q - p ≡ i - n = omega (arith, goes_on, place, here, high) in
        get_or-append_right start end p q d length-start high ∙
        (written_before b (q - p) d bs (drop p xs) some before ∙ ap (λ m. get_or bs m d) there)
  ]

  pub after_append : bytes_from k (n + c) (start ++ end) ≡ bytes_from k n xs ++ bs
  after_append =
      let length_old = length-bytes N k n xs front_fits (omega arith) length_xs in
      let length_new = length-bytes N k (n + c) (start ++ end) front_fits fits length-cells in
      same_lists _ _ (omega (arith, length_old, length_new, length-append (bytes_from k n xs) bs)) (λ i d in_range.
      let there = behind_once k i N front_fits (omega (arith, in_range, length_new)) in
      get_or-bytes N k (n + c) (start ++ end) front_fits fits length-cells i there.0 d (omega (arith, in_range, length_new)) there.1 ∙
      elim (cases_lt i n) [
        | inl old ↦
            kept i there.0 d old there.1 ∙
            (sym (get_or-bytes N k n xs front_fits (omega arith) length_xs i there.0 d old there.1) ∙
            sym (get_or_append_left (bytes_from k n xs) bs d i (omega (arith, old, length_old))))
        | inr new ↦
            put i there.0 d new (omega (arith, in_range, length_new)) there.1 ∙
            sym (get_or-append_right (bytes_from k n xs) bs n i d length_old new)
      ])

-- ---- two slices in turn

-- the first bytes of two lists in turn: those of the one, and then as many of the other as are left
first_of : (xs ys : List ℕ) (n : ℕ) → take n xs ++ take (n - length xs) ys ≡ take n (xs ++ ys)
first_of [] ys zero = refl
first_of [] ys (suc n) = let none : suc n - length {A = ℕ} [] ≡ suc n = omega arith in ap (λ k. take k ys) none
first_of (x ∷ xs) ys zero = let none : 0 - length (x ∷ xs) ≡ 0 = omega arith in ap (λ k. take k ys) none
first_of (x ∷ xs) ys (suc n) =
    let fewer : suc n - length (x ∷ xs) ≡ n - length xs = omega arith in
    ap (λ k. x ∷ (take n xs ++ take k ys)) fewer ∙ ap (λ zs. x ∷ zs) (first_of xs ys n)

-- the same, if no more is taken of the one than there is
first_of_both : (xs ys : List ℕ) (n f b : ℕ) → f ≡ min n (length xs) → b ≡ n - length xs → take f xs ++ take b ys ≡ take n (xs ++ ys)
first_of_both xs ys n f b is_f is_b = (λ i. (ap (λ k. take k xs) is_f ∙ take_min n xs) i ++ take (is_b i) ys) ∙ first_of xs ys n

-- a queue as two slices: the cells from the front on, and those that it goes on in
pub halves : (front n f : ℕ) (cells end : List ℕ) → n ≤ length cells → end ≡ drop front cells → f ≡ min n (length end) →
    take f end ++ take (n - f) cells ≡ bytes_from front n cells
halves front n f cells end fits is_end is_f =
    let left : n - f ≡ n - length end = omega (arith, is_f) in
    let few : n - f ≤ front = omega (arith, is_f, fits, ap length is_end, length-drop front cells) in
    ap (λ xs. take f end ++ xs) (sym (take-take (n - f) front cells few)) ∙
    (first_of_both end (take front cells) n f (n - f) is_f left ∙ ap (λ xs. take n (xs ++ take front cells)) is_end)

-- the same of so many bytes at its front
pub front_halves : (front n count f : ℕ) (cells end : List ℕ) → n ≤ length cells → count ≤ n → end ≡ drop front cells →
    f ≡ min count (length end) → take f end ++ take (count - f) cells ≡ take count (bytes_from front n cells)
front_halves front n count f cells end fits few is_end is_f =
    halves front count f cells end (omega (arith, fits, few)) is_end is_f ∙
    sym (take-take count n (drop front cells ++ take front cells) few)

-- the first bytes of two slices, once they were copied one after the other
pub copied : (first second old one two mid post : List ℕ) (b k : ℕ) →
    b ≡ min (length first) (length old - 0) → one ≡ take b first ++ drop (0 + b) old → mid ≡ drop b one →
    k ≡ min (length second) (length mid - 0) → two ≡ take k second ++ drop (0 + k) mid → post ≡ [] →
    take b one ++ (two ++ post) ≡ take (b + k) (first ++ second) ++ drop (b + k) old
copied first second old one two mid post b k is_b first_copied is_mid is_k second_copied is_post =
    let at_front : 0 + b ≡ b = omega arith in
    let at_mid : 0 + k ≡ k = omega arith in
    let is_one : one ≡ take b first ++ drop b old = first_copied ∙ ap (λ n. take b first ++ drop n old) at_front in
    let is_two : two ≡ take k second ++ drop k mid = second_copied ∙ ap (λ n. take k second ++ drop n mid) at_mid in
    let front_len : length (take b first) ≡ b = length-take-le b first (omega (arith, is_b)) in
    let front : take b one ≡ take b first = ap (λ xs. take b xs) is_one ∙ take_at (take b first) (drop b old) b front_len in
    let rest : mid ≡ drop b old = is_mid ∙ (ap (λ xs. drop b xs) is_one ∙ drop_at (take b first) (drop b old) b front_len) in
    let rest_len : length mid ≡ length old - b = ap length rest ∙ length-drop b old in
    let is_first : b ≡ min (b + k) (length first) = omega (arith, is_b, is_k, rest_len) in
    let is_second : k ≡ b + k - length first = omega (arith, is_b, is_k, rest_len) in
    let behind : drop k mid ≡ drop (b + k) old = ap (λ xs. drop k xs) rest ∙ drop-drop k b old in
    let end : two ++ post ≡ take k second ++ drop (b + k) old =
    (λ i. is_two i ++ is_post i) ∙ (append-nil (take k second ++ drop k mid) ∙ ap (λ xs. take k second ++ xs) behind) in
    (λ i. front i ++ end i) ∙ (sym (append_assoc (take b first) (take k second) (drop (b + k) old)) ∙
    ap (λ xs. xs ++ drop (b + k) old) (first_of_both first second (b + k) b k is_first is_second))

-- bytes that were copied to a place, and none
pub put_at : (place count : ℕ) (slots new bytes : List ℕ) → new ≡ take count bytes →
    take place slots ++ (new ++ drop (place + count - place) (drop place slots)) ≡
    take place slots ++ (take count bytes ++ drop (place + count) slots)
put_at place count slots new bytes is_new =
    let same : place + (place + count - place) ≡ place + count = omega arith in
    λ i. take place slots ++ (is_new i ++ (drop-drop (place + count - place) place slots ∙ ap (λ n. drop n slots) same) i)

pub put_none : (place count : ℕ) (slots bytes : List ℕ) → count ≡ 0 →
    slots ≡ take place slots ++ (take count bytes ++ drop (place + count) slots)
put_none place count slots bytes none =
    let same : place ≡ place + count = omega (arith, none) in
    sym (take-append-drop place slots) ∙ (λ i. take place slots ++ (take (sym none i) bytes ++ drop (same i) slots))

-- ---- a queue whose cells were written in two parts

-- as many bytes as there is room for were copied to the cells from p on, and those that were left to the first cells
pub appended : (N k n p c b a : ℕ) (xs bytes bs between more new : List ℕ) → k ≤ N → n ≤ N → length xs ≡ N → IsBehind k n N p →
    c ≡ min (length bytes) (N - n) → bs ≡ take c bytes →
    b ≡ min (length bs) (N - p) → between ≡ take p xs ++ (take b bs ++ drop (p + b) xs) → more ≡ drop b bs →
    a ≡ min (length more) (length between - 0) → new ≡ take a more ++ drop (0 + a) between →
    (length new ≡ N) × (bytes_from k (n + (b + a)) new ≡ bytes_from k n xs ++ take (b + a) bytes)
appended N k n p c b a xs bytes bs between more new front_fits len_fits length_xs place
    is_c is_bs is_b is_between is_more is_a is_copied =
    let at_front : 0 + a ≡ a = omega arith in
    let is_new : new ≡ take a more ++ drop a between = is_copied ∙ ap (λ m. take a more ++ drop m between) at_front in
    let within : p ≤ N = behind_within k n N p front_fits len_fits place in
    let length_bs : length bs ≡ c = ap length is_bs ∙ length-take-le c bytes (omega (arith, is_c)) in
    let length_start : length (take p xs) ≡ p = length-take-le p xs (omega (arith, within, length_xs)) in
    let length_more : length more ≡ c - b = omega (arith, ap length is_more, length-drop b bs, length_bs) in
    let to_end : b ≤ N - p = omega (arith, is_b) in
    let moved : take b bs ++ drop (p + b) xs ≡ take b bs ++ drop b (drop p xs) = ap (λ ys. take b bs ++ ys) (sym (drop-drop b p xs)) in
    let length_between : length between ≡ N = omega (
      arith,
      ap length is_between,
      length-append (take p xs) (take b bs ++ drop (p + b) xs),
      length-append (take b bs) (drop (p + b) xs),
      length_start,
      length-take-le b bs (omega (arith, is_b)),
      length-drop (p + b) xs,
      length_xs,
      to_end,
      within,
    ) in
    let all : b + a ≡ c = omega (arith, is_a, is_b, is_c, length_bs, length_between, length_more) in
    let goes_on : (b ≡ N - p) ⊎ (a ≡ 0) = elim (cases_lt c (N - p)) [
      | inl few ↦ inr (omega (arith, few, is_b, all, length_bs))
      | inr many ↦ inl (omega (arith, many, is_b, length_bs))
    ] in
    let fits : n + c ≤ N = omega (arith, is_c, len_fits) in
    let room : a ≤ length (take p xs) = omega (arith, goes_on, place, all, fits, length_start, front_fits) in
    let shape : new ≡ (take a (drop b bs) ++ drop a (take p xs)) ++ (take b bs ++ drop b (drop p xs)) =
    is_new ∙ ((λ i. take a (is_more i) ++ drop a ((is_between ∙ ap (λ ys. take p xs ++ ys) moved) i)) ∙
    (ap (λ ys. take a (drop b bs) ++ ys) (drop-append-le a (take p xs) (take b bs ++ drop b (drop p xs)) room) ∙
    sym (append_assoc (take a (drop b bs)) (drop a (take p xs)) (take b bs ++ drop b (drop p xs))))) in (
      ap length shape ∙ length-cells N k n p c b a xs bs front_fits fits length_xs length_bs place within to_end all goes_on,
      ap (λ m. bytes_from k (n + m) new) all ∙ (ap (λ ys. bytes_from k (n + c) ys) shape ∙
          (after_append N k n p c b a xs bs front_fits fits length_xs length_bs place within to_end all goes_on ∙
          ap (λ ys. bytes_from k n xs ++ ys) (is_bs ∙ ap (λ m. take m bytes) (sym all)))),
    )

-- ---- a queue into whose free cells bytes were received

-- the first of some slots were written, and the others stayed
written_over : (b m : ℕ) (cells slots : List ℕ) → b ≤ m → m ≤ length cells → drop b slots ≡ drop b (take m cells) →
    slots ++ drop m cells ≡ take b slots ++ drop b cells
written_over b m cells slots few enough rest =
    let long : b ≤ length (take m cells) = omega (arith, few, length-take-le m cells enough) in
    ap (λ xs. xs ++ drop m cells) (sym (take-append-drop b slots) ∙ ap (λ xs. take b slots ++ xs) rest) ∙
    (append_assoc (take b slots) (drop b (take m cells)) (drop m cells) ∙
    ap (λ xs. take b slots ++ xs) (sym (drop-append-le b (take m cells) (drop m cells) long) ∙
    ap (λ xs. drop b xs) (take-append-drop m cells)))

-- b of n cells from a place on were written, and the others stayed
pub landed : (place n b : ℕ) (cells slots : List ℕ) → place ≤ length cells → b ≤ length slots →
    take b (drop place (take place cells ++ (slots ++ drop n (drop place cells)))) ≡ take b slots
landed place n b cells slots fits few =
    ap (λ ys. take b ys) (drop_at (take place cells) (slots ++ drop n (drop place cells)) place (length-take-le place cells fits)) ∙
    take-append-le b slots (drop n (drop place cells)) few

pub others_stay : (place n b : ℕ) (cells slots : List ℕ) → place ≤ length cells → n ≤ length (drop place cells) → b ≤ n →
    b ≤ length slots → drop b slots ≡ drop b (take n (drop place cells)) →
    take place cells ++ (slots ++ drop n (drop place cells)) ≡ take place cells ++
    (take b (drop place (take place cells ++ (slots ++ drop n (drop place cells)))) ++ drop (place + b) cells)
others_stay place n b cells slots fits enough within few rest =
    ap (λ ys. take place cells ++ ys) (written_over b n (drop place cells) slots within enough rest ∙
    (λ i. sym (landed place n b cells slots fits few) i ++ drop-drop b place cells i))

-- b bytes were received into the free cells from p on and, if that filled those up to the last one, a into the first
-- cells: they are the last ones of the queue
pub received_at_end : (N k n p slots m b r a : ℕ) (cells one between two new : List ℕ) → k ≤ N → n ≤ N → length cells ≡ N →
    IsBehind k n N p → n + slots ≤ N → m ≡ min slots (N - p) → b ≤ m → length one ≡ b →
    between ≡ take p cells ++ (one ++ drop (p + b) cells) → length between ≡ N →
    ((b ≡ m) × (r ≡ slots - m)) ⊎ (r ≡ 0) → a ≤ r → length two ≡ a → new ≡ two ++ drop (0 + a) between →
    (length new ≡ N) × (bytes_from k (n + (b + a)) new ≡ bytes_from k n cells ++ (one ++ two))
received_at_end N k n p slots m b r a cells one between two new front_fits len_fits length_cells place
    room is_m few length_one is_between length_between goes some length_two is_new =
    let bytes = one ++ two in
    let long : length bytes ≡ b + a = omega (arith, length-append one two, length_one, length_two) in
    let all : take (b + a) bytes ≡ bytes = take_all (b + a) bytes (omega (arith, long)) in
    let within : b + a ≤ slots = omega (arith, goes, few, some, is_m) in
    let is_c : b + a ≡ min (length bytes) (N - n) = omega (arith, long, within, room) in
    let is_b : b ≡ min (length bytes) (N - p) = omega (arith, long, goes, few, some, is_m) in
    let is_a : a ≡ min (length two) (length between - 0) = omega (arith, length_two, length_between, within, room) in
    let whole : take a two ≡ two = take_all a two (omega (arith, length_two)) in
    let facts = appended N k n p (b + a) b a cells bytes bytes between two new front_fits len_fits length_cells place is_c (sym all) is_b
    (is_between ∙ ap (λ ys. take p cells ++ (ys ++ drop (p + b) cells)) (sym (take_at one two b length_one)))
    (sym (drop_at one two b length_one)) is_a (is_new ∙ ap (λ ys. ys ++ drop (0 + a) between) (sym whole)) in
    (facts.0, facts.1 ∙ ap (λ ys. bytes_from k n cells ++ ys) all)

-- ---- one more at the end, for which the first makes way

-- so many made way for it, and it was put at the end if there is any room at all
pub pushed : (items : List ℕ) (capacity away count byte : ℕ) → length items ≤ capacity →
    away ≡ min (length items) (length items + 1 - capacity) → count ≡ min 1 (capacity - length (drop away items)) →
    drop away items ++ take count (byte ∷ []) ≡ latest capacity (items ++ byte ∷ [])
pushed [] zero away count byte fits is_away is_count =
    let none : away ≡ 0 = omega (arith, is_away) in
    let no : count ≡ 0 = omega (arith, is_count) in
    rw (none, no) refl
pushed (item ∷ items) zero away count byte fits is_away is_count = absurd (omega (arith, fits))
pushed items (suc n) away count byte fits is_away is_count =
    let few : away ≤ length items = omega (arith, is_away) in
    let left = length-drop away items in
    let one : count ≡ 1 = omega (arith, is_count, left, is_away, fits) in
    let sum = length-append items (byte ∷ []) in
    let same : length (items ++ byte ∷ []) - suc n ≡ away = omega (arith, sum, is_away, fits) in
    rw (one, same) (sym (drop-append-le away items (byte ∷ []) few))
