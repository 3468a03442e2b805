-- The queues of FIFOs in arrays, and the front of one that is taken away.
use Rattle.std.proofs.Common.{◌≡◌, ℕ, zero, suc, ◌+◌, ◌-◌, ◌*◌, ◌<◌, ◌≤◌, ◌==◌, min, Bool, true, false, List, [], ◌∷◌, ◌++◌, Some, take}
use Rattle.std.proofs.Common.{drop, length, slice_get, slice_set, refl, ap, sym, ◌∙◌, arith, if◌then◌else◌}
use Rattle.std.proofs.Math.Seq.{take-add}
use Rattle.std.proofs.lemmas.List.{append_assoc, drop-drop, drop-take, drop_at, length-append, length-drop, length-take, length-take-le}
use Rattle.std.proofs.lemmas.List.{take_at, take-append-drop, take-append-le, take-take, take_min}
use Rattle.std.specs.List.{copy_within}
use Rattle.uart_c.specs.Queue.{fifo_size_of, waiting}
use Rattle.uart_c.specs.declared.queue.TheConstants.{FIFO_ROOM, WIRE_ROOM}
use Rattle.uart_spec.specs.FifoSize.{characters}
use Rattle.uart_spec.specs.declared.setup.FifoSize.{FifoSize}
use Rattle.uart_spec.specs.declared.setup.FifoSize.TheVariants.{Sixteen, ThirtyTwo, SixtyFour, OneHundredTwentyEight}

-- ---- the sizes

of_each : (P : FifoSize → Type 0) (n : ℕ) → P Sixteen → P ThirtyTwo → P SixtyFour → P OneHundredTwentyEight → P (fifo_size_of n)
of_each P n a b d e =
    both (n == 32) ThirtyTwo (if n == 64 then SixtyFour else if n == 128 then OneHundredTwentyEight else Sixteen) b
    (both (n == 64) SixtyFour (if n == 128 then OneHundredTwentyEight else Sixteen) d
    (both (n == 128) OneHundredTwentyEight Sixteen e a))
  where
    both : (v : Bool) (x y : FifoSize) → P x → P y → P (if v then x else y)
    both true x y p q = p
    both false x y p q = q

-- the number of a size stands for it
pub same_size : (n : ℕ) → fifo_size_of (characters (fifo_size_of n)) ≡ fifo_size_of n
same_size n = of_each (λ size. fifo_size_of (characters size) ≡ size) n refl refl refl refl

-- each has room in the array
pub within_room : (n : ℕ) → characters (fifo_size_of n) ≤ FIFO_ROOM
within_room n = of_each (λ size. characters size ≤ FIFO_ROOM) n (omega arith) (omega arith) (omega arith) (omega arith)

pub at_least_16 : (n : ℕ) → 16 ≤ characters (fifo_size_of n)
at_least_16 n = of_each (λ size. 16 ≤ characters size) n (omega arith) (omega arith) (omega arith) (omega arith)

-- ---- what waits

pub length-waiting : {X : Type 0} (n len : ℕ) (items : List X) → length items ≡ FIFO_ROOM →
    length (waiting (fifo_size_of n) len items) ≡ min len (characters (fifo_size_of n))
length-waiting n len items is =
    length-take (min len (characters (fifo_size_of n))) items ∙ omega (arith, is, within_room n)

-- one more item waits behind the others
pub one_more : {X : Type 0} (n len more : ℕ) (before after : List X) (x : X) → length before ≡ FIFO_ROOM →
    length (waiting (fifo_size_of n) len before) < characters (fifo_size_of n) → more ≡ len + 1 →
    take more after ≡ take len before ++ x ∷ [] →
    waiting (fifo_size_of n) more after ≡ waiting (fifo_size_of n) len before ++ x ∷ []
one_more n len more before after x is some next put =
    let few : len < characters (fifo_size_of n) = omega (arith, some, length-waiting n len before is) in
    let all : min len (characters (fifo_size_of n)) ≡ len = omega (arith, few) in
    let others : min more (characters (fifo_size_of n)) ≡ more = omega (arith, few, next) in
    rw (all, others) put

-- nothing is left behind the only item
pub alone : {X : Type 0} (xs : List X) → 1 ≡ length xs → [] ≡ drop 1 xs
alone [] is = refl
alone (x ∷ []) is = refl
alone (x ∷ y ∷ ys) is = absurd (omega (arith, is))

-- ---- items move down in an array

-- behind the place that is given up, each item is that of the next place
behind : {X : Type 0} (place m : ℕ) (xs : List X) → place ≤ m → place ≤ length xs →
    drop m (take place xs ++ drop (place + 1) xs) ≡ drop (m + 1) xs
behind place m xs le fits =
    let ys = take place xs ++ drop (place + 1) xs in
    let k : ℕ = m - place in
    let sum : place + k ≡ m = omega (arith, le) in
    let next : place + 1 + k ≡ m + 1 = omega (arith, le) in
    ap (λ i. drop i ys) (sym sum) ∙ sym (drop-drop k place ys) ∙
    ap (λ zs. drop k zs) (drop_at (take place xs) (drop (place + 1) xs) place (length-take-le place xs fits)) ∙
    drop-drop k (place + 1) xs ∙ ap (λ i. drop i xs) next

-- the first m items have moved down to the places that they are to have in d, and then n more have
more_moved : {X : Type 0} (d xs ys : List X) (m n from : ℕ) → m ≤ length d → from ≡ m + 1 → drop m d ≡ drop (m + 1) xs →
    ys ≡ take m d ++ drop m xs → take m ys ++ take n (drop from ys) ++ drop (m + n) ys ≡ take (m + n) d ++ drop (m + n) xs
more_moved d xs ys m n from fits next rest is =
    let long : length (take m d) ≡ m = length-take-le m d fits in
    let first : take m ys ≡ take m d = ap (λ zs. take m zs) is ∙ take_at (take m d) (drop m xs) m long in
    let last : drop m ys ≡ drop m xs = ap (λ zs. drop m zs) is ∙ drop_at (take m d) (drop m xs) m long in
    let left : drop from ys ≡ drop m d =
    ap (λ i. drop i ys) next ∙ sym (drop-drop 1 m ys) ∙ ap (λ zs. drop 1 zs) last ∙ drop-drop 1 m xs ∙ sym rest in
    let others : drop (m + n) ys ≡ drop (m + n) xs =
    sym (drop-drop n m ys) ∙ ap (λ zs. drop n zs) last ∙ drop-drop n m xs in
    ap (λ zs. zs ++ take n (drop from ys) ++ drop (m + n) ys) first ∙
    ap (λ zs. take m d ++ take n zs ++ drop (m + n) ys) left ∙
    ap (λ zs. take m d ++ take n (drop m d) ++ zs) others ∙
    ap (λ zs. zs ++ drop (m + n) xs) (sym (take-add m n d))

-- a part of 17 places whose last 16 items have moved down in it, and what is beside it
part_moved : {X : Type 0} (m : ℕ) (ys part : List X) → part ≡ copy_within (take 17 (drop m ys)) 1 17 0 →
    take m ys ++ (part ++ drop 17 (drop m ys)) ≡ take m ys ++ take 16 (drop (m + 1) ys) ++ drop (m + 16) ys
part_moved m ys part is =
    let q = drop m ys in
    let first : take 16 (drop 1 (take 17 q)) ≡ take 16 (drop (m + 1) ys) =
    ap (λ zs. take 16 zs) (drop-take 1 16 q) ∙ take-take 16 16 (drop 1 q) (omega arith) ∙ ap (λ zs. take 16 zs) (drop-drop 1 m ys) in
    let last : drop 16 (take 17 q) ≡ take 1 (drop 16 q) = drop-take 16 1 q in
    let rest : take 1 (drop 16 q) ++ drop 17 q ≡ drop (m + 16) ys =
    ap (λ zs. take 1 (drop 16 q) ++ zs) (sym (drop-drop 1 16 q)) ∙ take-append-drop 1 (drop 16 q) ∙ drop-drop 16 m ys in
    ap (λ zs. take m ys ++ (zs ++ drop 17 q)) is ∙
    ap (λ zs. take m ys ++ (zs ++ drop 16 (take 17 q) ++ drop 17 q)) first ∙
    ap (λ zs. take m ys ++ (take 16 (drop (m + 1) ys) ++ zs ++ drop 17 q)) last ∙
    ap (λ zs. take m ys ++ zs) (append_assoc (take 16 (drop (m + 1) ys)) (take 1 (drop 16 q)) (drop 17 q) ∙
    ap (λ zs. take 16 (drop (m + 1) ys) ++ zs) rest) ∙
    sym (append_assoc (take m ys) (take 16 (drop (m + 1) ys)) (drop (m + 16) ys))

-- the next block has moved down, of a queue from which the item in place 15 is to be taken
pub block_moved : {X : Type 0} (block width : ℕ) (xs ys part : List X) → block < 8 → length xs ≡ FIFO_ROOM → 1 ≤ block →
    width ≡ 17 → ys ≡ take (16 * block - 1) (take 15 xs ++ drop 16 xs) ++ drop (16 * block - 1) xs →
    part ≡ copy_within (take width (drop (16 * block - 1) ys)) 1 17 0 →
    take (16 * block - 1) ys ++ (part ++ drop width (drop (16 * block - 1) ys)) ≡
    take (16 * (block + 1) - 1) (take 15 xs ++ drop 16 xs) ++ drop (16 * (block + 1) - 1) xs
block_moved {X} block width xs ys part most full least wide is copied =
    let d : List X = take 15 xs ++ drop 16 xs in
    let m : ℕ = 16 * block - 1 in
    let long : length d ≡ 127 =
    length-append (take 15 xs) (drop 16 xs) ∙ omega (arith, full, length-take 15 xs, length-drop 16 xs) in
    let sum : m + 16 ≡ 16 * (block + 1) - 1 = omega (arith, least) in
    ap (λ n. take m ys ++ (part ++ drop n (drop m ys))) wide ∙
    part_moved m ys part (copied ∙ ap (λ n. copy_within (take n (drop m ys)) 1 17 0) wide) ∙
    more_moved d xs ys m 16 (m + 1) (omega (arith, long, most, least)) refl
    (behind 15 m xs (omega (arith, least)) (omega (arith, full))) is ∙
    ap (λ n. take n d ++ drop n xs) sum

-- the front is taken away
without_front : {X : Type 0} (count : ℕ) (xs : List X) → take (count - 1) (drop 1 xs) ≡ drop 1 (take count xs)
without_front zero xs = refl
without_front (suc n) xs =
    let one : 1 + n ≡ suc n = omega arith in
    let same : suc n - 1 ≡ n = omega arith in
    ap (λ k. take k (drop 1 xs)) same ∙ sym (drop-take 1 n xs) ∙ ap (λ k. drop 1 (take k xs)) one

-- so many places have moved down, and no more wait
pub first_moved : {X : Type 0} (places count : ℕ) (xs ys : List X) → places ≤ length xs → count ≤ places →
    ys ≡ copy_within xs 1 places 0 → take (count - 1) ys ≡ drop 1 (take count xs)
first_moved {X} places count xs ys fits few copied =
    let first : List X = take (places - 1) (drop 1 xs) in
    let long : length first ≡ places - 1 =
    length-take-le (places - 1) (drop 1 xs) (omega (arith, fits, length-drop 1 xs)) in
    ap (λ zs. take (count - 1) zs) copied ∙
    take-append-le (count - 1) first (drop (0 + (places - 1)) xs) (omega (arith, long, few)) ∙
    take-take (count - 1) (places - 1) (drop 1 xs) (omega (arith, few)) ∙ without_front count xs

-- the first block has moved down, and then what is behind it
pub all_moved : {X : Type 0} (count : ℕ) (xs ys : List X) → length xs ≡ FIFO_ROOM → ys ≡ copy_within xs 1 16 0 →
    take (count - 1) (take 15 ys ++ drop 16 ys) ≡ drop 1 (take count xs)
all_moved {X} count xs ys full copied =
    let first : List X = take 15 (drop 1 xs) in
    let long : length first ≡ 15 = length-take-le 15 (drop 1 xs) (omega (arith, full, length-drop 1 xs)) in
    let front : take 15 ys ≡ first = ap (λ zs. take 15 zs) copied ∙ take_at first (drop 15 xs) 15 long in
    let rest : drop 16 ys ≡ drop 15 (drop 1 xs) =
    sym (drop-drop 1 15 ys) ∙ ap (λ zs. drop 1 (drop 15 zs)) copied ∙
    ap (λ zs. drop 1 zs) (drop_at first (drop 15 xs) 15 long) ∙ drop-drop 1 15 xs ∙ sym (drop-drop 15 1 xs) in
    ap (λ zs. take (count - 1) (zs ++ drop 16 ys)) front ∙ ap (λ zs. take (count - 1) (first ++ zs)) rest ∙
    ap (λ zs. take (count - 1) zs) (take-append-drop 15 (drop 1 xs)) ∙ without_front count xs

-- all that a wire has room for has moved down
pub wire_moved : {X : Type 0} (len count : ℕ) (xs ys : List X) → length xs ≡ WIRE_ROOM → count ≡ length (take len xs) →
    ys ≡ copy_within xs 1 WIRE_ROOM 0 → take (count - 1) ys ≡ drop 1 (take len xs)
wire_moved len count xs ys full is copied =
    let within : count ≡ min len (length xs) = is ∙ length-take len xs in
    first_moved WIRE_ROOM count xs ys (omega (arith, full)) (omega (arith, full, within)) copied ∙
    ap (λ zs. drop 1 zs) (ap (λ n. take n xs) within ∙ take_min len xs)

-- ---- a wire, byte by byte

pub dropped : {X : Type 0} (i : ℕ) (xs : List X) → drop 1 (drop i xs) ≡ drop (suc i) xs
dropped zero xs = refl
dropped (suc i) [] = refl
dropped (suc i) (x ∷ xs) = dropped i xs

-- the next byte is put behind those that were taken
pub filled : {X : Type 0} (i : ℕ) (wire bytes : List X) (x : X) → Some x ≡ slice_get (drop i wire) 0 → i < length bytes →
    slice_set (take i wire ++ drop i bytes) i x ≡ take (suc i) wire ++ drop (suc i) bytes
filled zero [] bytes x is some = absurd cc
filled zero (y ∷ ys) [] x is some = absurd (omega (arith, some))
filled zero (y ∷ ys) (z ∷ zs) x is some = let same : x ≡ y = cc in ap (λ b. b ∷ zs) same
filled (suc i) [] bytes x is some = absurd cc
filled (suc i) (y ∷ ys) [] x is some = absurd (omega (arith, some))
filled (suc i) (y ∷ ys) (z ∷ zs) x is some = ap (λ bs. y ∷ bs) (filled i ys zs x is (omega (arith, some)))

-- a byte is taken
pub one_taken : {X : Type 0} (i : ℕ) (wire before after bytes all : List X) (x : X) → before ≡ drop i wire →
    bytes ≡ take i wire ++ drop i all → Some x ≡ slice_get before 0 → after ≡ drop 1 before → i < length all →
    (after ≡ drop (i + 1) wire) × (slice_set bytes i x ≡ take (i + 1) wire ++ drop (i + 1) all)
one_taken i wire before after bytes all x left so_far front rest some =
    let more : suc i ≡ i + 1 = omega arith in
    let is : Some x ≡ slice_get (drop i wire) 0 = front ∙ ap (λ xs. slice_get xs 0) left in (
      rest ∙ ap (λ xs. drop 1 xs) left ∙ dropped i wire ∙ ap (λ k. drop k wire) more,
      ap (λ bs. slice_set bs i x) so_far ∙ filled i wire all x is some ∙ ap (λ k. take k wire ++ drop k all) more,
    )
