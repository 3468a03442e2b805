-- Waits, and languages in order, part only at reads.
use Rattle.std.proofs.Common.{◌≡◌, ◌<◌, ℕ, zero, suc, List, [], ◌∷◌, refl, ◌∙◌, ap, subst, arith, length, take}
use Rattle.uart_16550.specs.Grammar.{Language, Settings, Only, Then, InOrder, Times, FewMisses, AllMisses}
use Rattle.uart_16550.proofs.Languages.{then_later}
use Rattle.uart_16550.proofs.determined.Parting.{Determined, determined_so, determined_sym, determined_among, determined_then}
use Rattle.uart_16550.proofs.determined.Parting.{determined_front, determined_only, determined_none}

-- a language that is determined by itself, and another one that parts from it
pub record Misses (s : Settings) (M H : Language) : Type 0 where
  pub same : Determined (Unit {0}) (M s) (M s)
  pub apart : Determined ⊥ (M s) (H s)

-- as many lists of one language
pub times_same : (s : Settings) (M : Language) → Determined (Unit {0}) (M s) (M s) → (n : ℕ) →
    Determined (Unit {0}) (Times n M s) (Times n M s)
times_same s M miss zero = determined_only refl
times_same s M miss (suc n) = determined_then miss (λ x. times_same s M miss n)

-- misses and then a hit, twice
pub times_hit : {C : Type 0} (s : Settings) (M H H' : Language) → Misses s M H → Misses s M H' → Determined C (H s) (H' s) → (n k : ℕ) →
    Determined C (Then (Times n M) H s) (Then (Times k M) H' s)
times_hit s M H H' miss miss' hit zero zero = determined_then (determined_only refl) (λ x. hit)
times_hit s M H H' miss miss' hit zero (suc k) = determined_none (determined_sym (determined_front (determined_front miss.apart)))
times_hit s M H H' miss miss' hit (suc n) zero =
    determined_front (determined_front (determined_sym (determined_none (determined_sym miss'.apart))))
times_hit s M H H' miss miss' hit (suc n) (suc k) =
    determined_among (determined_then {P = M} {P' = M} {Q = Then (Times n M) H} {Q' = Then (Times k M) H'} miss.same
    (λ x. times_hit s M H H' miss miss' hit n k))
    (then_later M (Times n M) H s) (then_later M (Times k M) H' s)

-- fewer misses and then a hit, beside misses alone
pub times_all : (s : Settings) (M H : Language) → Misses s M H → (n k : ℕ) → n < k → Determined ⊥ (Then (Times n M) H s) (Times k M s)
times_all s M H miss n zero few = absurd (omega (arith, few))
times_all s M H miss zero (suc k) few = determined_none (determined_sym (determined_front miss.apart))
times_all s M H miss (suc n) (suc k) few =
    determined_among (determined_then {P = M} {P' = M} {Q = Then (Times n M) H} {Q' = Times k M} miss.same
    (λ x. times_all s M H miss n k (omega (arith, few))))
    (then_later M (Times n M) H s) (λ l t. t)

-- a wait that ends
pub waits_end : {C : Type 0} (s : Settings) (M H H' : Language) → Misses s M H → Misses s M H' → Determined C (H s) (H' s) →
    Determined C (Then (FewMisses M) H s) (Then (FewMisses M) H' s)
waits_end s M H H' miss miss' hit = record {
  at = λ l m t w.
      (times_hit s M H H' miss miss' hit t.first.0 w.first.0).at l m
      (record { front = t.front; back = t.back; whole = t.whole; first = t.first.2; second = t.second })
      (record { front = w.front; back = w.back; whole = w.whole; first = w.first.2; second = w.second });
}

-- a wait that ends, and one that reaches the limit
pub wait_ends : (s : Settings) (M H : Language) → Misses s M H → Determined ⊥ (Then (FewMisses M) H s) (AllMisses M s)
wait_ends s M H miss = record {
  at = λ l m t w.
      (times_all s M H miss t.first.0 s.limit t.first.1).at l m
      (record { front = t.front; back = t.back; whole = t.whole; first = t.first.2; second = t.second }) w;
}

-- a wait that reaches the limit
pub wait_fails : (s : Settings) (M : Language) → Determined (Unit {0}) (M s) (M s) → Determined (Unit {0}) (AllMisses M s) (AllMisses M s)
wait_fails s M miss = times_same s M miss s.limit

-- as far as both lists go, their items are related
abbrev pub Alike : {A : Type 0} → (A → A → Type 0) → List A → List A → Type 0
Alike K [] ys = Unit {0}
Alike K (x ∷ xs) [] = Unit {0}
Alike K (x ∷ xs) (y ∷ ys) = K x y × Alike K xs ys

-- items whose lists are determined if the items are related
pub record Items {A : Type 0} (s : Settings) (P : A → Language) (Related : A → A → Type 0) : Type 0 where
  pub item : (x y : A) → Related x y → Determined (x ≡ y) (P x s) (P y s)

-- the first items and the others of equal lists
first_of : {A : Type 0} → A → List A → A
first_of x [] = x
first_of x (y ∷ ys) = y

others_of : {A : Type 0} → List A → List A
others_of [] = []
others_of (x ∷ xs) = xs

pub same_first : {A : Type 0} {x y : A} {xs ys : List A} → x ∷ xs ≡ y ∷ ys → x ≡ y
unfolding first_of
same_first {A} {x} same = ap (first_of x) same

pub same_others : {A : Type 0} {x y : A} {xs ys : List A} → x ∷ xs ≡ y ∷ ys → xs ≡ ys
unfolding others_of
same_others same = ap others_of same

pub same_items : {A : Type 0} (x y : A) (xs ys : List A) → x ≡ y → xs ≡ ys → x ∷ xs ≡ y ∷ ys
same_items x y xs ys same rest = ap (λ z. z ∷ xs) same ∙ ap (λ zs. y ∷ zs) rest

-- as many items
pub items_all : {A : Type 0} {K : A → A → Type 0} (s : Settings) (P : A → Language) (i : Items s P K) (xs ys : List A) → Alike K xs ys →
    length xs ≡ length ys →
    Determined (xs ≡ ys) (InOrder P xs s) (InOrder P ys s)
items_all s P i [] [] k same = determined_so (λ x. refl) (determined_only refl)
items_all s P i [] (y ∷ ys) k same = absurd (omega (arith, same))
items_all s P i (x ∷ xs) [] k same = absurd (omega (arith, same))
items_all s P i (x ∷ xs) (y ∷ ys) k same =
    determined_then (i.item x y k.0) (λ e. determined_so (λ r. same_items x y xs ys e r) (items_all s P i xs ys k.1 (omega (arith, same))))

-- fewer items, and then what parts from one more
pub items_more : {A : Type 0} {K : A → A → Type 0} (s : Settings) (P : A → Language) (Q : Language) (i : Items s P K) →
    ((x : A) → Determined ⊥ (Q s) (P x s)) →
    (xs ys : List A) → Alike K xs ys → length xs < length ys → Determined ⊥ (Then (InOrder P xs) Q s) (InOrder P ys s)
items_more s P Q i apart xs [] k few = absurd (omega (arith, few))
items_more s P Q i apart [] (y ∷ ys) k few = determined_none (determined_sym (determined_front (determined_sym (apart y))))
items_more s P Q i apart (x ∷ xs) (y ∷ ys) k few =
    determined_among
    (determined_then {P = P x} {P' = P y} {Q = Then (InOrder P xs) Q} {Q' = InOrder P ys} (i.item x y k.0)
    (λ e. items_more s P Q i apart xs ys k.1 (omega (arith, few))))
    (then_later (P x) (InOrder P xs) Q s) (λ l t. t)

-- items, and then what parts from one more, on both sides
pub items_short : {A : Type 0} {K : A → A → Type 0} (s : Settings) (P : A → Language) (Q : Language) (i : Items s P K) →
    ((x : A) → Determined ⊥ (Q s) (P x s)) →
    Determined (Unit {0}) (Q s) (Q s) → (xs ys : List A) → Alike K xs ys →
    Determined (xs ≡ ys) (Then (InOrder P xs) Q s) (Then (InOrder P ys) Q s)
items_short s P Q i apart last [] [] k =
    determined_so (λ x. refl) (determined_then {P = Only []} {P' = Only []} (determined_only refl) (λ x. last))
items_short s P Q i apart last [] (y ∷ ys) k =
    determined_none (determined_sym (determined_front (determined_front {P = P y} {Q = InOrder P ys} (determined_sym (apart y)))))
items_short s P Q i apart last (x ∷ xs) [] k =
    determined_front (determined_front {P = P x} {Q = InOrder P xs} (determined_sym (determined_none (apart x))))
items_short s P Q i apart last (x ∷ xs) (y ∷ ys) k =
    determined_among
    (determined_then {P = P x} {P' = P y} {Q = Then (InOrder P xs) Q} {Q' = Then (InOrder P ys) Q} (i.item x y k.0)
    (λ e. determined_so (λ r. same_items x y xs ys e r) (items_short s P Q i apart last xs ys k.1)))
    (then_later (P x) (InOrder P xs) Q s) (then_later (P y) (InOrder P ys) Q s)

-- any items
pub alike_any : {A : Type 0} (xs ys : List A) → Alike (λ x y. Unit {0}) xs ys
alike_any [] ys = tt
alike_any (x ∷ xs) [] = tt
alike_any (x ∷ xs) (y ∷ ys) = (tt, alike_any xs ys)

-- beginnings of one list
pub alike_take : {A : Type 0} (n k : ℕ) (xs : List A) → Alike (λ (x y : A). x ≡ y) (take n xs) (take k xs)
alike_take zero k xs = tt
alike_take (suc n) k [] = tt
alike_take (suc n) zero (x ∷ xs) = tt
alike_take (suc n) (suc k) (x ∷ xs) = (refl, alike_take n k xs)

pub alike_begin : {A : Type 0} (n : ℕ) (xs : List A) → Alike (λ (x y : A). x ≡ y) (take n xs) xs
alike_begin zero xs = tt
alike_begin (suc n) [] = tt
alike_begin (suc n) (x ∷ xs) = (refl, alike_begin n xs)

pub alike_self : {A : Type 0} (xs : List A) → Alike (λ (x y : A). x ≡ y) xs xs
alike_self [] = tt
alike_self (x ∷ xs) = (refl, alike_self xs)

-- items that the lists determine
pub told : {A : Type 0} {s : Settings} (P : A → Language) → ((x y : A) → Determined (x ≡ y) (P x s) (P y s)) → Items s P (λ x y. Unit {0})
told P h = record { item = λ x y k. h x y }

-- items that are given
pub given : {A : Type 0} {s : Settings} (P : A → Language) → ((x : A) → Determined (Unit {0}) (P x s) (P x s)) → Items s P (λ x y. x ≡ y)
given {A} {s} P h = record {
  item = λ x y same. let M : A → Type 0 = λ z. Determined (x ≡ z) (P x s) (P z s) in subst M same (determined_so (λ t. refl) (h x));
}
