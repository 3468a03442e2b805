-- What is awaited in turn, and the answers that whoever waits gave.
use Rattle.std.proofs.Common.{◌≡◌, ◌+◌, ℕ, zero, suc, Bool, true, false, List, [], ◌∷◌, ◌++◌, refl, sym, ◌∙◌, ap, subst, arith}
use Rattle.std.proofs.Common.{Result, Ok, Err, length, append_assoc}
use Rattle.std.specs.List.{FoldsTo}
use Rattle.uart_spec.specs.declared.access.Access.{Access}
use Rattle.uart_16550.specs.Grammar.{Language, Settings, Then, InOrder, FewMisses, AllMisses}
use Rattle.uart_16550.specs.Receive.{Hit, Miss}
use Rattle.uart_16550.specs.Transmit.{SendMiss, Burst}
use Rattle.uart_16550.specs.Patience.{keeps_waiting, After, InVain, Awaited, items_of, misses_of, IsExactIfEndless, ReceivesExactIfEndless}
use Rattle.uart_16550.specs.Patience.{ShowsEmpty, FlushesIfEndless, at_limit}
use Rattle.uart_16550.specs.declared.patience.WaitEnd.{WaitEnd}
use Rattle.uart_16550.specs.declared.patience.WaitEnd.TheVariants.{SpinLimit, Patience}
use Rattle.uart_16550.specs.declared.patience.WaitError.{WaitError}
use Rattle.uart_16550.proofs.determined.Parting.{not_both}
use Rattle.uart_16550.proofs.determined.Repeated.{same_first, same_others}

-- one answer more, and as many answers after others
pub keeps_more : (n : ℕ) → keeps_waiting (n + 1) ≡ keeps_waiting n ++ true ∷ []
keeps_more zero = refl
keeps_more (suc n) =
    let more : suc n + 1 ≡ suc (n + 1) = omega arith in rw more (ap (λ (xs : List Bool). true ∷ xs) (keeps_more n))

pub keeps_sum : (n k : ℕ) → keeps_waiting (n + k) ≡ keeps_waiting n ++ keeps_waiting k
keeps_sum zero k = let none : zero + k ≡ k = omega arith in rw none refl
keeps_sum (suc n) k =
    let more : suc n + k ≡ suc (n + k) = omega arith in rw more (ap (λ (xs : List Bool). true ∷ xs) (keeps_sum n k))

-- answers after answers
pub folds_append : {P A : Type 0} (R : P → A → P → Type 0) (p q r : P) (xs ys : List A) → FoldsTo R p xs q → FoldsTo R q ys r →
    FoldsTo R p (xs ++ ys) r
folds_append {P} R p q r [] ys a b = let F : P → Type 0 = λ x. FoldsTo R x ys r in subst F (sym a) b
folds_append R p q r (x ∷ xs) ys a b = (a.0, a.1, folds_append R a.0 q r xs ys a.2 b)

-- one wait more
pub misses_more : {A : Type 0} (awaited : List (Awaited A)) (one : Awaited A) →
    misses_of (awaited ++ one ∷ []) ≡ misses_of awaited + one.misses
misses_more [] one = omega arith
misses_more (first ∷ others) one = let more = misses_more others one in omega (arith, more)

pub asked_more : {P A : Type 0} (R : P → Bool → P → Type 0) (p q r : P) (awaited : List (Awaited A)) (one : Awaited A) (said : List Bool) →
    FoldsTo R p (keeps_waiting (misses_of awaited)) q → said ≡ keeps_waiting one.misses → FoldsTo R q said r →
    FoldsTo R p (keeps_waiting (misses_of (awaited ++ one ∷ []))) r
asked_more R p q r awaited one said before is asked =
    rw (misses_more awaited one, keeps_sum (misses_of awaited) one.misses)
    (folds_append R p q r (keeps_waiting (misses_of awaited)) (keeps_waiting one.misses) before
    (subst (λ (answers : List Bool). FoldsTo R q answers r) is asked))

-- what comes after some misses comes after fewer than the limit
after_few : {A : Type 0} (M : Language) (H : A → Language) (s : Settings) (awaited : List (Awaited A)) (l : List Access) →
    InOrder (λ (one : Awaited A). After one.misses M (H one.item)) awaited s l →
    InOrder (λ (item : A). Then (FewMisses M) (H item)) (items_of awaited) s l
after_few M H s [] l t = t
after_few M H s (one ∷ others) l t =
    let hit = t.first.1 in
    record {
      front = t.front;
      back = t.back;
      whole = t.whole;
      first = record {
        front = hit.front;
        back = hit.back;
        whole = hit.whole;
        first = (one.misses, t.first.0, hit.first);
        second = hit.second;
      };
      second = after_few M H s others t.back t.second;
    }

-- who keeps waiting each time has not said no
never_no : (n k : ℕ) → keeps_waiting n ≡ keeps_waiting k ++ false ∷ [] → ⊥
never_no zero zero same = absurd (omega (arith, ap length same))
never_no zero (suc k) same = absurd (omega (arith, ap length same))
never_no (suc n) zero same = not_both (same_first same)
never_no (suc n) (suc k) same = never_no n k (same_others same)

-- so a wait of theirs in vain is one that reaches the limit
vain_all : (M : Language) (s : Settings) (n k : ℕ) (last : List Bool) (end : WaitEnd) (l : List Access) →
    keeps_waiting n ≡ keeps_waiting k ++ last → InVain M last end s l → (end ≡ SpinLimit) × AllMisses M s l
vain_all M s n k last SpinLimit l said wait = (refl, wait.1)
vain_all M s n k last Patience l said wait =
    let ends : keeps_waiting n ≡ keeps_waiting (k + wait.0) ++ false ∷ [] =
    said ∙ ap (λ (xs : List Bool). keeps_waiting k ++ xs) wait.2 ∙
    sym (append_assoc (keeps_waiting k) (keeps_waiting wait.0) (false ∷ [])) ∙
    ap (λ (xs : List Bool). xs ++ false ∷ []) (sym (keeps_sum k wait.0)) in
    absurd (never_no n (k + wait.0) ends)

-- what was awaited in turn, and then a wait in vain
begun_all : {A : Type 0} (M : Language) (H : A → Language) (s : Settings) (n : ℕ) (awaited : List (Awaited A)) (last : List Bool)
    (end : WaitEnd) (l : List Access) → keeps_waiting n ≡ keeps_waiting (misses_of awaited) ++ last →
    Then (InOrder (λ (one : Awaited A). After one.misses M (H one.item)) awaited) (InVain M last end) s l →
    (end ≡ SpinLimit) × Then (InOrder (λ (item : A). Then (FewMisses M) (H item)) (items_of awaited)) (AllMisses M) s l
begun_all M H s n awaited last end l said t =
    let vain = vain_all M s n (misses_of awaited) last end t.back said t.second in (
      vain.0,
      record {
        front = t.front;
        back = t.back;
        whole = t.whole;
        first = after_few M H s awaited t.front t.first;
        second = vain.1;
      },
    )

-- the error of such a wait
by_limit : (e : WaitError) → e.ended_by ≡ SpinLimit →
    ◌≡◌ {A = Result (Unit {0}) WaitError} (Err e) (at_limit (Err (record { done = e.done })))
by_limit e same i = Err (record { done = e.done; ended_by = same i })

pub endless_is_exact : IsExactIfEndless
endless_is_exact bytes n (Ok x) s l t = (Ok x, refl, (items_of t.0, t.1, after_few SendMiss Burst s t.0 l t.3))
endless_is_exact bytes n (Err e) s l t =
    let begun = begun_all SendMiss Burst s n t.0 t.1 e.ended_by l t.6 t.7 in
    (Err (record { done = e.done }), by_limit e begun.0, (items_of t.0, t.2, t.3, t.4, t.5, begun.1))

pub endless_receives : ReceivesExactIfEndless
endless_receives n bytes asked (Ok x) s l t =
    let Arrive : List ℕ → Type 0 = λ xs. InOrder (λ (byte : ℕ). Then (FewMisses Miss) (Hit byte)) xs s l in
    (Ok x, refl, (t.2, subst Arrive (sym t.1) (after_few Miss Hit s t.0 l t.4)))
endless_receives n bytes asked (Err e) s l t =
    let Begin : List ℕ → Type 0 = λ xs. Then (InOrder (λ (byte : ℕ). Then (FewMisses Miss) (Hit byte)) xs) (AllMisses Miss) s l in
    let begun = begun_all Miss Hit s asked t.0 t.1 e.ended_by l t.5 t.6 in
    (Err (record { done = e.done }), by_limit e begun.0, (t.3, t.4, subst Begin (sym t.2) begun.1))

pub endless_flushes : FlushesIfEndless
endless_flushes n (Ok x) s l t =
    let hit = t.2.1 in (
      Ok x,
      refl,
      record { front = hit.front; back = hit.back; whole = hit.whole; first = (t.0, t.2.0, hit.first); second = hit.second },
    )
endless_flushes n (Err e) s l t =
    let vain = vain_all (ShowsEmpty false) s n 0 (keeps_waiting n) e.ended_by l refl t.1 in
    (Err (record { done = e.done }), by_limit e vain.0, (t.0, vain.1))

pub ruleset endless = (endless_is_exact, endless_receives, endless_flushes)
