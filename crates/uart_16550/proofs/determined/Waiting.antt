-- A call whose caller is asked whether to keep waiting is determined by what it reads and by the answers.
use Rattle.std.proofs.Common.{◌≡◌, ◌<◌, ◌≤◌, ◌+◌, ℕ, zero, suc, Bool, true, false, List, [], ◌∷◌, ◌++◌, refl, sym, ◌∙◌, ap, subst, arith}
use Rattle.std.proofs.Common.{Result, Ok, Err, length, append_assoc}
use Rattle.uart_spec.specs.declared.registers.offsets.TheConstants as offsets
use Rattle.uart_spec.specs.declared.registers.line_status.TheConstants.LSR
use Rattle.uart_spec.specs.declared.access.Access.{Access}
use Rattle.uart_16550.specs.Grammar.{Language, Settings, Only, Then, Times, InOrder}
use Rattle.uart_16550.specs.Transmit.{SendMiss, Burst}
use Rattle.uart_16550.specs.Patience.{keeps_waiting, After, InVain, Awaited, items_of, misses_of, SendsWhile, ShowsEmpty, FlushesWhile}
use Rattle.uart_16550.specs.declared.patience.WaitEnd.{WaitEnd}
use Rattle.uart_16550.specs.declared.patience.WaitEnd.TheVariants.{SpinLimit, Patience}
use Rattle.uart_16550.specs.declared.patience.WaitError.{WaitError}
use Rattle.uart_16550.specs.Choice.{AsAnswered}
use Rattle.uart_16550.proofs.Languages.{then_later}
use Rattle.uart_16550.proofs.Waiting.{keeps_sum}
use Rattle.uart_16550.proofs.determined.Parting.{Determined, so, determined_so, determined_sym, determined_then}
use Rattle.uart_16550.proofs.determined.Parting.{determined_among, determined_front, determined_only, determined_none, asks_same, not_both}
use Rattle.uart_16550.proofs.determined.Repeated.{Misses, Items, Alike, times_same, times_all, same_first, same_others, same_items, given}
use Rattle.uart_16550.proofs.determined.Transmit.{shows, refusal_same, refusals, burst_same, cut_alike, cut_all, cut_fewer, cut_rests}

-- the answers of one caller after as many that it gave before
later_same : (n : ℕ) (xs ys : List Bool) → keeps_waiting n ++ xs ≡ keeps_waiting n ++ ys → xs ≡ ys
later_same zero xs ys same = same
later_same (suc n) xs ys same = later_same n xs ys (same_others same)

-- a caller that said no after n answers did not keep waiting for more, and said no once
kept : (n k : ℕ) (xs ys : List Bool) → keeps_waiting n ++ false ∷ xs ≡ keeps_waiting k ++ ys → k ≤ n
kept n zero xs ys same = omega arith
kept zero (suc k) xs ys same = absurd (not_both (sym (same_first same)))
kept (suc n) (suc k) xs ys same = let less = kept n k xs ys (same_others same) in omega (arith, less)

ended_same : (n k : ℕ) (xs ys : List Bool) → keeps_waiting n ++ false ∷ xs ≡ keeps_waiting k ++ false ∷ ys → n ≡ k
ended_same zero zero xs ys same = refl
ended_same zero (suc k) xs ys same = absurd (not_both (sym (same_first same)))
ended_same (suc n) zero xs ys same = absurd (not_both (same_first same))
ended_same (suc n) (suc k) xs ys same = ap (λ (m : ℕ). suc m) (ended_same n k xs ys (same_others same))

-- what a wait in vain was answered, and what the caller would have answered later
said_no : (n : ℕ) (last later : List Bool) → last ≡ keeps_waiting n ++ false ∷ [] → last ++ later ≡ keeps_waiting n ++ false ∷ later
said_no n last later is = ap (λ (xs : List Bool). xs ++ later) is ∙ append_assoc (keeps_waiting n) (false ∷ []) later

-- the answers after a first wait
after_first : (n k : ℕ) (last later : List Bool) →
    (keeps_waiting (n + k) ++ last) ++ later ≡ keeps_waiting n ++ ((keeps_waiting k ++ last) ++ later)
after_first n k last later =
    ap (λ (xs : List Bool). (xs ++ last) ++ later) (keeps_sum n k) ∙
    ap (λ (xs : List Bool). xs ++ later) (append_assoc (keeps_waiting n) (keeps_waiting k) last) ∙
    append_assoc (keeps_waiting n) (keeps_waiting k ++ last) later

after_one : (n k : ℕ) (later : List Bool) → keeps_waiting (n + k) ++ later ≡ keeps_waiting n ++ (keeps_waiting k ++ later)
after_one n k later =
    ap (λ (xs : List Bool). xs ++ later) (keeps_sum n k) ∙ append_assoc (keeps_waiting n) (keeps_waiting k) later

rest_same : (n k : ℕ) (xs ys : List Bool) → n ≡ k → keeps_waiting n ++ xs ≡ keeps_waiting k ++ ys → xs ≡ ys
rest_same n k xs ys same alike =
    later_same k xs ys (let K : ℕ → Type 0 = λ m. keeps_waiting m ++ xs ≡ keeps_waiting k ++ ys in subst K same alike)

-- misses and then a hit, twice: as many misses
times_count : {C : Type 0} (s : Settings) (M H H' : Language) → Misses s M H → Misses s M H' → Determined C (H s) (H' s) → (n k : ℕ) →
    Determined ((n ≡ k) × C) (Then (Times n M) H s) (Then (Times k M) H' s)
times_count s M H H' miss miss' hit zero zero =
    determined_then (determined_only refl) (λ x. determined_so (λ c. (refl, c)) hit)
times_count s M H H' miss miss' hit zero (suc k) = determined_none (determined_sym (determined_front (determined_front miss.apart)))
times_count s M H H' miss miss' hit (suc n) zero =
    determined_front (determined_front (determined_sym (determined_none (determined_sym miss'.apart))))
times_count s M H H' miss miss' hit (suc n) (suc k) =
    determined_among (determined_then {P = M} {P' = M} {Q = Then (Times n M) H} {Q' = Then (Times k M) H'} miss.same
    (λ x. determined_so (λ r. (ap (λ (m : ℕ). suc m) r.0, r.1)) (times_count s M H H' miss miss' hit n k)))
    (then_later M (Times n M) H s) (then_later M (Times k M) H' s)

-- two waits in vain
vain_same : (s : Settings) (M : Language) → Determined (Unit {0}) (M s) (M s) → (last last' later later' : List Bool) →
    (end end' : WaitEnd) → last ++ later ≡ last' ++ later' → Determined (end ≡ end') (InVain M last end s) (InVain M last' end' s)
vain_same s M miss last last' later later' SpinLimit SpinLimit same = record {
  at = λ l m p q. so (λ r. refl) ((times_same s M miss s.limit).at l m p.1 q.1);
}
vain_same s M miss last last' later later' SpinLimit Patience same = record {
  at = λ l m p q.
      let fewer = kept q.0 s.limit later' later
      (sym (said_no q.0 last' later' q.2) ∙ sym same ∙ ap (λ (xs : List Bool). xs ++ later) p.0) in
      absurd (omega (arith, fewer, q.1));
}
vain_same s M miss last last' later later' Patience SpinLimit same = record {
  at = λ l m p q.
      let fewer = kept p.0 s.limit later later'
      (sym (said_no p.0 last later p.2) ∙ same ∙ ap (λ (xs : List Bool). xs ++ later') q.0) in
      absurd (omega (arith, fewer, p.1));
}
vain_same s M miss last last' later later' Patience Patience same = record {
  at = λ l m p q.
      let as_many = ended_same p.0 q.0 later later' (sym (said_no p.0 last later p.2) ∙ same ∙ said_no q.0 last' later' q.2) in
      let T : ℕ → Type 0 = λ n. Times (n + 1) M s l in
      so (λ r. refl) ((times_same s M miss (q.0 + 1)).at l m (subst T as_many p.3) q.3);
}

-- a wait in vain, and one that ends
vain_after : (s : Settings) (M H : Language) → Misses s M H → (last later : List Bool) (end : WaitEnd) (n : ℕ) (ys : List Bool) →
    last ++ later ≡ keeps_waiting n ++ ys → Determined ⊥ (InVain M last end s) (After n M H s)
vain_after s M H miss last later SpinLimit n ys same = record {
  at = λ l m p q. (determined_sym (times_all s M H miss n s.limit q.0)).at l m p.1 q.1;
}
vain_after s M H miss last later Patience n ys same = record {
  at = λ l m p q.
      let fewer = kept p.0 n later ys (sym (said_no p.0 last later p.2) ∙ same) in
      (determined_sym (times_all s M H miss n (p.0 + 1) (omega (arith, fewer)))).at l m p.3 q.1;
}

-- the errors of two waits
pub ended : {T : Type 0} (d e : WaitError) → d.done ≡ e.done → d.ended_by ≡ e.ended_by → ◌≡◌ {A = Result T WaitError} (Err d) (Err e)
ended {T} d e same by i = Err (record { done = same i; ended_by = by i })

-- what is waited for: its misses part from each item, and its items are determined if they are related
pub record Waits {A : Type 0} (s : Settings) (M : Language) (H : A → Language) (K : A → A → Type 0) : Type 0 where
  pub miss : (x : A) → Misses s M (H x)
  pub vain : Determined (Unit {0}) (M s) (M s)
  pub items : Items s H K

-- an item after its misses
abbrev pub Each : {A : Type 0} → Language → (A → Language) → Awaited A → Language
Each M H one = After one.misses M (H one.item)

-- two waits that end
each_same : {A : Type 0} {K : A → A → Type 0} (s : Settings) (M : Language) (H : A → Language) → Waits s M H K → (w v : Awaited A) →
    K w.item v.item → Determined ((w.misses ≡ v.misses) × (w.item ≡ v.item)) (Each M H w s) (Each M H v s)
each_same s M H waits w v k = record {
  at = λ l m p q.
      (times_count s M (H w.item) (H v.item) (waits.miss w.item) (waits.miss v.item) (waits.items.item w.item v.item k)
      w.misses v.misses).at l m p.1 q.1;
}

-- as many items
pub each_all : {A : Type 0} {K : A → A → Type 0} (s : Settings) (M : Language) (H : A → Language) → Waits s M H K →
    (ws vs : List (Awaited A)) → Alike K (items_of ws) (items_of vs) → length (items_of ws) ≡ length (items_of vs) →
    Determined (items_of ws ≡ items_of vs) (InOrder (Each M H) ws s) (InOrder (Each M H) vs s)
each_all s M H waits [] [] k same = determined_so (λ x. refl) (determined_only refl)
each_all s M H waits [] (v ∷ vs) k same = absurd (omega (arith, same))
each_all s M H waits (w ∷ ws) [] k same = absurd (omega (arith, same))
each_all s M H waits (w ∷ ws) (v ∷ vs) k same =
    determined_then (each_same s M H waits w v k.0)
    (λ e. determined_so (λ r. same_items w.item v.item (items_of ws) (items_of vs) e.1 r)
    (each_all s M H waits ws vs k.1 (omega (arith, same))))

-- fewer items and a wait in vain, and all
pub each_more : {A : Type 0} {K : A → A → Type 0} (s : Settings) (M : Language) (H : A → Language) → Waits s M H K →
    (ws vs : List (Awaited A)) (last later later' : List Bool) (end : WaitEnd) → Alike K (items_of ws) (items_of vs) →
    length (items_of ws) < length (items_of vs) →
    (keeps_waiting (misses_of ws) ++ last) ++ later ≡ keeps_waiting (misses_of vs) ++ later' →
    Determined ⊥ (Then (InOrder (Each M H) ws) (InVain M last end) s) (InOrder (Each M H) vs s)
each_more s M H waits ws [] last later later' end k few same = absurd (omega (arith, few))
each_more s M H waits [] (v ∷ vs) last later later' end k few same =
    determined_none (determined_sym (determined_front (determined_sym
    (vain_after s M (H v.item) (waits.miss v.item) last later end v.misses _ (same ∙ after_one v.misses (misses_of vs) later')))))
each_more s M H waits (w ∷ ws) (v ∷ vs) last later later' end k few same =
    determined_among
    (determined_then {P = Each M H w} {P' = Each M H v} {Q = Then (InOrder (Each M H) ws) (InVain M last end)}
    {Q' = InOrder (Each M H) vs}
    (each_same s M H waits w v k.0)
    (λ e. each_more s M H waits ws vs last later later' end k.1 (omega (arith, few))
    (rest_same w.misses v.misses _ _ e.0
    (sym (after_first w.misses (misses_of ws) last later) ∙ same ∙ after_one v.misses (misses_of vs) later'))))
    (then_later (Each M H w) (InOrder (Each M H) ws) (InVain M last end) s) (λ l t. t)

-- items and a wait in vain, on both sides
pub each_short : {A : Type 0} {K : A → A → Type 0} (s : Settings) (M : Language) (H : A → Language) → Waits s M H K →
    (ws vs : List (Awaited A)) (last last' later later' : List Bool) (end end' : WaitEnd) → Alike K (items_of ws) (items_of vs) →
    (keeps_waiting (misses_of ws) ++ last) ++ later ≡ (keeps_waiting (misses_of vs) ++ last') ++ later' →
    Determined ((items_of ws ≡ items_of vs) × (end ≡ end')) (Then (InOrder (Each M H) ws) (InVain M last end) s)
    (Then (InOrder (Each M H) vs) (InVain M last' end') s)
each_short s M H waits [] [] last last' later later' end end' k same =
    determined_so (λ by. (refl, by))
    (determined_then {P = Only []} {P' = Only []} (determined_only refl)
    (λ x. vain_same s M waits.vain last last' later later' end end' same))
each_short s M H waits [] (v ∷ vs) last last' later later' end end' k same =
    determined_none (determined_sym (determined_front (determined_front {P = Each M H v} {Q = InOrder (Each M H) vs}
    (determined_sym (vain_after s M (H v.item) (waits.miss v.item) last later end v.misses _
    (same ∙ after_first v.misses (misses_of vs) last' later'))))))
each_short s M H waits (w ∷ ws) [] last last' later later' end end' k same =
    determined_front (determined_front {P = Each M H w} {Q = InOrder (Each M H) ws} (determined_sym
    (determined_none (vain_after s M (H w.item) (waits.miss w.item) last' later' end' w.misses _
    (sym same ∙ after_first w.misses (misses_of ws) last later)))))
each_short s M H waits (w ∷ ws) (v ∷ vs) last last' later later' end end' k same =
    determined_among
    (determined_then {P = Each M H w} {P' = Each M H v} {Q = Then (InOrder (Each M H) ws) (InVain M last end)}
    {Q' = Then (InOrder (Each M H) vs) (InVain M last' end')} (each_same s M H waits w v k.0)
    (λ e. determined_so (λ r. (same_items w.item v.item (items_of ws) (items_of vs) e.1 r.0, r.1))
    (each_short s M H waits ws vs last last' later later' end end' k.1
    (rest_same w.misses v.misses _ _ e.0
    (sym (after_first w.misses (misses_of ws) last later) ∙ same ∙ after_first v.misses (misses_of vs) last' later')))))
    (then_later (Each M H w) (InOrder (Each M H) ws) (InVain M last end) s)
    (then_later (Each M H v) (InOrder (Each M H) vs) (InVain M last' end') s)

-- the streams of answers that two calls were given, which are one
pub one_stream : {stream said told as_said as_told : List Bool} (later later' : List Bool) → stream ≡ said ++ later →
    stream ≡ told ++ later' → said ≡ as_said → told ≡ as_told → as_said ++ later ≡ as_told ++ later'
one_stream later later' front front' is is' =
    sym (front ∙ ap (λ (xs : List Bool). xs ++ later) is) ∙ front' ∙ ap (λ (xs : List Bool). xs ++ later') is'

-- sending: the bursts are given, as they are cut from the bytes
bursts : (s : Settings) → Waits s SendMiss Burst (λ x y. x ≡ y)
bursts s = record { miss = refusals s; vain = refusal_same s; items = given Burst (burst_same s) }

stalls_sent : (s : Settings) (bytes : List ℕ) (stream : List Bool) (d : WaitError) →
    Determined ⊥ (AsAnswered stream (λ said. SendsWhile {T = Unit {0}} bytes said (Err d)) s)
    (AsAnswered stream (λ said. SendsWhile {T = Unit {0}} bytes said (Ok tt)) s)
stalls_sent s bytes stream d = record {
  at = λ l m p q.
      let a = p.3 in
      let b = q.3 in
      (each_more s SendMiss Burst (bursts s) a.0 b.0 a.1 p.1 q.1 d.ended_by
      (cut_alike s bytes (items_of a.0) (items_of b.0) a.2 [] a.3 b.1)
      (cut_fewer s bytes (items_of a.0) (items_of b.0) a.2 a.4 a.3 b.1)
      (one_stream p.1 q.1 p.2 q.2 a.6 b.2)).at l m a.7 b.3;
}

pub as_answered_determined : (s : Settings) (bytes : List ℕ) (stream : List Bool) (a b : Result (Unit {0}) WaitError) →
    Determined (a ≡ b) (AsAnswered stream (λ said. SendsWhile bytes said a) s) (AsAnswered stream (λ said. SendsWhile bytes said b) s)
as_answered_determined s bytes stream (Ok x) (Ok y) = record {
  at = λ l m p q.
      let a = p.3 in
      let b = q.3 in
      so (λ t. refl)
      ((each_all s SendMiss Burst (bursts s) a.0 b.0 (cut_alike s bytes (items_of a.0) (items_of b.0) [] [] a.1 b.1)
      (cut_all s bytes (items_of a.0) (items_of b.0) a.1 b.1)).at l m a.3 b.3);
}
as_answered_determined s bytes stream (Ok x) (Err d) = determined_sym (stalls_sent s bytes stream d)
as_answered_determined s bytes stream (Err d) (Ok y) = determined_so absurd (stalls_sent s bytes stream d)
as_answered_determined s bytes stream (Err d) (Err f) = record {
  at = λ l m p q.
      let a = p.3 in
      let b = q.3 in
      so
      (λ r. let rest = ap length (cut_rests s bytes (items_of a.0) (items_of b.0) a.2 b.2 r.0 a.3 b.3) in
      ended d f (omega (arith, a.5, b.5, rest)) r.1)
      ((each_short s SendMiss Burst (bursts s) a.0 b.0 a.1 b.1 p.1 q.1 d.ended_by f.ended_by
      (cut_alike s bytes (items_of a.0) (items_of b.0) a.2 b.2 a.3 b.3)
      (one_stream p.1 q.1 p.2 q.2 a.6 b.6)).at l m a.7 b.7);
}

-- a wait for an empty transmitter
busy : (s : Settings) → Misses s (ShowsEmpty false) (ShowsEmpty true)
busy s = shows s LSR.TRANSMITTER_EMPTY.0

while_stalls : (s : Settings) (stream : List Bool) (d : WaitError) →
    Determined ⊥ (AsAnswered stream (λ said. FlushesWhile {T = Unit {0}} said (Err d)) s)
    (AsAnswered stream (λ said. FlushesWhile {T = Unit {0}} said (Ok tt)) s)
while_stalls s stream d = record {
  at = λ l m p q.
      (vain_after s (ShowsEmpty false) (ShowsEmpty true) (busy s) p.0 p.1 d.ended_by q.3.0 q.1
      (one_stream p.1 q.1 p.2 q.2 refl q.3.1)).at l m p.3.1 q.3.2;
}

pub flushes_while_determined : (s : Settings) (stream : List Bool) (a b : Result (Unit {0}) WaitError) →
    Determined (a ≡ b) (AsAnswered stream (λ said. FlushesWhile said a) s) (AsAnswered stream (λ said. FlushesWhile said b) s)
flushes_while_determined s stream (Ok x) (Ok y) = record {
  at = λ l m p q.
      so (λ r. refl)
      ((times_count s (ShowsEmpty false) (ShowsEmpty true) (ShowsEmpty true) (busy s) (busy s)
      (asks_same offsets.LSR LSR.TRANSMITTER_EMPTY.0 true) p.3.0 q.3.0).at l m p.3.2.1 q.3.2.1);
}
flushes_while_determined s stream (Ok x) (Err d) = determined_sym (while_stalls s stream d)
flushes_while_determined s stream (Err d) (Ok y) = determined_so absurd (while_stalls s stream d)
flushes_while_determined s stream (Err d) (Err f) = record {
  at = λ l m p q.
      so (λ by. ended d f (p.3.0 ∙ sym q.3.0) by)
      ((vain_same s (ShowsEmpty false) (busy s).same p.0 q.0 p.1 q.1 d.ended_by f.ended_by
      (one_stream p.1 q.1 p.2 q.2 refl refl)).at l m p.3.1 q.3.1);
}
