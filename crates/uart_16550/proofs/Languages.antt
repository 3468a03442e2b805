-- Lists of a language, one after another.
use Rattle.std.proofs.Common.{◌≡◌, ◌<◌, ◌≤◌, ◌+◌, ℕ, zero, suc, Bool, true, false, List, [], ◌∷◌, ◌++◌, refl, sym, arith}
use Rattle.std.proofs.Common.{append_assoc}
use Rattle.std.proofs.Common.{append-nil, add-one, length, take, drop, inl, inr, Result, Ok, Err, is_ok, map}
use Rattle.uart_spec.specs.FifoSize.{characters}
use Rattle.uart_spec.specs.declared.access.Access.{Access}
use Rattle.uart_spec.specs.declared.setup.FifoSize.{FifoSize}
use Rattle.uart_spec.specs.declared.setup.FifoSize.TheVariants.{Sixteen}
use Rattle.uart_16550.specs.Grammar.{Language, Settings, Then, InOrder, Times}
use Rattle.uart_16550.specs.Receive.{Receives, Miss}
use Rattle.uart_16550.specs.Transmit.{IsCut, burst_size, burst_limit, Sends, SendMiss, Burst, ReadyToSend}
use Rattle.uart_16550.specs.Io.{AnswersWrite}
use Rattle.uart_spec.specs.declared.errors.ByteSendError.{ByteSendError}

-- items after items
pub in_order_append : {A : Type 0} (P : A → Language) (items more : List A) (s : Settings) (l m : List Access) → InOrder P items s l →
    InOrder P more s m → InOrder P (items ++ more) s (l ++ m)
in_order_append P [] more s l m p q = let none : l ≡ [] = p.is in rw none q
in_order_append P (i ∷ items) more s l m p q = record {
  front = p.front;
  back = p.back ++ m;
  whole = rw p.whole (append_assoc p.front p.back m);
  first = p.first;
  second = in_order_append P items more s p.back m p.second q;
}

-- one more item at the end
pub in_order_more : {A : Type 0} (P : A → Language) (items : List A) (item : A) (s : Settings) (l m : List Access) → InOrder P items s l →
    P item s m → InOrder P (items ++ item ∷ []) s (l ++ m)
in_order_more P items item s l m p q =
    in_order_append P items (item ∷ []) s l m p
    (record { front = m; back = []; whole = sym (append-nil m); first = q; second = record { is = refl } })

-- what comes after two lists comes after the second of them
pub then_later : (P Q R : Language) (s : Settings) (l : List Access) → Then (Then P Q) R s l → Then P (Then Q R) s l
then_later P Q R s l t = record {
  front = t.first.front;
  back = t.first.back ++ t.back;
  whole = rw (t.whole, t.first.whole) (append_assoc t.first.front t.first.back t.back);
  first = t.first.first;
  second = record { front = t.first.back; back = t.back; whole = refl; first = t.first.second; second = t.second };
}

-- one list more
pub times_more : (n : ℕ) (P : Language) (s : Settings) (l m : List Access) → Times n P s l → P s m → Times (n + 1) P s (l ++ m)
times_more zero P s l m p q =
    let none : l ≡ [] = p.is in
    rw none (record { front = m; back = []; whole = sym (append-nil m); first = q; second = record { is = refl } })
times_more (suc n) P s l m p q =
    let rest = times_more n P s p.back m p.second q in
    rw (add-one (suc n)) (record {
      front = p.front;
      back = p.back ++ m;
      whole = rw p.whole (append_assoc p.front p.back m);
      first = p.first;
      second = rw (add-one n) at rest;
    })

-- one piece more
pub cut_more : (s : Settings) (bytes : List ℕ) (pieces : List (List ℕ)) (rest : List ℕ) → IsCut s bytes pieces rest → 0 < length rest →
    IsCut s bytes (pieces ++ take (burst_size s rest) rest ∷ []) (drop (burst_size s rest) rest)
cut_more s bytes [] rest cut some = let same : rest ≡ bytes = cut in rw (← same) (some, refl, refl)
cut_more s bytes (piece ∷ pieces) rest cut some = (cut.0, cut.1, cut_more s (drop (burst_size s bytes) bytes) pieces rest cut.2 some)

-- a FIFO holds 16 characters or more
pub at_least_sixteen : (size : FifoSize) → 16 ≤ characters size
at_least_sixteen Sixteen = omega arith
at_least_sixteen _ = omega arith

-- a burst is of some bytes, and of no more than the FIFO holds
pub some_limit : (fifo : Bool) (size : FifoSize) → 0 < burst_limit fifo size
some_limit true size = omega (arith, at_least_sixteen size)
some_limit false size = omega arith

pub limit_within : (fifo : Bool) (size : FifoSize) → burst_limit fifo size ≤ characters size
limit_within true size = omega arith
limit_within false size = omega (arith, at_least_sixteen size)

-- what was sent, by its count
pub sends_some : (s : Settings) (bytes : List ℕ) (k : ℕ) → 0 < k → (l : List Access) → Sends bytes k s l →
    (k ≡ burst_size s bytes) × Burst (take k bytes) s l
sends_some s bytes k some l (inl t) = absurd (omega (arith, t.1))
sends_some s bytes k some l (inr (inl t)) = absurd (omega (arith, t.1))
sends_some s bytes k some l (inr (inr t)) = (t.1, t.2)

pub sends_none : (s : Settings) (bytes : List ℕ) (k : ℕ) → 0 < length bytes → k ≤ 0 → (l : List Access) → Sends bytes k s l → SendMiss s l
sends_none s bytes k some none l (inl t) = absurd (omega (arith, t.0))
sends_none s bytes k some none l (inr (inl t)) = t.2
sends_none s bytes k some none l (inr (inr t)) =
    absurd (omega (arith, t.1, some_limit s.fifo s.size))

-- what was received, by its count
pub receives_none : (n : ℕ) (bytes : List ℕ) (s : Settings) (l : List Access) → 0 < n → length bytes ≤ 0 → Receives n bytes s l → Miss s l
receives_none n [] s l some none (inl t) = absurd (omega (arith, t.0))
receives_none n [] s l some none (inr t) = let front : t.1.front ≡ [] = t.1.first.is in rw (t.1.whole, front) t.1.second
receives_none n (b ∷ bytes) s l some none t = absurd (omega arith)

-- a writer returns whether a send check succeeds
pub answers_write : {T : Type 0} (result : Result T ByteSendError) (s : Settings) (l : List Access) → ReadyToSend result s l →
    AnswersWrite (Ok (is_ok result)) s l
answers_write (Ok x) s l t = t
answers_write (Err e) s l t = (e, t)
