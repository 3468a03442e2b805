-- The receiving calls are determined.
use Rattle.std.proofs.Common.{◌≡◌, ◌<◌, ℕ, true, false, List, [], ◌∷◌, refl, sym, ◌∙◌}
use Rattle.std.proofs.Common.{ap, arith, inl, inr, Result, Ok, Err, length, bit_and}
use Rattle.uart_spec.specs.declared.errors.StalledError.{StalledError}
use Rattle.uart_spec.specs.declared.errors.ByteReceiveError.{ByteReceiveError}
use Rattle.uart_spec.specs.declared.registers.offsets.TheConstants as offsets
use Rattle.uart_spec.specs.declared.registers.line_status.TheConstants.LSR
use Rattle.uart_spec.specs.declared.access.Access.{Access}
use Rattle.uart_16550.specs.Grammar.{Settings, Only, Then, Asks, InOrder, AllMisses}
use Rattle.uart_spec.specs.declared.access.Access.TheVariants.{Read}
use Rattle.uart_16550.specs.Receive.{Hit, Miss, ReadyToReceive, TryReceive, Receives, Awaited, ReceivesExact}
use Rattle.uart_16550.specs.Receive.{HitWithErrors, TryReceiveWithErrors, ReceivesWithErrors}
use Rattle.uart_spec.specs.declared.received.Received.{Received}
use Rattle.uart_16550.proofs.determined.Parting.{SameOrPart, Determined, so, determined_so, determined_sym, determined_then}
use Rattle.uart_16550.proofs.determined.Parting.{determined_front, read_determined, asks_apart, asks_same, so_is, so_read, so_reads}
use Rattle.uart_16550.proofs.determined.Repeated.{Misses, Items, waits_end, wait_ends, wait_fails, items_all, items_more, items_short}
use Rattle.uart_16550.proofs.determined.Repeated.{alike_any, told}

pub hits_determined : (s : Settings) (a b : ℕ) → Determined (a ≡ b) (Hit a s) (Hit b s)
hits_determined s a b = determined_then (asks_same offsets.LSR LSR.DATA_READY.0 true) (λ x. read_determined offsets.DATA a b)

pub miss_same : (s : Settings) → Determined (Unit {0}) (Miss s) (Miss s)
miss_same s = asks_same offsets.LSR LSR.DATA_READY.0 false

pub miss_hit : (s : Settings) (a : ℕ) → Determined ⊥ (Miss s) (Hit a s)
miss_hit s a = determined_sym (determined_front (asks_apart offsets.LSR LSR.DATA_READY.0))

pub ready_to_receive_determined : (s : Settings) (a b : Result (Unit {0}) ByteReceiveError) →
    Determined (a ≡ b) (ReadyToReceive a s) (ReadyToReceive b s)
ready_to_receive_determined s (Ok x) (Ok y) = determined_so (λ t. refl) (asks_same offsets.LSR LSR.DATA_READY.0 true)
ready_to_receive_determined s (Ok x) (Err d) = determined_so absurd (asks_apart offsets.LSR LSR.DATA_READY.0)
ready_to_receive_determined s (Err d) (Ok y) = determined_sym (asks_apart offsets.LSR LSR.DATA_READY.0)
ready_to_receive_determined s (Err d) (Err f) = determined_so (λ t. refl) (asks_same offsets.LSR LSR.DATA_READY.0 false)

pub ok_same : {E : Type 0} (a b : ℕ) → a ≡ b → ◌≡◌ {A = Result ℕ E} (Ok a) (Ok b)
ok_same {E} a b same = ap (λ (x : ℕ). let r : Result ℕ E = Ok x in r) same

pub try_receive_determined : (s : Settings) (a b : Result ℕ ByteReceiveError) → Determined (a ≡ b) (TryReceive a s) (TryReceive b s)
try_receive_determined s (Ok a) (Ok b) = determined_so (ok_same a b) (hits_determined s a b)
try_receive_determined s (Ok a) (Err d) = determined_sym (miss_hit s a)
try_receive_determined s (Err d) (Ok b) = determined_so absurd (miss_hit s b)
try_receive_determined s (Err d) (Err f) = determined_so (λ t. refl) (miss_same s)

-- bytes that come one after another
hits : (s : Settings) → Items s Hit (λ x y. Unit {0})
hits s = told Hit (hits_determined s)

pub receives_determined : (s : Settings) (n : ℕ) (xs ys : List ℕ) → Determined (xs ≡ ys) (Receives n xs s) (Receives n ys s)
receives_determined s n xs ys = record { at = at }
  where
    more : (xs ys : List ℕ) → length xs < length ys → Determined ⊥ (Then (InOrder Hit xs) Miss s) (InOrder Hit ys s)
    more xs ys few = items_more s Hit Miss (hits s) (miss_hit s) xs ys (alike_any xs ys) few

    at : (l m : List Access) → Receives n xs s l → Receives n ys s m → SameOrPart (xs ≡ ys) l m
    at l m (inl p) (inl q) = (items_all s Hit (hits s) xs ys (alike_any xs ys) (p.0 ∙ sym q.0)).at l m p.1 q.1
    at l m (inl p) (inr q) = (determined_sym (more ys xs (omega (arith, p.0, q.0)))).at l m p.1 q.1
    at l m (inr p) (inl q) = (determined_so absurd (more xs ys (omega (arith, p.0, q.0)))).at l m p.1 q.1
    at l m (inr p) (inr q) = (items_short s Hit Miss (hits s) (miss_hit s) (miss_same s) xs ys (alike_any xs ys)).at l m p.1 q.1

-- bytes with their errors
pub hits_with_determined : (s : Settings) (a b : Received) → Determined (a ≡ b) (HitWithErrors a s) (HitWithErrors b s)
hits_with_determined s a b = record {
  at = λ l m p q. so_is p.3 q.3 (so (λ r.
      let errors = p.2 ∙ ap (λ (n : ℕ). bit_and n LSR.LINE_ERRORS.0) r.0 ∙ sym q.2 in
      λ i. record { byte = r.1 i; errors = record { 0 = errors i } }) (so_read (λ same. so_reads)));
}

-- a look that shows no data, beside one that shows data and what follows it
pub miss_hit_with : (s : Settings) (a : Received) → Determined ⊥ (Miss s) (HitWithErrors a s)
miss_hit_with s a = determined_sym (record {
  at = λ l m p q.
      apart.at l m
      (record {
        front = Read offsets.LSR p.0 ∷ [];
        back = Read offsets.DATA a.byte ∷ [];
        whole = p.3;
        first = record { answer = p.0; shows = p.1; is = refl };
        second = record { is = refl };
      }) q;
})
  where
    apart : Determined ⊥ (Then (Asks offsets.LSR LSR.DATA_READY.0 true) (Only (Read offsets.DATA a.byte ∷ [])) s) (Miss s)
    apart = determined_front (asks_apart offsets.LSR LSR.DATA_READY.0)

ok_received : {E : Type 0} (a b : Received) → a ≡ b → ◌≡◌ {A = Result Received E} (Ok a) (Ok b)
ok_received {E} a b same = ap (λ (x : Received). let r : Result Received E = Ok x in r) same

pub try_receive_with_determined : (s : Settings) (a b : Result Received ByteReceiveError) →
    Determined (a ≡ b) (TryReceiveWithErrors a s) (TryReceiveWithErrors b s)
try_receive_with_determined s (Ok a) (Ok b) = determined_so (ok_received a b) (hits_with_determined s a b)
try_receive_with_determined s (Ok a) (Err d) = determined_sym (miss_hit_with s a)
try_receive_with_determined s (Err d) (Ok b) = determined_so absurd (miss_hit_with s b)
try_receive_with_determined s (Err d) (Err f) = determined_so (λ t. refl) (miss_same s)

hits_with : (s : Settings) → Items s HitWithErrors (λ x y. Unit {0})
hits_with s = record { item = λ x y k. hits_with_determined s x y }

pub receives_with_determined : (s : Settings) (n : ℕ) (xs ys : List Received) →
    Determined (xs ≡ ys) (ReceivesWithErrors n xs s) (ReceivesWithErrors n ys s)
receives_with_determined s n xs ys = record { at = at }
  where
    more : (xs ys : List Received) → length xs < length ys →
        Determined ⊥ (Then (InOrder HitWithErrors xs) Miss s) (InOrder HitWithErrors ys s)
    more xs ys few = items_more s HitWithErrors Miss (hits_with s) (miss_hit_with s) xs ys (alike_any xs ys) few

    at : (l m : List Access) → ReceivesWithErrors n xs s l → ReceivesWithErrors n ys s m → SameOrPart (xs ≡ ys) l m
    at l m (inl p) (inl q) = (items_all s HitWithErrors (hits_with s) xs ys (alike_any xs ys) (p.0 ∙ sym q.0)).at l m p.1 q.1
    at l m (inl p) (inr q) = (determined_sym (more ys xs (omega (arith, p.0, q.0)))).at l m p.1 q.1
    at l m (inr p) (inl q) = (determined_so absurd (more xs ys (omega (arith, p.0, q.0)))).at l m p.1 q.1
    at l m (inr p) (inr q) =
        (items_short s HitWithErrors Miss (hits_with s) (miss_hit_with s) (miss_same s) xs ys (alike_any xs ys)).at l m p.1 q.1

-- a wait for a byte
pub misses : (s : Settings) (a : ℕ) → Misses s Miss (Hit a)
misses s a = record { same = miss_same s; apart = miss_hit s a }

pub awaited_determined : (s : Settings) (a b : ℕ) → Determined (a ≡ b) (Awaited a s) (Awaited b s)
awaited_determined s a b = waits_end s Miss (Hit a) (Hit b) (misses s a) (misses s b) (hits_determined s a b)

pub vain_same : (s : Settings) → Determined (Unit {0}) (AllMisses Miss s) (AllMisses Miss s)
vain_same s = wait_fails s Miss (miss_same s)

pub vain_awaited : (s : Settings) (a : ℕ) → Determined ⊥ (AllMisses Miss s) (Awaited a s)
vain_awaited s a = determined_sym (wait_ends s Miss (Hit a) (misses s a))

-- bytes that are awaited one after another
pub awaiting : (s : Settings) → Items s Awaited (λ x y. Unit {0})
awaiting s = told Awaited (awaited_determined s)

pub awaited_all : (s : Settings) (xs ys : List ℕ) → length xs ≡ length ys →
    Determined (xs ≡ ys) (InOrder Awaited xs s) (InOrder Awaited ys s)
awaited_all s xs ys same = items_all s Awaited (awaiting s) xs ys (alike_any xs ys) same

pub awaited_more : (s : Settings) (xs ys : List ℕ) → length xs < length ys →
    Determined ⊥ (Then (InOrder Awaited xs) (AllMisses Miss) s) (InOrder Awaited ys s)
awaited_more s xs ys few = items_more s Awaited (AllMisses Miss) (awaiting s) (vain_awaited s) xs ys (alike_any xs ys) few

pub awaited_short : (s : Settings) (xs ys : List ℕ) →
    Determined (xs ≡ ys) (Then (InOrder Awaited xs) (AllMisses Miss) s) (Then (InOrder Awaited ys) (AllMisses Miss) s)
awaited_short s xs ys = items_short s Awaited (AllMisses Miss) (awaiting s) (vain_awaited s) (vain_same s) xs ys (alike_any xs ys)

pub stalled : {T : Type 0} (d e : StalledError) → d.done ≡ e.done → ◌≡◌ {A = Result T StalledError} (Err d) (Err e)
stalled {T} d e same i = Err (record { done = same i })

pub receives_exact_determined : (s : Settings) (n : ℕ) (xs ys : List ℕ) (a b : Result (Unit {0}) StalledError) →
    Determined ((xs ≡ ys) × (a ≡ b)) (ReceivesExact n xs a s) (ReceivesExact n ys b s)
receives_exact_determined s n xs ys (Ok x) (Ok y) =
    record { at = λ l m p q. so (λ r. (r, refl)) ((awaited_all s xs ys (p.0 ∙ sym q.0)).at l m p.1 q.1) }
receives_exact_determined s n xs ys (Ok x) (Err d) =
    record { at = λ l m p q. (determined_sym (awaited_more s ys xs (omega (arith, p.0, q.0)))).at l m p.1 q.2 }
receives_exact_determined s n xs ys (Err d) (Ok y) =
    record { at = λ l m p q. so absurd ((awaited_more s xs ys (omega (arith, p.0, q.0))).at l m p.2 q.1) }
receives_exact_determined s n xs ys (Err d) (Err f) = record {
  at = λ l m p q. so (λ r. (r, stalled d f (p.1 ∙ ap length r ∙ sym q.1))) ((awaited_short s xs ys).at l m p.2 q.2);
}
