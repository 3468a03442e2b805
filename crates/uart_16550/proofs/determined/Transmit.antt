-- The sending calls are determined.
use Rattle.std.proofs.Common.{◌≡◌, ◌<◌, ℕ, suc, Bool, true, false, List, [], ◌∷◌, refl, sym, ◌∙◌, ap, subst, arith, inl, inr, Result, Ok}
use Rattle.std.proofs.Common.{Err, Option, Some, None, length, take, drop, min, ◌⊎◌}
use Rattle.uart_spec.specs.declared.errors.StalledError.{StalledError}
use Rattle.uart_spec.specs.declared.errors.ByteSendError.{ByteSendError}
use Rattle.uart_spec.specs.declared.errors.ByteSendError.TheVariants.{NoCapacity, RemoteNotClearToSend}
use Rattle.uart_spec.specs.declared.registers.offsets.TheConstants as offsets
use Rattle.uart_spec.specs.declared.registers.line_status.TheConstants.LSR
use Rattle.uart_spec.specs.declared.registers.modem_control.TheConstants.MCR
use Rattle.uart_spec.specs.declared.registers.modem_status.TheConstants.MSR
use Rattle.uart_spec.specs.declared.access.Access.{Access}
use Rattle.uart_16550.specs.Grammar.{Settings, Then, AllMisses, Asks, Never}
use Rattle.uart_16550.specs.Transmit.{LinesAllow, SendHit, SendRefused, SendMiss, ReadyToSend, Burst, Round, Sends, TrySends, burst_size}
use Rattle.uart_16550.specs.Transmit.{burst_limit}
use Rattle.uart_16550.specs.Transmit.{IsCut, SendsAll, SendsExact, SendsSome, WaitsFor}
use Rattle.uart_16550.specs.Bursts.{SendsBurst}
use Rattle.uart_spec.specs.declared.setup.FifoSize.{FifoSize}
use Rattle.uart_16550.proofs.determined.Parting.{SameOrPart, Determined, so, determined_so, determined_sym, determined_then}
use Rattle.uart_16550.proofs.determined.Parting.{determined_front, determined_only, determined_never, determined_checks, determined_if}
use Rattle.uart_16550.proofs.determined.Parting.{asks_determined, asks_apart, asks_same, not_both}
use Rattle.uart_16550.proofs.determined.Repeated.{Misses, Items, waits_end, wait_ends, wait_fails, items_all, items_more, items_short}
use Rattle.uart_16550.proofs.determined.Repeated.{Alike, given}
use Rattle.uart_16550.proofs.determined.Receive.{stalled}

-- a wait for bits of LSR
pub shows : (s : Settings) (bits : ℕ) → Misses s (Asks offsets.LSR bits false) (Asks offsets.LSR bits true)
shows s bits = record { same = asks_same offsets.LSR bits false; apart = determined_sym (asks_apart offsets.LSR bits) }

pub waits_determined : (s : Settings) (bits : ℕ) (a b : Bool) → Determined (a ≡ b) (WaitsFor bits a s) (WaitsFor bits b s)
waits_determined s bits true true =
    waits_end s (Asks offsets.LSR bits false) (Asks offsets.LSR bits true) (Asks offsets.LSR bits true) (shows s bits) (shows s bits)
    (asks_determined offsets.LSR bits true true)
waits_determined s bits true false =
    determined_so absurd (wait_ends s (Asks offsets.LSR bits false) (Asks offsets.LSR bits true) (shows s bits))
waits_determined s bits false true = determined_sym (wait_ends s (Asks offsets.LSR bits false) (Asks offsets.LSR bits true) (shows s bits))
waits_determined s bits false false =
    determined_so (λ x. refl) (wait_fails s (Asks offsets.LSR bits false) (asks_same offsets.LSR bits false))

-- the send check
lines_determined : (s : Settings) (a b : Bool) → Determined (a ≡ b) (LinesAllow a s) (LinesAllow b s)
lines_determined s a b = record { at = at }
  where
    apart : (c : Bool) →
        Determined ⊥ (Then (Asks offsets.MCR MCR.LOOP_BACK.0 false) (Asks offsets.MSR MSR.CTS.0 c) s)
        (Asks offsets.MCR MCR.LOOP_BACK.0 true s)
    apart c = determined_front (determined_sym (asks_apart offsets.MCR MCR.LOOP_BACK.0))

    at : (l m : List Access) → LinesAllow a s l → LinesAllow b s m → SameOrPart (a ≡ b) l m
    at l m (inl p) (inl q) = so (λ t. p.0 ∙ sym q.0) ((asks_same offsets.MCR MCR.LOOP_BACK.0 true).at l m p.1 q.1)
    at l m (inl p) (inr q) = (determined_sym (apart b)).at l m p.1 q
    at l m (inr p) (inl q) = (determined_so absurd (apart a)).at l m p q.1
    at l m (inr p) (inr q) =
        (determined_then {s = s} (asks_same offsets.MCR MCR.LOOP_BACK.0 false) (λ x. asks_determined offsets.MSR MSR.CTS.0 a b)).at l m p q

checked_determined : (s : Settings) (a b : Bool) →
    Determined (a ≡ b) (Then (Asks offsets.LSR LSR.THR_EMPTY.0 true) (LinesAllow a) s)
    (Then (Asks offsets.LSR LSR.THR_EMPTY.0 true) (LinesAllow b) s)
checked_determined s a b = determined_then (asks_same offsets.LSR LSR.THR_EMPTY.0 true) (λ x. lines_determined s a b)

pub hit_same : (s : Settings) → Determined (Unit {0}) (SendHit s) (SendHit s)
hit_same s =
    determined_checks s (Then (Asks offsets.LSR LSR.THR_EMPTY.0 true) (LinesAllow true))
    (Then (Asks offsets.LSR LSR.THR_EMPTY.0 true) (LinesAllow true)) (Asks offsets.LSR LSR.THR_EMPTY.0 true)
    (Asks offsets.LSR LSR.THR_EMPTY.0 true)
    (determined_so (λ x. tt) (checked_determined s true true)) (asks_same offsets.LSR LSR.THR_EMPTY.0 true)

-- a full transmitter, and a remote that is not clear to send
unclear_full : (s : Settings) → Determined ⊥ (SendRefused RemoteNotClearToSend s) (SendRefused NoCapacity s)
unclear_full s = determined_if s.checks (determined_front (asks_apart offsets.LSR LSR.THR_EMPTY.0)) (determined_never s)

refused_determined : (s : Settings) (a b : ByteSendError) → Determined (a ≡ b) (SendRefused a s) (SendRefused b s)
refused_determined s NoCapacity NoCapacity = determined_so (λ x. refl) (asks_same offsets.LSR LSR.THR_EMPTY.0 false)
refused_determined s NoCapacity RemoteNotClearToSend = determined_sym (unclear_full s)
refused_determined s RemoteNotClearToSend NoCapacity = determined_so absurd (unclear_full s)
refused_determined s RemoteNotClearToSend RemoteNotClearToSend =
    determined_checks s (Then (Asks offsets.LSR LSR.THR_EMPTY.0 true) (LinesAllow false))
    (Then (Asks offsets.LSR LSR.THR_EMPTY.0 true) (LinesAllow false)) Never Never
    (determined_so (λ x. refl) (checked_determined s false false)) (determined_never s)

hit_refused : (s : Settings) (a : ByteSendError) → Determined ⊥ (SendHit s) (SendRefused a s)
hit_refused s NoCapacity =
    determined_if s.checks (determined_front (asks_apart offsets.LSR LSR.THR_EMPTY.0)) (asks_apart offsets.LSR LSR.THR_EMPTY.0)
hit_refused s RemoteNotClearToSend =
    determined_checks s (Then (Asks offsets.LSR LSR.THR_EMPTY.0 true) (LinesAllow true))
    (Then (Asks offsets.LSR LSR.THR_EMPTY.0 true) (LinesAllow false)) (Asks offsets.LSR LSR.THR_EMPTY.0 true) Never
    (determined_so not_both (checked_determined s true false)) (determined_sym (determined_never s))

pub ready_to_send_determined : (s : Settings) (a b : Result (Unit {0}) ByteSendError) →
    Determined (a ≡ b) (ReadyToSend a s) (ReadyToSend b s)
ready_to_send_determined s (Ok x) (Ok y) = determined_so (λ t. refl) (hit_same s)
ready_to_send_determined s (Ok x) (Err d) = determined_so absurd (hit_refused s d)
ready_to_send_determined s (Err d) (Ok y) = determined_sym (hit_refused s d)
ready_to_send_determined s (Err d) (Err e) =
    determined_so (λ same. ap (λ (x : ByteSendError). let r : Result (Unit {0}) ByteSendError = Err x in r) same) (refused_determined s d e)

pub refusal_same : (s : Settings) → Determined (Unit {0}) (SendMiss s) (SendMiss s)
refusal_same s = record { at = λ l m p q. so (λ t. tt) ((refused_determined s p.0 q.0).at l m p.1 q.1) }

pub refusal_hit : (s : Settings) → Determined ⊥ (SendMiss s) (SendHit s)
refusal_hit s = record { at = λ l m p q. (determined_sym (hit_refused s p.0)).at l m p.1 q }

-- one burst
pub burst_same : (s : Settings) (xs : List ℕ) → Determined (Unit {0}) (Burst xs s) (Burst xs s)
burst_same s xs = determined_then (hit_same s) (λ x. determined_only refl)

refusal_burst : (s : Settings) (xs : List ℕ) → Determined ⊥ (SendMiss s) (Burst xs s)
refusal_burst s xs = determined_sym (determined_front (determined_sym (refusal_hit s)))

-- a burst of one size
burst_of : (s : Settings) (bytes : List ℕ) (k n : ℕ) (l : List Access) → k ≡ n → Burst (take k bytes) s l → Burst (take n bytes) s l
burst_of s bytes k n l same t = let B : ℕ → Type 0 = λ x. Burst (take x bytes) s l in subst B same t

-- nothing if there are no bytes; else a check that fails, or one burst of n bytes
abbrev Fronts : (n : ℕ) → List ℕ → ℕ → Settings → List Access → Type 0
Fronts n bytes k s l =
    ((length bytes ≡ 0) × (k ≡ 0) × (l ≡ []))
    ⊎ ((0 < length bytes) × (k ≡ 0) × SendMiss s l)
    ⊎ ((0 < length bytes) × (k ≡ n) × Burst (take k bytes) s l)

fronts_determined : (s : Settings) (n : ℕ) (bytes : List ℕ) (j k : ℕ) → Determined (j ≡ k) (Fronts n bytes j s) (Fronts n bytes k s)
fronts_determined s n bytes j k = record { at = at }
  where
    at : (l m : List Access) → Fronts n bytes j s l → Fronts n bytes k s m → SameOrPart (j ≡ k) l m
    at l m (inl p) (inl q) = inl (p.1 ∙ sym q.1, p.2 ∙ sym q.2)
    at l m (inl p) (inr (inl q)) = absurd (omega (arith, p.0, q.0))
    at l m (inl p) (inr (inr q)) = absurd (omega (arith, p.0, q.0))
    at l m (inr (inl p)) (inl q) = absurd (omega (arith, p.0, q.0))
    at l m (inr (inr p)) (inl q) = absurd (omega (arith, p.0, q.0))
    at l m (inr (inl p)) (inr (inl q)) = so (λ t. p.1 ∙ sym q.1) ((refusal_same s).at l m p.2 q.2)
    at l m (inr (inl p)) (inr (inr q)) = so absurd ((refusal_burst s (take k bytes)).at l m p.2 q.2)
    at l m (inr (inr p)) (inr (inl q)) = (determined_sym (refusal_burst s (take j bytes))).at l m p.2 q.2
    at l m (inr (inr p)) (inr (inr q)) =
        so (λ t. p.1 ∙ sym q.1) ((burst_same s (take n bytes)).at l m (burst_of s bytes j n l p.1 p.2) (burst_of s bytes k n m q.1 q.2))

pub sends_determined : (s : Settings) (bytes : List ℕ) (j k : ℕ) → Determined (j ≡ k) (Sends bytes j s) (Sends bytes k s)
sends_determined s bytes j k = fronts_determined s (burst_size s bytes) bytes j k

pub sends_burst_determined : (s : Settings) (size : FifoSize) (bytes : List ℕ) (j k : ℕ) →
    Determined (j ≡ k) (SendsBurst size bytes j s) (SendsBurst size bytes k s)
sends_burst_determined s size bytes j k = fronts_determined s (min (length bytes) (burst_limit s.fifo size)) bytes j k

pub try_send_determined : (s : Settings) (byte : ℕ) (a b : Result (Unit {0}) ByteSendError) →
    Determined (a ≡ b) (TrySends byte a s) (TrySends byte b s)
try_send_determined s byte (Ok x) (Ok y) = determined_so (λ t. refl) (sends_determined s (byte ∷ []) 1 1)
try_send_determined s byte (Ok x) (Err NoCapacity) = determined_so (λ t. absurd (omega (arith, t))) (sends_determined s (byte ∷ []) 1 0)
try_send_determined s byte (Err NoCapacity) (Ok y) = determined_so (λ t. absurd (omega (arith, t))) (sends_determined s (byte ∷ []) 0 1)
try_send_determined s byte (Err NoCapacity) (Err NoCapacity) = determined_so (λ t. refl) (sends_determined s (byte ∷ []) 0 0)
try_send_determined s byte (Err RemoteNotClearToSend) b = determined_never s
try_send_determined s byte (Ok x) (Err RemoteNotClearToSend) = record { at = λ l m p q. absurd q }
try_send_determined s byte (Err NoCapacity) (Err RemoteNotClearToSend) = record { at = λ l m p q. absurd q }

-- a wait for one burst
pub refusals : (s : Settings) (xs : List ℕ) → Misses s SendMiss (Burst xs)
refusals s xs = record { same = refusal_same s; apart = refusal_burst s xs }

pub round_same : (s : Settings) (xs : List ℕ) → Determined (Unit {0}) (Round xs s) (Round xs s)
round_same s xs = waits_end s SendMiss (Burst xs) (Burst xs) (refusals s xs) (refusals s xs) (burst_same s xs)

pub vain_round : (s : Settings) (xs : List ℕ) → Determined ⊥ (AllMisses SendMiss s) (Round xs s)
vain_round s xs = determined_sym (wait_ends s SendMiss (Burst xs) (refusals s xs))

pub unsent_same : (s : Settings) → Determined (Unit {0}) (AllMisses SendMiss s) (AllMisses SendMiss s)
unsent_same s = wait_fails s SendMiss (refusal_same s)

round_of : (s : Settings) (bytes : List ℕ) (k n : ℕ) (l : List Access) → k ≡ n → Round (take k bytes) s l → Round (take n bytes) s l
round_of s bytes k n l same t = let B : ℕ → Type 0 = λ x. Round (take x bytes) s l in subst B same t

pub sends_some_determined : (s : Settings) (bytes : List ℕ) (a b : Option ℕ) →
    Determined (a ≡ b) (SendsSome bytes a s) (SendsSome bytes b s)
sends_some_determined s bytes (Some j) (Some k) = record {
  at = λ l m p q.
      let n = burst_size s bytes in
      so (λ t. ap (λ (x : ℕ). Some x) (p.0 ∙ sym q.0))
      ((round_same s (take n bytes)).at l m (round_of s bytes j n l p.0 p.1) (round_of s bytes k n m q.0 q.1));
}
sends_some_determined s bytes (Some j) None = record { at = λ l m p q. (determined_sym (vain_round s (take j bytes))).at l m p.1 q }
sends_some_determined s bytes None (Some k) = record { at = λ l m p q. so absurd ((vain_round s (take k bytes)).at l m p q.1) }
sends_some_determined s bytes None None = determined_so (λ x. refl) (unsent_same s)

-- pieces cut from one list
pub cut_alike : (s : Settings) (bytes : List ℕ) (ps qs : List (List ℕ)) (r t : List ℕ) → IsCut s bytes ps r → IsCut s bytes qs t →
    Alike (λ (x y : List ℕ). x ≡ y) ps qs
cut_alike s bytes [] qs r t c d = tt
cut_alike s bytes (p ∷ ps) [] r t c d = tt
cut_alike s bytes (p ∷ ps) (q ∷ qs) r t c d = (c.1 ∙ sym d.1, cut_alike s (drop (burst_size s bytes) bytes) ps qs r t c.2 d.2)

pub cut_all : (s : Settings) (bytes : List ℕ) (ps qs : List (List ℕ)) → IsCut s bytes ps [] → IsCut s bytes qs [] → length ps ≡ length qs
cut_all s bytes [] [] c d = refl
cut_all s bytes [] (q ∷ qs) c d = absurd (omega (arith, d.0, ap length c))
cut_all s bytes (p ∷ ps) [] c d = absurd (omega (arith, c.0, ap length d))
cut_all s bytes (p ∷ ps) (q ∷ qs) c d = ap (λ (n : ℕ). suc n) (cut_all s (drop (burst_size s bytes) bytes) ps qs c.2 d.2)

pub cut_fewer : (s : Settings) (bytes : List ℕ) (ps qs : List (List ℕ)) (r : List ℕ) → 0 < length r → IsCut s bytes ps r →
    IsCut s bytes qs [] →
    length ps < length qs
cut_fewer s bytes [] [] r some c d = absurd (omega (arith, some, ap length c, ap length d))
cut_fewer s bytes [] (q ∷ qs) r some c d = omega arith
cut_fewer s bytes (p ∷ ps) [] r some c d = absurd (omega (arith, c.0, ap length d))
cut_fewer s bytes (p ∷ ps) (q ∷ qs) r some c d =
    let few = cut_fewer s (drop (burst_size s bytes) bytes) ps qs r some c.2 d.2 in omega (arith, few)

cut_rest : (s : Settings) (bytes : List ℕ) (ps : List (List ℕ)) (r t : List ℕ) → IsCut s bytes ps r → IsCut s bytes ps t → r ≡ t
cut_rest s bytes [] r t c d = c ∙ sym d
cut_rest s bytes (p ∷ ps) r t c d = cut_rest s (drop (burst_size s bytes) bytes) ps r t c.2 d.2

pub cut_rests : (s : Settings) (bytes : List ℕ) (ps qs : List (List ℕ)) (r t : List ℕ) → ps ≡ qs → IsCut s bytes ps r → IsCut s bytes qs t →
    r ≡ t
cut_rests s bytes ps qs r t same c d =
    let I : List (List ℕ) → Type 0 = λ xs. IsCut s bytes xs r in cut_rest s bytes qs r t (subst I same c) d

-- bursts one after another
rounds : (s : Settings) → Items s Round (λ x y. x ≡ y)
rounds s = given Round (round_same s)

pub sends_all_same : (s : Settings) (bytes : List ℕ) → Determined (Unit {0}) (SendsAll bytes s) (SendsAll bytes s)
sends_all_same s bytes = record {
  at = λ l m p q.
      so (λ t. tt) ((items_all s Round (rounds s) p.0 q.0 (cut_alike s bytes p.0 q.0 [] [] p.1 q.1)
      (cut_all s bytes p.0 q.0 p.1 q.1)).at l m p.2 q.2);
}

pub sends_stall : (s : Settings) (bytes : List ℕ) (d : StalledError) →
    Determined ⊥ (SendsExact {T = Unit {0}} bytes (Err d) s) (SendsAll bytes s)
sends_stall s bytes d = record {
  at = λ l m p q.
      (items_more s Round (AllMisses SendMiss) (rounds s) (vain_round s) p.0 q.0 (cut_alike s bytes p.0 q.0 p.1 [] p.2 q.1)
      (cut_fewer s bytes p.0 q.0 p.1 p.3 p.2 q.1)).at l m p.5 q.2;
}

pub sends_exact_determined : (s : Settings) (bytes : List ℕ) (a b : Result (Unit {0}) StalledError) →
    Determined (a ≡ b) (SendsExact bytes a s) (SendsExact bytes b s)
sends_exact_determined s bytes (Ok x) (Ok y) = determined_so (λ t. refl) (sends_all_same s bytes)
sends_exact_determined s bytes (Ok x) (Err d) = determined_sym (sends_stall s bytes d)
sends_exact_determined s bytes (Err d) (Ok y) = determined_so absurd (sends_stall s bytes d)
sends_exact_determined s bytes (Err d) (Err f) = record {
  at = λ l m p q.
      so
      (λ r. let rest = ap length (cut_rests s bytes p.0 q.0 p.1 q.1 r p.2 q.2) in stalled d f (omega (arith, p.4, q.4, rest)))
      ((items_short s Round (AllMisses SendMiss) (rounds s) (vain_round s) (unsent_same s) p.0 q.0
      (cut_alike s bytes p.0 q.0 p.1 q.1 p.2 q.2)).at l m p.5 q.5);
}
