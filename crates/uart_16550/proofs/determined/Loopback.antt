-- The loopback test is determined.
use Rattle.std.proofs.Common.{◌≡◌, ◌≢◌, ℕ, Bool, true, false, List, [], ◌∷◌, ◌++◌, refl, sym, ◌∙◌, ap, subst, arith, inl, inr, ◌⊎◌, ◌==◌}
use Rattle.std.proofs.Common.{Result, Ok, Err, Option, Some, None, length, map, if◌then◌else◌}
use Rattle.std.proofs.lemmas.Bool.Decides.{nat_tests}
use Rattle.std.proofs.lemmas.List.{length-map}
use Rattle.bitflags.specs.Sets.{without}
use Rattle.uart_spec.specs.declared.errors.StalledError.{StalledError}
use Rattle.uart_spec.specs.declared.errors.ByteSendError.{ByteSendError}
use Rattle.uart_spec.specs.declared.errors.LoopbackError.{LoopbackError}
use Rattle.uart_spec.specs.declared.errors.LoopbackError.TheVariants.{Stalled, SendError, UnexpectedLoopbackByte, UnexpectedLoopbackMsg}
use Rattle.uart_spec.specs.declared.registers.fifo_trigger_level.FifoTriggerLevel.{FifoTriggerLevel}
use Rattle.uart_spec.specs.declared.registers.offsets.TheConstants as offsets
use Rattle.uart_spec.specs.declared.registers.line_status.TheConstants.LSR
use Rattle.uart_spec.specs.declared.registers.modem_control.TheConstants.MCR
use Rattle.uart_spec.specs.declared.access.Access.{Access}
use Rattle.uart_spec.specs.declared.access.Access.TheVariants.{Read, Write}
use Rattle.uart_16550.specs.Grammar.{Language, Settings, Only, Then, InOrder, AllMisses}
use Rattle.uart_16550.specs.Receive.{Miss, Awaited, ReceivesExact}
use Rattle.uart_16550.specs.Transmit.{Round, SendMiss, SendsAll, SendsExact, TrySends}
use Rattle.uart_16550.specs.Init.{SetsFifo}
use Rattle.uart_16550.specs.Driver.{Doing, Fields, Saving, Plain, Sets, Next, settings_of, with_fifo}
use Rattle.uart_16550.specs.Loopback.{test_byte, test_message, TakesOne, DrainsLoopback, SendsTestByte, ExchangesByte, Echo, EchoFails}
use Rattle.uart_16550.specs.Loopback.{WholeEchoes, WholeFails, EachEchoes, HasEchoedWhole, HasEchoedEach, HasEchoedAll, ExchangesMessage}
use Rattle.uart_spec.specs.Lines.{line_changes}
use Rattle.uart_16550.specs.Loopback.{Exchanges, EntersAt, Enters, Leaves, with_changes, BeginsTest, Inside, Tests}
use Rattle.uart_16550.specs.Loopback.{IsStalled, FromEmpty, TestsLoopback}
use Rattle.uart_16550.proofs.Languages.{then_later}
use Rattle.uart_16550.proofs.determined.Parting.{SameOrPart, Determined, so, so_is, so_read, so_reads, determined_so, determined_sym}
use Rattle.uart_16550.proofs.determined.Parting.{determined_then, determined_front, determined_among, determined_none, determined_only}
use Rattle.uart_16550.proofs.determined.Parting.{determined_fifo, read_determined, not_both}
use Rattle.uart_16550.proofs.determined.Repeated.{same_first, same_others, Misses, waits_end, wait_ends, wait_fails, Items, Alike}
use Rattle.uart_16550.proofs.determined.Repeated.{items_all}
use Rattle.uart_16550.proofs.determined.Receive.{hits_determined, miss_same, miss_hit, vain_same, vain_awaited, awaited_determined}
use Rattle.uart_16550.proofs.determined.Receive.{awaited_all, receives_exact_determined}
use Rattle.uart_16550.proofs.determined.Transmit.{round_same, vain_round, unsent_same, waits_determined, try_send_determined}
use Rattle.uart_16550.proofs.determined.Transmit.{sends_all_same, sends_stall, sends_exact_determined}
use Rattle.uart_16550.proofs.determined.Init.{fifo_determined}
use Rattle.uart_16550.proofs.determined.Doings.{Does, does_so, does_sym, does_next, does_front, does_saving, does_plain, does_set}

abbrev Outcome : Type 0
Outcome = Result (Unit {0}) LoopbackError

-- the drain
pub takes : (s : Settings) → Misses s TakesOne Miss
takes s = record {
  same = record { at = λ l m p q. so (λ t. tt) ((hits_determined s p.0 q.0).at l m p.1 q.1) };
  apart = record { at = λ l m p q. (determined_sym (miss_hit s p.0)).at l m p.1 q };
}

drains_apart : (s : Settings) → Determined ⊥ (DrainsLoopback true s) (DrainsLoopback false s)
drains_apart s = wait_ends s TakesOne Miss (takes s)

drains_true : (s : Settings) → Determined (Unit {0}) (DrainsLoopback true s) (DrainsLoopback true s)
drains_true s = waits_end s TakesOne Miss Miss (takes s) (takes s) (miss_same s)

pub drains_false : (s : Settings) → Determined (Unit {0}) (DrainsLoopback false s) (DrainsLoopback false s)
drains_false s = wait_fails s TakesOne (takes s).same

-- the test byte: refused, or what came back for it
abbrev ByteReply : ByteSendError ⊎ Option ℕ → Language
ByteReply (inl e) = TrySends {T = Unit {0}} test_byte (Err e)
ByteReply (inr None) = Then SendsTestByte (AllMisses Miss)
ByteReply (inr (Some back)) = Then SendsTestByte (Awaited back)

abbrev byte_outcome : ByteSendError ⊎ Option ℕ → Outcome
byte_outcome (inl e) = Err (SendError e)
byte_outcome (inr None) = Err Stalled
byte_outcome (inr (Some back)) = if back == test_byte then Ok tt else Err (UnexpectedLoopbackByte test_byte back)

byte_reply : (r : Outcome) (s : Settings) (l : List Access) → ExchangesByte r s l →
    (reply : ByteSendError ⊎ Option ℕ) × (byte_outcome reply ≡ r) × ByteReply reply s l
byte_reply (Ok x) s l t = (inr (Some test_byte), refl, t)
byte_reply (Err (SendError e)) s l t = (inl e, refl, t)
byte_reply (Err Stalled) s l t = (inr None, refl, t)
byte_reply (Err (UnexpectedLoopbackByte expected actual)) s l t =
    let other : (actual == test_byte) ≡ false = grind (arith, nat_tests, t.1) in
    let said : ◌≡◌ {A = Outcome} (byte_outcome (inr (Some actual))) (Err (UnexpectedLoopbackByte expected actual)) = rw (other, t.0) refl in
    (inr (Some actual), said, t.2)
byte_reply (Err (UnexpectedLoopbackMsg expected actual)) s l t = absurd t

-- the byte is sent, and refused
sent_refused : (s : Settings) (e : ByteSendError) → Determined ⊥ (SendsTestByte s) (TrySends {T = Unit {0}} test_byte (Err e) s)
sent_refused s e = determined_so (λ t. cc) (try_send_determined s test_byte (Ok tt) (Err e))

test_byte_same : (s : Settings) → Determined (Unit {0}) (SendsTestByte s) (SendsTestByte s)
test_byte_same s = determined_so (λ t. tt) (try_send_determined s test_byte (Ok tt) (Ok tt))

error_of : ByteSendError → Result (Unit {0}) ByteSendError → ByteSendError
error_of d (Ok x) = d
error_of d (Err e) = e

errors_same : (d e : ByteSendError) → ◌≡◌ {A = Result (Unit {0}) ByteSendError} (Err d) (Err e) → d ≡ e
unfolding error_of
errors_same d e same = ap (error_of d) same

-- what follows the byte that was sent, beside its refusal
refused_apart : (s : Settings) (Q : Language) (e : ByteSendError) →
    Determined ⊥ (Then SendsTestByte Q s) (TrySends {T = Unit {0}} test_byte (Err e) s)
refused_apart s Q e = determined_front {P = SendsTestByte} {Q = Q} (sent_refused s e)

after_byte : {C : Type 0} (s : Settings) (Q R : Language) → Determined C (Q s) (R s) →
    Determined C (Then SendsTestByte Q s) (Then SendsTestByte R s)
after_byte s Q R h = determined_then {P = SendsTestByte} {P' = SendsTestByte} {Q = Q} {Q' = R} (test_byte_same s) (λ t. h)

byte_replies_determined : (s : Settings) (x y : ByteSendError ⊎ Option ℕ) → Determined (x ≡ y) (ByteReply x s) (ByteReply y s)
byte_replies_determined s (inl d) (inl e) =
    determined_so (λ t. ap (λ (z : ByteSendError). let r : ByteSendError ⊎ Option ℕ = inl z in r) (errors_same d e t))
    (try_send_determined s test_byte (Err d) (Err e))
byte_replies_determined s (inl d) (inr None) = determined_sym (refused_apart s (AllMisses Miss) d)
byte_replies_determined s (inl d) (inr (Some b)) = determined_sym (refused_apart s (Awaited b) d)
byte_replies_determined s (inr None) (inl e) = determined_so absurd (refused_apart s (AllMisses Miss) e)
byte_replies_determined s (inr (Some a)) (inl e) = determined_so absurd (refused_apart s (Awaited a) e)
byte_replies_determined s (inr None) (inr None) = after_byte s (AllMisses Miss) (AllMisses Miss) (determined_so (λ t. refl) (vain_same s))
byte_replies_determined s (inr None) (inr (Some b)) = after_byte s (AllMisses Miss) (Awaited b) (determined_so absurd (vain_awaited s b))
byte_replies_determined s (inr (Some a)) (inr None) = after_byte s (Awaited a) (AllMisses Miss) (determined_sym (vain_awaited s a))
byte_replies_determined s (inr (Some a)) (inr (Some b)) =
    after_byte s (Awaited a) (Awaited b)
    (determined_so (λ t. ap (λ (z : ℕ). let r : ByteSendError ⊎ Option ℕ = inr (Some z) in r) t) (awaited_determined s a b))

exchanges_byte_determined : (s : Settings) (a b : Outcome) → Determined (a ≡ b) (ExchangesByte a s) (ExchangesByte b s)
exchanges_byte_determined s a b = record {
  at = λ l m p q.
      let x = byte_reply a s l p in
      let y = byte_reply b s m q in
      so (λ r. sym x.1 ∙ ap (λ z. byte_outcome z) r ∙ y.1) ((byte_replies_determined s x.0 y.0).at l m x.2 y.2);
}

-- the message, whole
whole_echoes : (s : Settings) (sent xs ys : List ℕ) → Determined (xs ≡ ys) (WholeEchoes sent xs s) (WholeEchoes sent ys s)
whole_echoes s sent xs ys = record {
  at = λ l m p q.
      (determined_then {s = s} {P = SendsAll sent} {P' = SendsAll sent} {Q = InOrder Awaited xs} {Q' = InOrder Awaited ys}
      (sends_all_same s sent) (λ t. awaited_all s xs ys (p.0 ∙ sym q.0))).at l m p.1 q.1;
}

-- all were received, and the wait for some reached the limit
back_stall : (s : Settings) (n : ℕ) (xs ys : List ℕ) (e : StalledError) → length xs ≡ n →
    Determined ⊥ (InOrder Awaited xs s) (ReceivesExact {T = Unit {0}} n ys (Err e) s)
back_stall s n xs ys e same = record {
  at = λ l m p q. so (λ r. let wrong = r.1 in cc) ((receives_exact_determined s n xs ys (Ok tt) (Err e)).at l m (same, p) q);
}

sent_apart : (s : Settings) (sent : List ℕ) (Q : Language) (e : StalledError) →
    Determined ⊥ (Then (SendsAll sent) Q s) (SendsExact {T = Unit {0}} sent (Err e) s)
sent_apart s sent Q e = determined_front {P = SendsAll sent} {Q = Q} (determined_sym (sends_stall s sent e))

whole_apart : (s : Settings) (sent xs : List ℕ) → Determined ⊥ (WholeEchoes sent xs s) (WholeFails sent s)
whole_apart s sent xs = record { at = at }
  where
    at : (l m : List Access) → WholeEchoes sent xs s l → WholeFails sent s m → SameOrPart ⊥ l m
    at l m p (inl q) = (sent_apart s sent (InOrder Awaited xs) q.0).at l m p.1 q.1
    at l m p (inr q) =
        (determined_then {s = s} {P = SendsAll sent} {P' = SendsAll sent} {Q = InOrder Awaited xs}
        {Q' = ReceivesExact {T = Unit {0}} (length sent) q.1 (Err q.0)}
        (sends_all_same s sent) (λ t. back_stall s (length sent) xs q.1 q.0 p.0)).at l m p.1 q.2

whole_fails_same : (s : Settings) (sent : List ℕ) → Determined (Unit {0}) (WholeFails sent s) (WholeFails sent s)
whole_fails_same s sent = record { at = at }
  where
    at : (l m : List Access) → WholeFails sent s l → WholeFails sent s m → SameOrPart (Unit {0}) l m
    at l m (inl p) (inl q) = so (λ t. tt) ((sends_exact_determined s sent (Err p.0) (Err q.0)).at l m p.1 q.1)
    at l m (inl p) (inr q) =
        (determined_sym (sent_apart s sent (ReceivesExact {T = Unit {0}} (length sent) q.1 (Err q.0)) p.0)).at l m p.1 q.2
    at l m (inr p) (inl q) = so absurd ((sent_apart s sent (ReceivesExact {T = Unit {0}} (length sent) p.1 (Err p.0)) q.0).at l m p.2 q.1)
    at l m (inr p) (inr q) =
        (determined_then {s = s} {P = SendsAll sent} {P' = SendsAll sent} {Q = ReceivesExact {T = Unit {0}} (length sent) p.1 (Err p.0)}
        {Q' = ReceivesExact {T = Unit {0}} (length sent) q.1 (Err q.0)} (sends_all_same s sent)
        (λ t. determined_so (λ t. tt) (receives_exact_determined s (length sent) p.1 q.1 (Err p.0) (Err q.0)))).at l m p.2 q.2

-- the message, byte by byte
sends_byte : (s : Settings) (b c : ℕ) → b ≡ c → Determined (Unit {0}) (Round (b ∷ []) s) (Round (c ∷ []) s)
sends_byte s b c same =
    let M : ℕ → Type 0 = λ z. Determined (Unit {0}) (Round (b ∷ []) s) (Round (z ∷ []) s) in subst M same (round_same s (b ∷ []))

echoes_determined : (s : Settings) (x y : ℕ × ℕ) → x.0 ≡ y.0 → Determined (x ≡ y) (Echo x s) (Echo y s)
echoes_determined s x y same =
    determined_then {P = Round (x.0 ∷ [])} {P' = Round (y.0 ∷ [])} (sends_byte s x.0 y.0 same)
    (λ t. determined_so (λ r i. (same i, r i)) (awaited_determined s x.1 y.1))

echoes : (s : Settings) → Items s Echo (λ x y. x.0 ≡ y.0)
echoes s = record { item = echoes_determined s }

-- what follows a byte that was sent, and the wait for room that reaches the limit
unsent_apart : (s : Settings) (b : ℕ) (Q : Language) → Determined ⊥ (Then (Round (b ∷ [])) Q s) (AllMisses SendMiss s)
unsent_apart s b Q = determined_front {P = Round (b ∷ [])} {Q = Q} (determined_sym (vain_round s (b ∷ [])))

fails_echo : (s : Settings) (byte : ℕ) (x : ℕ × ℕ) → byte ≡ x.0 → Determined ⊥ (EchoFails byte s) (Echo x s)
fails_echo s byte x same = record { at = at }
  where
    at : (l m : List Access) → EchoFails byte s l → Echo x s m → SameOrPart ⊥ l m
    at l m (inl p) q = (determined_sym (unsent_apart s x.0 (Awaited x.1))).at l m p q
    at l m (inr p) q =
        (determined_then {s = s} {P = Round (byte ∷ [])} {P' = Round (x.0 ∷ [])} {Q = AllMisses Miss} {Q' = Awaited x.1}
        (sends_byte s byte x.0 same)
        (λ t. vain_awaited s x.1)).at l m p q

fails_same : (s : Settings) (b c : ℕ) → b ≡ c → Determined (Unit {0}) (EchoFails b s) (EchoFails c s)
fails_same s b c same = record { at = at }
  where
    at : (l m : List Access) → EchoFails b s l → EchoFails c s m → SameOrPart (Unit {0}) l m
    at l m (inl p) (inl q) = (unsent_same s).at l m p q
    at l m (inl p) (inr q) = (determined_sym (unsent_apart s c (AllMisses Miss))).at l m p q
    at l m (inr p) (inl q) = so absurd ((unsent_apart s b (AllMisses Miss)).at l m p q)
    at l m (inr p) (inr q) =
        (determined_then {s = s} {P = Round (b ∷ [])} {P' = Round (c ∷ [])} {Q = AllMisses Miss} {Q' = AllMisses Miss}
        (sends_byte s b c same) (λ t. vain_same s)).at l m p q

-- bytes and what came back for each
abbrev sents : List (ℕ × ℕ) → List ℕ
sents pairs = map (λ pair. pair.0) pairs

alike_pairs : (ps qs : List (ℕ × ℕ)) → sents ps ≡ sents qs → Alike (λ x y. x.0 ≡ y.0) ps qs
alike_pairs [] qs same = tt
alike_pairs (p ∷ ps) [] same = tt
alike_pairs (p ∷ ps) (q ∷ qs) same = (same_first same, alike_pairs ps qs (same_others same))

each_echoes : (s : Settings) (sent xs ys : List ℕ) → Determined (xs ≡ ys) (EachEchoes sent xs s) (EachEchoes sent ys s)
each_echoes s sent xs ys = record {
  at = λ l m p q.
      let same : sents p.0 ≡ sents q.0 = p.1 ∙ sym q.1 in
      let count : length p.0 ≡ length q.0 = sym (length-map p.0 (λ pair. pair.0)) ∙ ap length same ∙ length-map q.0 (λ pair. pair.0) in
      so (λ r. sym p.2 ∙ ap (λ (zs : List (ℕ × ℕ)). map (λ pair. pair.1) zs) r ∙ q.2)
      ((items_all s Echo (echoes s) p.0 q.0 (alike_pairs p.0 q.0 same) count).at l m p.3 q.3);
}

no_item : (x : ℕ) (xs : List ℕ) → [] ≡ x ∷ xs → ⊥
no_item x xs same = omega (arith, ap length same)

fails_echoes : (s : Settings) (ps qs : List (ℕ × ℕ)) (byte : ℕ) (rest : List ℕ) → sents ps ++ (byte ∷ rest) ≡ sents qs →
    Determined ⊥ (Then (InOrder Echo ps) (EchoFails byte) s) (InOrder Echo qs s)
fails_echoes s [] [] byte rest same = absurd (no_item _ _ (sym same))
fails_echoes s [] (q ∷ qs) byte rest same =
    determined_none {Q = EchoFails byte}
    (determined_sym (determined_front {P = Echo q} {Q = InOrder Echo qs}
    (determined_sym (fails_echo s byte q (same_first same)))))
fails_echoes s (p ∷ ps) [] byte rest same = absurd (no_item _ _ (sym same))
fails_echoes s (p ∷ ps) (q ∷ qs) byte rest same =
    determined_among
    (determined_then {P = Echo p} {P' = Echo q} {Q = Then (InOrder Echo ps) (EchoFails byte)} {Q' = InOrder Echo qs}
    (echoes_determined s p q (same_first same))
    (λ t. fails_echoes s ps qs byte rest (same_others same)))
    (then_later (Echo p) (InOrder Echo ps) (EchoFails byte) s) (λ l t. t)

fails_fails : (s : Settings) (ps qs : List (ℕ × ℕ)) (b c : ℕ) (r t : List ℕ) → sents ps ++ (b ∷ r) ≡ sents qs ++ (c ∷ t) →
    Determined (Unit {0}) (Then (InOrder Echo ps) (EchoFails b) s) (Then (InOrder Echo qs) (EchoFails c) s)
fails_fails s [] [] b c r t same =
    determined_then {P = Only []} {P' = Only []} {Q = EchoFails b} {Q' = EchoFails c} (determined_only refl)
    (λ x. fails_same s b c (same_first same))
fails_fails s [] (q ∷ qs) b c r t same =
    determined_none {Q = EchoFails b} (determined_sym (determined_front {P = InOrder Echo (q ∷ qs)} {Q = EchoFails c}
    (determined_front {P = Echo q} {Q = InOrder Echo qs} (determined_sym (fails_echo s b q (same_first same))))))
fails_fails s (p ∷ ps) [] b c r t same =
    determined_front {P = InOrder Echo (p ∷ ps)} {Q = EchoFails b} (determined_front {P = Echo p} {Q = InOrder Echo ps}
    (determined_sym (determined_none {Q = EchoFails c} (fails_echo s c p (sym (same_first same))))))
fails_fails s (p ∷ ps) (q ∷ qs) b c r t same =
    determined_among
    (determined_then {P = Echo p} {P' = Echo q} {Q = Then (InOrder Echo ps) (EchoFails b)} {Q' = Then (InOrder Echo qs) (EchoFails c)}
    (echoes_determined s p q (same_first same)) (λ x. fails_fails s ps qs b c r t (same_others same)))
    (then_later (Echo p) (InOrder Echo ps) (EchoFails b) s) (then_later (Echo q) (InOrder Echo qs) (EchoFails c) s)

some_list : {xs ys : List ℕ} → xs ≡ ys → ◌≡◌ {A = Option (List ℕ)} (Some xs) (Some ys)
some_list same = ap (λ (zs : List ℕ). let r : Option (List ℕ) = Some zs in r) same

whole_determined : (s : Settings) (sent : List ℕ) (x y : Option (List ℕ)) →
    Determined (x ≡ y) (HasEchoedWhole sent x s) (HasEchoedWhole sent y s)
whole_determined s sent (Some xs) (Some ys) = determined_so some_list (whole_echoes s sent xs ys)
whole_determined s sent (Some xs) None = determined_so absurd (whole_apart s sent xs)
whole_determined s sent None (Some ys) = determined_sym (whole_apart s sent ys)
whole_determined s sent None None = determined_so (λ t. refl) (whole_fails_same s sent)

each_apart : (s : Settings) (sent xs : List ℕ) → Determined ⊥ (HasEchoedEach sent None s) (HasEchoedEach sent (Some xs) s)
each_apart s sent xs = record { at = λ l m p q. (fails_echoes s p.0 q.0 p.1 p.2 (p.3 ∙ sym q.1)).at l m p.4 q.3 }

each_determined : (s : Settings) (sent : List ℕ) (x y : Option (List ℕ)) →
    Determined (x ≡ y) (HasEchoedEach sent x s) (HasEchoedEach sent y s)
each_determined s sent (Some xs) (Some ys) = determined_so some_list (each_echoes s sent xs ys)
each_determined s sent (Some xs) None = determined_sym (each_apart s sent xs)
each_determined s sent None (Some ys) = determined_so absurd (each_apart s sent ys)
each_determined s sent None None =
    record { at = λ l m p q. so (λ t. refl) ((fails_fails s p.0 q.0 p.1 q.1 p.2 q.2 (p.3 ∙ sym q.3)).at l m p.4 q.4) }

echoed_determined : (s : Settings) (sent : List ℕ) (x y : Option (List ℕ)) →
    Determined (x ≡ y) (HasEchoedAll sent x s) (HasEchoedAll sent y s)
echoed_determined s sent x y =
    determined_fifo s (HasEchoedWhole sent x) (HasEchoedWhole sent y) (HasEchoedEach sent x) (HasEchoedEach sent y)
    (whole_determined s sent x y) (each_determined s sent x y)

-- what an outcome says of the message that came back
abbrev IsMessage : Outcome → Option (List ℕ) → Type 0
IsMessage (Ok x) o = o ≡ Some test_message
IsMessage (Err Stalled) o = o ≡ None
IsMessage (Err (SendError e)) o = ⊥
IsMessage (Err (UnexpectedLoopbackByte expected actual)) o = ⊥
IsMessage (Err (UnexpectedLoopbackMsg expected actual)) o = (expected ≡ test_message) × (actual ≢ test_message) × (o ≡ Some actual)

inside : Option (List ℕ) → List ℕ
inside None = []
inside (Some xs) = xs

inside_same : (xs ys : List ℕ) → ◌≡◌ {A = Option (List ℕ)} (Some xs) (Some ys) → xs ≡ ys
unfolding inside
inside_same xs ys same = ap inside same

nothing : (xs : List ℕ) → ◌≡◌ {A = Option (List ℕ)} (Some xs) None → ⊥
nothing xs same = cc

messages_same : (a b : Outcome) (o : Option (List ℕ)) → IsMessage a o → IsMessage b o → a ≡ b
messages_same (Err (SendError d)) b o p q = absurd p
messages_same (Err (UnexpectedLoopbackByte d e)) b o p q = absurd p
messages_same a (Err (SendError d)) o p q = absurd q
messages_same a (Err (UnexpectedLoopbackByte d e)) o p q = absurd q
messages_same (Ok x) (Ok y) o p q = refl
messages_same (Ok x) (Err Stalled) o p q = absurd (nothing _ (sym p ∙ q))
messages_same (Ok x) (Err (UnexpectedLoopbackMsg d e)) o p q = absurd (q.1 (inside_same _ _ (sym q.2 ∙ p)))
messages_same (Err Stalled) (Ok y) o p q = absurd (nothing _ (sym q ∙ p))
messages_same (Err Stalled) (Err Stalled) o p q = refl
messages_same (Err Stalled) (Err (UnexpectedLoopbackMsg d e)) o p q = absurd (nothing _ (sym q.2 ∙ p))
messages_same (Err (UnexpectedLoopbackMsg d e)) (Ok y) o p q = absurd (p.1 (inside_same _ _ (sym p.2 ∙ q)))
messages_same (Err (UnexpectedLoopbackMsg d e)) (Err Stalled) o p q = absurd (nothing _ (sym p.2 ∙ q))
messages_same (Err (UnexpectedLoopbackMsg d e)) (Err (UnexpectedLoopbackMsg g h)) o p q =
    let expected : d ≡ g = p.0 ∙ sym q.0 in
    let actual : e ≡ h = inside_same _ _ (sym p.2 ∙ q.2) in
    λ i. Err (UnexpectedLoopbackMsg (expected i) (actual i))

message_reply : (r : Outcome) (s : Settings) (l : List Access) → ExchangesMessage r s l →
    (o : Option (List ℕ)) × IsMessage r o × HasEchoedAll test_message o s l
message_reply (Ok x) s l t = (Some test_message, refl, t)
message_reply (Err (SendError e)) s l t = absurd t
message_reply (Err Stalled) s l t = (None, refl, t)
message_reply (Err (UnexpectedLoopbackByte expected actual)) s l t = absurd t
message_reply (Err (UnexpectedLoopbackMsg expected actual)) s l t = (Some actual, (t.0, t.1, refl), t.3)

exchanges_message_determined : (s : Settings) (a b : Outcome) → Determined (a ≡ b) (ExchangesMessage a s) (ExchangesMessage b s)
exchanges_message_determined s a b = record {
  at = λ l m p q.
      let x = message_reply a s l p in
      let y = message_reply b s m q in
      let M : Option (List ℕ) → Type 0 = λ o. IsMessage a o in
      so (λ r. messages_same a b y.0 (subst M r x.1) y.1) ((echoed_determined s test_message x.0 y.0).at l m x.2 y.2);
}

-- how far the exchange came
abbrev Steps : Outcome → Settings → List Access → Type 0
Steps r s l = ((r ≡ Err Stalled) × DrainsLoopback false s l)
    ⊎ (((e : LoopbackError) × (r ≡ Err e) × Then (DrainsLoopback true) (ExchangesByte {T = Unit {0}} (Err e)) s l)
    ⊎ Then (DrainsLoopback true) (Then (ExchangesByte {T = Unit {0}} (Ok tt)) (ExchangesMessage r)) s l)

steps_of : (r : Outcome) (s : Settings) (l : List Access) → Exchanges r s l → Steps r s l
steps_of (Ok x) s l t = inr (inr t)
steps_of (Err e) s l (inl t) = inl (ap (λ (z : LoopbackError). let r : Outcome = Err z in r) t.0, t.1)
steps_of (Err e) s l (inr (inl t)) = inr (inl (e, refl, t))
steps_of (Err e) s l (inr (inr t)) = inr (inr t)

pub undrained : (s : Settings) (Q : Language) → Determined ⊥ (Then (DrainsLoopback true) Q s) (DrainsLoopback false s)
undrained s Q = determined_front {P = DrainsLoopback true} {Q = Q} (drains_apart s)

pub after_drain : {C : Type 0} (s : Settings) (Q R : Language) → Determined C (Q s) (R s) →
    Determined C (Then (DrainsLoopback true) Q s) (Then (DrainsLoopback true) R s)
after_drain s Q R h = determined_then {P = DrainsLoopback true} {P' = DrainsLoopback true} {Q = Q} {Q' = R} (drains_true s) (λ t. h)

abbrev ByteFails : LoopbackError → Language
ByteFails e = ExchangesByte {T = Unit {0}} (Err e)

abbrev Goes : Outcome → Language
Goes r = Then (ExchangesByte {T = Unit {0}} (Ok tt)) (ExchangesMessage r)

byte_failed : (s : Settings) (e : LoopbackError) (r : Outcome) →
    Determined ⊥ (Then (DrainsLoopback true) (Goes r) s) (Then (DrainsLoopback true) (ByteFails e) s)
byte_failed s e r =
    after_drain s (Goes r) (ByteFails e)
    (determined_front {P = ExchangesByte {T = Unit {0}} (Ok tt)} {Q = ExchangesMessage r}
    (determined_so (λ t. cc) (exchanges_byte_determined s (Ok tt) (Err e))))

exchanges_determined : (s : Settings) (a b : Outcome) → Determined (a ≡ b) (Exchanges a s) (Exchanges b s)
exchanges_determined s a b = record { at = λ l m p q. at l m (steps_of a s l p) (steps_of b s m q) }
  where
    at : (l m : List Access) → Steps a s l → Steps b s m → SameOrPart (a ≡ b) l m
    at l m (inl p) (inl q) = so (λ t. p.0 ∙ sym q.0) ((drains_false s).at l m p.1 q.1)
    at l m (inl p) (inr (inl q)) = (determined_sym (undrained s (ByteFails q.0))).at l m p.1 q.2
    at l m (inl p) (inr (inr q)) = (determined_sym (undrained s (Goes b))).at l m p.1 q
    at l m (inr (inl p)) (inl q) = so absurd ((undrained s (ByteFails p.0)).at l m p.2 q.1)
    at l m (inr (inr p)) (inl q) = so absurd ((undrained s (Goes a)).at l m p q.1)
    at l m (inr (inl p)) (inr (inl q)) =
        so (λ r. p.1 ∙ r ∙ sym q.1)
        ((after_drain s (ByteFails p.0) (ByteFails q.0) (exchanges_byte_determined s (Err p.0) (Err q.0))).at l m p.2 q.2)
    at l m (inr (inl p)) (inr (inr q)) = (determined_sym (byte_failed s p.0 b)).at l m p.2 q
    at l m (inr (inr p)) (inr (inl q)) = so absurd ((byte_failed s q.0 a).at l m p q.2)
    at l m (inr (inr p)) (inr (inr q)) =
        (after_drain s (Goes a) (Goes b)
        (determined_then {P = ExchangesByte {T = Unit {0}} (Ok tt)} {P' = ExchangesByte {T = Unit {0}} (Ok tt)} {Q = ExchangesMessage a}
        {Q' = ExchangesMessage b}
        (exchanges_byte_determined s (Ok tt) (Ok tt)) (λ t. exchanges_message_determined s a b))).at l m p q

-- into the loopback
entering : (s : Settings) (x y : ℕ) →
    Determined (x ≡ y) (Only (Read offsets.MSR x ∷ Write offsets.IER 0 ∷ Write offsets.MCR MCR.LOOP_BACK.0 ∷ []) s)
    (Only (Read offsets.MSR y ∷ Write offsets.IER 0 ∷ Write offsets.MCR MCR.LOOP_BACK.0 ∷ []) s)
entering s x y = record { at = λ l m p q. so_is p.is q.is (so (λ r. r.0) (so_read (λ same. inl (tt {0}, refl)))) }

pub set_fifos : (f : Fields) (a b : Bool) → a ≡ b → Does (Unit {0}) f (Sets (with_fifo a)) (Sets (with_fifo b))
set_fifos f a b same =
    let M : Bool → Type 0 = λ z. Does (Unit {0}) f (Sets (with_fifo a)) (Sets (with_fifo z)) in subst M same (does_set f (with_fifo a))

-- with this level
pub enters_at_determined : (level : Option FifoTriggerLevel) (f : Fields) (x y : ℕ) (a b : Bool) →
    Does ((x ≡ y) × (a ≡ b)) f (EntersAt level x a) (EntersAt level y b)
enters_at_determined level f x y a b =
    let X = Only (Read offsets.MSR x ∷ Write offsets.IER 0 ∷ Write offsets.MCR MCR.LOOP_BACK.0 ∷ []) in
    let Y = Only (Read offsets.MSR y ∷ Write offsets.IER 0 ∷ Write offsets.MCR MCR.LOOP_BACK.0 ∷ []) in
    let s = settings_of f in
    let lists : Determined ((x ≡ y) × (a ≡ b)) (Then X (SetsFifo level a) s) (Then Y (SetsFifo level b) s) =
    determined_then (entering s x y) (λ same. determined_so (λ t. (same, t)) (fifo_determined s level a b)) in
    does_next (does_saving f (Then X (SetsFifo level a)) (Then Y (SetsFifo level b)) lists)
    (λ same g. does_so (λ t. same) (set_fifos g a b same.1))

enters_determined : (f : Fields) (x y : ℕ) (a b : Bool) → Does ((x ≡ y) × (a ≡ b)) f (Enters x a) (Enters y b)
enters_determined f x y a b =
    record { at = λ l m c d p q. (enters_at_determined f.config.fifo_trigger_level f x y a b).at l m c d p q }

-- out of it
Settles : (mcr ier before noted now : ℕ) → Doing
Settles mcr ier before noted now =
    Next (Saving (Only (Write offsets.MCR mcr ∷ Write offsets.IER ier ∷ []))) (Sets (with_changes noted (line_changes before now)))

settles_determined : (mcr ier before noted x y : ℕ) (f : Fields) → x ≡ y →
    Does (Unit {0}) f (Settles mcr ier before noted x) (Settles mcr ier before noted y)
unfolding Settles
settles_determined mcr ier before noted x y f same =
    let W = Only (Write offsets.MCR mcr ∷ Write offsets.IER ier ∷ []) in
    let M : ℕ → Type 0 = λ z. Does (Unit {0}) f (Settles mcr ier before noted x) (Settles mcr ier before noted z) in
    subst M same (does_next (does_saving f W W (determined_only refl)) (λ t g. does_set g (with_changes noted (line_changes before x))))

leaving : (mcr ier before noted x y : ℕ) (f : Fields) → Does (Unit {0}) f
    (Next (Saving (Only (Write offsets.MCR (without 8 mcr MCR.OUT_2_INT_ENABLE.0) ∷ [])))
    (Next (Plain (Only (Read offsets.MSR x ∷ []))) (Settles mcr ier before noted x)))
    (Next (Saving (Only (Write offsets.MCR (without 8 mcr MCR.OUT_2_INT_ENABLE.0) ∷ [])))
    (Next (Plain (Only (Read offsets.MSR y ∷ []))) (Settles mcr ier before noted y)))
leaving mcr ier before noted x y f =
    let W = Only (Write offsets.MCR (without 8 mcr MCR.OUT_2_INT_ENABLE.0) ∷ []) in
    does_next (does_saving f W W (determined_only refl))
    (λ t g. does_next (does_plain g (Only (Read offsets.MSR x ∷ [])) (Only (Read offsets.MSR y ∷ [])) (read_determined offsets.MSR x y))
    (λ same h. settles_determined mcr ier before noted x y h same))

leaves_same : (mcr ier before noted : ℕ) (f : Fields) → Does (Unit {0}) f (Leaves mcr ier before noted) (Leaves mcr ier before noted)
unfolding Settles
leaves_same mcr ier before noted f = record { at = λ l m a b p q. (leaving mcr ier before noted p.0 q.0 f).at l m a b p.1 q.1 }

leaves_determined : (mcr ier x y noted : ℕ) (f : Fields) → x ≡ y → Does (Unit {0}) f (Leaves mcr ier x noted) (Leaves mcr ier y noted)
leaves_determined mcr ier x y noted f same =
    let M : ℕ → Type 0 = λ z. Does (Unit {0}) f (Leaves mcr ier x noted) (Leaves mcr ier z noted) in
    subst M same (leaves_same mcr ier x noted f)

-- what is done in it, whatever enters it
pub inside_determined : {C : Type 0} (E : ℕ → Bool → Doing) (D D' : Doing) (mcr ier : ℕ) (f : Fields) →
    ((g : Fields) (x y : ℕ) (a b : Bool) → Does ((x ≡ y) × (a ≡ b)) g (E x a) (E y b)) → ((g : Fields) → Does C g D D') →
    Does C f (Inside E D mcr ier) (Inside E D' mcr ier)
inside_determined {C} E D D' mcr ier f enters during = record { at = λ l m a b p q. (parts p.0 q.0 p.1 q.1).at l m a b p.2 q.2 }
  where
    parts : (x y : ℕ) (a b : Bool) →
        Does C f (Next (E x a) (Next D (Leaves mcr ier x f.lsr))) (Next (E y b) (Next D' (Leaves mcr ier y f.lsr)))
    parts x y a b =
        does_next {G = E x a} {G' = E y b} (enters f x y a b)
        (λ same g. does_next {H = Leaves mcr ier x f.lsr} {H' = Leaves mcr ier y f.lsr} (during g)
        (λ out h. does_so (λ z. out) (leaves_determined mcr ier x y f.lsr h same.0)))

tests_determined : (mcr ier : ℕ) (r t : Outcome) (f : Fields) → Does (r ≡ t) f (Tests mcr ier r) (Tests mcr ier t)
tests_determined mcr ier r t f =
    inside_determined Enters (Saving (Exchanges r)) (Saving (Exchanges t)) mcr ier f enters_determined
    (λ g. does_saving g (Exchanges r) (Exchanges t) (exchanges_determined (settings_of g) r t))

-- before the loopback
opening : (s : Settings) (mcr ier mcr' ier' : ℕ) →
    Determined ((mcr ≡ mcr') × (ier ≡ ier')) (Only (Read offsets.MCR mcr ∷ Read offsets.IER ier ∷ []) s)
    (Only (Read offsets.MCR mcr' ∷ Read offsets.IER ier' ∷ []) s)
opening s mcr ier mcr' ier' = record { at = λ l m p q. so_is p.is q.is (so_read (λ same. so_reads)) }

begins_test_determined : (s : Settings) (mcr ier mcr' ier' : ℕ) (x y : Bool) →
    Determined ((mcr ≡ mcr') × (ier ≡ ier') × (x ≡ y)) (BeginsTest mcr ier x s) (BeginsTest mcr' ier' y s)
begins_test_determined s mcr ier mcr' ier' x y =
    determined_then (opening s mcr ier mcr' ier')
    (λ same. determined_so (λ t. (same.0, same.1, t)) (waits_determined s LSR.TRANSMITTER_EMPTY.0 x y))

-- what follows the first wait, where MCR and IER were the same
follows_at : {C : Type 0} (G G' : ℕ → ℕ → Doing) (mcr ier mcr' ier' : ℕ) (f : Fields) → Does C f (G mcr ier) (G' mcr ier) →
    mcr ≡ mcr' → ier ≡ ier' → Does C f (G mcr ier) (G' mcr' ier')
follows_at {C} G G' mcr ier mcr' ier' f h p q =
    let M : ℕ → Type 0 = λ z. Does C f (G mcr ier) (G' z ier) in
    let N : ℕ → Type 0 = λ z. Does C f (G mcr ier) (G' mcr' z) in
    subst N q (subst M p h)

first_wait : (f : Fields) (mcr ier mcr' ier' : ℕ) (H : Doing) →
    Does ⊥ f (Next (Saving (BeginsTest mcr ier true)) H) (Saving (BeginsTest mcr' ier' false))
first_wait f mcr ier mcr' ier' H =
    does_front {H = H} (does_saving f (BeginsTest mcr ier true) (BeginsTest mcr' ier' false)
    (determined_so (λ t. not_both t.2) (begins_test_determined (settings_of f) mcr ier mcr' ier' true false)))

pub from_empty_determined : {C X Y : Type 0} (G G' : ℕ → ℕ → Doing) (f : Fields) → (X → Y → C) →
    ((g : Fields) (mcr ier : ℕ) → Does C g (G mcr ier) (G' mcr ier)) → Does C f (FromEmpty X G) (FromEmpty Y G')
from_empty_determined {C} {X} {Y} G G' f stalled follows = record { at = λ l m a b p q. at l m a b p.0 p.1 q.0 q.1 p.2 q.2 }
  where
    at : (l m : List Access) (a b : Fields) (mcr ier mcr' ier' : ℕ) →
        (X × Saving (BeginsTest mcr ier false) f l a) ⊎ Next (Saving (BeginsTest mcr ier true)) (G mcr ier) f l a →
        (Y × Saving (BeginsTest mcr' ier' false) f m b) ⊎ Next (Saving (BeginsTest mcr' ier' true)) (G' mcr' ier') f m b →
        SameOrPart (C × (a ≡ b)) l m
    at l m a b mcr ier mcr' ier' (inl p) (inl q) =
        (does_so (λ x. stalled p.0 q.0) (does_saving f (BeginsTest mcr ier false) (BeginsTest mcr' ier' false)
        (begins_test_determined (settings_of f) mcr ier mcr' ier' false false))).at l m a b p.1 q.1
    at l m a b mcr ier mcr' ier' (inl p) (inr q) = (does_sym (first_wait f mcr' ier' mcr ier (G' mcr' ier'))).at l m a b p.1 q
    at l m a b mcr ier mcr' ier' (inr p) (inl q) = (does_so absurd (first_wait f mcr ier mcr' ier' (G mcr ier))).at l m a b p q.1
    at l m a b mcr ier mcr' ier' (inr p) (inr q) =
        (does_next {G = Saving (BeginsTest mcr ier true)} {G' = Saving (BeginsTest mcr' ier' true)} {H = G mcr ier} {H' = G' mcr' ier'}
        (does_saving f (BeginsTest mcr ier true) (BeginsTest mcr' ier' true)
        (begins_test_determined (settings_of f) mcr ier mcr' ier' true true))
        (λ same g. follows_at G G' mcr ier mcr' ier' g (follows g mcr ier) same.0 same.1)).at l m a b p q

stalls : (r : Outcome) → IsStalled r → r ≡ Err Stalled
stalls (Ok x) h = absurd h
stalls (Err e) h = ap (λ (z : LoopbackError). let r : Outcome = Err z in r) h

pub tests_loopback_determined : (f : Fields) (r t : Outcome) → Does (r ≡ t) f (TestsLoopback r) (TestsLoopback t)
tests_loopback_determined f r t =
    from_empty_determined (λ mcr ier. Tests mcr ier r) (λ mcr ier. Tests mcr ier t) f (λ p q. stalls r p ∙ sym (stalls t q))
    (λ g mcr ier. tests_determined mcr ier r t g)
