-- What a stretch of a session does to the receiver, as steps of a port: the one place where the machine is looked into.
use Rattle.std.proofs.Common.{◌≡◌, ℕ, ◌≤◌, ◌<◌, Bool, true, false, ◌||◌, ◌⊎◌, inl, inr, List, [], ◌∷◌, ◌++◌, length, map, refl}
use Rattle.std.proofs.Common.{sym, ◌∙◌, ap, append_assoc, bit_or}
use Rattle.std.proofs.lemmas.List.{map-append, length-map}
use Rattle.uart_chip.specs.declared.receiver.Character.{Character}
use Rattle.uart_chip.specs.Port.{Port, Step, DoesAll, sent_in, received_in, came_in, told_in}
use Rattle.uart_chip.specs.Transmitter.{room}
use Rattle.uart_chip.specs.Receiver.{ReceiverState, waiting}
use Rattle.uart_spec.specs.Bits.{has_any}
use Rattle.uart_spec.specs.declared.registers.line_status.TheConstants.LSR
use Rattle.uart_chip.proofs.Bits.{has_or, has_none}

-- ---- lists of steps

pub does_all-append : (p q o : Port) (xs ys : List Step) → DoesAll p xs q → DoesAll q ys o → DoesAll p (xs ++ ys) o
does_all-append p q o [] ys h k = rw h at k
does_all-append p q o (x ∷ xs) ys h k = (h.0, h.1, does_all-append h.0 q o xs ys h.2 k)

pub sent-append : (xs ys : List Step) → sent_in (xs ++ ys) ≡ sent_in xs ++ sent_in ys
sent-append [] ys = refl
sent-append (Step.Sends bytes ∷ xs) ys = ap (λ zs. bytes ++ zs) (sent-append xs ys) ∙ sym (append_assoc bytes (sent_in xs) (sent_in ys))
sent-append (_ ∷ xs) ys = sent-append xs ys

pub received-append : (xs ys : List Step) → received_in (xs ++ ys) ≡ received_in xs ++ received_in ys
received-append [] ys = refl
received-append (Step.Receives bytes ∷ xs) ys =
    ap (λ zs. bytes ++ zs) (received-append xs ys) ∙ sym (append_assoc bytes (received_in xs) (received_in ys))
received-append (_ ∷ xs) ys = received-append xs ys

pub came-append : (xs ys : List Step) → came_in (xs ++ ys) ≡ came_in xs ++ came_in ys
came-append [] ys = refl
came-append (Step.Arrives byte ∷ xs) ys = ap (λ zs. byte ∷ zs) (came-append xs ys)
came-append (Step.LosesNew byte ∷ xs) ys = ap (λ zs. byte ∷ zs) (came-append xs ys)
came-append (Step.LosesOld byte ∷ xs) ys = ap (λ zs. byte ∷ zs) (came-append xs ys)
came-append (_ ∷ xs) ys = came-append xs ys

pub told-append : (xs ys : List Step) → told_in (xs ++ ys) ≡ told_in xs ++ told_in ys
told-append [] ys = refl
told-append (Step.Tells overrun ∷ xs) ys = ap (λ zs. overrun ∷ zs) (told-append xs ys)
told-append (_ ∷ xs) ys = told-append xs ys

-- ---- a receiver as a port

abbrev byte_of : Character → ℕ
byte_of character = character.byte

abbrev pub overrun_in : ℕ → Bool
overrun_in seen = has_any seen LSR.OVERRUN_ERROR.0

abbrev pub port : (out waiting : List ℕ) (lost fifo : Bool) (room : ℕ) → Port
port out waiting lost fifo room = record { out = out; waiting = waiting; lost = lost; fifo = fifo; room = room }

-- behind this output, where this was saved of an overrun
abbrev pub inbox : Bool → List ℕ → Bool → ReceiverState → Port
inbox fifo out saved r = port out (waiting r) (r.is_overrun || saved) fifo (room fifo r.size)

pub port-same : (o : List ℕ) (fifo : Bool) {w v : List ℕ} {l m : Bool} {n k : ℕ} → w ≡ v → l ≡ m → n ≡ k →
    port o w l fifo n ≡ port o v m fifo k
port-same o fifo p q r = λ i. port o (p i) (q i) fifo (r i)

-- from r to s the port made these steps: these came in, those were taken, and the line status showed these bits
pub record Stepped (fifo : Bool) (r s : ReceiverState) (entering takes : List Character) (seen : ℕ) : Type 0 where
  pub steps : List Step
  pub leads : (o : List ℕ) (saved : Bool) → DoesAll (inbox fifo o saved r) steps (inbox fifo o (saved || overrun_in seen) s)
  pub came : came_in steps ≡ map (λ character. character.byte) entering
  pub received : received_in steps ≡ map (λ character. character.byte) takes
  pub sent : sent_in steps ≡ []
  pub told : told_in steps ≡ []

or3 : (a b c : Bool) → ((a || b) || c) ≡ (a || (b || c))
or3 true b c = refl
or3 false b c = refl

or-none : (a : Bool) → (a || false) ≡ a
or-none true = refl
or-none false = refl

or-all : (a : Bool) → (a || true) ≡ true
or-all true = refl
or-all false = refl

pub stepped-trans : (fifo : Bool) (r s t : ReceiverState) (f g xs ys : List Character) (a b : ℕ) → Stepped fifo r s f xs a →
    Stepped fifo s t g ys b → Stepped fifo r t (f ++ g) (xs ++ ys) (bit_or a b)
stepped-trans fifo r s t f g xs ys a b p q = record {
  steps = p.steps ++ q.steps;
  leads = λ o saved.
      let both : ((saved || overrun_in a) || overrun_in b) ≡ (saved || overrun_in (bit_or a b)) =
      or3 saved (overrun_in a) (overrun_in b) ∙ ap (λ v. saved || v) (sym (has_or 1 a b)) in
      let whole = does_all-append (inbox fifo o saved r) (inbox fifo o (saved || overrun_in a) s)
      (inbox fifo o ((saved || overrun_in a) || overrun_in b) t) p.steps q.steps (p.leads o saved) (q.leads o (saved || overrun_in a)) in
      rw both at whole;
  came = came-append p.steps q.steps ∙ (rw (p.came, q.came) (sym (map-append byte_of f g)));
  received = received-append p.steps q.steps ∙ (rw (p.received, q.received) (sym (map-append byte_of xs ys)));
  sent = sent-append p.steps q.steps ∙ rw (p.sent, q.sent) refl;
  told = told-append p.steps q.steps ∙ rw (p.told, q.told) refl;
}

-- ---- nothing comes in or is taken

same_lost : (a b c saved : Bool) → (c ≡ true → (b ≡ true) ⊎ (a ≡ true)) → ((b ≡ true) ⊎ (a ≡ true) → c ≡ true) →
    (a || (saved || b)) ≡ (c || saved)
same_lost true b c saved f g = let e : c ≡ true = g (inr refl) in rw e refl
same_lost false true c saved f g = let e : c ≡ true = g (inl refl) in rw e (or-all saved)
same_lost false false true saved f g = none (f refl)
  where
    none : (false ≡ true) ⊎ (false ≡ true) → (saved || false) ≡ true
    none (inl e) = absurd (cc)
    none (inr e) = absurd (cc)
same_lost false false false saved f g = or-none saved

pub stepped-same : (fifo : Bool) (r s : ReceiverState) (seen : ℕ) → s.queue ≡ r.queue → s.size ≡ r.size →
    (r.is_overrun ≡ true → (overrun_in seen ≡ true) ⊎ (s.is_overrun ≡ true)) →
    ((overrun_in seen ≡ true) ⊎ (s.is_overrun ≡ true) → r.is_overrun ≡ true) → Stepped fifo r s [] [] seen
stepped-same fifo r s seen queue size f g = record {
  steps = [];
  leads = λ o saved. port-same o fifo (ap (map byte_of) queue) (same_lost s.is_overrun (overrun_in seen) r.is_overrun saved f g)
      (ap (room fifo) size);
  came = refl;
  received = refl;
  sent = refl;
  told = refl;
}

still_lost : (a c saved : Bool) → a ≡ c → (a || (saved || overrun_in 0)) ≡ (c || saved)
still_lost a c saved e = rw (e, has_none 1) (ap (λ v. c || v) (or-none saved))

pub stepped-still : (fifo : Bool) (r s : ReceiverState) → s.queue ≡ r.queue → s.size ≡ r.size → s.is_overrun ≡ r.is_overrun →
    Stepped fifo r s [] [] 0
stepped-still fifo r s queue size overrun = record {
  steps = [];
  leads = λ o saved. port-same o fifo (ap (map byte_of) queue) (still_lost s.is_overrun r.is_overrun saved overrun) (ap (room fifo) size);
  came = refl;
  received = refl;
  sent = refl;
  told = refl;
}

-- ---- an arrival

pub stepped-room : (fifo : Bool) (r s : ReceiverState) (new : Character) → length r.queue < room fifo r.size →
    s.queue ≡ r.queue ++ new ∷ [] → s.size ≡ r.size → s.is_overrun ≡ r.is_overrun → Stepped fifo r s (new ∷ []) [] 0
stepped-room fifo r s new free queue size overrun = record {
  steps = Step.Arrives new.byte ∷ [];
  leads = λ o saved. (
    inbox fifo o (saved || overrun_in 0) s,
    (
      rw (length-map r.queue byte_of) free,
      port-same o fifo (ap (map byte_of) queue ∙ map-append byte_of r.queue (new ∷ []))
          (still_lost s.is_overrun r.is_overrun saved overrun) (ap (room fifo) size),
    ),
    refl,
  );
  came = refl;
  received = refl;
  sent = refl;
  told = refl;
}

pub stepped-full : (r s : ReceiverState) (new : Character) → room true r.size ≤ length r.queue → s.queue ≡ r.queue → s.size ≡ r.size →
    s.is_overrun ≡ true → Stepped true r s (new ∷ []) [] 0
stepped-full r s new full queue size overrun = record {
  steps = Step.LosesNew new.byte ∷ [];
  leads = λ o saved. (
    inbox true o (saved || overrun_in 0) s,
    (
      refl,
      rw (length-map r.queue byte_of) full,
      port-same o true (ap (map byte_of) queue) (ap (λ v. v || (saved || overrun_in 0)) overrun) (ap (room true) size),
    ),
    refl,
  );
  came = refl;
  received = refl;
  sent = refl;
  told = refl;
}

pub stepped-replaced : (r s : ReceiverState) (old new : Character) → r.queue ≡ old ∷ [] → s.queue ≡ new ∷ [] → s.size ≡ r.size →
    s.is_overrun ≡ true → Stepped false r s (new ∷ []) [] 0
stepped-replaced r s old new before queue size overrun = record {
  steps = Step.LosesOld new.byte ∷ [];
  leads = λ o saved. (
    inbox false o (saved || overrun_in 0) s,
    (
      refl,
      (
        old.byte,
        ap (map byte_of) before,
        port-same o false (ap (map byte_of) queue) (ap (λ v. v || (saved || overrun_in 0)) overrun) (ap (room false) size),
      ),
    ),
    refl,
  );
  came = refl;
  received = refl;
  sent = refl;
  told = refl;
}

-- ---- the front is taken

pub stepped-front : (fifo : Bool) (r s : ReceiverState) (front : Character) (others : List Character) → r.queue ≡ front ∷ others →
    s.queue ≡ others → s.size ≡ r.size → s.is_overrun ≡ r.is_overrun → Stepped fifo r s [] (front ∷ []) 0
stepped-front fifo r s front others i queue size overrun = record {
  steps = Step.Receives (front.byte ∷ []) ∷ [];
  leads = λ o saved. (
    inbox fifo o (saved || overrun_in 0) s,
    (
      ap (map byte_of) i ∙ ap (λ (xs : List Character). front.byte ∷ map byte_of xs) (sym queue),
      port-same o fifo refl (still_lost s.is_overrun r.is_overrun saved overrun) (ap (room fifo) size),
    ),
    refl,
  );
  came = refl;
  received = refl;
  sent = refl;
  told = refl;
}
