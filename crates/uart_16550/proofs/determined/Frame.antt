-- The calls that change the frame or the outputs, and `attach`, are determined.
use Rattle.std.proofs.Common.{◌≡◌, ◌<◌, ℕ, ◌+◌, ◌*◌, Bool, true, false, refl, sym, ◌∙◌, ap, inl, Result, Ok, Err, arith}
use Rattle.uart_spec.specs.Config.{IsComputable}
use Rattle.uart_spec.specs.declared.config.Config.{Config}
use Rattle.uart_spec.specs.declared.errors.AttachError.{AttachError}
use Rattle.uart_spec.specs.declared.errors.AttachError.TheVariants.{DivisorLatchOpen, Loopback, NoDivisor}
use Rattle.uart_spec.specs.declared.errors.InvalidDivisorError.{InvalidDivisorError}
use Rattle.uart_spec.specs.declared.registers.offsets.TheConstants as offsets
use Rattle.uart_spec.specs.declared.registers.interrupt_status.TheConstants.ISR
use Rattle.uart_spec.specs.declared.registers.line_control.TheConstants.LCR
use Rattle.uart_spec.specs.declared.registers.modem_control.TheConstants.MCR
use Rattle.uart_16550.specs.Grammar.{Settings, Only, Modifies}
use Rattle.uart_16550.specs.Driver.{Doing, Fields, Saving, Sets, Next, settings_of, with_fifo}
use Rattle.uart_16550.specs.Init.{frame_bits}
use Rattle.uart_16550.specs.Frame.{frame_writes, with_frame, SetsFrame}
use Rattle.uart_16550.specs.Attach.{FindsLatch, FindsLoopback, FindsDivisor, FindsPort, Attaches}
use Rattle.uart_16550.proofs.determined.Parting.{Determined, so, so_is, so_read, so_write, determined_so, determined_sym, determined_then}
use Rattle.uart_16550.proofs.determined.Parting.{determined_front, determined_only, asks_determined, asks_apart, asks_same}
use Rattle.uart_16550.proofs.determined.Doings.{Does, does_so, does_sym, does_next, does_front, does_saving, does_set}
use Rattle.uart_16550.proofs.determined.Status.{divisor_determined}
use Rattle.uart_16550.proofs.determined.Init.{divisors_same, divisor_one, no_divisor}

-- a register that is read and written with its answer changed
pub modifies_determined : (s : Settings) (register : ℕ) (change : ℕ → ℕ) (x y : Unit {0}) →
    Determined (x ≡ y) (Modifies register change s) (Modifies register change s)
modifies_determined s register change x y = record {
  at = λ l m p q. so_is p.1 q.1 (so (λ r. refl) (so_read (λ same. so_write (ap change same) (inl (tt {0}, refl)))));
}

-- ---- `set_frame`

abbrev Writes : Config → ℕ → Doing
Writes config divisor = Next (Sets (with_frame config)) (Saving (Only (frame_writes divisor (frame_bits config))))

writes_determined : (f : Fields) (config : Config) (d e : ℕ) → d ≡ e → Does (Unit {0}) f (Writes config d) (Writes config e)
writes_determined f config d e same =
    does_next (does_set f (with_frame config))
    (λ t g. does_saving g (Only (frame_writes d (frame_bits config))) (Only (frame_writes e (frame_bits config)))
    (determined_only (ap (λ (n : ℕ). frame_writes n (frame_bits config)) same)))

abbrev refusal : Result ℕ InvalidDivisorError → Result (Unit {0}) InvalidDivisorError
refusal (Ok x) = Ok tt
refusal (Err e) = Err e

pub sets_frame_determined : (config : Config) → IsComputable config → (f : Fields) (x y : Result (Unit {0}) InvalidDivisorError) →
    Does (x ≡ y) f (SetsFrame config x) (SetsFrame config y)
sets_frame_determined config ok f (Ok x) (Ok y) = record {
  at = λ l m a b p q.
      (does_so (λ t. refl) (writes_determined f config p.0 q.0 (divisor_one config ok p.0 q.0 p.1.0 q.1.0))).at l m a b p.2 q.2;
}
sets_frame_determined config ok f (Ok x) (Err e) = record { at = λ l m a b p q. absurd (no_divisor config ok p.0 e p.1 q.0) }
sets_frame_determined config ok f (Err e) (Ok y) = record { at = λ l m a b p q. absurd (no_divisor config ok q.0 e q.1 p.0) }
sets_frame_determined config ok f (Err d) (Err e) = record {
  at = λ l m a b p q. inl ((ap refusal (divisors_same config ok (Err d) (Err e) p.0 q.0), p.2 ∙ sym q.2), p.1 ∙ sym q.1);
}

-- ---- `attach`

latch_apart : (s : Settings) → Determined ⊥ (FindsLatch false s) (FindsLatch true s)
latch_apart s = determined_sym (asks_apart offsets.LCR LCR.DLAB.0)

looped_determined : {C : Type 0} (s : Settings) (a b : Bool) → (a ≡ b → C) → Determined C (FindsLoopback a s) (FindsLoopback b s)
looped_determined s a b h =
    determined_then (asks_same offsets.LCR LCR.DLAB.0 false) (λ t. determined_so h (asks_determined offsets.MCR MCR.LOOP_BACK.0 a b))

looped_apart : (s : Settings) → Determined ⊥ (FindsLoopback false s) (FindsLoopback true s)
looped_apart s =
    determined_then (asks_same offsets.LCR LCR.DLAB.0 false) (λ t. determined_sym (asks_apart offsets.MCR MCR.LOOP_BACK.0))

found_determined : (s : Settings) (x y : ℕ × ℕ) → Determined (x ≡ y) (FindsDivisor x.0 x.1 s) (FindsDivisor y.0 y.1 s)
found_determined s x y =
    determined_then (looped_determined {C = Unit {0}} s false false (λ t. tt)) (λ t. divisor_determined s x y)

port_determined : (s : Settings) (a b : Bool) (x y : ℕ × ℕ) →
    Determined ((a ≡ b) × (x ≡ y)) (FindsPort a x.0 x.1 s) (FindsPort b y.0 y.1 s)
port_determined s a b x y =
    determined_then (found_determined s x y)
    (λ latch. determined_so (λ same. (same, latch)) (asks_determined offsets.ISR ISR.FIFOS_ENABLED.0 a b))

pub sets_fifo : (a b : Bool) (f : Fields) → a ≡ b → Does (Unit {0}) f (Sets (with_fifo a)) (Sets (with_fifo b))
sets_fifo a b f same = record { at = λ l m c d p q. inl ((tt, p.1 ∙ ap (λ (x : Bool). with_fifo x f) same ∙ sym q.1), p.0 ∙ sym q.0) }

attached_latch : (f : Fields) (a b : Bool) (x y : ℕ × ℕ) →
    Does (x ≡ y) f (Next (Saving (FindsPort a x.0 x.1)) (Sets (with_fifo a))) (Next (Saving (FindsPort b y.0 y.1)) (Sets (with_fifo b)))
attached_latch f a b x y =
    does_next (does_saving f (FindsPort a x.0 x.1) (FindsPort b y.0 y.1) (port_determined (settings_of f) a b x y))
    (λ same g. does_so (λ t. same.1) (sets_fifo a b g same.0))

-- a port that was taken, and one that was refused
taken_open : (f : Fields) (a : Bool) (x : ℕ × ℕ) →
    Does ⊥ f (Next (Saving (FindsPort a x.0 x.1)) (Sets (with_fifo a))) (Saving (FindsLatch true))
taken_open f a x =
    does_front (does_saving f (FindsPort a x.0 x.1) (FindsLatch true)
    (determined_front (determined_front (determined_front (latch_apart (settings_of f))))))

taken_looped : (f : Fields) (a : Bool) (x : ℕ × ℕ) →
    Does ⊥ f (Next (Saving (FindsPort a x.0 x.1)) (Sets (with_fifo a))) (Saving (FindsLoopback true))
taken_looped f a x =
    does_front (does_saving f (FindsPort a x.0 x.1) (FindsLoopback true)
    (determined_front (determined_front (looped_apart (settings_of f)))))

-- a latch that is not 0 is not a latch of 0
divisor_some : (x : ℕ × ℕ) → 0 < 256 * x.1 + x.0 → x ≡ (0, 0) → ⊥
divisor_some x some none =
    let low : x.0 ≡ 0 = ap (λ (p : ℕ × ℕ). p.0) none in
    let high : x.1 ≡ 0 = ap (λ (p : ℕ × ℕ). p.1) none in
    absurd (omega (arith, some, low, high))

taken_bare : (f : Fields) (a : Bool) (x : ℕ × ℕ) → 0 < 256 * x.1 + x.0 →
    Does ⊥ f (Next (Saving (FindsPort a x.0 x.1)) (Sets (with_fifo a))) (Saving (FindsDivisor 0 0))
taken_bare f a x some =
    does_front (does_saving f (FindsPort a x.0 x.1) (FindsDivisor 0 0)
    (determined_front (determined_so (divisor_some x some) (found_determined (settings_of f) x (0, 0)))))

bare_open : (f : Fields) → Does ⊥ f (Saving (FindsDivisor 0 0)) (Saving (FindsLatch true))
bare_open f = does_saving f (FindsDivisor 0 0) (FindsLatch true) (determined_front (determined_front (latch_apart (settings_of f))))

bare_looped : (f : Fields) → Does ⊥ f (Saving (FindsDivisor 0 0)) (Saving (FindsLoopback true))
bare_looped f = does_saving f (FindsDivisor 0 0) (FindsLoopback true) (determined_front (looped_apart (settings_of f)))

looped_open : (f : Fields) → Does ⊥ f (Saving (FindsLoopback true)) (Saving (FindsLatch true))
looped_open f = does_saving f (FindsLoopback true) (FindsLatch true) (determined_front (latch_apart (settings_of f)))

pub attaches_determined : (f : Fields) (x y : Result (ℕ × ℕ) AttachError) → Does (x ≡ y) f (Attaches x) (Attaches y)
attaches_determined f (Ok x) (Ok y) = record {
  at = λ l m a b p q.
      (does_so (λ same. ap (λ (z : ℕ × ℕ). let r : Result (ℕ × ℕ) AttachError = Ok z in r) same)
      (attached_latch f p.1 q.1 x y)).at l m a b p.2 q.2;
}
attaches_determined f (Ok x) (Err DivisorLatchOpen) = record {
  at = λ l m a b p q. (does_so absurd (taken_open f p.1 x)).at l m a b p.2 q;
}
attaches_determined f (Ok x) (Err Loopback) = record {
  at = λ l m a b p q. (does_so absurd (taken_looped f p.1 x)).at l m a b p.2 q;
}
attaches_determined f (Ok x) (Err NoDivisor) = record {
  at = λ l m a b p q. (does_so absurd (taken_bare f p.1 x p.0)).at l m a b p.2 q;
}
attaches_determined f (Err DivisorLatchOpen) (Ok y) = record {
  at = λ l m a b p q. (does_sym (taken_open f q.1 y)).at l m a b p q.2;
}
attaches_determined f (Err DivisorLatchOpen) (Err DivisorLatchOpen) =
    does_so (λ t. refl) (does_saving f (FindsLatch true) (FindsLatch true) (asks_same offsets.LCR LCR.DLAB.0 true))
attaches_determined f (Err DivisorLatchOpen) (Err Loopback) = does_sym (looped_open f)
attaches_determined f (Err DivisorLatchOpen) (Err NoDivisor) = does_sym (bare_open f)
attaches_determined f (Err Loopback) (Ok y) = record {
  at = λ l m a b p q. (does_sym (taken_looped f q.1 y)).at l m a b p q.2;
}
attaches_determined f (Err Loopback) (Err DivisorLatchOpen) = does_so absurd (looped_open f)
attaches_determined f (Err Loopback) (Err Loopback) =
    does_so (λ t. refl) (does_saving f (FindsLoopback true) (FindsLoopback true)
    (looped_determined {C = Unit {0}} (settings_of f) true true (λ t. tt)))
attaches_determined f (Err Loopback) (Err NoDivisor) = does_sym (bare_looped f)
attaches_determined f (Err NoDivisor) (Ok y) = record {
  at = λ l m a b p q. (does_sym (taken_bare f q.1 y q.0)).at l m a b p q.2;
}
attaches_determined f (Err NoDivisor) (Err DivisorLatchOpen) = does_so absurd (bare_open f)
attaches_determined f (Err NoDivisor) (Err Loopback) = does_so absurd (bare_looped f)
attaches_determined f (Err NoDivisor) (Err NoDivisor) =
    does_so (λ t. refl) (does_saving f (FindsDivisor 0 0) (FindsDivisor 0 0) (found_determined (settings_of f) (0, 0) (0, 0)))
