-- The presence check and the initialisation are determined.
use Rattle.std.proofs.Common.{◌≡◌, ◌<◌, ◌+◌, ◌*◌, ◌/◌, ℕ, Bool, true, false, List, [], ◌∷◌, refl, sym, ◌∙◌, ap, subst, arith, inl, inr}
use Rattle.std.proofs.Common.{◌==◌, Result, Ok, Err, Option, Some, None}
use Rattle.std.proofs.Math.Nat.{mul-div_cancel_left, mul-pos}
use Rattle.uart_spec.specs.Baud.{frequency_of, prescaler}
use Rattle.uart_spec.specs.BaudRate.{to_integer}
use Rattle.uart_spec.specs.Config.{IsComputable}
use Rattle.uart_spec.specs.declared.config.Config.{Config}
use Rattle.uart_spec.specs.declared.registers.fifo_trigger_level.FifoTriggerLevel.{FifoTriggerLevel}
use Rattle.uart_spec.specs.declared.errors.InvalidDivisorError.{InvalidDivisorError}
use Rattle.uart_spec.specs.declared.errors.InvalidDivisorError.TheVariants.{NonInteger, OutOfRange}
use Rattle.uart_spec.specs.declared.errors.InitError.{InitError}
use Rattle.uart_spec.specs.declared.errors.InitError.TheVariants.{InvalidBaudRate, DeviceNotPresent, Stalled}
use Rattle.uart_spec.specs.declared.registers.offsets.TheConstants as offsets
use Rattle.uart_spec.specs.declared.registers.interrupt_status.TheConstants.ISR
use Rattle.uart_spec.specs.declared.registers.line_status.TheConstants.LSR
use Rattle.uart_spec.specs.declared.access.Access.{Access}
use Rattle.uart_spec.specs.declared.access.Access.TheVariants.{Read, Write}
use Rattle.uart_16550.specs.Grammar.{Language, Settings, Only, Then, ReadsRegister}
use Rattle.uart_16550.specs.Receive.{Miss}
use Rattle.uart_16550.specs.Transmit.{WaitsFor}
use Rattle.uart_16550.specs.Driver.{Doing, Fields, Saving, Plain, Sets, Next, settings_of, with_config, with_fifo, with_saved}
use Rattle.uart_16550.specs.Init.{first_pattern, second_pattern, Keeps, KeepsPatterns, ChecksPresence, line_writes, frame_bits, SetsFifo}
use Rattle.uart_16550.specs.Init.{Discards, most_waiting, DrainsReceiver, raised_outputs, Begins, Ends, DivisorOf, Inits}
use Rattle.uart_16550.proofs.determined.Parting.{SameOrPart, Determined, so, so_is, so_write, so_reads, determined_so, determined_sym}
use Rattle.uart_16550.proofs.determined.Parting.{determined_then, determined_front, determined_only, read_determined, reads_determined}
use Rattle.uart_16550.proofs.determined.Parting.{asks_determined, asks_apart, asks_same, not_both}
use Rattle.uart_16550.proofs.determined.Repeated.{Misses, times_same, times_hit, times_all}
use Rattle.uart_16550.proofs.determined.Receive.{miss_same}
use Rattle.uart_16550.proofs.determined.Transmit.{waits_determined}
use Rattle.uart_16550.proofs.determined.Doings.{Does, does_so, does_sym, does_next, does_front, does_saving, does_plain, does_set}

-- the presence check
keeps_determined : (s : Settings) (pattern : ℕ) (a b : Bool) → Determined (a ≡ b) (Keeps pattern a s) (Keeps pattern b s)
keeps_determined s pattern a b = record {
  at = λ l m p q. so_is p.2 q.2 (so (λ same. sym p.1 ∙ ap (λ (n : ℕ). n == pattern) same ∙ q.1) (so_write refl so_reads));
}

kept_then : (s : Settings) (a b : Bool) →
    Determined (a ≡ b) (Then (Keeps first_pattern true) (Keeps second_pattern a) s)
    (Then (Keeps first_pattern true) (Keeps second_pattern b) s)
kept_then s a b = determined_then (keeps_determined s first_pattern true true) (λ x. keeps_determined s second_pattern a b)

-- the first pattern is kept, and not kept
kept_lost : (s : Settings) (a : Bool) →
    Determined ⊥ (Then (Keeps first_pattern true) (Keeps second_pattern a) s) (Keeps first_pattern false s)
kept_lost s a = determined_front (determined_so not_both (keeps_determined s first_pattern true false))

patterns_apart : (s : Settings) → Determined ⊥ (KeepsPatterns true s) (KeepsPatterns false s)
patterns_apart s = record { at = at }
  where
    at : (l m : List Access) → KeepsPatterns true s l → KeepsPatterns false s m → SameOrPart ⊥ l m
    at l m p (inl q) = (kept_lost s true).at l m p q
    at l m p (inr q) = so not_both ((kept_then s true false).at l m p q)

patterns_determined : (s : Settings) (a b : Bool) → Determined (a ≡ b) (KeepsPatterns a s) (KeepsPatterns b s)
patterns_determined s true true = kept_then s true true
patterns_determined s true false = determined_so absurd (patterns_apart s)
patterns_determined s false true = determined_sym (patterns_apart s)
patterns_determined s false false = record { at = at }
  where
    at : (l m : List Access) → KeepsPatterns false s l → KeepsPatterns false s m → SameOrPart (false ≡ false) l m
    at l m (inl p) (inl q) = (keeps_determined s first_pattern false false).at l m p q
    at l m (inl p) (inr q) = (determined_sym (kept_lost s false)).at l m p q
    at l m (inr p) (inl q) = so absurd ((kept_lost s false).at l m p q)
    at l m (inr p) (inr q) = (kept_then s false false).at l m p q

pub presence_determined : (s : Settings) (a b : Bool) → Determined (a ≡ b) (ChecksPresence a s) (ChecksPresence b s)
presence_determined s a b = record { at = λ l m p q. (at p.0 q.0).at l m p.1 q.1 }
  where
    at : (x y : ℕ) → Determined (a ≡ b) (Then (Only (Read offsets.SPR x ∷ [])) (Then (KeepsPatterns a) (Only (Write offsets.SPR x ∷ []))) s)
        (Then (Only (Read offsets.SPR y ∷ [])) (Then (KeepsPatterns b) (Only (Write offsets.SPR y ∷ []))) s)
    at x y =
        determined_then (read_determined offsets.SPR x y)
        (λ same. determined_then (patterns_determined s a b)
        (λ k. determined_so (λ t. k) (determined_only (ap (λ (n : ℕ). Write offsets.SPR n ∷ []) same))))

-- the FIFO step and the drain
pub fifo_determined : (s : Settings) (level : Option FifoTriggerLevel) (a b : Bool) →
    Determined (a ≡ b) (SetsFifo level a s) (SetsFifo level b s)
fifo_determined s None a b = record { at = λ l m p q. inl (p.0 ∙ sym q.0, p.1 ∙ sym q.1) }
fifo_determined s (Some level) a b = determined_then (determined_only refl) (λ x. asks_determined offsets.ISR ISR.FIFOS_ENABLED.0 a b)

discards : (s : Settings) → Misses s Discards Miss
discards s =
    record {
      same = determined_then (asks_same offsets.LSR LSR.DATA_READY.0 true) (λ x. reads_determined s offsets.DATA);
      apart = determined_front (asks_apart offsets.LSR LSR.DATA_READY.0);
    }

pub drains_same : (s : Settings) → Determined (Unit {0}) (DrainsReceiver s) (DrainsReceiver s)
drains_same s = record { at = at }
  where
    at : (l m : List Access) → DrainsReceiver s l → DrainsReceiver s m → SameOrPart (Unit {0}) l m
    at l m (inl p) (inl q) = (times_same s Discards (discards s).same most_waiting).at l m p q
    at l m (inl p) (inr q) = (determined_sym (times_all s Discards Miss (discards s) q.0 most_waiting q.1)).at l m p q.2
    at l m (inr p) (inl q) = so absurd ((times_all s Discards Miss (discards s) p.0 most_waiting p.1).at l m p.2 q)
    at l m (inr p) (inr q) = (times_hit s Discards Miss Miss (discards s) (discards s) (miss_same s) p.0 q.0).at l m p.2 q.2

-- after the FIFO step
abbrev Drained : Bool → Doing
Drained fifo = Next (Sets (with_fifo fifo)) (Next (Plain DrainsReceiver) (Saving (Only (Write offsets.MCR raised_outputs ∷ []))))

drained_same : (f : Fields) (fifo : Bool) → Does (Unit {0}) f (Drained fifo) (Drained fifo)
drained_same f fifo =
    does_next (does_set f (with_fifo fifo))
    (λ x g. does_next (does_plain g DrainsReceiver DrainsReceiver (drains_same (settings_of g)))
    (λ y h. does_saving h (Only (Write offsets.MCR raised_outputs ∷ [])) (Only (Write offsets.MCR raised_outputs ∷ []))
    (determined_only refl)))

drained_determined : (f : Fields) (a b : Bool) → a ≡ b → Does (a ≡ b) f (Drained a) (Drained b)
drained_determined f a b same =
    let M : Bool → Type 0 = λ z. Does (a ≡ z) f (Drained a) (Drained z) in subst M same (does_so (λ x. refl) (drained_same f a))

-- before it
abbrev Lined : Config → ℕ → Bool → Language
Lined config divisor fifo =
    Then (ChecksPresence true) (Then (Only (line_writes divisor (frame_bits config))) (SetsFifo config.fifo_trigger_level fifo))

lined_determined : (s : Settings) (config : Config) (divisor : ℕ) (a b : Bool) →
    Determined (a ≡ b) (Lined config divisor a s) (Lined config divisor b s)
lined_determined s config divisor a b =
    determined_then (presence_determined s true true)
    (λ x. determined_then (determined_only refl) (λ y. fifo_determined s config.fifo_trigger_level a b))

begins_determined : (f : Fields) (config : Config) (divisor : ℕ) (a b : Bool) →
    Does (a ≡ b) f (Begins config divisor a) (Begins config divisor b)
begins_determined f config divisor a b =
    does_next (does_set f (with_config config))
    (λ x g. does_next (does_saving g (Lined config divisor a) (Lined config divisor b)
    (lined_determined (settings_of g) config divisor a b))
    (λ same h. drained_determined h a b same))

-- no device
abbrev Absent : Config → Doing
Absent config = Next (Sets (with_config config)) (Saving (ChecksPresence false))

begins_absent : (f : Fields) (config : Config) (divisor : ℕ) (fifo : Bool) → Does ⊥ f (Begins config divisor fifo) (Absent config)
begins_absent f config divisor fifo =
    does_next (does_set f (with_config config))
    (λ x g. does_front (does_saving g (Lined config divisor fifo) (ChecksPresence false)
    (determined_front (determined_so not_both (presence_determined (settings_of g) true false)))))

absent_same : (f : Fields) (config : Config) → Does (Unit {0}) f (Absent config) (Absent config)
absent_same f config =
    does_next (does_set f (with_config config))
    (λ x g. does_saving g (ChecksPresence false) (ChecksPresence false)
    (determined_so (λ t. tt) (presence_determined (settings_of g) false false)))

-- the wait and the end
pub ends_same : (f : Fields) (config : Config) → Does (Unit {0}) f (Ends config) (Ends config)
ends_same f config =
    let L = Then (ReadsRegister offsets.LSR) (Then (ReadsRegister offsets.ISR) (ReadsRegister offsets.MSR)) in
    let W = Only (Write offsets.IER config.interrupts.0 ∷ []) in
    does_next (does_plain f L L
    (let s = settings_of f in determined_then (reads_determined s offsets.LSR)
    (λ x. determined_then (reads_determined s offsets.ISR) (λ y. reads_determined s offsets.MSR))))
    (λ x g. does_next (does_set g (with_saved 0 0)) (λ y h. does_saving h W W (determined_only refl)))

abbrev Finishes : Config → Bool → Doing
Finishes config true = Next (Saving (WaitsFor LSR.TRANSMITTER_EMPTY.0 true)) (Ends config)
Finishes config false = Saving (WaitsFor LSR.TRANSMITTER_EMPTY.0 false)

finishes_apart : (f : Fields) (config : Config) → Does ⊥ f (Finishes config true) (Finishes config false)
finishes_apart f config =
    does_front
    (does_saving f (WaitsFor LSR.TRANSMITTER_EMPTY.0 true) (WaitsFor LSR.TRANSMITTER_EMPTY.0 false)
    (determined_so not_both (waits_determined (settings_of f) LSR.TRANSMITTER_EMPTY.0 true false)))

finishes_determined : (f : Fields) (config : Config) (x y : Bool) → Does (x ≡ y) f (Finishes config x) (Finishes config y)
finishes_determined f config true true =
    does_so (λ t. refl)
    (does_next
    (does_saving f (WaitsFor LSR.TRANSMITTER_EMPTY.0 true) (WaitsFor LSR.TRANSMITTER_EMPTY.0 true)
    (waits_determined (settings_of f) LSR.TRANSMITTER_EMPTY.0 true true)) (λ x g. ends_same g config))
finishes_determined f config true false = does_so absurd (finishes_apart f config)
finishes_determined f config false true = does_sym (finishes_apart f config)
finishes_determined f config false false =
    does_saving f (WaitsFor LSR.TRANSMITTER_EMPTY.0 false) (WaitsFor LSR.TRANSMITTER_EMPTY.0 false)
    (waits_determined (settings_of f) LSR.TRANSMITTER_EMPTY.0 false false)

abbrev Tries : Config → ℕ → (fifo empty : Bool) → Doing
Tries config divisor fifo empty = Next (Begins config divisor fifo) (Finishes config empty)

tries_determined : (f : Fields) (config : Config) (d e : ℕ) (a b x y : Bool) → d ≡ e →
    Does (x ≡ y) f (Tries config d a x) (Tries config e b y)
tries_determined f config d e a b x y same =
    let M : ℕ → Type 0 = λ z. Does (x ≡ y) f (Tries config d a x) (Tries config z b y) in
    subst M same (does_next (begins_determined f config d a b) (λ k g. finishes_determined g config x y))

tries_absent : (f : Fields) (config : Config) (divisor : ℕ) (fifo empty : Bool) → Does ⊥ f (Tries config divisor fifo empty) (Absent config)
tries_absent f config divisor fifo empty = does_front (begins_absent f config divisor fifo)

-- one divisor
factor_cancels : (k d e : ℕ) → 0 < k → k * d ≡ k * e → d ≡ e
factor_cancels k d e some same = sym (mul-div_cancel_left d some) ∙ ap (λ (n : ℕ). n / k) same ∙ mul-div_cancel_left e some

clock : Config → ℕ
clock config = 16 * (prescaler config.prescaler_division_factor + 1) * to_integer config.baud_rate

clock_runs : (config : Config) → IsComputable config → 0 < clock config
unfolding clock
clock_runs config ok = mul-pos (mul-pos (omega arith) (omega arith)) ok.baud_rate

pub divisor_one : (config : Config) → IsComputable config → (d e : ℕ) →
    frequency_of (to_integer config.baud_rate) d config.prescaler_division_factor ≡ config.frequency →
    frequency_of (to_integer config.baud_rate) e config.prescaler_division_factor ≡ config.frequency → d ≡ e
unfolding clock
divisor_one config ok d e p q = factor_cancels (clock config) d e (clock_runs config ok) (p ∙ sym q)

pub divisors_same : (config : Config) → IsComputable config → (a b : Result ℕ InvalidDivisorError) → DivisorOf config a →
    DivisorOf config b →
    a ≡ b
divisors_same config ok (Ok d) (Ok e) p q =
    ap (λ (x : ℕ). let r : Result ℕ InvalidDivisorError = Ok x in r) (divisor_one config ok d e p.0 q.0)
divisors_same config ok (Ok d) (Err (OutOfRange e)) p q = absurd (omega (arith, p.2, q.1, divisor_one config ok d e p.0 q.0))
divisors_same config ok (Ok d) (Err (NonInteger e)) p q = absurd (q.0 d p.0)
divisors_same config ok (Err (OutOfRange d)) (Ok e) p q = absurd (omega (arith, p.1, q.2, divisor_one config ok d e p.0 q.0))
divisors_same config ok (Err (OutOfRange d)) (Err (OutOfRange e)) p q =
    ap (λ (x : ℕ). let r : Result ℕ InvalidDivisorError = Err (OutOfRange x) in r) (divisor_one config ok d e p.0 q.0)
divisors_same config ok (Err (OutOfRange d)) (Err (NonInteger e)) p q = absurd (q.0 d p.0)
divisors_same config ok (Err (NonInteger d)) (Ok e) p q = absurd (p.0 e q.0)
divisors_same config ok (Err (NonInteger d)) (Err (OutOfRange e)) p q = absurd (p.0 e q.0)
divisors_same config ok (Err (NonInteger d)) (Err (NonInteger e)) p q =
    ap (λ x. let r : Result ℕ InvalidDivisorError = Err (NonInteger x) in r) (p.1 ∙ sym q.1)

-- there is a divisor, and there is none
pub no_divisor : (config : Config) → IsComputable config → (d : ℕ) (e : InvalidDivisorError) → DivisorOf config (Ok d) →
    DivisorOf config (Err e) → ⊥
no_divisor config ok d e p q = let wrong = divisors_same config ok (Ok d) (Err e) p q in cc

refusal : Result ℕ InvalidDivisorError → Result (Unit {0}) InitError
refusal (Ok x) = Ok tt
refusal (Err d) = Err (InvalidBaudRate d)

refusals_same : (d e : InvalidDivisorError) → ◌≡◌ {A = Result ℕ InvalidDivisorError} (Err d) (Err e) →
    ◌≡◌ {A = Result (Unit {0}) InitError} (Err (InvalidBaudRate d)) (Err (InvalidBaudRate e))
unfolding refusal
refusals_same d e same = ap (λ (x : Result ℕ InvalidDivisorError). refusal x) same

-- the initialisation
abbrev Outcome : Type 0
Outcome = Result (Unit {0}) InitError

pub inits_determined : (config : Config) → IsComputable config → (f : Fields) (a b : Outcome) →
    Does (a ≡ b) f (Inits config a) (Inits config b)
inits_determined config ok f (Err (InvalidBaudRate d)) (Err (InvalidBaudRate e)) = record {
  at = λ l m a b p q. inl ((refusals_same d e (divisors_same config ok (Err d) (Err e) p.0 q.0), p.2 ∙ sym q.2), p.1 ∙ sym q.1);
}
inits_determined config ok f (Ok x) (Err (InvalidBaudRate d)) = record { at = λ l m a b p q. absurd (no_divisor config ok p.0 d p.2 q.0) }
inits_determined config ok f (Err DeviceNotPresent) (Err (InvalidBaudRate d)) =
    record { at = λ l m a b p q. absurd (no_divisor config ok p.0 d p.1 q.0) }
inits_determined config ok f (Err Stalled) (Err (InvalidBaudRate d)) =
    record { at = λ l m a b p q. absurd (no_divisor config ok p.0 d p.2 q.0) }
inits_determined config ok f (Err (InvalidBaudRate d)) (Ok y) = record { at = λ l m a b p q. absurd (no_divisor config ok q.0 d q.2 p.0) }
inits_determined config ok f (Err (InvalidBaudRate d)) (Err DeviceNotPresent) =
    record { at = λ l m a b p q. absurd (no_divisor config ok q.0 d q.1 p.0) }
inits_determined config ok f (Err (InvalidBaudRate d)) (Err Stalled) =
    record { at = λ l m a b p q. absurd (no_divisor config ok q.0 d q.2 p.0) }
inits_determined config ok f (Err DeviceNotPresent) (Err DeviceNotPresent) = record {
  at = λ l m a b p q. (does_so (λ t. refl) (absent_same f config)).at l m a b p.2 q.2;
}
inits_determined config ok f (Ok x) (Err DeviceNotPresent) = record {
  at = λ l m a b p q. (does_so absurd (tries_absent f config p.0 p.1 true)).at l m a b p.3 q.2;
}
inits_determined config ok f (Err Stalled) (Err DeviceNotPresent) = record {
  at = λ l m a b p q. (does_so absurd (tries_absent f config p.0 p.1 false)).at l m a b p.3 q.2;
}
inits_determined config ok f (Err DeviceNotPresent) (Ok y) = record {
  at = λ l m a b p q. (does_sym (tries_absent f config q.0 q.1 true)).at l m a b p.2 q.3;
}
inits_determined config ok f (Err DeviceNotPresent) (Err Stalled) = record {
  at = λ l m a b p q. (does_sym (tries_absent f config q.0 q.1 false)).at l m a b p.2 q.3;
}
inits_determined config ok f (Ok x) (Ok y) = record {
  at = λ l m a b p q.
      (does_so (λ t. refl) (tries_determined f config p.0 q.0 p.1 q.1 true true
      (divisor_one config ok p.0 q.0 p.2.0 q.2.0))).at l m a b p.3 q.3;
}
inits_determined config ok f (Ok x) (Err Stalled) = record {
  at = λ l m a b p q.
      (does_so (λ t. absurd (not_both t))
      (tries_determined f config p.0 q.0 p.1 q.1 true false (divisor_one config ok p.0 q.0 p.2.0 q.2.0))).at l m a b p.3 q.3;
}
inits_determined config ok f (Err Stalled) (Ok y) = record {
  at = λ l m a b p q.
      (does_so (λ t. absurd (not_both (sym t)))
      (tries_determined f config p.0 q.0 p.1 q.1 false true (divisor_one config ok p.0 q.0 p.2.0 q.2.0))).at l m a b p.3 q.3;
}
inits_determined config ok f (Err Stalled) (Err Stalled) = record {
  at = λ l m a b p q.
      (does_so (λ t. refl) (tries_determined f config p.0 q.0 p.1 q.1 false false
      (divisor_one config ok p.0 q.0 p.2.0 q.2.0))).at l m a b p.3 q.3;
}
