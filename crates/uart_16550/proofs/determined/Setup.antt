-- `init_with`, `set_trigger_level` and `set_frame_when_idle` are determined.
use Rattle.std.proofs.Common.{◌≡◌, ◌⊎◌, ℕ, Bool, true, false, List, [], ◌∷◌, refl, sym, ◌∙◌, ap, subst, inl, inr, Result, Ok, Err}
use Rattle.uart_spec.specs.Config.{IsComputable}
use Rattle.uart_spec.specs.declared.config.Config.{Config}
use Rattle.uart_spec.specs.declared.errors.FifosOffError.{FifosOffError}
use Rattle.uart_spec.specs.declared.errors.FrameError.{FrameError}
use Rattle.uart_spec.specs.declared.errors.FrameError.TheVariants as frame_error
use Rattle.uart_spec.specs.declared.errors.InitError.{InitError}
use Rattle.uart_spec.specs.declared.errors.InitError.TheVariants.{InvalidBaudRate, DeviceNotPresent, Stalled}
use Rattle.uart_spec.specs.declared.errors.InvalidDivisorError.{InvalidDivisorError}
use Rattle.uart_spec.specs.declared.registers.fifo_trigger_level.FifoTriggerLevel.{FifoTriggerLevel}
use Rattle.uart_spec.specs.declared.registers.line_status.TheConstants.LSR
use Rattle.uart_spec.specs.declared.registers.offsets.TheConstants as offsets
use Rattle.bitflags.specs.Sets.{without}
use Rattle.uart_spec.specs.Dump.{divisor_of}
use Rattle.uart_spec.specs.declared.dump.ConfigRegisterDump.{ConfigRegisterDump}
use Rattle.uart_spec.specs.declared.registers.line_control.TheConstants.LCR
use Rattle.uart_spec.specs.declared.setup.FifoAction.{FifoAction}
use Rattle.uart_spec.specs.declared.setup.Setup.{Setup}
use Rattle.uart_spec.specs.declared.access.Access.{Access}
use Rattle.uart_spec.specs.declared.access.Access.TheVariants.{Write}
use Rattle.uart_16550.specs.Grammar.{Language, Settings, Only, Then}
use Rattle.uart_16550.specs.Driver.{Doing, Fields, Saving, Plain, Sets, Next, settings_of, with_config, with_fifo, with_interrupts}
use Rattle.uart_16550.specs.Transmit.{WaitsFor}
use Rattle.uart_16550.specs.Init.{line_writes, frame_bits, SetsFifo, DrainsReceiver, Ends}
use Rattle.uart_16550.specs.Frame.{unlooped, frame_writes, with_frame}
use Rattle.uart_16550.specs.Setup.{level_bits, with_level, SetsTrigger, SetsFrameWhenIdle, ChecksIf, WaitsIf, is_first, is_last}
use Rattle.uart_16550.specs.Setup.{Looks, SetsUp, InitsWith, fifo_writes, stays_on, Quiesces, dumped_level, last_writes, Restores}
use Rattle.uart_16550.proofs.determined.Parting.{SameOrPart, Determined, determined_so, determined_only}
use Rattle.uart_16550.proofs.determined.Parting.{determined_then, determined_front, not_both}
use Rattle.uart_16550.proofs.determined.Doings.{Does, does_so, does_sym, does_next, does_front, does_saving, does_plain, does_set}
use Rattle.uart_16550.proofs.determined.Frame.{sets_fifo}
use Rattle.uart_16550.proofs.determined.Transmit.{waits_determined}
use Rattle.uart_16550.proofs.determined.Init.{presence_determined, fifo_determined, drains_same, ends_same}
use Rattle.uart_16550.proofs.determined.Init.{divisors_same, divisor_one, no_divisor}

-- ---- the trigger level

abbrev Levels : FifoTriggerLevel → Doing
Levels level = Next (Sets (with_level level)) (Saving (Only (Write offsets.FCR (level_bits level) ∷ [])))

levels_same : (level : FifoTriggerLevel) (f : Fields) → Does (Unit {0}) f (Levels level) (Levels level)
levels_same level f =
    let W = Only (Write offsets.FCR (level_bits level) ∷ []) in
    does_next (does_set f (with_level level)) (λ t g. does_saving g W W (determined_only refl))

pub sets_trigger_determined : (level : FifoTriggerLevel) (f : Fields) (x y : Result (Unit {0}) FifosOffError) →
    Does (x ≡ y) f (SetsTrigger level x) (SetsTrigger level y)
sets_trigger_determined level f (Ok x) (Ok y) = record {
  at = λ l m a b p q. (does_so (λ t. refl) (levels_same level f)).at l m a b p.1 q.1;
}
sets_trigger_determined level f (Ok x) (Err e) = record { at = λ l m a b p q. absurd (not_both (sym p.0 ∙ q.0)) }
sets_trigger_determined level f (Err e) (Ok y) = record { at = λ l m a b p q. absurd (not_both (sym q.0 ∙ p.0)) }
sets_trigger_determined level f (Err d) (Err e) = record { at = λ l m a b p q. inl ((refl, p.2 ∙ sym q.2), p.1 ∙ sym q.1) }

-- ---- the frame

abbrev Idles : Config → ℕ → Doing
Idles config divisor =
    Next (Saving (WaitsFor LSR.TRANSMITTER_EMPTY.0 true))
    (Next (Sets (with_frame config)) (Saving (Only (frame_writes divisor (frame_bits config)))))

idles_determined : (f : Fields) (config : Config) (d e : ℕ) → d ≡ e → Does (Unit {0}) f (Idles config d) (Idles config e)
idles_determined f config d e same =
    does_next
    (does_saving f (WaitsFor LSR.TRANSMITTER_EMPTY.0 true) (WaitsFor LSR.TRANSMITTER_EMPTY.0 true)
    (waits_determined (settings_of f) LSR.TRANSMITTER_EMPTY.0 true true))
    (λ t g. does_next (does_set g (with_frame config))
    (λ u h. does_saving h (Only (frame_writes d (frame_bits config))) (Only (frame_writes e (frame_bits config)))
    (determined_only (ap (λ (n : ℕ). frame_writes n (frame_bits config)) same))))

abbrev NeverIdle : Doing
NeverIdle = Saving (WaitsFor LSR.TRANSMITTER_EMPTY.0 false)

idles_never : (f : Fields) (config : Config) (d : ℕ) → Does ⊥ f (Idles config d) NeverIdle
idles_never f config d =
    does_front
    (does_saving f (WaitsFor LSR.TRANSMITTER_EMPTY.0 true) (WaitsFor LSR.TRANSMITTER_EMPTY.0 false)
    (determined_so not_both (waits_determined (settings_of f) LSR.TRANSMITTER_EMPTY.0 true false)))

frame_refusal : Result ℕ InvalidDivisorError → Result (Unit {0}) FrameError
frame_refusal (Ok x) = Ok tt
frame_refusal (Err d) = Err (frame_error.InvalidBaudRate d)

frame_refusals_same : (d e : InvalidDivisorError) → ◌≡◌ {A = Result ℕ InvalidDivisorError} (Err d) (Err e) →
    ◌≡◌ {A = Result (Unit {0}) FrameError} (Err (frame_error.InvalidBaudRate d)) (Err (frame_error.InvalidBaudRate e))
unfolding frame_refusal
frame_refusals_same d e same = ap (λ (x : Result ℕ InvalidDivisorError). frame_refusal x) same

pub sets_frame_when_idle_determined : (config : Config) → IsComputable config → (f : Fields) (x y : Result (Unit {0}) FrameError) →
    Does (x ≡ y) f (SetsFrameWhenIdle config x) (SetsFrameWhenIdle config y)
sets_frame_when_idle_determined config ok f (Ok x) (Ok y) = record {
  at = λ l m a b p q.
      (does_so (λ t. refl) (idles_determined f config p.0 q.0 (divisor_one config ok p.0 q.0 p.1.0 q.1.0))).at l m a b p.2 q.2;
}
sets_frame_when_idle_determined config ok f (Ok x) (Err frame_error.Stalled) = record {
  at = λ l m a b p q. (does_so absurd (idles_never f config p.0)).at l m a b p.2 q.2;
}
sets_frame_when_idle_determined config ok f (Err frame_error.Stalled) (Ok y) = record {
  at = λ l m a b p q. (does_sym (idles_never f config q.0)).at l m a b p.2 q.2;
}
sets_frame_when_idle_determined config ok f (Err frame_error.Stalled) (Err frame_error.Stalled) = record {
  at = λ l m a b p q.
      (does_so (λ t. refl) (does_saving f (WaitsFor LSR.TRANSMITTER_EMPTY.0 false) (WaitsFor LSR.TRANSMITTER_EMPTY.0 false)
      (waits_determined (settings_of f) LSR.TRANSMITTER_EMPTY.0 false false))).at l m a b p.2 q.2;
}
sets_frame_when_idle_determined config ok f (Ok x) (Err (frame_error.InvalidBaudRate e)) =
    record { at = λ l m a b p q. absurd (no_divisor config ok p.0 e p.1 q.0) }
sets_frame_when_idle_determined config ok f (Err frame_error.Stalled) (Err (frame_error.InvalidBaudRate e)) =
    record { at = λ l m a b p q. absurd (no_divisor config ok p.0 e p.1 q.0) }
sets_frame_when_idle_determined config ok f (Err (frame_error.InvalidBaudRate e)) (Ok y) =
    record { at = λ l m a b p q. absurd (no_divisor config ok q.0 e q.1 p.0) }
sets_frame_when_idle_determined config ok f (Err (frame_error.InvalidBaudRate e)) (Err frame_error.Stalled) =
    record { at = λ l m a b p q. absurd (no_divisor config ok q.0 e q.1 p.0) }
sets_frame_when_idle_determined config ok f (Err (frame_error.InvalidBaudRate d)) (Err (frame_error.InvalidBaudRate e)) = record {
  at = λ l m a b p q. inl ((frame_refusals_same d e (divisors_same config ok (Err d) (Err e) p.0 q.0), p.2 ∙ sym q.2), p.1 ∙ sym q.1);
}

-- ---- the initialisation: its looks

checks_determined : (s : Settings) (asked a b : Bool) → Determined (a ≡ b) (ChecksIf asked a s) (ChecksIf asked b s)
checks_determined s true a b = presence_determined s a b
checks_determined s false true true = determined_so (λ t. refl) (determined_only refl)
checks_determined s false true false = record { at = λ l m p q. absurd q }
checks_determined s false false b = record { at = λ l m p q. absurd p }

waits_if_determined : (s : Settings) (asked a b : Bool) → Determined (a ≡ b) (WaitsIf asked a s) (WaitsIf asked b s)
waits_if_determined s true a b = waits_determined s LSR.TRANSMITTER_EMPTY.0 a b
waits_if_determined s false true true = determined_so (λ t. refl) (determined_only refl)
waits_if_determined s false true false = record { at = λ l m p q. absurd q }
waits_if_determined s false false b = record { at = λ l m p q. absurd p }

looks_determined : (s : Settings) (setup : Setup) (a b : Bool) → Determined (a ≡ b) (Looks setup a s) (Looks setup b s)
looks_determined s setup a b =
    determined_then (checks_determined s setup.checks_presence true true) (λ t. waits_if_determined s (is_first setup.wait) a b)

looks_absent : (s : Settings) (setup : Setup) (a : Bool) → Determined ⊥ (Looks setup a s) (ChecksIf setup.checks_presence false s)
looks_absent s setup a = determined_front (determined_so not_both (checks_determined s setup.checks_presence true false))

-- ---- its writes

abbrev Lined : Config → ℕ → Bool → Language
Lined config divisor fifo = Then (Only (line_writes divisor (frame_bits config))) (SetsFifo config.fifo_trigger_level fifo)

lined_determined : (s : Settings) (config : Config) (divisor : ℕ) (a b : Bool) →
    Determined (a ≡ b) (Lined config divisor a s) (Lined config divisor b s)
lined_determined s config divisor a b =
    determined_then (determined_only refl) (λ t. fifo_determined s config.fifo_trigger_level a b)

abbrev Drained : Setup → Bool → Doing
Drained setup fifo =
    Next (Sets (with_fifo fifo))
    (Next (Plain DrainsReceiver) (Saving (Only (Write offsets.MCR (unlooped setup.outputs.0) ∷ []))))

drained_same : (f : Fields) (setup : Setup) (fifo : Bool) → Does (Unit {0}) f (Drained setup fifo) (Drained setup fifo)
drained_same f setup fifo =
    let W = Only (Write offsets.MCR (unlooped setup.outputs.0) ∷ []) in
    does_next (does_set f (with_fifo fifo))
    (λ x g. does_next (does_plain g DrainsReceiver DrainsReceiver (drains_same (settings_of g)))
    (λ y h. does_saving h W W (determined_only refl)))

drained_determined : (f : Fields) (setup : Setup) (a b : Bool) → a ≡ b → Does (a ≡ b) f (Drained setup a) (Drained setup b)
drained_determined f setup a b same =
    let M : Bool → Type 0 = λ z. Does (a ≡ z) f (Drained setup a) (Drained setup z) in
    subst M same (does_so (λ x. refl) (drained_same f setup a))

sets_up_determined : (f : Fields) (setup : Setup) (config : Config) (divisor : ℕ) (a b : Bool) →
    Does (a ≡ b) f (SetsUp setup config divisor a) (SetsUp setup config divisor b)
sets_up_determined f setup config divisor a b =
    does_next
    (does_saving f (Lined config divisor a) (Lined config divisor b) (lined_determined (settings_of f) config divisor a b))
    (λ same g. drained_determined g setup a b same)

-- ---- its end

abbrev Finishes : Setup → Config → Bool → Doing
Finishes setup config true = Next (Saving (WaitsIf (is_last setup.wait) true)) (Ends config)
Finishes setup config false = Saving (WaitsIf (is_last setup.wait) false)

finishes_apart : (f : Fields) (setup : Setup) (config : Config) → Does ⊥ f (Finishes setup config true) (Finishes setup config false)
finishes_apart f setup config =
    does_front
    (does_saving f (WaitsIf (is_last setup.wait) true) (WaitsIf (is_last setup.wait) false)
    (determined_so not_both (waits_if_determined (settings_of f) (is_last setup.wait) true false)))

finishes_determined : (f : Fields) (setup : Setup) (config : Config) (x y : Bool) →
    Does (x ≡ y) f (Finishes setup config x) (Finishes setup config y)
finishes_determined f setup config true true =
    does_so (λ t. refl)
    (does_next
    (does_saving f (WaitsIf (is_last setup.wait) true) (WaitsIf (is_last setup.wait) true)
    (waits_if_determined (settings_of f) (is_last setup.wait) true true)) (λ x g. ends_same g config))
finishes_determined f setup config true false = does_so absurd (finishes_apart f setup config)
finishes_determined f setup config false true = does_sym (finishes_apart f setup config)
finishes_determined f setup config false false =
    does_saving f (WaitsIf (is_last setup.wait) false) (WaitsIf (is_last setup.wait) false)
    (waits_if_determined (settings_of f) (is_last setup.wait) false false)

-- ---- its outcomes: all of it, or all but the end; no device; a transmitter that was not empty at first

abbrev Tries : Setup → Config → ℕ → (fifo empty : Bool) → Doing
Tries setup config divisor fifo empty =
    Next (Sets (with_config config))
    (Next (Saving (Looks setup true)) (Next (SetsUp setup config divisor fifo) (Finishes setup config empty)))

abbrev Absent : Setup → Config → Doing
Absent setup config = Next (Sets (with_config config)) (Saving (ChecksIf setup.checks_presence false))

abbrev Busy : Setup → Config → Doing
Busy setup config = Next (Sets (with_config config)) (Saving (Looks setup false))

tries_determined : (f : Fields) (setup : Setup) (config : Config) (d e : ℕ) (a b x y : Bool) → d ≡ e →
    Does (x ≡ y) f (Tries setup config d a x) (Tries setup config e b y)
tries_determined f setup config d e a b x y same =
    let M : ℕ → Type 0 = λ z. Does (x ≡ y) f (Tries setup config d a x) (Tries setup config z b y) in
    subst M same
    (does_next (does_set f (with_config config))
    (λ t g. does_next (does_saving g (Looks setup true) (Looks setup true) (looks_determined (settings_of g) setup true true))
    (λ u h. does_next (sets_up_determined h setup config d a b) (λ k i. finishes_determined i setup config x y))))

tries_absent : (f : Fields) (setup : Setup) (config : Config) (d : ℕ) (a x : Bool) →
    Does ⊥ f (Tries setup config d a x) (Absent setup config)
tries_absent f setup config d a x =
    does_next (does_set f (with_config config))
    (λ t g. does_front
    (does_saving g (Looks setup true) (ChecksIf setup.checks_presence false) (looks_absent (settings_of g) setup true)))

tries_busy : (f : Fields) (setup : Setup) (config : Config) (d : ℕ) (a x : Bool) → Does ⊥ f (Tries setup config d a x) (Busy setup config)
tries_busy f setup config d a x =
    does_next (does_set f (with_config config))
    (λ t g. does_front (does_saving g (Looks setup true) (Looks setup false)
    (determined_so not_both (looks_determined (settings_of g) setup true false))))

busy_absent : (f : Fields) (setup : Setup) (config : Config) → Does ⊥ f (Busy setup config) (Absent setup config)
busy_absent f setup config =
    does_next (does_set f (with_config config))
    (λ t g. does_saving g (Looks setup false) (ChecksIf setup.checks_presence false) (looks_absent (settings_of g) setup false))

busy_same : (f : Fields) (setup : Setup) (config : Config) → Does (Unit {0}) f (Busy setup config) (Busy setup config)
busy_same f setup config =
    does_next (does_set f (with_config config))
    (λ t g. does_saving g (Looks setup false) (Looks setup false)
    (determined_so (λ u. tt) (looks_determined (settings_of g) setup false false)))

absent_same : (f : Fields) (setup : Setup) (config : Config) → Does (Unit {0}) f (Absent setup config) (Absent setup config)
absent_same f setup config =
    does_next (does_set f (with_config config))
    (λ t g. does_saving g (ChecksIf setup.checks_presence false) (ChecksIf setup.checks_presence false)
    (determined_so (λ u. tt) (checks_determined (settings_of g) setup.checks_presence false false)))

-- a transmitter that did not become empty, at first or in the end
abbrev Stalls : Setup → Config → ℕ → Doing
Stalls setup config divisor f l after = Busy setup config f l after ⊎ ((fifo : Bool) × Tries setup config divisor fifo false f l after)

tries_stalls : (f : Fields) (setup : Setup) (config : Config) (d e : ℕ) (a : Bool) → d ≡ e →
    Does ⊥ f (Tries setup config d a true) (Stalls setup config e)
tries_stalls f setup config d e a same = record { at = at }
  where
    at : (l m : List Access) (x y : Fields) → Tries setup config d a true f l x → Stalls setup config e f m y →
        SameOrPart (⊥ × (x ≡ y)) l m
    at l m x y p (inl q) = (tries_busy f setup config d a true).at l m x y p q
    at l m x y p (inr q) = (does_so not_both (tries_determined f setup config d e a q.0 true false same)).at l m x y p q.1

stalls_absent : (f : Fields) (setup : Setup) (config : Config) (d : ℕ) → Does ⊥ f (Stalls setup config d) (Absent setup config)
stalls_absent f setup config d = record { at = at }
  where
    at : (l m : List Access) (x y : Fields) → Stalls setup config d f l x → Absent setup config f m y → SameOrPart (⊥ × (x ≡ y)) l m
    at l m x y (inl p) q = (busy_absent f setup config).at l m x y p q
    at l m x y (inr p) q = (tries_absent f setup config d p.0 false).at l m x y p.1 q

stalls_same : (f : Fields) (setup : Setup) (config : Config) (d e : ℕ) → d ≡ e →
    Does (Unit {0}) f (Stalls setup config d) (Stalls setup config e)
stalls_same f setup config d e same = record { at = at }
  where
    at : (l m : List Access) (x y : Fields) → Stalls setup config d f l x → Stalls setup config e f m y →
        SameOrPart (Unit {0} × (x ≡ y)) l m
    at l m x y (inl p) (inl q) = (busy_same f setup config).at l m x y p q
    at l m x y (inl p) (inr q) = (does_sym (tries_busy f setup config e q.0 false)).at l m x y p q.1
    at l m x y (inr p) (inl q) = (does_so absurd (tries_busy f setup config d p.0 false)).at l m x y p.1 q
    at l m x y (inr p) (inr q) =
        (does_so (λ t. tt) (tries_determined f setup config d e p.0 q.0 false false same)).at l m x y p.1 q.1

init_refusal : Result ℕ InvalidDivisorError → Result (Unit {0}) InitError
init_refusal (Ok x) = Ok tt
init_refusal (Err d) = Err (InvalidBaudRate d)

init_refusals_same : (d e : InvalidDivisorError) → ◌≡◌ {A = Result ℕ InvalidDivisorError} (Err d) (Err e) →
    ◌≡◌ {A = Result (Unit {0}) InitError} (Err (InvalidBaudRate d)) (Err (InvalidBaudRate e))
unfolding init_refusal
init_refusals_same d e same = ap (λ (x : Result ℕ InvalidDivisorError). init_refusal x) same

abbrev Outcome : Type 0
Outcome = Result (Unit {0}) InitError

pub inits_with_determined : (setup : Setup) (config : Config) → IsComputable config → (f : Fields) (a b : Outcome) →
    Does (a ≡ b) f (InitsWith setup config a) (InitsWith setup config b)
inits_with_determined setup config ok f (Err (InvalidBaudRate d)) (Err (InvalidBaudRate e)) = record {
  at = λ l m a b p q. inl ((init_refusals_same d e (divisors_same config ok (Err d) (Err e) p.0 q.0), p.2 ∙ sym q.2), p.1 ∙ sym q.1);
}
inits_with_determined setup config ok f (Ok x) (Err (InvalidBaudRate d)) =
    record { at = λ l m a b p q. absurd (no_divisor config ok p.0 d p.2 q.0) }
inits_with_determined setup config ok f (Err DeviceNotPresent) (Err (InvalidBaudRate d)) =
    record { at = λ l m a b p q. absurd (no_divisor config ok p.0 d p.1 q.0) }
inits_with_determined setup config ok f (Err Stalled) (Err (InvalidBaudRate d)) =
    record { at = λ l m a b p q. absurd (no_divisor config ok p.0 d p.1 q.0) }
inits_with_determined setup config ok f (Err (InvalidBaudRate d)) (Ok y) =
    record { at = λ l m a b p q. absurd (no_divisor config ok q.0 d q.2 p.0) }
inits_with_determined setup config ok f (Err (InvalidBaudRate d)) (Err DeviceNotPresent) =
    record { at = λ l m a b p q. absurd (no_divisor config ok q.0 d q.1 p.0) }
inits_with_determined setup config ok f (Err (InvalidBaudRate d)) (Err Stalled) =
    record { at = λ l m a b p q. absurd (no_divisor config ok q.0 d q.1 p.0) }
inits_with_determined setup config ok f (Err DeviceNotPresent) (Err DeviceNotPresent) = record {
  at = λ l m a b p q. (does_so (λ t. refl) (absent_same f setup config)).at l m a b p.2 q.2;
}
inits_with_determined setup config ok f (Ok x) (Err DeviceNotPresent) = record {
  at = λ l m a b p q. (does_so absurd (tries_absent f setup config p.0 p.1 true)).at l m a b p.3 q.2;
}
inits_with_determined setup config ok f (Err Stalled) (Err DeviceNotPresent) = record {
  at = λ l m a b p q. (does_so absurd (stalls_absent f setup config p.0)).at l m a b p.2 q.2;
}
inits_with_determined setup config ok f (Err DeviceNotPresent) (Ok y) = record {
  at = λ l m a b p q. (does_sym (tries_absent f setup config q.0 q.1 true)).at l m a b p.2 q.3;
}
inits_with_determined setup config ok f (Err DeviceNotPresent) (Err Stalled) = record {
  at = λ l m a b p q. (does_sym (stalls_absent f setup config q.0)).at l m a b p.2 q.2;
}
inits_with_determined setup config ok f (Ok x) (Ok y) = record {
  at = λ l m a b p q.
      (does_so (λ t. refl) (tries_determined f setup config p.0 q.0 p.1 q.1 true true
      (divisor_one config ok p.0 q.0 p.2.0 q.2.0))).at l m a b p.3 q.3;
}
inits_with_determined setup config ok f (Ok x) (Err Stalled) = record {
  at = λ l m a b p q.
      (does_so absurd (tries_stalls f setup config p.0 q.0 p.1 (divisor_one config ok p.0 q.0 p.2.0 q.1.0))).at l m a b p.3 q.2;
}
inits_with_determined setup config ok f (Err Stalled) (Ok y) = record {
  at = λ l m a b p q.
      (does_sym (tries_stalls f setup config q.0 p.0 q.1 (divisor_one config ok q.0 p.0 q.2.0 p.1.0))).at l m a b p.2 q.3;
}
inits_with_determined setup config ok f (Err Stalled) (Err Stalled) = record {
  at = λ l m a b p q.
      (does_so (λ t. refl) (stalls_same f setup config p.0 q.0 (divisor_one config ok p.0 q.0 p.1.0 q.1.0))).at l m a b p.2 q.2;
}

-- ---- a port that is left, and put back

pub quiesces_determined : (outputs : ℕ) (action : FifoAction) (f : Fields) (x y : Unit {0}) →
    Does (x ≡ y) f (Quiesces outputs action) (Quiesces outputs action)
quiesces_determined outputs action f x y = record { at = (does_so (λ t. refl) same).at }
  where
    W : Language
    W = Only (Write offsets.IER 0 ∷ Write offsets.MCR (unlooped outputs) ∷ fifo_writes action f.fifo f.config.fifo_trigger_level)

    same : Does (Unit {0}) f
        (Next (Sets (with_interrupts 0)) (Next (Saving W) (Sets (with_fifo (stays_on action f.fifo)))))
        (Next (Sets (with_interrupts 0)) (Next (Saving W) (Sets (with_fifo (stays_on action f.fifo)))))
    same =
        does_next (does_set f (with_interrupts 0))
        (λ t g. does_next (does_saving g W W (determined_only refl)) (λ u h. does_set h (with_fifo (stays_on action f.fifo))))

-- what `restore` writes
abbrev Rewrites : ConfigRegisterDump → Config → Bool → Language
Rewrites dump config fifo =
    Then (Only (line_writes (divisor_of dump) (without 8 dump.lcr.0 LCR.DLAB.0)))
    (Then (SetsFifo (dumped_level dump config) fifo) (Only (last_writes dump)))

rewrites_determined : (s : Settings) (dump : ConfigRegisterDump) (config : Config) (a b : Bool) →
    Determined (a ≡ b) (Rewrites dump config a s) (Rewrites dump config b s)
rewrites_determined s dump config a b =
    determined_then (determined_only refl)
    (λ t. determined_then (fifo_determined s (dumped_level dump config) a b) (λ same. determined_so (λ u. same) (determined_only refl)))

abbrev Rewritten : ConfigRegisterDump → Config → Bool → Doing
Rewritten dump config fifo =
    Next (Sets (with_interrupts dump.ier.0)) (Next (Saving (Rewrites dump config fifo)) (Sets (with_fifo fifo)))

rewritten_determined : (f : Fields) (dump : ConfigRegisterDump) (config : Config) (a b : Bool) →
    Does (Unit {0}) f (Rewritten dump config a) (Rewritten dump config b)
rewritten_determined f dump config a b =
    does_next (does_set f (with_interrupts dump.ier.0))
    (λ t g. does_next
    (does_saving g (Rewrites dump config a) (Rewrites dump config b) (rewrites_determined (settings_of g) dump config a b))
    (λ same h. sets_fifo a b h same))

pub restores_determined : (dump : ConfigRegisterDump) (f : Fields) (x y : Unit {0}) → Does (x ≡ y) f (Restores dump) (Restores dump)
restores_determined dump f x y = record {
  at = λ l m a b p q. (does_so (λ t. refl) (rewritten_determined f dump f.config p.0 q.0)).at l m a b p.1 q.1;
}
