-- What the register calls, the dump and `check_configured` do.
use Rattle.uart_run.proofs.Names.{ℕ, List, [], ◌∷◌, ◌++◌, refl, Result, Ok, Err, Read, Write, ConfigRegisterDump, RemoteReadyToReceiveError}
use Rattle.uart_run.proofs.Names.{Config, Language, Modifies, with_saved, with_interrupts, saving, TakesLsr, TakesMsr, Connects}
use Rattle.uart_run.proofs.Names.{ReadsDivisor, Enables, Disables, Retriggers, Dumps, divisor_accesses, retrigger_accesses, dump_reads}
use Rattle.uart_run.proofs.Names.{Verdict, InTurn, KeepsLine, OpensLatch, IsDivisor, ReadsLatch, ShowsDivisor, ShowsFifos, ShowsFrame}
use Rattle.uart_run.proofs.Names.{ShowsOutputs, ShowsInterrupts, ShowsAll, ChecksConfigured, fifo_look}
use Rattle.uart_spec.specs.declared.registers.offsets.TheConstants as offsets
use Rattle.uart_run.proofs.built.Words.{Kinds, nothing, but_checks, Built, Does, only, exactly, then, either, some, among, makes}
use Rattle.uart_run.proofs.built.Words.{some_does, among_does}

-- all registers are read, and all but FCR written
abbrev pub registers : List ℕ
registers =
    offsets.DATA ∷ offsets.IER ∷ offsets.ISR ∷ offsets.LCR ∷ offsets.MCR ∷ offsets.LSR ∷ offsets.MSR ∷ offsets.SPR ∷ []

abbrev pub without_fcr : Kinds
without_fcr = record {
  reads = registers;
  writes = offsets.DATA ∷ offsets.IER ∷ offsets.LCR ∷ offsets.MCR ∷ offsets.SPR ∷ [];
  alters = but_checks;
}

-- neither ISR is read, nor IER or FCR written
abbrev pub calm : Kinds
calm = record {
  reads = offsets.DATA ∷ offsets.IER ∷ offsets.LCR ∷ offsets.MCR ∷ offsets.LSR ∷ offsets.MSR ∷ offsets.SPR ∷ [];
  writes = offsets.DATA ∷ offsets.LCR ∷ offsets.MCR ∷ offsets.SPR ∷ [];
  alters = nothing;
}

pub takes_lsr : (result : ℕ) → Does calm (TakesLsr result)
takes_lsr result =
    among_does (λ f l after t. (t.0, (t.1, t.3)))
    (some_does (λ status. makes (exactly (Read offsets.LSR status ∷ []) refl) (λ f l. with_saved 0 f.msr f) (λ f l. (refl, refl))))

pub takes_msr : (result : ℕ) → Does calm (TakesMsr result)
takes_msr result =
    among_does (λ f l after t. (t.0, (t.1, t.3)))
    (some_does (λ status. makes (exactly (Read offsets.MSR status ∷ []) refl) (λ f l. with_saved f.lsr 0 f) (λ f l. (refl, refl))))

pub connects : {T : Type 0} (result : Result T RemoteReadyToReceiveError) → Built calm (Connects result)
connects result = among (λ s l t. (t.0, t.2)) (some (λ status. exactly (Read offsets.MSR status ∷ []) refl))

pub reads_divisor : (low high : ℕ) → Built calm (ReadsDivisor low high)
reads_divisor low high = some (λ lcr. exactly (divisor_accesses lcr low high) refl)

pub enables : (bits : ℕ) → Does without_fcr (Enables bits)
enables bits =
    among_does (λ f l after t. (t.0, (t.1, t.2)))
    (some_does (λ ier. makes (exactly (Read offsets.IER ier ∷ Write offsets.IER _ ∷ []) refl) (λ f l. with_interrupts _ f)
    (λ f l. (refl, refl))))

pub disables : (bits : ℕ) → Does without_fcr (Disables bits)
disables bits =
    among_does (λ f l after t. (t.0, (t.1, t.2)))
    (some_does (λ ier. makes (exactly (Read offsets.IER ier ∷ Write offsets.IER _ ∷ []) refl) (λ f l. with_interrupts _ f)
    (λ f l. (refl, refl))))

pub retriggers : Built without_fcr Retriggers
retriggers = some (λ ier. exactly (retrigger_accesses ier) refl)

pub changes_lcr : (change : ℕ → ℕ) → Built calm (Modifies offsets.LCR change)
changes_lcr change = some (λ answer. exactly (Read offsets.LCR answer ∷ Write offsets.LCR (change answer) ∷ []) refl)

pub changes_mcr : (change : ℕ → ℕ) → Built calm (Modifies offsets.MCR change)
changes_mcr change = some (λ answer. exactly (Read offsets.MCR answer ∷ Write offsets.MCR (change answer) ∷ []) refl)

pub dumps : (dump : ConfigRegisterDump) → Does without_fcr (Dumps dump)
dumps dump =
    among_does (λ f l after t. (t.lcr, (t.lsr, (t.msr, (t.is, t.keeps)))))
    (some_does (λ lcr. some_does (λ lsr. some_does (λ msr.
    makes (exactly (divisor_accesses lcr dump.dll dump.dlm ++ dump_reads lsr msr dump) refl) saving (λ f l. (refl, refl))))))

-- ---- the check

shows_frame : (frame : ℕ) (result : Verdict) → Built without_fcr (ShowsFrame frame result)
shows_frame frame (Ok x) = among (λ s l t. (t.0, t.2)) (some (λ shown. exactly (Read offsets.LCR shown ∷ []) refl))
shows_frame frame (Err e) = among (λ s l t. (t.0, t.3)) (some (λ shown. exactly (Read offsets.LCR shown ∷ []) refl))

shows_outputs : (outputs : ℕ) (result : Verdict) → Built without_fcr (ShowsOutputs outputs result)
shows_outputs outputs (Ok x) = among (λ s l t. (t.0, t.2)) (some (λ shown. exactly (Read offsets.MCR shown ∷ []) refl))
shows_outputs outputs (Err e) = among (λ s l t. (t.0, t.3)) (some (λ shown. exactly (Read offsets.MCR shown ∷ []) refl))

shows_interrupts : (interrupts : ℕ) (result : Verdict) → Built without_fcr (ShowsInterrupts interrupts result)
shows_interrupts interrupts (Ok x) = among (λ s l t. (t.0, t.2)) (some (λ shown. exactly (Read offsets.IER shown ∷ []) refl))
shows_interrupts interrupts (Err e) = among (λ s l t. (t.0, t.3)) (some (λ shown. exactly (Read offsets.IER shown ∷ []) refl))

in_turn : (P Q : Verdict → Language) → ((result : Verdict) → Built without_fcr (P result)) →
    ((result : Verdict) → Built without_fcr (Q result)) → (result : Verdict) → Built without_fcr (InTurn P Q result)
in_turn P Q p q (Ok x) = then (p (Ok x)) (q (Ok x))
in_turn P Q p q (Err e) = either (p (Err e)) (then (p (Ok tt)) (q (Err e)))

keeps_line : (value : ℕ) (result : Verdict) → Built without_fcr (KeepsLine value result)
keeps_line value (Ok x) = then (only (Write offsets.LCR value ∷ []) refl)
    (among (λ s l t. (t.0, t.2)) (some (λ shown. exactly (Read offsets.LCR shown ∷ []) refl)))
keeps_line value (Err e) = then (only (Write offsets.LCR value ∷ []) refl)
    (among (λ s l t. (t.0, t.3)) (some (λ shown. exactly (Read offsets.LCR shown ∷ []) refl)))

opens_latch : (lcr : ℕ) (result : Verdict) → Built without_fcr (OpensLatch lcr result)
opens_latch lcr (Ok x) = keeps_line _ (Ok x)
opens_latch lcr (Err e) = then (keeps_line _ (Err e)) (only (Write offsets.LCR lcr ∷ []) refl)

is_divisor : (divisor shown : ℕ) (result : Verdict) → Built without_fcr (IsDivisor divisor shown result)
is_divisor divisor shown (Ok x) = among (λ s l t. t.1) (exactly [] refl)
is_divisor divisor shown (Err e) = among (λ s l t. t.2) (exactly [] refl)

reads_latch : (divisor lcr : ℕ) (result : Verdict) → Built without_fcr (ReadsLatch divisor lcr result)
reads_latch divisor lcr result =
    among (λ s l t. (t.0, (t.1, t.2)))
    (some (λ low. some (λ high. then (only (Read offsets.DLL low ∷ Read offsets.DLM high ∷ []) refl)
    (in_turn _ _ (keeps_line lcr) (is_divisor divisor _) result))))

shows_divisor : (divisor : ℕ) (result : Verdict) → Built without_fcr (ShowsDivisor divisor result)
shows_divisor divisor result =
    some (λ lcr. then (only (Read offsets.LCR lcr ∷ []) refl) (in_turn _ _ (opens_latch lcr) (reads_latch divisor lcr) result))

shows_fifos : (interrupts : ℕ) (result : Verdict) → Built without_fcr (ShowsFifos interrupts result)
shows_fifos interrupts (Ok x) = among (λ s l t. (t.0, t.2)) (some (λ isr. exactly (fifo_look interrupts isr) refl))
shows_fifos interrupts (Err e) = among (λ s l t. (t.0, t.3)) (some (λ isr. exactly (fifo_look interrupts isr) refl))

shows_all : (frame outputs interrupts divisor : ℕ) (result : Verdict) → Built without_fcr (ShowsAll frame outputs interrupts divisor result)
shows_all frame outputs interrupts divisor =
    in_turn _ _ (shows_frame frame) (in_turn _ _ (shows_outputs outputs) (in_turn _ _ (shows_interrupts interrupts)
    (in_turn _ _ (shows_divisor divisor) (shows_fifos interrupts))))

pub checks_configured : (config : Config) (outputs : ℕ) (result : Verdict) → Built without_fcr (ChecksConfigured config outputs result)
checks_configured config outputs (Ok x) = among (λ s l t. (t.0, t.2)) (some (λ divisor. shows_all _ _ _ divisor (Ok x)))
checks_configured config outputs (Err e) =
    either (among (λ s l t. t.2) (exactly [] refl)) (among (λ s l t. (t.0, t.2)) (some (λ divisor. shows_all _ _ _ divisor (Err e))))
