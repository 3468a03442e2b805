-- What the calls do that set up the line and the FIFOs, and those that take, leave and put back a port.
use Rattle.uart_run.proofs.Names.{◌≡◌, ℕ, Bool, true, false, [], ◌∷◌, refl, Result, Ok, Err, Option, without, divisor_of, Write, Config}
use Rattle.uart_run.proofs.Names.{ConfigRegisterDump, AttachError, DivisorLatchOpen, Loopback, NoDivisor, FifosOffError, FrameError}
use Rattle.uart_run.proofs.Names.{InitError, InvalidBaudRate, DeviceNotPresent, InvalidDivisorError, FifoTriggerLevel, FifoAction, Keep}
use Rattle.uart_run.proofs.Names.{Setup, Doing, Saving, Plain, Sets, Next, with_fifo, FindsLoopback, FindsDivisor, FindsPort, Attaches}
use Rattle.uart_run.proofs.Names.{SetsFrame, frame_writes, unlooped, ChecksPresence, DrainsReceiver, line_writes, frame_bits}
use Rattle.uart_run.proofs.Names.{raised_outputs, SetsFifo, Begins, Ends, Inits, Language, Only, Then, SetsTrigger, SetsFrameWhenIdle}
use Rattle.uart_run.proofs.Names.{SetsUp, InitsWith, fifo_writes, stays_on, Quiesces, dumped_level, last_writes, Restores, is_last}
use Rattle.uart_spec.specs.declared.errors.FrameError.TheVariants as frame_error
use Rattle.uart_spec.specs.declared.errors.InitError.TheVariants.{Stalled}
use Rattle.uart_spec.specs.declared.registers.line_control.TheConstants.LCR
use Rattle.uart_spec.specs.declared.registers.offsets.TheConstants as offsets
use Rattle.uart_run.proofs.built.Words.{Kinds, nothing, but_checks, anything, Built, Does, are_of, only, asks, then, wider, reads, saves}
use Rattle.uart_run.proofs.{built.Words.looks, built.Words.sets, built.Words.next, built.Words.either_does, built.Words.some_does}
use Rattle.uart_run.proofs.{built.Words.by_fields, built.Words.among_does, built.Words.wider_does, built.Receive.waits_for}
use Rattle.uart_run.proofs.{built.Status.registers, built.Status.without_fcr, built.Status.calm, built.Status.reads_divisor}
use Rattle.uart_run.proofs.built.Init.{checks_presence, checks_if, waits_if, looks_first, sets_fifo, drains_receiver}

-- all registers are read and written; or all but LCR
abbrev pub any : Kinds
any = record {
  reads = registers;
  writes = offsets.DATA ∷ offsets.IER ∷ offsets.FCR ∷ offsets.LCR ∷ offsets.MCR ∷ offsets.SPR ∷ [];
  alters = anything;
}

-- the same, without a change of whether CTS is checked
abbrev pub putting_back : Kinds
putting_back = record any { alters = but_checks }

abbrev pub without_lcr : Kinds
without_lcr = record {
  reads = registers;
  writes = offsets.DATA ∷ offsets.IER ∷ offsets.FCR ∷ offsets.MCR ∷ offsets.SPR ∷ [];
  alters = but_checks;
}

-- the statuses are read, and IER written
abbrev pub ending : Kinds
ending = record { reads = offsets.LSR ∷ offsets.ISR ∷ offsets.MSR ∷ []; writes = offsets.IER ∷ []; alters = nothing }

-- ---- the initialisation

pub writes_mcr : (outputs : ℕ) → Built calm (Only (Write offsets.MCR outputs ∷ []))
writes_mcr outputs = only (Write offsets.MCR outputs ∷ []) refl

-- once the configuration is set, it stays
abbrev pub setting_up : Kinds
setting_up = record any { alters = nothing }

-- the FIFO is noted, the receiver drained, and the outputs written
abbrev pub Drains : Bool → (outputs : ℕ) → Doing
Drains on outputs = Next (Sets (with_fifo on)) (Next (Plain DrainsReceiver) (Saving (Only (Write offsets.MCR outputs ∷ []))))

drains : (on : Bool) (outputs : ℕ) → Does setting_up (Drains on outputs)
drains on outputs = next (sets _ (λ f. (refl, refl))) (next (looks (wider refl drains_receiver)) (saves (only _ refl)))

-- the presence check, the line and the FIFO step
abbrev pub ChecksAndSets : Config → ℕ → Bool → Language
ChecksAndSets config divisor fifo =
    Then (ChecksPresence true) (Then (Only (line_writes divisor (frame_bits config))) (SetsFifo config.fifo_trigger_level fifo))

pub begun : (config : Config) (divisor : ℕ) (fifo : Bool) →
    Does setting_up (Next (Saving (ChecksAndSets config divisor fifo)) (Drains fifo raised_outputs))
begun config divisor fifo =
    next (saves (then (wider refl (checks_presence true)) (then (only (line_writes divisor (frame_bits config)) refl)
    (wider refl (sets_fifo config.fifo_trigger_level fifo))))) (drains fifo raised_outputs)

pub begins : (config : Config) (divisor : ℕ) (fifo : Bool) → Does any (Begins config divisor fifo)
begins config divisor fifo = next (sets _ (λ f. (refl, tt))) (wider_does refl (begun config divisor fifo))

pub ends : (config : Config) → Does ending (Ends config)
ends config = next (looks (then (reads refl) (then (reads refl) (reads refl)))) (next (sets _ (λ f. (refl, refl))) (saves (only _ refl)))

pub inits : {T : Type 0} (config : Config) (result : Result T InitError) → Does any (Inits config result)
inits config (Ok x) =
    among_does (λ f l after t. (t.0, (t.1, t.3)))
    (some_does (λ divisor. some_does (λ fifo.
    next (begins config divisor fifo) (next (saves (wider refl (waits_for _ true))) (wider_does refl (ends config))))))
inits config (Err (InvalidBaudRate cause)) = among_does (λ f l after t. (t.1, t.2)) (sets (λ f. f) (λ f. (refl, tt)))
inits config (Err DeviceNotPresent) =
    among_does (λ f l after t. t.2) (next (sets _ (λ f. (refl, tt))) (saves (wider refl (checks_presence false))))
inits config (Err Stalled) =
    among_does (λ f l after t. (t.0, (t.1, t.3)))
    (some_does (λ divisor. some_does (λ fifo. next (begins config divisor fifo) (saves (wider refl (waits_for _ false))))))

pub sets_up : (setup : Setup) (config : Config) (divisor : ℕ) (fifo : Bool) → Does setting_up (SetsUp setup config divisor fifo)
sets_up setup config divisor fifo =
    next (saves (then (only (line_writes divisor (frame_bits config)) refl) (wider refl (sets_fifo config.fifo_trigger_level fifo))))
    (drains fifo _)

pub inits_with : {T : Type 0} (setup : Setup) (config : Config) (result : Result T InitError) → Does any (InitsWith setup config result)
inits_with setup config (Ok x) =
    among_does (λ f l after t. (t.0, (t.1, t.3)))
    (some_does (λ divisor. some_does (λ fifo.
    next (sets _ (λ f. (refl, tt)))
    (next (saves (wider refl (looks_first setup true)))
    (next (wider_does refl (sets_up setup config divisor fifo))
    (next (saves (wider refl (waits_if (is_last setup.wait) true))) (wider_does refl (ends config))))))))
inits_with setup config (Err (InvalidBaudRate cause)) = among_does (λ f l after t. (t.1, t.2)) (sets (λ f. f) (λ f. (refl, tt)))
inits_with setup config (Err DeviceNotPresent) =
    among_does (λ f l after t. t.2) (next (sets _ (λ f. (refl, tt))) (saves (wider refl (checks_if setup.checks_presence false))))
inits_with setup config (Err Stalled) =
    among_does (λ f l after t. (t.0, t.2))
    (some_does (λ divisor. either_does
    (next (sets _ (λ f. (refl, tt))) (saves (wider refl (looks_first setup false))))
    (some_does (λ fifo.
    next (sets _ (λ f. (refl, tt)))
    (next (saves (wider refl (looks_first setup true)))
    (next (wider_does refl (sets_up setup config divisor fifo)) (saves (wider refl (waits_if (is_last setup.wait) false)))))))))

-- ---- the frame and the trigger level

pub sets_frame : {T : Type 0} (config : Config) (result : Result T InvalidDivisorError) → Does without_fcr (SetsFrame config result)
sets_frame config (Ok x) =
    among_does (λ f l after t. (t.0, t.2))
    (some_does (λ divisor. next (sets _ (λ f. (refl, refl))) (saves (only (frame_writes divisor (frame_bits config)) refl))))
sets_frame config (Err cause) = among_does (λ f l after t. (t.1, t.2)) (sets (λ f. f) (λ f. (refl, refl)))

pub sets_frame_when_idle : {T : Type 0} (config : Config) (result : Result T FrameError) →
    Does without_fcr (SetsFrameWhenIdle config result)
sets_frame_when_idle config (Ok x) =
    among_does (λ f l after t. (t.0, t.2))
    (some_does (λ divisor. next (saves (wider refl (waits_for _ true)))
    (next (sets _ (λ f. (refl, refl))) (saves (only (frame_writes divisor (frame_bits config)) refl)))))
sets_frame_when_idle config (Err (frame_error.InvalidBaudRate cause)) =
    among_does (λ f l after t. (t.1, t.2)) (sets (λ f. f) (λ f. (refl, refl)))
sets_frame_when_idle config (Err frame_error.Stalled) = among_does (λ f l after t. t.2) (saves (wider refl (waits_for _ false)))

pub sets_trigger : {T : Type 0} (level : FifoTriggerLevel) (result : Result T FifosOffError) → Does without_lcr (SetsTrigger level result)
sets_trigger level (Ok x) = among_does (λ f l after t. t.1) (next (sets _ (λ f. (refl, refl))) (saves (only _ refl)))
sets_trigger level (Err e) = among_does (λ f l after t. (t.1, t.2)) (sets (λ f. f) (λ f. (refl, refl)))

-- ---- a port that is left, put back, and taken

left_so : (outputs : ℕ) (action : FifoAction) (on : Bool) (level : Option FifoTriggerLevel) →
    are_of without_lcr (Write offsets.IER 0 ∷ Write offsets.MCR (unlooped outputs) ∷ fifo_writes action on level) ≡ true
left_so outputs Keep on level = refl
left_so outputs _ on level = refl

pub quiesces : (outputs : ℕ) (action : FifoAction) → Does without_lcr (Quiesces outputs action)
quiesces outputs action =
    by_fields (λ f l after t. t)
    (λ g. next (sets _ (λ f. (refl, refl)))
    (next (saves (only (Write offsets.IER 0 ∷ Write offsets.MCR (unlooped outputs) ∷ fifo_writes action g.fifo g.config.fifo_trigger_level)
    (left_so outputs action g.fifo g.config.fifo_trigger_level)))
    (sets (with_fifo (stays_on action g.fifo)) (λ f. (refl, refl)))))

pub registers_after : (dump : ConfigRegisterDump) (level : Option FifoTriggerLevel) (on : Bool) →
    Built without_lcr (Then (SetsFifo level on) (Only (last_writes dump)))
registers_after dump level on = then (wider refl (sets_fifo level on)) (only (last_writes dump) refl)

pub restores : (dump : ConfigRegisterDump) → Does putting_back (Restores dump)
restores dump =
    by_fields (λ f l after t. t)
    (λ g. some_does (λ fifo. next (sets _ (λ f. (refl, refl)))
    (next (saves (then (only (line_writes (divisor_of dump) (without 8 dump.lcr.0 LCR.DLAB.0)) refl)
    (wider refl (registers_after dump (dumped_level dump g.config) fifo))))
    (sets (with_fifo fifo) (λ f. (refl, refl))))))

finds_loopback : (looped : Bool) → Built without_fcr (FindsLoopback looped)
finds_loopback looped = then (asks refl) (asks refl)

finds_divisor : (low high : ℕ) → Built without_fcr (FindsDivisor low high)
finds_divisor low high = then (finds_loopback false) (wider refl (reads_divisor low high))

finds_port : (fifo : Bool) (low high : ℕ) → Built without_fcr (FindsPort fifo low high)
finds_port fifo low high = then (finds_divisor low high) (asks refl)

pub attaches : (result : Result (ℕ × ℕ) AttachError) → Does without_fcr (Attaches result)
attaches (Ok latch) =
    among_does (λ f l after t. (t.1, t.2)) (some_does (λ fifo. next (saves (finds_port fifo latch.0 latch.1)) (sets _ (λ f. (refl, refl)))))
attaches (Err DivisorLatchOpen) = saves (asks refl)
attaches (Err Loopback) = saves (finds_loopback true)
attaches (Err NoDivisor) = saves (finds_divisor 0 0)
