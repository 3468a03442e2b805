-- The lists of `find_fifo_size`, and what comes first in `enable_64_byte_fifos`.
use Rattle.uart_run.proofs.Names.{ℕ, Bool, true, false, [], ◌∷◌, refl, Result, Option, FifoSizeError, FifoSize, Read, Write, test_byte}
use Rattle.uart_run.proofs.Names.{DrainsLoopback, flood, Floods, TakesBack, Measures, BeginsEnabling, SwitchesFifo, Sizes, FindsFifoSize}
use Rattle.uart_run.proofs.Names.{level_of, FifoTriggerLevel}
use Rattle.uart_spec.specs.declared.registers.offsets.TheConstants as offsets
use Rattle.uart_run.proofs.built.Words.{Does, next, saves, sets, some_does, either_does, by_fields, among_does, wider_does}
use Rattle.uart_run.proofs.{built.Init.stepping, built.Init.sets_fifo, built.Receive.receiving, built.Receive.waits_for, built.Receive.miss}
use Rattle.uart_run.proofs.built.Words.{Kinds, nothing, Built, only, then, times, either, some, among, wider}
use Rattle.uart_run.proofs.built.Loopback.{takes_one, drains_loopback, testing, enters_at, inside, from_empty}

-- LSR and the data are read, and the data written
abbrev pub measuring : Kinds
measuring = record { reads = offsets.LSR ∷ offsets.DATA ∷ []; writes = offsets.DATA ∷ []; alters = nothing }

pub floods : Built measuring Floods
floods = times flood (only (Write offsets.DATA test_byte ∷ []) refl)

pub takes_back : (count : ℕ) → Built receiving (TakesBack count)
takes_back count = either (among (λ s l t. t.1) (times flood takes_one)) (among (λ s l t. t.1) (then (times count takes_one) miss))

drained : (whole : Bool) → Built measuring (DrainsLoopback whole)
drained whole = wider refl (drains_loopback whole)

pub measures : (result : Result FifoSize FifoSizeError) → Built measuring (Measures result)
measures result =
    either (among (λ s l t. t.1) (drained false))
    (either (among (λ s l t. t.1) (then (drained true) (then floods (wider refl (waits_for _ false)))))
    (among (λ s l t. (t.0, t.2))
    (some (λ count. then (drained true) (then floods (then (wider refl (waits_for _ true)) (wider refl (takes_back count))))))))

-- LCR, IER and LSR are read
abbrev pub asking : Kinds
asking = record { reads = offsets.LCR ∷ offsets.IER ∷ offsets.LSR ∷ []; writes = []; alters = nothing }

pub begins_enabling : (lcr ier : ℕ) (empty : Bool) → Built asking (BeginsEnabling lcr ier empty)
begins_enabling lcr ier empty = then (only (Read offsets.LCR lcr ∷ Read offsets.IER ier ∷ []) refl) (wider refl (waits_for _ empty))

-- ---- the FIFO step

pub switches_fifo : (level : Option FifoTriggerLevel) (fifo : Bool) → Does stepping (SwitchesFifo level fifo)
switches_fifo level fifo = next (saves (sets_fifo level fifo)) (sets _ (λ f. (refl, refl)))

-- ---- the call

sizes : (level : Option FifoTriggerLevel) (result : Result FifoSize FifoSizeError) → Does testing (Sizes level result)
sizes level result = some_does (λ fifo. next (saves (wider refl (measures result))) (wider_does refl (switches_fifo level fifo)))

pub finds_fifo_size : (result : Result FifoSize FifoSizeError) → Does testing (FindsFifoSize result)
finds_fifo_size result =
    either_does (among_does (λ f l after t. (t.2, t.3)) (sets (λ f. f) (λ f. (refl, refl))))
    (among_does (λ f l after t. t.1)
    (from_empty (λ mcr ier. by_fields (λ f l after t. t)
    (λ g. let level = level_of true g.config.fifo_trigger_level in inside (enters_at level) (sizes level result) mcr ier))))
