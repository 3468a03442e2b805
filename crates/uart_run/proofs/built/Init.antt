-- The lists of the presence check, of the FIFO step, and of the drain.
use Rattle.uart_run.proofs.Names.{ℕ, Bool, true, false, [], ◌∷◌, refl, Option, Some, None, FifoTriggerLevel, Read, Write, Keeps}
use Rattle.uart_run.proofs.Names.{KeepsPatterns, ChecksPresence, SetsFifo, Discards, DrainsReceiver, most_waiting, ChecksIf, WaitsIf}
use Rattle.uart_run.proofs.Names.{is_first, Looks, Setup}
use Rattle.uart_spec.specs.declared.registers.offsets.TheConstants as offsets
use Rattle.uart_spec.specs.declared.registers.line_status.TheConstants.LSR
use Rattle.uart_run.proofs.built.Words.{wider, Kinds, nothing, Built, only, exactly, asks, then, times, never, either, some, among, reads}
use Rattle.uart_run.proofs.built.Receive.{looking, receiving, miss, waits_for}

-- the scratch register is read and written
abbrev pub scratching : Kinds
scratching = record { reads = offsets.SPR ∷ []; writes = offsets.SPR ∷ []; alters = nothing }

keeps : (pattern : ℕ) (outcome : Bool) → Built scratching (Keeps pattern outcome)
keeps pattern outcome =
    among (λ s l t. (t.0, t.2)) (some (λ back. exactly (Write offsets.SPR pattern ∷ Read offsets.SPR back ∷ []) refl))

keeps_patterns : (present : Bool) → Built scratching (KeepsPatterns present)
keeps_patterns true = then (keeps _ true) (keeps _ true)
keeps_patterns false = either (keeps _ false) (then (keeps _ true) (keeps _ false))

pub checks_presence : (present : Bool) → Built scratching (ChecksPresence present)
checks_presence present =
    some (λ old. then (only (Read offsets.SPR old ∷ []) refl) (then (keeps_patterns present) (only (Write offsets.SPR old ∷ []) refl)))

pub checks_if : (asked present : Bool) → Built scratching (ChecksIf asked present)
checks_if true present = checks_presence present
checks_if false true = only [] refl
checks_if false false = never

pub waits_if : (asked empty : Bool) → Built looking (WaitsIf asked empty)
waits_if true empty = waits_for LSR.TRANSMITTER_EMPTY.0 empty
waits_if false true = only [] refl
waits_if false false = never

-- the presence check, and the wait that comes first
abbrev pub looking_first : Kinds
looking_first = record { reads = offsets.SPR ∷ offsets.LSR ∷ []; writes = offsets.SPR ∷ []; alters = nothing }

pub looks_first : (setup : Setup) (empty : Bool) → Built looking_first (Looks setup empty)
looks_first setup empty = then (wider refl (checks_if setup.checks_presence true)) (wider refl (waits_if (is_first setup.wait) empty))

-- FCR is written, and ISR read
abbrev pub stepping : Kinds
stepping = record { reads = offsets.ISR ∷ []; writes = offsets.FCR ∷ []; alters = nothing }

pub sets_fifo : (level : Option FifoTriggerLevel) (on : Bool) → Built stepping (SetsFifo level on)
sets_fifo None on = among (λ s l t. t.1) (exactly _ refl)
sets_fifo (Some level) on = then (only _ refl) (asks refl)

pub discards : Built receiving Discards
discards = then (asks refl) (reads refl)

pub drains_receiver : Built receiving DrainsReceiver
drains_receiver = either (times most_waiting discards) (among (λ s l t. (t.0, t.2)) (some (λ n. then (times n discards) miss)))
