-- The lists of the receiving calls.
use Rattle.uart_run.proofs.Names.{ℕ, Bool, true, false, List, [], ◌∷◌, refl, Result, Ok, Err, StalledError, Read, Miss, Awaited}
use Rattle.uart_run.proofs.Names.{ReceivesExact, ReadyToReceive, TryReceive, Receives, HitWithErrors, ReceivesWithErrors, ReceivesSome}
use Rattle.uart_run.proofs.Names.{Reads, Flushes, AnswersRead, Received, WaitsFor}
use Rattle.uart_spec.specs.declared.registers.offsets.TheConstants as offsets
use Rattle.uart_16550.specs.Receive.{Hit}
use Rattle.uart_spec.specs.declared.registers.line_status.TheConstants.LSR
use Rattle.uart_run.proofs.built.Words.{Kinds, nothing, Built, only, asks, then, limited, in_order, among, few}
use Rattle.uart_run.proofs.built.Words.{exactly, either, some, never}

-- LSR is read, or LSR and the data
abbrev pub looking : Kinds
looking = record { reads = offsets.LSR ∷ []; writes = []; alters = nothing }

abbrev pub receiving : Kinds
receiving = record { reads = offsets.LSR ∷ offsets.DATA ∷ []; writes = []; alters = nothing }

pub waits_for : (bits : ℕ) (outcome : Bool) → Built looking (WaitsFor bits outcome)
waits_for bits true = then (few (asks refl)) (asks refl)
waits_for bits false = limited (asks refl)

pub miss : Built receiving Miss
miss = asks refl

pub hit : (byte : ℕ) → Built receiving (Hit byte)
hit byte = then (asks refl) (only (Read offsets.DATA byte ∷ []) refl)

pub awaited : (byte : ℕ) → Built receiving (Awaited byte)
awaited byte = then (few miss) (hit byte)

pub receives_exact : {T : Type 0} (n : ℕ) (bytes : List ℕ) (result : Result T StalledError) → Built receiving (ReceivesExact n bytes result)
receives_exact n bytes (Ok x) = among (λ s l t. t.1) (in_order bytes awaited)
receives_exact n bytes (Err e) = among (λ s l t. t.2) (then (in_order bytes awaited) (limited miss))

pub ready_to_receive : {T E : Type 0} (result : Result T E) → Built looking (ReadyToReceive result)
ready_to_receive (Ok x) = asks refl
ready_to_receive (Err e) = asks refl

pub try_receive : {E : Type 0} (result : Result ℕ E) → Built receiving (TryReceive result)
try_receive (Ok byte) = hit byte
try_receive (Err e) = miss

pub receives : (n : ℕ) (bytes : List ℕ) → Built receiving (Receives n bytes)
receives n bytes = either (among (λ s l t. t.1) (in_order bytes hit)) (among (λ s l t. t.1) (then (in_order bytes hit) miss))

hit_with_errors : (received : Received) → Built receiving (HitWithErrors received)
hit_with_errors received =
    among (λ s l t. (t.0, t.3)) (some (λ lsr. exactly (Read offsets.LSR lsr ∷ Read offsets.DATA received.byte ∷ []) refl))

pub receives_with_errors : (n : ℕ) (items : List Received) → Built receiving (ReceivesWithErrors n items)
receives_with_errors n items =
    either (among (λ s l t. t.1) (in_order items hit_with_errors)) (among (λ s l t. t.1) (then (in_order items hit_with_errors) miss))

receives_some : (n : ℕ) (bytes : List ℕ) (some : Bool) → Built receiving (ReceivesSome n bytes some)
receives_some n bytes true = among (λ s l t. t.1) (then (few miss) (receives n bytes))
receives_some n bytes false = among (λ s l t. t.1) (limited miss)

pub reads_some : (n : ℕ) (bytes : List ℕ) (result : Result ℕ StalledError) → Built receiving (Reads n bytes result)
reads_some n bytes (Ok count) =
    among (λ s l t. t.1) (either (among (λ s l t. t.2) (exactly [] refl)) (among (λ s l t. t.1) (receives_some n bytes true)))
reads_some n bytes (Err e) = among (λ s l t. t.2) (receives_some n bytes false)

pub flushes : {T : Type 0} (result : Result T StalledError) → Built looking (Flushes result)
flushes (Ok x) = waits_for LSR.TRANSMITTER_EMPTY.0 true
flushes (Err e) = among (λ s l t. t.1) (waits_for LSR.TRANSMITTER_EMPTY.0 false)

pub answers_read : (result : Result Bool StalledError) → Built looking (AnswersRead result)
answers_read (Ok ready) = asks refl
answers_read (Err e) = never
