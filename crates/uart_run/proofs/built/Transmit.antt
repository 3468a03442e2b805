-- The lists of the sending calls.
use Rattle.uart_run.proofs.Names.{◌≡◌, ℕ, Bool, true, false, List, [], ◌∷◌, refl, Result, Ok, Err, Option, Some, None, take, ByteSendError}
use Rattle.uart_run.proofs.Names.{NoCapacity, RemoteNotClearToSend, StalledError, LinesAllow, SendHit, SendRefused, SendMiss, data_writes}
use Rattle.uart_run.proofs.Names.{Burst, Sends, TrySends, Round, SendsAll, SendsExact, ReadyToSend, SendsSome, Writes, AnswersWrite}
use Rattle.uart_run.proofs.Names.{expansion, SendsEach, SendsText}
use Rattle.uart_spec.specs.declared.registers.offsets.TheConstants as offsets
use Rattle.uart_run.proofs.built.Words.{Kinds, nothing, Built, are_of, only, exactly, asks, then, limited, in_order, never, if_checks}
use Rattle.uart_run.proofs.{built.Words.either, built.Words.some, built.Words.among, built.Words.few, built.Words.wider}
use Rattle.uart_run.proofs.{built.Receive.looking}

-- LSR and, for the lines, MCR and MSR are read, and the data written
abbrev pub sending : Kinds
sending = record { reads = offsets.LSR ∷ offsets.MCR ∷ offsets.MSR ∷ []; writes = offsets.DATA ∷ []; alters = nothing }

lines_allow : (allowed : Bool) → Built sending (LinesAllow allowed)
lines_allow allowed = either (among (λ s l t. t.1) (asks refl)) (then (asks refl) (asks refl))

send_hit : Built sending SendHit
send_hit = if_checks (then (asks refl) (lines_allow true)) (asks refl)

pub no_room : Built looking (SendRefused NoCapacity)
no_room = asks refl

refused : (e : ByteSendError) → Built sending (SendRefused e)
refused NoCapacity = wider refl no_room
refused RemoteNotClearToSend = if_checks (then (asks refl) (lines_allow false)) never

pub send_miss : Built sending SendMiss
send_miss = some refused

written : (bytes : List ℕ) → are_of sending (data_writes bytes) ≡ true
written [] = refl
written (byte ∷ bytes) = written bytes

burst : (bytes : List ℕ) → Built sending (Burst bytes)
burst bytes = then send_hit (only (data_writes bytes) (written bytes))

pub round : (bytes : List ℕ) → Built sending (Round bytes)
round bytes = then (few send_miss) (burst bytes)

pub sends : (bytes : List ℕ) (n : ℕ) → Built sending (Sends bytes n)
sends bytes n =
    either (among (λ s l t. t.2) (exactly [] refl)) (either (among (λ s l t. t.2) send_miss) (among (λ s l t. t.2) (burst _)))

pub try_sends : {T : Type 0} (byte : ℕ) (result : Result T ByteSendError) → Built sending (TrySends byte result)
try_sends byte (Ok x) = sends (byte ∷ []) 1
try_sends byte (Err NoCapacity) = sends (byte ∷ []) 0
try_sends byte (Err RemoteNotClearToSend) = never

pub sends_all : (bytes : List ℕ) → Built sending (SendsAll bytes)
sends_all bytes = among (λ s l t. (t.0, t.2)) (some (λ pieces. in_order pieces round))

pub sends_exact : {T : Type 0} (bytes : List ℕ) (result : Result T StalledError) → Built sending (SendsExact bytes result)
sends_exact bytes (Ok x) = sends_all bytes
sends_exact bytes (Err e) = among (λ s l t. (t.0, t.5)) (some (λ pieces. then (in_order pieces round) (limited send_miss)))

pub ready_to_send : {T : Type 0} (result : Result T ByteSendError) → Built sending (ReadyToSend result)
ready_to_send (Ok x) = send_hit
ready_to_send (Err e) = refused e

sends_some : (bytes : List ℕ) (result : Option ℕ) → Built sending (SendsSome bytes result)
sends_some bytes (Some k) = among (λ s l t. t.1) (round (take k bytes))
sends_some bytes None = limited send_miss

pub writes : (bytes : List ℕ) (result : Result ℕ StalledError) → Built sending (Writes bytes result)
writes bytes (Ok count) = either (among (λ s l t. t.2) (exactly [] refl)) (among (λ s l t. t.1) (sends_some bytes (Some count)))
writes bytes (Err e) = among (λ s l t. t.2) (sends_some bytes None)

pub answers_write : (result : Result Bool StalledError) → Built sending (AnswersWrite result)
answers_write (Ok true) = send_hit
answers_write (Ok false) = send_miss
answers_write (Err e) = never

sends_each : (bytes : List ℕ) → Built sending (SendsEach bytes)
sends_each bytes = in_order bytes (λ byte. round (byte ∷ []))

pub sends_text : {T : Type 0} (text : List ℕ) (result : Result T StalledError) → Built sending (SendsText text result)
sends_text text (Ok x) = sends_each (expansion text)
sends_text text (Err e) = among (λ s l t. (t.0, t.2.1)) (some (λ n. then (sends_each (take n (expansion text))) (limited send_miss)))
