-- The lists of the receiving calls.
use Rattle.std.specs.Prelude.{◌≡◌, ◌<◌, ℕ, Bool, true, false, List, [], ◌∷◌, Result, Ok, Err, Option, Some, None}
use Rattle.std.specs.Prelude.{length, take, bit_and, ◌⊎◌}
use Rattle.uart_spec.specs.declared.errors.StalledError.{StalledError}
use Rattle.uart_spec.specs.declared.registers.offsets.TheConstants as offsets
use Rattle.uart_spec.specs.declared.registers.line_status.TheConstants.LSR
use Rattle.uart_spec.specs.declared.access.Access.TheVariants.{Read}
use Rattle.uart_spec.specs.Bits.{has}
use Rattle.uart_spec.specs.declared.received.Received.{Received}
use Rattle.uart_16550.specs.Grammar.{Language, Only, Then, InOrder, FewMisses, AllMisses, Asks}

-- a read of LSR that shows data, and a read of the byte
abbrev pub Hit : ℕ → Language
Hit byte = Then (Asks offsets.LSR LSR.DATA_READY.0 true) (Only (Read offsets.DATA byte ∷ []))

-- a read of LSR that shows no data
abbrev pub Miss : Language
Miss = Asks offsets.LSR LSR.DATA_READY.0 false

-- `ready_to_receive`: one read of LSR, which shows a received byte exactly if the result is `Ok`
abbrev pub ReadyToReceive : {T E : Type 0} → Result T E → Language
ReadyToReceive (Ok x) = Asks offsets.LSR LSR.DATA_READY.0 true
ReadyToReceive (Err e) = Miss

-- `try_receive_byte`: LSR shows a received byte, which is read from DATA and returned; or LSR shows none
abbrev pub TryReceive : {E : Type 0} → Result ℕ E → Language
TryReceive (Ok byte) = Hit byte
TryReceive (Err e) = Miss

-- `receive_bytes`: bytes are read from DATA, each after LSR shows it, until the slots are full, or LSR shows none
abbrev pub Receives : ℕ → List ℕ → Language
Receives n bytes s l =
    ((length bytes ≡ n) × InOrder Hit bytes s l) ⊎ ((length bytes < n) × Then (InOrder Hit bytes) Miss s l)

-- a read of LSR that shows data and these line errors, and a read of the byte
abbrev pub HitWithErrors : Received → Language
HitWithErrors received s l =
    (lsr : ℕ) × (has lsr LSR.DATA_READY.0 ≡ true) × (received.errors.0 ≡ bit_and lsr LSR.LINE_ERRORS.0)
    × (l ≡ Read offsets.LSR lsr ∷ Read offsets.DATA received.byte ∷ [])

-- `try_receive_with_errors`: LSR shows a received byte, which is read from DATA and returned with the errors that LSR
-- shows; or LSR shows none
abbrev pub TryReceiveWithErrors : {E : Type 0} → Result Received E → Language
TryReceiveWithErrors (Ok received) = HitWithErrors received
TryReceiveWithErrors (Err e) = Miss

-- `receive_with_errors`: bytes are read from DATA, each after LSR shows it and its errors, until the slots are full, or
-- LSR shows none
abbrev pub ReceivesWithErrors : ℕ → List Received → Language
ReceivesWithErrors n items s l =
    ((length items ≡ n) × InOrder HitWithErrors items s l)
    ⊎ ((length items < n) × Then (InOrder HitWithErrors items) Miss s l)

-- a byte, after fewer misses in a row than the limit
abbrev pub Awaited : ℕ → Language
Awaited byte = Then (FewMisses Miss) (Hit byte)

-- a wait for one byte: it was received, or there were as many misses as the limit
abbrev pub Awaits : Option ℕ → Language
Awaits (Some byte) = Awaited byte
Awaits None = AllMisses Miss

-- a wait for bytes into n slots: some were received, or there were as many misses as the limit
abbrev pub ReceivesSome : ℕ → List ℕ → Bool → Language
ReceivesSome n bytes true s l = (0 < length bytes) × Then (FewMisses Miss) (Receives n bytes) s l
ReceivesSome n bytes false s l = (length bytes ≡ 0) × AllMisses Miss s l

-- the bytes that an exact call put into its slots: all of them, or as many as the stall reports
abbrev pub filled : {T : Type 0} → Result T StalledError → List ℕ → List ℕ
filled (Ok x) slots = slots
filled (Err e) slots = take e.done slots

-- `receive_bytes_exact`: the slots are filled, each after its own wait; or those before the one whose wait reaches the
-- limit, as many as the error reports
abbrev pub ReceivesExact : {T : Type 0} → ℕ → List ℕ → Result T StalledError → Language
ReceivesExact n bytes (Ok x) s l = (length bytes ≡ n) × InOrder Awaited bytes s l
ReceivesExact n bytes (Err e) s l =
    (length bytes < n) × (e.done ≡ length bytes) × Then (InOrder Awaited bytes) (AllMisses Miss) s l
