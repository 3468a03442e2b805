-- Waits that ask their caller, after each check that fails, whether to keep waiting.
use Rattle.std.specs.Prelude.{◌≡◌, ◌<◌, ◌+◌, ℕ, zero, suc, Bool, true, false, List, [], ◌∷◌, ◌++◌, Result, Ok, Err}
use Rattle.std.specs.Prelude.{length, map, take}
use Rattle.std.specs.List.{FoldsTo}
use Rattle.uart_spec.specs.declared.errors.StalledError.{StalledError}
use Rattle.uart_spec.specs.declared.registers.offsets.TheConstants as offsets
use Rattle.uart_spec.specs.declared.registers.line_status.TheConstants.LSR
use Rattle.uart_spec.specs.declared.access.Access.{Access}
use Rattle.uart_16550.specs.Grammar.{Language, Settings, Then, InOrder, Times, AllMisses, Asks}
use Rattle.uart_16550.specs.Io.{Flushes}
use Rattle.uart_16550.specs.Receive.{Hit, Miss, ReceivesExact}
use Rattle.uart_16550.specs.Transmit.{SendHit, SendMiss, Burst, IsCut, SendsExact}
use Rattle.uart_16550.specs.Driver.{Made}
use Rattle.uart_16550.specs.declared.patience.WaitEnd.{WaitEnd}
use Rattle.uart_16550.specs.declared.patience.WaitEnd.TheVariants.{SpinLimit, Patience}
use Rattle.uart_16550.specs.declared.patience.WaitError.{WaitError}
use Rattle.uart_16550.specs.declared.driver.Uart16550.{Uart16550}

-- n answers, each to keep waiting
abbrev pub keeps_waiting : ℕ → List Bool
keeps_waiting zero = []
keeps_waiting (suc n) = true ∷ keeps_waiting n

-- so many misses in a row, which are fewer than the limit, and then what was waited for
abbrev pub After : ℕ → (miss hit : Language) → Language
After n miss hit s l =
    -- there are fewer misses than the limit
    (n < s.limit) × Then (Times n miss) hit s l

-- a wait in vain, the answers of the caller, which is asked once after each miss, and what ended it: the limit, if
-- there were as many misses in a row and the answer after each was to keep waiting; or the caller, if the answer after
-- the last one was to wait no longer
abbrev pub InVain : (miss : Language) → List Bool → WaitEnd → Language
InVain miss said SpinLimit s l = (said ≡ keeps_waiting s.limit) × AllMisses miss s l
InVain miss said Patience s l =
    (n : ℕ) × (n < s.limit) × (said ≡ keeps_waiting n ++ false ∷ []) × Times (n + 1) miss s l

-- a wait for room, and the answers of the caller: a check succeeded after fewer misses in a row than the limit; or the
-- wait was in vain
abbrev pub WaitsWhile : {T : Type 0} → List Bool → Result T WaitEnd → Language
WaitsWhile said (Ok x) s l = (n : ℕ) × (said ≡ keeps_waiting n) × After n SendMiss SendHit s l
WaitsWhile said (Err end) s l = InVain SendMiss said end s l

-- a wait for one byte, and the answers of the caller: it was received after fewer misses in a row than the limit; or
-- the wait was in vain
abbrev pub AwaitsWhile : List Bool → Result ℕ WaitEnd → Language
AwaitsWhile said (Ok byte) s l = (n : ℕ) × (said ≡ keeps_waiting n) × After n Miss (Hit byte) s l
AwaitsWhile said (Err end) s l = InVain Miss said end s l

-- what was waited for, and how many misses came before it
pub record Awaited (A : Type 0) : Type 0 where
  pub misses : ℕ
  pub item : A

-- the burst, after so many misses in a row, which are fewer than the limit
abbrev pub RoundAfter : Awaited (List ℕ) → Language
RoundAfter round = After round.misses SendMiss (Burst round.item)

-- the byte, after so many misses in a row, which are fewer than the limit
abbrev pub ByteAfter : Awaited ℕ → Language
ByteAfter byte = After byte.misses Miss (Hit byte.item)

-- all that was waited for in turn, and how many misses came before all of it
abbrev pub items_of : {A : Type 0} → List (Awaited A) → List A
items_of awaited = map (λ one. one.item) awaited

abbrev pub misses_of : {A : Type 0} → List (Awaited A) → ℕ
misses_of [] = 0
misses_of (one ∷ others) = one.misses + misses_of others

-- `send_bytes_while`, with the answers of the caller: all bytes, burst by burst, each burst after its own wait; or
-- those before the burst whose wait ended in vain, as many as the error reports, which tells what ended that wait
abbrev pub SendsWhile : {T : Type 0} → List ℕ → List Bool → Result T WaitError → Language
SendsWhile bytes said (Ok x) s l =
    (rounds : List (Awaited (List ℕ))) × IsCut s bytes (items_of rounds) [] × (said ≡ keeps_waiting (misses_of rounds))
    × InOrder RoundAfter rounds s l
SendsWhile bytes said (Err e) s l =
    (rounds : List (Awaited (List ℕ))) × (last : List Bool) × (rest : List ℕ) × IsCut s bytes (items_of rounds) rest
    × (0 < length rest) × (e.done + length rest ≡ length bytes)
    × (said ≡ keeps_waiting (misses_of rounds) ++ last)
    × Then (InOrder RoundAfter rounds) (InVain SendMiss last e.ended_by) s l

-- the slots that `receive_bytes_while` filled
abbrev pub filled_while : {T : Type 0} → Result T WaitError → List ℕ → List ℕ
filled_while (Ok x) slots = slots
filled_while (Err e) slots = take e.done slots

-- `receive_bytes_while`, with the answers of the caller: the slots are filled, each byte after its own wait; or those
-- before the one whose wait ended in vain, as many as the error reports, which tells what ended that wait
abbrev pub ReceivesWhile : {T : Type 0} → ℕ → List ℕ → List Bool → Result T WaitError → Language
ReceivesWhile n bytes said (Ok x) s l =
    (received : List (Awaited ℕ)) × (bytes ≡ items_of received) × (length bytes ≡ n)
    × (said ≡ keeps_waiting (misses_of received)) × InOrder ByteAfter received s l
ReceivesWhile n bytes said (Err e) s l =
    (received : List (Awaited ℕ)) × (last : List Bool) × (bytes ≡ items_of received) × (length bytes < n)
    × (e.done ≡ length bytes) × (said ≡ keeps_waiting (misses_of received) ++ last)
    × Then (InOrder ByteAfter received) (InVain Miss last e.ended_by) s l

-- a look at LSR that shows an empty transmitter, or does not
abbrev pub ShowsEmpty : Bool → Language
ShowsEmpty empty = Asks offsets.LSR LSR.TRANSMITTER_EMPTY.0 empty

-- `flush_while`, with the answers of the caller: the transmitter was empty after fewer misses in a row than the limit;
-- or the wait was in vain, and the error tells what ended it
abbrev pub FlushesWhile : {T : Type 0} → List Bool → Result T WaitError → Language
FlushesWhile said (Ok x) s l = (n : ℕ) × (said ≡ keeps_waiting n) × After n (ShowsEmpty false) (ShowsEmpty true) s l
FlushesWhile said (Err e) s l = (e.done ≡ 0) × InVain (ShowsEmpty false) said e.ended_by s l

-- the caller was asked and gave some answers, from the first of its states to the second, and the call made a list of
-- the language that goes with them, as `Made` says
pub record MadeWhile {P B : Type 0} (answers : P → Bool → P → Type 0) (step : B → Access → B → Type 0)
    (L : List Bool → Language) (before after : P) (old new : Uart16550 B) : Type 0 where
  pub said : List Bool
  pub asked : FoldsTo answers before said after
  pub made : Made step (L said) old new

-- the result of a call that asks its caller, of one that does the same and does not ask: its wait ends at the limit
abbrev pub at_limit : {T : Type 0} → Result T StalledError → Result T WaitError
at_limit (Ok x) = Ok x
at_limit (Err e) = Err (record { done = e.done; ended_by = SpinLimit })

-- a caller that keeps waiting each time it is asked: then `send_bytes_while` does what `send_bytes_exact` does
abbrev pub IsExactIfEndless : Type 0
IsExactIfEndless = (bytes : List ℕ) (n : ℕ) (result : Result (Unit {0}) WaitError) (s : Settings) (l : List Access) →
    SendsWhile bytes (keeps_waiting n) result s l →
    (exact : Result (Unit {0}) StalledError) × (result ≡ at_limit exact) × SendsExact bytes exact s l

-- and `receive_bytes_while` does what `receive_bytes_exact` does
abbrev pub ReceivesExactIfEndless : Type 0
ReceivesExactIfEndless = (n : ℕ) (bytes : List ℕ) (asked : ℕ) (result : Result (Unit {0}) WaitError) (s : Settings)
    (l : List Access) → ReceivesWhile n bytes (keeps_waiting asked) result s l →
    (exact : Result (Unit {0}) StalledError) × (result ≡ at_limit exact) × ReceivesExact n bytes exact s l

-- and `flush_while` does what `flush` does
abbrev pub FlushesIfEndless : Type 0
FlushesIfEndless = (n : ℕ) (result : Result (Unit {0}) WaitError) (s : Settings) (l : List Access) →
    FlushesWhile (keeps_waiting n) result s l →
    (exact : Result (Unit {0}) StalledError) × (result ≡ at_limit exact) × Flushes exact s l
