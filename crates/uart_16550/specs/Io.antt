-- Byte readers and writers: what one call does.
use Rattle.std.specs.Prelude.{◌≡◌, ◌<◌, ℕ, Bool, true, false, List, [], Result, Ok, Err, Some, None, length, take, ◌⊎◌}
use Rattle.uart_spec.specs.declared.errors.StalledError.{StalledError}
use Rattle.uart_spec.specs.declared.registers.offsets.TheConstants as offsets
use Rattle.uart_spec.specs.declared.registers.line_status.TheConstants.LSR
use Rattle.uart_16550.specs.Grammar.{Language, Asks, Never}
use Rattle.uart_16550.specs.Receive.{ReceivesSome}
use Rattle.uart_16550.specs.Transmit.{SendsSome, SendHit, SendMiss, WaitsFor}

-- the bytes that a read put into its slots: as many as it returned, and none if it failed
abbrev pub got : {E : Type 0} → Result ℕ E → List ℕ → List ℕ
got (Ok count) slots = take count slots
got (Err e) slots = []

-- `read` into n slots: nothing if n is 0; else some bytes, or a wait that reaches the limit
abbrev pub Reads : ℕ → List ℕ → Result ℕ StalledError → Language
Reads n bytes (Ok count) s l =
    (length bytes ≡ count) × (((n ≡ 0) × (count ≡ 0) × (l ≡ [])) ⊎ ((0 < n) × ReceivesSome n bytes true s l))
Reads n bytes (Err e) s l = (0 < n) × (e.done ≡ 0) × ReceivesSome n bytes false s l

-- `write`: nothing if there are no bytes; else a burst, or a wait that reaches the limit
abbrev pub Writes : List ℕ → Result ℕ StalledError → Language
Writes bytes (Ok count) s l =
    ((length bytes ≡ 0) × (count ≡ 0) × (l ≡ [])) ⊎ ((0 < length bytes) × SendsSome bytes (Some count) s l)
Writes bytes (Err e) s l = (0 < length bytes) × (e.done ≡ 0) × SendsSome bytes None s l

-- proved: A reader's count is at most the number of slots, and 0 only if there are none; a writer's likewise.
-- on: the traits `Read`, `Write`, `ReadReady`, `WriteReady`, and their implementations for `Uart16550`

-- `flush`: a wait for an empty transmitter
abbrev pub Flushes : {T : Type 0} → Result T StalledError → Language
Flushes (Ok x) s l = WaitsFor LSR.TRANSMITTER_EMPTY.0 true s l
Flushes (Err e) s l = (e.done ≡ 0) × WaitsFor LSR.TRANSMITTER_EMPTY.0 false s l

-- `read_ready`: one check for data
abbrev pub AnswersRead : Result Bool StalledError → Language
AnswersRead (Ok ready) = Asks offsets.LSR LSR.DATA_READY.0 ready
AnswersRead (Err e) = Never

-- `write_ready`: one send check
abbrev pub AnswersWrite : Result Bool StalledError → Language
AnswersWrite (Ok true) = SendHit
AnswersWrite (Ok false) = SendMiss
AnswersWrite (Err e) = Never
