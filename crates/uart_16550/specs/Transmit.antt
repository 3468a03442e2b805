-- The lists of the sending calls.
use Rattle.std.specs.Prelude.{◌≡◌, ◌<◌, ℕ, Bool, true, false, List, [], ◌∷◌, ◌+◌, Result, Ok, Err, Option, Some, None}
use Rattle.std.specs.Prelude.{length, ◌⊎◌, map, take, drop, min, if◌then◌else◌}
use Rattle.uart_spec.specs.declared.errors.ByteSendError.{ByteSendError}
use Rattle.uart_spec.specs.declared.errors.ByteSendError.TheVariants.{NoCapacity, RemoteNotClearToSend}
use Rattle.uart_spec.specs.declared.errors.StalledError.{StalledError}
use Rattle.uart_spec.specs.declared.registers.offsets.TheConstants as offsets
use Rattle.uart_spec.specs.declared.registers.line_status.TheConstants.LSR
use Rattle.uart_spec.specs.declared.registers.modem_control.TheConstants.MCR
use Rattle.uart_spec.specs.declared.registers.modem_status.TheConstants.MSR
use Rattle.uart_spec.specs.FifoSize.{characters}
use Rattle.uart_spec.specs.declared.setup.FifoSize.{FifoSize}
use Rattle.uart_spec.specs.declared.access.Access.{Access}
use Rattle.uart_spec.specs.declared.access.Access.TheVariants.{Write}
use Rattle.uart_16550.specs.Grammar.{Language, Settings, Only, Then, InOrder, FewMisses, AllMisses, Asks, IfChecks}
use Rattle.uart_16550.specs.Grammar.{Never}

-- whether the modem lines allow sending: they do if MCR shows loopback, in which they mean nothing, or if MSR shows CTS
abbrev pub LinesAllow : Bool → Language
LinesAllow allowed s l =
    ((allowed ≡ true) × Asks offsets.MCR MCR.LOOP_BACK.0 true s l)
    ⊎ Then (Asks offsets.MCR MCR.LOOP_BACK.0 false) (Asks offsets.MSR MSR.CTS.0 allowed) s l

-- a send check that succeeds: the holding register is empty, and with CTS checking the remote is clear to send
abbrev pub SendHit : Language
SendHit = IfChecks (Then (Asks offsets.LSR LSR.THR_EMPTY.0 true) (LinesAllow true))
    (Asks offsets.LSR LSR.THR_EMPTY.0 true)

-- a send check that fails for this reason
abbrev pub SendRefused : ByteSendError → Language
SendRefused NoCapacity = Asks offsets.LSR LSR.THR_EMPTY.0 false
SendRefused RemoteNotClearToSend = IfChecks (Then (Asks offsets.LSR LSR.THR_EMPTY.0 true) (LinesAllow false)) Never

-- a send check that fails
abbrev pub SendMiss : Language
SendMiss s l = (e : ByteSendError) × SendRefused e s l

-- `ready_to_send`: one send check: LSR shows THR_EMPTY and, if CTS is checked, the modem lines allow sending; or the
-- error names which of these is not so
abbrev pub ReadyToSend : {T : Type 0} → Result T ByteSendError → Language
ReadyToSend (Ok x) = SendHit
ReadyToSend (Err e) = SendRefused e

-- a write of each byte to DATA
abbrev pub data_writes : List ℕ → List Access
data_writes bytes = map (λ byte. Write offsets.DATA byte) bytes

-- a send check that succeeds, and these bytes written
abbrev pub Burst : List ℕ → Language
Burst bytes = Then SendHit (Only (data_writes bytes))

-- the most bytes in one burst: as many as a FIFO of this size holds, or the one of the holding register
abbrev pub burst_limit : (fifo : Bool) → FifoSize → ℕ
burst_limit fifo size = if fifo then characters size else 1

-- how many of these bytes are in one burst
abbrev pub burst_size : Settings → List ℕ → ℕ
burst_size s bytes = min (length bytes) (burst_limit s.fifo s.size)

-- `send_bytes`: nothing if there are no bytes; else a send check and, if it succeeds, bytes from the front are written
-- to DATA: as many as a FIFO of the size that is set holds, or one if it is off. The result is how many
abbrev pub Sends : List ℕ → ℕ → Language
Sends bytes k s l =
    ((length bytes ≡ 0) × (k ≡ 0) × (l ≡ []))
    ⊎ ((0 < length bytes) × (k ≡ 0) × SendMiss s l)
    ⊎ ((0 < length bytes) × (k ≡ burst_size s bytes) × Burst (take k bytes) s l)

-- a burst, after fewer misses in a row than the limit
abbrev pub Round : List ℕ → Language
Round bytes = Then (FewMisses SendMiss) (Burst bytes)

-- a wait for room: a check succeeded after fewer misses in a row than the limit, or there were as many misses
abbrev pub WaitsToSend : Bool → Language
WaitsToSend true = Then (FewMisses SendMiss) SendHit
WaitsToSend false = AllMisses SendMiss

-- a wait for one burst: k of the bytes were sent, or there were as many misses as the limit
abbrev pub SendsSome : List ℕ → Option ℕ → Language
SendsSome bytes (Some k) s l = (k ≡ burst_size s bytes) × Round (take k bytes) s l
SendsSome bytes None s l = AllMisses SendMiss s l

-- these pieces were cut from the front of the bytes, each of the size of a burst, and this is the rest
abbrev pub IsCut : Settings → List ℕ → List (List ℕ) → List ℕ → Type 0
IsCut s bytes [] rest = rest ≡ bytes
IsCut s bytes (piece ∷ pieces) rest =
    (0 < length bytes) × (piece ≡ take (burst_size s bytes) bytes)
    × IsCut s (drop (burst_size s bytes) bytes) pieces rest

-- all of the bytes are sent, burst by burst
abbrev pub SendsAll : List ℕ → Language
SendsAll bytes s l = (pieces : List (List ℕ)) × IsCut s bytes pieces [] × InOrder Round pieces s l

-- `send_bytes_exact`: all bytes, burst by burst, each burst after its own wait; or those before the burst whose wait
-- reaches the limit, as many as the error reports
abbrev pub SendsExact : {T : Type 0} → List ℕ → Result T StalledError → Language
SendsExact bytes (Ok x) s l = SendsAll bytes s l
SendsExact bytes (Err e) s l =
    (pieces : List (List ℕ)) × (rest : List ℕ) × IsCut s bytes pieces rest × (0 < length rest)
    × (e.done + length rest ≡ length bytes)
    × Then (InOrder Round pieces) (AllMisses SendMiss) s l

-- `try_send_byte`: the accesses of `send_bytes` for this one byte, which is sent exactly if the result is `Ok`; the
-- only error is `NoCapacity`
abbrev pub TrySends : {T : Type 0} → ℕ → Result T ByteSendError → Language
TrySends byte (Ok x) = Sends (byte ∷ []) 1
TrySends byte (Err NoCapacity) = Sends (byte ∷ []) 0
TrySends byte (Err RemoteNotClearToSend) = Never

-- a wait for these bits of LSR: fewer reads without them than the limit and then one with them; or as many without
-- them
abbrev pub WaitsFor : ℕ → Bool → Language
WaitsFor bits true = Then (FewMisses (Asks offsets.LSR bits false)) (Asks offsets.LSR bits true)
WaitsFor bits false = AllMisses (Asks offsets.LSR bits false)
