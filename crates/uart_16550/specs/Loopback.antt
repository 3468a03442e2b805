-- The loopback test, access by access.
use Rattle.std.specs.Prelude.{◌≡◌, ◌≢◌, ℕ, Bool, true, false, List, [], ◌∷◌, ◌++◌, Result, Ok, Err}
use Rattle.std.specs.Prelude.{Option, Some, None, length, map, ◌⊎◌, codes}
use Rattle.std.specs.Int.RustNames.{bit_or}
use Rattle.bitflags.specs.Sets.{without}
use Rattle.uart_spec.specs.Lines.{line_changes}
use Rattle.uart_spec.specs.declared.errors.StalledError.{StalledError}
use Rattle.uart_spec.specs.declared.errors.LoopbackError.{LoopbackError}
use Rattle.uart_spec.specs.declared.errors.LoopbackError.TheVariants.{
  Stalled,
  SendError,
  UnexpectedLoopbackByte,
  UnexpectedLoopbackMsg,
}
use Rattle.uart_spec.specs.declared.registers.fifo_trigger_level.FifoTriggerLevel.{FifoTriggerLevel}
use Rattle.uart_spec.specs.declared.registers.offsets.TheConstants as offsets
use Rattle.uart_spec.specs.declared.registers.line_status.TheConstants.LSR
use Rattle.uart_spec.specs.declared.registers.modem_control.TheConstants.MCR
use Rattle.uart_spec.specs.declared.access.Access.TheVariants.{Read, Write}
use Rattle.uart_16550.specs.Grammar.{Language, Only, Then, InOrder, FewMisses, AllMisses, IfFifo}
use Rattle.uart_16550.specs.Receive.{Hit, Miss, Awaited, ReceivesExact}
use Rattle.uart_16550.specs.Transmit.{SendMiss, Round, SendsAll, SendsExact, TrySends, WaitsFor}
use Rattle.uart_16550.specs.Init.{SetsFifo}
use Rattle.uart_16550.specs.Driver.{Fields, Doing, Saving, Plain, Sets, Next, with_fifo, with_saved}

-- 42 in hexadecimal, and `hello world!1337`
abbrev pub test_byte : ℕ
test_byte = 66

abbrev pub test_message : List ℕ
test_message = codes "hello world!1337"

-- a byte that was received before the test is taken
abbrev pub TakesOne : Language
TakesOne s l = (byte : ℕ) × Hit byte s l

-- bytes that were received before the test are taken until none is available; or as many as the limit were taken
abbrev pub DrainsLoopback : Bool → Language
DrainsLoopback true = Then (FewMisses TakesOne) Miss
DrainsLoopback false = AllMisses TakesOne

-- the test byte is sent at once
abbrev pub SendsTestByte : Language
SendsTestByte = TrySends {T = Unit {0}} test_byte (Ok tt)

-- the test byte: it is sent and comes back; or it is not sent; or the wait for it is unsuccessful; or another byte
-- comes back
abbrev pub ExchangesByte : {T : Type 0} → Result T LoopbackError → Language
ExchangesByte (Ok x) s l = Then SendsTestByte (Awaited test_byte) s l
ExchangesByte (Err (SendError e)) s l = TrySends {T = Unit {0}} test_byte (Err e) s l
ExchangesByte (Err Stalled) s l = Then SendsTestByte (AllMisses Miss) s l
ExchangesByte (Err (UnexpectedLoopbackByte expected actual)) s l =
    (expected ≡ test_byte) × (actual ≢ test_byte) × Then SendsTestByte (Awaited actual) s l
ExchangesByte (Err (UnexpectedLoopbackMsg expected actual)) s l = ⊥

-- a byte is sent after a wait, and this byte comes back
abbrev pub Echo : (ℕ × ℕ) → Language
Echo pair = Then (Round (pair.0 ∷ [])) (Awaited pair.1)

-- a wait that reaches the limit, for room or for the byte that should return
abbrev pub EchoFails : ℕ → Language
EchoFails byte s l = AllMisses SendMiss s l ⊎ Then (Round (byte ∷ [])) (AllMisses Miss) s l

-- what came back for a byte, or nothing if a wait was unsuccessful
abbrev pub HasEchoed : ℕ → Option ℕ → Language
HasEchoed byte (Some back) = Echo (byte, back)
HasEchoed byte None = EchoFails byte

-- with a FIFO: the bytes are sent as a whole, and as many are received; or one of the two stalls
abbrev pub WholeEchoes : (sent got : List ℕ) → Language
WholeEchoes sent got s l = (length got ≡ length sent) × Then (SendsAll sent) (InOrder Awaited got) s l

abbrev pub WholeFails : (sent : List ℕ) → Language
WholeFails sent s l = ((e : StalledError) × SendsExact {T = Unit {0}} sent (Err e) s l)
    ⊎ ((e : StalledError) × (got : List ℕ)
    × Then (SendsAll sent) (ReceivesExact {T = Unit {0}} (length sent) got (Err e)) s l)

-- without a FIFO: each byte is sent and received by itself; or a wait for one of them is unsuccessful
abbrev pub EachEchoes : (sent got : List ℕ) → Language
EachEchoes sent got s l =
    (pairs : List (ℕ × ℕ)) × (map (λ pair. pair.0) pairs ≡ sent) × (map (λ pair. pair.1) pairs ≡ got)
    × InOrder Echo pairs s l

abbrev pub EachFails : (sent : List ℕ) → Language
EachFails sent s l =
    (pairs : List (ℕ × ℕ)) × (byte : ℕ) × (rest : List ℕ) × (map (λ pair. pair.0) pairs ++ (byte ∷ rest) ≡ sent)
    × Then (InOrder Echo pairs) (EchoFails byte) s l

-- what came back for these bytes, or nothing if a wait was unsuccessful, with a FIFO and without; the one of the two
-- that fits
abbrev pub HasEchoedWhole : List ℕ → Option (List ℕ) → Language
HasEchoedWhole sent (Some got) = WholeEchoes sent got
HasEchoedWhole sent None = WholeFails sent

abbrev pub HasEchoedEach : List ℕ → Option (List ℕ) → Language
HasEchoedEach sent (Some got) = EachEchoes sent got
HasEchoedEach sent None = EachFails sent

abbrev pub HasEchoedAll : List ℕ → Option (List ℕ) → Language
HasEchoedAll sent got = IfFifo (HasEchoedWhole sent got) (HasEchoedEach sent got)

-- the test message: sent and received; or a wait that reaches the limit; or other bytes received
abbrev pub ExchangesMessage : {T : Type 0} → Result T LoopbackError → Language
ExchangesMessage (Ok x) s l = HasEchoedAll test_message (Some test_message) s l
ExchangesMessage (Err (SendError e)) s l = ⊥
ExchangesMessage (Err Stalled) s l = HasEchoedAll test_message None s l
ExchangesMessage (Err (UnexpectedLoopbackByte expected actual)) s l = ⊥
ExchangesMessage (Err (UnexpectedLoopbackMsg expected actual)) s l =
    (expected ≡ test_message) × (actual ≢ test_message) × (length actual ≡ length test_message)
    × HasEchoedAll test_message (Some actual) s l

-- in loopback: bytes from before the test taken, the byte, the message, up to the first error
abbrev pub Exchanges : {T : Type 0} → Result T LoopbackError → Language
Exchanges (Ok x) s l = Then (DrainsLoopback true) (Then (ExchangesByte (Ok x)) (ExchangesMessage (Ok x))) s l
Exchanges (Err e) s l = ((e ≡ Stalled) × DrainsLoopback false s l)
    ⊎ (Then (DrainsLoopback true) (ExchangesByte {T = Unit {0}} (Err e)) s l
    ⊎ Then (DrainsLoopback true)
    (Then (ExchangesByte {T = Unit {0}} (Ok tt)) (ExchangesMessage {T = Unit {0}} (Err e))) s l)

-- MSR is read, interrupts are switched off, loopback is switched on, and the FIFO step is made with this level
abbrev pub EntersAt : Option FifoTriggerLevel → (before : ℕ) → (fifo : Bool) → Doing
EntersAt level before fifo =
    Next (Saving (Then (Only (Read offsets.MSR before ∷ Write offsets.IER 0 ∷ Write offsets.MCR MCR.LOOP_BACK.0 ∷ []))
    (SetsFifo level fifo)))
    (Sets (with_fifo fifo))

-- the same with the configured level
abbrev pub Enters : (before : ℕ) → (fifo : Bool) → Doing
Enters before fifo f l after = EntersAt f.config.fifo_trigger_level before fifo f l after

-- these changes are added to the saved ones, and the saved errors are those noted before the test
abbrev pub with_changes : (noted changes : ℕ) → Fields → Fields
with_changes noted changes f = with_saved noted (bit_or f.msr changes) f

-- loopback is left, MCR and IER are restored, changes of the lines are saved, and the saved errors are those noted
-- before
abbrev pub Leaves : (mcr ier before noted : ℕ) → Doing
Leaves mcr ier before noted f l after = (now : ℕ) ×
    Next (Saving (Only (Write offsets.MCR (without 8 mcr MCR.OUT_2_INT_ENABLE.0) ∷ [])))
    (Next (Plain (Only (Read offsets.MSR now ∷ [])))
    (Next (Saving (Only (Write offsets.MCR mcr ∷ Write offsets.IER ier ∷ [])))
    (Sets (with_changes noted (line_changes before now))))) f l after

-- MCR and IER are read, and then there is a wait for an empty transmitter
abbrev pub BeginsTest : (mcr ier : ℕ) → Bool → Language
BeginsTest mcr ier empty =
    Then (Only (Read offsets.MCR mcr ∷ Read offsets.IER ier ∷ [])) (WaitsFor LSR.TRANSMITTER_EMPTY.0 empty)

-- loopback is entered so, this is done in it, and it is left; the errors that are noted are those saved before it
abbrev pub Inside : (enters : ℕ → Bool → Doing) → (during : Doing) → (mcr ier : ℕ) → Doing
Inside enters during mcr ier f l after = (before : ℕ) × (fifo : Bool) ×
    Next (enters before fifo) (Next during (Leaves mcr ier before f.lsr)) f l after

-- what follows the first wait; the end of that wait decides which errors are noted
abbrev pub Tests : {T : Type 0} → (mcr ier : ℕ) → Result T LoopbackError → Doing
Tests mcr ier result = Inside Enters (Saving (Exchanges result)) mcr ier

-- MCR and IER are read, and there is a wait for an empty transmitter. If it reaches the limit, nothing is written, and
-- the call has stalled; else this follows, which knows what MCR and IER were
abbrev pub FromEmpty : (stalled : Type 0) → (ℕ → ℕ → Doing) → Doing
FromEmpty stalled follows f l after = (mcr : ℕ) × (ier : ℕ) ×
    ((stalled × Saving (BeginsTest mcr ier false) f l after)
    ⊎ Next (Saving (BeginsTest mcr ier true)) (follows mcr ier) f l after)

-- the result is a stall
abbrev pub IsStalled : {T : Type 0} → Result T LoopbackError → Type 0
IsStalled (Ok x) = ⊥
IsStalled (Err e) = e ≡ Stalled

-- `test_loopback`: MCR and IER are read, and there is a wait for an empty transmitter. If it reaches the limit, nothing
-- is written, and the result is a stall; else loopback is entered, bytes are exchanged up to the first error, and MCR
-- and IER are restored
abbrev pub TestsLoopback : {T : Type 0} → Result T LoopbackError → Doing
TestsLoopback result = FromEmpty (IsStalled result) (λ mcr ier. Tests mcr ier result)
