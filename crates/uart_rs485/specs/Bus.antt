-- A driver at a bus: what it holds, and what each call does.
use Rattle.std.specs.Prelude.{◌≡◌, ◌<◌, ◌≢◌, ◌+◌, ℕ, Bool, true, false, List, [], ◌∷◌, ◌++◌, length, take}
use Rattle.std.specs.Prelude.{Result, Ok, Err}
use Rattle.std.specs.List.{FoldsTo}
use Rattle.uart_spec.specs.Access.{Path}
use Rattle.uart_spec.specs.declared.access.Access.{Access}
use Rattle.uart_spec.specs.declared.registers.offsets.TheConstants as offsets
use Rattle.uart_16550.specs.Driver.{Fields, Doing, Saving, Next, fields, backend_of}
use Rattle.uart_16550.specs.Frame.{ShowsIdle, unlooped}
use Rattle.uart_16550.specs.Grammar.{AllMisses, InOrder, Language, Modifies, Then}
use Rattle.uart_16550.specs.Receive.{Awaited, Miss}
use Rattle.uart_16550.specs.Status.{TakesLsr}
use Rattle.uart_16550.specs.Transmit.{Sends, SendsExact}
use Rattle.uart_16550.specs.declared.driver.Uart16550.{Uart16550}
use Rattle.uart_rs485.specs.Directions.{turned}
use Rattle.uart_rs485.specs.declared.bus.HalfDuplex.{HalfDuplex}
use Rattle.uart_rs485.specs.declared.direction.Direction.{Direction}
use Rattle.uart_ring.specs.declared.refused.Refused.{Refused}
use Rattle.uart_rs485.specs.declared.errors.BusyError.{BusyError}
use Rattle.uart_rs485.specs.declared.errors.EchoError.{EchoError}
use Rattle.uart_rs485.specs.declared.errors.EchoError.TheVariants.{Differs, Silent}
use Rattle.uart_rs485.specs.declared.errors.NotSendingError.{NotSendingError}
use Rattle.uart_rs485.specs.declared.errors.SendError.{SendError}
use Rattle.uart_rs485.specs.declared.errors.SendError.TheVariants.{NotSending, Stalled}

-- the driver at a bus
abbrev pub driver_of : {B : Type 0} → HalfDuplex B → Uart16550 B
driver_of b = b.uart

-- the backend under the driver
abbrev pub bus_backend_of : {B : Type 0} → HalfDuplex B → B
bus_backend_of b = backend_of b.uart

-- a driver at a bus without its backend: what the driver holds, how the transceiver is switched, and whether its
-- direction is to send
pub record BusFields : Type 0 where
  pub driver : Fields
  pub direction : Direction
  pub sends : Bool

-- what this one holds beside its backend
abbrev pub bus_fields : {B : Type 0} → HalfDuplex B → BusFields
bus_fields b = record { driver = fields b.uart; direction = b.direction; sends = b.is_sending }

-- what a call does: the fields before it, its accesses, and the fields after it
abbrev pub BusDoing : Type 1
BusDoing = BusFields → List Access → BusFields → Type 0

-- the call did this, on a path of the backend's steps
pub record BusDid {B : Type 0} (step : B → Access → B → Type 0) (G : BusDoing) (old new : HalfDuplex B) : Type 0 where
  pub list : List Access
  pub path : Path step (bus_backend_of old) list (bus_backend_of new)
  pub does : G (bus_fields old) list (bus_fields new)

-- the caller was asked and gave some answers, from the first of its states to the second, and the call did what goes
-- with them, as `BusDid` says
pub record BusDidWhile {P B : Type 0} (answers : P → Bool → P → Type 0) (step : B → Access → B → Type 0)
    (G : List Bool → BusDoing) (before after : P) (old new : HalfDuplex B) : Type 0 where
  pub said : List Bool
  pub asked : FoldsTo answers before said after
  pub did : BusDid step (G said) old new

-- the fields as they are; with another driver; with this direction
abbrev pub unchanged : BusFields → BusFields
unchanged f = f

abbrev pub with_driver : Fields → BusFields → BusFields
with_driver driver f = record f { driver = driver }

abbrev pub with_sends : Bool → BusFields → BusFields
with_sends sends f = record f { sends = sends }

-- The contracts are made of the driver's own calls, so no access is specified twice.

-- the driver does this, and of the other fields only this changes
abbrev pub OnDriver : Doing → (BusFields → BusFields) → BusDoing
OnDriver G change f l after = G f.driver l after.driver × (after ≡ with_driver after.driver (change f))

-- nothing at all
abbrev pub Stays : BusDoing
Stays f l after = (l ≡ []) × (after ≡ f)

-- the transceiver is switched: MCR is read, and written with the line as it is to be in this direction, without
-- loopback, and at RTS without automatic flow control
abbrev pub Turns : (sends : Bool) → BusDoing
Turns sends f =
    OnDriver (Saving (Modifies offsets.MCR (λ mcr. unlooped (turned f.direction sends mcr)))) (with_sends sends) f

-- `try_finish`: a look at LSR shows that the transmitter is empty, and the transceiver is switched to receive; or it
-- shows that it is not, and nothing else is done
abbrev pub TriesToFinish : {T : Type 0} → Result T BusyError → BusDoing
TriesToFinish (Ok x) = Next (OnDriver (Saving (ShowsIdle true)) unchanged) (Turns false)
TriesToFinish (Err e) = OnDriver (Saving (ShowsIdle false)) unchanged

-- a driver at a bus of which nothing is known, so that its direction is taken to be to send
abbrev pub unknown : {B : Type 0} → Uart16550 B → Direction → HalfDuplex B
unknown driver direction = record { uart = driver; direction = direction; is_sending = true }

-- `new`: as `try_finish` of a driver of whose direction nothing is known, so that it is taken to be to send. If the
-- transmitter is not empty, the driver is returned
abbrev pub Begins : {B : Type 0} → (B → Access → B → Type 0) → Uart16550 B → Direction →
    Result (HalfDuplex B) (Refused (Uart16550 B) BusyError) → Type 0
Begins step driver direction (Ok bus) =
    BusDid step (TriesToFinish {T = Unit {0}} (Ok tt)) (unknown driver direction) bus
Begins step driver direction (Err refused) =
    BusDid step (TriesToFinish {T = Unit {0}} (Err refused.cause)) (unknown driver direction)
    (unknown refused.given direction)

-- a driver at a bus that receives
abbrev pub receiving : {B : Type 0} → Uart16550 B → Direction → HalfDuplex B
receiving driver direction = record { uart = driver; direction = direction; is_sending = false }

-- `give_up`: one read of LSR, which is returned joined with the saved bits, and the transceiver is switched to receive,
-- whatever LSR shows
abbrev pub GivesUp : (status : ℕ) → BusDoing
GivesUp status = Next (OnDriver (TakesLsr status) unchanged) (Turns false)

-- `receive_echo`: each byte that was sent is heard, after its own wait; or as many as the error reports, and then
-- another byte than was sent there, or none in the next wait
abbrev pub HearsEcho : {T : Type 0} → (sent : List ℕ) → Result T EchoError → Language
HearsEcho sent (Ok x) s l = InOrder Awaited sent s l
HearsEcho sent (Err (Differs done heard)) s l =
    (byte : ℕ) × (take (done + 1) sent ≡ take done sent ++ byte ∷ []) × (byte ≢ heard)
    × InOrder Awaited (take done sent ++ heard ∷ []) s l
HearsEcho sent (Err (Silent done)) s l =
    (done < length sent) × Then (InOrder Awaited (take done sent)) (AllMisses Miss) s l

-- `send_bytes`: while the direction is to send, a `send_bytes` of the driver; else nothing, and the error
abbrev pub SendsBytes : List ℕ → Result ℕ NotSendingError → BusDoing
SendsBytes bytes (Ok count) f l after = (f.sends ≡ true) × OnDriver (Saving (Sends bytes count)) unchanged f l after
SendsBytes bytes (Err e) f l after = (f.sends ≡ false) × Stays f l after

-- `send_bytes_exact`: while the direction is to send, a `send_bytes_exact` of the driver; else nothing, and the error
abbrev pub SendsBytesExact : {T : Type 0} → List ℕ → Result T SendError → BusDoing
SendsBytesExact bytes (Ok x) f l after =
    (f.sends ≡ true) × OnDriver (Saving (SendsExact {T = Unit {0}} bytes (Ok tt))) unchanged f l after
SendsBytesExact bytes (Err (Stalled e)) f l after =
    (f.sends ≡ true) × OnDriver (Saving (SendsExact {T = Unit {0}} bytes (Err e))) unchanged f l after
SendsBytesExact bytes (Err NotSending) f l after = (f.sends ≡ false) × Stays f l after
