-- Serving interrupts.
use Rattle.std.specs.Prelude.{◌≡◌, ◌<◌, ◌&&◌, ℕ, zero, suc, Bool, true, false, [], ◌∷◌, Option, Some, None}
use Rattle.uart_spec.specs.declared.access.Access.TheVariants.{Read}
use Rattle.uart_spec.specs.Bits.{has, IsOnlyIfAny}
use Rattle.uart_spec.specs.Fields.{Identifies}
use Rattle.uart_spec.specs.declared.registers.interrupt_status.TheConstants.ISR
use Rattle.uart_spec.specs.declared.registers.line_status.TheConstants.LSR
use Rattle.uart_spec.specs.declared.registers.interrupt_type.InterruptType.{InterruptType}
use Rattle.uart_spec.specs.declared.registers.interrupt_type.InterruptType.TheVariants.{ReceiverLineStatus}
use Rattle.uart_spec.specs.declared.registers.interrupt_type.InterruptType.TheVariants.{ReceivedDataReady, ModemStatus}
use Rattle.uart_spec.specs.declared.registers.interrupt_type.InterruptType.TheVariants.{ReceptionTimeout}
use Rattle.uart_spec.specs.declared.registers.interrupt_type.InterruptType.TheVariants.{TransmitterHoldingRegisterEmpty}
use Rattle.uart_spec.specs.declared.registers.interrupt_type.InterruptType.TheVariants.{DmaReceptionEndOfTransfer}
use Rattle.uart_spec.specs.declared.registers.interrupt_type.InterruptType.TheVariants.{DmaTransmissionEndOfTransfer}
use Rattle.uart_spec.specs.declared.registers.offsets.TheConstants as offsets
use Rattle.uart_16550.specs.Grammar.{Only}
use Rattle.uart_16550.specs.Driver.{Doing, Saving}
use Rattle.uart_ring.specs.declared.ring.service.TheConstants.{MAX_INTERRUPTS}
use Rattle.uart_ring.specs.declared.ring.service.HandleEnd.{HandleEnd}
use Rattle.uart_ring.specs.declared.ring.service.HandleEnd.TheVariants.{Idle, Unknown, Limit}
use Rattle.uart_ring.specs.declared.ring.service.Handled.{Handled}
use Rattle.uart_ring.specs.Ring.{RingDoing, OnDriver, Stays, RingNext, unchanged}
use Rattle.uart_ring.specs.Transmit.{Pumps, SendsOn}
use Rattle.uart_ring.specs.Receive.{FillsReceiveRing}
use Rattle.uart_ring.specs.Status.{NotesLine, NotesModem}

-- one read of ISR, which shows this interrupt, or no interrupt that has a name
abbrev pub ShowsInterrupt : Option InterruptType → Doing
ShowsInterrupt interrupt f l after =
    (isr : ℕ) × IsOnlyIfAny (Identifies isr) interrupt × Saving (Only (Read offsets.ISR isr ∷ [])) f l after

-- Some chips show a line status where THR-empty and received data are due together, and the read of ISR acknowledges
-- THR-empty. So a handler, which sends, notes whether LSR shows room at a line status. It sends behind the next data,
-- and not before it: what waits in the receiver is in more of a hurry.

-- a line status: its errors are noted, and if this sends also whether LSR shows room
abbrev pub ServesLine : (sends room : Bool) → RingDoing
ServesLine sends room f l after =
    (status : ℕ) × (room ≡ (sends && has status LSR.THR_EMPTY.0)) × NotesLine status f l after

-- if a line status has shown room, what the chip takes at once is sent
abbrev pub SendsOnIf : (room : Bool) → RingDoing
SendsOnIf true = SendsOn
SendsOnIf false = Stays

-- data: bytes are received; and then what the chip takes is sent, if a line status has shown room
abbrev pub ServesData : (room : Bool) → RingDoing
ServesData room = RingNext FillsReceiveRing (SendsOnIf room)

-- how an interrupt is served: bytes are received, a pump is made, a status is noted, or nothing is done; and whether a
-- line status has shown room, before it and after it, behind which nothing was sent
abbrev pub ServesInterrupt : (sends before after : Bool) → (interrupt : InterruptType) → RingDoing
ServesInterrupt sends room left ReceiverLineStatus f l after = ServesLine sends left f l after
ServesInterrupt sends room left ReceivedDataReady f l after = (left ≡ false) × ServesData room f l after
ServesInterrupt sends room left ReceptionTimeout f l after = (left ≡ false) × ServesData room f l after
ServesInterrupt sends room left TransmitterHoldingRegisterEmpty f l after = (left ≡ false) × Pumps f l after
ServesInterrupt sends room left ModemStatus f l after = (left ≡ room) × NotesModem f l after
ServesInterrupt sends room left DmaReceptionEndOfTransfer f l after = (left ≡ room) × Stays f l after
ServesInterrupt sends room left DmaTransmissionEndOfTransfer f l after = (left ≡ room) × Stays f l after

-- an interrupt is identified, and then served
abbrev pub ServesOne : (sends before after : Bool) → RingDoing
ServesOne sends room left f l after =
    (interrupt : InterruptType)
    × RingNext (OnDriver (ShowsInterrupt (Some interrupt)) unchanged) (ServesInterrupt sends room left interrupt)
    f l after

-- so many
abbrev pub ServesTimes : (sends : Bool) → (served : ℕ) → (before after : Bool) → RingDoing
ServesTimes sends zero room left f l after = (left ≡ room) × Stays f l after
ServesTimes sends (suc n) room left f l after =
    (next : Bool) × RingNext (ServesOne sends room next) (ServesTimes sends n next left) f l after

-- one read of ISR that identifies no interrupt: bit 0 tells that none is pending, or else the code has no name
abbrev pub ShowsNone : (idle : Bool) → Doing
ShowsNone idle f l after =
    (isr : ℕ) × IsOnlyIfAny (Identifies isr) None × (has isr ISR.INTERRUPT_STATUS.0 ≡ idle)
    × Saving (Only (Read offsets.ISR isr ∷ [])) f l after

-- why no further interrupt is served: ISR shows that none is pending, or one without a name; or the limit is reached,
-- and ISR is not read
abbrev pub Stops : HandleEnd → RingDoing
Stops Idle = OnDriver (ShowsNone true) unchanged
Stops Unknown = OnDriver (ShowsNone false) unchanged
Stops Limit = Stays

-- if the limit is the end, exactly as many as the limit were served, and otherwise fewer
abbrev pub IsWithin : (limit served : ℕ) → HandleEnd → Type 0
IsWithin limit served Idle = served < limit
IsWithin limit served Unknown = served < limit
IsWithin limit served Limit = served ≡ limit

-- as many interrupts as are pending are served, but no more than the limit
abbrev pub ServesUpTo : (sends : Bool) → (limit : ℕ) → Handled → (room : Bool) → RingDoing
ServesUpTo sends limit handled room f l after =
    IsWithin limit handled.served handled.end
    × RingNext (ServesTimes sends handled.served false room) (Stops handled.end) f l after

-- `service`: at most 8 interrupts are served, and bytes are sent at THR-empty alone. It tells how many, and not why it
-- ended
abbrev pub Services : ℕ → RingDoing
Services count f l after =
    (end : HandleEnd) × (room : Bool)
    × ServesUpTo false MAX_INTERRUPTS (record { served = count; end = end }) room f l after
