-- Tasks in their places, and sections one after another.
use Rattle.std.specs.Prelude.{◌≡◌, Bool, true, Option, Some, None, if◌then◌else◌}
use Rattle.uart_waits.specs.declared.awaited.Awaited.{Awaited}
use Rattle.uart_waits.specs.declared.awaited.Awaited.TheVariants.{ReceivedByte, TransmitRoom, EmptyTransmitRing}
use Rattle.uart_waits.specs.declared.awaited.Seen.{Seen}
use Rattle.uart_waits.specs.declared.waits.Due.{Due}
use Rattle.uart_waits.specs.declared.waits.Waiter.{Waiter}
use Rattle.uart_waits.specs.declared.waits.Waits.{Waits}
use Rattle.uart_waits.specs.Awaited.{ends_wait}

-- who waits for received bytes
abbrev pub receive_of : {W : Type 0} → Waits W → Option (Waiter W)
receive_of w = w.receive

-- who waits at the transmit ring
abbrev pub transmit_of : {W : Type 0} → Waits W → Option (Waiter W)
transmit_of w = w.transmit

-- whether a task is to wait no longer. Without rings nothing comes
abbrev pub is_due : Option Seen → Awaited → Bool
is_due None awaited = true
is_due (Some seen) awaited = ends_wait seen awaited

-- the task of a place if its turn is there
abbrev pub due_of : {W : Type 0} → Option Seen → Option (Waiter W) → Option (Waiter W)
due_of seen None = None
due_of seen (Some waiter) = if is_due seen waiter.awaited then Some waiter else None

-- the task of a place that is left there, since its turn is not there
abbrev pub left_of : {W : Type 0} → Option Seen → Option (Waiter W) → Option (Waiter W)
left_of seen None = None
left_of seen (Some waiter) = if is_due seen waiter.awaited then None else Some waiter

-- a task came into the place for what it awaits, and the one that was there is returned. The other place is as it was
abbrev pub IsPut : {W : Type 0} → Awaited → Waiter W → Option (Waiter W) → Waits W → Waits W → Type 0
IsPut ReceivedByte waiter result old new =
    (result ≡ old.receive) × (new.receive ≡ Some waiter) × (new.transmit ≡ old.transmit)
IsPut TransmitRoom waiter result old new =
    (result ≡ old.transmit) × (new.transmit ≡ Some waiter) × (new.receive ≡ old.receive)
IsPut EmptyTransmitRing waiter result old new =
    (result ≡ old.transmit) × (new.transmit ≡ Some waiter) × (new.receive ≡ old.receive)

-- a task is registered: it came into the place for what it awaits, and the one that was there is returned
abbrev pub Registers : {W : Type 0} → Waiter W → Option (Waiter W) → Waits W → Waits W → Type 0
Registers waiter result old new = IsPut waiter.awaited waiter result old new

-- those whose turn it is are taken out, and the others stay
pub record Takes {W : Type 0} (seen : Option Seen) (result : Due W) (old new : Waits W) : Type 0 where
  pub receive : result.receive ≡ due_of seen old.receive
  pub transmit : result.transmit ≡ due_of seen old.transmit
  pub receive_left : new.receive ≡ left_of seen old.receive
  pub transmit_left : new.transmit ≡ left_of seen old.transmit
