-- What is told by XOFF and XON is obeyed: both ends agree on whether the one is held back.
use Rattle.std.specs.Prelude.{◌≡◌, ⊤, ℕ, Bool, false, List, ◌++◌, None}
use Rattle.std.specs.List.{AllByRecursion}
use Rattle.uart_chip.specs.Conserved.{waiting}
use Rattle.uart_ring.specs.Queue.{latest}
use Rattle.uart_ring.specs.Receive.{is_flow_character, last_told, held_as_told}
use Rattle.uart_ring.specs.Ring.{ring_fields}
use Rattle.uart_ring_runs.specs.declared.call.RingCall.{RingCall}
use Rattle.uart_ring_runs.specs.declared.call.RingCall.TheVariants as call
use Rattle.uart_ring_runs.specs.RingBytes.{to_take, KeepsOrder}
use Rattle.uart_ring_runs.specs.RingRun.{RingState, ring_machine}
use Rattle.uart_link.specs.declared.call.Side.{Side}
use Rattle.uart_link.specs.declared.link.Link.{Link}
use Rattle.uart_link.specs.Carried.{on_the_way, OfEnd}
use Rattle.uart_link.specs.Flow.{DropsNothing}
use Rattle.uart_link.specs.Link.{at_end, other, Step}
use Rattle.uart_link.specs.Xoff.{has_told, is_holding}

-- ---- the calls

-- none of these bytes is XOFF or XON
abbrev pub IsText : List ℕ → Type 0
IsText bytes = AllByRecursion (λ byte. is_flow_character byte ≡ false) bytes

-- a call of the end that tells: what it queues is text; and it lets no byte overtake, and drops none that waits to be
-- sent, but for what `adjust_xoff` tells
abbrev pub TellsInTurn : RingCall → Type 0
TellsInTurn (call.Queue bytes) = IsText bytes.items
TellsInTurn (call.AdjustXoff marks) = ⊤
TellsInTurn other = KeepsOrder other

-- a call of the end that is told: it obeys what came before it takes or clears that; and nothing but `obey_xoff` holds
-- or releases its transmit ring
abbrev pub ObeysInTurn : RingCall → (before : RingState) → Type 0
ObeysInTurn (call.Take slots) before = (ring_fields before).unlooked ≡ 0
ObeysInTurn call.ClearReceive before = (ring_fields before).unlooked ≡ 0
ObeysInTurn call.HoldTransmit before = ⊥
ObeysInTurn call.ReleaseTransmit before = ⊥
ObeysInTurn other before = ⊤

-- a call of programs of which this end tells the other one
pub record IsInTurn (end : Side) (step : Step) : Type 0 where
  pub tells : OfEnd end step.call.side (TellsInTurn step.call.call)
  pub obeys : let to = other end in OfEnd to step.call.side (ObeysInTurn step.call.call (at_end to step.before))

-- ---- what both ends are about

-- the bytes that `obey_xoff` of an end has not looked at: in its receive ring, in its receiver, and on the way to it
abbrev pub not_looked_at : (from to : RingState) → List ℕ
not_looked_at from to =
    latest (ring_fields to).unlooked (to_take to) ++ (waiting (ring_machine to) ++ on_the_way from to)

-- whether it will hold its transmit ring once it has looked at them
abbrev pub will_hold : (from to : RingState) → Bool
will_hold from to = held_as_told (last_told None (not_looked_at from to)) (is_holding to)

-- two ends agree: the one will hold its transmit ring if the other one has told XOFF last, and only then; and what
-- waits to be sent there is text
pub record Agree (from to : RingState) : Type 0 where
  -- the one end will hold its transmit ring exactly if the other one has told XOFF last
  pub same : will_hold from to ≡ has_told from
  pub text : IsText (ring_fields from).transmit.items

-- they agree; so once no XOFF or XON is on the way, the one holds its transmit ring exactly if the other one has told
-- XOFF last
pub record Agreed (from to : RingState) : Type 0 where
  pub agree : Agree from to
  pub settled : IsText (not_looked_at from to) → is_holding to ≡ has_told from

-- if both ends agree at first, each call is in turn, and no character is dropped at the end that is told, they agree
-- in the end
abbrev pub KeepsAgreed : Side → Link → List Step → Link → Type 0
KeepsAgreed end a steps b =
    let to = other end in
    AllByRecursion (IsInTurn end) steps → DropsNothing to a b → Agree (at_end end a) (at_end to a) →
    Agreed (at_end end b) (at_end to b)
