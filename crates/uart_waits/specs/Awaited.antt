-- What is awaited, and when a wait for it ends.
use Rattle.std.specs.Prelude.{◌≡◌, Bool, ◌||◌, ◌==◌, length, is_some, nat_lt}
use Rattle.uart_ring.specs.declared.ring.Uart16550Ring.{Uart16550Ring}
use Rattle.uart_ring.specs.Ring.{free, ring_fields}
use Rattle.uart_waits.specs.declared.awaited.Awaited.{Awaited}
use Rattle.uart_waits.specs.declared.awaited.Awaited.TheVariants.{ReceivedByte, TransmitRoom, EmptyTransmitRing}
use Rattle.uart_waits.specs.declared.awaited.Seen.{Seen}

-- what is to be seen of these rings: how many bytes can be taken, how many wait to be sent, for how many more there is
-- room, and whether the chip is stuck
pub record IsSeenOf {B : Type 0} (ring : Uart16550Ring B) (seen : Seen) : Type 0 where
  pub received : seen.received ≡ length (ring_fields ring).receive.items
  pub queued : seen.queued ≡ length (ring_fields ring).transmit.items
  pub room : seen.room ≡ free (ring_fields ring).transmit
  pub stuck : seen.is_stuck ≡ is_some (ring_fields ring).stuck

-- whether this is there
abbrev pub has : Seen → Awaited → Bool
has seen ReceivedByte = nat_lt 0 seen.received
has seen TransmitRoom = nat_lt 0 seen.room
has seen EmptyTransmitRing = seen.queued == 0

-- whether to wait for it no longer: it is there, or the chip is stuck
abbrev pub ends_wait : Seen → Awaited → Bool
ends_wait seen awaited = has seen awaited || seen.is_stuck
