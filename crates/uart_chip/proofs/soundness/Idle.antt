-- Ticks outside of the schedule leave a machine whole, and take few jumps.
use Rattle.std.proofs.Common.{◌≡◌, ℕ, ◌+◌, ◌≤◌, Bool, List, [], ◌∷◌, length, Option, Some, None, arith}
use Rattle.uart_events.specs.declared.event.Event.{Event}
use Rattle.uart_events.specs.declared.event.Event.TheVariants.{Ticks}
use Rattle.uart_chip.specs.declared.transmitter.Shifting.{Shifting}
use Rattle.uart_chip.specs.Transmitter.{TransmitterState}
use Rattle.uart_spec.specs.FifoSize.{characters}
use Rattle.uart_chip.specs.Chip.{ChipState, ticks}
use Rattle.uart_chip.specs.Jumps.{moves_of, moves}
use Rattle.uart_chip.specs.Sound.{IsSoundTransmitter, IsWhole}
use Rattle.uart_chip.proofs.Sizes.{room_within}
use Rattle.uart_chip.proofs.soundness.Sounds.{whole_perform}

pub whole_ticks : (n : ℕ) (c d : ChipState) (events : List Event) → d ≡ ticks n c → IsWhole (record { chip = c; ahead = events }) →
    IsWhole (record { chip = d; ahead = events })
whole_ticks n c d events e w =
    rw e (whole_perform (Ticks n) events c
    (record { sound = record { chip = w.sound.chip; foreseen = w.sound.foreseen; legal = (tt, w.sound.legal) }; bytes = w.bytes }))

-- one in the shift register and a full queue, or a free place and a full queue
pub moves-most : (fifo : Bool) (t : TransmitterState) → IsSoundTransmitter fifo t → moves t ≤ characters t.size + 1
moves-most fifo t w = go t.shift_register t.queue few
  where
    few : length t.queue ≤ characters t.size
    few = let h = w.in_room in let r = room_within fifo t.size in omega (arith, h, r)

    go : (place : Option Shifting) (queue : List ℕ) → length queue ≤ characters t.size → moves_of place queue ≤ characters t.size + 1
    go None [] h = omega arith
    go None (x ∷ xs) h = omega arith
    go (Some s) queue h = omega arith
