-- A chip that is made is sound, and stays so.
use Rattle.std.proofs.Common.{◌≡◌, ℕ, Bool, true, false, not, ◌&&◌, nat_le, nat_lt, [], Some, None, refl, arith, subst, sym, if◌then◌else◌}
use Rattle.std.proofs.lemmas.Grind.{common_steps}
use Rattle.uart_c.specs.Saved.{IsLiveChip, MadeChipsAreSound, SoundChipsStaySound}
use Rattle.uart_c.specs.declared.codes.TheConstants.{UART_OK, UART_BAD_TICKS, UART_BAD_WIRE}
use Rattle.uart_c.specs.declared.queue.TheConstants.{WIRE_ROOM}
use Rattle.uart_chip.specs.Chip.{ChipState, fresh, with_size}
use Rattle.uart_chip.proofs.soundness.Builds.{whole_cutting}
use Rattle.uart_events.specs.declared.event.BuildError.TheVariants.{BadTicks, BadWire}
use Rattle.uart_events.specs.declared.event.TheConstants.{MAX_CHAR_TICKS, MAX_WIRE_CAPACITY}
use Rattle.uart_live.proofs.Lives.{live-arrival, live-fresh, live-hold, live-lines, live-read, live-take, live-ticks, live-write}
use Rattle.uart_live.specs.Laws.{Read, Write, Ticks, Arrive, ArriveHolding, SetLines, TakeWire}
use Rattle.uart_live.specs.Live.{IsLive}
use Rattle.uart_spec.specs.declared.setup.FifoSize.{FifoSize}

-- nothing of what holds of a sound chip is about the option for characters
recut : {size : FifoSize} (cuts : Bool) (c : ChipState) → IsLive size c → IsLive size (record c { cuts = cuts })
recut cuts c w =
    record {
      whole = whole_cutting cuts (record { chip = c; ahead = [] }) w.whole;
      no_marks = w.no_marks;
      none_lost = w.none_lost;
      room = w.room;
      size = w.size;
      flow = w.flow;
      switch = w.switch;
    }

-- with FIFOs of some size, so with FIFOs of the size that they have
pub of_its_size : {size : FifoSize} (c : ChipState) → IsLive size c → IsLiveChip c
of_its_size c w = subst (λ (size : FifoSize). IsLive size c) (sym w.size) w

-- what is made here is made there too
accepted : (bad wide : Bool) (wire_capacity : ℕ) → nat_lt WIRE_ROOM wire_capacity ≡ wide →
    (if bad then UART_BAD_TICKS else if wide then UART_BAD_WIRE else UART_OK) ≡ UART_OK →
    (if bad then Some BadTicks else if nat_lt MAX_WIRE_CAPACITY wire_capacity then Some BadWire else None) ≡ None
accepted true wide wire_capacity is e = absurd (omega (arith, e))
accepted false true wire_capacity is e = absurd (omega (arith, e))
accepted false false wire_capacity is e =
    let fits : nat_lt MAX_WIRE_CAPACITY wire_capacity ≡ false = grind (arith, common_steps) in rw fits refl

pub made : MadeChipsAreSound
made size model char_ticks wire_capacity cuts e =
    recut cuts (with_size size (fresh model char_ticks wire_capacity 0))
    (live-fresh model size char_ticks wire_capacity
    (accepted (not (nat_le 1 char_ticks && nat_le char_ticks MAX_CHAR_TICKS)) (nat_lt WIRE_ROOM wire_capacity) wire_capacity refl e))

pub stay : SoundChipsStaySound
stay (Read offset) c a w = of_its_size _ (live-read offset c w)
stay (Write offset value) c a w = of_its_size _ (live-write offset value c a w)
stay (Ticks count) c a w = of_its_size _ (live-ticks count c w)
stay (Arrive byte errors) c a w = of_its_size _ (live-arrival byte errors c a w)
stay (ArriveHolding byte errors) c a w = of_its_size _ (live-hold byte errors c a w)
stay (SetLines inputs) c a w = of_its_size _ (live-lines inputs c a w)
stay (TakeWire count) c a w = of_its_size _ (live-take count c w)
