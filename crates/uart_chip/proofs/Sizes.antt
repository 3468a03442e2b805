-- Every FIFO has room for at least 16 characters and at most 256, so what fits into one of 16 fits into any.
use Rattle.std.proofs.Common.{◌≤◌, ℕ, Bool, true, false, arith}
use Rattle.uart_spec.specs.FifoSize.{characters}
use Rattle.uart_spec.specs.declared.setup.FifoSize.{FifoSize}
use Rattle.uart_spec.specs.declared.setup.FifoSize.TheVariants.{Sixteen, ThirtyTwo, SixtyFour, OneHundredTwentyEight}
use Rattle.uart_spec.specs.declared.setup.FifoSize.TheVariants.{TwoHundredFiftySix}
use Rattle.uart_spec.specs.declared.registers.fifo_trigger_level.FifoTriggerLevel.{FifoTriggerLevel}
use Rattle.uart_spec.specs.declared.registers.fifo_trigger_level.FifoTriggerLevel.TheVariants.{One, Four, Eight}
use Rattle.uart_spec.specs.declared.registers.fifo_trigger_level.FifoTriggerLevel.TheVariants.{Fourteen}
use Rattle.uart_chip.specs.Receiver.{by_level, characters_of}
use Rattle.uart_chip.specs.Transmitter.{room}

-- case by case: the number is computed from the size
pub at_least_16 : (size : FifoSize) → 16 ≤ characters size
at_least_16 Sixteen = omega arith
at_least_16 ThirtyTwo = omega arith
at_least_16 SixtyFour = omega arith
at_least_16 OneHundredTwentyEight = omega arith
at_least_16 TwoHundredFiftySix = omega arith

-- case by case: the number is computed from the size
pub at_most_256 : (size : FifoSize) → characters size ≤ 256
at_most_256 Sixteen = omega arith
at_most_256 ThirtyTwo = omega arith
at_most_256 SixtyFour = omega arith
at_most_256 OneHundredTwentyEight = omega arith
at_most_256 TwoHundredFiftySix = omega arith

-- without FIFO there is room for one
pub some_room : (fifo : Bool) (size : FifoSize) → 1 ≤ room fifo size
some_room true size = let h = at_least_16 size in omega (arith, h)
some_room false size = omega arith

pub room_within : (fifo : Bool) (size : FifoSize) → room fifo size ≤ characters size
room_within true size = omega arith
room_within false size = let h = at_least_16 size in omega (arith, h)

-- a larger FIFO has room for as many
pub room_grows : (fifo : Bool) (small large : FifoSize) → characters small ≤ characters large → room fifo small ≤ room fifo large
room_grows true small large fits = fits
room_grows false small large fits = omega arith

-- what fits into a FIFO of 16
pub room_least : (fifo : Bool) (size : FifoSize) → room fifo Sixteen ≤ room fifo size
room_least true size = at_least_16 size
room_least false size = omega arith

-- each trigger level is at least that of a FIFO of 16, and at least one character
by_level_least : (a b c d e f g h : ℕ) → a ≤ e → b ≤ f → c ≤ g → d ≤ h → (level : FifoTriggerLevel) →
    by_level a b c d level ≤ by_level e f g h level
by_level_least a b c d e f g h p q r s One = p
by_level_least a b c d e f g h p q r s Four = q
by_level_least a b c d e f g h p q r s Eight = r
by_level_least a b c d e f g h p q r s Fourteen = s

pub level_least : (size : FifoSize) (level : FifoTriggerLevel) → characters_of Sixteen level ≤ characters_of size level
level_least Sixteen level = omega arith
level_least ThirtyTwo level =
    by_level_least 1 4 8 14 8 16 24 28 (omega arith) (omega arith) (omega arith) (omega arith) level
level_least SixtyFour level =
    by_level_least 1 4 8 14 1 16 32 56 (omega arith) (omega arith) (omega arith) (omega arith) level
level_least OneHundredTwentyEight level =
    by_level_least 1 4 8 14 16 32 112 120 (omega arith) (omega arith) (omega arith) (omega arith) level
level_least TwoHundredFiftySix level =
    by_level_least 1 4 8 14 1 64 128 254 (omega arith) (omega arith) (omega arith) (omega arith) level

pub some_characters : (size : FifoSize) (level : FifoTriggerLevel) → 1 ≤ characters_of size level
some_characters size level = let first = one level in let least = level_least size level in omega (arith, first, least)
  where
    one : (level : FifoTriggerLevel) → 1 ≤ characters_of Sixteen level
    one One = omega arith
    one _ = omega arith
