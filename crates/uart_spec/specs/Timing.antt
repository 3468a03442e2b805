-- How long a character takes on the line, and how late a handler may be for which characters wait: in clocks of the
-- chip's input, so that nothing is rounded.
use Rattle.std.specs.Prelude.{◌≡◌, ◌⊎◌, ◌<◌, ◌≤◌, ◌^◌, ℕ, ◌+◌, ◌-◌, ◌*◌, Bool, true, false, Option, Some, None}
use Rattle.std.specs.Prelude.{Result, Ok, Err}
use Rattle.uart_spec.specs.BaudRate.{to_integer}
use Rattle.uart_spec.specs.Checked.{IsCheckedDivisor}
use Rattle.uart_spec.specs.Fields.{word_length_bits}
use Rattle.uart_spec.specs.FifoSize.{characters}
use Rattle.uart_spec.specs.declared.config.Config.{Config}
use Rattle.uart_spec.specs.declared.errors.InvalidDivisorError.{InvalidDivisorError}
use Rattle.uart_spec.specs.declared.registers.fifo_trigger_level.FifoTriggerLevel.{FifoTriggerLevel}
use Rattle.uart_spec.specs.declared.registers.fifo_trigger_level.FifoTriggerLevel.TheVariants.{One, Four, Eight}
use Rattle.uart_spec.specs.declared.registers.fifo_trigger_level.FifoTriggerLevel.TheVariants.{Fourteen}
use Rattle.uart_spec.specs.declared.registers.frame.Parity.{Parity}
use Rattle.uart_spec.specs.declared.registers.frame.Parity.TheVariants.{Disabled}
use Rattle.uart_spec.specs.declared.registers.frame.WordLength.{WordLength}
use Rattle.uart_spec.specs.declared.registers.frame.WordLength.TheVariants.{FiveBits}
use Rattle.uart_spec.specs.declared.setup.FifoSize.{FifoSize}
use Rattle.uart_spec.specs.declared.setup.FifoSize.TheVariants.{Sixteen, ThirtyTwo, SixtyFour, OneHundredTwentyEight}
use Rattle.uart_spec.specs.declared.setup.FifoSize.TheVariants.{TwoHundredFiftySix}

-- ---- a character

-- Five data bits may have one and a half stop bits, so bits are counted in halves.

-- the halves of bits of the stop bits; of the parity bit, if there is one
abbrev pub stop_halves : WordLength → (extra : Bool) → ℕ
stop_halves length false = 2
stop_halves FiveBits true = 3
stop_halves _ true = 4

abbrev pub parity_halves : Parity → ℕ
parity_halves Disabled = 0
parity_halves _ = 2

-- those of a character: the start bit, the data bits, the parity bit and the stop bits
abbrev pub character_halves : Config → ℕ
character_halves config =
    2 + 2 * word_length_bits config.data_bits + parity_halves config.parity
    + stop_halves config.data_bits config.extra_stop_bits

-- so many clocks of the frequency are as long as a character of the configured baud rate
abbrev pub IsCharacterTime : Config → (clocks : ℕ) → Type 0
IsCharacterTime config clocks =
    2 * to_integer config.baud_rate * clocks ≡ config.frequency * character_halves config

-- what `checked_divisor` answers for a configuration
abbrev pub HasDivisor : Config → Result ℕ InvalidDivisorError → Type 0
HasDivisor config =
    IsCheckedDivisor config.frequency (to_integer config.baud_rate) config.prescaler_division_factor

-- the time of a character, if there is a divisor for the baud rate; otherwise why there is none
abbrev pub IsCharacterAnswer : Config → Result ℕ InvalidDivisorError → Type 0
IsCharacterAnswer config (Ok clocks) =
    (divisor : ℕ) × HasDivisor config (Ok divisor) × IsCharacterTime config clocks
IsCharacterAnswer config (Err error) = HasDivisor config (Err error)

-- ---- a handler

-- how many characters wait in a FIFO of this size when its trigger level is reached: the levels have the names that
-- they have for 16; those of larger FIFOs are as the chips have them
abbrev pub characters_at : FifoSize → FifoTriggerLevel → ℕ
characters_at Sixteen One = 1
characters_at Sixteen Four = 4
characters_at Sixteen Eight = 8
characters_at Sixteen Fourteen = 14
characters_at ThirtyTwo One = 8
characters_at ThirtyTwo Four = 16
characters_at ThirtyTwo Eight = 24
characters_at ThirtyTwo Fourteen = 28
characters_at SixtyFour One = 1
characters_at SixtyFour Four = 16
characters_at SixtyFour Eight = 32
characters_at SixtyFour Fourteen = 56
characters_at OneHundredTwentyEight One = 16
characters_at OneHundredTwentyEight Four = 32
characters_at OneHundredTwentyEight Eight = 112
characters_at OneHundredTwentyEight Fourteen = 120
characters_at TwoHundredFiftySix One = 1
characters_at TwoHundredFiftySix Four = 64
characters_at TwoHundredFiftySix Eight = 128
characters_at TwoHundredFiftySix Fourteen = 254

-- how many more the receiver takes once the interrupt comes; without FIFO it comes with the only one
abbrev pub spare_at : FifoSize → Option FifoTriggerLevel → ℕ
spare_at size None = 0
spare_at size (Some level) = characters size - characters_at size level

-- one clock less than the time in which the receiver fills up from there, and one more character comes
abbrev pub IsHandlerAnswer : Config → FifoSize → Result ℕ InvalidDivisorError → Type 0
IsHandlerAnswer config size (Ok clocks) =
    (character : ℕ) × IsCharacterAnswer config (Ok character)
    × (clocks + 1 ≡ (spare_at size config.fifo_trigger_level + 1) * character)
IsHandlerAnswer config size (Err error) = IsCharacterAnswer config (Err error)

-- how late it may begin where an access takes e clocks, and the others at its line are served first: an access reads
-- ISR, and the first byte is read four accesses later if a line error is told before it. It is in time if something is
-- left, and no character comes while another one is read, by two accesses
abbrev pub IsHandlerBudget : Config → FifoSize → (e before : ℕ) → Result (Option ℕ) InvalidDivisorError → Type 0
IsHandlerBudget config size e before (Ok (Some clocks)) =
    (character : ℕ) × IsCharacterAnswer config (Ok character) × (2 * e ≤ character)
    × (clocks + before + 4 * e + 1 ≡ (spare_at size config.fifo_trigger_level + 1) * character)
IsHandlerBudget config size e before (Ok None) =
    (character : ℕ) × IsCharacterAnswer config (Ok character)
    × ((character < 2 * e) ⊎ ((spare_at size config.fifo_trigger_level + 1) * character < before + 4 * e + 1))
IsHandlerBudget config size e before (Err error) = IsCharacterAnswer config (Err error)

-- ---- what takes a number of characters

-- the most characters that end within so many clocks: one ends at once, and each other a character's time later
abbrev pub IsCharactersAnswer : Config → (clocks : ℕ) → Result ℕ InvalidDivisorError → Type 0
IsCharactersAnswer config clocks (Ok count) =
    (character : ℕ) × IsCharacterAnswer config (Ok character) × (clocks < count * character)
    × (count * character ≤ clocks + character)
IsCharactersAnswer config clocks (Err error) = IsCharacterAnswer config (Err error)

-- the time of so many characters
abbrev pub IsTimeOf : Config → (count : ℕ) → Result ℕ InvalidDivisorError → Type 0
IsTimeOf config count (Ok clocks) =
    (character : ℕ) × IsCharacterAnswer config (Ok character) × (clocks ≡ count * character)
IsTimeOf config count (Err error) = IsCharacterAnswer config (Err error)

-- ---- a wait

-- The limit with which no wait for a full transmitter gives up, of a FIFO and the shift register, if each look takes at
-- least e clocks. A character is so many looks, of which the last may begin before it ends; and one look more finds
-- that the next character has begun
abbrev pub IsSpinLimit : Config → FifoSize → (e : ℕ) → Result (Option ℕ) InvalidDivisorError → Type 0
IsSpinLimit config size e (Ok (Some limit)) =
    (character looks : ℕ) × IsCharacterAnswer config (Ok character) × (character ≤ looks * e)
    × (looks * e < character + e) × (limit ≡ (characters size + 1) * (looks + 1))
IsSpinLimit config size e (Ok None) = e ≡ 0
IsSpinLimit config size e (Err error) = IsCharacterAnswer config (Err error)

-- ---- clocks and nanoseconds

-- the whole part of value * times / per, if there is one that fits into 64 bits
abbrev pub IsWithin : (value times per : ℕ) → Option ℕ → Type 0
IsWithin value times per (Some whole) = (whole * per ≤ value * times) × (value * times < (whole + 1) * per)
IsWithin value times per None = (per ≡ 0) ⊎ (2 ^ 64 * per ≤ value * times)

-- the same rounded up
abbrev pub IsCovering : (value times per : ℕ) → Option ℕ → Type 0
IsCovering value times per (Some whole) = (value * times ≤ whole * per) × (whole * per < value * times + per)
IsCovering value times per None = (per ≡ 0) ⊎ ((2 ^ 64 - 1) * per < value * times)
