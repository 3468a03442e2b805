-- The sizes of transmitter FIFOs.
use Rattle.std.specs.Prelude.{◌<◌, ◌≤◌, ℕ, Option, Some, None}
use Rattle.uart_spec.specs.declared.setup.FifoSize.{FifoSize}
use Rattle.uart_spec.specs.declared.setup.FifoSize.TheVariants.{Sixteen, ThirtyTwo, SixtyFour, OneHundredTwentyEight}
use Rattle.uart_spec.specs.declared.setup.FifoSize.TheVariants.{TwoHundredFiftySix}

-- the number of characters of a FIFO of this size
abbrev pub characters : FifoSize → ℕ
characters Sixteen = 16
characters ThirtyTwo = 32
characters SixtyFour = 64
characters OneHundredTwentyEight = 128
characters TwoHundredFiftySix = 256

-- the largest size of no more than so many characters; none, if the smallest has more
abbrev pub IsLargestUpTo : (count : ℕ) → Option FifoSize → Type 0
IsLargestUpTo count None = count < characters Sixteen
IsLargestUpTo count (Some size) =
    (characters size ≤ count) × ((other : FifoSize) → characters other ≤ count → characters other ≤ characters size)
