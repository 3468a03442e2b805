-- The sizes that the FIFOs of a live chip can have.
use Rattle.std.specs.Prelude.{ℕ, Bool, ◌==◌, if◌then◌else◌}
use Rattle.uart_spec.specs.FifoSize.{characters}
use Rattle.uart_spec.specs.declared.setup.FifoSize.{FifoSize}
use Rattle.uart_spec.specs.declared.setup.FifoSize.TheVariants.{Sixteen, ThirtyTwo, SixtyFour, OneHundredTwentyEight}
use Rattle.uart_spec.specs.declared.setup.FifoSize.TheVariants.{TwoHundredFiftySix}

-- the size of FIFOs that hold so many characters; a number that is no size counts as 16
unfoldable pub fifo_size : (count : ℕ) → FifoSize
fifo_size count =
    if count == characters ThirtyTwo then ThirtyTwo
    else if count == characters SixtyFour then SixtyFour
    else if count == characters OneHundredTwentyEight then OneHundredTwentyEight
    else if count == characters TwoHundredFiftySix then TwoHundredFiftySix
    else Sixteen

-- FIFOs of some size hold so many characters: 16, 32, 64, 128 or 256
abbrev pub is_size : (count : ℕ) → Bool
is_size count = characters (fifo_size count) == count
