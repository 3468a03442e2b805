-- How many characters FIFOs hold at most, and that queues of so many take no more memory than there can be.
use Rattle.std.proofs.Common.{◌≡◌, ◌+◌, ◌*◌, ◌<◌, ◌≤◌, ℕ, arith}
use prog.Memory.{up}
use Rattle.uart_spec.specs.FifoSize.{characters}
use Rattle.uart_chip.proofs.Sizes.{at_most_256}
use Rattle.uart_live.specs.Size.{fifo_size}

-- FIFOs of a size hold at most 256 characters
pub size_bound : (count : ℕ) → characters (fifo_size count) ≡ count → count ≤ 256
size_bound count e = let most = at_most_256 (fifo_size count) in omega (arith, most, e)

up_most : (n : ℕ) → up 8 n ≤ n + 7
up_most n = omega arith

-- a queue of bytes
pub bytes_fit : (count : ℕ) → count ≤ 256 →
    up 8 (up 8 (up 8 (0 + count * 1) + 8) + 8) < 9223372036854775808
bytes_fit count most =
    let a = up_most (0 + count * 1) in
    let b = up_most (up 8 (0 + count * 1) + 8) in
    let d = up_most (up 8 (up 8 (0 + count * 1) + 8) + 8) in
    omega (arith, most, a, b, d)

-- a queue of characters
pub characters_fit : (count : ℕ) → count ≤ 256 →
    up 8 (up 8 (up 8 (0 + count * 24) + 8) + 8) < 9223372036854775808
characters_fit count most =
    let a = up_most (0 + count * 24) in
    let b = up_most (up 8 (0 + count * 24) + 8) in
    let d = up_most (up 8 (up 8 (0 + count * 24) + 8) + 8) in
    omega (arith, most, a, b, d)
