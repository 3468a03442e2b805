use Rattle.std.proofs.Common.{arith}
use Rattle.std.specs.Char.{is_ascii_hexdigit}
use Rattle.uart_discovery.proofs.Digits.{small_before_16}
use Rattle.uart_discovery.proofs.numbers.hexadecimal.Goals as goal

pub overflow_mul-value : goal.overflow_mul-value
overflow_mul-value c =
    omega (
      arith,
      small_before_16 is_ascii_hexdigit c.args.word.now c.loop-digit.value c.loop-digit.digit-index c.loop-digit-test.true
          c.requires.short c.loop-digit.invariant,
    )

pub overflow_add-value : goal.overflow_add-value
overflow_add-value c =
    omega (
      arith,
      c.from.ensures,
      c.hexadecimal_digit.ensures.small,
      small_before_16 is_ascii_hexdigit c.args.word.now c.loop-digit.value c.loop-digit.digit-index c.loop-digit-test.true
          c.requires.short c.loop-digit.invariant,
    )
