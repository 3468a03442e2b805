use Rattle.std.proofs.Common.{arith}
use Rattle.std.specs.Char.{is_ascii_digit}
use Rattle.uart_discovery.proofs.Digits.{small_before_10}
use Rattle.uart_discovery.proofs.numbers.decimal.Goals as goal

pub overflow_mul-value : goal.overflow_mul-value
overflow_mul-value c =
    omega (
      arith,
      small_before_10 is_ascii_digit c.args.word.now c.loop-digit.value c.loop-digit.digit-index c.loop-digit-test.true
          c.requires.short c.loop-digit.invariant,
    )

pub overflow_add-value : goal.overflow_add-value
overflow_add-value c =
    omega (
      arith,
      c.from.ensures,
      c.decimal_digit.ensures.small,
      small_before_10 is_ascii_digit c.args.word.now c.loop-digit.value c.loop-digit.digit-index c.loop-digit-test.true
          c.requires.short c.loop-digit.invariant,
    )
