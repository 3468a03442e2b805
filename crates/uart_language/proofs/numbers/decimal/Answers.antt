use Rattle.std.proofs.Common.{arith}
use Rattle.uart_language.proofs.Digits.{small_before}
use Rattle.uart_language.proofs.numbers.decimal.Goals as goal

pub overflow_mul-value : goal.overflow_mul-value
overflow_mul-value c =
    omega (
      arith,
      small_before c.args.word.now c.loop-digit.value c.loop-digit.digit-index c.loop-digit-test.true c.requires.short
          c.loop-digit.invariant,
    )

pub overflow_add-value : goal.overflow_add-value
overflow_add-value c =
    omega (
      arith,
      c.from.ensures,
      c.decimal_digit.ensures.small,
      small_before c.args.word.now c.loop-digit.value c.loop-digit.digit-index c.loop-digit-test.true c.requires.short
          c.loop-digit.invariant,
    )
