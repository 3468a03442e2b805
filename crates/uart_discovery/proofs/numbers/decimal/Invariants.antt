use Rattle.std.specs.Char.{is_ascii_digit}
use Rattle.uart_discovery.proofs.Digits.{DigitsRead}
use Rattle.uart_discovery.proofs.numbers.decimal.Given as goal

abbrev pub invariant-loop-digit : goal.invariant-loop-digit
invariant-loop-digit l = DigitsRead 10 is_ascii_digit l.word l.value l.digit-index
