use Rattle.uart_language.proofs.Digits.{DigitsRead}
use Rattle.uart_language.proofs.numbers.decimal.Given as goal

abbrev pub invariant-loop-digit : goal.invariant-loop-digit
invariant-loop-digit l = DigitsRead l.word l.value l.digit-index
