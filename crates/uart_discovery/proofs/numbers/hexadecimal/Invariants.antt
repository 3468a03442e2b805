use Rattle.std.specs.Char.{is_ascii_hexdigit}
use Rattle.uart_discovery.proofs.Digits.{DigitsRead}
use Rattle.uart_discovery.proofs.numbers.hexadecimal.Given as goal

abbrev pub invariant-loop-digit : goal.invariant-loop-digit
invariant-loop-digit l = DigitsRead 16 is_ascii_hexdigit l.word l.value l.digit-index
