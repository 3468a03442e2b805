use Rattle.uart_language.specs.Items.{saying_of}
use Rattle.uart_language.proofs.Readings.{too_long, next_is, next_fails}
use Rattle.uart_language.proofs.parsing.next_item.Goals as goal

pub returns-then-number-gt-MOST_LINES-clause-read :
    goal.returns-then-number-gt-MOST_LINES-clause-read
returns-then-number-gt-MOST_LINES-clause-read c =
    too_long c.args.is_limited c.args.number c.args.bytes.now c.requires c.if-number-gt-MOST_LINES.true

pub returns-in-Ok-clause-read : goal.returns-in-Ok-clause-read
returns-in-Ok-clause-read c =
    next_is c.args.is_limited c.args.number c.args.bytes.now c.first_line.result.0.now c.first_line.result.1.now (saying_of c.in-Ok.item)
    c.first_line.ensures.first c.if-number-gt-MOST_LINES.false (rw c.of.ensures at c.in-Ok.ensures)

pub returns-in-Err-clause-read : goal.returns-in-Err-clause-read
returns-in-Err-clause-read c =
    next_fails c.args.is_limited c.args.number c.args.bytes.now c.first_line.result.0.now c.first_line.result.1.now c.in-Err.cause
    c.first_line.ensures.first c.if-number-gt-MOST_LINES.false (rw c.of.ensures at c.in-Err.ensures)
