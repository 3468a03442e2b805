use Rattle.uart_language.proofs.Readings.{whole_too_long, no_first_line, first_line_fails, first_line_is}
use Rattle.uart_language.proofs.parsing.first_item.Goals as goal

pub returns-then-bytes-gt-MOST_BYTES : goal.returns-then-bytes-gt-MOST_BYTES
returns-then-bytes-gt-MOST_BYTES c = whole_too_long c.args.bytes.now c.if-bytes-gt-MOST_BYTES.true

pub returns-then-is_empty : goal.returns-then-is_empty
returns-then-is_empty c = no_first_line c.args.bytes.now c.if-is_empty.ensures

pub returns-in-Ok : goal.returns-in-Ok
returns-in-Ok c =
    first_line_is c.args.bytes.now c.first_line.result.0.now c.first_line.result.1.now c.in-Ok.header c.if-bytes-gt-MOST_BYTES.false
    c.first_line.ensures.first c.in-Ok.ensures

pub returns-in-Err : goal.returns-in-Err
returns-in-Err c =
    first_line_fails c.args.bytes.now c.first_line.result.0.now c.first_line.result.1.now c.in-Err.cause c.if-bytes-gt-MOST_BYTES.false
    c.first_line.ensures.first c.in-Err.ensures
