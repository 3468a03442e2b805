use Rattle.std.proofs.Common.{rules}
use Rattle.uart_language.proofs.Readings.{later_line_fails, all_parsed}
use Rattle.uart_language.proofs.Parsed.{parsed, refuses_whole}
use Rattle.uart_language.proofs.parsing.parse.Goals as goal

pub returns-in_err-header : goal.returns-in_err-header
returns-in_err-header c =
    let k = refuses_whole c.in_err-header.field-0.0 _ c.in_err-header.ensures in
    parsed c.args.bytes.now c.from_residual.result (search (rules, k))

pub returns-in_err-check : goal.returns-in_err-check
returns-in_err-check c =
    let k = later_line_fails c.in_ok-header.header _ _ c.in_err-check.field-0.0 c.in_ok-header.ensures c.in_err-check.ensures in
    parsed c.args.bytes.now c.from_residual-in_err-check.result (search (rules, k))

pub returns : goal.returns
returns c =
    parsed c.args.bytes.now c.build.result
    (all_parsed c.in_ok-header.header _ _ c.build.result c.in_ok-header.ensures c.in_ok-check.ensures c.build.ensures)
