use Rattle.uart_language.proofs.Readings.{none_limited, first_limited}
use Rattle.uart_language.proofs.parsing.is_limited.Goals as goal

pub returns-then-is_empty : goal.returns-then-is_empty
returns-then-is_empty c = none_limited c.args.bytes.now c.if-is_empty.ensures

pub returns : goal.returns
returns c =
    first_limited c.args.bytes.now c.first_line.result.0.now c.first_line.result.1.now c.word_at.result.now c.is_named.result
    c.is_named.ensures c.word_at.ensures c.first_line.ensures.first
