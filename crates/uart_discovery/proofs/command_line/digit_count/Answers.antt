use Rattle.std.proofs.Common.{rules, not}
use Rattle.std.proofs.lemmas.Iterator.{YieldsList-from_slice}
use Rattle.std.proofs.lemmas.Iterator.Search.{position_from_yields_List}
use Rattle.std.specs.Char.{is_ascii_digit}
use Rattle.uart_discovery.proofs.Words.{count_from_position}
use Rattle.uart_discovery.proofs.command_line.digit_count.Goals as goal

pub returns-clause-count : goal.returns-clause-count
returns-clause-count c =
    let e = position_from_yields_List (λ byte. not (is_ascii_digit byte)) _ _ c.position.result c.position.ensures.ran
    (YieldsList-from_slice c.args.word.now cc) (λ x b q k. search rules) in
    rw c.unwrap_or.ensures (count_from_position (λ byte. not (is_ascii_digit byte)) c.args.word.now c.position.result e)
