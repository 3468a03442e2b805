use Rattle.std.proofs.Common.{arith}
use Rattle.uart_language.proofs.Lines.{position-le, cut_at_end, cut_before_end}
use Rattle.uart_language.proofs.text.first_line.Goals as goal

pub split_at-requires : goal.split_at-requires
split_at-requires c = omega (arith, c.line_end.ensures, position-le c.args.bytes.now)

pub returns-in-empty-clause-first : goal.returns-in-empty-clause-first
returns-in-empty-clause-first c =
    rw (c.split_at.ensures.front) (cut_at_end c.args.bytes.now c.line_end.result c.split_at.result.1.now c.requires c.line_end.ensures
    c.split_at.ensures.back c.in-empty.len_below)

pub returns-in-len1-up-clause-first : goal.returns-in-len1-up-clause-first
returns-in-len1-up-clause-first c =
    rw (c.split_at.ensures.front)
    (cut_before_end c.args.bytes.now c.line_end.result c.split_at.result.1.now c.requires c.line_end.ensures c.split_at.ensures.back)
