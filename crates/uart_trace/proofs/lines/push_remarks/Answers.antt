use Rattle.std.proofs.Common.{ap, ◌∙◌, ◌++◌, rules, tests}
use Rattle.std.proofs.lemmas.Iterator.Consumers.{YieldsList-at, YieldsList-end}
use Rattle.std.proofs.lemmas.Iterator.Splits.{YieldsList-from_slice_split}
use Rattle.std.specs.List.{flat_map}
use Rattle.uart_trace.specs.Lines.{remark_line}
use Rattle.uart_trace.specs.Trace.{is_line_feed}
use Rattle.uart_trace.proofs.Traces.{adds_parts}
use Rattle.uart_trace.proofs.lines.push_remarks.Goals as goal

-- the loop has seen every line
pub returns : goal.returns
returns c =
    let split = c.split-line-items.ensures in
    let seen = YieldsList-end
    (YieldsList-at c.into_iter-line-iterator.ensures.into_iter_gives
    (YieldsList-from_slice_split _ is_line_feed c.args.text.now split.rest split.done split.closure (λ x r q k. search (rules, tests))))
    c.loop-line.yielded _ c.loop-line.yielded_by _ _ c.in-None.is c.next.ensures.steps in
    adds_parts _ _ c.args.text.now (c.loop-line.invariant ∙ ap (λ parts. c.args.out.now.items ++ flat_map remark_line parts) seen.0)
