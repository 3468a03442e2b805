use Rattle.std.proofs.Common.{ap, ◌∙◌, ◌==◌, rules, tests}
use Rattle.std.proofs.lemmas.Iterator.Consumers.{YieldsList-at, YieldsList-end}
use Rattle.std.proofs.lemmas.Iterator.Splits.{YieldsList-from_slice_split}
use Rattle.std.specs.List.{flat_map}
use Rattle.uart_trace.specs.Comments.{ended}
use Rattle.uart_trace.proofs.EndedLines.{without_last}
use Rattle.uart_trace.proofs.comments.without_comments.Goals as goal

-- the loop has seen every line
pub returns : goal.returns
returns c =
    let split = c.split-line-items.ensures in
    let seen = YieldsList-end
    (YieldsList-at c.into_iter-line-iterator.ensures.into_iter_gives
    (YieldsList-from_slice_split _ (λ b. b == 10) c.args.script.now split.rest split.done split.closure (λ x r q k. search (rules, tests))))
    c.loop-line.yielded _ c.loop-line.yielded_by _ _ c.in-None.is c.next.ensures.steps in
    c.pop.ensures.rest ∙ without_last c.args.script.now _ _ c.loop-line.text.ok.0 (c.loop-line.invariant ∙ ap (flat_map ended) seen.0)
