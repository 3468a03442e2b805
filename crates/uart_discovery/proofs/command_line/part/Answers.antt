use Rattle.std.proofs.Common.{rules, eqb}
use Rattle.std.proofs.lemmas.Iterator.Consumers.{nth_from_yields_List}
use Rattle.std.proofs.lemmas.Iterator.Splits.{YieldsList-from_slice_split}
use Rattle.uart_discovery.specs.CommandLine.{parts}
use Rattle.uart_discovery.proofs.Words.{part_from_get}
use Rattle.uart_discovery.proofs.command_line.part.Goals as goal

pub returns : goal.returns
returns c =
    let e = nth_from_yields_List c.nth.result _ c.args.index c.nth.ensures.ran (YieldsList-from_slice_split _ (λ b. eqb b 44)
    c.args.text.now c.split.ensures.rest c.split.ensures.done c.split.ensures.closure (λ x b q k. search rules)) in
    rw c.unwrap_or.ensures (part_from_get (parts c.args.text.now) c.args.index c.nth.result _ e)
