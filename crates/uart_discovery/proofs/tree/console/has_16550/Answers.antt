use Rattle.std.proofs.Common.{rules, eqb}
use Rattle.std.proofs.lemmas.Iterator.Search.{any_from_yields_List}
use Rattle.std.proofs.lemmas.Iterator.Splits.{YieldsList-from_slice_split}
use Rattle.uart_discovery.specs.Tree.{is_16550}
use Rattle.uart_discovery.proofs.tree.console.has_16550.Goals as goal

pub returns : goal.returns
returns c =
    any_from_yields_List is_16550 _ _ c.any.result c.any.ensures.ran (YieldsList-from_slice_split _ (λ byte. eqb byte 0)
    c.args.names.now c.split.ensures.rest c.split.ensures.done c.split.ensures.closure (λ x b q k. search rules))
    (λ x b q k. search rules)
