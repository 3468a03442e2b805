use Rattle.std.proofs.Common.{rules, eqb, sym, ap, ◌∙◌, take}
use Rattle.std.proofs.lemmas.Iterator.{YieldsList-from_slice}
use Rattle.std.proofs.lemmas.Iterator.Search.{position_from_yields_List}
use Rattle.uart_discovery.proofs.Words.{is_first}
use Rattle.uart_discovery.proofs.tree.blob.up_to_zero.Goals as goal

pub returns : goal.returns
returns c =
    let e = position_from_yields_List (λ byte. eqb byte 0) _ _ c.position.result c.position.ensures.ran
    (YieldsList-from_slice c.args.bytes.now cc) (λ x b q k. search rules) in
    let f = is_first (λ byte. eqb byte 0) c.args.bytes.now c.in_ok-length.length (sym c.in_ok-length.was ∙ e) in
    c.split_at.ensures.front ∙ ap (λ k. take k c.args.bytes.now) f
