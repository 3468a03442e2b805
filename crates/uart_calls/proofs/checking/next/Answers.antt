use Rattle.std.proofs.Common.{arith}
use Rattle.std.proofs.lemmas.List.{length-map}
use Rattle.uart_calls.proofs.Checked.{all_kept, strayed}
use Rattle.uart_calls.proofs.checking.next.Goals as goal

pub returns-then-kept-made : goal.returns-then-kept-made
returns-then-kept-made g c =
    strayed c.follow-kept.ensures (omega (arith, c.if-kept-made.true, length-map c.args.made.now g.R.Recorded.access))

pub returns-in-Returns : goal.returns-in-Returns
returns-in-Returns g c =
    all_kept c.follow-kept.ensures (omega (arith, c.if-kept-made.false, length-map c.args.made.now g.R.Recorded.access)) c.in-Returns.is

pub returns-in-Asks : goal.returns-in-Asks
returns-in-Asks g c =
    all_kept c.follow-kept.ensures (omega (arith, c.if-kept-made.false, length-map c.args.made.now g.R.Recorded.access)) c.in-Asks.is
