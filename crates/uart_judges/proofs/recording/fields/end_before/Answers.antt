use Rattle.std.proofs.Common.{rules, ◌==◌}
use Rattle.std.proofs.lemmas.Iterator.{YieldsList-from_slice}
use Rattle.std.proofs.lemmas.Iterator.Search.{position_from_yields_List}
use Rattle.uart_judges.proofs.Ends.{position_is}
use Rattle.uart_judges.proofs.recording.fields.end_before.Goals as goal

pub returns-clause-value : goal.returns-clause-value
returns-clause-value c =
    rw c.unwrap_or.ensures (position_is (λ b. b == c.args.byte) c.args.word.now c.position.result
    (position_from_yields_List (λ b. b == c.args.byte) _ _ c.position.result c.position.ensures.ran
    (YieldsList-from_slice c.args.word.now c.iter.ensures.rest) (λ x b q k. search rules)))
