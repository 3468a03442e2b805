use Rattle.std.proofs.Common.{rules}
use Rattle.uart_language.specs.Script.{plan_of}
use Rattle.uart_play.proofs.ScriptPlays.{refused}
use Rattle.uart_language.proofs.Playable.{playable}
use Rattle.uart_play.proofs.playing.play.Goals as goal

pub returns-in_err-script-clause-outcome : goal.returns-in_err-script-clause-outcome
returns-in_err-script-clause-outcome g c =
    let k = refused _ _ (g.W.Output.contents c.args.writer.now) (g.W.Output.contents c.args.writer.now) c.in_ok-text.text.items
    c.in_err-script.field-0.0 c.in_ok-text.ensures.whole (rw c.deref.ensures.value at c.in_err-script.ensures) in
    search (rules, k)

pub output_for-requires : goal.output_for-requires
output_for-requires g c = playable c.deref.result.now (plan_of c.in_ok-script.script) c.in_ok-script.ensures.script
