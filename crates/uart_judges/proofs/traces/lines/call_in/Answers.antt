use Rattle.std.proofs.Common.{refl, sym}
use Rattle.uart_language.specs.declared.words.Place.TheVariants.{Later}
use Rattle.uart_language.proofs.Playable.{line_runnable}
use Rattle.uart_judges.proofs.traces.lines.call_in.Goals as goal

pub returns-in-Call-clause-runs : goal.returns-in-Call-clause-runs
returns-in-Call-clause-runs c =
    line_runnable Later c.args.line.now c.in-Call.call refl (sym (rw c.in-Call.is at c.in_ok-call.ensures))
