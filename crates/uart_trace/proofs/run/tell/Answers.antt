use Rattle.uart_language.specs.Script.{plan_of}
use Rattle.uart_language.proofs.Playable.{playable}
use Rattle.uart_trace.proofs.run.tell.Goals as goal

pub tell_script-requires : goal.tell_script-requires
tell_script-requires g c = playable c.args.text.now (plan_of c.in_ok-script.script) c.in_ok-script.ensures.script
