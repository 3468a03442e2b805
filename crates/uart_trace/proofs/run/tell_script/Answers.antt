use Rattle.std.proofs.Common.{ap, ◌∙◌}
use Rattle.uart_16550.specs.Driver.{backend_of}
use Rattle.uart_language.specs.Script.{plan_of}
use Rattle.uart_language.proofs.Playable.{all_runnable}
use Rattle.uart_trace.specs.Told.{listener_of}
use Rattle.uart_trace.proofs.Telling.{told_taken}
use Rattle.uart_trace.proofs.run.tell_script.Goals as goal

pub tell_calls-requires : goal.tell_calls-requires
tell_calls-requires g c = all_runnable _ _ c.calls.ensures c.requires.calls

pub returns-in-Some : goal.returns-in-Some
returns-in-Some g c =
    told_taken g.L.Listener.begins g.L.Listener.hears g.L.Listener.ends (plan_of c.args.script.now) c.calls.result.now c.args.listener
    c.in_ok-terminal.terminal c.tell_calls.new.uart c.take_listener.result c.in-Some.listener c.calls.ensures c.in_ok-terminal.ensures
    c.tell_calls.ensures
    (c.take_listener.ensures ∙ ap listener_of (c.backend_mut.ensures.value ∙ ap backend_of c.inner_mut.ensures.value)) c.in-Some.is
