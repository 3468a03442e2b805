use Rattle.std.proofs.Common.{◌≡◌, ap, ◌∙◌, map, rules}
use Rattle.std.specs.Prelude.{Ok}
use Rattle.uart_trace.proofs.Written.{is_traced_ok, never_refused}
use Rattle.uart_trace.proofs.tracing.trace.Goals as goal

pub returns-in-Some-clause-refused : goal.returns-in-Some-clause-refused
returns-in-Some-clause-refused g c = λ line cause same. never_refused c.in-Some.failure c.error_of.result line cause c.error_of.ensures same

pub returns-clause-traced : goal.returns-clause-traced
returns-clause-traced g c =
    let told = c.in_ok-told.ensures.told in
    let ok : c.write_last.result ≡ Ok tt = search rules in (
      told.0,
      told.1,
      is_traced_ok g.W.Output.contents told.0 c.args.text.now c.args.output.now _ c.in_ok-told.told c.write_last.new.self
          c.write_last.result told.2 (ap (map (λ line. line.now)) c.deref.ensures.value ∙ c.in_ok-lines.ensures)
          (ap (map (λ line. line.now)) c.deref-2.ensures.value ∙ c.in_ok-answers.ensures) c.in-None.is c.write_last.ensures ok,
    )
