use Rattle.std.proofs.Common.{◌≡◌, ◌≤◌, ◌∙◌, ap, arith, length}
use Rattle.std.proofs.lemmas.List.{take_all, take-append-le}
use Rattle.uart_run.specs.Run.{machine_of}
use Rattle.uart_language.proofs.Playable.{all_runnable}
use Rattle.uart_play.proofs.ScriptOutputs.{run_plain}
use Rattle.uart_play.proofs.playing.output_for.Goals as goal

pub run-requires-clause-runnable : goal.run-requires-clause-runnable
run-requires-clause-runnable c = all_runnable _ _ c.calls-calls.ensures c.requires.calls

pub returns : goal.returns
returns c =
    let answers = c.run.new.answers in
    let n = c.in_ok-answers.answers.len in
    let few : n ≤ length answers = omega (arith, c.run.auto.answers, c.deref_mut.ensures.len, ap length c.deref_mut.ensures.value) in
    let many : length answers ≤ n = omega (arith, c.run.auto.answers, c.deref_mut.ensures.len, ap length c.deref_mut.ensures.value) in
    let same = c.deref.ensures.value ∙ take-append-le n answers _ few ∙ take_all n answers many in
    let machine : c.backend.result.now ≡ machine_of c.run.new.uart = rw c.inner.ensures at c.backend.ensures in
    record {
      first = c.in_ok-terminal.terminal;
      last = c.run.new.uart;
      answers = answers;
      begins = c.in_ok-terminal.ensures;
      ran = run_plain _ _ _ _ _ c.calls-calls.ensures c.run.ensures.ran;
      is = rw (same, machine) at c.in_ok-output.ensures;
    }
