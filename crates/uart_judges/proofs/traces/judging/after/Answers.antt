use Rattle.std.proofs.Common.{List, sym, subst, ◌∙◌}
use Rattle.uart_spec.specs.declared.access.Access.{Access}
use Rattle.uart_16550.specs.State.{fields_of}
use Rattle.uart_calls.specs.Lists.{IsListOf}
use Rattle.uart_calls.proofs.Checked.{same_accesses}
use Rattle.uart_judges.proofs.Judged.{not_printed, not_true}
use Rattle.uart_judges.proofs.traces.judging.after.Goals as goal

pub returns-in_default-clause-complete : goal.returns-in_default-clause-complete
returns-in_default-clause-complete c none fields x =
    let L : List Access → Type 0 = λ l. IsListOf c.args.exchange.now.call (fields_of c.args.state.now) l x.answer fields in
    c.in_default.ensures.complete none x.answer fields (subst L (sym (same_accesses _ ∙ c.deref.ensures.value)) x.makes)

pub returns-else-branch-clause-complete : goal.returns-else-branch-clause-complete
returns-else-branch-clause-complete c none fields x =
    not_true c.if-branch.false
    (c.in_ok-is_printed.ensures.1
    (not_printed c.args.exchange.now.call c.args.exchange.now.runnable _ _ _ _ _ _ _ _ _ (same_accesses _ ∙ c.deref.ensures.value)
    c.deref-2.ensures.value c.in-Some.ensures.sound x.makes x.printed))
