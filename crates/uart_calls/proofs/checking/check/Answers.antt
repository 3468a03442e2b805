use Rattle.uart_calls.proofs.Checked.{begins_whole, never_on}
use Rattle.uart_calls.proofs.checking.check.Goals as goal

pub returns-in-Asked-clause-complete : goal.returns-in-Asked-clause-complete
returns-in-Asked-clause-complete g c none answer after made = never_on _ c.requires _ after _ answer _ made c.in-Asked.ensures

pub returns-in-Strayed-clause-complete : goal.returns-in-Strayed-clause-complete
returns-in-Strayed-clause-complete g c none answer after made = c.in-Strayed.ensures (begins_whole _ _ after _ answer made)
