use Rattle.std.proofs.Common.{None, refl, arith, rules}
use Rattle.uart_language.specs.Text.{lines_of}
use Rattle.uart_judges.proofs.Read.{bad_line, calls_blank, calls_body, calls_broken, calls_call}
use Rattle.uart_judges.proofs.Read.{calls_end, calls_fresh, empty_lines, same_fault}
use Rattle.uart_judges.proofs.traces.parsing.read_trace.Goals as goal

pub returns-in_err-line : goal.returns-in_err-line
returns-in_err-line c =
    let k = same_fault _ _ c.in_err-line.field-0.0 c.loop-rest.invariant.so_far.fault
    (bad_line c.loop-rest.number None (lines_of c.loop-rest.rest.now) c.in_err-line.field-0.0 c.in_err-line.ensures.read) in
    search (rules, k)

pub loop-rest-preserved-in-Blank : goal.loop-rest-preserved-in-Blank
loop-rest-preserved-in-Blank c = record {
  so_far = calls_blank c.loop-rest.invariant.so_far (rw c.in-Blank.is at c.in_ok-line.ensures.read);
  fits = omega (arith, c.loop-rest.invariant.fits, c.in_ok-line.ensures.shorter);
}

pub loop-rest-preserved-in-Fresh : goal.loop-rest-preserved-in-Fresh
loop-rest-preserved-in-Fresh c = record {
  so_far = calls_fresh c.loop-rest.invariant.so_far (rw c.in-Fresh.is at c.in_ok-line.ensures.read);
  fits = omega (arith, c.loop-rest.invariant.fits, c.in_ok-line.ensures.shorter);
}

pub returns-in_err-exchange-in-Call : goal.returns-in_err-exchange-in-Call
returns-in_err-exchange-in-Call c =
    let k = same_fault _ _ c.in_err-exchange-in-Call.field-0.0
    (calls_body c.in-Call.call c.loop-rest.invariant.so_far (rw c.in-Call.is at c.in_ok-line.ensures.read))
    c.in_err-exchange-in-Call.ensures.read in
    search (rules, k)

pub loop-rest-preserved : goal.loop-rest-preserved
loop-rest-preserved c = record {
  so_far =
      rw c.in_ok-push-in-Call.ensures.items
      (calls_call c.in-Call.call c.in_ok-exchange-in-Call.exchange c.loop-rest.invariant.so_far
      (rw c.in-Call.is at c.in_ok-line.ensures.read) c.in_ok-exchange-in-Call.ensures.read);
  fits = omega (arith, c.loop-rest.invariant.fits, c.in_ok-line.ensures.shorter, c.in_ok-exchange-in-Call.ensures.shorter);
}

pub returns : goal.returns
returns c = (calls_end c.loop-rest.invariant.so_far (empty_lines c.loop-rest.rest.now c.loop-rest-test.ensures)).0

pub returns-in-Access : goal.returns-in-Access
returns-in-Access c =
    let r = rw c.in-Access.is at c.in_ok-line.ensures.read in
    rw c.fault-misplaced.ensures (calls_broken _ c.loop-rest.invariant.so_far r refl)

pub returns-in-Answer : goal.returns-in-Answer
returns-in-Answer c =
    let r = rw c.in-Answer.is at c.in_ok-line.ensures.read in
    rw c.fault-misplaced.ensures (calls_broken _ c.loop-rest.invariant.so_far r refl)

pub loop-rest-smaller : goal.loop-rest-smaller
loop-rest-smaller c =
    omega (arith, c.in_ok-line.ensures.shorter, c.in_ok-exchange-in-Call.ensures.shorter, c.in_ok-exchange-in-Call.ensures.later)
