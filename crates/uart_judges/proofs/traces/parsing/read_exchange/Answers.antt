use Rattle.std.proofs.Common.{Some, refl, arith, rules}
use Rattle.uart_language.specs.Text.{lines_of}
use Rattle.uart_judges.specs.TraceLines.{Fresh}
use Rattle.uart_judges.proofs.Read.{bad_line, body_access, body_blank, body_broken, body_cut}
use Rattle.uart_judges.proofs.Read.{body_ends, body_ends_fault, empty_lines, same_fault}
use Rattle.uart_judges.proofs.traces.parsing.read_exchange.Goals as goal

pub returns-in_err-line-clause-read : goal.returns-in_err-line-clause-read
returns-in_err-line-clause-read c =
    let k = same_fault _ _ c.in_err-line.field-0.0 c.loop-rest.invariant.so_far.fault
    (bad_line c.loop-rest.number (Some c.args.call_line) (lines_of c.loop-rest.rest.now) c.in_err-line.field-0.0
    c.in_err-line.ensures.read) in
    search (rules, k)

pub loop-rest-preserved-in-Blank : goal.loop-rest-preserved-in-Blank
loop-rest-preserved-in-Blank c = record {
  so_far = body_blank c.loop-rest.invariant.so_far (rw c.in-Blank.is at c.in_ok-line.ensures.read);
  forward = omega (arith, c.loop-rest.invariant.forward);
  fits = omega (arith, c.loop-rest.invariant.fits, c.in_ok-line.ensures.shorter);
}

pub loop-rest-preserved : goal.loop-rest-preserved
loop-rest-preserved c = record {
  so_far =
      rw (c.in_ok-push-in-Access.ensures.items, c.in_ok-push-in-Access-2.ensures.items)
      (body_access c.in-Access.access c.loop-rest.invariant.so_far (rw c.in-Access.is at c.in_ok-line.ensures.read));
  forward = omega (arith, c.loop-rest.invariant.forward);
  fits = omega (arith, c.loop-rest.invariant.fits, c.in_ok-line.ensures.shorter);
}

pub returns-in-Answer-clause-read : goal.returns-in-Answer-clause-read
returns-in-Answer-clause-read c =
    let r = rw c.in-Answer.is at c.in_ok-line.ensures.read in
    let same = c.in_ok-to_vec-in-Answer.ensures.items_if_clones_equal (λ x y e. cc) in
    record {
      first = refl;
      called = refl;
      goes = rw same (body_ends c.in-Answer.text.now c.loop-rest.invariant.so_far r);
      faultless = body_ends_fault c.in-Answer.text.now c.loop-rest.invariant.so_far r;
    }

pub returns-in-Fresh-clause-read : goal.returns-in-Fresh-clause-read
returns-in-Fresh-clause-read c =
    let r = rw c.in-Fresh.is at c.in_ok-line.ensures.read in
    rw c.fault-unanswered.ensures (body_broken Fresh c.loop-rest.invariant.so_far r refl)

pub returns-in-Call-clause-read : goal.returns-in-Call-clause-read
returns-in-Call-clause-read c =
    let r = rw c.in-Call.is at c.in_ok-line.ensures.read in
    rw c.fault-unanswered.ensures (body_broken _ c.loop-rest.invariant.so_far r refl)

pub returns-clause-read : goal.returns-clause-read
returns-clause-read c =
    rw c.fault-unanswered.ensures
    (body_cut c.loop-rest.invariant.so_far (empty_lines c.loop-rest.rest.now c.loop-rest-test.ensures))

pub returns-in-Answer-clause-later : goal.returns-in-Answer-clause-later
returns-in-Answer-clause-later c = omega (arith, c.loop-rest.invariant.forward)
