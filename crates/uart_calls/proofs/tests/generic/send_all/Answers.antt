use Rattle.std.proofs.Common.{ℕ, List, ◌++◌, ◌∷◌, [], drop, arith, length-drop, refl, append-nil, Result, Ok, Err}
use Rattle.std.proofs.lemmas.List.{take_rest}
use Rattle.uart_calls.specs.Links.{WriteLink, taken}
use Rattle.uart_calls.proofs.Chains.{chain_more, taken_more, joined_more}
use Rattle.uart_calls.proofs.tests.generic.send_all.Goals as goal

abbrev call : {S E : Type 0} → S → List ℕ → Result ℕ E → S → WriteLink S E
call before given answer after = record { before = before; given = given; answer = answer; after = after }

pub loop-done-preserved : goal.loop-done-preserved
loop-done-preserved g c =
    let inv = c.loop-done.invariant in
    let rest = drop c.loop-done.done c.args.bytes.now in
    let last : WriteLink g.row.W.Denot g.row.W-Error.Denot = call c.loop-done.writer rest (Ok c.in-Ok.count) c.write.new.self in
    record {
      within = omega (arith, length-drop {A = ℕ}, rw take_rest at c.in-Ok.ensures.count);
      links = inv.links ++ last ∷ [];
      chain = chain_more _ _ _ _ inv.links rest (Ok c.in-Ok.count) inv.chain (rw take_rest at c.in-Ok.ensures.writes);
      joined = rw (taken_more inv.links last) (joined_more (taken inv.links) c.args.bytes.now c.loop-done.done c.in-Ok.count inv.joined);
    }

pub returns-in-Err : goal.returns-in-Err
returns-in-Err g c =
    let inv = c.loop-done.invariant in
    let rest = drop c.loop-done.done c.args.bytes.now in
    let last = call c.loop-done.writer rest (Err c.in-Err.error) c.write.new.self in
    record {
      links = inv.links ++ last ∷ [];
      chain = chain_more _ _ _ _ inv.links rest (Err c.in-Err.error) inv.chain (rw take_rest at c.in-Err.ensures.writes);
      takes = (inv.links, last, rest, refl, refl, rw (taken_more inv.links last, append-nil) inv.joined);
    }
