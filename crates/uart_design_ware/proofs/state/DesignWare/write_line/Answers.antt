use Rattle.std.proofs.Common.{◌≡◌, ◌<◌, ℕ, refl, subst, arith, inl, inr}
use Rattle.std.specs.Prelude.{◌⊎◌}
use Rattle.uart_design_ware.specs.Held.{held}
use Rattle.uart_design_ware.specs.Doing.{Did, Times}
use Rattle.uart_design_ware.specs.Line.{GivesUp, Succeeds, TriesInVain, with_line}
use Rattle.uart_design_ware.proofs.Doings.{did_then, did_set, did_any, did_times}
use Rattle.uart_design_ware.proofs.state.DesignWare.write_line.Goals as goal

pub returns-then-takes : goal.returns-then-takes
returns-then-takes g c =
    let old = c.args.self.now in
    let line = c.args.line in
    let begun = record old { line = line } in
    let n = c.loop-round._round in
    let few : n < (held begun).patience = omega arith in
    let did = did_then c.loop-round.invariant (did_then c.if-takes.ensures c.end_fault.ensures) in
    let done : Did g.R.Backend.step (λ h l after. Succeeds line.0 h l after ⊎ GivesUp line.0 h l after) begun c.end_fault.new.self =
    record { list = did.list; path = did.path; does = inl (n, few, did.does) } in
    did_then (did_set g.R.Backend.step (with_line line.0) old begun refl refl) done

pub loop-round-preserved : goal.loop-round-preserved
loop-round-preserved g c =
    did_times _ (TriesInVain c.args.line.0) c.loop-round.invariant (did_then c.if-takes.ensures c.make_room.ensures)

pub returns : goal.returns
returns g c =
    let old = c.args.self.now in
    let line = c.args.line in
    let begun = record old { line = line } in
    let all : c.loop-round._round ≡ (held begun).patience = omega arith in
    let P : ℕ → Type 0 = λ n. Did g.R.Backend.step (Times n (TriesInVain line.0)) begun c.loop-round.self in
    let tried = subst P all c.loop-round.invariant in
    let did = did_then tried (did_then c.begin_fault.ensures (did_any c.read_usr.result c.read_usr.ensures)) in
    let done : Did g.R.Backend.step (λ h l after. Succeeds line.0 h l after ⊎ GivesUp line.0 h l after) begun c.read_usr.new.self =
    record { list = did.list; path = did.path; does = inr did.does } in
    did_then (did_set g.R.Backend.step (with_line line.0) old begun refl refl) done
