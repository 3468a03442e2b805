use Rattle.std.proofs.Common.{◌≡◌, ◌<◌, ℕ, true, [], ◌∷◌, ◌++◌, length, refl, sym, ◌∙◌, ap, arith, inl, inr}
use Rattle.uart_design_ware.specs.declared.serving.TheConstants.{NONE, ROUNDS}
use Rattle.uart_design_ware.specs.Doing.{Did, Nothing}
use Rattle.uart_design_ware.specs.Serving.{Round, shown_isr, with_cause}
use Rattle.uart_design_ware.proofs.Doings.{did_then, did_more, last_more}
use Rattle.std.proofs.lemmas.List.{length-append}
use Rattle.uart_design_ware.proofs.state.DesignWare.read_isr.Goals as goal

pub returns-then-not-end_interrupt : goal.returns-then-not-end_interrupt
returns-then-not-end_interrupt g c =
    let inv = c.loop-round.invariant in
    let isr = c.load-isr.result in
    let within : c.loop-round._round < ROUNDS = omega arith in
    let few : length inv.0 < ROUNDS = omega (arith, inv.1, within) in
    let shown : Did g.R.Backend.step (λ h l after. (c.shown_isr.result ≡ shown_isr isr h) × Nothing h l after)
    c.end_interrupt.new.self c.end_interrupt.new.self =
    record { list = []; path = refl; does = (c.shown_isr.ensures, (refl, refl)) } in
    let did = did_then inv.3 (did_then (did_then c.load-isr.ensures c.if-not-end_interrupt.ensures) shown) in
    record { list = did.list; path = did.path; does = inl (inv.0, isr, few, did.does) }

pub loop-round-preserved : goal.loop-round-preserved
loop-round-preserved g c =
    let inv = c.loop-round.invariant in
    let isr = c.load-isr.result in (
      inv.0 ++ isr ∷ [],
      omega (arith, inv.1, length-append inv.0 (isr ∷ [])),
      sym (last_more NONE inv.0 isr),
      did_more (λ isr. Round isr true) inv.0 isr inv.3 (did_then c.load-isr.ensures c.if-not-end_interrupt.ensures),
    )

pub returns : goal.returns
returns g c =
    let inv = c.loop-round.invariant in
    let all : c.loop-round._round ≡ ROUNDS = omega arith in
    let answer = c.with_cause.ensures ∙ ap (λ (n : ℕ). with_cause n NONE) inv.2 in
    let did = did_then inv.3 c.begin_fault.ensures in
    record { list = did.list; path = did.path; does = inr (inv.0, inv.1 ∙ all, answer, did.does) }
