use Rattle.std.proofs.Common.{◌≡◌, true, false, refl}
use Rattle.std.specs.Prelude.{IsNone}
use Rattle.uart_judges.proofs.Judged.{all_left, one_less, no_first_call, stray_here}
use Rattle.uart_judges.proofs.traces.judging.judge.Goals as goal

true_is_not_false : {A : Type 0} → true ≡ false → A
true_is_not_false e = absurd cc

pub loop-exchange-init : goal.loop-exchange-init
loop-exchange-init c = rw c.new-state.ensures (all_left _ _ _)

pub loop-exchange-preserved : goal.loop-exchange-preserved
loop-exchange-preserved c =
    let made = rw c.in-Some-2.is at c.in_ok-next.ensures.sound in
    one_less _ _ _ _ _ _ _ _ _ c.loop-exchange.invariant c.in-Some.ensures.cases.0 c.state_before-before.ensures made

pub returns-in-None-clause-calls : goal.returns-in-None-clause-calls
returns-in-None-clause-calls c =
    let none : IsNone c.in_ok-next.field-0 = rw c.in-None.is refl in (
      true_is_not_false,
      λ all. absurd (no_first_call _ _ _ _ _ _ c.in-Some.ensures.cases.0 c.state_before-before.ensures
          (c.in_ok-next.ensures.complete none) (c.loop-exchange.invariant.calls.to all)),
    )

pub returns-in-None-clause-first : goal.returns-in-None-clause-first
returns-in-None-clause-first c =
    let none : IsNone c.in_ok-next.field-0 = rw c.in-None.is refl in
    stray_here _ _ _ _ _ _ _ _ _ c.loop-exchange.invariant c.in-Some.ensures.cases.0 c.state_before-before.ensures
    c.stray_at.ensures.call (c.in_ok-next.ensures.complete none) c.stray_at.ensures.first
