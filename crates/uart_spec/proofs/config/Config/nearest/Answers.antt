use Rattle.std.proofs.Common.{◌≡◌, ◌<◌, ◌+◌, ◌*◌, ◌^◌, ◌∙◌, ℕ, ap, subst, arith}
use Rattle.std.proofs.lemmas.Grind.{common_steps}
use Rattle.uart_spec.proofs.NearestLemmas.{none_near}
use Rattle.uart_spec.specs.Baud.{IsNearestFactor, distance, prescaler}
use Rattle.uart_spec.specs.BaudRate.{to_integer}
use Rattle.uart_spec.proofs.config.Config.nearest.Goals as goal

pub returns-then-abs_diff-per_mille-clause-answer : goal.returns-then-abs_diff-per_mille-clause-answer
returns-then-abs_diff-per_mille-clause-answer c =
    let f : ℕ = c.args.self.frequency in
    let p : ℕ = c.args.per_mille in
    let k : ℕ = 16 * (prescaler c.args.self.prescaler_division_factor + 1) in
    let t : ℕ = k * to_integer c.args.self.baud_rate in
    let d : ℕ = c.nearest_factor-divisor.result in
    let same : c.ticks_of-ticks.result ≡ t = c.ticks_of-ticks.ensures.value ∙ ap (λ (rate : ℕ). k * rate) c.to_integer.ensures in
    let near : IsNearestFactor f t d = subst (λ (n : ℕ). IsNearestFactor f n d) same c.nearest_factor-divisor.ensures.nearest in
    let far : p * (t * d) < 1000 * distance (t * d) f =
    subst (λ (n : ℕ). p * (n * d) < 1000 * distance (n * d) f) same
    (grind (arith, common_steps, c.abs_diff.ensures, c.if-abs_diff-per_mille.true)) in
    let fits : t * d < 2 ^ 32 = subst (λ (n : ℕ). n * d < 2 ^ 32) same (grind (arith, common_steps, c.if-exact.false)) in
    (near, (grind (arith, common_steps, c.if-divisor.false), fits), none_near f t d p near far)
