use Rattle.std.proofs.Common.{◌<◌, ◌/◌, ℕ, arith}
use Rattle.std.proofs.Math.Nat.{div-add-mod, mod-lt}
use Rattle.uart_spec.proofs.NearestLemmas.{above_nearest, below_nearest}
use Rattle.uart_spec.proofs.baud.nearest_factor.Goals as goal

pub returns-then-product-frequency-clause-nearest : goal.returns-then-product-frequency-clause-nearest
returns-then-product-frequency-clause-nearest c =
    let f : ℕ = c.args.frequency in
    let t : ℕ = c.args.ticks in
    let some : 0 < t = omega (arith, c.requires.some) in
    above_nearest f t (f / t) c.requires.runs (omega (arith, div-add-mod f t)) (omega (arith, div-add-mod f t, mod-lt f some))
    (omega (arith, c.if-product-frequency.true))

pub returns-else-product-frequency-clause-nearest : goal.returns-else-product-frequency-clause-nearest
returns-else-product-frequency-clause-nearest c =
    let f : ℕ = c.args.frequency in
    let t : ℕ = c.args.ticks in
    let some : 0 < t = omega (arith, c.requires.some) in
    below_nearest f t (f / t) (omega (arith, div-add-mod f t)) (omega (arith, div-add-mod f t, mod-lt f some))
    (omega (arith, c.if-product-frequency.false))
