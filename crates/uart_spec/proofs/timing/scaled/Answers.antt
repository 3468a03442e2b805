use Rattle.std.proofs.Common.{◌<◌, ◌≤◌, ◌+◌, ◌*◌, ◌/◌, ◌%◌, ◌^◌, ℕ, inr, arith}
use Rattle.std.proofs.Math.Nat.{mod-lt}
use Rattle.std.proofs.lemmas.Nat.{div-add-mod'}
use Rattle.uart_spec.proofs.TimingLemmas.{scaled_low, scaled_high, scaled_over, scaled_over_sum, le_of_not, if_some, if_none, none_so}
use Rattle.uart_spec.proofs.timing.scaled.Goals as goal

pub returns-in_err-whole-clause-none : goal.returns-in_err-whole-clause-none
returns-in_err-whole-clause-none c =
    let v : ℕ = c.args.value in
    let t : ℕ = c.args.times in
    let p : ℕ = c.args.per in
    let over : 2 ^ 64 ≤ v / p * t = le_of_not (v / p * t) (2 ^ 64) c.in_err-whole.ensures in
    none_so c.from_residual.result _ (inr (scaled_over (2 ^ 64) v t p c.args.more (v / p) (v % p) (div-add-mod' v p) over))

pub returns-clause-some : goal.returns-clause-some
returns-clause-some c =
    let v : ℕ = c.args.value in
    let t : ℕ = c.args.times in
    let p : ℕ = c.args.per in
    let m : ℕ = c.args.more in
    let e : ℕ = v % p * t + m in
    if_some c.checked_add.result _ _ _ c.checked_add.ensures
    (rw c.in_ok-whole.ensures.1
    (scaled_low v t p m (v / p) (v % p) (e / p) (e % p) (div-add-mod' v p) (div-add-mod' e p)))

pub returns-clause-most : goal.returns-clause-most
returns-clause-most c =
    let v : ℕ = c.args.value in
    let t : ℕ = c.args.times in
    let p : ℕ = c.args.per in
    let m : ℕ = c.args.more in
    let e : ℕ = v % p * t + m in
    let below : e % p < p = mod-lt e (omega (arith, c.if-per-eq0.false)) in
    if_some c.checked_add.result _ _ _ c.checked_add.ensures
    (rw c.in_ok-whole.ensures.1
    (scaled_high v t p m (v / p) (v % p) (e / p) (e % p) (div-add-mod' v p) (div-add-mod' e p) below))

pub returns-clause-none : goal.returns-clause-none
returns-clause-none c =
    let v : ℕ = c.args.value in
    let t : ℕ = c.args.times in
    let p : ℕ = c.args.per in
    let m : ℕ = c.args.more in
    let e : ℕ = v % p * t + m in
    if_none c.checked_add.result _ _ _ _ c.checked_add.ensures
    (λ over. inr (scaled_over_sum (2 ^ 64) v t p m (v / p) (v % p) (e / p) (e % p) (div-add-mod' v p) (div-add-mod' e p)
    (rw (← c.in_ok-whole.ensures.1) over)))
