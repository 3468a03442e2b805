use Rattle.std.proofs.Common.{rules, ◌≡◌, ◌++◌, ℕ, zero, suc, ◌+◌, List, [], ◌∷◌, Some, take, slice_get, ap, ◌∙◌, arith}
use Rattle.uart_chip.proofs.fifo.items_of.Goals as goal

-- the first items and the next one are one more of the first items
one_more : {X : Type 0} (i : ℕ) (xs : List X) (x : X) → Some x ≡ slice_get xs i → take i xs ++ x ∷ [] ≡ take (suc i) xs
one_more i [] x is = absurd cc
one_more zero (y ∷ ys) x is = let same : x ≡ y = cc in ap (λ z. z ∷ []) same
one_more (suc i) (y ∷ ys) x is = ap (λ zs. y ∷ zs) (one_more i ys x is)

pub loop-i-preserved : goal.loop-i-preserved
loop-i-preserved g c =
    let xs = g.Q.Fifo.items c.args.queue.now in
    let i = c.loop-i.i in
    let here : Some c.unwrap.result ≡ slice_get xs i = search rules in
    let next : suc i ≡ i + 1 = omega arith in
    record {
      told =
          c.push.ensures.items ∙ (ap (λ ys. ys ++ c.unwrap.result ∷ []) c.loop-i.invariant.told ∙
          (one_more i xs c.unwrap.result here ∙ ap (λ k. take k xs) next));
      len = search rules;
      end = search rules;
      fits = search rules;
    }
