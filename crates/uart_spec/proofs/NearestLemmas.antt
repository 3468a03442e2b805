-- Of the two factors next to the quotient, the one whose rate is nearer is nearest of all.
use Rattle.std.proofs.Common.{◌≡◌, ◌<◌, ◌≤◌, ◌+◌, ◌-◌, ◌*◌, ℕ, zero, suc, ap, subst, arith, inl, inr, ◌⊎◌}
use Rattle.std.proofs.lemmas.Bool.{cases_lt}
use Rattle.std.proofs.Math.Nat.{mul-le-mul_left}
use Rattle.uart_spec.specs.Baud.{distance, IsNearestFactor}

-- distances that are known are compared
le_by : (x y o d a b : ℕ) → x ≡ a → y ≡ b → a * o ≤ b * d → x * o ≤ y * d
le_by x y o d a b e g h = rw (e, g) h

lt_by : (x y o d a b : ℕ) → x ≡ a → y ≡ b → a * o < b * d → x * o < y * d
lt_by x y o d a b e g h = rw (e, g) h

-- both products are below the frequency: the larger factor is nearer
both_below : (f t d o : ℕ) → t * d ≤ f → o ≤ d → distance (t * d) f * o ≤ distance (t * o) f * d
both_below f t d o low less =
    let lower : t * o ≤ f = omega (arith, low, mul-le-mul_left t less) in
    le_by (distance (t * d) f) (distance (t * o) f) o d (f - t * d) (f - t * o) (omega (arith, low)) (omega (arith, lower))
    (go (f - t * d) (f - t * o) (omega (arith, low)) (omega (arith, lower)))
  where
    go : (a b : ℕ) → a + t * d ≡ f → b + t * o ≡ f → a * o ≤ b * d
    go a b e g = omega (arith, ap (λ (n : ℕ). n * o) e, ap (λ (n : ℕ). n * d) g, mul-le-mul_left f less)

-- both are at or above it: the smaller one is nearer
both_above : (f t d o : ℕ) → f ≤ t * d → d ≤ o → distance (t * d) f * o ≤ distance (t * o) f * d
both_above f t d o high more =
    let higher : f ≤ t * o = omega (arith, high, mul-le-mul_left t more) in
    le_by (distance (t * d) f) (distance (t * o) f) o d (t * d - f) (t * o - f) (omega (arith, high)) (omega (arith, higher))
    (go (t * d - f) (t * o - f) (omega (arith, high)) (omega (arith, higher)))
  where
    go : (a b : ℕ) → a + f ≡ t * d → b + f ≡ t * o → a * o ≤ b * d
    go a b e g = omega (arith, ap (λ (n : ℕ). n * o) e, ap (λ (n : ℕ). n * d) g, mul-le-mul_left f more)

farther_above : (f t d o : ℕ) → 0 < f → f ≤ t * d → d < o → distance (t * d) f * o < distance (t * o) f * d
farther_above f t d o some high more =
    let higher : f ≤ t * o = omega (arith, high, mul-le-mul_left t more) in
    lt_by (distance (t * d) f) (distance (t * o) f) o d (t * d - f) (t * o - f) (omega (arith, high)) (omega (arith, higher))
    (go (t * d - f) (t * o - f) (omega (arith, high)) (omega (arith, higher)))
  where
    go : (a b : ℕ) → a + f ≡ t * d → b + f ≡ t * o → a * o < b * d
    go a b e g = omega (arith, ap (λ (n : ℕ). n * o) e, ap (λ (n : ℕ). n * d) g, mul-le-mul_left f more, some)

-- the one below is nearer than its neighbour, so than each one above
nearer_below : (f t q k : ℕ) → t * q ≤ f → f < t * (q + 1) → f ≤ 2 * (t * q) → f * (q + (q + 1)) < 2 * (t * q) * (q + 1) →
    distance (t * q) f * (q + 1 + k) < distance (t * (q + 1 + k)) f * q
nearer_below f t q k low high twice nearer =
    let higher : f ≤ t * (q + 1 + k) = omega (arith, high, mul-le-mul_left t (upto k)) in
    lt_by (distance (t * q) f) (distance (t * (q + 1 + k)) f) (q + 1 + k) q (f - t * q) (t * (q + 1 + k) - f) (omega (arith, low))
    (omega (arith, higher)) (go (f - t * q) (t * (q + 1 + k) - f) (omega (arith, low)) (omega (arith, higher)))
  where
    upto : (k : ℕ) → q + 1 ≤ q + 1 + k
    upto k = omega arith

    go : (a b : ℕ) → a + t * q ≡ f → b + f ≡ t * (q + 1 + k) → a * (q + 1 + k) < b * q
    go a b e g =
        omega (arith, ap (λ (n : ℕ). n * (q + 1 + k)) e, ap (λ (n : ℕ). n * q) g, nearer, mul-le-mul_left k twice)

-- the one above is as near as its neighbour, so as each one below
nearer_above : (f t o k : ℕ) → t * (o + k) ≤ f → f < t * (o + k + 1) →
    2 * (t * (o + k)) * (o + k + 1) ≤ f * (o + k + (o + k + 1)) →
    distance (t * (o + k + 1)) f * o ≤ distance (t * o) f * (o + k + 1)
nearer_above f t o k low high nearer =
    let lower : t * o ≤ f = omega (arith, low, mul-le-mul_left t (upto k)) in
    le_by (distance (t * (o + k + 1)) f) (distance (t * o) f) o (o + k + 1) (t * (o + k + 1) - f) (f - t * o) (omega (arith, high))
    (omega (arith, lower)) (go (t * (o + k + 1) - f) (f - t * o) (omega (arith, high)) (omega (arith, lower)))
  where
    upto : (k : ℕ) → o ≤ o + k
    upto k = omega arith

    most : f ≤ 2 * (t * (o + k + 1))
    most = omega (arith, high)

    go : (a b : ℕ) → a + f ≡ t * (o + k + 1) → b + t * o ≡ f → a * o ≤ b * (o + k + 1)
    go a b e g =
        omega (arith, ap (λ (n : ℕ). n * o) e, ap (λ (n : ℕ). n * (o + k + 1)) g, nearer, mul-le-mul_left k most)

-- ---- of all factors

at_most : (a b : ℕ) → a < b → a ≤ b
at_most a b less = omega (arith, less)

pub below_nearest : (f t q : ℕ) → t * q ≤ f → f < t * (q + 1) → f * (q + (q + 1)) < 2 * (t * q) * (q + 1) → IsNearestFactor f t q
below_nearest f t zero low high nearer = absurd (omega (arith, nearer))
below_nearest f t (suc n) low high nearer = record {
  some = omega arith;
  nearest = λ o more. at o (cases_lt q o);
  largest = above;
}
  where
    q : ℕ
    q = suc n

    one : 1 ≤ q
    one = omega arith

    twice : f ≤ 2 * (t * q)
    twice = omega (arith, high, mul-le-mul_left t one)

    beyond : (o : ℕ) → q < o → q + 1 + (o - (q + 1)) ≡ o
    beyond o more = omega (arith, more)

    above : (o : ℕ) → q < o → distance (t * q) f * o < distance (t * o) f * q
    above o more =
        subst (λ (m : ℕ). distance (t * q) f * m < distance (t * m) f * q) (beyond o more)
        (nearer_below f t q (o - (q + 1)) low high twice nearer)

    at : (o : ℕ) → (q < o) ⊎ (o ≤ q) → distance (t * q) f * o ≤ distance (t * o) f * q
    at o (inl more) = at_most (distance (t * q) f * o) (distance (t * o) f * q) (above o more)
    at o (inr less) = both_below f t q o low less

pub above_nearest : (f t q : ℕ) → 0 < f → t * q ≤ f → f < t * (q + 1) → 2 * (t * q) * (q + 1) ≤ f * (q + (q + 1)) →
    IsNearestFactor f t (q + 1)
above_nearest f t q some low high nearer = record {
  some = omega arith;
  nearest = λ o more. at o (cases_lt q o);
  largest = λ o more. farther_above f t (q + 1) o some (omega (arith, high)) more;
}
  where
    within : (o : ℕ) → o ≤ q → o + (q - o) ≡ q
    within o less = omega (arith, less)

    at : (o : ℕ) → (q < o) ⊎ (o ≤ q) → distance (t * (q + 1)) f * o ≤ distance (t * o) f * (q + 1)
    at o (inl more) = both_above f t (q + 1) o (omega (arith, high)) (omega (arith, more))
    at o (inr less) =
        subst (λ (n : ℕ). t * n ≤ f → f < t * (n + 1) → 2 * (t * n) * (n + 1) ≤ f * (n + (n + 1)) →
        distance (t * (n + 1)) f * o ≤ distance (t * o) f * (n + 1)) (within o less) (nearer_above f t o (q - o)) low high nearer

-- where the nearest factor is too far off, each other one is
pub none_near : (f t d p : ℕ) → IsNearestFactor f t d → p * (t * d) < 1000 * distance (t * d) f → (o : ℕ) → 1 ≤ o →
    p * (t * o) < 1000 * distance (t * o) f
none_near f t d p near far o more = at (cases_lt (p * (t * o)) (1000 * distance (t * o) f))
  where
    no : (a b : ℕ) → p * (t * d) < 1000 * a → 1000 * b ≤ p * (t * o) → a * o ≤ b * d → ⊥
    no a b e g h = omega (arith, mul-le-mul_left o e, mul-le-mul_left d g, h, more)

    at : (p * (t * o) < 1000 * distance (t * o) f) ⊎ (1000 * distance (t * o) f ≤ p * (t * o)) →
        p * (t * o) < 1000 * distance (t * o) f
    at (inl less) = less
    at (inr not_less) = absurd (no (distance (t * d) f) (distance (t * o) f) far not_less (near.nearest o more))
