-- What is done by one call after another.
use Rattle.std.proofs.Common.{◌≡◌, ◌+◌, ℕ, zero, suc, Bool, true, false, List, [], ◌∷◌, ◌++◌, refl, sym, ◌∙◌, ap, subst, MatchBool}
use Rattle.std.proofs.Common.{append-nil, append_assoc, add-one}
use Rattle.uart_spec.specs.Access.{Path}
use Rattle.uart_spec.specs.declared.access.Access.{Access}
use Rattle.uart_design_ware.specs.declared.state.DesignWare.{DesignWare}
use Rattle.uart_design_ware.specs.Held.{Held, held}
use Rattle.uart_design_ware.specs.Serving.{last_of}
use Rattle.uart_design_ware.specs.Doing.{Doing, Did, Sets, Nothing, Makes, Next, AnyOf, Where, If, InOrder, Times}

pub path_then : {S : Type 0} (step : S → Access → S → Type 0) (a b c : S) (xs ys : List Access) → Path step a xs b → Path step b ys c →
    Path step a (xs ++ ys) c
path_then {S} step a b c [] ys p q = let P : S → Type 0 = (λ s. Path step s ys c) in subst P p q
path_then step a b c (x ∷ xs) ys p q = (p.0, p.1, path_then step p.0 b c xs ys p.2 q)

-- one call and then another
pub did_then : {R : Type 0} {step : R → Access → R → Type 0} {G H : Doing} {a b c : DesignWare R} → Did step G a b → Did step H b c →
    Did step (Next G H) a c
did_then {step} {a} {b} {c} p q = record {
  list = p.list ++ q.list;
  path = path_then step a.registers b.registers c.registers p.list q.list p.path q.path;
  does = record { front = p.list; back = q.list; mid = held b; whole = refl; first = p.does; second = q.does };
}

-- what is done is among more
pub did_among : {R : Type 0} {step : R → Access → R → Type 0} {G H : Doing} {a b : DesignWare R} →
    ((l : List Access) → G (held a) l (held b) → H (held a) l (held b)) → Did step G a b → Did step H a b
did_among h p = record { list = p.list; path = p.path; does = h p.list p.does }

-- no access, and a change
pub did_set : {R : Type 0} (step : R → Access → R → Type 0) (change : Held → Held) (a b : DesignWare R) → b.registers ≡ a.registers →
    held b ≡ change (held a) → Did step (Sets change) a b
did_set step change a b same set = record { list = []; path = same; does = (refl, set) }

-- no access, and no change
pub did_nothing : {R : Type 0} {step : R → Access → R → Type 0} {a : DesignWare R} → Did step Nothing a a
did_nothing = record { list = []; path = refl; does = (refl, refl) }

pub did_any : {A R : Type 0} {step : R → Access → R → Type 0} {G : A → Doing} {a b : DesignWare R} (x : A) → Did step (G x) a b →
    Did step (AnyOf G) a b
did_any x p = record { list = p.list; path = p.path; does = (x, p.does) }

pub did_where : {P R : Type 0} {step : R → Access → R → Type 0} {G : Doing} {a b : DesignWare R} → P → Did step G a b →
    Did step (Where P G) a b
did_where holds p = record { list = p.list; path = p.path; does = (holds, p.does) }

-- the first of two, where the test of what is held is so
pub did_if : {R : Type 0} {step : R → Access → R → Type 0} (test : Held → Bool) (G H : Doing) {a b : DesignWare R} →
    test (held a) ≡ true → Did step G a b → Did step (If test G H) a b
did_if test G H {a} {b} is p =
    let M : Bool → Type 0 = λ v. MatchBool v (G (held a) p.list (held b)) (H (held a) p.list (held b)) in
    record { list = p.list; path = p.path; does = subst M (sym is) p.does }

-- the second
pub did_else : {R : Type 0} {step : R → Access → R → Type 0} (test : Held → Bool) (G H : Doing) {a b : DesignWare R} →
    test (held a) ≡ false → Did step H a b → Did step (If test G H) a b
did_else test G H {a} {b} is p =
    let M : Bool → Type 0 = λ v. MatchBool v (G (held a) p.list (held b)) (H (held a) p.list (held b)) in
    record { list = p.list; path = p.path; does = subst M (sym is) p.does }

-- items after items
pub in_order_append : {A : Type 0} (G : A → Doing) (items more : List A) (h mid after : Held) (l m : List Access) →
    InOrder G items h l mid → InOrder G more mid m after → InOrder G (items ++ more) h (l ++ m) after
in_order_append G [] more h mid after l m p q =
    let none : l ≡ [] = p.0 in
    let P : Held → Type 0 = (λ x. InOrder G more x m after) in
    rw none (subst P p.1 q)
in_order_append G (i ∷ items) more h mid after l m p q = record {
  front = p.front;
  back = p.back ++ m;
  mid = p.mid;
  whole = rw p.whole (append_assoc p.front p.back m);
  first = p.first;
  second = in_order_append G items more p.mid mid after p.back m p.second q;
}

-- one more item at the end
pub in_order_more : {A : Type 0} (G : A → Doing) (items : List A) (item : A) (h mid after : Held) (l m : List Access) →
    InOrder G items h l mid → G item mid m after → InOrder G (items ++ item ∷ []) h (l ++ m) after
in_order_more G items item h mid after l m p q =
    in_order_append G items (item ∷ []) h mid after l m p
    (record { front = m; back = []; mid = after; whole = sym (append-nil m); first = q; second = (refl, refl) })

pub did_more : {A R : Type 0} {step : R → Access → R → Type 0} (G : A → Doing) (items : List A) (item : A) {a b c : DesignWare R} →
    Did step (InOrder G items) a b → Did step (G item) b c → Did step (InOrder G (items ++ item ∷ [])) a c
did_more G items item {a} {c} p q =
    did_among (λ l t. rw t.whole (in_order_more G items item (held a) t.mid (held c) t.front t.back t.first t.second)) (did_then p q)

-- one time more
pub times_more : (n : ℕ) (G : Doing) (h mid after : Held) (l m : List Access) → Times n G h l mid → G mid m after →
    Times (n + 1) G h (l ++ m) after
times_more zero G h mid after l m p q =
    let none : l ≡ [] = p.0 in
    let P : Held → Type 0 = (λ x. G x m after) in
    rw none (record { front = m; back = []; mid = after; whole = sym (append-nil m); first = subst P p.1 q; second = (refl, refl) })
times_more (suc n) G h mid after l m p q =
    let rest = times_more n G p.mid mid after p.back m p.second q in
    rw (add-one (suc n)) (record {
      front = p.front;
      back = p.back ++ m;
      mid = p.mid;
      whole = rw p.whole (append_assoc p.front p.back m);
      first = p.first;
      second = rw (add-one n) at rest;
    })

pub did_times : {R : Type 0} {step : R → Access → R → Type 0} (n : ℕ) (G : Doing) {a b c : DesignWare R} → Did step (Times n G) a b →
    Did step G b c → Did step (Times (n + 1) G) a c
did_times n G {a} {c} p q =
    did_among (λ l t. rw t.whole (times_more n G (held a) t.mid (held c) t.front t.back t.first t.second)) (did_then p q)

-- two accesses
pub did_two : {R : Type 0} {step : R → Access → R → Type 0} (x y : Access) {a b c : DesignWare R} → Did step (Makes (x ∷ [])) a b →
    Did step (Makes (y ∷ [])) b c → Did step (Makes (x ∷ y ∷ [])) a c
did_two {step} x y {a} {b} {c} p q = record {
  list = p.list ++ q.list;
  path = path_then step a.registers b.registers c.registers p.list q.list p.path q.path;
  does = (
    ap (λ (l : List Access). l ++ q.list) p.does.0 ∙ ap (λ (l : List Access). x ∷ l) q.does.0,
    q.does.1 ∙ p.does.1,
  );
}

-- the last of a list that got one more
pub last_more : (shown : ℕ) (xs : List ℕ) (x : ℕ) → last_of shown (xs ++ x ∷ []) ≡ x
last_more shown [] x = refl
last_more shown (y ∷ ys) x = last_more y ys x
