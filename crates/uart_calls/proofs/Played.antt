-- What a path over a tape says of its list.
use Rattle.std.proofs.Common.{◌≡◌, ◌⊎◌, ℕ, suc, ◌≤◌, List, [], ◌∷◌, ◌++◌, Some, None, inl, inr, refl, subst, ap, sym, ◌∙◌, length, arith}
use Rattle.uart_spec.specs.Access.{Path}
use Rattle.uart_spec.specs.declared.access.Access.{Access}
use Rattle.uart_spec.specs.declared.access.Access.TheVariants.{Read}
use Rattle.uart_16550.specs.Choice.{PartAtRead}
use Rattle.uart_calls.specs.Tape.{Tape, GoesOnBy, Plays, first_of, request_of}
use Rattle.uart_calls.specs.declared.tape.Request.{Request}

some_is_none : {A : Type 0} (x : A) → Some x ≡ None → ⊥
some_is_none x e = cc

-- from the first strange request on the tape stays as it is
pub stays : (a b : Tape) (l : List Access) (request : Request) → Path Plays a l b → a.asked ≡ Some request →
    (b.asked ≡ Some request) × (b.left ≡ a.left)
stays a b [] request p asked = (ap (λ (t : Tape). t.asked) p ∙ asked, ap (λ (t : Tape). t.left) p)
stays a b (x ∷ xs) request (mid, inl takes, p) asked = absurd (some_is_none request (sym asked ∙ takes.none_before))
stays a b (x ∷ xs) request (mid, inr strays, p) asked =
    let rest = stays mid b xs request p (strays.asked ∙ ap (λ o. Some (first_of o (request_of x))) asked) in
    (rest.0, rest.1 ∙ strays.stays)

-- a list that the tape went on with to its end is the tape's front
pub kept_whole : (a b : Tape) (l : List Access) → Path Plays a l b → b.asked ≡ None → a.left ≡ l ++ b.left
kept_whole a b [] p none = sym (ap (λ (t : Tape). t.left) p)
kept_whole a b (x ∷ xs) (mid, inl takes, p) none = takes.next ∙ ap (λ (ys : List Access). x ∷ ys) (kept_whole mid b xs p none)
kept_whole a b (x ∷ xs) (mid, inr strays, p) none =
    absurd (some_is_none _ (sym (stays mid b xs _ p strays.asked).0 ∙ none))

-- the front of the list that the tape went on with, and the access that came of the first strange request
pub record KeptUpTo (a b : Tape) (l : List Access) (request : Request) : Type 0 where
  pub front : List Access
  pub access : Access
  pub rest : List Access
  pub whole : l ≡ front ++ access ∷ rest
  pub asks : request_of access ≡ request
  pub kept : a.left ≡ front ++ b.left

pub kept_up_to : (a b : Tape) (l : List Access) (request : Request) → Path Plays a l b → a.asked ≡ None → b.asked ≡ Some request →
    KeptUpTo a b l request
kept_up_to a b [] request p none asked = absurd (some_is_none request (sym asked ∙ ap (λ (t : Tape). t.asked) p ∙ none))
kept_up_to a b (x ∷ xs) request (mid, inl takes, p) none asked =
    let later = kept_up_to mid b xs request p takes.none asked in
    record {
      front = x ∷ later.front;
      access = later.access;
      rest = later.rest;
      whole = ap (λ (ys : List Access). x ∷ ys) later.whole;
      asks = later.asks;
      kept = takes.next ∙ ap (λ (ys : List Access). x ∷ ys) later.kept;
    }
kept_up_to a b (x ∷ xs) request (mid, inr strays, p) none asked =
    let first : mid.asked ≡ Some (request_of x) = strays.asked ∙ ap (λ o. Some (first_of o (request_of x))) none in
    let rest = stays mid b xs (request_of x) p first in
    record {
      front = [];
      access = x;
      rest = xs;
      whole = refl;
      asks = same_some (sym rest.0 ∙ asked);
      kept = sym (rest.1 ∙ strays.stays);
    }
  where
    same_some : {A : Type 0} {x y : A} → Some x ≡ Some y → x ≡ y
    same_some e = cc

-- what is left never grows
pub shrinks : (a b : Tape) (l : List Access) → Path Plays a l b → length b.left ≤ length a.left
shrinks a b [] p = let same : length b.left ≡ length a.left = ap (λ (t : Tape). length t.left) p in omega (arith, same)
shrinks a b (x ∷ xs) (mid, inl takes, p) =
    let here : length a.left ≡ suc (length mid.left) = ap (λ (l : List Access). length l) takes.next in
    omega (arith, here, shrinks mid b xs p)
shrinks a b (x ∷ xs) (mid, inr strays, p) =
    let here : length mid.left ≡ length a.left = ap (λ (l : List Access). length l) strays.stays in
    omega (arith, here, shrinks mid b xs p)

-- two lists are one, or part at a read
abbrev pub IsSameOrParts : List Access → List Access → Type 0
IsSameOrParts l m = (l ≡ m) ⊎ PartAtRead l m

pub same_head : {x y : Access} {xs ys : List Access} → x ∷ xs ≡ y ∷ ys → x ≡ y
same_head e = cc

same_tail : {x y : Access} {xs ys : List Access} → x ∷ xs ≡ y ∷ ys → xs ≡ ys
same_tail e = cc

pub same_answer : {register a b : ℕ} → Read register a ≡ Read register b → a ≡ b
same_answer e = cc

-- then their first accesses come of one request
pub one_request : (x y : Access) (xs ys : List Access) → IsSameOrParts (x ∷ xs) (y ∷ ys) → request_of y ≡ request_of x
one_request x y xs ys (inl same) = ap request_of (sym (same_head same))
one_request x y xs ys (inr part) = by_front part.front part.is_one part.is_other
  where
    by_front : (front : List Access) → x ∷ xs ≡ front ++ Read part.register part.answer ∷ part.rest →
        y ∷ ys ≡ front ++ Read part.register part.other_answer ∷ part.other_rest → request_of y ≡ request_of x
    by_front [] p q = ap request_of (same_head q) ∙ sym (ap request_of (same_head p))
    by_front (z ∷ zs) p q = ap request_of (same_head q) ∙ sym (ap request_of (same_head p))

-- and so it is after one access
pub after_one : (x : Access) (xs ys : List Access) → IsSameOrParts (x ∷ xs) (x ∷ ys) → IsSameOrParts xs ys
after_one x xs ys (inl same) = inl (same_tail same)
after_one x xs ys (inr part) = by_front part.front part.is_one part.is_other
  where
    by_front : (front : List Access) → x ∷ xs ≡ front ++ Read part.register part.answer ∷ part.rest →
        x ∷ ys ≡ front ++ Read part.register part.other_answer ∷ part.other_rest → IsSameOrParts xs ys
    by_front [] p q = absurd (part.differs (same_answer (sym (same_head p) ∙ same_head q)))
    by_front (z ∷ zs) p q = inr (record {
      front = zs;
      register = part.register;
      answer = part.answer;
      other_answer = part.other_answer;
      rest = part.rest;
      other_rest = part.other_rest;
      is_one = same_tail p;
      is_other = same_tail q;
      differs = part.differs;
    })

no_access : {A : Type 0} {x : Access} {xs : List Access} → IsSameOrParts [] (x ∷ xs) → A
no_access (inl same) = absurd cc
no_access (inr part) = absurd (by_front part.front part.is_one)
  where
    by_front : (front : List Access) → [] ≡ front ++ Read part.register part.answer ∷ part.rest → ⊥
    by_front [] p = cc
    by_front (z ∷ zs) p = cc

-- a tape that begins with the front of such a list has that front played
pub plays_front : (a b : Tape) (l front rest more : List Access) → Path Plays a l b → a.asked ≡ None → a.left ≡ front ++ rest →
    IsSameOrParts l (front ++ more) → length b.left ≤ length rest
plays_front a b l [] rest more p none left alike =
    let same : length a.left ≡ length rest = ap (λ (xs : List Access). length xs) left in omega (arith, same, shrinks a b l p)
plays_front a b [] (y ∷ ys) rest more p none left alike = no_access alike
plays_front a b (x ∷ xs) (y ∷ ys) rest more (mid, inl takes, p) none left alike =
    let next : x ∷ mid.left ≡ y ∷ (ys ++ rest) = sym takes.next ∙ left in
    let P : Access → Type 0 = λ z. IsSameOrParts (x ∷ xs) (z ∷ (ys ++ more)) in
    plays_front mid b xs ys rest more p takes.none (same_tail next)
    (after_one x xs (ys ++ more) (subst P (sym (same_head next)) alike))
plays_front a b (x ∷ xs) (y ∷ ys) rest more (mid, inr strays, p) none left alike =
    let S : List Access → Type 0 = λ l. GoesOnBy (request_of x) l in
    absurd (strays.strange none (subst S (sym left) (one_request x y xs (ys ++ more) alike)))

-- a list and a longer one that begins with it are not such lists
pub never_longer : (l : List Access) (x : Access) (more : List Access) → IsSameOrParts l (l ++ x ∷ more) → ⊥
never_longer [] x more alike = no_access alike
never_longer (y ∷ ys) x more alike = never_longer ys x more (after_one y ys (ys ++ x ∷ more) alike)
