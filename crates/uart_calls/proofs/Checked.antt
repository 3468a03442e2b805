-- What a call over a tape says of the call's lists.
use Rattle.std.proofs.Common.{◌≡◌, ◌⊎◌, ℕ, List, [], ◌∷◌, ◌++◌, Some, None, inl, inr, refl, subst, ap, sym, ◌∙◌}
use Rattle.std.proofs.Common.{◌<◌, ◌≤◌, ◌-◌, length, map, arith, append-nil}
use Rattle.std.proofs.lemmas.List.{length-append, map-id}
use Rattle.uart_spec.specs.declared.access.Access.{Access}
use Rattle.uart_16550.specs.Choice.{PartAtRead}
use Rattle.uart_16550.specs.Driver.{Did, Fields, fields}
use Rattle.uart_16550.specs.State.{fields_of}
use Rattle.uart_16550.specs.declared.driver.Uart16550.{Uart16550}
use Rattle.uart_call.specs.declared.call.Call.{Call}
use Rattle.uart_call.specs.declared.call.Answer.{Answer}
use Rattle.uart_call.specs.Calls.{IsRunnable}
use Rattle.uart_calls.specs.Meaning.{Meaning, means, meaning, Called, outcome_of, doing_of}
use Rattle.uart_calls.proofs.NoChoice.{meaning_leaves_no_choice}
use Rattle.uart_calls.specs.Tape.{Tape, Plays}
use Rattle.uart_calls.specs.Lists.{IsListOf, Begins, BeginsAndAsks, IsTurn, IsFollowed, answer_of}
use Rattle.uart_calls.specs.declared.checking.Followed.{Followed}
use Rattle.uart_calls.specs.declared.checking.Returned.{Returned}
use Rattle.uart_calls.specs.declared.checking.Turn.{Turn}
use Rattle.uart_calls.specs.declared.checking.Turn.TheVariants.{Asks, Returns}
use Rattle.uart_calls.specs.declared.tape.Request.{Request}
use Rattle.uart_calls.proofs.Played.{IsSameOrParts, kept_whole, kept_up_to, plays_front, never_longer}

-- a call that was made, with its outcome taken out of the row
pub record CalledBy {B : Type 0} (step : B → Access → B → Type 0) (m : Meaning) (answer : Answer) (d e : Uart16550 B) : Type 0 where
  pub outcome : outcome_of m
  pub answered : answer ≡ answer_of m outcome
  pub did : Did step (doing_of m outcome) d e

pub called_by : {B : Type 0} {step : B → Access → B → Type 0} (m : Meaning) {answer : Answer} {d e : Uart16550 B} →
    Called step m answer d e →
    CalledBy step m answer d e
called_by (means doing answer_of) c = record { outcome = c.outcome; answered = c.answered; did = c.did }

-- two lists of one call, from the same fields
alike : (call : Call) → IsRunnable call → (f after other_after : Fields) (l m : List Access) (a b : outcome_of (meaning call)) →
    doing_of (meaning call) a f l after → doing_of (meaning call) b f m other_after → IsSameOrParts l m
alike call ok f after other_after l m a b p q = short (meaning_leaves_no_choice call ok f a b l m after other_after p q)
  where
    short : ((a ≡ b) × (l ≡ m) × (after ≡ other_after)) ⊎ PartAtRead l m → IsSameOrParts l m
    short (inl (outcome, list, left)) = inl list
    short (inr part) = inr part

-- the accesses that were made are the farthest that the call goes on in the list
farthest : (call : Call) → IsRunnable call → (answer : Answer) (d e : Uart16550 Tape) → CalledBy Plays (meaning call) answer d e →
    d.backend.asked ≡ None → (front : List Access) → d.backend.left ≡ front ++ e.backend.left →
    (longer rest : List Access) → d.backend.left ≡ longer ++ rest → length front < length longer → Begins call (fields d) longer → ⊥
farthest call ok answer d e c none front whole longer rest split more (back, goes) =
    let both =
    alike call ok (fields d) (fields e) goes.after c.did.list (longer ++ back) c.outcome goes.makes.outcome c.did.does goes.makes.does in
    let played = plays_front d.backend e.backend c.did.list longer rest back c.did.path none split both in
    let one : length d.backend.left ≡ length (front ++ e.backend.left) = ap (λ (l : List Access). length l) whole in
    let other : length d.backend.left ≡ length (longer ++ rest) = ap (λ (l : List Access). length l) split in
    omega (arith, played, more, one, other, length-append front e.backend.left, length-append longer rest)

kept_count : (d e : Uart16550 Tape) (front : List Access) → d.backend.left ≡ front ++ e.backend.left → (left : ℕ) →
    left ≡ length e.backend.left → length d.backend.left - left ≡ length front
kept_count d e front whole left is =
    let one : length d.backend.left ≡ length (front ++ e.backend.left) = ap (λ (l : List Access). length l) whole in
    omega (arith, one, is, length-append front e.backend.left)

-- a call whose accesses were all the list's
pub followed_to_return : (call : Call) → IsRunnable call → (d e : Uart16550 Tape) (returned : Returned) →
    Called Plays (meaning call) returned.answer d e → d.backend.asked ≡ None → fields_of returned.state ≡ fields e →
    e.backend.asked ≡ None →
    (left : ℕ) → left ≡ length e.backend.left →
    IsFollowed call (fields d) d.backend.left (record { kept = length d.backend.left - left; turn = Returns returned })
followed_to_return call ok d e returned called none state kept left is =
    let c = called_by (meaning call) called in
    let whole = kept_whole d.backend e.backend c.did.list c.did.path kept in
    let A : Fields → Type 0 = λ f. doing_of (meaning call) c.outcome (fields d) c.did.list f in
    record {
      front = c.did.list;
      back = e.backend.left;
      whole = whole;
      kept = kept_count d e c.did.list whole left is;
      turn = record { outcome = c.outcome; does = subst A (sym state) c.did.does; answered = c.answered };
      farthest = farthest call ok returned.answer d e c none c.did.list whole;
    }

-- a call that made another access
pub followed_to_request : (call : Call) → IsRunnable call → (d e : Uart16550 Tape) (answer : Answer) (request : Request) →
    Called Plays (meaning call) answer d e → d.backend.asked ≡ None → e.backend.asked ≡ Some request →
    (left : ℕ) → left ≡ length e.backend.left →
    IsFollowed call (fields d) d.backend.left (record { kept = length d.backend.left - left; turn = Asks request })
followed_to_request call ok d e answer request called none asked left is =
    let c = called_by (meaning call) called in
    let k = kept_up_to d.backend e.backend c.did.list request c.did.path none asked in
    let L : List Access → Type 0 = λ l. doing_of (meaning call) c.outcome (fields d) l (fields e) in
    record {
      front = k.front;
      back = e.backend.left;
      whole = k.kept;
      kept = kept_count d e k.front k.kept left is;
      turn = (
        k.access,
        k.rest,
        k.asks,
        record {
          answer = answer;
          after = fields e;
          makes = record { outcome = c.outcome; does = subst L k.whole c.did.does; answered = c.answered };
        },
      );
      farthest = farthest call ok answer d e c none k.front k.kept;
    }

-- the same of equal fields, lists, lengths and turns
pub followed_so : (call : Call) (left : ℕ) {f g : Fields} {l m : List Access} {n k : ℕ} {turn other : Turn} → f ≡ g →
    l ≡ m → n ≡ k → turn ≡ other →
    IsFollowed call f l (record { kept = n - left; turn = turn }) → IsFollowed call g m (record { kept = k - left; turn = other })
followed_so call left {f} {g} {l} {m} {n} {k} {turn} {other} p q r s h =
    let F : Fields → Type 0 = λ x. IsFollowed call x l (record { kept = n - left; turn = turn }) in
    let L : List Access → Type 0 = λ x. IsFollowed call g x (record { kept = n - left; turn = turn }) in
    let N : ℕ → Type 0 = λ x. IsFollowed call g m (record { kept = x - left; turn = turn }) in
    let T : Turn → Type 0 = λ x. IsFollowed call g m (record { kept = k - left; turn = x }) in
    subst T s (subst N r (subst L q (subst F p h)))

-- ---- of a list that was followed

no_more : (front back : List Access) → length (front ++ back) ≤ length front → back ≡ []
no_more front [] e = refl
no_more front (x ∷ xs) e =
    let all = length-append front (x ∷ xs) in
    let more : 0 < length (x ∷ xs) = omega arith in
    absurd (omega (arith, e, all, more))

-- to its end
pub all_kept : {call : Call} {f : Fields} {list : List Access} {followed : Followed} {turn : Turn} → IsFollowed call f list followed →
    length list ≤ followed.kept → followed.turn ≡ turn → IsTurn call f list turn
all_kept {call} {f} {list} {followed} {turn} r all is =
    let same : length list ≡ length (r.front ++ r.back) = ap (λ (l : List Access). length l) r.whole in
    let none = no_more r.front r.back (omega (arith, same, all, r.kept)) in
    let whole : list ≡ r.front = r.whole ∙ ap (λ (back : List Access). r.front ++ back) none ∙ append-nil r.front in
    let L : List Access → Type 0 = λ l. IsTurn call f l followed.turn in
    let T : Turn → Type 0 = λ t. IsTurn call f list t in
    subst T is (subst L (sym whole) r.turn)

-- not to its end
pub strayed : {call : Call} {f : Fields} {list : List Access} {followed : Followed} → IsFollowed call f list followed →
    followed.kept < length list → Begins call f list → ⊥
strayed {list = list} r less begins = r.farthest list [] (sym (append-nil list)) (omega (arith, less, r.kept)) begins

-- a list of a call begins with itself
pub begins_whole : (call : Call) (f after : Fields) (list : List Access) (answer : Answer) → IsListOf call f list answer after →
    Begins call f list
begins_whole call f after list answer p =
    let L : List Access → Type 0 = λ l. doing_of (meaning call) p.outcome f l after in (
      [],
      record {
        answer = answer;
        after = after;
        makes = record { outcome = p.outcome; does = subst L (sym (append-nil list)) p.does; answered = p.answered };
      },
    )

-- and no list of it goes on
pub never_on : (call : Call) → IsRunnable call → (f after : Fields) (list : List Access) (answer : Answer) (request : Request) →
    IsListOf call f list answer after → BeginsAndAsks call f list request → ⊥
never_on call ok f after list answer request p (access, back, asks, goes) =
    never_longer list access back
    (alike call ok f after goes.after list (list ++ access ∷ back) p.outcome goes.makes.outcome p.does goes.makes.does)

-- a list of accesses is the list that it holds
pub same_accesses : (l : List Access) → map (λ (access : Access). access) l ≡ l
same_accesses l = map-id l
