-- What the calls of a trace leave for the calls after them.
use Rattle.std.proofs.Common.{◌≡◌, ◌⊎◌, ℕ, Bool, true, false, List, ◌∷◌, inl, inr, subst, ap, sym, ◌∙◌}
use Rattle.std.proofs.lemmas.List.{append_cancel_left}
use Rattle.uart_spec.specs.declared.access.Access.{Access}
use Rattle.uart_spec.specs.declared.access.Access.TheVariants.{Read}
use Rattle.uart_16550.specs.Choice.{PartAtRead}
use Rattle.uart_16550.specs.Driver.{Fields}
use Rattle.uart_language.specs.Output.{answer_text}
use Rattle.uart_call.specs.declared.call.Call.{Call}
use Rattle.uart_call.specs.declared.call.Answer.{Answer}
use Rattle.uart_call.specs.Calls.{IsRunnable}
use Rattle.uart_calls.specs.Meaning.{meaning, outcome_of}
use Rattle.uart_calls.proofs.NoChoice.{meaning_leaves_no_choice}
use Rattle.uart_calls.specs.Lists.{IsFollowed, IsListOf, answer_of}
use Rattle.uart_judges.specs.Traces.{AreCalls, IsExchange, IsStray, StraysHere, fields_before}
use Rattle.uart_judges.specs.declared.traces.judging.Stray.{Stray}
use Rattle.uart_judges.specs.declared.traces.exchange.Exchange.{Exchange}
use Rattle.uart_calls.proofs.Played.{same_head, same_answer}

-- each of the two gives the other
pub record AreAlike (P Q : Type 0) : Type 0 where
  pub to : P → Q
  pub from : Q → P

pub alike_then : {P Q R : Type 0} → AreAlike P Q → AreAlike Q R → AreAlike P R
alike_then p q = record { to = λ x. q.to (p.to x); from = λ x. p.from (q.from x) }

-- a list does not part from itself
never_from_itself : (l : List Access) → PartAtRead l l → ⊥
never_from_itself l part =
    let rest =
    append_cancel_left part.front (Read part.register part.answer ∷ part.rest) (Read part.register part.other_answer ∷ part.other_rest)
    (sym part.is_one ∙ part.is_other) in
    part.differs (same_answer (same_head rest))

-- one list of a call has one answer, and leaves the same fields
pub one_return : (call : Call) → IsRunnable call → (f after other : Fields) (l : List Access) (a b : Answer) → IsListOf call f l a after →
    IsListOf call f l b other → (a ≡ b) × (after ≡ other)
one_return call ok f after other l a b p q =
    go (meaning_leaves_no_choice call ok f p.outcome q.outcome l l after other p.does q.does)
  where
    go : ((p.outcome ≡ q.outcome) × (l ≡ l) × (after ≡ other)) ⊎ PartAtRead l l → (a ≡ b) × (after ≡ other)
    go (inl (outcome, list, left)) =
        let A : outcome_of (meaning call) → Answer = λ o. answer_of (meaning call) o in (p.answered ∙ ap A outcome ∙ sym q.answered, left)
    go (inr part) = absurd (never_from_itself l part)

-- the calls from one on are as recorded if those after it are
pub one_call : (new : Fields) (f before after : Fields) (x : Exchange) (xs : List Exchange) → IsRunnable x.call →
    before ≡ fields_before new x f →
    IsExchange x before after → AreAlike (AreCalls new f (x ∷ xs)) (AreCalls new after xs)
one_call new f before after x xs ok is made =
    let E : Fields → Type 0 = λ g. IsExchange x g after in
    let here = subst E is made in
    record {
      to = λ all.
          let same = one_return x.call ok (fields_before new x f) all.0 after _ _ _ all.1.makes here.makes in
          let C : Fields → Type 0 = λ g. AreCalls new g xs in
          subst C same.1 all.2;
      from = λ rest. (after, here, rest);
    }

-- and none are if this one is not
pub no_call : (new : Fields) (f before : Fields) (x : Exchange) (xs : List Exchange) → before ≡ fields_before new x f →
    ((fields : Fields) → IsExchange x before fields → ⊥) → AreCalls new f (x ∷ xs) → ⊥
no_call new f before x xs is none all =
    let E : Fields → Type 0 = λ g. IsExchange x g all.0 in none all.0 (subst E (sym is) all.1)

-- two answers for one list are printed the same
pub not_printed : (call : Call) → IsRunnable call → (f after other : Fields) (accesses recorded : List Access) (a b : Answer)
    (text printed : List ℕ) → accesses ≡ recorded → text ≡ printed → IsListOf call f accesses a after →
    IsListOf call f recorded b other → answer_text b ≡ printed → answer_text a ≡ text
not_printed call ok f after other accesses recorded a b text printed same same_text p q is =
    let L : List Access → Type 0 = λ l. IsListOf call f l b other in
    let one = one_return call ok f after other accesses a b p (subst L (sym same) q) in
    ap answer_text one.0 ∙ is ∙ sym same_text

pub not_true : {A : Type 0} {b : Bool} → b ≡ false → b ≡ true → A
not_true p q = absurd (cc)

-- a trace that begins with this call
pub first_call : (new : Fields) (f before after : Fields) (x : Exchange) (xs all : List Exchange) → all ≡ x ∷ xs →
    before ≡ fields_before new x f → IsExchange x before after → AreAlike (AreCalls new f all) (AreCalls new after xs)
first_call new f before after x xs all whole is made =
    let A : List Exchange → Type 0 = λ l. AreAlike (AreCalls new f l) (AreCalls new after xs) in
    subst A (sym whole) (one_call new f before after x xs x.runnable is made)

pub no_first_call : (new : Fields) (f before : Fields) (x : Exchange) (xs all : List Exchange) → all ≡ x ∷ xs →
    before ≡ fields_before new x f → ((fields : Fields) → IsExchange x before fields → ⊥) → AreCalls new f all → ⊥
no_first_call new f before x xs all whole is none calls =
    let C : List Exchange → Type 0 = λ l. AreCalls new f l in
    no_call new f before x xs is none (subst C whole calls)

-- what is left of a trace decides whether all of it is as recorded, and where it strays
pub record LeavesOpen (new : Fields) (f : Fields) (all : List Exchange) (g : Fields) (left : List Exchange) : Type 0 where
  pub calls : AreAlike (AreCalls new f all) (AreCalls new g left)
  pub strays : (stray : Stray) → IsStray new g left stray → IsStray new f all stray

pub all_left : (new : Fields) (f : Fields) (all : List Exchange) → LeavesOpen new f all f all
all_left new f all = record { calls = record { to = λ x. x; from = λ x. x }; strays = λ stray p. p }

pub one_less : (new : Fields) (f g before after : Fields) (x : Exchange) (xs left all : List Exchange) → LeavesOpen new f all g left →
    left ≡ x ∷ xs → before ≡ fields_before new x g → IsExchange x before after → LeavesOpen new f all after xs
one_less new f g before after x xs left all so_far whole is made =
    let E : Fields → Type 0 = λ b. IsExchange x b after in
    record {
      calls = alike_then so_far.calls (first_call new g before after x xs left whole is made);
      strays = λ stray p.
          let S : List Exchange → Type 0 = λ l. IsStray new g l stray in
          so_far.strays stray (subst S (sym whole) (inr (after, subst E is made, p)));
    }

pub stray_here : (new : Fields) (f g before : Fields) (x : Exchange) (xs left all : List Exchange) (stray : Stray) →
    LeavesOpen new f all g left → left ≡ x ∷ xs → before ≡ fields_before new x g → stray.exchange.now ≡ x →
    ((fields : Fields) → IsExchange x before fields → ⊥) →
    IsFollowed x.call before x.accesses.items (record { kept = stray.kept; turn = stray.turn }) →
    IsStray new f all stray
stray_here new f g before x xs left all stray so_far whole is same none first =
    let H : Fields → Type 0 = λ b. StraysHere b x stray in
    let S : List Exchange → Type 0 = λ l. IsStray new g l stray in
    let here : StraysHere before x stray = record { call = same; none = none; first = first } in
    so_far.strays stray (subst S (sym whole) (inl (subst H is here)))
