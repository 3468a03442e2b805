-- What the reader has read of a trace, and what is left to it.
use Rattle.std.proofs.Common.{◌≡◌, ℕ, ◌+◌, Bool, true, false, List, [], ◌∷◌, ◌++◌, Option, Some, None, Ok, Err, refl, sym, subst, ap, ◌∙◌}
use Rattle.std.proofs.Common.{append_assoc, append-nil, arith, eqb, length}
use Rattle.std.proofs.lemmas.Bool.{eqb-true}
use Rattle.uart_spec.specs.declared.access.Access.{Access}
use Rattle.uart_call.specs.declared.call.Call.{Call}
use Rattle.uart_language.specs.Sayings.{plain}
use Rattle.uart_language.specs.Text.{lines_of}
use Rattle.uart_judges.specs.TraceLines.{Saying, Nothing, Fresh, Calls, Makes, Returns, says}
use Rattle.uart_judges.specs.Reading.{Goes, AreExchanges, Faulty, fault_at, fault_at_end, first_fault, open_after, or_else, ReadsExchange}
use Rattle.uart_judges.specs.Reading.{ReadsLine, Refuses, RefusesLine, skip, makes, returns, ended, blank, renews, calls}
use Rattle.uart_judges.specs.declared.traces.cause.TraceFault.TheVariants.{NoAnswer, NoCallBefore}
use Rattle.uart_judges.specs.declared.traces.cause.TraceError.{TraceError}
use Rattle.uart_judges.specs.declared.traces.exchange.Exchange.{Exchange}

-- ---- the first fault

-- the first fault of lines of which the first is read
first_by : (n : ℕ) (waiting : Option ℕ) (line : List ℕ) (left : List (List ℕ)) (said : Saying) → says line ≡ Ok said →
    first_fault n waiting (line ∷ left) ≡
    or_else (fault_at (n + 1) (Ok said) waiting) (first_fault (n + 1) (open_after (n + 1) said waiting) left)
unfolding first_fault
first_by n waiting line left said is = rw is refl

pub after_line : (n : ℕ) (waiting : Option ℕ) (lines : List (List ℕ)) (said : Saying) (left : List (List ℕ)) →
    ReadsLine lines said left → first_fault n waiting lines ≡
    or_else (fault_at (n + 1) (Ok said) waiting) (first_fault (n + 1) (open_after (n + 1) said waiting) left)
after_line n waiting lines said left r =
    ap (λ (l : List (List ℕ)). first_fault n waiting l) r.first ∙ first_by n waiting r.line left said r.means

bad_by : (n : ℕ) (waiting : Option ℕ) (line : List ℕ) (left : List (List ℕ)) (fault : _) → says line ≡ Err fault →
    first_fault n waiting (line ∷ left) ≡ Some (record { line = n + 1; fault = fault })
unfolding first_fault
bad_by n waiting line left fault is = rw is refl

pub bad_line : (n : ℕ) (waiting : Option ℕ) (lines : List (List ℕ)) (e : TraceError) → RefusesLine (n + 1) lines e →
    Refuses (first_fault n waiting lines) e
bad_line n waiting lines e r =
    let found : first_fault n waiting lines ≡ Some (record { line = n + 1; fault = r.fault }) =
    ap (λ (l : List (List ℕ)). first_fault n waiting l) r.first ∙ bad_by n waiting r.line r.left r.fault r.means in
    subst (λ (x : TraceError). Refuses (first_fault n waiting lines) x) (sym r.told) found

pub same_fault : (found other : Option Faulty) (e : TraceError) → found ≡ other → Refuses other e → Refuses found e
same_fault found other e same r = subst (λ (x : Option Faulty). Refuses x e) (sym same) r

-- ---- what follows a call

pub record BodySoFar (call : ℕ) (all : List (List ℕ)) (entries : List Access) (numbers : List ℕ) (n : ℕ)
    (lines : List (List ℕ)) : Type 0 where
  pub goes : (es : List Access) (ns answer : List ℕ) (last : ℕ) (left : List (List ℕ)) → Goes n lines es ns answer last left →
      Goes call all (entries ++ es) (numbers ++ ns) answer last left
  pub fault : first_fault call (Some call) all ≡ first_fault n (Some call) lines

pub body_begins : (call : ℕ) (all : List (List ℕ)) → BodySoFar call all [] [] call all
body_begins call all = record { goes = λ es ns answer last left g. g; fault = refl }

pub body_blank : {call : ℕ} {all : List (List ℕ)} {entries : List Access} {numbers : List ℕ} {n : ℕ} {lines left : List (List ℕ)} →
    BodySoFar call all entries numbers n lines → ReadsLine lines Nothing left → BodySoFar call all entries numbers (n + 1) left
body_blank {call} {all} {entries} {numbers} {n} {lines} {left} s r = record {
  goes = λ es ns answer last after g.
      let G : List (List ℕ) → Type 0 = λ l. Goes n l es ns answer last after in
      s.goes es ns answer last after (subst G (sym r.first) (skip r.means g));
  fault = s.fault ∙ after_line n (Some call) lines Nothing left r;
}

pub body_access : {call : ℕ} {all : List (List ℕ)} {entries : List Access} {numbers : List ℕ} {n : ℕ} {lines left : List (List ℕ)} →
    (access : Access) → BodySoFar call all entries numbers n lines → ReadsLine lines (Makes access) left →
    BodySoFar call all (entries ++ access ∷ []) (numbers ++ (n + 1) ∷ []) (n + 1) left
body_access {call} {all} {entries} {numbers} {n} {lines} {left} access s r = record {
  goes = λ es ns answer last after g.
      let G : List (List ℕ) → Type 0 = λ l. Goes n l (access ∷ es) ((n + 1) ∷ ns) answer last after in
      let E : List Access → Type 0 = λ l. Goes call all l ((numbers ++ (n + 1) ∷ []) ++ ns) answer last after in
      let N : List ℕ → Type 0 = λ l. Goes call all (entries ++ access ∷ es) l answer last after in
      subst E (sym (append_assoc entries (access ∷ []) es))
      (subst N (sym (append_assoc numbers ((n + 1) ∷ []) ns))
      (s.goes (access ∷ es) ((n + 1) ∷ ns) answer last after (subst G (sym r.first) (makes r.means g))));
  fault = s.fault ∙ after_line n (Some call) lines (Makes access) left r;
}

pub body_ends : {call : ℕ} {all : List (List ℕ)} {entries : List Access} {numbers : List ℕ} {n : ℕ} {lines left : List (List ℕ)} →
    (answer : List ℕ) → BodySoFar call all entries numbers n lines → ReadsLine lines (Returns answer) left →
    Goes call all entries numbers answer (n + 1) left
body_ends {call} {all} {entries} {numbers} {n} {lines} {left} answer s r =
    let G : List (List ℕ) → Type 0 = λ l. Goes n l [] [] answer (n + 1) left in
    let E : List Access → Type 0 = λ l. Goes call all l numbers answer (n + 1) left in
    let N : List ℕ → Type 0 = λ l. Goes call all (entries ++ []) l answer (n + 1) left in
    subst E (append-nil entries) (subst N (append-nil numbers)
    (s.goes [] [] answer (n + 1) left (subst G (sym r.first) (returns r.means))))

pub body_ends_fault : {call : ℕ} {all : List (List ℕ)} {entries : List Access} {numbers : List ℕ} {n : ℕ} {lines left : List (List ℕ)} →
    (answer : List ℕ) → BodySoFar call all entries numbers n lines → ReadsLine lines (Returns answer) left →
    first_fault call (Some call) all ≡ first_fault (n + 1) None left
body_ends_fault {call} {n = n} {lines = lines} {left = left} answer s r = s.fault ∙ after_line n (Some call) lines (Returns answer) left r

-- a call or a new driver before the answer
pub body_broken : {call : ℕ} {all : List (List ℕ)} {entries : List Access} {numbers : List ℕ} {n : ℕ} {lines left : List (List ℕ)} →
    (said : Saying) → BodySoFar call all entries numbers n lines → ReadsLine lines said left →
    fault_at (n + 1) (Ok said) (Some call) ≡ Some (record { line = call; fault = NoAnswer }) →
    first_fault call (Some call) all ≡ Some (record { line = call; fault = NoAnswer })
body_broken {call} {n = n} {lines = lines} {left = left} said s r is =
    s.fault ∙ after_line n (Some call) lines said left r ∙
    ap (λ (f : Option Faulty). or_else f (first_fault (n + 1) (open_after (n + 1) said (Some call)) left)) is

no_lines : (n : ℕ) (waiting : Option ℕ) (lines : List (List ℕ)) → lines ≡ [] → first_fault n waiting lines ≡ fault_at_end waiting
unfolding first_fault
no_lines n waiting lines is = rw is refl

pub body_cut : {call : ℕ} {all : List (List ℕ)} {entries : List Access} {numbers : List ℕ} {n : ℕ} {lines : List (List ℕ)} →
    BodySoFar call all entries numbers n lines → lines ≡ [] →
    first_fault call (Some call) all ≡ Some (record { line = call; fault = NoAnswer })
body_cut {call} {n = n} {lines = lines} s is = s.fault ∙ no_lines n (Some call) lines is

-- ---- the calls

pub record CallsSoFar (all : List (List ℕ)) (xs : List Exchange) (n : ℕ) (first : Bool) (lines : List (List ℕ)) : Type 0 where
  pub goes : (ys : List Exchange) → AreExchanges n first lines ys → AreExchanges 0 true all (xs ++ ys)
  pub fault : first_fault 0 None all ≡ first_fault n None lines

pub calls_begin : (all : List (List ℕ)) → CallsSoFar all [] 0 true all
calls_begin all = record { goes = λ ys a. a; fault = refl }

-- a line that makes no exchange
calls_pass : {all : List (List ℕ)} {xs : List Exchange} {n : ℕ} {first after : Bool} {lines left : List (List ℕ)} {said : Saying} →
    CallsSoFar all xs n first lines → (r : ReadsLine lines said left) →
    ((ys : List Exchange) → AreExchanges (n + 1) after left ys → AreExchanges n first (r.line ∷ left) ys) →
    first_fault n None lines ≡ first_fault (n + 1) None left → CallsSoFar all xs (n + 1) after left
calls_pass {n = n} {first = first} s r goes fault = record {
  goes = λ ys a. s.goes ys (subst (λ (l : List (List ℕ)). AreExchanges n first l ys) (sym r.first) (goes ys a));
  fault = s.fault ∙ fault;
}

pub calls_blank : {all : List (List ℕ)} {xs : List Exchange} {n : ℕ} {first : Bool} {lines left : List (List ℕ)} →
    CallsSoFar all xs n first lines → ReadsLine lines Nothing left → CallsSoFar all xs (n + 1) first left
calls_blank {n = n} {lines = lines} {left = left} s r =
    calls_pass s r (λ ys a. blank r.means a) (after_line n None lines Nothing left r)

pub calls_fresh : {all : List (List ℕ)} {xs : List Exchange} {n : ℕ} {first : Bool} {lines left : List (List ℕ)} →
    CallsSoFar all xs n first lines → ReadsLine lines Fresh left → CallsSoFar all xs (n + 1) true left
calls_fresh {n = n} {lines = lines} {left = left} s r =
    calls_pass s r (λ ys a. renews r.means a) (after_line n None lines Fresh left r)

pub calls_call : {all : List (List ℕ)} {xs : List Exchange} {n : ℕ} {first : Bool} {lines after left : List (List ℕ)} →
    (call : Call) (x : Exchange) → CallsSoFar all xs n first lines → ReadsLine lines (Calls (plain call)) after →
    ReadsExchange first call (n + 1) after x left → CallsSoFar all (xs ++ x ∷ []) x.answer_line false left
calls_call {all} {xs} {n} {first} {lines} {after} {left} call x s r made = record {
  goes = λ ys a.
      let L : List (List ℕ) → Type 0 = λ l. AreExchanges n first l (x ∷ ys) in
      let F : Bool → Type 0 = λ b. AreExchanges n b (r.line ∷ after) (x ∷ ys) in
      let C : Call → Type 0 = λ c. says r.line ≡ Ok (Calls (plain c)) in
      let X : List Exchange → Type 0 = λ l. AreExchanges 0 true all l in
      let here : AreExchanges n x.is_first (r.line ∷ after) (x ∷ ys) = calls (subst C (sym made.called) r.means) made.goes a in
      subst X (sym (append_assoc xs (x ∷ []) ys)) (s.goes (x ∷ ys) (subst L (sym r.first) (subst F made.first here)));
  fault = s.fault ∙ after_line n None lines (Calls (plain call)) after r ∙ made.faultless;
}

-- a fault in what follows a call is one of the whole
pub calls_body : {all : List (List ℕ)} {xs : List Exchange} {n : ℕ} {first : Bool} {lines after : List (List ℕ)} → (call : Call) →
    CallsSoFar all xs n first lines → ReadsLine lines (Calls (plain call)) after →
    first_fault 0 None all ≡ first_fault (n + 1) (Some (n + 1)) after
calls_body {n = n} {lines = lines} {after = after} call s r = s.fault ∙ after_line n None lines (Calls (plain call)) after r

-- an access or an answer without a call
pub calls_broken : {all : List (List ℕ)} {xs : List Exchange} {n : ℕ} {first : Bool} {lines left : List (List ℕ)} → (said : Saying) →
    CallsSoFar all xs n first lines → ReadsLine lines said left →
    fault_at (n + 1) (Ok said) None ≡ Some (record { line = n + 1; fault = NoCallBefore }) →
    first_fault 0 None all ≡ Some (record { line = n + 1; fault = NoCallBefore })
calls_broken {n = n} {lines = lines} {left = left} said s r is =
    s.fault ∙ after_line n None lines said left r ∙
    ap (λ (f : Option Faulty). or_else f (first_fault (n + 1) (open_after (n + 1) said None) left)) is

pub calls_end : {all : List (List ℕ)} {xs : List Exchange} {n : ℕ} {first : Bool} {lines : List (List ℕ)} →
    CallsSoFar all xs n first lines → lines ≡ [] → AreExchanges 0 true all xs × (first_fault 0 None all ≡ None)
calls_end {all} {xs} {n} {first} {lines} s is =
    let A : List (List ℕ) → Type 0 = λ l. AreExchanges n first l [] in
    let X : List Exchange → Type 0 = λ l. AreExchanges 0 true all l in (
      subst X (append-nil xs) (s.goes [] (subst A (sym is) ended)),
      s.fault ∙ no_lines n None lines is,
    )

pub empty_lines : (bytes : List ℕ) → true ≡ eqb (length bytes) 0 → lines_of bytes ≡ []
unfolding lines_of
empty_lines [] e = refl
empty_lines (b ∷ bytes) e = absurd (omega (arith, eqb-true _ _ (sym e)))

-- ---- a trace has no fault

read_as : (line : List ℕ) (lines : List (List ℕ)) (said : Saying) → says line ≡ Ok said → ReadsLine (line ∷ lines) said lines
read_as line lines said is = record { line = line; first = refl; means = is }

body_faultless : (call n : ℕ) (lines : List (List ℕ)) (es : List Access) (ns answer : List ℕ) (last : ℕ) (left : List (List ℕ)) →
    Goes n lines es ns answer last left → first_fault n (Some call) lines ≡ first_fault last None left
body_faultless call n [] es ns answer last left g = elim g [ ]
body_faultless call n (line ∷ lines) es ns answer last left (skip is g) =
    after_line n (Some call) (line ∷ lines) Nothing lines (read_as line lines Nothing is) ∙
    body_faultless call (n + 1) lines es ns answer last left g
body_faultless call n (line ∷ lines) (e ∷ es) (k ∷ ns) answer last left (makes is g) =
    after_line n (Some call) (line ∷ lines) (Makes e) lines (read_as line lines (Makes e) is) ∙
    body_faultless call (n + 1) lines es ns answer last left g
body_faultless call n (line ∷ rest) [] [] answer last left (returns is) =
    after_line n (Some call) (line ∷ rest) (Returns answer) rest (read_as line rest (Returns answer) is)

pub faultless : (n : ℕ) (first : Bool) (lines : List (List ℕ)) (xs : List Exchange) → AreExchanges n first lines xs →
    first_fault n None lines ≡ None
faultless n first [] [] ended = no_lines n None [] refl
faultless n first [] (x ∷ xs) a = elim a [ ]
faultless n first (line ∷ lines) xs (blank is a) =
    after_line n None (line ∷ lines) Nothing lines (read_as line lines Nothing is) ∙ faultless (n + 1) first lines xs a
faultless n first (line ∷ lines) xs (renews is a) =
    after_line n None (line ∷ lines) Fresh lines (read_as line lines Fresh is) ∙ faultless (n + 1) true lines xs a
faultless n first (line ∷ lines) (x ∷ xs) (calls {left = left} is g a) =
    after_line n None (line ∷ lines) (Calls (plain x.call)) lines (read_as line lines (Calls (plain x.call)) is) ∙
    body_faultless (n + 1) (n + 1) lines _ _ _ x.answer_line left g ∙ faultless x.answer_line false left xs a
