-- Calls in turn, each with its answer: over states, calls and answers of any type, and whatever one call does.
use Rattle.std.specs.Prelude.{◌≡◌, ◌≢◌, List, [], ◌∷◌, map}
use Rattle.std.specs.List.{AllByRecursion}

-- a call of a run, with its answer, between the states before and after it
pub record LinkOf (State Call Answer : Type 0) : Type 0 where
  pub before : State
  pub call : Call
  pub answer : Answer
  pub after : State

-- the calls lead from the first state to the second, one after another, each as a given step says
abbrev pub ChainOf : {S C A : Type 0} → (S → C → A → S → Type 0) → S → List (LinkOf S C A) → S → Type 0
ChainOf Step s [] t = t ≡ s
ChainOf Step s (link ∷ links) t =
    (link.before ≡ s) × Step link.before link.call link.answer link.after × ChainOf Step link.after links t

-- the calls of some links, and their answers
abbrev pub calls_of : {S C A : Type 0} → List (LinkOf S C A) → List C
calls_of links = map (λ link. link.call) links

abbrev pub answers_of : {S C A : Type 0} → List (LinkOf S C A) → List A
answers_of links = map (λ link. link.answer) links

-- these calls, with these answers, lead from the first state to the second
pub record RunOf {S C A : Type 0} (Step : S → C → A → S → Type 0) (s : S) (calls : List C) (answers : List A) (t : S) :
    Type 0 where
  pub links : List (LinkOf S C A)
  pub chain : ChainOf Step s links t
  -- the calls are these
  pub calls_same : calls_of links ≡ calls
  -- the answers are these
  pub answers_same : answers_of links ≡ answers

-- each link is related in this way: its states, its call and its answer
abbrev pub EachLink : {S C A : Type 0} → (S → C → A → S → Type 0) → List (LinkOf S C A) → Type 0
EachLink P [] = Unit {0}
EachLink P (link ∷ links) = P link.before link.call link.answer link.after × EachLink P links

-- none of the calls of some links is this one
abbrev pub NoneIs : {S C A : Type 0} → C → List (LinkOf S C A) → Type 0
NoneIs c links = AllByRecursion (λ link. link.call ≢ c) links
