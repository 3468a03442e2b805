-- Calls in turn, whatever one call does.
use Rattle.uart_run.proofs.Names.{◌≡◌, ℕ, ◌+◌, ◌≤◌, ◌<◌, List, [], ◌∷◌, ◌++◌, length, take, get_or, refl, sym, ◌∙◌, ap, subst, slice_set}
use Rattle.uart_run.proofs.Names.{take_more, take_more_set, take_all, map-append, LinkOf, ChainOf, RunOf}

-- calls in turn, and then one more
record Ends {S C A : Type 0} (Step : S → C → A → S → Type 0) (s : S) (some : List (LinkOf S C A)) (last : LinkOf S C A) (t : S) :
    Type 0 where
  pub chain : ChainOf Step s some last.before
  pub step : Step last.before last.call last.answer last.after
  pub same : last.after ≡ t

module _ {S C A : Type 0} (Step : S → C → A → S → Type 0) where
  -- what each call keeps, they keep in turn
  pub chain_keeps : (P : S → Type 0) → ((s t : S) (call : C) (answer : A) → P s → Step s call answer t → P t) → (s t : S)
      (links : List (LinkOf S C A)) → P s → ChainOf Step s links t → P t
  chain_keeps P keeps s t [] p h = subst P (sym h) p
  chain_keeps P keeps s t (link ∷ links) p h =
      chain_keeps P keeps link.after t links (keeps link.before link.after link.call link.answer (subst P (sym h.0) p) h.1) h.2

  -- ---- runs, one call after another

  chain_more : (s t u : S) (links : List (LinkOf S C A)) (call : C) (answer : A) → ChainOf Step s links t → Step t call answer u →
      ChainOf Step s (links ++ record { before = t; call = call; answer = answer; after = u } ∷ []) u
  chain_more s t u [] call answer h k = (h, k, refl)
  chain_more s t u (l ∷ ls) call answer h k = (h.0, h.1, chain_more l.after t u ls call answer h.2 k)

  pub run_nothing : (s : S) → RunOf Step s [] [] s
  run_nothing s = record { links = []; chain = refl; calls_same = refl; answers_same = refl }

  pub run_more : (s t u : S) (calls : List C) (answers : List A) (call : C) (answer : A) → RunOf Step s calls answers t →
      Step t call answer u → RunOf Step s (calls ++ call ∷ []) (answers ++ answer ∷ []) u
  run_more s t u calls answers call answer r h =
      let last : LinkOf S C A = record { before = t; call = call; answer = answer; after = u } in
      record {
        links = r.links ++ last ∷ [];
        chain = chain_more s t u r.links call answer r.chain h;
        calls_same = map-append (λ (l : LinkOf S C A). l.call) r.links (last ∷ []) ∙ ap (λ xs. xs ++ call ∷ []) r.calls_same;
        answers_same = map-append (λ (l : LinkOf S C A). l.answer) r.links (last ∷ []) ∙ ap (λ xs. xs ++ answer ∷ []) r.answers_same;
      }

  -- the next call, its answer in the next slot
  pub run_step : {s t u : S} (calls : List C) (answers : List A) {i : ℕ} {call : C} {answer : A} → i < length calls →
      i < length answers → call ≡ get_or calls i call → RunOf Step s (take i calls) (take i answers) t → Step t call answer u →
      RunOf Step s (take (i + 1) calls) (take (i + 1) (slice_set answers i answer)) u
  run_step {s} {t} {u} calls answers {i} {call} {answer} h k e r c =
      rw (take_more calls i call h, ← e, take_more_set answers i answer k)
      (run_more s t u (take i calls) (take i answers) call answer r c)

  pub run_whole : (s t : S) (calls : List C) (answers : List A) (i : ℕ) → length calls ≤ i → length answers ≤ i →
      RunOf Step s (take i calls) (take i answers) t → RunOf Step s calls answers t
  run_whole s t calls answers i h k r = rw (take_all i calls h, take_all i answers k) at r

  -- ---- the last call

  ends : (s t : S) (some : List (LinkOf S C A)) (last : LinkOf S C A) → ChainOf Step s (some ++ last ∷ []) t → Ends Step s some last t
  ends s t [] last h = record { chain = h.0; step = h.1; same = sym h.2 }
  ends s t (link ∷ some) last h =
      let e = ends link.after t some last h.2 in record { chain = (h.0, h.1, e.chain); step = e.step; same = e.same }

  pub step_is : (s t : S) (c d : C) (a b : A) → c ≡ d → a ≡ b → Step s c a t → Step s d b t
  step_is s t c d a b e f h =
      let B : C → Type 0 = λ v. Step s v a t in
      let D : A → Type 0 = λ v. Step s d v t in
      subst D f (subst B e h)

  -- what a last call tells that answers so, whatever comes before it
  pub ended : (s t : S) (some : List (LinkOf S C A)) (last : LinkOf S C A) (c : C) (a : A) (T : S → Type 0) →
      ((n u : S) → ChainOf Step s some n → Step n c a u → T u) → ChainOf Step s (some ++ last ∷ []) t → last.call ≡ c →
      last.answer ≡ a → T t
  ended s t some last c a T tells chain is answered =
      let e = ends s t some last chain in
      subst T e.same (tells last.before last.after e.chain (step_is last.before last.after last.call c last.answer a is answered e.step))
