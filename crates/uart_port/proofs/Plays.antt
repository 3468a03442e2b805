-- Playing, one call after another.
use Rattle.std.proofs.Common.{◌≡◌, ℕ, suc, ◌+◌, ◌<◌, ◌≤◌, List, [], ◌∷◌, ◌++◌, Option, Some, None, length, take, drop, get_or, refl}
use Rattle.std.proofs.Common.{append_assoc, inl, inr, rules}
use Rattle.std.specs.Prelude.{IsSome, is_some, false, option_map}
use Rattle.std.specs.Io.KnownBytes.{Appends}
use Rattle.std.proofs.Math.Seq.{split_at}
use Rattle.std.proofs.lemmas.List.{take_more, take_all}
use Rattle.std.proofs.lemmas.Grind.{flat_map-append}
use Rattle.uart_call.specs.declared.call.Call.{Call}
use Rattle.uart_call.specs.declared.call.Answer.{Answer}
use Rattle.uart_language.specs.Output.{answer_lines, answer_text, line}
use Rattle.uart_port.specs.Ports.{Attempt}
use Rattle.uart_port.specs.Playing.{Terminal, fault_in, Makes, Answered, IsPlayed}

-- the calls were answered so, and these answers were printed
pub record IsBegun {F : Type 0} (step : F → Attempt → F → Type 0) (s : Terminal F) (calls : List Call) (old new : Option (List ℕ))
    (t : Terminal F) : Type 0 where
  pub answers : List Answer
  pub made : Answered step s calls answers t
  pub printed : Appends old new (answer_lines answers)

appends_nothing : (old : Option (List ℕ)) → Appends old old []
appends_nothing None = tt
appends_nothing (Some bytes) = search rules

appends_more : (old mid new : Option (List ℕ)) (first second : List ℕ) → Appends old mid first → Appends mid new second →
    Appends old new (first ++ second)
appends_more None mid new first second h k = tt
appends_more (Some xs) None new first second h k = absurd h
appends_more (Some xs) (Some ys) None first second h k = absurd k
appends_more (Some xs) (Some ys) (Some zs) first second h k = rw (k, h) (append_assoc xs first second)

answered_more : {F : Type 0} (step : F → Attempt → F → Type 0) (s t u : Terminal F) (calls : List Call) (answers : List Answer)
    (call : Call) (answer : Answer) → Answered step s calls answers t → Makes step t call answer u → fault_in u ≡ None →
    Answered step s (calls ++ call ∷ []) (answers ++ answer ∷ []) u
answered_more step s t u [] [] call answer h makes clear = (u, rw (← h) makes, clear, refl)
answered_more step s t u [] (a ∷ rest) call answer h makes clear = absurd h
answered_more step s t u (c ∷ cs) [] call answer h makes clear = absurd h
answered_more step s t u (c ∷ cs) (a ∷ rest) call answer h makes clear =
    (h.0, h.1, h.2, answered_more step h.0 t u cs rest call answer h.3 makes clear)

pub nothing_begun : {F : Type 0} (step : F → Attempt → F → Type 0) (s : Terminal F) (old : Option (List ℕ)) → IsBegun step s [] old old s
nothing_begun step s old = record { answers = []; made = refl; printed = appends_nothing old }

pub none_mapped : {A B : Type 0} (f : A → B) (o : Option A) → is_some o ≡ false → option_map f o ≡ None
none_mapped f None h = refl
none_mapped f (Some x) h = cc

-- the next call is answered, and its answer printed
pub begun_more : {F : Type 0} (step : F → Attempt → F → Type 0) (s t u : Terminal F) (calls : List Call) (i : ℕ) (call : Call)
    (answer : Answer) (old mid new : Option (List ℕ)) → i < length calls → call ≡ get_or calls i call →
    IsBegun step s (take i calls) old mid t → Makes step t call answer u → fault_in u ≡ None →
    Appends mid new (line (answer_text answer)) → IsBegun step s (take (i + 1) calls) old new u
begun_more step s t u calls i call answer old mid new h e begun makes clear printed =
    record {
      answers = begun.answers ++ answer ∷ [];
      made = rw (take_more calls i call h, ← e) (answered_more step s t u (take i calls) begun.answers call answer begun.made makes clear);
      printed = rw (flat_map-append (λ a. line (answer_text a)) begun.answers (answer ∷ []))
          (appends_more old mid new _ _ begun.printed (search (printed, rules)));
    }

-- the next call meets a fault
pub stopped : {F : Type 0} (step : F → Attempt → F → Type 0) (s t u : Terminal F) (calls : List Call) (i : ℕ) (call : Call)
    (answer : Answer) (old new : Option (List ℕ)) → i < length calls → call ≡ get_or calls i call →
    IsBegun step s (take i calls) old new t → Makes step t call answer u → IsSome (fault_in u) → IsPlayed step s calls old new u
stopped step s t u calls i call answer old new h e begun makes some =
    record {
      answers = begun.answers;
      made = inr (record {
        before = take i calls;
        call = call;
        after = drop (suc i) calls;
        cut = rw (← e) at (split_at calls i call h);
        mid = t;
        answered = begun.made;
        answer = answer;
        makes = makes;
        fault = some;
      });
      printed = begun.printed;
    }

-- no call is left
pub whole : {F : Type 0} (step : F → Attempt → F → Type 0) (s t : Terminal F) (calls : List Call) (i : ℕ) (old new : Option (List ℕ)) →
    length calls ≤ i → IsBegun step s (take i calls) old new t → IsPlayed step s calls old new t
whole step s t calls i old new h begun =
    let all = rw (take_all i calls h) at begun in
    record { answers = all.answers; made = inl all.made; printed = all.printed }
