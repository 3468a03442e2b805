-- What a listener is told of a run over a recorder.
use Rattle.std.proofs.Common.{◌≡◌, ◌≢◌, ℕ, ◌+◌, ◌≤◌, ◌<◌, refl, sym, ◌∙◌, ap, subst, List, [], ◌∷◌, ◌++◌, length, take, get_or, map}
use Rattle.std.specs.Prelude.{Option, Some, None}
use Rattle.std.proofs.lemmas.List.{take_more, take_all}
use Rattle.uart_spec.specs.Access.{Path}
use Rattle.uart_spec.specs.declared.access.Access.{Access}
use Rattle.uart_call.specs.declared.call.Answer.{Answer}
use Rattle.uart_call.specs.declared.call.Call.{Call}
use Rattle.uart_call.specs.declared.call.Call.TheVariants as call
use Rattle.uart_16550.specs.Driver.{backend_of}
use Rattle.uart_16550.specs.Tty.{inner_of}
use Rattle.uart_calls.specs.Meaning.{Called, Meaning, Performed, meaning, means}
use Rattle.uart_chip.specs.Machine.{MachineState, MachineStep}
use Rattle.uart_language.specs.Sayings.{plain}
use Rattle.uart_language.specs.Script.{Plan}
use Rattle.uart_run.proofs.Chains.{run_more, run_nothing}
use Rattle.uart_run.specs.Chains.{ChainOf, LinkOf, RunOf, answers_of, calls_of}
use Rattle.uart_trace.specs.Run.{CallStep, IsMadeBy, State}
use Rattle.uart_trace.specs.Told.{Begins, Changes, Hears, IsTold, IsToldCall, IsToldRun, Makes, Tells, TellsInTurn, Terminal}
use Rattle.uart_trace.specs.Told.{device_of, heard_by, listener_of, state_of}
use Rattle.uart_trace.specs.declared.recorder.Recorder.{Recorder}

-- ---- a listener that is there

module _ {L : Type 0} where
  changes_not : (o : Option L) (change : L → L → Type 0) → ((x : L) → change x x) → Changes change o o
  changes_not None change same = refl
  changes_not (Some x) change same = (x, refl, same x)

  changes_more : (a b c : Option L) (first second both : L → L → Type 0)
      → ((x y z : L) → first x y → second y z → both x z) → Changes first a b → Changes second b c → Changes both a c
  changes_more None b c first second both join h k = let at : Changes second None c = subst (λ (o : Option L). Changes second o c) h k in at
  changes_more (Some x) b c first second both join h k =
      let at : Changes second (Some h.0) c = subst (λ (o : Option L). Changes second o c) h.1 k in
      (at.0, at.1, join x h.0 at.0 h.2 at.2)

  -- a listener that was there is there
  changes_some : (a b : Option L) (x : L) (change : L → L → Type 0) → a ≡ Some x → Changes change a b
      → (y : L) × (b ≡ Some y) × change x y
  changes_some a b x change some h = subst (λ (o : Option L). Changes change o b) some h

  pub taken : (o : Option L) (x y : L) → o ≡ Some x → o ≡ Some y → x ≡ y
  taken o x y h k = cc

-- ---- a call

module _ {L : Type 0} (hears : L → Access → L → Type 0) where
  device_path : (a b : Recorder MachineState L) (l : List Access) → Path (Hears MachineStep hears) a l b
      → Path MachineStep (device_of a) l (device_of b)
  device_path a b [] h = ap device_of h
  device_path a b (access ∷ l) h = (device_of h.0, h.1.made, device_path h.0 b l h.2)

  listener_path : (a b : Recorder MachineState L) (l : List Access) → Path (Hears MachineStep hears) a l b
      → Changes (λ before after. Path hears before l after) (listener_of a) (listener_of b)
  listener_path a b [] h =
      subst (λ (o : Option L). Changes (λ before after. Path hears before [] after) (listener_of a) o) (sym (ap listener_of h))
      (changes_not (listener_of a) (λ before after. Path hears before [] after) (λ x. refl))
  listener_path a b (access ∷ l) h =
      changes_more (listener_of a) (listener_of h.0) (listener_of b) (λ before after. hears before access after)
      (λ before after. Path hears before l after) (λ before after. Path hears before (access ∷ l) after)
      (λ x y z first rest. (y, first, rest)) h.1.told (listener_path h.0 b l h.2)

  -- a call of the driver over the recorder is one over its machine, of which the listener was told
  called_by : (m : Meaning) (answer : Answer) (s t : Terminal L)
      → Called (Hears MachineStep hears) m answer (inner_of s) (inner_of t)
      → (accesses : List Access) × IsMadeBy m accesses (state_of s) (state_of t)
      × Changes (λ before after. Path hears before accesses after) (heard_by s) (heard_by t)
  called_by (means doing answer_of) answer s t c = (
    c.did.list,
    record {
      outcome = c.outcome;
      path = device_path (backend_of (inner_of s)) (backend_of (inner_of t)) c.did.list c.did.path;
      does = c.did.does;
    },
    listener_path (backend_of (inner_of s)) (backend_of (inner_of t)) c.did.list c.did.path,
  )

  -- the driver makes each call but `Next`
  pub driver_made : (s t : Terminal L) (c : Call) (answer : Answer) → c ≢ call.Next
      → Performed (Hears MachineStep hears) s c answer t → Makes hears s c t
  driver_made s t call.Next answer other h = absurd (other refl)
  driver_made s t c answer other h =
      let made = called_by (meaning c) answer s t h in record { accesses = made.0; step = made.1; told = made.2 }

-- ---- without the room that a text does not use

step_plain : (s t : State) (c : Call) (accesses : List Access) → CallStep s c accesses t → CallStep s (plain c) accesses t
step_plain s t (call.Text text) accesses h = h
step_plain s t c accesses h = h

abbrev plain_link : LinkOf State Call (List Access) → LinkOf State Call (List Access)
plain_link l = record { before = l.before; call = plain l.call; answer = l.answer; after = l.after }

chain_plain : (s t : State) (links : List (LinkOf State Call (List Access))) → ChainOf CallStep s links t
    → ChainOf CallStep s (map plain_link links) t
chain_plain s t [] h = h
chain_plain s t (l ∷ ls) h = (h.0, step_plain l.before l.after l.call l.answer h.1, chain_plain l.after t ls h.2)

calls_plain : (links : List (LinkOf State Call (List Access))) → calls_of (map plain_link links) ≡ map plain (calls_of links)
calls_plain [] = refl
calls_plain (l ∷ ls) = ap (λ cs. plain l.call ∷ cs) (calls_plain ls)

accesses_plain : (links : List (LinkOf State Call (List Access))) → answers_of (map plain_link links) ≡ answers_of links
accesses_plain [] = refl
accesses_plain (l ∷ ls) = ap (λ (made : List (List Access)). l.answer ∷ made) (accesses_plain ls)

pub run_plain : (s t : State) (calls plans : List Call) (accesses : List (List Access)) → map plain calls ≡ plans
    → RunOf CallStep s calls accesses t → RunOf CallStep s plans accesses t
run_plain s t calls plans accesses same r = record {
  links = map plain_link r.links;
  chain = chain_plain s t r.links r.chain;
  calls_same = calls_plain r.links ∙ ap (map plain) r.calls_same ∙ same;
  answers_same = accesses_plain r.links ∙ r.answers_same;
}

-- ---- calls

module _ {L : Type 0} (begins : L → L → Type 0) (hears : L → Access → L → Type 0) (ends : L → L → Type 0) where
  told_more : (a b c : L) (accesses : List (List Access)) (more : List Access) → IsTold begins hears ends a accesses b
      → IsToldCall begins hears ends b more c → IsTold begins hears ends a (accesses ++ more ∷ []) c
  told_more a b c [] more h k = (c, subst (λ (x : L). IsToldCall begins hears ends x more c) h k, refl)
  told_more a b c (first ∷ accesses) more h k = (h.0, h.1, told_more h.0 b c accesses more h.2 k)

  pub tells_nothing : (s : Terminal L) → TellsInTurn begins hears ends s [] s
  tells_nothing s = record {
    accesses = [];
    ran = run_nothing CallStep (state_of s);
    told = changes_not (heard_by s) (λ before after. IsTold begins hears ends before [] after) (λ x. refl);
  }

  pub tells_more : (s t u : Terminal L) (calls : List Call) (i : ℕ) (c : Call) → i < length calls → c ≡ get_or calls i c
      → TellsInTurn begins hears ends s (take i calls) t → Tells begins hears ends t c u
      → TellsInTurn begins hears ends s (take (i + 1) calls) u
  tells_more s t u calls i c h e told next = record {
    accesses = told.accesses ++ next.accesses ∷ [];
    ran = rw (take_more calls i c h, ← e) (run_more CallStep (state_of s) (state_of t) (state_of u) (take i calls) told.accesses c
        next.accesses told.ran next.step);
    told = changes_more (heard_by s) (heard_by t) (heard_by u) (λ before after. IsTold begins hears ends before told.accesses after)
        (λ before after. IsToldCall begins hears ends before next.accesses after)
        (λ before after. IsTold begins hears ends before (told.accesses ++ next.accesses ∷ []) after)
        (λ x y z first last. told_more x y z told.accesses next.accesses first last) told.told next.told;
  }

  pub tells_all : (s t : Terminal L) (calls : List Call) (i : ℕ) → length calls ≤ i
      → TellsInTurn begins hears ends s (take i calls) t → TellsInTurn begins hears ends s calls t
  tells_all s t calls i h told = rw (take_all i calls h) at told

  -- the whole run, from the state in which a script begins
  pub told_run : (plan : Plan) (made : List Call) (listener : L) (s t : Terminal L) → map plain made ≡ plan.calls
      → Begins plan listener s → TellsInTurn begins hears ends s made t
      → (after : L) × (heard_by t ≡ Some after) × IsToldRun begins hears ends plan listener after
  told_run plan made listener s t same first told =
      let there = changes_some (heard_by s) (heard_by t) listener (λ before after. IsTold begins hears ends before told.accesses after)
      first.listener told.told in (
        there.0,
        there.1,
        record {
          accesses = told.accesses;
          recorded = record {
            last = state_of t;
            ran = subst (λ (x : State). RunOf CallStep x plan.calls told.accesses (state_of t)) first.state
                (run_plain (state_of s) (state_of t) made plan.calls told.accesses same told.ran);
          };
          told = there.2;
        },
      )

  -- the listener that is taken afterwards was told of it
  pub told_taken : (plan : Plan) (made : List Call) (listener : L) (s t : Terminal L) (o : Option L) (x : L)
      → map plain made ≡ plan.calls → Begins plan listener s → TellsInTurn begins hears ends s made t → o ≡ heard_by t → o ≡ Some x
      → IsToldRun begins hears ends plan listener x
  told_taken plan made listener s t o x same first told is some =
      let run = told_run plan made listener s t same first told in
      subst (λ (y : L). IsToldRun begins hears ends plan listener y) (taken (heard_by t) run.0 x run.1 (sym is ∙ some)) run.2
