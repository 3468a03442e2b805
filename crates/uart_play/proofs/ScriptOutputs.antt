-- From a script's calls to what is printed for it.
use Rattle.std.proofs.Common.{◌≡◌, List, [], ◌∷◌, map, refl, ◌∙◌, ap}
use Rattle.uart_call.specs.declared.call.Call.{Call}
use Rattle.uart_call.specs.declared.call.Call.TheVariants as call
use Rattle.uart_call.specs.declared.call.Answer.{Answer}
use Rattle.uart_language.specs.Sayings.{plain}
use Rattle.uart_run.specs.Chains.{calls_of, answers_of}
use Rattle.uart_run.specs.Run.{State, CallStep, Link, Chain, IsRun}
use Rattle.uart_run.specs.Session.{Ran}

step_plain : (s t : State) (c : Call) (a : Answer) → CallStep s c a t → CallStep s (plain c) a t
step_plain s t (call.Text text) a h = h
step_plain s t c a h = h

abbrev pub plain_link : Link → Link
plain_link l = record { before = l.before; call = plain l.call; answer = l.answer; after = l.after }

chain_plain : (s t : State) (links : List Link) → Chain s links t → Chain s (map plain_link links) t
chain_plain s t [] h = h
chain_plain s t (l ∷ ls) h = (h.0, step_plain l.before l.after l.call l.answer h.1, chain_plain l.after t ls h.2)

calls_plain : (links : List Link) → calls_of (map plain_link links) ≡ map plain (calls_of links)
calls_plain [] = refl
calls_plain (l ∷ ls) = ap (λ cs. plain l.call ∷ cs) (calls_plain ls)

answers_plain : (links : List Link) → answers_of (map plain_link links) ≡ answers_of links
answers_plain [] = refl
answers_plain (l ∷ ls) = ap (λ answers. l.answer ∷ answers) (answers_plain ls)

pub run_plain : (s t : State) (calls plans : List Call) (answers : List Answer) → map plain calls ≡ plans → Ran s calls answers t
    → IsRun s plans answers t
run_plain s t calls plans answers same r = record {
  links = map plain_link r.run.links;
  chain = chain_plain s t r.run.links r.run.chain;
  calls_same = calls_plain r.run.links ∙ ap (map plain) r.run.calls_same ∙ same;
  answers_same = answers_plain r.run.links ∙ r.run.answers_same;
}
