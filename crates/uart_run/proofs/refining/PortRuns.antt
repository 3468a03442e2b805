-- A session is a run of the port: the steps of its calls, one after the other.
use Rattle.uart_run.proofs.Names.{◌≡◌, ℕ, ◌+◌, ◌-◌, false, List, [], ◌∷◌, ◌++◌, map, length, length-append, append_assoc, arith, refl}
use Rattle.uart_run.proofs.Names.{sym, ◌∙◌, ap, subst, map-append, AllByRecursion, Call, Answer, Event, cut_of, arriving, between}
use Rattle.uart_run.proofs.Names.{MachineState, Character, IsSound, Modes, sent_in, received_in, came_in, told_in}
use Rattle.uart_run.proofs.Names.{does_all-append, sent-append, received-append, came-append, told-append, State, machine_of, Link, Chain}
use Rattle.uart_run.proofs.Names.{CallStep, GoesOn, IsSession, IsWithinSession, IsWired, reported, received, reported_by, received_by}
use Rattle.uart_run.proofs.Names.{Refines}
use Rattle.uart_run.proofs.Names.{port_of, told, told_by, arrived}
use Rattle.std.proofs.Math.Seq.{take-append_seam}
use Rattle.uart_call.specs.declared.call.Call.TheVariants as call
use Rattle.uart_chip.specs.Conserved.{waiting}
use Rattle.uart_chip.specs.PortLaws.{LosesNothingSilently}
use Rattle.uart_chip.proofs.PortLaws.{loses_nothing_silently}
use Rattle.uart_chip.proofs.conservation.Went.{arriving_cut, arriving-append}
use Rattle.uart_run.proofs.CallLaws.{InSession}
use Rattle.uart_run.proofs.FrameLaws.{AllAt, GoOn, go_within, in_session-gone, same_cut, session_fits}
use Rattle.uart_run.proofs.SessionCalls.{modes_of, in_session}
use Rattle.uart_run.proofs.Sessions.{at_each, goes_on}
use Rattle.uart_run.proofs.refining.PortCalls.{PortSteps, call_steps, cut_bytes, lsr_leaves_none}

-- ---- what came in a call, and what came after it

-- the events between the two machines, as they go on
record Passing (m n : MachineState) : Type 0 where
  pub cut : cut_of n.chip ≡ cut_of m.chip
  pub events : List Event
  pub ahead : m.ahead ≡ events ++ n.ahead
  pub number : n.chip.receiver.arrived ≡ m.chip.receiver.arrived
      + length (arriving_cut (cut_of m.chip) m.chip.receiver.arrived events)

passing-refl : (m : MachineState) → Passing m m
passing-refl m = record { cut = refl; events = []; ahead = refl; number = omega arith }

passing-trans : (m n o : MachineState) → Passing m n → Passing n o → Passing m o
passing-trans m n o p q =
    let k = m.chip.receiver.arrived in
    let c = cut_of m.chip in
    let second : o.chip.receiver.arrived ≡ n.chip.receiver.arrived + length (arriving_cut c n.chip.receiver.arrived q.events) =
    q.number ∙ ap (λ (f : ℕ → ℕ). n.chip.receiver.arrived + length (arriving_cut f n.chip.receiver.arrived q.events)) p.cut in
    let there = ap (λ (j : ℕ). length (arriving_cut c j q.events)) p.number in
    let whole = ap length (arriving-append c k p.events q.events)
    ∙ length-append (arriving_cut c k p.events) (arriving_cut c (k + length (arriving_cut c k p.events)) q.events) in
    record {
      cut = q.cut ∙ p.cut;
      events = p.events ++ q.events;
      ahead = p.ahead ∙ (ap (λ es. p.events ++ es) q.ahead ∙ sym (append_assoc p.events q.events o.ahead));
      number = omega (arith, second, there, whole, p.number);
    }

passed_events : (m n : MachineState) → (p : Passing m n) → between m n ≡ p.events
passed_events m n p =
    let long : length m.ahead ≡ length p.events + length n.ahead = ap length p.ahead ∙ length-append p.events n.ahead in
    let few : length m.ahead - length n.ahead ≡ length p.events = omega arith in
    rw (few, p.ahead) (take-append_seam p.events n.ahead)

-- what arrived, by the events
arrived_by : (s t : State) (p : Passing (machine_of s) (machine_of t)) →
    arrived s t ≡ map (λ (character : Character). character.byte)
    (arriving_cut (cut_of (machine_of s).chip) (machine_of s).chip.receiver.arrived p.events)
arrived_by s t p =
    let m = machine_of s in
    let k = m.chip.receiver.arrived in
    let c = cut_of m.chip in
    ap (λ (es : List Event). map (λ (character : Character). c character.byte) (arriving k es)) (passed_events m (machine_of t) p)
    ∙ sym (cut_bytes c (arriving k p.events))

arrived-append : (s t u : State) (p : Passing (machine_of s) (machine_of t)) (q : Passing (machine_of t) (machine_of u)) →
    arrived s t ++ arrived t u ≡ arrived s u
unfolding passing-trans
arrived-append s t u p q =
    let m = machine_of s in
    let n = machine_of t in
    let k = m.chip.receiver.arrived in
    let c = cut_of m.chip in
    let byte : Character → ℕ = λ character. character.byte in
    let first = arriving_cut c k p.events in
    let second = arriving_cut c (k + length first) q.events in
    let later : arrived t u ≡ map byte second =
    arrived_by t u q ∙ (ap (λ (f : ℕ → ℕ). map byte (arriving_cut f n.chip.receiver.arrived q.events)) p.cut
    ∙ ap (λ (j : ℕ). map byte (arriving_cut c j q.events)) p.number) in
    let whole : arrived s u ≡ map byte (arriving_cut c k (p.events ++ q.events)) =
    arrived_by s u (passing-trans m n (machine_of u) p q) in
    ap (λ zs. zs ++ arrived t u) (arrived_by s t p) ∙ (ap (λ zs. map byte first ++ zs) later
    ∙ (sym (map-append byte first second) ∙ (sym (ap (map byte) (arriving-append c k p.events q.events)) ∙ sym whole)))

-- ---- one call

passing_call : {Within : State → Call → Type 0} {cut : ℕ → ℕ} (k : GoOn Within cut) (x : Modes) (s t : State) (c : Call)
    (a : Answer) → x.cut ≡ cut → InSession x s → Within s c → CallStep s c a t → Passing (machine_of s) (machine_of t)
passing_call k x s t c a equal w within step =
    let g = k.go x s t c a equal w within step in
    let p = g.passes.passed.passed in
    let same : cut_of (machine_of s).chip ≡ g.modes.cut = w.stands.modes.cut ∙ sym (same_cut x g.modes g.same) in
    record {
      cut = p.went.modes.cut ∙ sym same;
      events = p.events;
      ahead = p.ahead;
      number =
          p.went.receives.number
          ∙ ap (λ (f : ℕ → ℕ). (machine_of s).chip.receiver.arrived
          + length (arriving_cut f (machine_of s).chip.receiver.arrived p.events)) (sym same);
    }

-- ---- calls in turn

record RunsOn (s : State) (links : List Link) (t : State) : Type 0 where
  pub run : Refines s links t
  pub passing : Passing (machine_of s) (machine_of t)

runs_none : (s : State) → RunsOn s [] s
unfolding passing-refl
runs_none s =
    let none = passing-refl (machine_of s) in
    record {
      run = record { steps = []; leads = refl; sent = refl; received = refl; came = sym (arrived_by s s none); told = refl };
      passing = none;
    }

runs_more : (s t u : State) (c : Call) (a : Answer) (links : List Link) →
    PortSteps s t (reported_by c a) (received_by c a) (told_by c a) → Passing (machine_of s) (machine_of t) →
    RunsOn t links u → RunsOn s (record { before = s; call = c; answer = a; after = t } ∷ links) u
runs_more s t u c a links one p rest =
    let r = rest.run in
    let cut : ℕ → ℕ = cut_of (machine_of s).chip in
    record {
      run = record {
        steps = one.steps ++ r.steps;
        leads = does_all-append (port_of s) (port_of t) (port_of u) one.steps r.steps one.leads r.leads;
        sent =
            sent-append one.steps r.steps
            ∙ (ap (λ zs. zs ++ sent_in r.steps) one.sent
            ∙ (ap (λ zs. map cut (reported_by c a) ++ zs) (r.sent ∙ ap (λ (f : ℕ → ℕ). map f (reported links)) p.cut)
            ∙ sym (map-append cut (reported_by c a) (reported links))));
        received =
            received-append one.steps r.steps
            ∙ (ap (λ zs. zs ++ received_in r.steps) one.received ∙ ap (λ zs. received_by c a ++ zs) r.received);
        came =
            came-append one.steps r.steps
            ∙ (ap (λ zs. zs ++ came_in r.steps) one.came ∙ (ap (λ zs. arrived s t ++ zs) r.came
            ∙ arrived-append s t u p rest.passing));
        told = told-append one.steps r.steps ∙ (ap (λ zs. zs ++ told_in r.steps) one.told ∙ ap (λ zs. told_by c a ++ zs) r.told);
      };
      passing = passing-trans (machine_of s) (machine_of t) (machine_of u) p rest.passing;
    }

runs : {Within : State → Call → Type 0} {cut : ℕ → ℕ} (k : GoOn Within cut) (x : Modes) (s t : State) (links : List Link) →
    x.cut ≡ cut → InSession x s → AllAt Within links → Chain s links t → RunsOn s links t
runs k x s t [] same w within chain = subst (λ (u : State). RunsOn s [] u) (sym chain) (runs_none s)
runs k x s t (link ∷ links) same w within chain =
    let begins = subst (λ (v : State). InSession x v) (sym chain.0) w in
    let one = call_steps k x link.before link.after link.call link.answer same begins within.0 chain.1 in
    let p = passing_call k x link.before link.after link.call link.answer same begins within.0 chain.1 in
    let g = k.go x link.before link.after link.call link.answer same begins within.0 chain.1 in
    let rest = runs k g.modes link.after t links (same_cut x g.modes g.same ∙ same)
    (in_session-gone x _ _ link.before link.after _ _ begins g (session_fits x link.before link.after link.call link.answer begins chain.1))
    within.1 chain.2 in
    subst (λ (v : State). RunsOn v (link ∷ links) t) chain.0
    (runs_more link.before link.after t link.call link.answer links one p rest)

-- a session is a run of the port
pub session_refines : (s t : State) (links : List Link) → IsSound (machine_of s) → IsSession s links → Chain s links t →
    Refines s links t
session_refines s t links sound session chain =
    let within = at_each (IsWired s) (GoesOn (IsWired s)) IsWithinSession (goes_on (IsWired s)) s t links (λ w. w) session.1 chain in
    (runs (go_within (modes_of s).cut) (modes_of s) s t links refl (in_session s session.0 sound) within chain).run

-- ---- what a program concludes

-- so it loses nothing silently
pub session_loses_nothing : (s t : State) (links : List Link) → Refines s links t →
    LosesNothingSilently (port_of s) (map (cut_of (machine_of s).chip) (reported links)) (received links) (arrived s t) (told links)
    (port_of t)
session_loses_nothing s t links r =
    let p = loses_nothing_silently (port_of s) (port_of t) r.steps r.leads in
    rw (r.sent, r.received, r.came, r.told) at p

last_step : (s t : State) (some : List Link) (last : Link) → Chain s (some ++ last ∷ []) t →
    CallStep last.before last.call last.answer t
last_step s t [] last h = subst (λ (v : State). CallStep last.before last.call last.answer v) (sym h.2) h.1
last_step s t (link ∷ links) last h = last_step link.after t links last h.2

-- and if its last call is an `lsr`, and none showed an overrun, nothing was lost
pub session_keeps_all : (s t : State) (some : List Link) (last : Link) → Refines s (some ++ last ∷ []) t →
    Chain s (some ++ last ∷ []) t → last.call ≡ call.Lsr →
    AllByRecursion (λ overrun. overrun ≡ false) (told (some ++ last ∷ [])) →
    received (some ++ last ∷ []) ++ waiting (machine_of t) ≡ waiting (machine_of s) ++ arrived s t
session_keeps_all s t some last r chain is untold =
    let step : CallStep last.before call.Lsr last.answer t =
    subst (λ (c : Call). CallStep last.before c last.answer t) is (last_step s t some last chain) in
    (session_loses_nothing s t (some ++ last ∷ []) r).tells untold (lsr_leaves_none last.before t last.answer step)
