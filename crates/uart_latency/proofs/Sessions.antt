-- A session whose handler comes in time drops nothing, and DATA_READY stays enabled in it.
use Rattle.uart_latency.proofs.Names.{◌≡◌, ℕ, ◌+◌, ◌-◌, ◌*◌, ◌<◌, inl, inr, Bool, true, List, [], ◌∷◌, sym, ◌∙◌, ap, subst, Result, Path}
use Rattle.uart_latency.proofs.Names.{characters, Access, IsDrop, MachineState, MachineStep, ReceiverState, characters_of, Drop}
use Rattle.uart_latency.proofs.Names.{drop_receivers, Ready, Handles, Implies, RingDoing, RingDid, RingFields, ring_fields, TriesToHandle}
use Rattle.uart_latency.proofs.Names.{round_limit, Handled, StuckError, RingAnswer, RingCall, RingState, RingLink, RingChain, RingCallStep}
use Rattle.uart_latency.proofs.Names.{ring_machine, under, receiver_of, is_below_level, late_if, late_at, given_back, IsPrompt}
use Rattle.uart_latency.proofs.Names.{IsPromptCall, AreSpaced, IsEarly}
use Rattle.uart_ring_runs.specs.declared.call.RingAnswer.TheVariants.{Tried}
use Rattle.uart_ring_runs.specs.declared.call.RingCall.TheVariants as call
use Rattle.uart_latency.specs.Timely.{IsListening, LeavesListening, AllLeaveListening, IsLateAfter, IsQuickCall, IsVisit, IsTimelyCall}
use Rattle.uart_latency.specs.Timely.{AreTimely}
use Rattle.uart_latency.proofs.{Behind.IsEarlyAt, Handling.handle_in_time, Handling.tries_idle, Listening.Listens, Listening.Keeps}
use Rattle.uart_latency.proofs.{Prompt.prompt_call, Prompt.early_session, Quick.quick_prompt}
use Rattle.uart_latency.proofs.Listening as listening

-- ---- DATA_READY

abbrev ListensIn : RingState → Type 0
ListensIn s = Listens (ring_fields s).is_paused (ring_machine s)

did_listens : (s u : RingState) (G : RingDoing) (did : RingDid MachineStep G s u) → Implies G Keeps → ListensIn s → ListensIn u
did_listens s u G did keeps h =
    keeps (ring_fields s) did.list (ring_fields u) did.does (ring_machine s) (ring_machine u) did.path h

call_listens : (s : RingState) (c : RingCall) (a : RingAnswer) (u : RingState) → LeavesListening c a → RingCallStep s c a u → ListensIn s →
    ListensIn u
call_listens s (call.Queue bytes) a u leaves h k = did_listens s u _ h.did (listening.queues bytes.items h.outcome) k
call_listens s call.ResumeTransmit a u leaves h k = did_listens s u _ h.did listening.resumes k
call_listens s (call.Take slots) a u leaves h k = did_listens s u _ h.did (listening.takes slots h.outcome) k
call_listens s call.Service a u leaves h k = did_listens s u _ h.did (listening.services h.outcome) k
call_listens s (call.Handle limit) a u leaves h k = did_listens s u _ h.did (listening.handles limit h.outcome) k
call_listens s call.Retrigger a u leaves h k = did_listens s u _ h.did listening.retriggers k
call_listens s call.TakeLine a u leaves h k = did_listens s u _ h.did (listening.takes_line h.outcome) k
call_listens s call.TakeModem a u leaves h k = did_listens s u _ h.did (listening.takes_modem h.outcome) k
call_listens s call.HoldTransmit a u leaves h k = did_listens s u _ h.did listening.holds k
call_listens s call.ReleaseTransmit a u leaves h k = did_listens s u _ h.did listening.releases k
call_listens s (call.QueueUrgent byte) a u leaves h k = did_listens s u _ h.did (listening.queues_urgent byte h.outcome) k
call_listens s call.ClearTransmit a u leaves h k = did_listens s u _ h.did (listening.clears_transmit h.outcome) k
call_listens s call.ClearReceive a u leaves h k = did_listens s u _ h.did (listening.clears_receive h.outcome) k
call_listens s (call.SetLowMark mark) a u leaves h k = did_listens s u _ h.did (listening.sets_low_mark mark) k
call_listens s call.TakeLow a u leaves h k = did_listens s u _ h.did (listening.takes_low h.outcome) k
call_listens s (call.TryHandle limit rounds) a u leaves h k =
    did_listens s u _ h.did (listening.tries limit rounds h.outcome (λ error e. leaves error (h.answered ∙ ap Tried e))) k
call_listens s (call.Restart interrupts) a u leaves h k = did_listens s u _ h.did (listening.restarts interrupts.0) k
call_listens s (call.AdjustRts marks) a u leaves h k = did_listens s u _ h.did (listening.adjusts_rts marks) k
call_listens s (call.AdjustXoff marks) a u leaves h k = did_listens s u _ h.did (listening.adjusts_xoff marks h.outcome) k
call_listens s call.ObeyXoff a u leaves h k = did_listens s u _ h.did (listening.obeys_xoff h.outcome) k
call_listens s (call.Driver c) a u leaves h k = absurd leaves
call_listens s call.Next a u leaves h k =
    let there = listening.mark_listens (ring_fields s).is_paused (ring_machine s) (ring_machine u) h.machine k in
    let L : Bool → Type 0 = λ b. Listens b (ring_machine u) in
    subst L (sym (listening.paused_as (ring_fields s) (ring_fields u) h.rings)) there

chain_listens : (s : RingState) (links : List RingLink) (u : RingState) → AllLeaveListening links → RingChain s links u → ListensIn s →
    ListensIn u
chain_listens s [] u leaves chain k = let L : RingState → Type 0 = λ v. ListensIn v in subst L (sym chain) k
chain_listens s (link ∷ links) u leaves chain k =
    let L : RingState → Type 0 = λ v. ListensIn v in
    chain_listens link.after links u leaves.1 chain.2
    (call_listens link.before link.call link.answer link.after leaves.0 chain.1 (subst L (sym chain.0) k))

pub stays_enabled : (s u : RingState) (links : List RingLink) → Ready (under s) → IsListening s → AllLeaveListening links →
    RingChain s links u → IsListening u
stays_enabled s u links ready listens leaves chain =
    (chain_listens s links u leaves chain (record { dlab = ready.dlab; enabled = listens })).enabled

-- ---- a call

-- it is as late after some accesses as these leave it
same_late : (t d late now after : ℕ) (l : List Access) (m n : MachineState) (path : Path MachineStep m l n) →
    IsPrompt t d late now l m n path → IsLateAfter t late after l m n path → now ≡ after
same_late t d late now after [] m n path prompt leaves = prompt ∙ sym leaves
same_late t d late now after (access ∷ accesses) m n path prompt leaves =
    same_late t d (late_if (late_at late m.ahead m.chip - given_back t access) path.0.chip) now after accesses path.0 n path.2 prompt.1
    leaves

prompt_as : (t d late after : ℕ) (l : List Access) (m n : MachineState) (path : Path MachineStep m l n) →
    ((now : ℕ) × IsPrompt t d late now l m n path) → IsLateAfter t late after l m n path → IsPrompt t d late after l m n path
prompt_as t d late after l m n path found leaves =
    let P : ℕ → Type 0 = λ x. IsPrompt t d late x l m n path in
    subst P (same_late t d late found.0 after l m n path found.1 leaves) found.1

quick_call : (t d b e late after : ℕ) (l : List Access) (m n : MachineState) (path : Path MachineStep m l n) →
    IsQuickCall t d b e late after l m n path → IsPrompt t d late after l m n path
quick_call t d b e late after [] m n path h = h.leaves
quick_call t d b e late after (access ∷ accesses) m n path h =
    prompt_as t d late after (access ∷ accesses) m n path
    (quick_prompt t d b e late (access ∷ accesses) m n path h.begins h.quick h.few) h.leaves

timely_leaves : (t d b e late after : ℕ) (s : RingState) (c : RingCall) (a : RingAnswer) (u : RingState) (h : RingCallStep s c a u) →
    IsTimelyCall t d b e late after s c a u h → LeavesListening c a
timely_leaves t d b e late after s call.Next a u h timely = tt
timely_leaves t d b e late after s c a u h timely = timely.0

module _ (t d : ℕ) (r : ReceiverState) (early : d < (characters r.size - characters_of r.size r.trigger + 1) * t) where
  -- a visit of the handler, which does this
  visit_prompt : (b e late after limit : ℕ) (handled : Handled) (s : RingState) (l : List Access) (end : RingFields) (n : MachineState)
      (path : Path MachineStep (ring_machine s) l n) → Handles limit handled (ring_fields s) l end →
      IsVisit t d b e late after s handled l (ring_machine s) n path → IsEarlyAt t d r early late (ring_machine s) → ListensIn s →
      IsPrompt t d late after l (ring_machine s) n path
  visit_prompt b e late after limit handled s l end n path does visit known listens =
      prompt_as t d late after l (ring_machine s) n path
      (handle_in_time t d r early b e late limit handled (ring_fields s) l end (ring_machine s) n path does known
      (listens.enabled visit.going) visit.idle visit.room visit.begins visit.quick visit.few) visit.leaves

  timely_prompt : (b e late after : ℕ) (s : RingState) (c : RingCall) (a : RingAnswer) (u : RingState) (h : RingCallStep s c a u) →
      IsTimelyCall t d b e late after s c a u h → IsEarlyAt t d r early late (ring_machine s) → ListensIn s →
      IsPromptCall t d late after s c a u h
  timely_prompt b e late after s call.Next a u h timely known listens = timely
  timely_prompt b e late after s (call.Handle limit) a u h (leaves, inl visit) known listens =
      visit_prompt b e late after limit h.outcome s h.did.list (ring_fields u) (ring_machine u) h.did.path h.did.does visit known listens
  timely_prompt b e late after s (call.TryHandle limit rounds) a u h (leaves, inl (handled, is, visit)) known listens =
      let T : Result Handled StuckError → Type 0 = λ o. TriesToHandle limit rounds o (ring_fields s) h.did.list (ring_fields u) in
      let tries = tries_idle limit rounds handled (ring_fields s) h.did.list (ring_fields u) (subst T is h.did.does) visit.idle in
      visit_prompt b e late after (round_limit limit) handled s h.did.list tries.mid (ring_machine u) h.did.path tries.does visit known
      listens
  timely_prompt b e late after s (call.Driver c) a u h (leaves, visit) known listens = absurd leaves
  timely_prompt b e late after s other a u h (leaves, inl visit) known listens = absurd visit
  timely_prompt b e late after s other a u h (leaves, inr quick) known listens =
      quick_call t d b e late after h.did.list (ring_machine s) (ring_machine u) h.did.path quick

  -- ---- calls in turn

  timely_chain : (b e late : ℕ) (s : RingState) (links : List RingLink) (u : RingState) (chain : RingChain s links u) →
      AreTimely t d b e late s links u chain → IsEarlyAt t d r early late (ring_machine s) → ListensIn s → Drop r (receiver_of u) → ⊥
  timely_chain b e late s [] u chain timely known listens =
      let D : RingState → Type 0 = λ v. Drop r (receiver_of v) → ⊥ in
      subst D (sym chain) (known.after.behind.whole known.few)
  timely_chain b e late s (link ∷ links) u chain timely known listens =
      let E : RingState → Type 0 = λ v. IsEarlyAt t d r early late (ring_machine v) in
      let L : RingState → Type 0 = λ v. ListensIn v in
      let begins = subst E (sym chain.0) known in
      let hears = subst L (sym chain.0) listens in
      let prompt = timely_prompt b e late timely.0 link.before link.call link.answer link.after chain.1 timely.1 begins hears in
      let next = prompt_call t d r early late timely.0 link.before link.call link.answer link.after chain.1 prompt begins in
      let leaves = timely_leaves t d b e late timely.0 link.before link.call link.answer link.after chain.1 timely.1 in
      timely_chain b e timely.0 link.after links u chain.2 timely.2 next
      (call_listens link.before link.call link.answer link.after leaves chain.1 hears)

pub timely_drops_nothing : (t d b e : ℕ) (s u : RingState) (links : List RingLink) (chain : RingChain s links u) → Ready (under s) →
    (ring_machine s).chip.fifo ≡ true → is_below_level s ≡ true → IsListening s → AreSpaced t (ring_machine s).ahead → IsEarly t d s →
    AreTimely t d b e 0 s links u chain → IsDrop (ring_machine s) (ring_machine u) → ⊥
timely_drops_nothing t d b e s u links chain ready fifo below listens spaced early timely drop =
    let known = early_session t d s early ready fifo below spaced in
    timely_chain t d (receiver_of s) early b e 0 s links u chain timely known (record { dlab = ready.dlab; enabled = listens })
    (drop_receivers (ring_machine s) (ring_machine u) drop)
