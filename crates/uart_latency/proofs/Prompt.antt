-- A session in which the receiver is never late drops nothing.
use Rattle.uart_latency.proofs.Names.{◌≡◌, ℕ, ◌+◌, ◌-◌, ◌*◌, ◌≤◌, ◌<◌, ◌==◌, Bool, true, false, List, [], ◌∷◌, sym, subst, Option, Some}
use Rattle.uart_latency.proofs.Names.{None, MatchBool, has_any, characters, IsDrop, MachineStep, ReceiverState, characters_of}
use Rattle.uart_latency.proofs.Names.{drop_receivers, Ready, Handles, Implies, Idle, Handled, RingDoing, RingDid, ring_fields, free}
use Rattle.uart_latency.proofs.Names.{with_told_xoff, looked, rts_at, flow_character, TellsIfAny, AdjustsXoff, xon, Obeys, ObeysXoff, Holds}
use Rattle.uart_latency.proofs.Names.{Releases, ReceiveMarks, at_marks, RingAnswer, RingCall, RingState, RingLink, RingChain, RingCallStep}
use Rattle.uart_latency.proofs.Names.{ring_machine, under, MakesRingBlocks, MakesBlocks, in_blocks, receiver_of, is_below_level, AreSpaced}
use Rattle.uart_latency.proofs.Names.{AreOthersQuick, IsPromptDid, IsPromptCall, ArePrompt, IsQuickHandle, IsEarly, beside, late_at}
use Rattle.uart_spec.specs.declared.registers.interrupt_enable.TheConstants.IER
use Rattle.uart_ring_runs.specs.declared.call.RingCall.TheVariants as call
use Rattle.uart_ring_runs.proofs.RingWalk as walk
use Rattle.uart_latency.proofs.{Behind.IsEarlyAt, Behind.prompt_path, Behind.prompt_mark, Behind.early_first, Handling.handle_in_time}
use Rattle.uart_latency.proofs.{Tame.tame_blocks, Tame.tame_rts}

-- ---- the calls that tell the other end to stop, or are told

tells : (wanted : Option Bool) (told : Option ℕ) → Implies (TellsIfAny wanted told) MakesRingBlocks
tells None told f l after t = walk.stays MakesBlocks in_blocks f l after t.1
tells (Some on) told f l after t =
    walk.queues_urgent MakesBlocks in_blocks (flow_character on) None (with_told_xoff (not_on on) f) l after t.1
  where
    not_on : Bool → Bool
    not_on true = false
    not_on false = true

adjusts_xoff : (marks : ReceiveMarks) (told : Option ℕ) → Implies (AdjustsXoff marks told) MakesRingBlocks
adjusts_xoff marks told f l after t = tells (at_marks marks f) told f l after t

obeys : (told : Option ℕ) → Implies (Obeys told) MakesRingBlocks
obeys None f l after t = walk.stays MakesBlocks in_blocks f l after t
obeys (Some byte) f l after t = go (byte == xon) t
  where
    go : (on : Bool) → MatchBool on (Releases f l after) (Holds f l after) → MakesRingBlocks f l after
    go true t = walk.releases MakesBlocks in_blocks f l after t
    go false t = walk.holds MakesBlocks in_blocks f l after t

obeys_xoff : (told : Option ℕ) → Implies (ObeysXoff told) MakesRingBlocks
obeys_xoff told f l after t = obeys told (looked f) l after t.1

-- ---- a call

module _ (t d : ℕ) (r : ReceiverState) (early : d < (characters r.size - characters_of r.size r.trigger + 1) * t) where
  abbrev pub Early : ℕ → RingState → Type 0
  Early late s = IsEarlyAt t d r early late (ring_machine s)

  -- one that did this
  made : (late after : ℕ) (s u : RingState) (G : RingDoing) (did : RingDid MachineStep G s u) → Implies G MakesRingBlocks →
      IsPromptDid t d late after s u did → Early late s → Early after u
  made late after s u G did blocks prompt h =
      let tame = tame_blocks (ring_fields s) did.list (ring_fields u) (blocks (ring_fields s) did.list (ring_fields u) did.does) in
      prompt_path t d r early did.list late after (ring_machine s) (ring_machine u) did.path tame prompt h

  pub prompt_call : (late after : ℕ) (s : RingState) (c : RingCall) (a : RingAnswer) (u : RingState) (h : RingCallStep s c a u) →
      IsPromptCall t d late after s c a u h → Early late s → Early after u
  prompt_call late after s (call.Queue bytes) a u h p e =
      made late after s u _ h.did (walk.queues MakesBlocks in_blocks bytes.items h.outcome) p e
  prompt_call late after s call.ResumeTransmit a u h p e = made late after s u _ h.did (walk.resumes MakesBlocks in_blocks) p e
  prompt_call late after s (call.Take slots) a u h p e =
      made late after s u _ h.did (walk.takes MakesBlocks in_blocks slots h.outcome) p e
  prompt_call late after s call.Service a u h p e = made late after s u _ h.did (walk.services MakesBlocks in_blocks h.outcome) p e
  prompt_call late after s (call.Handle limit) a u h p e =
      made late after s u _ h.did (walk.handles MakesBlocks in_blocks limit h.outcome) p e
  prompt_call late after s call.Retrigger a u h p e = made late after s u _ h.did (walk.retriggers MakesBlocks in_blocks) p e
  prompt_call late after s call.TakeLine a u h p e = made late after s u _ h.did (walk.takes_line MakesBlocks in_blocks h.outcome) p e
  prompt_call late after s call.TakeModem a u h p e = made late after s u _ h.did (walk.takes_modem MakesBlocks in_blocks h.outcome) p e
  prompt_call late after s call.HoldTransmit a u h p e = made late after s u _ h.did (walk.holds MakesBlocks in_blocks) p e
  prompt_call late after s call.ReleaseTransmit a u h p e = made late after s u _ h.did (walk.releases MakesBlocks in_blocks) p e
  prompt_call late after s (call.QueueUrgent byte) a u h p e =
      made late after s u _ h.did (walk.queues_urgent MakesBlocks in_blocks byte h.outcome) p e
  prompt_call late after s call.ClearTransmit a u h p e =
      made late after s u _ h.did (walk.clears_transmit MakesBlocks in_blocks h.outcome) p e
  prompt_call late after s call.ClearReceive a u h p e =
      made late after s u _ h.did (walk.clears_receive MakesBlocks in_blocks h.outcome) p e
  prompt_call late after s (call.SetLowMark mark) a u h p e =
      made late after s u _ h.did (walk.sets_low_mark MakesBlocks in_blocks mark) p e
  prompt_call late after s call.TakeLow a u h p e = made late after s u _ h.did (walk.takes_low MakesBlocks in_blocks h.outcome) p e
  prompt_call late after s (call.TryHandle limit rounds) a u h p e =
      made late after s u _ h.did (walk.tries MakesBlocks in_blocks limit rounds h.outcome) p e
  prompt_call late after s (call.Restart interrupts) a u h p e =
      made late after s u _ h.did (walk.restarts MakesBlocks in_blocks interrupts.0) p e
  prompt_call late after s (call.AdjustRts marks) a u h p e =
      let did = h.did in
      let tame = tame_rts (rts_at marks (free (ring_fields s).receive)) (ring_fields s) did.list (ring_fields u) did.does in
      prompt_path t d r early did.list late after (ring_machine s) (ring_machine u) did.path tame p e
  prompt_call late after s (call.AdjustXoff marks) a u h p e = made late after s u _ h.did (adjusts_xoff marks h.outcome) p e
  prompt_call late after s call.ObeyXoff a u h p e = made late after s u _ h.did (obeys_xoff h.outcome) p e
  prompt_call late after s (call.Driver c) a u h p e = absurd p
  prompt_call late after s call.Next a u h p e =
      let L : ℕ → Type 0 = λ x. Early x u in
      subst L (sym p.1) (prompt_mark t d r early late (ring_machine s) (ring_machine u) h.machine p.0 e)

  -- ---- calls in turn

  pub prompt_chain : (late after : ℕ) (s : RingState) (links : List RingLink) (u : RingState) (chain : RingChain s links u) →
      ArePrompt t d late after s links u chain → Early late s → Early after u
  prompt_chain late after s [] u chain prompt e =
      let S : RingState → Type 0 = λ v. Early late v in
      let L : ℕ → Type 0 = λ x. Early x u in
      subst L (sym prompt) (subst S (sym chain) e)
  prompt_chain late after s (link ∷ links) u chain prompt e =
      let E : RingState → Type 0 = λ v. Early late v in
      let next = prompt_call late prompt.0 link.before link.call link.answer link.after chain.1 prompt.1 (subst E (sym chain.0) e) in
      prompt_chain prompt.0 after link.after links u chain.2 prompt.2 next

-- a session begins
pub early_session : (t d : ℕ) (s : RingState) (early : IsEarly t d s) → Ready (under s) → (ring_machine s).chip.fifo ≡ true →
    is_below_level s ≡ true → AreSpaced t (ring_machine s).ahead → IsEarlyAt t d (receiver_of s) early 0 (ring_machine s)
early_session t d s early ready fifo below spaced =
    early_first t d (ring_machine s) early fifo ready.dlab ready.loopback below spaced

pub prompt_drops_nothing : (t d after : ℕ) (s u : RingState) (links : List RingLink) (chain : RingChain s links u) → Ready (under s) →
    (ring_machine s).chip.fifo ≡ true → is_below_level s ≡ true → AreSpaced t (ring_machine s).ahead → IsEarly t d s →
    ArePrompt t d 0 after s links u chain → IsDrop (ring_machine s) (ring_machine u) → ⊥
prompt_drops_nothing t d after s u links chain ready fifo below spaced early prompt drop =
    let begins = early_session t d s early ready fifo below spaced in
    let ends = prompt_chain t d (receiver_of s) early 0 after s links u chain prompt begins in
    ends.after.behind.whole ends.few (drop_receivers (ring_machine s) (ring_machine u) drop)

-- a `handle` in such a session
pub handles : (t d b e late limit : ℕ) (handled : Handled) (s u v : RingState) (links : List RingLink) (chain : RingChain s links u)
    (did : RingDid MachineStep (Handles limit handled) u v) → Ready (under s) → (ring_machine s).chip.fifo ≡ true →
    is_below_level s ≡ true → AreSpaced t (ring_machine s).ahead → IsEarly t d s → ArePrompt t d 0 late s links u chain →
    has_any (ring_machine u).chip.latches.ier IER.DATA_READY.0 ≡ true → handled.end ≡ Idle →
    characters (ring_fields u).driver.size ≤ free (ring_fields u).receive → late_at late (ring_machine u).ahead (ring_machine u).chip ≤ b →
    AreOthersQuick e did.list (ring_machine u) (ring_machine v) did.path →
    IsQuickHandle t d b e (characters (ring_fields u).driver.size) (beside did.list) → (after : ℕ) × IsPromptDid t d late after u v did
handles t d b e late limit handled s u v links chain did ready fifo below spaced early prompt enabled idle room begins quick fits =
    let known = early_session t d s early ready fifo below spaced in
    let ends = prompt_chain t d (receiver_of s) early 0 late s links u chain prompt known in
    handle_in_time t d (receiver_of s) early b e late limit handled (ring_fields u) did.list (ring_fields v) (ring_machine u)
    (ring_machine v) did.path did.does ends enabled idle room begins quick fits
