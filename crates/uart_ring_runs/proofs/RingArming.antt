-- A ring call leaves the THR-empty interrupt armed over the chip.
use Rattle.uart_ring_runs.proofs.Names.{◌<◌, ◌⊎◌, ℕ, List, [], ◌∷◌, length, inl, inr, refl, sym, ◌∙◌, subst, arith, Path, Access, Call}
use Rattle.uart_ring_runs.proofs.Names.{MachineState, MachineStep, at_mark, Modes, dlab-in, loopback-in, IsUnchecked, Ready, InSession}
use Rattle.uart_ring_runs.proofs.Names.{RingFields, ring_fields, free, ThrEmpty, known_after_all, IsArmed, LeavesArmed, Arms, rts_at}
use Rattle.uart_ring_runs.proofs.Names.{RingCall, RingAnswer, RingState, under, ring_machine, DriverCalled, IsOfRings, RingCallStep}
use Rattle.uart_ring_runs.proofs.Names.{RingLink, RingChain, thr_empty_of, IsRingArmed, LeavesThrEmpty, KeepsArmed, RearmsRing}
use Rattle.uart_ring_runs.proofs.Names.{AllLeaveRingArmed, AllWithinRingSession}
use Rattle.uart_spec.specs.declared.registers.offsets.TheConstants as offsets
use Rattle.uart_ring.proofs.Arming.{adjusts_leave}
use Rattle.uart_ring_runs.specs.declared.call.RingCall.TheVariants as call
use Rattle.uart_ring_runs.proofs.{RingBlocks.AllLeaveLcr, RingBlocks.MakesBlocks, RingBlocks.in_blocks, RingMeanings.Meant}
use Rattle.uart_ring_runs.proofs.{RingMeanings.meaning_of, DriverArms.driver_arms, RingLasts.driver_step, RingLasts.first_within}
use Rattle.uart_ring_runs.proofs.{RingRts.rts_leaves, RingGoes.ring_goes_call, RingGoes.in_session-gone, RingDue.Holds, RingDue.IsDlabOff}
use Rattle.uart_ring_runs.proofs.{RingDue.path_holds, RingDue.mark_holds}

-- what is armed as far as is known is armed
known_armed : (known : ThrEmpty) (f : RingFields) (m : MachineState) → Holds known m → IsArmed known f → IsArmed (thr_empty_of m) f
known_armed known f m holds (inl none) = inl none
known_armed known f m holds (inr is) = inr (holds.0 is.0, holds.1 is.1)

known_itself : (m : MachineState) → Holds (thr_empty_of m) m
known_itself m = (λ e. e, λ e. e)

-- a call whose list leaves it armed does
list_leaves : (s t : RingState) (list : List Access) → IsUnchecked (under s) → IsDlabOff (ring_machine s) →
    Path MachineStep (ring_machine s) list (ring_machine t) → AllLeaveLcr list → LeavesArmed (ring_fields s) list (ring_fields t) →
    IsRingArmed s → IsRingArmed t
list_leaves s t list unchecked off path lcr leaves armed =
    let known = thr_empty_of (ring_machine s) in
    let after = path_holds known list (ring_machine s) (ring_machine t) lcr off (known_itself (ring_machine s)) path in
    known_armed (known_after_all known list) (ring_fields t) (ring_machine t) after.1 (leaves unchecked known after.0 armed)

-- one whose list arms it does, however it was
list_arms : (s t : RingState) (list : List Access) → IsUnchecked (under s) → IsDlabOff (ring_machine s) →
    Path MachineStep (ring_machine s) list (ring_machine t) → AllLeaveLcr list → Arms (ring_fields s) list (ring_fields t) → IsRingArmed t
list_arms s t list unchecked off path lcr arms =
    let known = thr_empty_of (ring_machine s) in
    let after = path_holds known list (ring_machine s) (ring_machine t) lcr off (known_itself (ring_machine s)) path in
    known_armed (known_after_all known list) (ring_fields t) (ring_machine t) after.1 (arms unchecked known)

-- a usual call
meant_leaves : (s t : RingState) (c : RingCall) (a : RingAnswer) → IsUnchecked (under s) → IsDlabOff (ring_machine s) →
    Meant MachineStep c a s t → IsRingArmed s ⊎ RearmsRing c a → IsRingArmed t
meant_leaves s t c a unchecked off k (inl is) =
    list_leaves s t k.list unchecked off k.path (k.walks MakesBlocks in_blocks).lcr k.leaves is
meant_leaves s t c a unchecked off k (inr rearms) =
    list_arms s t k.list unchecked off k.path (k.walks MakesBlocks in_blocks).lcr (k.arms rearms)

-- no byte is accepted
none_accepted : {T : Type 0} → T ⊎ (0 < length {A = ℕ} []) → T
none_accepted (inl h) = h
none_accepted (inr some) = absurd (omega (arith, some))

-- each call of the rings themselves
pub call_leaves : (s t : RingState) (call : RingCall) (a : RingAnswer) → IsOfRings call → IsUnchecked (under s) →
    IsDlabOff (ring_machine s) → RingCallStep s call a t → IsRingArmed s ⊎ RearmsRing call a → IsRingArmed t
call_leaves s t (call.AdjustRts marks) a own unchecked off h armed =
    let wanted = rts_at marks (free (ring_fields s).receive) in
    list_leaves s t h.did.list unchecked off h.did.path
    (rts_leaves offsets.LCR refl wanted (ring_fields s) h.did.list (ring_fields t) h.did.does)
    (adjusts_leave marks (ring_fields s) h.did.list (ring_fields t) h.did.does) (none_accepted armed)
call_leaves s t (call.Driver c) a own unchecked off h armed = absurd own
call_leaves s t call.Next a own unchecked off h armed =
    let known = thr_empty_of (ring_machine s) in
    let F : RingFields → Type 0 = λ f. IsArmed (thr_empty_of (ring_machine t)) f in
    let M : MachineState → Type 0 = λ m. IsArmed (thr_empty_of m) (ring_fields s) in
    subst F (sym h.rings) (subst M (sym h.machine) (known_armed known (ring_fields s) (at_mark (ring_machine s))
    (mark_holds known (ring_machine s) (known_itself (ring_machine s))) (none_accepted armed)))
call_leaves s t other a own unchecked off h armed = meant_leaves s t other a unchecked off (meaning_of s t other a tt h) armed

-- a call of the driver, in a ready state
pub driver_leaves : (s t : RingState) (c : Call) (a : RingAnswer) → Ready (under s) → LeavesThrEmpty c → DriverCalled MachineStep c a s t →
    IsRingArmed s → IsRingArmed t
driver_leaves s t c a ready leaves h armed =
    let F : RingFields → Type 0 = λ f. IsArmed (thr_empty_of (ring_machine t)) f in
    subst F (sym h.rings) (by armed)
  where
    by : IsRingArmed s → IsArmed (thr_empty_of (ring_machine t)) (ring_fields s)
    by (inl none) = inl none
    by (inr is) = inr (driver_arms (under s) (under t) c h.outcome ready leaves (driver_step s t c a h) is)

-- each call, in a ready state
of_own : (s t : RingState) (c : RingCall) (a : RingAnswer) → IsOfRings c → IsUnchecked (under s) → Ready (under s) → RingCallStep s c a t →
    IsRingArmed s ⊎ RearmsRing c a → IsRingArmed t
of_own s t c a own unchecked ready h armed = call_leaves s t c a own unchecked ready.dlab h armed

pub each_leaves : (s t : RingState) (c : RingCall) (a : RingAnswer) → KeepsArmed c → IsUnchecked (under s) → Ready (under s) →
    RingCallStep s c a t → IsRingArmed s ⊎ RearmsRing c a → IsRingArmed t
each_leaves s t (call.Driver c) a keeps unchecked ready h armed = driver_leaves s t c a ready keeps h (none_accepted armed)
each_leaves s t other a keeps unchecked ready h armed = of_own s t other a tt unchecked ready h armed

-- the calls of a session
pub ready_in : (x : Modes) (s : RingState) → InSession x (under s) → Ready (under s)
ready_in x s w = record {
  dlab = dlab-in x (ring_machine s).chip w.stands.modes ∙ w.open_modes.dlab;
  loopback = loopback-in x (ring_machine s).chip w.stands.modes ∙ w.open_modes.loopback;
  fifo = w.stands.modes.fifo ∙ sym w.fifo;
  fits = w.fits;
}

pub chain_leaves : (x : Modes) (s t : RingState) (links : List RingLink) → InSession x (under s) → AllWithinRingSession s links →
    RingChain s links t → IsUnchecked (under s) → AllLeaveRingArmed links
chain_leaves x s t [] w i h unchecked = tt
chain_leaves x s t (link ∷ links) w i h unchecked =
    let W : RingState → Type 0 = λ v. InSession x (under v) in
    let U : RingState → Type 0 = λ v. IsUnchecked (under v) in
    let begins = subst W (sym h.0) w in
    let free = subst U (sym h.0) unchecked in
    let j = first_within s t link links i h in
    let g = ring_goes_call x link.before link.after link.call link.answer begins j.here h.1 in
    let goes = in_session-gone x _ _ _ _ link.before link.after _ begins g in
    let later : IsUnchecked (under link.after) = g.checks ∙ free in (
      λ keeps armed. each_leaves link.before link.after link.call link.answer keeps free (ready_in x link.before begins) h.1 armed,
      chain_leaves g.modes link.after t links goes j.later h.2 later,
    )
