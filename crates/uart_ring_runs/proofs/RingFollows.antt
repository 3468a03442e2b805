-- What each call of a run of rings keeps, in a session or not. A call of the driver is a run without rings of one call, and so is `next`.
use Rattle.uart_ring_runs.proofs.Names.{◌≡◌, Bool, true, false, List, [], ◌∷◌, Option, Some, None, refl, sym, ◌∙◌, ap, subst, Path, has}
use Rattle.uart_ring_runs.proofs.Names.{Access, Read, Write, settings_of, switched, unlooped, Settings, Call, Answer, Done, MachineStep}
use Rattle.uart_ring_runs.proofs.Names.{IsSound, same_pace, calls_of, answers_of, IsTimely, IsUnchecked, BurstsFit, Ready, State}
use Rattle.uart_ring_runs.proofs.Names.{machine_of, CallStep, Link, Chain, IsRun, Follows, AllFollow, unlooped_off, ready_by, kept_list}
use Rattle.uart_ring_runs.proofs.Names.{NeverWrites, blocks_never, unwritten, modes_of, in_session, fits_by, RingFields, ring_fields, free}
use Rattle.uart_ring_runs.proofs.Names.{MakesRtsIfAny, rts_at, adjusts_lose_nothing, RingCall, RingAnswer, RingFollows, RingState, under}
use Rattle.uart_ring_runs.proofs.Names.{ring_machine, DriverCalled, RingGoesOn, RingCallStep, RingLink, RingChain, IsWithinRingSession}
use Rattle.uart_ring_runs.proofs.Names.{AllRingFollow, lasts_sound}
use Rattle.uart_spec.specs.declared.registers.modem_control.TheConstants.MCR
use Rattle.uart_spec.specs.declared.registers.offsets.TheConstants as offsets
use Rattle.uart_call.specs.declared.call.Call.TheVariants as driver
use Rattle.uart_chip.specs.Switching.{SameSizes}
use Rattle.uart_chip.proofs.lasting.FifoSizes.{same_size}
use Rattle.uart_chip.proofs.lasting.Flows.{flow-path}
use Rattle.uart_run.proofs.Follows.{ran}
use Rattle.uart_run.proofs.progress.Nearing.{ticked-path}
use Rattle.uart_ring_runs.specs.declared.call.RingCall.TheVariants as call
use Rattle.uart_ring_runs.proofs.{RingArming.ready_in, RingBlocks.MakesBlocks, RingBlocks.in_blocks, RingGoes.ring_goes_call}
use Rattle.uart_ring_runs.proofs.{RingGoes.in_session-gone, RingLasts.driver_step, RingLasts.ring_lasts_call, RingMeanings.IsUsual}
use Rattle.uart_ring_runs.proofs.{RingMeanings.meaning_of, RingRts.rts_accesses, RingRts.rts_leaves}

-- ---- a call of the driver, and `next`

followed : (s t : State) (c : Call) (a : Answer) (links : List Link) → calls_of links ≡ c ∷ [] → answers_of links ≡ a ∷ [] →
    AllFollow links → Chain s links t → Follows s c a t
followed s t c a [] calls answers follows chain = absurd (cc (calls))
followed s t c a (link ∷ []) calls answers follows chain =
    let is : link.call ≡ c = cc (calls) in
    let answered : link.answer ≡ a = cc (answers) in
    subst (λ (v : State). Follows v c a t) chain.0 (subst (λ (d : Call). Follows link.before d a t) is
    (subst (λ (b : Answer). Follows link.before link.call b t) answered
    (subst (λ (v : State). Follows link.before link.call link.answer v) (sym chain.2) follows.0)))
followed s t c a (link ∷ next ∷ links) calls answers follows chain = absurd (cc (calls))

-- a run of one call
follows_one : (s t : State) (c : Call) (a : Answer) → IsSound (machine_of s) → CallStep s c a t → Follows s c a t
follows_one s t c a sound h =
    let link : Link = record { before = s; call = c; answer = a; after = t } in
    let run : IsRun s (c ∷ []) (a ∷ []) t =
    record { links = link ∷ []; chain = (refl, h, refl); calls_same = refl; answers_same = refl } in
    let r = ran s t (c ∷ []) (a ∷ []) sound run in
    followed s t c a r.run.links r.run.calls_same r.run.answers_same r.follows r.run.chain

driver_follows : (s t : RingState) (c : Call) (a : RingAnswer) → IsSound (ring_machine s) → DriverCalled MachineStep c a s t →
    RingFollows s (call.Driver c) a t
driver_follows s t c a sound h =
    let f = follows_one (under s) (under t) c h.outcome sound (driver_step s t c a h) in
    record {
      ready = f.ready;
      takes = f.takes;
      size = f.size;
      timely = f.timely;
      checks = f.checks;
      flow = f.flow;
      driver = rw h.answered f;
    }

next_follows : (s t : RingState) (a : RingAnswer) → IsSound (ring_machine s) → RingGoesOn a s t → RingFollows s call.Next a t
next_follows s t a sound h =
    let step : CallStep (under s) driver.Next Done (under t) =
    record { answered = refl; machine = h.machine; driver = ap (λ (f : RingFields). f.driver) h.rings } in
    let f = follows_one (under s) (under t) driver.Next Done sound step in
    record {
      ready = f.ready;
      takes = f.takes;
      size = λ keeps. f.size tt;
      timely = λ keeps. f.timely tt;
      checks = λ keeps. f.checks tt;
      flow = f.flow;
      driver = tt;
    }

-- ---- a call of the rings themselves

-- it makes accesses that write no FCR, and the driver has the same settings
record Keeps (s t : RingState) : Type 0 where
  pub list : List Access
  pub path : Path MachineStep (ring_machine s) list (ring_machine t)
  pub spared : NeverWrites offsets.FCR list
  pub settings : settings_of (ring_fields t).driver ≡ settings_of (ring_fields s).driver

module _ (s t : RingState) (k : Keeps s t) where
  kept_sizes : SameSizes (ring_machine s).chip (ring_machine t).chip
  kept_sizes =
      same_size k.list (ring_machine s) (ring_machine t) (unwritten k.list k.spared (ring_machine s).chip.latches.lcr) k.path

  kept_fits : BurstsFit (under s) → BurstsFit (under t)
  kept_fits = fits_by (under s) (under t) (ap (λ (v : Settings). v.size) k.settings) kept_sizes.transmitter

  kept_timely : IsTimely (under s) → IsTimely (under t)
  kept_timely timely =
      let pace = same_pace k.list (ring_machine s) (ring_machine t) k.path in
      record {
        ticked = ticked-path k.list (ring_machine s) (ring_machine t) timely.ticked k.path;
        limit = rw (kept_sizes.transmitter, pace.char_ticks, ap (λ (v : Settings). v.limit) k.settings) timely.limit;
      }

  kept_unchecked : IsUnchecked (under s) → IsUnchecked (under t)
  kept_unchecked unchecked = ap (λ (v : Settings). v.checks) k.settings ∙ unchecked

  kept_flow : (ring_machine t).chip.auto_flow ≡ (ring_machine s).chip.auto_flow
  kept_flow = flow-path k.list (ring_machine s) (ring_machine t) k.path

usual_keeps : (s t : RingState) (c : RingCall) (a : RingAnswer) → IsUsual c → RingCallStep s c a t → Keeps s t
usual_keeps s t (call.AdjustRts marks) a usual h = absurd usual
usual_keeps s t (call.Driver c) a usual h = absurd usual
usual_keeps s t call.Next a usual h = absurd usual
usual_keeps s t other a usual h =
    let m = meaning_of s t other a tt h in
    record {
      list = m.list;
      path = m.path;
      spared = blocks_never _ m.list _ _ (m.walks MakesBlocks in_blocks).blocks;
      settings = m.loses.settings;
    }

usual_ready : (s t : RingState) (c : RingCall) (a : RingAnswer) → IsSound (ring_machine s) → IsWithinRingSession s c →
    RingCallStep s c a t → Ready (under s) → Ready (under t)
usual_ready s t c a sound within h ready =
    let x = modes_of (under s) in
    let w = in_session (under s) ready sound in
    let g = ring_goes_call x s t c a w within h in
    ready_in g.modes t (in_session-gone x _ _ _ _ s t _ w g)

-- `adjust_rts` makes the state ready also where a session would not go on: it writes MCR without loopback, or not at all
adjusted_ready : (s t : RingState) (shown on : Bool) (mcr bits : _) (l : List Access) → l ≡ rts_accesses shown on mcr (unlooped bits) →
    Path MachineStep (ring_machine s) l (ring_machine t) → (ring_fields t).driver.fifo ≡ (ring_fields s).driver.fifo →
    BurstsFit (under t) → Ready (under s) → Ready (under t)
adjusted_ready s t true true mcr bits l is path fifo fits ready =
    ready_by (under t) _ (kept_list l (Read offsets.MCR mcr ∷ []) (ring_machine s) (ring_machine t) is path) ready.dlab ready.loopback
    (fifo ∙ sym ready.fifo) fits
adjusted_ready s t false false mcr bits l is path fifo fits ready =
    ready_by (under t) _ (kept_list l (Read offsets.MCR mcr ∷ []) (ring_machine s) (ring_machine t) is path) ready.dlab ready.loopback
    (fifo ∙ sym ready.fifo) fits
adjusted_ready s t true false mcr bits l is path fifo fits ready =
    ready_by (under t) _
    (kept_list l (Read offsets.MCR mcr ∷ Write offsets.MCR (unlooped bits) ∷ []) (ring_machine s) (ring_machine t) is path) ready.dlab
    (unlooped_off (ring_machine s).chip.auto_flow bits) (fifo ∙ sym ready.fifo) fits
adjusted_ready s t false true mcr bits l is path fifo fits ready =
    ready_by (under t) _
    (kept_list l (Read offsets.MCR mcr ∷ Write offsets.MCR (unlooped bits) ∷ []) (ring_machine s) (ring_machine t) is path) ready.dlab
    (unlooped_off (ring_machine s).chip.auto_flow bits) (fifo ∙ sym ready.fifo) fits

rts_ready : (s t : RingState) (wanted : Option Bool) (l : List Access) → MakesRtsIfAny wanted (ring_fields s) l (ring_fields t) →
    Path MachineStep (ring_machine s) l (ring_machine t) → (ring_fields t).driver.fifo ≡ (ring_fields s).driver.fifo →
    BurstsFit (under t) → Ready (under s) → Ready (under t)
rts_ready s t None l d path fifo fits ready =
    ready_by (under t) _ (kept_list l [] (ring_machine s) (ring_machine t) d.0 path) ready.dlab ready.loopback (fifo ∙ sym ready.fifo) fits
rts_ready s t (Some on) l (((mcr, is), saved), same) path fifo fits ready =
    adjusted_ready s t (has mcr MCR.RTS.0) on mcr (switched on MCR.RTS.0 mcr) l is path fifo fits ready

own_follows : (s t : RingState) (c : RingCall) (a : RingAnswer) → IsUsual c → IsSound (ring_machine s) → IsWithinRingSession s c →
    RingCallStep s c a t → RingFollows s c a t
own_follows s t (call.AdjustRts marks) a usual sound within h = absurd usual
own_follows s t (call.Driver c) a usual sound within h = absurd usual
own_follows s t call.Next a usual sound within h = absurd usual
own_follows s t other a usual sound within h =
    let k = usual_keeps s t other a usual h in
    record {
      ready = usual_ready s t other a sound within h;
      takes = ap (λ (v : Settings). v.size) k.settings;
      size = λ keeps. kept_sizes s t k;
      timely = λ keeps. kept_timely s t k;
      checks = λ keeps. kept_unchecked s t k;
      flow = kept_flow s t k;
      driver = tt;
    }

-- ---- each call

ring_follows : (s t : RingState) (c : RingCall) (a : RingAnswer) → IsSound (ring_machine s) → RingCallStep s c a t → RingFollows s c a t
ring_follows s t (call.AdjustRts marks) a sound h =
    let wanted = rts_at marks (free (ring_fields s).receive) in
    let d = h.did in
    let k : Keeps s t = record {
      list = d.list;
      path = d.path;
      spared = rts_leaves offsets.FCR refl wanted (ring_fields s) d.list (ring_fields t) d.does;
      settings = (adjusts_lose_nothing marks (ring_fields s) d.list (ring_fields t) d.does).settings;
    } in
    record {
      ready = λ ready. rts_ready s t wanted d.list d.does d.path (ap (λ (v : Settings). v.fifo) k.settings)
          (kept_fits s t k ready.fits) ready;
      takes = ap (λ (v : Settings). v.size) k.settings;
      size = λ keeps. kept_sizes s t k;
      timely = λ keeps. kept_timely s t k;
      checks = λ keeps. kept_unchecked s t k;
      flow = kept_flow s t k;
      driver = tt;
    }
ring_follows s t (call.Driver c) a sound h = driver_follows s t c a sound h
ring_follows s t call.Next a sound h = next_follows s t a sound h
ring_follows s t other a sound h = own_follows s t other a tt sound tt h

pub ring_follow_chain : (s t : RingState) (links : List RingLink) → IsSound (ring_machine s) → RingChain s links t → AllRingFollow links
ring_follow_chain s t [] sound h = tt
ring_follow_chain s t (link ∷ links) sound h =
    let begins = subst (λ (v : RingState). IsSound (ring_machine v)) (sym h.0) sound in (
      ring_follows link.before link.after link.call link.answer begins h.1,
      ring_follow_chain link.after t links (ring_lasts_call link.before link.after link.call link.answer lasts_sound begins h.1) h.2,
    )
