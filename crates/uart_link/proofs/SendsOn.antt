-- An end with an empty transmitter goes on to send: at least one byte leaves its rings.
use Rattle.uart_link.proofs.Names.{◌≡◌, ◌⊎◌, inl, inr, ℕ, zero, suc, ◌≤◌, ◌+◌, ◌-◌, ◌<◌, ◌==◌, ◌&&◌, ◌||◌, not, Bool, true, false, List, []}
use Rattle.uart_link.proofs.Names.{◌++◌, length, Option, Some, length-append, if◌then◌else◌, refl, sym, ◌∙◌, ap, subst, arith, is_some}
use Rattle.uart_link.proofs.Names.{length-map, has, has_any, Access, InterruptType, settings_of, has_one, Modes, loopback-in, dlab-in}
use Rattle.uart_link.proofs.Names.{lasts-before_mark, ChipState, is_loopback, is_dlab_set, interrupt, MachineState, at_access, at_mark}
use Rattle.uart_link.proofs.Names.{arrivals, data_written, RingFields, ring_fields, sendable, MakesBlocks, in_blocks, modes_at, is_line_up}
use Rattle.uart_link.proofs.Names.{to_send, queued_by, KeepsOrder, RingState, RingCallStep, ring_machine, IsOfRings, RingAnswer, RingCall}
use Rattle.uart_link.proofs.Names.{Moment, to_come, settled, lines_from, SeesLines, EndStep, CabledCallStep, ServedAll}
use Rattle.uart_spec.specs.declared.registers.interrupt_enable.TheConstants.IER
use Rattle.uart_spec.specs.declared.registers.interrupt_type.InterruptType.TheVariants as interrupts
use Rattle.uart_spec.specs.declared.registers.modem_control.TheConstants.MCR
use Rattle.uart_spec.specs.declared.registers.modem_status.TheConstants.MSR
use Rattle.uart_ring.specs.Armed.{IsArmed}
use Rattle.uart_ring.specs.Ring.{waiting}
use Rattle.uart_ring_runs.proofs.RingArming.{call_leaves}
use Rattle.uart_ring_runs.proofs.RingWalk as walk
use Rattle.uart_ring_runs.proofs.RingDue.{mark_holds}
use Rattle.uart_ring_runs.specs.RingArmed.{thr_empty_of, is_due, IsRingArmed, RearmsRing}
use Rattle.uart_ring_runs.specs.declared.call.RingAnswer.TheVariants as answers
use Rattle.uart_ring_runs.specs.declared.call.RingCall.TheVariants as call
use Rattle.uart_link.proofs.{Arranges.arranged_events, Calm.AllLeaveMcr, Calm.AllLeaveCts, Calm.HasCts, Calm.cts_path, Calm.blocks_leave}
use Rattle.uart_link.proofs.{EndActs.end_begins, EndFlows.cts_arranged, EndFlows.cts_at_first, EndPasses.InEnd, EndPasses.call_passes}
use Rattle.uart_link.proofs.{Held.AllShowCts, Resumes.IsThrEmpty, Resumes.thr_empty_lasts, Resumes.resumes_some, Taking.served_down}

-- ---- by a `resume_transmit`

pub resumed : (x : Modes) (moments : List Moment) (there s t : RingState) (a : RingAnswer) → InEnd x s →
    EndStep moments there s call.ResumeTransmit a t → SeesLines moments →
    ((ring_fields s).driver.config.check_cts_before_sending ≡ true →
    has_any (lines_from (ring_machine there).chip) MSR.CTS.0 ≡ true) → sendable (ring_fields s) ≡ waiting (ring_fields s) →
    0 < length (to_send s) → IsThrEmpty (ring_machine s).chip.transmitter → length (to_send t) < length (to_send s)
resumed x moments there s t a w h lines clear free some empty =
    let begins = h.begins in
    let m = ring_machine begins in
    let f = ring_fields begins in
    let d = h.called.did in
    let far = (ring_machine there).chip in
    let c = (settled (ring_machine s)).chip in
    let left = to_come c - arrivals (arranged_events moments far c) in
    let b = end_begins x moments there s t call.ResumeTransmit a w h in
    let same : f ≡ ring_fields s = h.arranges.rings in
    let chip : m.chip ≡ c = ap (λ (o : MachineState). o.chip) h.arranges.machine in
    let E : ChipState → Type 0 = λ o. IsThrEmpty o.transmitter in
    let thr : IsThrEmpty m.chip.transmitter = subst E (sym chip)
    (lasts-before_mark IsThrEmpty thr_empty_lasts.in_tick (ring_machine s).ahead (ring_machine s).chip empty) in
    let blocks = (walk.resumes MakesBlocks in_blocks f d.list (ring_fields t) d.does).blocks in
    let A : List Access → Type 0 = λ l. AllLeaveMcr l in
    let leaves : AllLeaveMcr d.list = subst A (sym blocks.joined) (blocks_leave _ blocks.blocks blocks.fit) in
    let off : is_loopback m.chip.latches ≡ false =
    loopback-in _ m.chip b.session.session.stands.modes ∙ b.session.session.open_modes.loopback in
    let loop : has_any c.latches.mcr MCR.LOOP_BACK.0 ≡ false =
    ap (λ (o : ChipState). has_any o.latches.mcr MCR.LOOP_BACK.0) (sym chip) ∙ off in
    let shown : (settings_of f.driver).checks ≡ true → AllShowCts true d.list = λ on.
    let cts = clear (ap (λ (g : RingFields). g.driver.config.check_cts_before_sending) (sym same) ∙ on) in
    let L : MachineState → Type 0 = λ o. AllLeaveCts true o.ahead in
    let ahead : AllLeaveCts true m.ahead = subst L (sym h.arranges.machine) (cts_arranged true moments far c left cts) in
    let H : MachineState → Type 0 = λ o. HasCts true (at_access o).chip in
    let first : HasCts true (at_access m).chip =
    subst H (sym h.arranges.machine) (cts_at_first true moments lines.0 far c left lines.1 cts loop) in
    cts_path true d.list m (ring_machine t) b.session.session.stands.sound first ahead leaves d.path in
    let F : RingFields → Type 0 = λ g. sendable g ≡ waiting g in
    let number : length (waiting f) ≡ length (to_send s) = ap (λ (g : RingFields). length (waiting g)) same in
    let fewer = resumes_some f (ring_fields t) d.list m (ring_machine t) d.does (subst F (sym same) free) (omega (arith, number, some)) thr
    shown d.path in
    omega (arith, fewer, number)

-- ---- by the handler

-- what is armed stays so while moments happen
armed_settled : (m : MachineState) (f : RingFields) → IsArmed (thr_empty_of m) f → IsArmed (thr_empty_of (at_mark m)) f
armed_settled m f (inl none) = inl none
armed_settled m f (inr is) = let h = mark_holds (thr_empty_of m) m (λ e. e, λ e. e) in inr (h.0 is.0, h.1 is.1)

-- rings that are armed are so once the moments of a call lie ahead
armed_begins : (moments : List Moment) (there s t : RingState) (c : RingCall) (a : RingAnswer) → (h : EndStep moments there s c a t) →
    IsRingArmed s → IsRingArmed h.begins
armed_begins moments there s t c a h armed =
    let old = ring_machine s in
    let m = ring_machine h.begins in
    let chip : m.chip ≡ (at_mark old).chip = ap (λ (o : MachineState). o.chip) h.arranges.machine in
    let K : ChipState → Type 0 = λ d. IsArmed (thr_empty_of (record { chip = d; ahead = [] })) (ring_fields s) in
    let first : IsArmed (thr_empty_of m) (ring_fields s) = subst K (sym chip) (armed_settled old (ring_fields s) armed) in
    let F : RingFields → Type 0 = λ f. IsArmed (thr_empty_of m) f in
    subst F (sym h.arranges.rings) first

-- no interrupt is pending, and the one of THR is enabled and due: so something is in the queue
some_queued : (c : ChipState) → is_some (interrupt c) ≡ false → has c.latches.ier IER.THR_EMPTY.0 ≡ true →
    is_due c.transmitter ≡ true → 0 < length c.transmitter.queue
some_queued c down enabled due =
    let pending : Bool = c.transmitter.is_thr_pending in
    let none : (has_any c.latches.ier IER.THR_EMPTY.0 && pending) ≡ false = fourth _ _ _ _ _ down in
    let not_pending : pending ≡ false = ap (λ b. b && pending) (sym (sym (has_one 1 c.latches.ier) ∙ enabled)) ∙ none in
    let queued : (not (length c.transmitter.queue == 0) || false) ≡ true =
    ap (λ b. not (length c.transmitter.queue == 0) || b) (sym not_pending) ∙ due in
    by (length c.transmitter.queue) queued
  where
    fourth : (a b d e : Bool) (others : Option InterruptType) →
        is_some (if a then Some interrupts.ReceiverLineStatus else if b then Some interrupts.ReceivedDataReady
        else if d then Some interrupts.ReceptionTimeout
        else if e then Some interrupts.TransmitterHoldingRegisterEmpty else others) ≡ false →
        e ≡ false
    fourth true b d e others h = absurd (cc)
    fourth false true d e others h = absurd (cc)
    fourth false false true e others h = absurd (cc)
    fourth false false false true others h = absurd (cc)
    fourth false false false false others h = refl

    by : (n : ℕ) → (not (n == 0) || false) ≡ true → 0 < n
    by zero h = absurd (cc)
    by (suc n) h = omega arith

-- a call that serves interrupts is a ring call, and keeps the order
record Serves (s t : RingState) (c : RingCall) (a : RingAnswer) : Type 0 where
  pub own : IsOfRings c
  pub ring : RingCallStep s c a t
  pub order : KeepsOrder c
  pub none : length (queued_by c a) ≡ 0

serves : (s t : RingState) (c : RingCall) (a : RingAnswer) → CabledCallStep s c a t → ServedAll c a → Serves s t c a
serves s t (call.Handle limit) (answers.Handled handled) h served = record { own = tt; ring = h; order = tt; none = refl }
serves s t call.Service (answers.Count count) h served = record { own = tt; ring = h; order = tt; none = refl }
serves s t other a h served = absurd served

pub handled_on : (x : Modes) (moments : List Moment) (there s t : RingState) (c : RingCall) (a : RingAnswer) → InEnd x s →
    EndStep moments there s c a t → ServedAll c a → (ring_fields s).driver.config.check_cts_before_sending ≡ false →
    IsRingArmed s → sendable (ring_fields t) ≡ waiting (ring_fields t) → 0 < length (to_send s) →
    IsThrEmpty (ring_machine s).chip.transmitter → length (to_send t) < length (to_send s)
handled_on x moments there s t c a w h served unchecked armed free some empty =
    let r = serves h.begins t c a h.called served in
    let begins = h.begins in
    let m = ring_machine begins in
    let old = ring_machine s in
    let b = end_begins x moments there s t c a w h in
    let same : ring_fields begins ≡ ring_fields s = h.arranges.rings in
    let chip : m.chip ≡ (at_mark old).chip = ap (λ (o : MachineState). o.chip) h.arranges.machine in
    let E : ChipState → Type 0 = λ o. IsThrEmpty o.transmitter in
    let thr : IsThrEmpty m.chip.transmitter =
    subst E (sym chip) (lasts-before_mark IsThrEmpty thr_empty_lasts.in_tick old.ahead old.chip empty) in
    let ready = armed_begins moments there s t c a h armed in
    let off = dlab-in _ m.chip b.session.session.stands.modes ∙ b.session.session.open_modes.dlab in
    let checks = ap (λ (f : RingFields). f.driver.config.check_cts_before_sending) same ∙ unchecked in
    let after = call_leaves begins t c a r.own checks off r.ring (inl ready) in
    let down = served_down moments there s t c a h served in
    let p = call_passes x begins t c a r.own b.session r.ring in
    let kept : length (data_written p.ends.made ++ to_send t) ≡ length (to_send begins ++ queued_by c a) =
    ap length (p.ends.sent r.order) in
    let sum = length-append (data_written p.ends.made) (to_send t) in
    let other = length-append (to_send begins) (queued_by c a) in
    let accepted = r.none in
    let number : length (to_send begins) ≡ length (to_send s) = ap (λ (f : RingFields). length (waiting f)) same in
    let place = p.ends.went.sends.place in
    let sizes = length-map (data_written p.ends.made) (modes_at x t).cut in
    let none : length m.chip.transmitter.queue ≡ 0 = ap length thr in
    by (length (to_send s)) (length (to_send t)) (length (data_written p.ends.made)) after down free
    (omega (arith, kept, sum, other, number, accepted))
    (omega (arith, place, sizes, none)) some refl
  where
    by : (before now written : ℕ) → IsRingArmed t → is_line_up (ring_machine t) ≡ false →
        sendable (ring_fields t) ≡ waiting (ring_fields t) → written + now ≡ before →
        length (ring_machine t).chip.transmitter.queue ≤ written →
        0 < before → length (to_send t) ≡ now → now < before
    by before now written (inl done) down free all few some same =
        let e : length (to_send t) ≡ 0 = ap length (sym free ∙ done) in omega (arith, e, same, some)
    by before now written (inr is) down free all few some same =
        let q = some_queued (ring_machine t).chip down is.0 is.1 in omega (arith, q, few, all)

-- ---- each call

pub leaves_armed : (x : Modes) (moments : List Moment) (there s t : RingState) (c : RingCall) (a : RingAnswer) → InEnd x s →
    EndStep moments there s c a t → (ring_fields s).driver.config.check_cts_before_sending ≡ false → IsRingArmed s ⊎ RearmsRing c a →
    IsRingArmed t
leaves_armed x moments there s t c a w h unchecked armed =
    let b = end_begins x moments there s t c a w h in
    let off = dlab-in _ (ring_machine h.begins).chip b.session.session.stands.modes ∙ b.session.session.open_modes.dlab in
    let checks = ap (λ (f : RingFields). f.driver.config.check_cts_before_sending) h.arranges.rings ∙ unchecked in
    by h.begins c a h.called checks off (either armed)
  where
    either : IsRingArmed s ⊎ RearmsRing c a → IsRingArmed h.begins ⊎ RearmsRing c a
    either (inl p) = inl (armed_begins moments there s t c a h p)
    either (inr q) = inr q

    by : (begins : RingState) (c : RingCall) (a : RingAnswer) → CabledCallStep begins c a t →
        (ring_fields begins).driver.config.check_cts_before_sending ≡ false → is_dlab_set (ring_machine begins).chip.latches ≡ false →
        IsRingArmed begins ⊎ RearmsRing c a → IsRingArmed t
    by begins call.Next a h checks off (inl p) =
        let m = ring_machine begins in
        let chip : (ring_machine t).chip ≡ (at_mark m).chip = ap (λ (o : MachineState). o.chip) h.passes.machine in
        let K : ChipState → Type 0 = λ d. IsArmed (thr_empty_of (record { chip = d; ahead = [] })) (ring_fields begins) in
        let first : IsArmed (thr_empty_of (ring_machine t)) (ring_fields begins) =
        subst K (sym chip) (armed_settled m (ring_fields begins) p) in
        let F : RingFields → Type 0 = λ f. IsArmed (thr_empty_of (ring_machine t)) f in
        subst F (sym h.passes.rings) first
    by begins call.Next a h checks off (inr q) = absurd (omega (arith, q))
    by begins (call.Driver c) a h checks off p = absurd h
    by begins other a h checks off p = call_leaves begins t other a tt checks off h p
