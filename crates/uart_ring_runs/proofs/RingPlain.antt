-- That rings which only queue, serve and take are two queues.
use Rattle.uart_ring_runs.proofs.Names.{◌≡◌, ◌⊎◌, ℕ, zero, suc, Bool, true, false, List, [], ◌∷◌, ◌++◌, inl, inr, refl, sym, ◌∙◌, ap, subst}
use Rattle.uart_ring_runs.proofs.Names.{map, length, take, Option, None, Some, option_to_list, AllByRecursion, InterruptType, Uart16550}
use Rattle.uart_ring_runs.proofs.Names.{cut_of, out, MachineState, NoneIs, RingDoing, RingFields, IfAny, AreEmpty, ring_fields}
use Rattle.uart_ring_runs.proofs.Names.{is_full, urgent_left, allowed, unless_held, sendable, with_queued, with_hold, without_taken, free}
use Rattle.uart_ring_runs.proofs.Names.{Pumps, Queues, ResumesTransmit, Releases, SetsLowMark, TakesLow, PausesIfFull, FillsReceiveRing}
use Rattle.uart_ring_runs.proofs.Names.{EndsPause, TakesBytes, rts_at, MakesRtsIfAny, AdjustsRts, ReceiveMarks, ServesInterrupt, ServesOne}
use Rattle.uart_ring_runs.proofs.Names.{Stops, ServesUpTo, Services, Retriggers, RetriggersUnlessIdle, Handles, TakesLine, TakesModem}
use Rattle.uart_ring_runs.proofs.Names.{Restarts, Implies, HandleEnd, Idle, Unknown, Limit, Handled, Pausing, joined_with, rid_of, RingCall}
use Rattle.uart_ring_runs.proofs.Names.{RingAnswer, RingState, ring_machine, RingCallStep, RingLink, RingChain, to_send, to_take, queued}
use Rattle.uart_ring_runs.proofs.Names.{AllKeepOrder, TakesInTurn, AllTakeInTurn, thr_empty_of, IsRingArmed, KeepsArmed, AllLeaveRingArmed}
use Rattle.uart_ring_runs.proofs.Names.{RingConserves, AreUntold, IsPlain, ArePlain, in_transmit_ring, IsEmptyOrDue, AllLeaveEmptyOrDue}
use Rattle.uart_ring_runs.proofs.Names.{ConservesPlainly, SendsAndRetriggers, SendsOnIf, ServesData, ServesTimes}
use Rattle.uart_spec.specs.declared.registers.interrupt_enable.TheConstants.IER
use Rattle.uart_spec.specs.declared.registers.interrupt_type.InterruptType.TheVariants as interrupts
use Rattle.uart_chip.specs.Conserved.{waiting}
use Rattle.uart_ring.specs.Ring as ring
use Rattle.uart_ring_runs.specs.declared.call.RingCall.TheVariants as call
use Rattle.uart_ring_runs.proofs.RingMeanings.{keeps_order}

-- ---- what keeps rings untold

abbrev KeepsUntold : RingDoing
KeepsUntold f l after = AreUntold f → AreUntold after

as_before : (f after : RingFields) → after ≡ f → AreUntold f → AreUntold after
as_before f after is w = subst AreUntold (sym is) w

none_left : (sent : ℕ) (urgent : Option ℕ) → urgent ≡ None → urgent_left sent urgent ≡ None
none_left zero urgent is = is
none_left (suc n) urgent is = refl

pumps_keep : Implies Pumps KeepsUntold
pumps_keep f l after (sent, (t, same)) w = as_before _ after same (none_left sent f.urgent w.0, w.1, w.2)

any_keep : (count : ℕ) (G : RingDoing) → Implies G KeepsUntold → Implies (IfAny count G) KeepsUntold
any_keep zero G h f l after t w = as_before f after t.1 w
any_keep (suc n) G h f l after t w = h f l after t w

queues_keep : (bytes : List ℕ) (count : ℕ) → Implies (Queues bytes count) KeepsUntold
queues_keep bytes count f l after t w = any_keep count Pumps pumps_keep (with_queued (take count bytes) f) l after t.1 w

resumes_keep : Implies ResumesTransmit KeepsUntold
resumes_keep f l after t w = any_keep (length (ring.waiting f)) Pumps pumps_keep f l after t w

releases_keep : Implies Releases KeepsUntold
releases_keep f l after t w = resumes_keep (with_hold false f) l after t (w.0, refl, w.2)

sets_low_mark_keep : (mark : ℕ) → Implies (SetsLowMark mark) KeepsUntold
sets_low_mark_keep mark f l after t w = as_before _ after t.1 w

takes_low_keep : (low : Bool) → Implies (TakesLow low) KeepsUntold
takes_low_keep low f l after t w = as_before _ after t.1.1 w

pausing_keeps : (change : ℕ → ℕ) (paused when : Bool) → Implies (Pausing change paused when) KeepsUntold
pausing_keeps change paused true f l after t w = as_before _ after t.1 w
pausing_keeps change paused false f l after t w = as_before f after t.1 w

pauses_keep : Implies PausesIfFull KeepsUntold
pauses_keep f l after t w = pausing_keeps (rid_of IER.DATA_READY.0) true (is_full f.receive) f l after t w

ends_pause_keeps : Implies EndsPause KeepsUntold
ends_pause_keeps f l after t w = pausing_keeps (joined_with IER.DATA_READY.0) false f.is_paused f l after t w

fills_keep : Implies FillsReceiveRing KeepsUntold
fills_keep f l after (bytes, t) w = pauses_keep t.mid t.back after t.second (as_before _ t.mid t.first.1 w)

takes_keep : (slots : ℕ) (bytes : List ℕ) → Implies (TakesBytes slots bytes) KeepsUntold
takes_keep slots bytes f l after t w =
    any_keep (length bytes) EndsPause ends_pause_keeps (without_taken (length bytes) f) l after t.1 w

takes_line_keep : (line : ℕ) → Implies (TakesLine line) KeepsUntold
takes_line_keep line f l after (status, told, (t, same)) w = as_before _ after same w

takes_modem_keep : (modem : ℕ) → Implies (TakesModem modem) KeepsUntold
takes_modem_keep modem f l after (status, told, (t, same)) w = as_before _ after same w

sends_on_keep : (room : Bool) → Implies (SendsOnIf room) KeepsUntold
sends_on_keep true f l after (zero, t) w = as_before _ after t.1 w
sends_on_keep true f l after (suc n, t) w = pumps_keep f l after (suc n, t) w
sends_on_keep false f l after t w = as_before f after t.1 w

serves_data_keeps : (room : Bool) → Implies (ServesData room) KeepsUntold
serves_data_keeps room f l after t w = sends_on_keep room t.mid t.back after t.second (fills_keep f t.front t.mid t.first w)

serves_keep : (sends room left : Bool) (interrupt : InterruptType) → Implies (ServesInterrupt sends room left interrupt) KeepsUntold
serves_keep sends room left interrupts.ReceiverLineStatus f l after t w = as_before _ after t.2.1 w
serves_keep sends room left interrupts.ReceivedDataReady f l after t w = serves_data_keeps room f l after t.1 w
serves_keep sends room left interrupts.ReceptionTimeout f l after t w = serves_data_keeps room f l after t.1 w
serves_keep sends room left interrupts.TransmitterHoldingRegisterEmpty f l after t w = pumps_keep f l after t.1 w
serves_keep sends room left interrupts.ModemStatus f l after t w = as_before _ after t.1.1.1 w
serves_keep sends room left interrupts.DmaReceptionEndOfTransfer f l after t w = as_before f after t.1.1 w
serves_keep sends room left interrupts.DmaTransmissionEndOfTransfer f l after t w = as_before f after t.1.1 w

serves_one_keeps : (sends room left : Bool) → Implies (ServesOne sends room left) KeepsUntold
serves_one_keeps sends room left f l after (interrupt, t) w =
    serves_keep sends room left interrupt t.mid t.back after t.second (as_before _ t.mid t.first.1 w)

times_keep : (sends : Bool) (n : ℕ) (room left : Bool) → Implies (ServesTimes sends n room left) KeepsUntold
times_keep sends zero room left f l after t w = as_before f after t.1.1 w
times_keep sends (suc n) room left f l after (next, t) w =
    times_keep sends n next left t.mid t.back after t.second (serves_one_keeps sends room next f t.front t.mid t.first w)

stops_keep : (end : HandleEnd) → Implies (Stops end) KeepsUntold
stops_keep Idle f l after t w = as_before _ after t.1 w
stops_keep Unknown f l after t w = as_before _ after t.1 w
stops_keep Limit f l after t w = as_before f after t.1 w

serves_up_to_keep : (sends : Bool) (limit : ℕ) (handled : Handled) (room : Bool) → Implies (ServesUpTo sends limit handled room) KeepsUntold
serves_up_to_keep sends limit handled room f l after t w =
    let u = t.1 in
    stops_keep handled.end u.mid u.back after u.second (times_keep sends handled.served false room f u.front u.mid u.first w)

services_keep : (count : ℕ) → Implies (Services count) KeepsUntold
services_keep count f l after (end, room, t) w = serves_up_to_keep false _ (record { served = count; end = end }) room f l after t w

retriggers_keep : Implies Retriggers KeepsUntold
retriggers_keep f l after t w = as_before _ after t.1 w

sends_and_retriggers_keep : (room : Bool) → Implies (SendsAndRetriggers room) KeepsUntold
sends_and_retriggers_keep room f l after t w = retriggers_keep t.mid t.back after t.second (sends_on_keep room f t.front t.mid t.first w)

unless_idle_keep : (room : Bool) (end : HandleEnd) → Implies (RetriggersUnlessIdle room end) KeepsUntold
unless_idle_keep room Idle f l after t w = as_before f after t.1 w
unless_idle_keep room Unknown f l after t w = sends_and_retriggers_keep room f l after t w
unless_idle_keep room Limit f l after t w = sends_and_retriggers_keep room f l after t w

handles_keep : (limit : ℕ) (handled : Handled) → Implies (Handles limit handled) KeepsUntold
handles_keep limit handled f l after (room, t) w =
    unless_idle_keep room handled.end t.mid t.back after t.second (serves_up_to_keep true limit handled room f t.front t.mid t.first w)

restarts_keep : (bits : ℕ) → Implies (Restarts bits) KeepsUntold
restarts_keep bits f l after t w = resumes_keep t.mid t.back after t.second (as_before _ t.mid t.first.1 (w.0, w.1, refl))

makes_rts_keep : (wanted : Option Bool) → Implies (MakesRtsIfAny wanted) KeepsUntold
makes_rts_keep None f l after t w = as_before f after t.1 w
makes_rts_keep (Some on) f l after t w = as_before _ after t.1 w

adjusts_keep : (marks : ReceiveMarks) → Implies (AdjustsRts marks) KeepsUntold
adjusts_keep marks f l after t w = makes_rts_keep (rts_at marks (free f.receive)) f l after t w

-- ---- calls in turn

call_keeps : (s t : RingState) (c : RingCall) (a : RingAnswer) → IsPlain c → RingCallStep s c a t → AreUntold (ring_fields s) →
    AreUntold (ring_fields t)
call_keeps s t (call.Queue bytes) a plain h w =
    queues_keep bytes.items h.outcome (ring_fields s) h.did.list (ring_fields t) h.did.does w
call_keeps s t call.ResumeTransmit a plain h w = resumes_keep (ring_fields s) h.did.list (ring_fields t) h.did.does w
call_keeps s t (call.Take slots) a plain h w =
    takes_keep slots h.outcome (ring_fields s) h.did.list (ring_fields t) h.did.does w
call_keeps s t call.Service a plain h w = services_keep h.outcome (ring_fields s) h.did.list (ring_fields t) h.did.does w
call_keeps s t (call.Handle limit) a plain h w =
    handles_keep limit h.outcome (ring_fields s) h.did.list (ring_fields t) h.did.does w
call_keeps s t call.Retrigger a plain h w = retriggers_keep (ring_fields s) h.did.list (ring_fields t) h.did.does w
call_keeps s t call.TakeLine a plain h w = takes_line_keep h.outcome (ring_fields s) h.did.list (ring_fields t) h.did.does w
call_keeps s t call.TakeModem a plain h w = takes_modem_keep h.outcome (ring_fields s) h.did.list (ring_fields t) h.did.does w
call_keeps s t call.ReleaseTransmit a plain h w = releases_keep (ring_fields s) h.did.list (ring_fields t) h.did.does w
call_keeps s t (call.SetLowMark mark) a plain h w = sets_low_mark_keep mark (ring_fields s) h.did.list (ring_fields t) h.did.does w
call_keeps s t call.TakeLow a plain h w = takes_low_keep h.outcome (ring_fields s) h.did.list (ring_fields t) h.did.does w
call_keeps s t (call.Restart interrupts) a plain h w =
    restarts_keep interrupts.0 (ring_fields s) h.did.list (ring_fields t) h.did.does w
call_keeps s t (call.AdjustRts marks) a plain h w =
    adjusts_keep marks (ring_fields s) h.did.list (ring_fields t) h.did.does w
call_keeps s t (call.Driver c) a plain h w = as_before _ (ring_fields t) h.rings w
call_keeps s t call.Next a plain h w = as_before (ring_fields s) (ring_fields t) h.rings w
call_keeps s t _ a plain h w = absurd plain

-- the rings are untold before each call, and after it
abbrev AllUntold : List RingLink → Type 0
AllUntold links = AllByRecursion (λ link. AreUntold (ring_fields link.before) × AreUntold (ring_fields link.after)) links

chain_keeps_untold : (s t : RingState) (links : List RingLink) → RingChain s links t → ArePlain links → AreUntold (ring_fields s) →
    AllUntold links × AreUntold (ring_fields t)
chain_keeps_untold s t [] h plain w =
    let U : RingState → Type 0 = λ v. AreUntold (ring_fields v) in
    (tt, subst U (sym h) w)
chain_keeps_untold s t (link ∷ links) h plain w =
    let U : RingState → Type 0 = λ v. AreUntold (ring_fields v) in
    let before = subst U (sym h.0) w in
    let after = call_keeps link.before link.after link.call link.answer plain.0 h.1 before in
    let rest = chain_keeps_untold link.after t links h.2 plain.1 after in
    (((before, after), rest.0), rest.1)

-- ---- what is said of such rings

-- what waits is in the transmit ring, and so is what may be sent
waits_in_ring : (f : RingFields) → AreUntold f → ring.waiting f ≡ f.transmit.items
waits_in_ring f w = ap (λ u. option_to_list u ++ f.transmit.items) w.0

sent_from_ring : (f : RingFields) → AreUntold f → sendable f ≡ f.transmit.items
sent_from_ring f w =
    ap (λ stuck. allowed stuck f.is_held f.urgent f.transmit.items) w.2 ∙
    (ap (λ held. option_to_list f.urgent ++ unless_held held f.transmit.items) w.1 ∙
    ap (λ u. option_to_list u ++ f.transmit.items) w.0)

all_keep_order : (links : List RingLink) → ArePlain links → AllKeepOrder links
all_keep_order [] plain = tt
all_keep_order (link ∷ links) plain = (keeps_order link.call plain.0, all_keep_order links plain.1)

-- a call of the driver receives nothing, and leaves the THR-empty interrupt
takes_in_turn : (c : RingCall) (there : List ℕ) → IsPlain c → TakesInTurn c there
takes_in_turn (call.Driver c) there plain = inl plain.1
takes_in_turn other there plain = tt

all_in_turn : (links : List RingLink) → ArePlain links → AllTakeInTurn links
all_in_turn [] plain = tt
all_in_turn (link ∷ links) plain = (takes_in_turn link.call (to_take link.before) plain.0, all_in_turn links plain.1)

keeps_armed : (c : RingCall) → IsPlain c → KeepsArmed c
keeps_armed (call.Driver c) plain = plain.2
keeps_armed other plain = tt

none_clears : (links : List RingLink) → ArePlain links → NoneIs call.ClearReceive links
none_clears [] plain = tt
none_clears (link ∷ links) plain = (λ e. subst IsPlain e plain.0, none_clears links plain.1)

-- an interrupt is to come, or nothing is to be sent
abbrev IsToCome : MachineState → List ℕ → Type 0
IsToCome m bytes = (bytes ≡ []) ⊎ (((thr_empty_of m).enabled ≡ true) × ((thr_empty_of m).due ≡ true))

armed_plainly : (s : RingState) → AreUntold (ring_fields s) → IsRingArmed s → IsEmptyOrDue s
armed_plainly s w armed =
    let T : List ℕ → Type 0 = λ bytes. IsToCome (ring_machine s) bytes in
    subst T (sent_from_ring (ring_fields s) w) armed

plainly_armed : (s : RingState) → AreUntold (ring_fields s) → IsEmptyOrDue s → IsRingArmed s
plainly_armed s w armed =
    let T : List ℕ → Type 0 = λ bytes. IsToCome (ring_machine s) bytes in
    subst T (sym (sent_from_ring (ring_fields s) w)) armed

all_armed : (links : List RingLink) → ArePlain links → AllUntold links → AllLeaveRingArmed links → AllLeaveEmptyOrDue links
all_armed [] plain untold h = tt
all_armed (link ∷ links) plain untold h = (
  λ begins. armed_plainly link.after untold.0.1 (h.0 (keeps_armed link.call plain.0) (as_found begins)),
  all_armed links plain.1 untold.1 h.1,
)
  where
    as_found : {R : Type 0} → IsEmptyOrDue link.before ⊎ R → IsRingArmed link.before ⊎ R
    as_found (inl armed) = inl (plainly_armed link.before untold.0.0 armed)
    as_found (inr rearms) = inr rearms

-- what was sent, if the bytes that wait are these
sent_of : (before after : List ℕ) (s t : RingState) (links : List RingLink) → to_send s ≡ before → to_send t ≡ after →
    (cut : List ℕ → List ℕ) →
    out (ring_machine t) ++ cut (to_send t) ≡ out (ring_machine s) ++ (cut (to_send s) ++ cut (queued links)) →
    out (ring_machine t) ++ cut after ≡ out (ring_machine s) ++ (cut before ++ cut (queued links))
sent_of before after s t links is_before is_after cut h =
    ap (λ xs. out (ring_machine t) ++ cut xs) (sym is_after) ∙
    (h ∙ ap (λ xs. out (ring_machine s) ++ (cut xs ++ cut (queued links))) is_before)

pub plain_conserves : (s t : RingState) (links : List RingLink) → RingChain s links t → RingConserves s links t →
    AreUntold (ring_fields s) → ArePlain links → ConservesPlainly s links t
plain_conserves s t links chain c w plain =
    let keeps = chain_keeps_untold s t links chain plain w in
    let order = all_keep_order links plain in
    let turn = all_in_turn links plain in
    let begins = waits_in_ring (ring_fields s) w in
    let ends = waits_in_ring (ring_fields t) keeps.1 in
    let took = c.all_taken (none_clears links plain) in
    record {
      sent = sent_of (in_transmit_ring s) (in_transmit_ring t) s t links begins ends (map (cut_of (ring_machine s).chip)) (c.sent order);
      kept = ap (λ xs. xs ++ (to_take t ++ waiting (ring_machine t))) (sym took) ∙ c.kept turn;
      uncut = λ e. record {
        sent = sent_of (in_transmit_ring s) (in_transmit_ring t) s t links begins ends (λ xs. xs) ((c.uncut e).sent order);
        kept = ap (λ xs. xs ++ (to_take t ++ waiting (ring_machine t))) (sym took) ∙ (c.uncut e).kept turn;
      };
      armed = λ unchecked. all_armed links plain keeps.0 (c.armed unchecked);
      untold = keeps.1;
    }

pub empty_are_untold : (r : RingState) (driver : Uart16550 MachineState) (transmit receive : ℕ) → AreEmpty r driver transmit receive →
    AreUntold (ring_fields r)
empty_are_untold r driver transmit receive empty = as_before _ (ring_fields r) empty.begins (refl, refl, refl)
