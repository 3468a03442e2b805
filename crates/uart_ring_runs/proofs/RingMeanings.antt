-- What each call of the rings does, in one place: it is made of doings of the driver, it loses nothing, and it leaves the rings armed.
use Rattle.uart_ring_runs.proofs.Names.{◌≡◌, ◌≢◌, ◌<◌, ◌==◌, ℕ, Bool, true, false, not, Option, Some, None, List, [], ◌++◌, append-nil}
use Rattle.uart_ring_runs.proofs.Names.{length, length-take, refl, sym, arith, ⊤, MatchBool, Path, Access, Doing, Call, Answer, reported_by}
use Rattle.uart_ring_runs.proofs.Names.{RingDoing, RingDid, ring_fields, ring_backend_of, with_told_xoff, looked, flow_character}
use Rattle.uart_ring_runs.proofs.Names.{TellsIfAny, AdjustsXoff, xon, Obeys, ObeysXoff, Holds, Releases, ReceiveMarks, LosesOnly, Implies}
use Rattle.uart_ring_runs.proofs.Names.{LeavesArmed, Arms, RingCall, RingAnswer, RingPerformed, queued_by, gone_in, to_send_with}
use Rattle.uart_ring_runs.proofs.Names.{KeepsOrder, SendsNothing, RearmsRing, IsPlain}
use Rattle.uart_call.specs.declared.call.Call.TheVariants as driver
use Rattle.uart_ring.specs.declared.ring.Uart16550Ring.{Uart16550Ring}
use Rattle.uart_ring.proofs.Arming as arming
use Rattle.uart_ring.proofs.Losses as losses
use Rattle.uart_ring.proofs.Rts.{at_marks, adjusts_xoff_loses_only, adjusts_xoff_leave, obeys_xoff_loses_nothing, obeys_xoff_leave}
use Rattle.uart_ring_runs.specs.declared.call.RingCall.TheVariants as call
use Rattle.uart_ring_runs.specs.declared.call.RingAnswer.TheVariants as answers
use Rattle.uart_ring_runs.proofs.RingWalk as walk
use Rattle.uart_ring_runs.proofs.RingWalk.{Walks, InRings}

-- the call is one of the rings themselves that leaves MCR as it is. `adjust_rts` may write it, and has proofs of its own
abbrev pub IsUsual : RingCall → Type 0
IsUsual (call.AdjustRts marks) = ⊥
IsUsual (call.Driver c) = ⊥
IsUsual call.Next = ⊥
IsUsual other = ⊤

-- what is known of a call, over any backend: its accesses, of which holds what holds of each doing of the driver; what it makes of
-- the bytes that wait, what left the receive ring, and which bits of LSR and MSR it told; and that it leaves the rings armed, or
-- arms them
pub record Meant {B : Type 0} (step : B → Access → B → Type 0) (c : RingCall) (a : RingAnswer) (s t : Uart16550Ring B) : Type 1 where
  pub list : List Access
  pub path : Path step (ring_backend_of s) list (ring_backend_of t)
  pub line : ℕ
  pub modem : ℕ
  pub walks : (P : Doing) → Walks P → InRings P (ring_fields s) list (ring_fields t)
  pub loses : LosesOnly (to_send_with c a) (gone_in c a (ring_fields s).receive.items) line modem (ring_fields s) list (ring_fields t)
  pub no_line : c ≢ call.TakeLine → line ≡ 0
  pub no_modem : c ≢ call.TakeModem → modem ≡ 0
  pub leaves : LeavesArmed (ring_fields s) list (ring_fields t)
  pub arms : RearmsRing c a → Arms (ring_fields s) list (ring_fields t)

-- a call that did this, and arms the rings only if it accepts bytes
of_did : {B : Type 0} {step : B → Access → B → Type 0} {G : RingDoing} (c : RingCall) (a : RingAnswer) (s t : Uart16550Ring B)
    (line modem : ℕ) → (did : RingDid step G s t) →
    ((P : Doing) → Walks P → Implies G (InRings P)) →
    LosesOnly (to_send_with c a) (gone_in c a (ring_fields s).receive.items) line modem (ring_fields s) did.list (ring_fields t) →
    (c ≢ call.TakeLine → line ≡ 0) → (c ≢ call.TakeModem → modem ≡ 0) → Implies G LeavesArmed → (RearmsRing c a → Implies G Arms) →
    Meant step c a s t
of_did c a s t line modem did walks loses no_line no_modem leaves arms = record {
  list = did.list;
  path = did.path;
  line = line;
  modem = modem;
  walks = λ P w. walks P w (ring_fields s) did.list (ring_fields t) did.does;
  loses = loses;
  no_line = no_line;
  no_modem = no_modem;
  leaves = leaves (ring_fields s) did.list (ring_fields t) did.does;
  arms = λ r. arms r (ring_fields s) did.list (ring_fields t) did.does;
}

-- what arms in any case leaves armed
left_armed : {G : RingDoing} → Implies G Arms → Implies G LeavesArmed
left_armed arms f l after t = λ unchecked known keeps armed. arms f l after t unchecked known

-- no byte was accepted
none : {T : Type 0} → 0 < length {A = ℕ} [] → T
none some = absurd (omega (arith, some))

-- `adjust_xoff` is a `queue_urgent`, or nothing
tells : (wanted : Option Bool) (told : Option ℕ) (P : Doing) → Walks P → Implies (TellsIfAny wanted told) (InRings P)
tells None told P w f l after t = walk.stays P w f l after t.1
tells (Some on) told P w f l after t = walk.queues_urgent P w (flow_character on) None (with_told_xoff (not on) f) l after t.1

adjusts_xoff : (marks : ReceiveMarks) (told : Option ℕ) (P : Doing) → Walks P → Implies (AdjustsXoff marks told) (InRings P)
adjusts_xoff marks told P w f l after t = tells (at_marks marks f) told P w f l after t

-- `obey_xoff` is a release, a hold, or nothing
obeys : (told : Option ℕ) (P : Doing) → Walks P → Implies (Obeys told) (InRings P)
obeys None P w f l after t = walk.stays P w f l after t
obeys (Some byte) P w f l after t = go (byte == xon) t
  where
    go : (on : Bool) → MatchBool on (Releases f l after) (Holds f l after) → InRings P f l after
    go true t = walk.releases P w f l after t
    go false t = walk.holds P w f l after t

obeys_xoff : (told : Option ℕ) (P : Doing) → Walks P → Implies (ObeysXoff told) (InRings P)
obeys_xoff told P w f l after t = obeys told P w (looked f) l after t.1

-- each call
pub meaning_of : {B : Type 0} {step : B → Access → B → Type 0} (s t : Uart16550Ring B) (c : RingCall) (a : RingAnswer) → IsUsual c →
    RingPerformed step s c a t → Meant step c a s t
meaning_of s t (call.Queue bytes) a usual h = rw h.answered (
    of_did (call.Queue bytes) _ s t 0 0 h.did (λ P w. walk.queues P w bytes.items h.outcome)
    (losses.queues_lose_nothing bytes.items h.outcome (ring_fields s) h.did.list (ring_fields t) h.did.does) (λ n. refl) (λ m. refl)
    (arming.queues_leave bytes.items h.outcome)
    (λ some. arming.queues_arm bytes.items h.outcome (omega (arith, some, length-take h.outcome bytes.items)))
    )
meaning_of s t call.ResumeTransmit a usual h =
    of_did call.ResumeTransmit a s t 0 0 h.did (λ P w. walk.resumes P w)
    (losses.resumes_lose_nothing (ring_fields s) h.did.list (ring_fields t) h.did.does) (λ n. refl) (λ m. refl)
    (left_armed arming.resumes_arm) (λ r. arming.resumes_arm)
meaning_of s t (call.Take slots) a usual h =
    rw h.answered (of_did (call.Take slots) _ s t 0 0 h.did (λ P w. walk.takes P w slots h.outcome)
    (losses.takes_lose_nothing slots h.outcome (ring_fields s) h.did.list (ring_fields t) h.did.does) (λ n. refl) (λ m. refl)
    (arming.takes_leave slots h.outcome) none)
meaning_of s t call.Service a usual h =
    of_did call.Service a s t 0 0 h.did (λ P w. walk.services P w h.outcome)
    (losses.services_lose_nothing h.outcome (ring_fields s) h.did.list (ring_fields t) h.did.does) (λ n. refl) (λ m. refl)
    (arming.services_leave h.outcome) none
meaning_of s t (call.Handle limit) a usual h =
    of_did (call.Handle limit) a s t 0 0 h.did (λ P w. walk.handles P w limit h.outcome)
    (losses.handles_lose_nothing limit h.outcome (ring_fields s) h.did.list (ring_fields t) h.did.does) (λ n. refl) (λ m. refl)
    (arming.handles_leave limit h.outcome) none
meaning_of s t call.Retrigger a usual h =
    of_did call.Retrigger a s t 0 0 h.did (λ P w. walk.retriggers P w)
    (losses.retriggers_lose_nothing (ring_fields s) h.did.list (ring_fields t) h.did.does) (λ n. refl) (λ m. refl)
    arming.retriggers_leave none
meaning_of s t call.TakeLine a usual h =
    of_did call.TakeLine a s t h.outcome 0 h.did (λ P w. walk.takes_line P w h.outcome)
    (losses.takes_line_loses_nothing h.outcome (ring_fields s) h.did.list (ring_fields t) h.did.does) (λ n. absurd (n refl)) (λ m. refl)
    (arming.takes_line_leave h.outcome) none
meaning_of s t call.TakeModem a usual h =
    of_did call.TakeModem a s t 0 h.outcome h.did (λ P w. walk.takes_modem P w h.outcome)
    (losses.takes_modem_loses_nothing h.outcome (ring_fields s) h.did.list (ring_fields t) h.did.does) (λ n. refl) (λ m. absurd (m refl))
    (arming.takes_modem_leave h.outcome) none
meaning_of s t call.HoldTransmit a usual h =
    of_did call.HoldTransmit a s t 0 0 h.did (λ P w. walk.holds P w)
    (losses.holds_lose_nothing (ring_fields s) h.did.list (ring_fields t) h.did.does) (λ n. refl) (λ m. refl)
    arming.holds_leave none
meaning_of s t call.ReleaseTransmit a usual h =
    of_did call.ReleaseTransmit a s t 0 0 h.did (λ P w. walk.releases P w)
    (losses.releases_lose_nothing (ring_fields s) h.did.list (ring_fields t) h.did.does) (λ n. refl) (λ m. refl)
    (left_armed arming.releases_arm) (λ r. arming.releases_arm)
meaning_of s t (call.QueueUrgent byte) a usual h =
    rw h.answered (of_did (call.QueueUrgent byte) _ s t 0 0 h.did (λ P w. walk.queues_urgent P w byte h.outcome)
    (losses.queues_urgent_loses_only byte h.outcome (ring_fields s) h.did.list (ring_fields t) h.did.does) (λ n. refl) (λ m. refl)
    (left_armed (arming.queues_urgent_arm byte h.outcome)) (λ r. arming.queues_urgent_arm byte h.outcome))
meaning_of s t call.ClearTransmit a usual h =
    rw h.answered (of_did call.ClearTransmit _ s t 0 0 h.did (λ P w. walk.clears_transmit P w h.outcome)
    (losses.clears_transmit_loses_only h.outcome (ring_fields s) h.did.list (ring_fields t) h.did.does) (λ n. refl) (λ m. refl)
    (arming.clears_transmit_leave h.outcome) none)
meaning_of s t call.ClearReceive a usual h =
    of_did call.ClearReceive a s t 0 0 h.did (λ P w. walk.clears_receive P w h.outcome)
    (losses.clears_receive_loses_nothing (ring_fields s) h.outcome h.did.list (ring_fields t) h.did.does) (λ n. refl) (λ m. refl)
    (arming.clears_receive_leave h.outcome) none
meaning_of s t (call.SetLowMark mark) a usual h =
    of_did (call.SetLowMark mark) a s t 0 0 h.did (λ P w. walk.sets_low_mark P w mark)
    (losses.sets_low_mark_loses_nothing mark (ring_fields s) h.did.list (ring_fields t) h.did.does) (λ n. refl) (λ m. refl)
    (arming.sets_low_mark_leave mark) none
meaning_of s t call.TakeLow a usual h =
    of_did call.TakeLow a s t 0 0 h.did (λ P w. walk.takes_low P w h.outcome)
    (losses.takes_low_loses_nothing h.outcome (ring_fields s) h.did.list (ring_fields t) h.did.does) (λ n. refl) (λ m. refl)
    (arming.takes_low_leave h.outcome) none
meaning_of s t (call.TryHandle limit rounds) a usual h =
    of_did (call.TryHandle limit rounds) a s t 0 0 h.did (λ P w. walk.tries P w limit rounds h.outcome)
    (losses.tries_lose_nothing limit rounds h.outcome (ring_fields s) h.did.list (ring_fields t) h.did.does) (λ n. refl) (λ m. refl)
    (arming.tries_leave limit rounds h.outcome) none
meaning_of s t (call.Restart interrupts) a usual h =
    of_did (call.Restart interrupts) a s t 0 0 h.did (λ P w. walk.restarts P w interrupts.0)
    (losses.restarts_lose_nothing interrupts.0 (ring_fields s) h.did.list (ring_fields t) h.did.does) (λ n. refl) (λ m. refl)
    (left_armed (arming.restarts_arm interrupts.0)) (λ r. arming.restarts_arm interrupts.0)
meaning_of s t (call.AdjustXoff marks) a usual h =
    rw h.answered (of_did (call.AdjustXoff marks) _ s t 0 0 h.did (adjusts_xoff marks h.outcome)
    (adjusts_xoff_loses_only marks h.outcome (ring_fields s) h.did.list (ring_fields t) h.did.does) (λ n. refl) (λ m. refl)
    (adjusts_xoff_leave marks h.outcome) none)
meaning_of s t call.ObeyXoff a usual h =
    of_did call.ObeyXoff a s t 0 0 h.did (obeys_xoff h.outcome)
    (obeys_xoff_loses_nothing h.outcome (ring_fields s) h.did.list (ring_fields t) h.did.does) (λ n. refl) (λ m. refl)
    (obeys_xoff_leave h.outcome) none
meaning_of s t other a usual h = absurd usual

-- ---- bytes in order

-- a call of the driver that sends nothing has sent nothing
pub none_sent : (c : Call) (a : Answer) → SendsNothing c → reported_by c a ≡ []
none_sent (driver.TrySend byte) a n = absurd n
none_sent (driver.Send bytes) a n = absurd n
none_sent (driver.SendExact bytes) a n = absurd n
none_sent (driver.Write bytes) a n = absurd n
none_sent (driver.Text text) a n = absurd n
none_sent other a n = refl

-- a call that does not overtake or drop adds what it queues to what waits
before_driver : (c : Call) (a : RingAnswer) (bytes : List ℕ) → SendsNothing c →
    to_send_with (call.Driver c) a bytes ≡ bytes ++ queued_by (call.Driver c) a
before_driver c (answers.Driver a) bytes o = rw (none_sent c a o) (sym (append-nil bytes))
before_driver c other bytes o = refl

pub in_order : (c : RingCall) (a : RingAnswer) (bytes : List ℕ) → KeepsOrder c → to_send_with c a bytes ≡ bytes ++ queued_by c a
in_order (call.QueueUrgent byte) a bytes o = absurd o
in_order call.ClearTransmit a bytes o = absurd o
in_order (call.AdjustXoff marks) a bytes o = absurd o
in_order (call.Driver c) a bytes o = before_driver c a bytes o
in_order other a bytes o = refl

-- what tells the rings nothing keeps the order
pub keeps_order : (c : RingCall) → IsPlain c → KeepsOrder c
keeps_order call.HoldTransmit plain = tt
keeps_order call.ObeyXoff plain = tt
keeps_order call.ClearReceive plain = tt
keeps_order (call.TryHandle limit rounds) plain = tt
keeps_order (call.Driver c) plain = plain.0
keeps_order other plain = plain
