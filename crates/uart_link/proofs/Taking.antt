-- What an end does to take all that has come: its handler runs until no interrupt is pending, and its program takes.
use Rattle.uart_link.proofs.Names.{◌≡◌, ◌⊎◌, inl, inr, ℕ, zero, suc, ◌<◌, ◌&&◌, Bool, true, false, nat_lt, List, [], ◌∷◌, Option, Some}
use Rattle.uart_link.proofs.Names.{None, MatchBool, length, take, if◌then◌else◌, refl, sym, ◌∙◌, ap, arith, ◌==◌, is_some, common_steps}
use Rattle.uart_link.proofs.Names.{nat_tests, length-take, drop_all, has_any, Access, InterruptType, Enables, ChipState, interrupt}
use Rattle.uart_link.proofs.Names.{ReceiverState, characters_of, is_timed_out, is_data_pending, Character, EndsPause, RingFields}
use Rattle.uart_link.proofs.Names.{ring_fields, IfAny, OnDriver, Stays, with_paused, without_taken, Handled, is_line_up, to_take, taken_by}
use Rattle.uart_link.proofs.Names.{RingState, ring_machine, taken_answer, RingAnswer, RingCall, Moment, receiver_at, EndStep, ServedAll}
use Rattle.uart_link.proofs.Names.{IsEachTold}
use Rattle.uart_spec.specs.declared.registers.interrupt_enable.TheConstants.IER
use Rattle.uart_spec.specs.declared.registers.interrupt_type.InterruptType.TheVariants.{ReceiverLineStatus, ReceivedDataReady}
use Rattle.uart_spec.specs.declared.registers.interrupt_type.InterruptType.TheVariants.{ReceptionTimeout}
use Rattle.uart_ring_runs.proofs.RingEdges.{handled_down, serviced_down}
use Rattle.uart_ring_runs.specs.declared.call.RingAnswer.TheVariants as answers
use Rattle.uart_ring_runs.specs.declared.call.RingCall.TheVariants as call

-- ---- the handler

none_pending : (c : ChipState) → is_data_pending c.fifo c.receiver ≡ false → is_timed_out c.fifo c.receiver ≡ false → IsEachTold c →
    c.receiver.queue ≡ []
none_pending c e f told = go c.fifo refl told
  where
    r : ReceiverState
    r = c.receiver

    empty : nat_lt 0 (length r.queue) ≡ false → r.queue ≡ []
    empty h = by r.queue refl
      where
        by : (queue : List Character) → r.queue ≡ queue → queue ≡ []
        by [] q = refl
        by (x ∷ xs) q = let k : length r.queue ≡ suc (length xs) = ap length q in absurd (grind (arith, common_steps))

    go : (b : Bool) → c.fifo ≡ b → (b ≡ false) ⊎ (characters_of r.size r.trigger ≡ 1) ⊎ (r.timeout_ticks ≡ r.timeout_limit) → r.queue ≡ []
    go false g told = empty (rw g at e)
    go true g (inl off) = absurd (cc)
    go true g (inr (inl one)) = empty (rw (g, one) at e)
    go true g (inr (inr due)) =
        let same : (r.timeout_ticks == r.timeout_limit) ≡ true = grind (arith, nat_tests) in
        let h : (nat_lt 0 (length r.queue) && true) ≡ false = rw (g, same) at f in empty (and_true (nat_lt 0 (length r.queue)) h)
      where
        and_true : (b : Bool) → (b && true) ≡ false → b ≡ false
        and_true true h = h
        and_true false h = refl

-- no interrupt is pending, and DATA_READY is enabled
record NoneReceived (c : ChipState) : Type 0 where
  pub at_level : is_data_pending c.fifo c.receiver ≡ false
  pub timeout : is_timed_out c.fifo c.receiver ≡ false

none_received : (c : ChipState) → interrupt c ≡ None → has_any c.latches.ier IER.DATA_READY.0 ≡ true → NoneReceived c
none_received c none enabled =
    let both = second _ _ _ _ none in record {
      at_level = ap (λ b. b && is_data_pending c.fifo c.receiver) (sym enabled) ∙ both.0;
      timeout = ap (λ b. b && is_timed_out c.fifo c.receiver) (sym enabled) ∙ both.1;
    }
  where
    second : (a b d : Bool) (others : Option InterruptType) →
        (if a then Some ReceiverLineStatus else if b then Some ReceivedDataReady else if d then Some ReceptionTimeout else others) ≡ None →
        (b ≡ false) × (d ≡ false)
    second true b d others e = absurd (cc)
    second false true d others e = absurd (cc)
    second false false true others e = absurd (cc)
    second false false false others e = (refl, refl)

-- then the line is low
pub served_down : (moments : List Moment) (there s t : RingState) (c : RingCall) (a : RingAnswer) → EndStep moments there s c a t →
    ServedAll c a → is_line_up (ring_machine t) ≡ false
served_down moments there s t (call.Handle limit) (answers.Handled handled) h served =
    let d = h.called.did in
    let same : h.called.outcome ≡ handled = ap (handled_of handled) (sym h.called.answered) in
    handled_down limit h.called.outcome (ring_fields h.begins) d.list (ring_fields t) d.does (ap (λ o. o.end) same ∙ served)
    (ring_machine h.begins) (ring_machine t) d.path
  where
    handled_of : Handled → RingAnswer → Handled
    handled_of other (answers.Handled handled) = handled
    handled_of other a = other
served_down moments there s t call.Service (answers.Count count) h served =
    let d = h.called.did in
    let same : h.called.outcome ≡ count = ap (count_of count) (sym h.called.answered) in
    serviced_down h.called.outcome (ring_fields h.begins) d.list (ring_fields t) d.does (omega (arith, same, served))
    (ring_machine h.begins) (ring_machine t) d.path
  where
    count_of : ℕ → RingAnswer → ℕ
    count_of other (answers.Count count) = count
    count_of other a = other
served_down moments there s t other a h served = absurd served

pub handled_all : (moments : List Moment) (there s t : RingState) (c : RingCall) (a : RingAnswer) → EndStep moments there s c a t →
    ServedAll c a → has_any (ring_machine t).chip.latches.ier IER.DATA_READY.0 ≡ true →
    IsEachTold (ring_machine t).chip → (receiver_at t).queue ≡ []
handled_all moments there s t call a h served enabled told =
    let c = (ring_machine t).chip in
    let down = served_down moments there s t call a h served in
    let none = none_received c (is_none (interrupt c) down) enabled in none_pending c none.at_level none.timeout told
  where
    is_none : (i : Option InterruptType) → is_some i ≡ false → i ≡ None
    is_none None e = refl
    is_none (Some interrupt) e = absurd (cc)

-- ---- the program

-- the end of a pause leaves the receive ring
pause_ends : (f : RingFields) (l : List Access) (after : RingFields) → EndsPause f l after → after.receive ≡ f.receive
pause_ends f l after t = go f.is_paused t
  where
    go : (paused : Bool) → MatchBool paused (OnDriver (Enables IER.DATA_READY.0) (with_paused false) f l after) (Stays f l after) →
        after.receive ≡ f.receive
    go true t = ap (λ (g : RingFields). g.receive) t.1
    go false t = ap (λ (g : RingFields). g.receive) t.1

pub taken_all : (moments : List Moment) (there s t : RingState) (slots : ℕ) (bytes : List ℕ) (a : RingAnswer) →
    EndStep moments there s (call.Take slots) a t → a ≡ taken_answer bytes → length bytes < slots → to_take t ≡ []
taken_all moments there s t slots bytes a h answer few =
    let d = h.called.did in
    let f = ring_fields h.begins in
    let got = h.called.outcome in
    let same : got ≡ bytes = ap (taken_by (call.Take slots)) (sym h.called.answered ∙ answer) in
    let is : got ≡ take slots f.receive.items = d.does.0 in
    let size : length got ≡ length (take slots f.receive.items) = ap length is in
    let short : length got ≡ length bytes = ap length same in
    let least = length-take slots f.receive.items in
    let left : (ring_fields t).receive ≡ (without_taken (length got) f).receive = go (length got) got d.does.1 in
    ap (λ ring. ring.items) left ∙ drop_all (length got) f.receive.items (omega (arith, size, short, least, few))
  where
    go : (count : ℕ) (got : List ℕ) → IfAny count EndsPause (without_taken (length got) (ring_fields h.begins)) h.called.did.list
        (ring_fields t) → (ring_fields t).receive ≡ (without_taken (length got) (ring_fields h.begins)).receive
    go zero got t = ap (λ (g : RingFields). g.receive) t.1
    go (suc n) got t = pause_ends (without_taken (length got) (ring_fields h.begins)) _ _ t
