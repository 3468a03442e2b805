-- That ring calls leave no choice.
use Rattle.std.proofs.Common.{◌≡◌, ◌<◌, ℕ, zero, suc, Bool, true, false, min, List, [], ◌∷◌, ◌++◌, length, take}
use Rattle.std.proofs.Common.{◌&&◌, refl, arith}
use Rattle.std.specs.Prelude.{⊤}
use Rattle.std.proofs.Common.{sym, ◌∙◌, ap, subst, inl, inr, ◌⊎◌, Option, Some, None, Result, bit_and, bit_or, nat_lt, MatchBool}
use Rattle.std.specs.Prelude.{MatchOption}
use Rattle.std.proofs.lemmas.Bool.{false≢true}
use Rattle.uart_spec.specs.declared.access.Access.{Access}
use Rattle.uart_spec.specs.declared.access.Access.TheVariants.{Read, Write}
use Rattle.uart_spec.specs.Bits.{IsOnlyIfAny}
use Rattle.uart_spec.specs.Fields.{Identifies}
use Rattle.uart_spec.specs.FifoSize.{characters}
use Rattle.uart_spec.specs.declared.registers.interrupt_enable.TheConstants.IER
use Rattle.uart_spec.specs.declared.registers.interrupt_type.InterruptType.{InterruptType}
use Rattle.uart_spec.specs.declared.registers.interrupt_type.InterruptType.TheVariants.{ReceiverLineStatus, ReceivedDataReady}
use Rattle.uart_spec.specs.declared.registers.interrupt_type.InterruptType.TheVariants.{ReceptionTimeout, TransmitterHoldingRegisterEmpty}
use Rattle.uart_spec.specs.declared.registers.interrupt_type.InterruptType.TheVariants.{ModemStatus, DmaReceptionEndOfTransfer}
use Rattle.uart_spec.specs.declared.registers.interrupt_type.InterruptType.TheVariants.{DmaTransmissionEndOfTransfer}
use Rattle.uart_spec.specs.declared.registers.line_status.TheConstants.LSR
use Rattle.uart_spec.specs.declared.registers.modem_status.TheConstants.MSR
use Rattle.uart_spec.specs.declared.registers.offsets.TheConstants as offsets
use Rattle.uart_16550.specs.Choice.{PartAtRead}
use Rattle.uart_16550.specs.Grammar.{Only}
use Rattle.uart_16550.specs.Driver.{Doing, Fields, Next, Saving, settings_of}
use Rattle.uart_16550.specs.Receive.{Receives}
use Rattle.uart_16550.specs.Status.{TakesLsr, TakesMsr, Enables}
use Rattle.uart_16550.specs.Transmit.{Sends}
use Rattle.uart_16550.proofs.determined.Parting.{Determined, SameOrPart, read_determined, so, so_front, so_is, so_read, so_sym, so_then}
use Rattle.uart_16550.proofs.determined.Doings.{Does, does_next, does_saving, does_so}
use Rattle.uart_16550.proofs.determined.Receive.{receives_determined}
use Rattle.uart_16550.proofs.determined.Status.{disables_determined, enables_determined, takes_lsr_determined, takes_msr_determined}
use Rattle.uart_16550.proofs.determined.Status.{dumps_determined}
use Rattle.uart_16550.proofs.determined.Transmit.{sends_determined}
use Rattle.uart_ring.specs.Ring.{RingDoing, RingFields, OnDriver, Stays, RingNext, IfAny, unchanged, with_driver, with_queued}
use Rattle.uart_ring.specs.Ring.{with_received, with_paused, with_line, with_modem, without_sent, without_taken, free, is_full}
use Rattle.uart_ring.proofs.Pausing.{ChangesIer, Pausing, joined_with, rid_of}
use Rattle.uart_ring.specs.Ring.{sendable, waiting, RingSets, with_hold, with_low_mark, with_low, with_urgent, with_rounds, with_stuck}
use Rattle.uart_ring.specs.Ring.{restarted, cleared}
use Rattle.uart_ring.specs.Transmit.{ArmsIfLeft, Pumps, Queues, ResumesTransmit, Holds}
use Rattle.uart_ring.specs.Transmit.{Releases, QueuesUrgent, ClearsTransmit, PumpsSo, SendsSo}
use Rattle.uart_ring.specs.Transmit.{SetsLowMark, TakesLow}
use Rattle.uart_ring.specs.Receive.{EndsPause, FillsReceiveRing, PausesIfFull, TakesBytes, ClearsReceive}
use Rattle.uart_ring.specs.Receive.{write_if_other, rts_at, MakesRts, MakesRtsIfAny, AdjustsRts}
use Rattle.uart_ring.specs.declared.ring.receive.ReceiveMarks.{ReceiveMarks}
use Rattle.uart_spec.specs.declared.registers.modem_control.TheConstants.MCR
use Rattle.uart_16550.specs.Frame.{switched, unlooped}
use Rattle.uart_16550.specs.Grammar.{Settings}
use Rattle.uart_ring.specs.Storm.{every_bit, TurnsOff, ShowsReason, ShowsStuck, LooksOnceMore, CountsUnfinished, CountsRound}
use Rattle.uart_ring.specs.Storm.{HandlesRound, round_limit}
use Rattle.uart_ring.specs.Storm.{StaysStuck, TriesToHandle, Restarts, not_paused, unless_stuck, counts_as, has_moved, CountsSince}
use Rattle.uart_ring.specs.declared.ring.storm.StuckError.{StuckError}
use Rattle.uart_ring.specs.declared.ring.storm.StuckError.TheVariants as stuck
use Rattle.uart_ring.specs.Status.{TakesLine, TakesModem, DumpsRegisters}
use Rattle.uart_ring.specs.Service.{ServesInterrupt, ServesOne, ShowsInterrupt, ShowsNone, ServesUpTo}
use Rattle.uart_ring.specs.Service.{Services, SendsOnIf, ServesData, ServesLine, ServesTimes}
use Rattle.uart_ring.specs.Choice.{LeavesNoRingChoice}
use Rattle.uart_ring.specs.Handle.{Retriggers, RetriggersUnlessIdle, Handles, SendsAndRetriggers}
use Rattle.uart_ring.specs.declared.ring.service.TheConstants.{MAX_INTERRUPTS}
use Rattle.uart_ring.proofs.RingDoings.{then_later}
use Rattle.uart_ring.specs.declared.ring.service.HandleEnd.{HandleEnd}
use Rattle.uart_ring.specs.declared.ring.service.HandleEnd.TheVariants.{Idle, Unknown, Limit}
use Rattle.uart_ring.specs.declared.ring.service.Handled.{Handled}
use Rattle.uart_16550.specs.Status as status
use Rattle.uart_16550.proofs.determined.Status.{retriggers_determined}
use Rattle.uart_ring.proofs.Losses.{shows_none}
use Rattle.uart_spec.specs.Bits.{has}
use Rattle.uart_spec.specs.declared.registers.interrupt_status.TheConstants.ISR

-- from these fields, each list of the first and each of the second are one list, with the same fields after it, and this holds; or
-- they part at a read
pub record RingDoes (C : Type 0) (f : RingFields) (G H : RingDoing) : Type 0 where
  pub at : (l m : List Access) (a b : RingFields) → G f l a → H f m b → SameOrPart (C × (a ≡ b)) l m

-- the law, from what every two outcomes come to
pub no_choice : {R : Type 0} {G : R → RingDoing} → ((f : RingFields) (a b : R) → RingDoes (a ≡ b) f (G a) (G b)) → LeavesNoRingChoice G
no_choice {R} {G} h f a b l m after after' p q = law ((h f a b).at l m after after' p q)
  where
    law : SameOrPart ((a ≡ b) × (after ≡ after')) l m → ((a ≡ b) × (l ≡ m) × (after ≡ after')) ⊎ PartAtRead l m
    law (inl same) = inl (same.0.0, same.1, same.0.1)
    law (inr part) = inr part

pub ring_so : {C D : Type 0} {f : RingFields} {G H : RingDoing} → (C → D) → RingDoes C f G H → RingDoes D f G H
ring_so k h = record { at = λ l m a b p q. so (λ r. (k r.0, r.1)) (h.at l m a b p q) }

ring_sym : {C : Type 0} {f : RingFields} {G H : RingDoing} → RingDoes ⊥ f G H → RingDoes C f H G
ring_sym h = record { at = λ l m a b p q. so_sym (so (λ r. r.0) (h.at m l b a q p)) }

-- the driver did the one or the other
pub on_driver : {C : Type 0} {f : RingFields} {G H : Doing} (change other : RingFields → RingFields) → Does C f.driver G H →
    (C → change f ≡ other f) → RingDoes C f (OnDriver G change) (OnDriver H other)
on_driver change other h same = record {
  at = λ l m a b p q. so (λ r. (r.0, p.1 ∙ ((λ i. with_driver (r.1 i) (same r.0 i)) ∙ sym q.1))) (h.at l m a.driver b.driver p.0 q.0);
}

pub stays_same : (f : RingFields) → RingDoes (Unit {0}) f Stays Stays
stays_same f = record { at = λ l m a b p q. inl ((tt, p.1 ∙ sym q.1), p.0 ∙ sym q.0) }

-- one after the other: the second may rest on what the first decides
pub ring_next : {C D : Type 0} {f : RingFields} {G G' H H' : RingDoing} → RingDoes C f G G' →
    (C → (mid : RingFields) → RingDoes D mid H H') → RingDoes D f (RingNext G H) (RingNext G' H')
ring_next {C} {D} {f} {G} {G'} {H} {H'} p q = record {
  at = λ l m a b t w.
      so_then t.whole w.whole (p.at t.front w.front t.mid w.mid t.first w.first)
      (λ r. let N : RingFields → Type 0 = λ mid. H' mid w.back b in
      (q r.0 t.mid).at t.back w.back a b t.second (subst N (sym r.1) w.second));
}

ring_front : {D : Type 0} {f : RingFields} {G H K : RingDoing} → RingDoes ⊥ f G K → RingDoes D f (RingNext G H) K
ring_front h = record { at = λ l m a b t w. so_front t.back t.whole (so (λ r. r.0) (h.at t.front m t.mid b t.first w)) }

-- ---- each piece

arms_same : (left : List ℕ) (f : Fields) → Does (Unit {0}) f (ArmsIfLeft left) (ArmsIfLeft left)
arms_same [] f = does_so (λ r. tt) (disables_determined IER.THR_EMPTY.0 f tt tt)
arms_same (byte ∷ bytes) f = does_so (λ r. tt) (enables_determined IER.THR_EMPTY.0 f tt tt)

arms_alike : (xs ys : List ℕ) → xs ≡ ys → (f : Fields) → Does (Unit {0}) f (ArmsIfLeft xs) (ArmsIfLeft ys)
arms_alike xs ys e f = let P : List ℕ → Type 0 = λ zs. Does (Unit {0}) f (ArmsIfLeft xs) (ArmsIfLeft zs) in subst P e (arms_same xs f)

pumps_so_same : (f : RingFields) (j k : ℕ) → RingDoes (j ≡ k) f (PumpsSo j) (PumpsSo k)
pumps_so_same f j k = record { at = (on_driver {f = f} (without_sent j) (without_sent k) sends (λ e. ap (λ n. without_sent n f) e)).at }
  where
    sends : Does (j ≡ k) f.driver
        (Next (Saving (Sends (sendable f) j)) (ArmsIfLeft (sendable (without_sent j f))))
        (Next (Saving (Sends (sendable f) k)) (ArmsIfLeft (sendable (without_sent k f))))
    sends =
        does_next (does_saving f.driver (Sends (sendable f) j) (Sends (sendable f) k)
        (sends_determined (settings_of f.driver) (sendable f) j k))
        (λ e mid. does_so (λ t. e) (arms_alike (sendable (without_sent j f)) (sendable (without_sent k f))
        (ap (λ n. sendable (without_sent n f)) e) mid))

pumps_same : (f : RingFields) → RingDoes (Unit {0}) f Pumps Pumps
pumps_same f = record { at = λ l m a b p q. so (λ r. (tt, r.1)) ((pumps_so_same f p.0 q.0).at l m a b p.1 q.1) }

-- some bytes are sent, or none, and the reads tell which
sends_apart : (f : RingFields) (n : ℕ) → RingDoes ⊥ f (PumpsSo (suc n)) (SendsSo zero)
sends_apart f n = record {
  at = λ l m a b p q. so_front p.0.back p.0.whole (so (λ r. no r.0) ((does_saving f.driver (Sends (sendable f) (suc n))
      (Sends (sendable f) 0) (sends_determined (settings_of f.driver) (sendable f) (suc n) 0)).at p.0.front m p.0.mid b.driver
      p.0.first q.0));
}
  where
    no : suc n ≡ 0 → ⊥
    no e = omega (arith, e)

sends_so_same : (f : RingFields) (j k : ℕ) → RingDoes (Unit {0}) f (SendsSo j) (SendsSo k)
sends_so_same f zero zero = record {
  at = (on_driver {f = f} unchanged unchanged (does_so (λ (e : 0 ≡ 0). tt) (does_saving f.driver (Sends (sendable f) 0) (Sends
      (sendable f) 0)
      (sends_determined (settings_of f.driver) (sendable f) 0 0))) (λ e. refl)).at;
}
sends_so_same f zero (suc k) = record { at = (ring_sym {C = Unit {0}} (sends_apart f k)).at }
sends_so_same f (suc j) zero = record { at = λ l m a b p q. so (λ r. absurd r.0) ((sends_apart f j).at l m a b p q) }
sends_so_same f (suc j) (suc k) = record { at = λ l m a b p q. so (λ r. (tt, r.1)) ((pumps_so_same f (suc j) (suc k)).at l m a b p q) }

pausing_same : (change : ℕ → ℕ) (paused when : Bool) (f : RingFields) → Does (Unit {0}) f.driver (ChangesIer change) (ChangesIer change) →
    RingDoes (Unit {0}) f (Pausing change paused when) (Pausing change paused when)
pausing_same change paused true f same = record { at = (on_driver {f = f} (with_paused paused) (with_paused paused) same (λ r. refl)).at }
pausing_same change paused false f same = record { at = (stays_same f).at }

pauses_same : (f : RingFields) → RingDoes (Unit {0}) f PausesIfFull PausesIfFull
pauses_same f = let same = does_so (λ r. tt) (disables_determined IER.DATA_READY.0 f.driver tt tt) in
    record { at = (pausing_same (rid_of IER.DATA_READY.0) true (is_full f.receive) f same).at }

ends_pause_same : (f : RingFields) → RingDoes (Unit {0}) f EndsPause EndsPause
ends_pause_same f = let same = does_so (λ r. tt) (enables_determined IER.DATA_READY.0 f.driver tt tt) in
    record { at = (pausing_same (joined_with IER.DATA_READY.0) false f.is_paused f same).at }

fills_same : (f : RingFields) → RingDoes (Unit {0}) f FillsReceiveRing FillsReceiveRing
fills_same f = record { at = λ l m a b p q. (both p.0 q.0).at l m a b p.1 q.1 }
  where
    room : ℕ
    room = min (characters f.driver.size) (free f.receive)

    both : (xs ys : List ℕ) → RingDoes (Unit {0}) f
        (RingNext (OnDriver (Saving (Receives (min (characters f.driver.size) (free f.receive)) xs)) (with_received xs)) PausesIfFull)
        (RingNext (OnDriver (Saving (Receives (min (characters f.driver.size) (free f.receive)) ys)) (with_received ys)) PausesIfFull)
    both xs ys =
        ring_next (on_driver {f = f} (with_received xs) (with_received ys)
        (does_saving f.driver (Receives room xs) (Receives room ys) (receives_determined (settings_of f.driver) room xs ys))
        (λ e. ap (λ zs. with_received zs f) e)) (λ e mid. pauses_same mid)

-- a status is taken, and noted so
taken_same : (Takes : ℕ → Doing) (note : ℕ → RingFields → RingFields) (f : RingFields) →
    ((x y : ℕ) → Does (x ≡ y) f.driver (Takes x) (Takes y)) → (x y : ℕ) →
    RingDoes (x ≡ y) f (OnDriver (Takes x) (note x)) (OnDriver (Takes y) (note y))
taken_same Takes note f determined x y = on_driver {f = f} (note x) (note y) (determined x y) (λ e. ap (λ n. note n f) e)

abbrev Notes : (ℕ → Doing) → (ℕ → RingFields → RingFields) → RingDoing
Notes Takes note f l after = (status : ℕ) × OnDriver (Takes status) (note status) f l after

notes_same : (Takes : ℕ → Doing) (note : ℕ → RingFields → RingFields) (f : RingFields) →
    ((x y : ℕ) → Does (x ≡ y) f.driver (Takes x) (Takes y)) → RingDoes (Unit {0}) f (Notes Takes note) (Notes Takes note)
notes_same Takes note f determined = record {
  at = λ l m a b p q. so (λ r. (tt, r.1)) ((taken_same Takes note f determined p.0 q.0).at l m a b p.1 q.1);
}

abbrev note_line : ℕ → RingFields → RingFields
note_line status f = with_line (bit_or f.line (bit_and status LSR.LINE_ERRORS.0)) f

abbrev note_modem : ℕ → RingFields → RingFields
note_modem status f = with_modem (bit_or f.modem (bit_and status MSR.CHANGES.0)) f

sends_on_same : (room : Bool) (f : RingFields) → RingDoes (Unit {0}) f (SendsOnIf room) (SendsOnIf room)
sends_on_same true f = record { at = λ l m a b p q. (sends_so_same f p.0 q.0).at l m a b p.1 q.1 }
sends_on_same false f = stays_same f

serves_data_same : (room : Bool) (f : RingFields) → RingDoes (Unit {0}) f (ServesData room) (ServesData room)
serves_data_same room f = ring_next (fills_same f) (λ e mid. sends_on_same room mid)

-- the read of LSR decides whether a line status shows room
serves_line_same : (sends x y : Bool) (f : RingFields) → RingDoes (x ≡ y) f (ServesLine sends x) (ServesLine sends y)
serves_line_same sends x y f = record {
  at = λ l m a b p q. so (λ r. (p.1 ∙ (ap (λ (n : ℕ). sends && has n LSR.THR_EMPTY.0) r.0 ∙ sym q.1), r.1))
      ((taken_same TakesLsr note_line f (takes_lsr_determined f.driver) p.0 q.0).at l m a b p.2 q.2);
}

-- what is done is the same, and so is what is left
left_same : {G : RingDoing} (is x y : Bool) (f : RingFields) → RingDoes (Unit {0}) f G G →
    RingDoes (x ≡ y) f (λ f l after. (x ≡ is) × G f l after) (λ f l after. (y ≡ is) × G f l after)
left_same is x y f same = record { at = λ l m a b p q. so (λ r. (p.0 ∙ sym q.0, r.1)) (same.at l m a b p.1 q.1) }

serves_same : (sends room x y : Bool) (interrupt : InterruptType) (f : RingFields) →
    RingDoes (x ≡ y) f (ServesInterrupt sends room x interrupt) (ServesInterrupt sends room y interrupt)
serves_same sends room x y ReceiverLineStatus f = record { at = (serves_line_same sends x y f).at }
serves_same sends room x y ReceivedDataReady f = record { at = (left_same false x y f (serves_data_same room f)).at }
serves_same sends room x y ReceptionTimeout f = record { at = (left_same false x y f (serves_data_same room f)).at }
serves_same sends room x y TransmitterHoldingRegisterEmpty f = record { at = (left_same false x y f (pumps_same f)).at }
serves_same sends room x y ModemStatus f =
    record { at = (left_same room x y f (notes_same TakesMsr note_modem f (takes_msr_determined f.driver))).at }
serves_same sends room x y DmaReceptionEndOfTransfer f = record { at = (left_same room x y f (stays_same f)).at }
serves_same sends room x y DmaTransmissionEndOfTransfer f = record { at = (left_same room x y f (stays_same f)).at }

serves_alike : (sends room x y : Bool) (i j : InterruptType) → i ≡ j → (f : RingFields) →
    RingDoes (x ≡ y) f (ServesInterrupt sends room x i) (ServesInterrupt sends room y j)
serves_alike sends room x y i j e f =
    let P : InterruptType → Type 0 = λ z. RingDoes (x ≡ y) f (ServesInterrupt sends room x i) (ServesInterrupt sends room y z) in
    subst P e (serves_same sends room x y i f)

-- ---- service

-- one value of ISR shows one interrupt, or none
shown_same : (isr : ℕ) (x y : Option InterruptType) → IsOnlyIfAny (Identifies isr) x → IsOnlyIfAny (Identifies isr) y → x ≡ y
shown_same isr x (Some j) p q = (p j).1 ((q j).0 refl)
shown_same isr (Some i) None p q = sym ((q i).1 ((p i).0 refl))
shown_same isr None None p q = refl

shows_same : (x y : Option InterruptType) (f : Fields) → Does (x ≡ y) f (ShowsInterrupt x) (ShowsInterrupt y)
shows_same x y f = record {
  at = λ l m a b p q. so (λ r. (shown p.0 q.0 r.0 p.1 q.1, r.1)) ((does_saving f (Only (Read offsets.ISR p.0 ∷ []))
      (Only (Read offsets.ISR q.0 ∷ []))
      (read_determined offsets.ISR p.0 q.0)).at l m a b p.2 q.2);
}
  where
    shown : (i j : ℕ) → i ≡ j → IsOnlyIfAny (Identifies i) x → IsOnlyIfAny (Identifies j) y → x ≡ y
    shown i j e p q = let P : ℕ → Type 0 = λ n. IsOnlyIfAny (Identifies n) y in shown_same i x y p (subst P (sym e) q)

-- one read of ISR
abbrev ReadsIsr : Option InterruptType → RingDoing
ReadsIsr interrupt = OnDriver (ShowsInterrupt interrupt) unchanged

reads_same : (x y : Option InterruptType) (f : RingFields) → RingDoes (x ≡ y) f (ReadsIsr x) (ReadsIsr y)
reads_same x y f = on_driver {f = f} unchanged unchanged (shows_same x y f.driver) (λ e. refl)

inside : (x y : InterruptType) → Some x ≡ Some y → x ≡ y
inside x y e = cc

serves_one_same : (sends room x y : Bool) (f : RingFields) → RingDoes (x ≡ y) f (ServesOne sends room x) (ServesOne sends room y)
serves_one_same sends room x y f = record { at = λ l m a b p q. (both p.0 q.0).at l m a b p.1 q.1 }
  where
    both : (i j : InterruptType) → RingDoes (x ≡ y) f (RingNext (ReadsIsr (Some i)) (ServesInterrupt sends room x i))
        (RingNext (ReadsIsr (Some j)) (ServesInterrupt sends room y j))
    both i j = ring_next (reads_same (Some i) (Some j) f) (λ e mid. serves_alike sends room x y i j (inside i j e) mid)

-- an interrupt is shown, or none
apart : (sends room x : Bool) (f : RingFields) → RingDoes ⊥ f (ServesOne sends room x) (ReadsIsr None)
apart sends room x f = record { at = λ l m a b p q. (ring_front (read_apart p.0)).at l m a b p.1 q }
  where
    read_apart : (i : InterruptType) → RingDoes ⊥ f (ReadsIsr (Some i)) (ReadsIsr None)
    read_apart i = ring_so (λ e. cc) (reads_same (Some i) None f)

-- nothing and then something is that
stays_then : (G : RingDoing) (f : RingFields) (l : List Access) (a : RingFields) → RingNext Stays G f l a → G f l a
stays_then G f l a t =
    let whole : l ≡ t.back = t.whole ∙ ap (λ xs. xs ++ t.back) t.first.0 in
    let P : RingFields → Type 0 = λ g. G g l a in
    subst P t.first.1 (rw whole t.second)

-- one read of ISR that identifies none
abbrev ReadsNone : Bool → RingDoing
ReadsNone idle = OnDriver (ShowsNone idle) unchanged

-- one value of ISR has one bit 0
none_same : (x y : Bool) (f : RingFields) → RingDoes (x ≡ y) f (ReadsNone x) (ReadsNone y)
none_same x y f = on_driver {f = f} unchanged unchanged (record {
  at = λ l m a b p q. so (λ r. (sym p.2 ∙ ap (λ (n : ℕ). has n ISR.INTERRUPT_STATUS.0) r.0 ∙ q.2, r.1))
      ((does_saving f.driver (Only (Read offsets.ISR p.0 ∷ [])) (Only (Read offsets.ISR q.0 ∷ []))
      (read_determined offsets.ISR p.0 q.0)).at l m a b p.3 q.3);
}) (λ e. refl)

none_apart : (sends room x idle : Bool) (f : RingFields) → RingDoes ⊥ f (ServesOne sends room x) (ReadsNone idle)
none_apart sends room x idle f = record { at = λ l m a b p q. (apart sends room x f).at l m a b p (shows_none idle f m b q) }

-- some were served, and then this was done
abbrev ServedThen : (sends : Bool) (n : ℕ) (room left : Bool) → RingDoing → RingDoing
ServedThen sends n room left G = RingNext (ServesTimes sends n room left) G

one_first : (sends : Bool) (n : ℕ) (room next left : Bool) (G : RingDoing) (f : RingFields) (l : List Access) (a : RingFields) →
    RingNext (RingNext (ServesOne sends room next) (ServesTimes sends n next left)) G f l a →
    RingNext (ServesOne sends room next) (ServedThen sends n next left G) f l a
one_first sends n room next left G f l a t = then_later (ServesOne sends room next) (ServesTimes sends n next left) G f l a t

-- the first of more than one, and then the others
first_of : (sends : Bool) (n : ℕ) (room left : Bool) (G : RingDoing) (f : RingFields) (l : List Access) (a : RingFields) →
    ServedThen sends (suc n) room left G f l a →
    (next : Bool) × RingNext (ServesOne sends room next) (ServedThen sends n next left G) f l a
first_of sends n room left G f l a t = (
  t.first.0,
  one_first sends n room t.first.0 left G f l a
      (record { front = t.front; back = t.back; mid = t.mid; whole = t.whole; first = t.first.1; second = t.second }),
)

-- none, and then something is that
none_first : (sends room left : Bool) (G : RingDoing) (f : RingFields) (l : List Access) (a : RingFields) →
    ServedThen sends zero room left G f l a → (left ≡ room) × G f l a
none_first sends room left G f l a t = (
  t.first.0,
  stays_then G f l a
      (record { front = t.front; back = t.back; mid = t.mid; whole = t.whole; first = t.first.1; second = t.second }),
)

-- one of them went on
goes_on : {D : Type 0} (sends room next : Bool) (G : RingDoing) (idle : Bool) (f : RingFields) →
    RingDoes D f (RingNext (ServesOne sends room next) G) (ReadsNone idle)
goes_on sends room next G idle f = record { at = λ l m a b p q. (ring_front (none_apart sends room next idle f)).at l m a b p q }

-- both went on, with the same behind it
both_on : {D : Type 0} (sends : Bool) (n k : ℕ) (room next other x y : Bool) (G H : RingDoing) (f : RingFields) →
    ((mid : RingFields) → RingDoes D mid (ServedThen sends n next x G) (ServedThen sends k next y H)) →
    RingDoes D f (RingNext (ServesOne sends room next) (ServedThen sends n next x G))
    (RingNext (ServesOne sends room other) (ServedThen sends k other y H))
both_on {D} sends n k room next other x y G H f rest =
    ring_next (serves_one_same sends room next other f)
    (λ e mid. let P : Bool → Type 0 = λ z. RingDoes D mid (ServedThen sends n next x G) (ServedThen sends k z y H) in subst P e (rest mid))

looked_same : (sends : Bool) (n k : ℕ) (room x y i j : Bool) (f : RingFields) →
    RingDoes ((n ≡ k) × (i ≡ j) × (x ≡ y)) f (ServedThen sends n room x (ReadsNone i)) (ServedThen sends k room y (ReadsNone j))
looked_same sends zero zero room x y i j f = record {
  at = λ l m a b p q.
      let p' = none_first sends room x (ReadsNone i) f l a p in
      let q' = none_first sends room y (ReadsNone j) f m b q in
      so (λ r. ((refl, r.0, p'.0 ∙ sym q'.0), r.1)) ((none_same i j f).at l m a b p'.1 q'.1);
}
looked_same sends zero (suc k) room x y i j f = ring_sym (record {
  at = λ l m a b p q.
      let p' = first_of sends k room y (ReadsNone j) f l a p in
      (goes_on sends room p'.0 _ i f).at l m a b p'.1 (none_first sends room x (ReadsNone i) f m b q).1;
})
looked_same sends (suc n) zero room x y i j f = record {
  at = λ l m a b p q.
      let p' = first_of sends n room x (ReadsNone i) f l a p in
      (goes_on sends room p'.0 _ j f).at l m a b p'.1 (none_first sends room y (ReadsNone j) f m b q).1;
}
looked_same sends (suc n) (suc k) room x y i j f = record {
  at = λ l m a b p q.
      let p' = first_of sends n room x (ReadsNone i) f l a p in
      let q' = first_of sends k room y (ReadsNone j) f m b q in
      (both_on sends n k room p'.0 q'.0 x y (ReadsNone i) (ReadsNone j) f
      (λ mid. ring_so (λ e. (ap suc e.0, e.1, e.2)) (looked_same sends n k p'.0 x y i j mid))).at l m a b p'.1 q'.1;
}

-- ISR showed none, or more were served
looked_before : (sends : Bool) (n k : ℕ) → n < k → (room x y idle : Bool) (G : RingDoing) (f : RingFields) →
    RingDoes ⊥ f (ServedThen sends n room x (ReadsNone idle)) (ServedThen sends k room y G)
looked_before sends n zero few room x y idle G f = absurd (omega (arith, few))
looked_before sends zero (suc k) few room x y idle G f = ring_sym (record {
  at = λ l m a b p q.
      let p' = first_of sends k room y G f l a p in
      (goes_on sends room p'.0 _ idle f).at l m a b p'.1 (none_first sends room x (ReadsNone idle) f m b q).1;
})
looked_before sends (suc n) (suc k) few room x y idle G f = record {
  at = λ l m a b p q.
      let p' = first_of sends n room x (ReadsNone idle) f l a p in
      let q' = first_of sends k room y G f m b q in
      (both_on sends n k room p'.0 q'.0 x y (ReadsNone idle) G f
      (λ mid. looked_before sends n k (omega (arith, few)) p'.0 x y idle G mid)).at l m a b p'.1 q'.1;
}

-- as many as the limit were served
full_same : (sends : Bool) (n k : ℕ) → n ≡ k → (room x y : Bool) (f : RingFields) →
    RingDoes (x ≡ y) f (ServedThen sends n room x Stays) (ServedThen sends k room y Stays)
full_same sends zero zero e room x y f = record {
  at = λ l m a b p q.
      let p' = none_first sends room x Stays f l a p in
      let q' = none_first sends room y Stays f m b q in
      so (λ r. (p'.0 ∙ sym q'.0, r.1)) ((stays_same f).at l m a b p'.1 q'.1);
}
full_same sends zero (suc k) e room x y f = absurd (omega (arith, e))
full_same sends (suc n) zero e room x y f = absurd (omega (arith, e))
full_same sends (suc n) (suc k) e room x y f = record {
  at = λ l m a b p q.
      let p' = first_of sends n room x Stays f l a p in
      let q' = first_of sends k room y Stays f m b q in
      (both_on sends n k room p'.0 q'.0 x y Stays Stays f
      (λ mid. full_same sends n k (omega (arith, e)) p'.0 x y mid)).at l m a b p'.1 q'.1;
}

-- what bit 0 of ISR says
abbrev end_of : Bool → HandleEnd
end_of true = Idle
end_of false = Unknown

-- ISR showed none, or the limit was reached
abbrev ByLook : (sends : Bool) (limit : ℕ) → Handled → (room : Bool) → RingFields → List Access → RingFields → Type 0
ByLook sends limit x room f l a =
    (idle : Bool) × (x.end ≡ end_of idle) × (x.served < limit) × ServedThen sends x.served false room (ReadsNone idle) f l a

abbrev AtLimit : (sends : Bool) (limit : ℕ) → Handled → (room : Bool) → RingFields → List Access → RingFields → Type 0
AtLimit sends limit x room f l a = (x.end ≡ Limit) × (x.served ≡ limit) × ServedThen sends x.served false room Stays f l a

by_look : (sends : Bool) (limit n : ℕ) (end : HandleEnd) (room : Bool) (f : RingFields) (l : List Access) (a : RingFields) →
    ServesUpTo sends limit (record { served = n; end = end }) room f l a →
    ByLook sends limit (record { served = n; end = end }) room f l a ⊎ AtLimit sends limit (record { served = n; end = end }) room f l a
by_look sends limit n Idle room f l a t = inl (true, refl, t.0, t.1)
by_look sends limit n Unknown room f l a t = inl (false, refl, t.0, t.1)
by_look sends limit n Limit room f l a t = inr (refl, t.0, t.1)

serves_up_to_same : (sends : Bool) (limit : ℕ) (f : RingFields) (x y : Handled) (r s : Bool) →
    RingDoes ((x ≡ y) × (r ≡ s)) f (ServesUpTo sends limit x r) (ServesUpTo sends limit y s)
serves_up_to_same sends limit f x y r s = record {
  at = λ l m a b p q. at l m a b (by_look sends limit x.served x.end r f l a p) (by_look sends limit y.served y.end s f m b q);
}
  where
    same : (x.served ≡ y.served) × (x.end ≡ y.end) → x ≡ y
    same e i = record { served = e.0 i; end = e.1 i }

    at : (l m : List Access) (a b : RingFields) → ByLook sends limit x r f l a ⊎ AtLimit sends limit x r f l a →
        ByLook sends limit y s f m b ⊎ AtLimit sends limit y s f m b → SameOrPart (((x ≡ y) × (r ≡ s)) × (a ≡ b)) l m
    at l m a b (inl p) (inl q) =
        so (λ e. ((same (e.0.0, p.1 ∙ (ap end_of e.0.1 ∙ sym q.1)), e.0.2), e.1))
        ((looked_same sends x.served y.served false r s p.0 q.0 f).at l m a b p.3 q.3)
    at l m a b (inl p) (inr q) =
        so (λ e. absurd e.0)
        ((looked_before sends x.served y.served (omega (arith, p.2, q.1)) false r s p.0 Stays f).at l m a b p.3 q.2)
    at l m a b (inr p) (inl q) =
        so_sym (so (λ e. e.0)
        ((looked_before sends y.served x.served (omega (arith, p.1, q.2)) false s r q.0 Stays f).at m l b a q.3 p.2))
    at l m a b (inr p) (inr q) =
        let served : x.served ≡ y.served = p.1 ∙ sym q.1 in
        so (λ e. ((same (served, p.0 ∙ sym q.0), e.0), e.1))
        ((full_same sends x.served y.served served false r s f).at l m a b p.2 q.2)

services_same : (f : RingFields) (x y : ℕ) → RingDoes (x ≡ y) f (Services x) (Services y)
services_same f x y = record {
  at = λ l m a b p q. so (λ r. (ap (λ (h : Handled). h.served) r.0.0, r.1))
      ((serves_up_to_same false MAX_INTERRUPTS f (record { served = x; end = p.0 }) (record { served = y; end = q.0 }) p.1 q.1).at
      l m a b p.2 q.2);
}

pub services_leave_no_choice : LeavesNoRingChoice Services
services_leave_no_choice = no_choice services_same

-- ---- handle

retriggers_same : (f : RingFields) → RingDoes (Unit {0}) f Retriggers Retriggers
retriggers_same f =
    on_driver {f = f} unchanged unchanged
    (does_so (λ e. tt) (does_saving f.driver status.Retriggers status.Retriggers (retriggers_determined (settings_of f.driver) tt tt)))
    (λ e. refl)

pub retriggers_leave_no_choice : LeavesNoRingChoice (λ (_ : ⊤). Retriggers)
retriggers_leave_no_choice =
    no_choice (λ f x y. record { at = λ l m a b p q. so (λ r. (refl, r.1)) ((retriggers_same f).at l m a b p q) })

sends_and_retriggers_same : (room : Bool) (f : RingFields) → RingDoes (Unit {0}) f (SendsAndRetriggers room) (SendsAndRetriggers room)
sends_and_retriggers_same room f = ring_next (sends_on_same room f) (λ e mid. retriggers_same mid)

unless_idle_same : (room : Bool) (end : HandleEnd) (f : RingFields) →
    RingDoes (Unit {0}) f (RetriggersUnlessIdle room end) (RetriggersUnlessIdle room end)
unless_idle_same room Idle f = stays_same f
unless_idle_same room Unknown f = sends_and_retriggers_same room f
unless_idle_same room Limit f = sends_and_retriggers_same room f

unless_idle_alike : (r s : Bool) → r ≡ s → (x y : HandleEnd) → x ≡ y → (f : RingFields) →
    RingDoes (Unit {0}) f (RetriggersUnlessIdle r x) (RetriggersUnlessIdle s y)
unless_idle_alike r s same x y e f =
    let P : HandleEnd → Type 0 = λ z. RingDoes (Unit {0}) f (RetriggersUnlessIdle r x) (RetriggersUnlessIdle r z) in
    let Q : Bool → Type 0 = λ z. RingDoes (Unit {0}) f (RetriggersUnlessIdle r x) (RetriggersUnlessIdle z y) in
    subst Q same (subst P e (unless_idle_same r x f))

handles_same : (limit : ℕ) (f : RingFields) (x y : Handled) → RingDoes (x ≡ y) f (Handles limit x) (Handles limit y)
handles_same limit f x y = record { at = λ l m a b p q. (both p.0 q.0).at l m a b p.1 q.1 }
  where
    both : (r s : Bool) → RingDoes (x ≡ y) f (RingNext (ServesUpTo true limit x r) (RetriggersUnlessIdle r x.end))
        (RingNext (ServesUpTo true limit y s) (RetriggersUnlessIdle s y.end))
    both r s =
        ring_next (serves_up_to_same true limit f x y r s)
        (λ e mid. ring_so (λ t. e.0) (unless_idle_alike r s e.1 x.end y.end (ap (λ (h : Handled). h.end) e.0) mid))

pub handles_leave_no_choice : (limit : ℕ) → LeavesNoRingChoice (Handles limit)
handles_leave_no_choice limit = no_choice (handles_same limit)

-- ---- the other calls

any_same : (count : ℕ) (G : RingDoing) (f : RingFields) → RingDoes (Unit {0}) f G G → RingDoes (Unit {0}) f (IfAny count G) (IfAny count G)
any_same zero G f h = stays_same f
any_same (suc n) G f h = h

pub queues_leave_no_choice : (bytes : List ℕ) → LeavesNoRingChoice (Queues bytes)
queues_leave_no_choice bytes = no_choice (λ f x y. record { at = λ l m a b p q. at f x y l m a b (p.0 ∙ sym q.0) p.1 q.1 })
  where
    at : (f : RingFields) (x y : ℕ) (l m : List Access) (a b : RingFields) → x ≡ y → IfAny x Pumps (with_queued (take x bytes) f) l a →
        IfAny y Pumps (with_queued (take y bytes) f) m b →
        SameOrPart ((x ≡ y) × (a ≡ b)) l m
    at f x y l m a b e p q =
        let g = with_queued (take x bytes) f in
        let P : ℕ → Type 0 = λ n. IfAny n Pumps (with_queued (take n bytes) f) m b in
        so (λ r. (e, r.1)) ((any_same x Pumps g (pumps_same g)).at l m a b p (subst P (sym e) q))

resumes_same : (f : RingFields) → RingDoes (Unit {0}) f ResumesTransmit ResumesTransmit
resumes_same f = record { at = (any_same (length (waiting f)) Pumps f (pumps_same f)).at }

-- a call that returns nothing
pub returns_none : {G : RingDoing} → ((f : RingFields) → RingDoes (Unit {0}) f G G) → LeavesNoRingChoice (λ (_ : ⊤). G)
returns_none h = no_choice (λ f x y. record { at = λ l m a b p q. so (λ r. (refl, r.1)) ((h f).at l m a b p q) })

pub resumes_leave_no_choice : LeavesNoRingChoice (λ (_ : ⊤). ResumesTransmit)
resumes_leave_no_choice = returns_none resumes_same

pub releases_leave_no_choice : LeavesNoRingChoice (λ (_ : ⊤). Releases)
releases_leave_no_choice = returns_none (λ f. record { at = (resumes_same (with_hold false f)).at })

sets_same : (change : RingFields → RingFields) (f : RingFields) → RingDoes (Unit {0}) f (RingSets change) (RingSets change)
sets_same change f = record { at = λ l m a b p q. inl ((tt, p.1 ∙ sym q.1), p.0 ∙ sym q.0) }

pub holds_leave_no_choice : LeavesNoRingChoice (λ (_ : ⊤). Holds)
holds_leave_no_choice = returns_none (sets_same (with_hold true))

pub sets_low_mark_leaves_no_choice : (mark : ℕ) → LeavesNoRingChoice (λ (_ : ⊤). SetsLowMark mark)
sets_low_mark_leaves_no_choice mark = returns_none (sets_same (with_low_mark mark))

pub takes_low_leaves_no_choice : LeavesNoRingChoice TakesLow
takes_low_leaves_no_choice =
    no_choice (λ f x y. record {
      at = λ l m a b p q. so (λ r. (p.0 ∙ sym q.0, r.1)) ((sets_same (with_low false) f).at l m a b p.1 q.1);
    })

-- the read of MCR decides whether it is written, and with what
makes_rts_determined : (on : Bool) (s : Settings) → Determined (Unit {0}) (MakesRts on s) (MakesRts on s)
makes_rts_determined on s = record {
  at = λ l m p q. so_is p.1 q.1 (so (λ r. tt) (so_read (λ same. inl (
    tt {0},
    ap (λ (mcr : ℕ).
        write_if_other (has mcr MCR.RTS.0) on (Write offsets.MCR (unlooped (switched on MCR.RTS.0 mcr)))) same,
  ))));
}

makes_rts_same : (wanted : Option Bool) (f : RingFields) → RingDoes (Unit {0}) f (MakesRtsIfAny wanted) (MakesRtsIfAny wanted)
makes_rts_same None f = stays_same f
makes_rts_same (Some on) f =
    on_driver {f = f} unchanged unchanged (does_so (λ e. tt) (does_saving f.driver (MakesRts on) (MakesRts on)
    (makes_rts_determined on (settings_of f.driver)))) (λ e. refl)

pub adjusts_leave_no_choice : (marks : ReceiveMarks) → LeavesNoRingChoice (λ (_ : ⊤). AdjustsRts marks)
adjusts_leave_no_choice marks = returns_none (λ f. record { at = (makes_rts_same (rts_at marks (free f.receive)) f).at })

pub clears_transmit_leaves_no_choice : LeavesNoRingChoice ClearsTransmit
clears_transmit_leaves_no_choice =
    no_choice (λ f x y. record {
      at = λ l m a b p q. so (λ r. (p.0 ∙ sym q.0, r.1)) ((sets_same cleared f).at l m a b p.1 q.1);
    })

pub queues_urgent_leaves_no_choice : (byte : ℕ) → LeavesNoRingChoice (QueuesUrgent byte)
queues_urgent_leaves_no_choice byte =
    no_choice (λ f x y. record {
      at = λ l m a b p q. so (λ r. (p.0 ∙ sym q.0, r.1)) ((pumps_same (with_urgent (Some byte) f)).at l m a b p.1 q.1);
    })

pub clears_receive_leaves_no_choice : LeavesNoRingChoice ClearsReceive
clears_receive_leaves_no_choice = no_choice (λ f x y. record { at = λ l m a b p q. at f x y l m a b (p.0 ∙ sym q.0) p.1 q.1 })
  where
    at : (f : RingFields) (x y : ℕ) (l m : List Access) (a b : RingFields) → x ≡ y → IfAny x EndsPause (without_taken x f) l a →
        IfAny y EndsPause (without_taken y f) m b → SameOrPart ((x ≡ y) × (a ≡ b)) l m
    at f x y l m a b e p q =
        let g = without_taken x f in
        let P : ℕ → Type 0 = λ n. IfAny n EndsPause (without_taken n f) m b in
        so (λ r. (e, r.1)) ((any_same x EndsPause g (ends_pause_same g)).at l m a b p (subst P (sym e) q))

pub takes_leave_no_choice : (slots : ℕ) → LeavesNoRingChoice (TakesBytes slots)
takes_leave_no_choice slots = no_choice (λ f x y. record { at = λ l m a b p q. at f x y l m a b (p.0 ∙ sym q.0) p.1 q.1 })
  where
    at : (f : RingFields) (x y : List ℕ) (l m : List Access) (a b : RingFields) → x ≡ y →
        IfAny (length x) EndsPause (without_taken (length x) f) l a →
        IfAny (length y) EndsPause (without_taken (length y) f) m b → SameOrPart ((x ≡ y) × (a ≡ b)) l m
    at f x y l m a b e p q =
        let g = without_taken (length x) f in
        let P : List ℕ → Type 0 = λ zs. IfAny (length zs) EndsPause (without_taken (length zs) f) m b in
        so (λ r. (e, r.1)) ((any_same (length x) EndsPause g (ends_pause_same g)).at l m a b p (subst P (sym e) q))

pub takes_line_leaves_no_choice : LeavesNoRingChoice TakesLine
takes_line_leaves_no_choice = no_choice (λ f x y. record {
  at = λ l m a b p q. so (λ r. (p.1 ∙ (ap (λ n. bit_or n f.line) r.0 ∙ sym q.1), r.1))
      ((on_driver {f = f} (with_line 0) (with_line 0) (takes_lsr_determined f.driver p.0 q.0) (λ e. refl)).at l m a b p.2 q.2);
})

pub takes_modem_leaves_no_choice : LeavesNoRingChoice TakesModem
takes_modem_leaves_no_choice = no_choice (λ f x y. record {
  at = λ l m a b p q. so (λ r. (p.1 ∙ (ap (λ n. bit_or n f.modem) r.0 ∙ sym q.1), r.1))
      ((on_driver {f = f} (with_modem 0) (with_modem 0) (takes_msr_determined f.driver p.0 q.0) (λ e. refl)).at l m a b p.2 q.2);
})

-- ---- storms

pub turns_off_same : (f : Fields) → Does (Unit {0}) f TurnsOff TurnsOff
turns_off_same f = does_so (λ r. tt) (disables_determined every_bit f tt tt)

-- one value of ISR shows one reason
reason_same : (isr : ℕ) (x y : StuckError) → ShowsReason x isr → ShowsReason y isr → x ≡ y
reason_same isr (stuck.Unknown v) (stuck.Unknown w) p q = λ i. stuck.Unknown (record { 0 = (p.0 ∙ sym q.0) i })
reason_same isr (stuck.Unknown v) (stuck.Pending j) p q = absurd (let e = shown_same isr None (Some j) p.1 q in cc)
reason_same isr (stuck.Pending i) (stuck.Unknown w) p q = absurd (let e = shown_same isr (Some i) None p q.1 in cc)
reason_same isr (stuck.Pending i) (stuck.Pending j) p q = ap stuck.Pending (inside i j (shown_same isr (Some i) (Some j) p q))

stuck_same : (x y : StuckError) (f : Fields) → Does (x ≡ y) f (ShowsStuck x) (ShowsStuck y)
stuck_same x y f = record {
  at = λ l m a b p q. so (λ r. (shown p.0 q.0 r.0 p.1 q.1, r.1)) ((does_saving f (Only (Read offsets.ISR p.0 ∷ []))
      (Only (Read offsets.ISR q.0 ∷ [])) (read_determined offsets.ISR p.0 q.0)).at l m a b p.2 q.2);
}
  where
    shown : (i j : ℕ) → i ≡ j → ShowsReason x i → ShowsReason y j → x ≡ y
    shown i j e p q = let P : ℕ → Type 0 = λ n. ShowsReason y n in reason_same i x y p (subst P (sym e) q)

-- no interrupt is pending, or the chip is stuck
idle_or_stuck : (isr : ℕ) (error : StuckError) → IsOnlyIfAny (Identifies isr) None → has isr ISR.INTERRUPT_STATUS.0 ≡ true →
    ShowsReason error isr → ⊥
idle_or_stuck isr (stuck.Unknown v) none idle q = false≢true (sym q.2 ∙ idle)
idle_or_stuck isr (stuck.Pending i) none idle q = let e = shown_same isr (Some i) None q none in cc

stuck_apart : (error : StuckError) (f : Fields) → Does ⊥ f (ShowsStuck error) (ShowsNone true)
stuck_apart error f = record {
  at = λ l m a b p q. so (λ r. (clash p.0 q.0 r.0 p.1 q.1 q.2, r.1)) ((does_saving f (Only (Read offsets.ISR p.0 ∷ []))
      (Only (Read offsets.ISR q.0 ∷ [])) (read_determined offsets.ISR p.0 q.0)).at l m a b p.2 q.3);
}
  where
    clash : (i j : ℕ) → i ≡ j → ShowsReason error i → IsOnlyIfAny (Identifies j) None → has j ISR.INTERRUPT_STATUS.0 ≡ true → ⊥
    clash i j e p none idle =
        let P : ℕ → Type 0 = λ n. ShowsReason error n in
        idle_or_stuck j error none idle (subst P e p)

idle_same : (f : Fields) → Does (Unit {0}) f (ShowsNone true) (ShowsNone true)
idle_same f = record {
  at = λ l m a b p q. so (λ r. (tt, r.1)) ((does_saving f (Only (Read offsets.ISR p.0 ∷ [])) (Only (Read offsets.ISR q.0 ∷ []))
      (read_determined offsets.ISR p.0 q.0)).at l m a b p.3 q.3);
}

stuck_first : {D : Type 0} (error : StuckError) (f : RingFields) → RingDoes D f (LooksOnceMore (Some error)) (LooksOnceMore None)
stuck_first error f =
    ring_front (on_driver {f = f} unchanged (with_rounds 0) (stuck_apart error f.driver) (λ r. absurd r))

looks_same : (x y : Option StuckError) (f : RingFields) → RingDoes (x ≡ y) f (LooksOnceMore x) (LooksOnceMore y)
looks_same None None f = ring_so (λ r. refl) (on_driver {f = f} (with_rounds 0) (with_rounds 0) (idle_same f.driver) (λ r. refl))
looks_same (Some x) None f = stuck_first x f
looks_same None (Some y) f = ring_sym (stuck_first y f)
looks_same (Some x) (Some y) f =
    ring_so (ap Some) (ring_next (on_driver {f = f} unchanged unchanged (stuck_same x y f.driver) (λ e. refl))
    (λ e mid. ring_so (λ r. e) (on_driver {f = mid} (with_stuck x) (with_stuck y) (turns_off_same mid.driver)
    (λ r. ap (λ z. with_stuck z mid) e))))

unfinished_same : (rounds : ℕ) (x y : Option StuckError) (f : RingFields) →
    RingDoes (x ≡ y) f (CountsUnfinished rounds x) (CountsUnfinished rounds y)
unfinished_same rounds x y f = record { at = λ l m a b p q. at l m a b (nat_lt (suc f.rounds) rounds) p q }
  where
    at : (l m : List Access) (a b : RingFields) (more : Bool) →
        MatchBool more ((x ≡ None) × RingSets (with_rounds (suc f.rounds)) f l a) (LooksOnceMore x f l a) →
        MatchBool more ((y ≡ None) × RingSets (with_rounds (suc f.rounds)) f m b) (LooksOnceMore y f m b) →
        SameOrPart ((x ≡ y) × (a ≡ b)) l m
    at l m a b true p q = inl ((p.0 ∙ sym q.0, p.1.1 ∙ sym q.1.1), p.1.0 ∙ sym q.1.0)
    at l m a b false p q = (looks_same x y f).at l m a b p q

counts_same : (rounds : ℕ) (end : HandleEnd) (x y : Option StuckError) (f : RingFields) →
    RingDoes (x ≡ y) f (CountsRound rounds end x) (CountsRound rounds end y)
counts_same rounds Idle x y f =
    record { at = λ l m a b p q. inl ((p.0 ∙ sym q.0, p.1.1 ∙ sym q.1.1), p.1.0 ∙ sym q.1.0) }
counts_same rounds Unknown x y f = record { at = (unfinished_same rounds x y f).at }
counts_same rounds Limit x y f = record { at = (unfinished_same rounds x y f).at }

counts_alike : (rounds : ℕ) (h k : HandleEnd) → h ≡ k → (x y : Option StuckError) (f : RingFields) →
    RingDoes (x ≡ y) f (CountsRound rounds h x) (CountsRound rounds k y)
counts_alike rounds h k e x y f =
    let P : HandleEnd → Type 0 = λ end. RingDoes (x ≡ y) f (CountsRound rounds h x) (CountsRound rounds end y) in
    subst P e (counts_same rounds h x y f)

since_alike : (rounds : ℕ) (before : RingFields) (h k : HandleEnd) → h ≡ k → (x y : Option StuckError) (f : RingFields) →
    RingDoes (x ≡ y) f (CountsSince rounds before h x) (CountsSince rounds before k y)
since_alike rounds before h k e x y f = record {
  at = (counts_alike rounds (counts_as (has_moved before f) h) (counts_as (has_moved before f) k) (ap (counts_as (has_moved before f)) e)
      x y f).at;
}

pub tries_leave_no_choice : (limit rounds : ℕ) → LeavesNoRingChoice (TriesToHandle limit rounds)
tries_leave_no_choice limit rounds = no_choice (λ f x y. record { at = λ l m a b p q. at f x y l m a b f.stuck p q })
  where
    handled : (f : RingFields) (x y : Result Handled StuckError) (l m : List Access) (a b : RingFields) →
        HandlesRound (round_limit limit) rounds x f l a → HandlesRound (round_limit limit) rounds y f m b →
        SameOrPart ((x ≡ y) × (a ≡ b)) l m
    handled f x y l m a b (h, found, is, p) (k, found', is', q) =
        let both : RingDoes ((h ≡ k) × (found ≡ found')) f (RingNext (Handles (round_limit limit) h) (CountsSince rounds f h.end found))
        (RingNext (Handles (round_limit limit) k) (CountsSince rounds f k.end found')) =
        ring_next (handles_same (round_limit limit) f h k)
        (λ e mid. ring_so (λ t. (e, t)) (since_alike rounds f h.end k.end (ap (λ (z : Handled). z.end) e) found found' mid)) in
        so (λ r. (is ∙ ((λ i. unless_stuck (r.0.0 i) (r.0.1 i)) ∙ sym is'), r.1)) (both.at l m a b p q)

    at : (f : RingFields) (x y : Result Handled StuckError) (l m : List Access) (a b : RingFields) (was : Option StuckError) →
        MatchOption was (HandlesRound (round_limit limit) rounds x f l a) (λ error. StaysStuck x error f l a) →
        MatchOption was (HandlesRound (round_limit limit) rounds y f m b) (λ error. StaysStuck y error f m b) →
        SameOrPart ((x ≡ y) × (a ≡ b)) l m
    at f x y l m a b None p q = handled f x y l m a b p q
    at f x y l m a b (Some error) p q =
        so (λ r. (p.0 ∙ sym q.0, r.1)) ((on_driver {f = f} unchanged unchanged (turns_off_same f.driver) (λ r. refl)).at l m a b p.1 q.1)

pub restarts_leave_no_choice : (bits : ℕ) → LeavesNoRingChoice (λ (_ : ⊤). Restarts bits)
restarts_leave_no_choice bits = returns_none (λ f. record { at = (both f).at })
  where
    both : (f : RingFields) → RingDoes (Unit {0}) f (RingNext (OnDriver (Enables (not_paused f.is_paused bits)) restarted) ResumesTransmit)
        (RingNext (OnDriver (Enables (not_paused f.is_paused bits)) restarted) ResumesTransmit)
    both f =
        ring_next (on_driver {f = f} restarted restarted (enables_determined (not_paused f.is_paused bits) f.driver tt tt) (λ r. refl))
        (λ e mid. resumes_same mid)

pub dumps_registers_leave_no_choice : LeavesNoRingChoice DumpsRegisters
dumps_registers_leave_no_choice = no_choice (λ f x y. record {
  at = λ l m a b t w.
      so_then t.whole w.whole
      ((on_driver {f = f} unchanged unchanged (dumps_determined f.driver x y) (λ e. refl)).at t.front w.front t.mid w.mid t.first w.first)
      (λ r. let N : RingFields → Type 0 = λ mid. ResumesTransmit mid w.back b in
      so (λ s. (r.0, s.1)) ((resumes_same t.mid).at t.back w.back a b t.second (subst N (sym r.1) w.second)));
})
