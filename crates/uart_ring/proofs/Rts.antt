-- What is written to make RTS so; that `adjust_xoff` is a `queue_urgent` or nothing, and `obey_xoff` a hold, a release or nothing.
use Rattle.std.proofs.Common.{◌≡◌, ◌⊎◌, ◌==◌, ◌≤◌, ℕ, zero, suc, Bool, true, false, not, List, [], ◌∷◌, ◌++◌, length, append-nil, refl}
use Rattle.std.proofs.Common.{arith, sym, ◌∙◌, ap, subst, inl, inr, Option, Some, None}
use Rattle.std.specs.Prelude.{option_to_list, MatchBool}
use lib.Bits.{or_zero_r}
use Rattle.uart_spec.specs.declared.access.Access.{Access}
use Rattle.uart_spec.specs.declared.access.Access.TheVariants.{Read, Write}
use Rattle.uart_spec.specs.declared.registers.modem_control.TheConstants.MCR
use Rattle.uart_spec.specs.declared.registers.offsets.TheConstants as offsets
use Rattle.uart_16550.specs.Choice.{PartAtRead}
use Rattle.uart_16550.specs.Frame.{switched, unlooped}
use Rattle.uart_ring.specs.Ring.{RingFields, IfAny, free, waiting, looked, with_hold, with_told_xoff}
use Rattle.uart_ring.specs.Transmit.{Pumps, Holds, Releases}
use Rattle.uart_ring.specs.Receive.{write_if_other, rts_at, flow_character, to_tell, TellsIfAny, AdjustsXoff}
use Rattle.uart_ring.specs.Receive.{xon, Obeys, ObeysXoff, held_as_told, HoldsAsTold}
use Rattle.uart_ring.specs.Armed.{LeavesArmed}
use Rattle.uart_ring.specs.Bounded.{MakesAtMostBySize, most_of_pump}
use Rattle.uart_ring.specs.Choice.{LeavesNoRingChoice}
use Rattle.uart_ring.specs.Lossless.{LosesOnly, LosesNothing, Implies, untold_line, untold_modem}
use Rattle.uart_ring.specs.declared.ring.receive.ReceiveMarks.{ReceiveMarks}
use Rattle.uart_ring.proofs.Arming.{queues_urgent_arm, holds_leave, releases_arm}
use Rattle.uart_ring.proofs.Bounding.{queues_urgent_size, releases_size}
use Rattle.uart_ring.proofs.Choices.{queues_urgent_leaves_no_choice, releases_leave_no_choice}
use Rattle.uart_ring.proofs.Losses.{queues_urgent_loses_only, carried, stays_carries, holds_lose_nothing, releases_lose_nothing}

written : (shown on : Bool) (write : Access) → (shown ≡ on → ⊥) → write ∷ [] ≡ write_if_other shown on write
written true true write differs = absurd (differs refl)
written false false write differs = absurd (differs refl)
written true false write differs = refl
written false true write differs = refl

-- MCR showed RTS otherwise, so it was written
pub other_written : (shown on : Bool) (outputs mcr : ℕ) → (shown ≡ on → ⊥) → outputs ≡ switched on MCR.RTS.0 mcr →
    Read offsets.MCR mcr ∷ Write offsets.MCR (unlooped outputs) ∷ [] ≡
    Read offsets.MCR mcr ∷ write_if_other shown on (Write offsets.MCR (unlooped (switched on MCR.RTS.0 mcr)))
other_written shown on outputs mcr differs same =
    rw same (ap (λ accesses. Read offsets.MCR mcr ∷ accesses)
    (written shown on (Write offsets.MCR (unlooped (switched on MCR.RTS.0 mcr))) differs))

-- ---- XOFF and XON

-- what is to be told at these marks
abbrev pub at_marks : ReceiveMarks → RingFields → Option Bool
at_marks marks f = to_tell (rts_at marks (free f.receive)) f.urgent f.has_told_xoff

tells_loses_only : (wanted : Option Bool) (told : Option ℕ) →
    Implies (TellsIfAny wanted told) (LosesOnly (λ waiting. option_to_list told ++ waiting) [] 0 0)
tells_loses_only None told f l after (is, (none, same)) = rw (is, none, same) (record {
  sent = refl;
  received = sym (append-nil f.receive.items);
  line_told = sym (or_zero_r (untold_line f));
  modem_told = sym (or_zero_r (untold_modem f));
  rooms = (refl, refl);
  settings = refl;
})
tells_loses_only (Some on) told f l after (is, t) =
    let c = queues_urgent_loses_only (flow_character on) None (with_told_xoff (not on) f) l after t in
    rw is (record {
      sent = c.sent;
      received = c.received;
      line_told = c.line_told;
      modem_told = c.modem_told;
      rooms = c.rooms;
      settings = c.settings;
    })

pub adjusts_xoff_loses_only : (marks : ReceiveMarks) (told : Option ℕ) →
    Implies (AdjustsXoff marks told) (LosesOnly (λ waiting. option_to_list told ++ waiting) [] 0 0)
adjusts_xoff_loses_only marks told f l after t = tells_loses_only (at_marks marks f) told f l after t

tells_leaves : (wanted : Option Bool) (told : Option ℕ) → Implies (TellsIfAny wanted told) LeavesArmed
tells_leaves None told f l after (is, (none, same)) = λ unchecked known keeps armed. rw (none, same) armed
tells_leaves (Some on) told f l after (is, t) = λ unchecked known keeps armed.
    queues_urgent_arm (flow_character on) None (with_told_xoff (not on) f) l after t unchecked known

pub adjusts_xoff_leave : (marks : ReceiveMarks) (told : Option ℕ) → Implies (AdjustsXoff marks told) LeavesArmed
adjusts_xoff_leave marks told f l after t = tells_leaves (at_marks marks f) told f l after t

tells_size : (wanted : Option Bool) (told : Option ℕ) → Implies (TellsIfAny wanted told) (MakesAtMostBySize most_of_pump)
tells_size None told f l after (is, t) = omega (arith, ap length t.0)
tells_size (Some on) told f l after (is, t) =
    queues_urgent_size (flow_character on) None (with_told_xoff (not on) f) l after t

pub adjusts_xoff_size : (marks : ReceiveMarks) (told : Option ℕ) → Implies (AdjustsXoff marks told) (MakesAtMostBySize most_of_pump)
adjusts_xoff_size marks told f l after t = tells_size (at_marks marks f) told f l after t

tells_leave_no_choice : (wanted : Option Bool) → LeavesNoRingChoice (TellsIfAny wanted)
tells_leave_no_choice None f x y l m a b p q = inl (p.0 ∙ sym q.0, p.1.0 ∙ sym q.1.0, p.1.1 ∙ sym q.1.1)
tells_leave_no_choice (Some on) f x y l m a b p q =
    told (queues_urgent_leaves_no_choice (flow_character on) (with_told_xoff (not on) f) None None l m a b p.1 q.1)
  where
    told : {T : Type 0} → (T × (l ≡ m) × (a ≡ b)) ⊎ PartAtRead l m → ((x ≡ y) × (l ≡ m) × (a ≡ b)) ⊎ PartAtRead l m
    told (inl t) = inl (p.0 ∙ sym q.0, t.1, t.2)
    told (inr part) = inr part

pub adjusts_xoff_leave_no_choice : (marks : ReceiveMarks) → LeavesNoRingChoice (AdjustsXoff marks)
adjusts_xoff_leave_no_choice marks f x y l m a b p q = tells_leave_no_choice (at_marks marks f) f x y l m a b p q

-- ---- obeying them

obeys_loses : (told : Option ℕ) → Implies (Obeys told) (LosesNothing [] [] 0 0)
obeys_loses None f l after t = carried f l after (stays_carries f l after t)
obeys_loses (Some byte) f l after t = go (byte == xon) t
  where
    go : (on : Bool) → MatchBool on (Releases f l after) (Holds f l after) → LosesNothing [] [] 0 0 f l after
    go true t = releases_lose_nothing f l after t
    go false t = holds_lose_nothing f l after t

pub obeys_xoff_loses_nothing : (told : Option ℕ) → Implies (ObeysXoff told) (LosesNothing [] [] 0 0)
obeys_xoff_loses_nothing told f l after (is, t) =
    let c = obeys_loses told (looked f) l after t in
    record {
      sent = c.sent;
      received = c.received;
      line_told = c.line_told;
      modem_told = c.modem_told;
      rooms = c.rooms;
      settings = c.settings;
    }

obeys_leaves : (told : Option ℕ) → Implies (Obeys told) LeavesArmed
obeys_leaves None f l after (none, same) = λ unchecked known keeps armed. rw (none, same) armed
obeys_leaves (Some byte) f l after t = go (byte == xon) t
  where
    go : (on : Bool) → MatchBool on (Releases f l after) (Holds f l after) → LeavesArmed f l after
    go true t = λ unchecked known keeps armed. releases_arm f l after t unchecked known
    go false t = holds_leave f l after t

pub obeys_xoff_leave : (told : Option ℕ) → Implies (ObeysXoff told) LeavesArmed
obeys_xoff_leave told f l after (is, t) = obeys_leaves told (looked f) l after t

obeys_size : (told : Option ℕ) → Implies (Obeys told) (MakesAtMostBySize most_of_pump)
obeys_size None f l after t = omega (arith, ap length t.0)
obeys_size (Some byte) f l after t = go (byte == xon) t
  where
    go : (on : Bool) → MatchBool on (Releases f l after) (Holds f l after) → length l ≤ most_of_pump f.driver.size
    go true t = releases_size f l after t
    go false t = omega (arith, ap length t.0)

obeys_same : (told : Option ℕ) (f : RingFields) (l m : List Access) (a b : RingFields) → Obeys told f l a → Obeys told f m b →
    ((l ≡ m) × (a ≡ b)) ⊎ PartAtRead l m
obeys_same None f l m a b p q = inl (p.0 ∙ sym q.0, p.1 ∙ sym q.1)
obeys_same (Some byte) f l m a b p q = go (byte == xon) p q
  where
    two : {T : Type 0} → (T × (l ≡ m) × (a ≡ b)) ⊎ PartAtRead l m → ((l ≡ m) × (a ≡ b)) ⊎ PartAtRead l m
    two (inl (is, whole, same)) = inl (whole, same)
    two (inr part) = inr part

    go : (on : Bool) → MatchBool on (Releases f l a) (Holds f l a) → MatchBool on (Releases f m b) (Holds f m b) →
        ((l ≡ m) × (a ≡ b)) ⊎ PartAtRead l m
    go true p q = two (releases_leave_no_choice f tt tt l m a b p q)
    go false p q = inl (p.0 ∙ sym q.0, p.1 ∙ sym q.1)

pub obeys_xoff_leave_no_choice : LeavesNoRingChoice ObeysXoff
obeys_xoff_leave_no_choice f x y l m a b p q =
    let same : x ≡ y = p.0 ∙ sym q.0 in
    let O : Option ℕ → Type 0 = λ told. Obeys told (looked f) m b in
    all same (obeys_same x (looked f) l m a b p.1 (subst O (sym same) q.1))
  where
    all : x ≡ y → ((l ≡ m) × (a ≡ b)) ⊎ PartAtRead l m → ((x ≡ y) × (l ≡ m) × (a ≡ b)) ⊎ PartAtRead l m
    all same (inl (whole, left)) = inl (same, whole, left)
    all same (inr part) = inr part

pumps_keep : (count : ℕ) (f : RingFields) (l : List Access) (after : RingFields) → IfAny count Pumps f l after →
    (after.is_held ≡ f.is_held) × (after.receive ≡ f.receive) × (after.unlooked ≡ f.unlooked)
pumps_keep zero f l after t =
    (ap (λ (g : RingFields). g.is_held) t.1, ap (λ (g : RingFields). g.receive) t.1, ap (λ (g : RingFields). g.unlooked) t.1)
pumps_keep (suc n) f l after (sent, (does, same)) =
    (ap (λ (g : RingFields). g.is_held) same, ap (λ (g : RingFields). g.receive) same, ap (λ (g : RingFields). g.unlooked) same)

obeys_holds : (told : Option ℕ) (f : RingFields) (l : List Access) (after : RingFields) → Obeys told f l after →
    (after.is_held ≡ held_as_told told f.is_held) × (after.receive ≡ f.receive) × (after.unlooked ≡ f.unlooked)
obeys_holds None f l after (none, same) =
    (ap (λ (g : RingFields). g.is_held) same, ap (λ (g : RingFields). g.receive) same, ap (λ (g : RingFields). g.unlooked) same)
obeys_holds (Some byte) f l after t = go (byte == xon) t
  where
    go : (on : Bool) → MatchBool on (Releases f l after) (Holds f l after) →
        (after.is_held ≡ not on) × (after.receive ≡ f.receive) × (after.unlooked ≡ f.unlooked)
    go true t = pumps_keep (length (waiting (with_hold false f))) (with_hold false f) l after t
    go false (none, same) =
        (ap (λ (g : RingFields). g.is_held) same, ap (λ (g : RingFields). g.receive) same, ap (λ (g : RingFields). g.unlooked) same)

pub obeys_xoff_size : (told : Option ℕ) → Implies (ObeysXoff told) (MakesAtMostBySize most_of_pump)
obeys_xoff_size told f l after (is, t) = obeys_size told (looked f) l after t

pub obeys_xoff_holds : (told : Option ℕ) → Implies (ObeysXoff told) (HoldsAsTold told)
obeys_xoff_holds told f l after (is, t) = obeys_holds told (looked f) l after t
