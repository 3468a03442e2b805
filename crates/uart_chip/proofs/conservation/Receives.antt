-- What a stretch of a session does to the receiver: characters come in and are taken, and a drop shows in the overrun flag.
use Rattle.std.proofs.Common.{◌≡◌, ◌≢◌, ℕ, ◌+◌, ◌≤◌, Bool, true, false, not, ◌⊎◌, inl, inr, List, [], ◌++◌, length, length-append}
use Rattle.std.proofs.Common.{append-nil, refl, arith, sym, ◌∙◌, bit_or}
use Rattle.std.specs.List.{filter}
use Rattle.std.proofs.lemmas.Bool.{or_left, or_right, or_cases}
use Rattle.uart_events.specs.declared.event.ArrivalMark.{ArrivalMark}
use Rattle.uart_events.specs.declared.event.ArrivalMark.TheVariants.{Dropped}
use Rattle.uart_chip.specs.declared.receiver.Character.{Character}
use Rattle.uart_chip.specs.declared.receiver.Origin.{Origin}
use Rattle.uart_chip.specs.declared.receiver.Origin.TheVariants.{Arrived, Looped}
use Rattle.uart_spec.specs.Bits.{has_any}
use Rattle.uart_spec.specs.declared.registers.line_status.TheConstants.LSR
use Rattle.uart_chip.specs.Receiver.{ReceiverState, mark_at, set_mark}
use Rattle.uart_chip.specs.Sound.{IsMarked}
use Rattle.uart_chip.specs.Conserved.{is_dropped, origin_stands, stands}
use Rattle.uart_chip.proofs.soundness.Marks.{mark_at-set_mark_not}
use Rattle.uart_chip.proofs.Bits.{has_or, has_none}
use Rattle.uart_chip.proofs.conservation.Moves.{IsFinal, Moved, moved_trans, filter-waits}
use Rattle.uart_chip.proofs.conservation.Stepped.{Stepped, stepped-trans, stepped-same}

-- ---- drops

-- a character of this origin was lost
pub record Drop (r s : ReceiverState) : Type 0 where
  pub origin : Origin
  pub stood : origin_stands r.marks r.is_unscheduled_lost origin ≡ true
  pub lost : origin_stands s.marks s.is_unscheduled_lost origin ≡ false

pub drop_split : (r s t : ReceiverState) → Drop r t → Drop r s ⊎ Drop s t
drop_split r s t d = go (origin_stands s.marks s.is_unscheduled_lost d.origin) refl
  where
    go : (b : Bool) → origin_stands s.marks s.is_unscheduled_lost d.origin ≡ b → Drop r s ⊎ Drop s t
    go true e = inr (record { origin = d.origin; stood = e; lost = d.lost })
    go false e = inl (record { origin = d.origin; stood = d.stood; lost = e })

drop_first : (fifo : Bool) (r s t : ReceiverState) (e xs : List Character) → Moved fifo s t e xs → Drop r s → Drop r t
drop_first fifo r s t e xs m d = go (origin_stands t.marks t.is_unscheduled_lost d.origin) refl
  where
    go : (b : Bool) → origin_stands t.marks t.is_unscheduled_lost d.origin ≡ b → Drop r t
    go true f = let g : origin_stands s.marks s.is_unscheduled_lost d.origin ≡ true = m.falls d.origin f in absurd (cc (d.lost))
    go false f = record { origin = d.origin; stood = d.stood; lost = f }

drop_second : (fifo : Bool) (r s t : ReceiverState) (e xs : List Character) → Moved fifo r s e xs → Drop s t → Drop r t
drop_second fifo r s t e xs m d = record { origin = d.origin; stood = m.falls d.origin d.stood; lost = d.lost }

-- the marks and the missing flag stay
no_drop-same : (r s : ReceiverState) → s.marks ≡ r.marks → s.is_unscheduled_lost ≡ r.is_unscheduled_lost → Drop r s → ⊥
no_drop-same r s m l d = let h : origin_stands r.marks r.is_unscheduled_lost d.origin ≡ false = rw (m, l) at d.lost in cc (d.stood)

dropped_is : (m : ArrivalMark) → not (is_dropped m) ≡ false → m ≡ Dropped
dropped_is Dropped e = refl
dropped_is _ e = absurd (cc)

-- a mark is set that is none of a drop
pub no_drop-set : (r s : ReceiverState) (o : Origin) (m : ArrivalMark) → m ≢ Dropped → s.marks ≡ set_mark o m r.marks →
    s.is_unscheduled_lost ≡ r.is_unscheduled_lost → Drop r s → ⊥
no_drop-set r s o m new marks missing d = go d.origin d.stood d.lost
  where
    go : (from : Origin) → origin_stands r.marks r.is_unscheduled_lost from ≡ true →
        origin_stands s.marks s.is_unscheduled_lost from ≡ false → ⊥
    go (Arrived j) f g =
        let old : mark_at r.marks j ≢ Dropped = λ e. let h : not true ≡ true = rw e at f in cc in
        mark_at-set_mark_not o m Dropped r.marks j new old (dropped_is (mark_at (set_mark o m r.marks) j) (rw marks at g))
    go _ f g = let q = rw missing at g in cc

-- ---- the overrun flag

-- these bits of the line status show it, or it would still be shown
abbrev pub Shows : ℕ → ReceiverState → Type 0
Shows seen r = (has_any seen LSR.OVERRUN_ERROR.0 ≡ true) ⊎ (r.is_overrun ≡ true)

-- it was pending, or a drop lies between
abbrev pub Owed : ReceiverState → ReceiverState → Type 0
Owed r s = (r.is_overrun ≡ true) ⊎ Drop r s

-- ---- a stretch

-- from r to s these came in, those were taken, and the line status showed these bits
pub record Receives (fifo : Bool) (r s : ReceiverState) (entering takes : List Character) (seen : ℕ) : Type 0 where
  pub number : s.arrived ≡ r.arrived + length entering
  pub fuller : length r.queue ≤ length s.queue + length takes
  pub moved : Moved fifo r s entering takes
  pub is_shown : Owed r s → Shows seen s
  pub was_owed : Shows seen s → Owed r s
  pub stepped : Stepped fifo r s entering takes seen

pub shows_first : (a b : ℕ) (r : ReceiverState) → has_any a LSR.OVERRUN_ERROR.0 ≡ true → Shows (bit_or a b) r
shows_first a b r e = inl (has_or 1 a b ∙ or_left (has_any a LSR.OVERRUN_ERROR.0) (has_any b LSR.OVERRUN_ERROR.0) e)

pub shows_second : (a b : ℕ) (r : ReceiverState) → Shows b r → Shows (bit_or a b) r
shows_second a b r (inl e) = inl (has_or 1 a b ∙ or_right (has_any a LSR.OVERRUN_ERROR.0) (has_any b LSR.OVERRUN_ERROR.0) e)
shows_second a b r (inr e) = inr e

pub receives-trans : (fifo : Bool) (r s t : ReceiverState) (f g xs ys : List Character) (a b : ℕ) → Receives fifo r s f xs a →
    Receives fifo s t g ys b →
    Receives fifo r t (f ++ g) (xs ++ ys) (bit_or a b)
receives-trans fifo r s t f g xs ys a b p q = record {
  number = simp length-append (omega (arith, p.number, q.number));
  fuller = simp length-append (omega (arith, p.fuller, q.fuller));
  moved = moved_trans fifo r s t f g xs ys p.moved q.moved;
  is_shown = λ o. shows_now o;
  was_owed = λ h. owed_then h;
  stepped = stepped-trans fifo r s t f g xs ys a b p.stepped q.stepped;
}
  where
    on_shown : Shows a s → Shows (bit_or a b) t
    on_shown (inl h) = shows_first a b t h
    on_shown (inr h) = shows_second a b t (q.is_shown (inl h))

    shows_now : Owed r t → Shows (bit_or a b) t
    shows_now (inl h) = on_shown (p.is_shown (inl h))
    shows_now (inr h) = split (drop_split r s t h)
      where
        split : Drop r s ⊎ Drop s t → Shows (bit_or a b) t
        split (inl h) = on_shown (p.is_shown (inr h))
        split (inr h) = shows_second a b t (q.is_shown (inr h))

    from_first : Owed r s → Owed r t
    from_first (inl h) = inl h
    from_first (inr h) = inr (drop_first fifo r s t g ys q.moved h)

    from_second : Owed s t → Owed r t
    from_second (inl h) = from_first (p.was_owed (inr h))
    from_second (inr h) = inr (drop_second fifo r s t f xs p.moved h)

    owed_then : Shows (bit_or a b) t → Owed r t
    owed_then (inl h) = either (or_cases (has_any a LSR.OVERRUN_ERROR.0) (has_any b LSR.OVERRUN_ERROR.0) (sym (has_or 1 a b) ∙ h))
      where
        either : (has_any a LSR.OVERRUN_ERROR.0 ≡ true) ⊎ (has_any b LSR.OVERRUN_ERROR.0 ≡ true) → Owed r t
        either (inl h) = from_first (p.was_owed (inl h))
        either (inr h) = from_second (q.was_owed (inl h))
    owed_then (inr h) = from_second (q.was_owed (inr h))

-- ---- nothing comes in or is taken

-- the receiver's characters are the same, and as many can wait
pub record SameCharacters (r s : ReceiverState) : Type 0 where
  pub queue : s.queue ≡ r.queue
  pub marks : s.marks ≡ r.marks
  pub missing : s.is_unscheduled_lost ≡ r.is_unscheduled_lost
  pub arrived : s.arrived ≡ r.arrived
  pub size : s.size ≡ r.size

moved_same : (fifo : Bool) (r s : ReceiverState) → IsMarked fifo r → SameCharacters r s → Moved fifo r s [] []
moved_same fifo r s w k = record {
  stay = let all : filter (stands s) r.queue ≡ r.queue =
      filter-waits s r.arrived r.queue (rw (k.marks, k.missing) w.wait) in rw (k.queue, append-nil r.queue) all;
  falls = λ o h. rw (k.marks, k.missing) at h;
  final = λ o h. same_final o h;
  taken_final = tt;
}
  where
    same_missing : (b : Bool) → IsFinal b r Looped → IsFinal b s Looped
    same_missing true h = k.missing ∙ h
    same_missing false h = (k.missing ∙ h.0, rw k.queue h.1)

    same_final : (o : Origin) → IsFinal fifo r o → IsFinal fifo s o
    same_final (Arrived j) h = rw k.marks h
    same_final _ h = same_missing fifo h

-- the overrun flag may be shown
pub receives-same : (fifo : Bool) (r s : ReceiverState) (seen : ℕ) → IsMarked fifo r → SameCharacters r s →
    (r.is_overrun ≡ true → Shows seen s) → (Shows seen s → r.is_overrun ≡ true) → Receives fifo r s [] [] seen
receives-same fifo r s seen w k f g = record {
  number = rw k.arrived (omega arith);
  fuller = rw k.queue (omega arith);
  moved = moved_same fifo r s w k;
  is_shown = λ o. to o;
  was_owed = λ h. inl (g h);
  stepped = stepped-same fifo r s seen k.queue k.size f g;
}
  where
    to : Owed r s → Shows seen s
    to (inl h) = f h
    to (inr h) = absurd (no_drop-same r s k.marks k.missing h)

-- the overrun flag stays too, and the line status is not read
pub receives-still : (fifo : Bool) (r s : ReceiverState) → IsMarked fifo r → SameCharacters r s → s.is_overrun ≡ r.is_overrun →
    Receives fifo r s [] [] 0
receives-still fifo r s w k e = receives-same fifo r s 0 w k (λ h. inr (e ∙ h)) (λ h. back h)
  where
    back : Shows 0 s → r.is_overrun ≡ true
    back (inl h) = absurd (cc (has_none 1))
    back (inr h) = sym e ∙ h

pub receives-refl : (fifo : Bool) (r : ReceiverState) → IsMarked fifo r → Receives fifo r r [] [] 0
receives-refl fifo r w = receives-still fifo r r w (record { queue = refl; marks = refl; missing = refl; arrived = refl; size = refl }) refl
