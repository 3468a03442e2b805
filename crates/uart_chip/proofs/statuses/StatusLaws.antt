-- What `lsr` and `msr` report after a part of a session.
use Rattle.std.proofs.Common.{◌≡◌, ℕ, ◌<◌, min, Bool, true, false, ◌||◌, ◌⊎◌, inl, inr, List, [], ◌∷◌, ◌++◌, length, Option, refl, arith}
use Rattle.std.proofs.Common.{sym, ◌∙◌, ap, append-nil, ◌==◌, if◌then◌else◌, bit_and, bit_or}
use Rattle.std.specs.Int.{bit_at}
use Rattle.std.proofs.lemmas.Nat.Bits.{same_from_bits, bit_at_or, bit_at_and, bit_at-zero}
use Rattle.std.specs.Int.Bits.{and_zero_l, and_self}
use lib.Bits.{or_zero_r}
use Rattle.uart_chip.specs.declared.receiver.Character.{Character}
use Rattle.uart_spec.specs.Access.{Path, saved, saved_of, saved_lsr, saved_msr}
use Rattle.uart_spec.specs.declared.access.Access.{Access}
use Rattle.uart_spec.specs.declared.access.Access.TheVariants.{Read, Write}
use Rattle.uart_spec.specs.Bits.{IsWithin, has_any}
use Rattle.uart_spec.specs.declared.registers.line_status.TheConstants.LSR
use Rattle.uart_spec.specs.declared.registers.modem_status.TheConstants.MSR
use Rattle.uart_spec.specs.declared.registers.offsets.TheConstants as offsets
use Rattle.uart_chip.specs.Receiver.{ReceiverState}
use Rattle.uart_chip.specs.Machine.{MachineState, MachineStep}
use Rattle.uart_chip.specs.Conserved.{between, IsDrop}
use Rattle.uart_chip.specs.Laws.{reported_front, IsTold, AllTold, changes_in}
use Rattle.uart_chip.proofs.Bits.{has_or, has_and}
use Rattle.uart_chip.proofs.Lists.{each-weaker}
use Rattle.uart_chip.proofs.soundness.Within.{within_and, within_or}
use Rattle.uart_chip.proofs.conservation.Receives.{Shows}
use Rattle.uart_chip.proofs.statuses.Reports.{within-right, Told, FrontTold, TakenTold}
use Rattle.uart_chip.proofs.conservation.Went.{Modes, saved-append}
use Rattle.uart_chip.proofs.conservation.Passed.{Passed, passed-trans}
use Rattle.uart_chip.proofs.conservation.BlockLaws.{IsOpen, stands-after, passed-look, passed_quiet, look_reported}
use Rattle.uart_chip.proofs.conservation.SessionLaws.{look_clears, drop_shown, shown_drop, status_clears, changes_shown}

-- ---- what was shown on the way

-- at the earlier moment the one in front is the one that was reported, if it was
front_told-start : (r : ReceiverState) → FrontTold (reported_front r) 0 r
front_told-start r = record { told = λ f others e i. inl (rw (e, i) refl) }

taken-told : (fifo : Bool) (old : Option Character) (seen : ℕ) (s : ReceiverState) → s.is_overrun ≡ false → (fs : List Character) →
    TakenTold fifo old seen s fs → AllTold fifo old seen fs
taken-told fifo old seen s cleared [] h = tt
taken-told fifo old seen s cleared (f ∷ fs) h = (one h.0, taken-told fifo old seen s cleared fs h.1)
  where
    shown : Shows seen s → has_any seen LSR.OVERRUN_ERROR.0 ≡ true
    shown (inl e) = e
    shown (inr e) = absurd (cc)

    one : Told old seen f ⊎ ((fifo ≡ false) × Shows seen s) → IsTold fifo old seen f
    one (inl (inl e)) = inl e
    one (inl (inr e)) = inr (inl e)
    one (inr e) = inr (inr (e.0, shown e.1))

-- each that was taken in a part that ends with a read of LSR was reported in it
pub told_taken : (x : Modes) (m n : MachineState) (made : List Access) (ws : List ℕ) (ts : List Character) → Passed x m n made ws ts →
    n.chip.receiver.is_overrun ≡ false →
    AllTold x.fifo (reported_front m.chip.receiver) (saved_lsr made) ts
told_taken x m n made ws ts p cleared =
    taken-told x.fifo (reported_front m.chip.receiver) (saved_lsr made) n.chip.receiver cleared ts
    (p.went.reports.taken (reported_front m.chip.receiver) 0 (front_told-start m.chip.receiver))

-- and the one in front after it
pub told_front : (x : Modes) (m n : MachineState) (made : List Access) (ws : List ℕ) (ts : List Character) → Passed x m n made ws ts →
    n.chip.receiver.is_front_reported ≡ true →
    (f : Character) (others : List Character) → n.chip.receiver.queue ≡ f ∷ others →
    IsTold x.fifo (reported_front m.chip.receiver) (saved_lsr made) f
told_front x m n made ws ts p reported f others i =
    one ((p.went.reports.front (reported_front m.chip.receiver) 0 (front_told-start m.chip.receiver)).told f others reported i)
  where
    one : Told (reported_front m.chip.receiver) (saved_lsr made) f → IsTold x.fifo (reported_front m.chip.receiver) (saved_lsr made) f
    one (inl e) = inl e
    one (inr e) = inr (inl e)

-- ---- bits of the reply

-- what is saved of a register lies within its mask
pub saved-within : (register mask : ℕ) (l : List Access) → IsWithin (saved register mask l) mask
saved-within register mask [] = and_zero_l mask
saved-within register mask (Read offset answer ∷ l) =
    within_or (saved_of register mask (Read offset answer)) (saved register mask l) mask (one (offset == register))
    (saved-within register mask l)
  where
    one : (b : Bool) → IsWithin (if b then bit_and answer mask else 0) mask
    one true = within_and answer mask
    one false = and_zero_l mask
saved-within register mask (Write offset value ∷ l) =
    within_or 0 (saved register mask l) mask (and_zero_l mask) (saved-within register mask l)

-- what was shown, also by the last read, is in the reply
held : (e seen status mask kept : ℕ) → IsWithin e (bit_or seen (bit_or (bit_and status mask) 0)) →
    IsWithin e (bit_or status (bit_or kept seen))
held e seen status mask kept h = same_from_bits _ _ (λ i. at i)
  where
    at : (i : ℕ) → bit_at (bit_and e (bit_or status (bit_or kept seen))) i ≡ bit_at e i
    at i =
        let a = bit_at_or seen (bit_or (bit_and status mask) 0) i in
        let b = bit_at_or (bit_and status mask) 0 i in
        let c = bit_at_and status mask i in
        let z = bit_at-zero i in
        let p : min (bit_at e i) (bit_at (bit_or seen (bit_or (bit_and status mask) 0)) i) ≡ bit_at e i =
        sym (bit_at_and e (bit_or seen (bit_or (bit_and status mask) 0)) i) ∙ ap (λ n. bit_at n i) h in
        let q = bit_at_and e (bit_or status (bit_or kept seen)) i in
        let r = bit_at_or status (bit_or kept seen) i in
        let s = bit_at_or kept seen i in
        omega (arith, a, b, c, z, p, q, r, s)

-- the low bits of the reply are what was shown, if nothing was saved before
exactly : (seen status mask : ℕ) → IsWithin seen mask →
    bit_and (bit_or status (bit_or 0 seen)) mask ≡ bit_or seen (bit_or (bit_and status mask) 0)
exactly seen status mask h = same_from_bits _ _ (λ i. at i)
  where
    at : (i : ℕ) → bit_at (bit_and (bit_or status (bit_or 0 seen)) mask) i ≡ bit_at (bit_or seen (bit_or (bit_and status mask) 0)) i
    at i =
        let a = bit_at_or seen (bit_or (bit_and status mask) 0) i in
        let b = bit_at_or (bit_and status mask) 0 i in
        let c = bit_at_and status mask i in
        let z = bit_at-zero i in
        let p : min (bit_at seen i) (bit_at mask i) ≡ bit_at seen i = sym (bit_at_and seen mask i) ∙ ap (λ n. bit_at n i) h in
        let q = bit_at_and (bit_or status (bit_or 0 seen)) mask i in
        let r = bit_at_or status (bit_or 0 seen) i in
        let s = bit_at_or 0 seen i in
        omega (arith, a, b, c, z, p, q, r, s)

-- ---- `lsr`

-- m is the earlier moment, o follows the call; kept is what was saved at m
pub record LsrTells (x : Modes) (m o : MachineState) (made : List Access) (ws : List ℕ) (ts : List Character)
    (kept result : ℕ) : Type 0 where
  pub passed : Passed x m o made ws ts
  pub cleared : o.chip.receiver.is_overrun ≡ false
  pub drop_told : IsDrop m o → has_any result LSR.OVERRUN_ERROR.0 ≡ true
  pub told_drop : kept ≡ 0 → m.chip.receiver.is_overrun ≡ false → has_any result LSR.OVERRUN_ERROR.0 ≡ true → IsDrop m o
  pub taken_told : AllTold x.fifo (reported_front m.chip.receiver) result ts
  pub front_told : (f : Character) (others : List Character) → o.chip.receiver.queue ≡ f ∷ others →
      IsTold x.fifo (reported_front m.chip.receiver) result f

pub told-by : (fifo : Bool) (old : Option Character) (a b : ℕ) → ((e : ℕ) → IsWithin e a → IsWithin e b) →
    (has_any a LSR.OVERRUN_ERROR.0 ≡ true → has_any b LSR.OVERRUN_ERROR.0 ≡ true) → (f : Character) →
    IsTold fifo old a f → IsTold fifo old b f
told-by fifo old a b h k f (inl e) = inl e
told-by fifo old a b h k f (inr (inl e)) = inr (inl (h f.errors e))
told-by fifo old a b h k f (inr (inr e)) = inr (inr (e.0, k e.1))

pub all_told-by : (fifo : Bool) (old : Option Character) (a b : ℕ) → ((e : ℕ) → IsWithin e a → IsWithin e b) →
    (has_any a LSR.OVERRUN_ERROR.0 ≡ true → has_any b LSR.OVERRUN_ERROR.0 ≡ true) → (fs : List Character) →
    AllTold fifo old a fs → AllTold fifo old b fs
all_told-by fifo old a b h k fs t = each-weaker (IsTold fifo old a) (IsTold fifo old b) (told-by fifo old a b h k) fs t

-- the overrun flag in what was shown, the last look among it, and in the reply
overrun-in : (seen status : ℕ) →
    has_any (bit_or seen (bit_or (bit_and status LSR.LINE_ERRORS.0) 0)) LSR.OVERRUN_ERROR.0 ≡
    (has_any seen LSR.OVERRUN_ERROR.0 || has_any status LSR.OVERRUN_ERROR.0)
overrun-in seen status =
    let last : has_any (bit_or (bit_and status LSR.LINE_ERRORS.0) 0) LSR.OVERRUN_ERROR.0 ≡ has_any status LSR.OVERRUN_ERROR.0 =
    ap (λ v. has_any v LSR.OVERRUN_ERROR.0) (or_zero_r (bit_and status LSR.LINE_ERRORS.0)) ∙ has_and 1 status LSR.LINE_ERRORS.0 refl in
    has_or 1 seen (bit_or (bit_and status LSR.LINE_ERRORS.0) 0) ∙ ap (λ b. has_any seen LSR.OVERRUN_ERROR.0 || b) last

overrun-told : (status kept seen : ℕ) →
    has_any (bit_or status (bit_or kept seen)) LSR.OVERRUN_ERROR.0 ≡
    (has_any status LSR.OVERRUN_ERROR.0 || (has_any kept LSR.OVERRUN_ERROR.0 || has_any seen LSR.OVERRUN_ERROR.0))
overrun-told status kept seen = has_or 1 status (bit_or kept seen) ∙ ap (λ b. has_any status LSR.OVERRUN_ERROR.0 || b) (has_or 1 kept seen)

either_told : (a b c : Bool) → (a || b) ≡ true → (b || (c || a)) ≡ true
either_told true true c h = refl
either_told true false true h = refl
either_told true false false h = refl
either_told false b c h = rw h refl

none_kept : (a b : Bool) → (b || (false || a)) ≡ true → (a || b) ≡ true
none_kept true b h = refl
none_kept false true h = refl
none_kept false false h = h

pub lsr_tells : (x : Modes) (m n o : MachineState) (made : List Access) (ws : List ℕ) (ts : List Character) (status kept old result : ℕ) →
    IsOpen x → Passed x m n made ws ts →
    Path MachineStep n (Read offsets.LSR status ∷ []) o → old ≡ bit_or kept (saved_lsr made) → result ≡ bit_or status old →
    LsrTells x m o (made ++ Read offsets.LSR status ∷ []) ws ts kept result
lsr_tells x m n o made ws ts status kept old result w p (mid, step, same) saved_old joined =
    let a = passed-look x n mid status w.loopback (stands-after x m n made ws ts p) step in
    let both = passed-trans x x m n mid made (Read offsets.LSR status ∷ []) ws [] ts [] refl p a in
    let all : Passed x m mid (made ++ Read offsets.LSR status ∷ []) ws ts = rw (append-nil ws, append-nil ts) at both in
    let cleared : mid.chip.receiver.is_overrun ≡ false = look_clears n mid status step in
    let whole : saved_lsr (made ++ Read offsets.LSR status ∷ []) ≡ bit_or seen (bit_or (bit_and status LSR.LINE_ERRORS.0) 0) =
    saved-append offsets.LSR LSR.LINE_ERRORS.0 made (Read offsets.LSR status ∷ []) in
    let reply : result ≡ bit_or status (bit_or kept seen) = joined ∙ ap (bit_or status) saved_old in
    let holds : (e : ℕ) → IsWithin e (saved_lsr (made ++ Read offsets.LSR status ∷ [])) → IsWithin e result =
    λ e h. rw reply (held e seen status LSR.LINE_ERRORS.0 kept (rw whole at h)) in
    let shows : has_any (saved_lsr (made ++ Read offsets.LSR status ∷ [])) LSR.OVERRUN_ERROR.0 ≡ true →
    has_any result LSR.OVERRUN_ERROR.0 ≡ true =
    λ h. ap (λ v. has_any v LSR.OVERRUN_ERROR.0) reply ∙
    (overrun-told status kept seen ∙
    either_told (has_any seen LSR.OVERRUN_ERROR.0) (has_any status LSR.OVERRUN_ERROR.0) (has_any kept LSR.OVERRUN_ERROR.0)
    (sym (overrun-in seen status) ∙ (ap (λ v. has_any v LSR.OVERRUN_ERROR.0) (sym whole) ∙ h))) in
    rw same (record {
      passed = all;
      cleared = cleared;
      drop_told = λ d. shows (drop_shown x m mid _ ws ts all cleared d);
      told_drop =
          λ none quiet h. shown_drop x m mid _ ws ts all quiet
          (ap (λ v. has_any v LSR.OVERRUN_ERROR.0) whole ∙ (overrun-in seen status ∙ back none h reply));
      taken_told = all_told-by x.fifo (reported_front m.chip.receiver) _ result holds shows ts (told_taken x m mid _ ws ts all cleared);
      front_told = λ f others i. told-by x.fifo (reported_front m.chip.receiver) _ result holds shows f
          (told_front x m mid _ ws ts all (in_front mid step cleared f others i) f others i);
    })
  where
    seen : ℕ
    seen = saved_lsr made

    back : kept ≡ 0 → has_any result LSR.OVERRUN_ERROR.0 ≡ true → result ≡ bit_or status (bit_or kept seen) →
        (has_any seen LSR.OVERRUN_ERROR.0 || has_any status LSR.OVERRUN_ERROR.0) ≡ true
    back none h reply =
        let told : (has_any status LSR.OVERRUN_ERROR.0 || (has_any kept LSR.OVERRUN_ERROR.0 || has_any seen LSR.OVERRUN_ERROR.0)) ≡ true =
        sym (overrun-told status kept seen) ∙ (ap (λ v. has_any v LSR.OVERRUN_ERROR.0) (sym reply) ∙ h) in
        none_kept (has_any seen LSR.OVERRUN_ERROR.0) (has_any status LSR.OVERRUN_ERROR.0) (rw none at told)

    in_front : (mid : MachineState) → MachineStep n (Read offsets.LSR status) mid → mid.chip.receiver.is_overrun ≡ false →
        (f : Character) (others : List Character) → mid.chip.receiver.queue ≡ f ∷ others →
        mid.chip.receiver.is_front_reported ≡ true
    in_front mid step cleared f others i =
        let some : 0 < length mid.chip.receiver.queue = rw i (omega arith) in
        go (look_reported x.fifo n mid status step some).reported
      where
        go : (mid.chip.receiver.is_front_reported ≡ true) ⊎ ((x.fifo ≡ false) × (mid.chip.receiver.is_overrun ≡ true)) →
            mid.chip.receiver.is_front_reported ≡ true
        go (inl e) = e
        go (inr e) = absurd (cc (e.1))

-- ---- `msr`

pub record MsrTells (x : Modes) (m o : MachineState) (made : List Access) (ws : List ℕ) (ts : List Character)
    (kept result : ℕ) : Type 0 where
  pub passed : Passed x m o made ws ts
  pub cleared : o.chip.modem.deltas ≡ 0
  pub changes_told : IsWithin (changes_in m.chip.modem.lines (between m o)) result
  pub exactly_told : kept ≡ 0 → m.chip.modem.deltas ≡ 0 → bit_and result MSR.CHANGES.0 ≡ changes_in m.chip.modem.lines (between m o)

pub msr_tells : (x : Modes) (m n o : MachineState) (made : List Access) (ws : List ℕ) (ts : List Character) (status kept old result : ℕ) →
    IsOpen x → Passed x m n made ws ts →
    Path MachineStep n (Read offsets.MSR status ∷ []) o → old ≡ bit_or kept (saved_msr made) → result ≡ bit_or status old →
    MsrTells x m o (made ++ Read offsets.MSR status ∷ []) ws ts kept result
msr_tells x m n o made ws ts status kept old result w p (mid, step, same) saved_old joined =
    let a = passed_quiet x n mid (Read offsets.MSR status) w (stands-after x m n made ws ts p) refl step in
    let both = passed-trans x x m n mid made (Read offsets.MSR status ∷ []) ws [] ts [] refl p a in
    let all : Passed x m mid (made ++ Read offsets.MSR status ∷ []) ws ts = rw (append-nil ws, append-nil ts) at both in
    let cleared : mid.chip.modem.deltas ≡ 0 = status_clears n mid status step in
    let whole : saved_msr (made ++ Read offsets.MSR status ∷ []) ≡ bit_or seen (bit_or (bit_and status MSR.CHANGES.0) 0) =
    saved-append offsets.MSR MSR.CHANGES.0 made (Read offsets.MSR status ∷ []) in
    let reply : result ≡ bit_or status (bit_or kept seen) = joined ∙ ap (bit_or status) saved_old in
    let changed : bit_or seen (bit_or (bit_and status MSR.CHANGES.0) 0) ≡
    bit_or m.chip.modem.deltas (changes_in m.chip.modem.lines (between m mid)) =
    sym whole ∙ changes_shown x m mid _ ws ts all cleared in
    rw same (record {
      passed = all;
      cleared = cleared;
      changes_told =
          let c = changes_in m.chip.modem.lines (between m mid) in
          rw reply (held c seen status 15 kept (rw changed (within-right c m.chip.modem.deltas c (and_self c))));
      exactly_told =
          λ none quiet. ap (λ v. bit_and v MSR.CHANGES.0) (reply ∙ ap (λ k. bit_or status (bit_or k seen)) none) ∙
          (exactly seen status MSR.CHANGES.0 (saved-within offsets.MSR MSR.CHANGES.0 made) ∙
          (changed ∙ ap (λ d. bit_or d (changes_in m.chip.modem.lines (between m mid))) quiet));
    })
  where
    seen : ℕ
    seen = saved_msr made
