-- A driver that checks CTS writes no byte while CTS is clear.
use Rattle.uart_link.proofs.Names.{◌≡◌, ℕ, Bool, true, false, MatchBool, List, [], ◌++◌, take, refl, ◌∙◌, ap, subst, inl, inr}
use Rattle.uart_link.proofs.Names.{AllByRecursion, has, Access, Read, Write, Settings, Then, Asks, Fields, settings_of, Sends, SendHit}
use Rattle.uart_link.proofs.Names.{LinesAllow, each-front, each-back, RingDoing, data_written, data_written-append, sends_move}
use Rattle.uart_link.proofs.Names.{receives_move}
use Rattle.uart_spec.specs.declared.registers.line_status.TheConstants.LSR
use Rattle.uart_spec.specs.declared.registers.modem_control.TheConstants.MCR
use Rattle.uart_spec.specs.declared.registers.modem_status.TheConstants.MSR
use Rattle.uart_spec.specs.declared.registers.offsets.TheConstants as offsets
use Rattle.uart_ring_runs.proofs.RingWalk.{Walks, InRings}
use Rattle.uart_ring.proofs.Pausing.{ChangesIer, joined_with, rid_of}

-- ---- lists that show whether the other end holds this one back

-- a read of MSR shows CTS set or clear, and a read of MCR that loopback is off; each of these accesses does
abbrev pub ShowsCts : (cts : Bool) → Access → Type 0
ShowsCts cts (Read offset answer) =
    (offset ≡ offsets.MSR → has answer MSR.CTS.0 ≡ cts) × (offset ≡ offsets.MCR → has answer MCR.LOOP_BACK.0 ≡ false)
ShowsCts cts (Write offset value) = Unit {0}

abbrev pub AllShowCts : (cts : Bool) → List Access → Type 0
AllShowCts cts accesses = AllByRecursion (ShowsCts cts) accesses

-- whether the driver checks CTS stays; and if it does, and all of this shows that it is held back, no byte is written
pub record HeldBack (f : Fields) (l : List Access) (after : Fields) : Type 0 where
  pub checks : (settings_of after).checks ≡ (settings_of f).checks
  pub held : (settings_of f).checks ≡ true → AllShowCts false l → data_written l ≡ []

abbrev pub HoldsBack : RingDoing
HoldsBack = InRings HeldBack

held-then : (f mid after : Fields) (l m : List Access) → HeldBack f l mid → HeldBack mid m after → HeldBack f (l ++ m) after
held-then f mid after l m a b = record {
  checks = b.checks ∙ a.checks;
  held = λ on shown.
      let first : data_written l ≡ [] = a.held on (each-front (ShowsCts false) l m shown) in
      let second : data_written m ≡ [] = b.held (a.checks ∙ on) (each-back (ShowsCts false) l m shown) in
      data_written-append l m ∙ (λ i. first i ++ second i);
}

-- nothing is written at all
silent : (f : Fields) (l : List Access) (after : Fields) → (settings_of after).checks ≡ (settings_of f).checks → data_written l ≡ [] →
    HeldBack f l after
silent f l after same none = record { checks = same; held = λ on shown. none }

none : (l : List Access) → l ≡ [] → data_written l ≡ []
none l is = ap data_written is

-- ---- the driver's lists

lines_held : (s : Settings) (l : List Access) → LinesAllow true s l → AllShowCts false l → ⊥
lines_held s l (inl t) shown = let h = rw t.1.is at shown in let e = h.0.1 refl in cc (t.1.shows)
lines_held s l (inr t) shown =
    let h = rw (t.whole, t.first.is, t.second.is) at shown in
    let e = h.1.0.0 refl in
    cc (t.second.shows)

hit_held : (s : Settings) (l : List Access) → s.checks ≡ true → SendHit s l → AllShowCts false l → ⊥
hit_held s l on t shown = go s.checks on t
  where
    go : (checks : Bool) → checks ≡ true → MatchBool checks (Then (Asks offsets.LSR LSR.THR_EMPTY.0 true) (LinesAllow true) s l)
        (Asks offsets.LSR LSR.THR_EMPTY.0 true s l) → ⊥
    go true e u =
        let S : List Access → Type 0 = λ m. AllShowCts false m in
        lines_held s u.back u.second (each-back (ShowsCts false) u.front u.back (subst S u.whole shown))
    go false e u = absurd (cc)

sends_held : (bytes : List ℕ) (sent : ℕ) (s : Settings) (l : List Access) → s.checks ≡ true → Sends bytes sent s l → AllShowCts false l →
    data_written l ≡ []
sends_held bytes sent s l on (inl t) shown = none l t.2
sends_held bytes sent s l on (inr (inl t)) shown =
    (sends_move bytes sent s l (inr (inl t))).written_is ∙ ap (λ n. take n bytes) t.1
sends_held bytes sent s l on (inr (inr t)) shown =
    let S : List Access → Type 0 = λ m. AllShowCts false m in
    absurd (hit_held s t.2.front on t.2.first (each-front (ShowsCts false) t.2.front t.2.back (subst S t.2.whole shown)))

changes_held : (change : ℕ → ℕ) (f : Fields) (l : List Access) (after : Fields) → ChangesIer change f l after → HeldBack f l after
changes_held change f l after (ier, is, changed) = silent f l after (ap (λ g. (settings_of g).checks) changed) (ap data_written is)

pub in_held : Walks HeldBack
in_held = record {
  nothing = λ f. silent f [] f refl refl;
  next = held-then;
  sends = λ bytes sent f l after t.
      record { checks = ap (λ g. (settings_of g).checks) t.1; held = λ on shown. sends_held bytes sent (settings_of f) l on t.0 shown };
  receives = λ room bytes f l after t.
      silent f l after (ap (λ g. (settings_of g).checks) t.1) (receives_move room bytes (settings_of f) l t.0).written_is;
  enables = λ bits f l after t. changes_held (joined_with bits) f l after t;
  disables = λ bits f l after t. changes_held (rid_of bits) f l after t;
  lsr = λ value f l after t. silent f l after (ap (λ g. (settings_of g).checks) t.3) (ap data_written t.1);
  msr = λ value f l after t. silent f l after (ap (λ g. (settings_of g).checks) t.3) (ap data_written t.1);
  isr = λ value f l after t. silent f l after (ap (λ g. (settings_of g).checks) t.1) (ap data_written t.0.is);
  retriggers = λ f l after t. silent f l after (ap (λ g. (settings_of g).checks) t.1) (ap data_written t.0.1);
}
