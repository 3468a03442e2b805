-- `check_configured` in a session: what it reads and writes moves no data, and leaves the modes as they are.
use Rattle.uart_run.proofs.Names.{◌≡◌, ℕ, ◌+◌, ◌*◌, true, false, inl, inr, List, [], ◌∷◌, ◌++◌, append_assoc, append-nil, refl, sym, ◌∙◌}
use Rattle.uart_run.proofs.Names.{ap, subst, bit_or, Ok, Err, arith, common_steps, Path, Access, Read, Write, Config, ConfigurationError}
use Rattle.uart_run.proofs.Names.{Language, Settings, Then, unlooped, frame_bits, Verdict, Shows, InTurn, ShowsFrame, ShowsOutputs}
use Rattle.uart_run.proofs.Names.{ShowsInterrupts, KeepsLine, OpensLatch, IsDivisor, ReadsLatch, ShowsDivisor, ShowsFifos, ShowsAll}
use Rattle.uart_run.proofs.Names.{ChecksConfigured, ChipState, word_length, after_read, after_write, MachineState, MachineStep, at_access}
use Rattle.uart_run.proofs.Names.{IsSoundChip, has_or, word_same, sound_access, sound_read, sound_write, is_quiet, AllQuiet, Modes, IsIn}
use Rattle.uart_run.proofs.Names.{dlab, loopback, Went, went-read_latch, went-read_1, went-read_3, went-write_lcr, Passed, passed-trans}
use Rattle.uart_run.proofs.Names.{passed-effect, IsOpen, Stands, PassedBlocks, nothing_taken, path_split, stands-after, relined}
use Rattle.uart_run.proofs.Names.{passed_blocks-trans}
use Rattle.uart_spec.specs.declared.registers.line_control.TheConstants.LCR
use Rattle.uart_spec.specs.declared.registers.offsets.TheConstants as offsets
use Rattle.uart_run.proofs.{CallBlocks.passed_silently, CallKeeps.quiet_blocks}

-- ---- accesses while the divisor latch is open

-- a read without loopback, by its effect
passed_read : (y : Modes) (m n : MachineState) (offset value : ℕ) → loopback y ≡ false → Stands y m → MachineStep m (Read offset value) n →
    ((c : ChipState) → IsSoundChip c → IsIn y c → Went y c (after_read offset c) [] (Read offset value ∷ []) [] []) →
    Passed y m n (Read offset value ∷ []) [] []
passed_read y m n offset value l w s effect =
    passed-effect y y m n (after_read offset (at_access m).chip) (Read offset value) [] [] l refl w.sound w.modes s.0
    (sound_read offset (at_access m) (sound_access m w.sound)) (λ p. effect (at_access m).chip p.sound.chip p.went.modes)

passed_line : (y : Modes) (m n : MachineState) (value : ℕ) → loopback y ≡ false → Stands y m → MachineStep m (Read offsets.LCR value) n →
    Passed y m n (Read offsets.LCR value ∷ []) [] []
passed_line y m n value l w s = passed_read y m n offsets.LCR value l w s (λ c sound is. went-read_3 y c value sound is)

-- LCR is written with the same word length
pub passed_lcr : (y : Modes) (m n : MachineState) (value : ℕ) → loopback y ≡ false → Stands y m → word_length value ≡ word_length y.lcr →
    MachineStep m (Write offsets.LCR value) n → Passed (record y { lcr = value }) m n (Write offsets.LCR value ∷ []) [] []
passed_lcr y m n value l w word s =
    passed-effect y (record y { lcr = value }) m n (after_write offsets.LCR value (at_access m).chip) (Write offsets.LCR value) [] [] l refl
    w.sound w.modes s (sound_write offsets.LCR value (at_access m) (sound_access m w.sound))
    (λ p. went-write_lcr y (at_access m).chip value p.sound.chip p.went.modes (word ∙ ap word_length (sym p.went.modes.lcr)))

passed_last : (y : Modes) (m n : MachineState) (value : ℕ) → loopback y ≡ false → Stands y m → word_length value ≡ word_length y.lcr →
    Path MachineStep m (Write offsets.LCR value ∷ []) n → Passed (record y { lcr = value }) m n (Write offsets.LCR value ∷ []) [] []
passed_last y m n value l w word (m₁, s₁, e) = rw e (passed_lcr y m m₁ value l w word s₁)

-- LCR as it is, with the latch open
abbrev pub opened : ℕ → ℕ
opened lcr = bit_or lcr LCR.DLAB.0

-- the latch is opened, something is read, and the latch is closed again
abbrev pub latched : (lcr : ℕ) → List Access → List Access
latched lcr reads = Read offsets.LCR lcr ∷ Write offsets.LCR (opened lcr) ∷ (reads ++ Write offsets.LCR lcr ∷ [])

passed_latched : (x : Modes) (m n : MachineState) (lcr : ℕ) (reads : List Access) → IsOpen x → Stands x m →
    ((a b : MachineState) → dlab (record x { lcr = opened lcr }) ≡ true → Stands (record x { lcr = opened lcr }) a →
    Path MachineStep a reads b → Passed (record x { lcr = opened lcr }) a b reads [] []) →
    Path MachineStep m (latched lcr reads) n → Passed x m n (latched lcr reads) [] []
passed_latched x m n lcr reads o w passes path =
    let y : Modes = record x { lcr = opened lcr } in
    let z : Modes = record x { lcr = lcr } in
    let first : List Access = Read offsets.LCR lcr ∷ Write offsets.LCR (opened lcr) ∷ [] in
    let last : List Access = Write offsets.LCR lcr ∷ [] in
    let p = path_split MachineStep m n first (reads ++ last) path in
    let q = path_split MachineStep p.0 n reads last p.2 in
    let on : dlab y ≡ true = has_or 7 lcr 128 ∙ grind (arith, common_steps) in
    let a = relined x m p.0 lcr (opened lcr) o w (word_same lcr) p.1 in
    let at_a = stands-after y m p.0 first [] [] a.passed in
    let b = passes p.0 q.0 on at_a q.1 in
    let at_b = stands-after y p.0 q.0 reads [] [] b in
    let c : Passed z q.0 n last [] [] = passed_last y q.0 n lcr o.loopback at_b (sym (word_same lcr)) q.2 in
    let bc = passed-trans y z p.0 q.0 n reads last [] [] [] [] refl b c in
    let all = passed-trans y z m p.0 n first (reads ++ last) [] [] [] [] refl a.passed bc in
    let back : z ≡ x = ap (λ v. record x { lcr = v }) a.same in
    rw back at all

-- what a check reads while the latch is open: LCR alone if that does not show that it is open
passed_ignored : (y : Modes) (m n : MachineState) (shown : ℕ) → loopback y ≡ false → Stands y m →
    Path MachineStep m (Read offsets.LCR shown ∷ []) n → Passed y m n (Read offsets.LCR shown ∷ []) [] []
passed_ignored y m n shown l w (m₁, s₁, e) = rw e (passed_line y m m₁ shown l w s₁)

passed_shown : (y : Modes) (m n : MachineState) (shown low high : ℕ) → loopback y ≡ false → dlab y ≡ true → Stands y m →
    Path MachineStep m (Read offsets.LCR shown ∷ Read offsets.DLL low ∷ Read offsets.DLM high ∷ []) n →
    Passed y m n (Read offsets.LCR shown ∷ Read offsets.DLL low ∷ Read offsets.DLM high ∷ []) [] []
passed_shown y m n shown low high l on w (m₁, s₁, (m₂, s₂, (m₃, s₃, e))) =
    let a = passed_line y m m₁ shown l w s₁ in
    let at_a = stands-after y m m₁ (Read offsets.LCR shown ∷ []) [] [] a in
    let b = passed_read y m₁ m₂ offsets.DLL low l at_a s₂ (λ c sound is. went-read_latch y c low on sound is) in
    let at_b = stands-after y m₁ m₂ (Read offsets.DLL low ∷ []) [] [] b in
    let c = passed_read y m₂ m₃ offsets.DLM high l at_b s₃ (λ c sound is. went-read_1 y c high sound is) in
    let bc = passed-trans y y m₁ m₂ m₃ (Read offsets.DLL low ∷ []) (Read offsets.DLM high ∷ []) [] [] [] [] refl b c in
    rw e (passed-trans y y m m₁ m₃ (Read offsets.LCR shown ∷ []) (Read offsets.DLL low ∷ Read offsets.DLM high ∷ []) [] [] [] [] refl a bc)

-- ---- the lists of the divisor check

-- LCR does not show that the latch was opened; or it does, the latch is read and closed, and LCR read again
pub data LatchList : List Access → Type 0 where
  Ignored : (lcr shown : ℕ) → LatchList (latched lcr (Read offsets.LCR shown ∷ []))
  Looked : (lcr low high closed : ℕ) →
      LatchList (latched lcr (Read offsets.LCR (opened lcr) ∷ Read offsets.DLL low ∷ Read offsets.DLM high ∷ [])
      ++ Read offsets.LCR closed ∷ [])

-- a write of LCR and a look at it
record LineList (value : ℕ) (l : List Access) : Type 0 where
  pub shown : ℕ
  pub is : l ≡ Write offsets.LCR value ∷ Read offsets.LCR shown ∷ []

line_list : (value : ℕ) (v : Verdict) (s : Settings) (l : List Access) → KeepsLine value v s l → LineList value l
line_list value (Ok x) s l t = record {
  shown = t.second.0;
  is = t.whole ∙ (ap (λ zs. zs ++ t.back) t.first.is ∙ ap (λ zs. Write offsets.LCR value ∷ zs) t.second.2);
}
line_list value (Err e) s l t = record {
  shown = t.second.0;
  is = t.whole ∙ (ap (λ zs. zs ++ t.back) t.first.is ∙ ap (λ zs. Write offsets.LCR value ∷ zs) t.second.3);
}

-- LCR shows what was written
kept_list : (value : ℕ) (s : Settings) (l : List Access) → KeepsLine value (Ok tt) s l →
    l ≡ Write offsets.LCR value ∷ Read offsets.LCR value ∷ []
kept_list value s l t =
    t.whole ∙ (ap (λ zs. zs ++ t.back) t.first.is ∙ (ap (λ zs. Write offsets.LCR value ∷ zs) t.second.2
    ∙ ap (λ (shown : ℕ). Write offsets.LCR value ∷ Read offsets.LCR shown ∷ []) t.second.1))

-- the latch is read, and LCR shows what was written, or not
record ReadList (lcr : ℕ) (l : List Access) : Type 0 where
  pub low : ℕ
  pub high : ℕ
  pub closed : ℕ
  pub is : l ≡ Read offsets.DLL low ∷ Read offsets.DLM high ∷ Write offsets.LCR lcr ∷ Read offsets.LCR closed ∷ []

no_access : (divisor shown : ℕ) (v : Verdict) (s : Settings) (l : List Access) → IsDivisor divisor shown v s l → l ≡ []
no_access divisor shown (Ok x) s l t = t.1
no_access divisor shown (Err e) s l t = t.2

closing_list : (lcr divisor shown : ℕ) (v : Verdict) (s : Settings) (l : List Access) →
    InTurn (KeepsLine lcr) (IsDivisor divisor shown) v s l → LineList lcr l
closing_list lcr divisor shown (Ok x) s l t =
    let a = line_list lcr (Ok x) s t.front t.first in
    record {
      shown = a.shown;
      is = t.whole ∙ (ap (λ zs. zs ++ t.back) a.is
          ∙ ap (λ zs. Write offsets.LCR lcr ∷ Read offsets.LCR a.shown ∷ zs) (no_access divisor shown (Ok x) s t.back t.second));
    }
closing_list lcr divisor shown (Err e) s l (inl t) = line_list lcr (Err e) s l t
closing_list lcr divisor shown (Err e) s l (inr t) =
    let a = line_list lcr (Ok tt) s t.front t.first in
    record {
      shown = a.shown;
      is = t.whole ∙ (ap (λ zs. zs ++ t.back) a.is
          ∙ ap (λ zs. Write offsets.LCR lcr ∷ Read offsets.LCR a.shown ∷ zs) (no_access divisor shown (Err e) s t.back t.second));
    }

read_list : (divisor lcr : ℕ) (v : Verdict) (s : Settings) (l : List Access) → ReadsLatch divisor lcr v s l → ReadList lcr l
read_list divisor lcr v s l (low, high, t) =
    let a = closing_list lcr divisor (256 * high + low) v s t.back t.second in
    record {
      low = low;
      high = high;
      closed = a.shown;
      is = t.whole ∙ (ap (λ zs. zs ++ t.back) t.first.is ∙ ap (λ zs. Read offsets.DLL low ∷ Read offsets.DLM high ∷ zs) a.is);
    }

-- the latch was opened, and is read
looked_list : (divisor lcr : ℕ) (v : Verdict) (s : Settings) (l : List Access) →
    Then (OpensLatch lcr (Ok tt)) (ReadsLatch divisor lcr v) s l → LatchList (Read offsets.LCR lcr ∷ l)
looked_list divisor lcr v s l t =
    let b = read_list divisor lcr v s t.back t.second in
    let is : l ≡ Write offsets.LCR (opened lcr) ∷ Read offsets.LCR (opened lcr) ∷ Read offsets.DLL b.low ∷ Read offsets.DLM b.high
    ∷ Write offsets.LCR lcr ∷ Read offsets.LCR b.closed ∷ [] =
    t.whole ∙ (ap (λ zs. zs ++ t.back) (kept_list (opened lcr) s t.front t.first)
    ∙ ap (λ zs. Write offsets.LCR (opened lcr) ∷ Read offsets.LCR (opened lcr) ∷ zs) b.is) in
    rw is (Looked lcr b.low b.high b.closed)

ignored_list : (lcr : ℕ) (e : ConfigurationError) (s : Settings) (l : List Access) → OpensLatch lcr (Err e) s l →
    LatchList (Read offsets.LCR lcr ∷ l)
ignored_list lcr e s l t =
    let a = line_list (opened lcr) (Err e) s t.front t.first in
    let is : l ≡ Write offsets.LCR (opened lcr) ∷ Read offsets.LCR a.shown ∷ Write offsets.LCR lcr ∷ [] =
    t.whole ∙ (ap (λ zs. zs ++ t.back) a.is
    ∙ ap (λ zs. Write offsets.LCR (opened lcr) ∷ Read offsets.LCR a.shown ∷ zs) t.second.is) in
    rw is (Ignored lcr a.shown)

after_line : (divisor lcr : ℕ) (v : Verdict) (s : Settings) (l : List Access) →
    InTurn (OpensLatch lcr) (ReadsLatch divisor lcr) v s l → LatchList (Read offsets.LCR lcr ∷ l)
after_line divisor lcr (Ok tt) s l t = looked_list divisor lcr (Ok tt) s l t
after_line divisor lcr (Err e) s l (inl t) = ignored_list lcr e s l t
after_line divisor lcr (Err e) s l (inr t) = looked_list divisor lcr (Err e) s l t

pub latch_list : (divisor : ℕ) (v : Verdict) (s : Settings) (l : List Access) → ShowsDivisor divisor v s l → LatchList l
latch_list divisor v s l (lcr, t) =
    let is : l ≡ Read offsets.LCR lcr ∷ t.back = t.whole ∙ ap (λ zs. zs ++ t.back) t.first.is in
    rw is (after_line divisor lcr v s t.back t.second)

-- ---- the lists of a check

-- accesses that touch no mode; and the divisor latch among them, or not
pub data CheckList : List Access → Type 0 where
  Quiet : (quiet : List Access) → AllQuiet quiet → CheckList quiet
  Among : (front latch back : List Access) → AllQuiet front → LatchList latch → AllQuiet back → CheckList (front ++ (latch ++ back))

all_quiet-append : (xs ys : List Access) → AllQuiet xs → AllQuiet ys → AllQuiet (xs ++ ys)
all_quiet-append [] ys p q = q
all_quiet-append (x ∷ xs) ys p q = (p.0, all_quiet-append xs ys p.1 q)

after_quiet : (xs l : List Access) → AllQuiet xs → CheckList l → CheckList (xs ++ l)
after_quiet xs _ p (Quiet quiet q) = Quiet (xs ++ quiet) (all_quiet-append xs quiet p q)
after_quiet xs _ p (Among front latch back q t r) =
    subst (λ (l : List Access). CheckList l) (append_assoc xs front (latch ++ back))
    (Among (xs ++ front) latch back (all_quiet-append xs front p q) t r)

-- each list of the language is of this kind
abbrev Lists : Settings → Language → (List Access → Type 0) → Type 0
Lists s P Is = (l : List Access) → P s l → Is l

then_list : (s : Settings) (P Q : Language) → Lists s P AllQuiet → Lists s Q CheckList → Lists s (Then P Q) CheckList
then_list s P Q p q l t = rw t.whole (after_quiet t.front t.back (p t.front t.first) (q t.back t.second))

in_turn_list : (s : Settings) (P Q : Verdict → Language) → ((v : Verdict) → Lists s (P v) AllQuiet) →
    ((v : Verdict) → Lists s (Q v) CheckList) → (v : Verdict) → Lists s (InTurn P Q v) CheckList
in_turn_list s P Q p q (Ok u) l t = then_list s (P (Ok u)) (Q (Ok u)) (p (Ok u)) (q (Ok u)) l t
in_turn_list s P Q p q (Err e) l (inl t) = Quiet l (p (Err e) l t)
in_turn_list s P Q p q (Err e) l (inr t) = then_list s (P (Ok tt)) (Q (Err e)) (p (Ok tt)) (q (Err e)) l t

-- one read
shows_quiet : (s : Settings) (register : ℕ) (IsRight : ℕ → Type 0) (fault : ℕ → ConfigurationError) (v : Verdict) →
    is_quiet (Read register 0) ≡ true → Lists s (Shows register IsRight fault v) AllQuiet
shows_quiet s register IsRight fault (Ok x) q l (shown, right, is) = rw is (q, tt)
shows_quiet s register IsRight fault (Err e) q l (shown, wrong, told, is) = rw is (q, tt)

fifos_quiet : (s : Settings) (interrupts : ℕ) (v : Verdict) → Lists s (ShowsFifos interrupts v) AllQuiet
fifos_quiet s interrupts (Ok x) l (isr, same, is) = rw is (refl, (refl, (refl, tt)))
fifos_quiet s interrupts (Err e) l (isr, other, told, is) = rw is (refl, (refl, (refl, tt)))

-- the divisor, and the FIFOs
latch_alone : (l : List Access) → LatchList l → CheckList l
latch_alone l t = subst (λ (l : List Access). CheckList l) (append-nil l) (Among [] l [] tt t tt)

latch_then : (s : Settings) (divisor interrupts : ℕ) (v : Verdict) (l : List Access) →
    Then (ShowsDivisor divisor (Ok tt)) (ShowsFifos interrupts v) s l → CheckList l
latch_then s divisor interrupts v l t =
    rw t.whole (Among [] t.front t.back tt (latch_list divisor (Ok tt) s t.front t.first) (fifos_quiet s interrupts v t.back t.second))

divisor_list : (s : Settings) (divisor interrupts : ℕ) (v : Verdict) →
    Lists s (InTurn (ShowsDivisor divisor) (ShowsFifos interrupts) v) CheckList
divisor_list s divisor interrupts (Ok tt) l t = latch_then s divisor interrupts (Ok tt) l t
divisor_list s divisor interrupts (Err e) l (inl t) = latch_alone l (latch_list divisor (Err e) s l t)
divisor_list s divisor interrupts (Err e) l (inr t) = latch_then s divisor interrupts (Err e) l t

-- the registers in turn
all_list : (s : Settings) (frame outputs interrupts divisor : ℕ) (v : Verdict) →
    Lists s (ShowsAll frame outputs interrupts divisor v) CheckList
all_list s frame outputs interrupts divisor v =
    let latch : Verdict → Language = InTurn (ShowsDivisor divisor) (ShowsFifos interrupts) in
    let enabled : Verdict → Language = InTurn (ShowsInterrupts interrupts) latch in
    let control : Verdict → Language = InTurn (ShowsOutputs outputs) enabled in
    in_turn_list s (ShowsFrame frame) control (λ v. shows_quiet s offsets.LCR _ _ v refl)
    (in_turn_list s (ShowsOutputs outputs) enabled (λ v. shows_quiet s offsets.MCR _ _ v refl)
    (in_turn_list s (ShowsInterrupts interrupts) latch (λ v. shows_quiet s offsets.IER _ _ v refl)
    (λ v. divisor_list s divisor interrupts v))) v

-- the whole check, whatever it finds
pub check_list : (s : Settings) (config : Config) (outputs : ℕ) (v : Verdict) → Lists s (ChecksConfigured config outputs v) CheckList
check_list s config outputs (Ok u) l (divisor, is, t) =
    all_list s (frame_bits config) (unlooped outputs) config.interrupts.0 divisor (Ok u) l t
check_list s config outputs (Err e) l (inl (none, told, is)) = rw is (Quiet [] tt)
check_list s config outputs (Err e) l (inr (divisor, is, t)) =
    all_list s (frame_bits config) (unlooped outputs) config.interrupts.0 divisor (Err e) l t

-- ---- over the machine

-- the divisor
passed_latch : (x : Modes) (m n : MachineState) (l : List Access) → IsOpen x → Stands x m → LatchList l → Path MachineStep m l n →
    PassedBlocks x m n l [] []
passed_latch x m n _ o w (Ignored lcr shown) path =
    nothing_taken x m n _ [] (passed_latched x m n lcr (Read offsets.LCR shown ∷ []) o w
    (λ a b on at p. passed_ignored (record x { lcr = opened lcr }) a b shown o.loopback at p) path)
passed_latch x m n _ o w (Looked lcr low high closed) path =
    let reads : List Access = Read offsets.LCR (opened lcr) ∷ Read offsets.DLL low ∷ Read offsets.DLM high ∷ [] in
    let r = path_split MachineStep m n (latched lcr reads) (Read offsets.LCR closed ∷ []) path in
    let a = passed_latched x m r.0 lcr reads o w
    (λ a b on at p. passed_shown (record x { lcr = opened lcr }) a b (opened lcr) low high o.loopback on at p) r.1 in
    let b : Passed x r.0 n (Read offsets.LCR closed ∷ []) [] [] =
    passed_ignored x r.0 n closed o.loopback (stands-after x m r.0 (latched lcr reads) [] [] a) r.2 in
    nothing_taken x m n _ [] (passed-trans x x m r.0 n (latched lcr reads) (Read offsets.LCR closed ∷ []) [] [] [] [] refl a b)

-- and the whole check
pub passed_check : (x : Modes) (m n : MachineState) (l : List Access) → IsOpen x → Stands x m → CheckList l → Path MachineStep m l n →
    PassedBlocks x m n l [] []
passed_check x m n _ o w (Quiet quiet q) path = passed_silently x 0 m n quiet [] o w (quiet_blocks 0 quiet q) path
passed_check x m n _ o w (Among front latch back p t q) path =
    let r = path_split MachineStep m n front (latch ++ back) path in
    let u = path_split MachineStep r.0 n latch back r.2 in
    let a = passed_silently x 0 m r.0 front [] o w (quiet_blocks 0 front p) r.1 in
    let at_a = stands-after x m r.0 front [] a.takes a.passed in
    let b = passed_latch x r.0 u.0 latch o at_a t u.1 in
    let at_b = stands-after x r.0 u.0 latch [] b.takes b.passed in
    let c = passed_silently x 0 u.0 n back [] o at_b (quiet_blocks 0 back q) u.2 in
    passed_blocks-trans x m r.0 n front (latch ++ back) [] [] [] [] a
    (passed_blocks-trans x r.0 u.0 n latch back [] [] [] [] b c)
