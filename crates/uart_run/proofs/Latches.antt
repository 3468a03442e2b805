-- What the registers keep: the writes alone tell of it, whatever events come between them.
use Rattle.uart_run.proofs.Names.{◌≡◌, ℕ, zero, suc, Bool, true, false, ◌==◌, List, [], ◌∷◌, ◌++◌, refl, ◌∙◌, ap, bit_and, if◌then◌else◌}
use Rattle.uart_run.proofs.Names.{Chip, Uart16550A, Uart16450, Event, Ticks, Gate, Mark, Path, Access, Read, Write, Fields, has_any}
use Rattle.uart_run.proofs.Names.{ier_bits, kept_mcr, LatchesState, ChipState, word_length, cut_to, is_dlab_set, ticks, after_read}
use Rattle.uart_run.proofs.Names.{after_write, switch, is_same, set_fifo, control, ReadMove, takes, read_move, resets_last, MachineState}
use Rattle.uart_run.proofs.Names.{MachineStep, perform, before_access, at_access, before_mark, at_mark}
use Rattle.uart_spec.specs.declared.registers.fifo_control.TheConstants.FCR
use Rattle.uart_spec.specs.declared.registers.offsets.TheConstants as offsets

-- what is kept until it is written: the latches, and whether the FIFO is on; and the model and the options, which are never written
pub record Kept : Type 0 where
  pub latches : LatchesState
  pub fifo : Bool
  pub model : Chip
  pub cuts : Bool
  pub auto_flow : Bool

abbrev pub kept_in : ChipState → Kept
kept_in c = record { latches = c.latches; fifo = c.fifo; model = c.model; cuts = c.cuts; auto_flow = c.auto_flow }

-- how a byte is cut
abbrev pub kept_cut : Kept → ℕ → ℕ
kept_cut k byte = cut_to k.cuts (word_length k.latches.lcr) byte

-- what is kept after a write of the FIFO control register
abbrev pub keep_control : Chip → ℕ → Kept → Kept
keep_control Uart16450 value k = k
keep_control Uart16550A value k = record k { fifo = has_any value FCR.FIFO_ENABLE.0 }

-- after a write of any register
abbrev pub keep_write : ℕ → ℕ → Kept → Kept
keep_write offset value k =
    if offset == offsets.DATA then (if is_dlab_set k.latches then record k { latches = record k.latches { dll = value } } else k)
    else if offset == offsets.IER then (if is_dlab_set k.latches then record k { latches = record k.latches { dlm = value } } else record k
    { latches = record k.latches { ier = bit_and value ier_bits } })
    else if offset == offsets.FCR then keep_control k.model value k
    else if offset == offsets.LCR then record k { latches = record k.latches { lcr = value } }
    else if offset == offsets.MCR then record k { latches = record k.latches { mcr = kept_mcr k.auto_flow value } }
    else if offset == offsets.SPR then record k { latches = record k.latches { scr = value } }
    else k

-- after an access: a read changes nothing of it
abbrev pub keep : Access → Kept → Kept
keep (Read offset answer) k = k
keep (Write offset value) k = keep_write offset value k

-- and after some, one after the other
abbrev pub kept_after : List Access → Kept → Kept
kept_after [] k = k
kept_after (access ∷ accesses) k = kept_after accesses (keep access k)

pub kept_after-append : (xs ys : List Access) (k : Kept) → kept_after (xs ++ ys) k ≡ kept_after ys (kept_after xs k)
kept_after-append [] ys k = refl
kept_after-append (x ∷ xs) ys k = kept_after-append xs ys (keep x k)

-- ---- what changes nothing of it

kept_if : (b : Bool) (x y : ChipState) (p q : Kept) → kept_in x ≡ p → kept_in y ≡ q → kept_in (if b then x else y) ≡ (if b then p else q)
kept_if true x y p q h k = h
kept_if false x y p q h k = k

kept-ticks : (n : ℕ) (c : ChipState) → kept_in (ticks n c) ≡ kept_in c
kept-ticks zero c = refl
kept-ticks (suc n) c = kept-ticks n c

kept-perform : (event : Event) (c : ChipState) → kept_in (perform event c) ≡ kept_in c
kept-perform (Ticks n) c = kept-ticks n c
kept-perform _ c = refl

-- the events before an access
pub kept-before : (events : List Event) (c : ChipState) → kept_in (before_access events c) ≡ kept_in c
kept-before [] c = refl
kept-before (Gate ∷ events) c = refl
kept-before (Mark ∷ events) c = refl
kept-before (event ∷ events) c = kept-before events (perform event c) ∙ kept-perform event c

-- a read
kept-reads : (offset : ℕ) (c d : ChipState) → ReadMove offset c d → kept_in d ≡ kept_in c
kept-reads offset c d (takes e q) = refl
kept-reads offset c d _ = refl

kept-read : (offset : ℕ) (c : ChipState) → kept_in (after_read offset c) ≡ kept_in c
kept-read offset c = kept-reads offset c _ (read_move offset c)

-- ---- a write

same_true : (a b : Bool) → is_same a b ≡ true → a ≡ b
same_true true true e = refl
same_true true false e = absurd (cc)
same_true false true e = absurd (cc)
same_true false false e = refl

-- of the FIFO control register: the FIFO is as the bit says
kept-switched : (on : Bool) (c : ChipState) → kept_in (if is_same c.fifo on then c else switch on c) ≡ record (kept_in c) { fifo = on }
kept-switched on c = go (is_same c.fifo on) refl
  where
    go : (b : Bool) → is_same c.fifo on ≡ b → kept_in (if b then c else switch on c) ≡ record (kept_in c) { fifo = on }
    go true e = ap (λ (f : Bool). record (kept_in c) { fifo = f }) (same_true c.fifo on e)
    go false e = refl

kept-fifo : (value : ℕ) (c : ChipState) → kept_in (set_fifo value c) ≡ record (kept_in c) { fifo = has_any value FCR.FIFO_ENABLE.0 }
kept-fifo value c =
    let on : Bool = has_any value FCR.FIFO_ENABLE.0 in
    let k : Kept = record (kept_in c) { fifo = on } in
    resets_last (λ (d : ChipState). kept_in d ≡ k) value (λ d s p. p) (λ d p. p) (λ d p. p) (λ level d p. p) on
    (if is_same c.fifo on then c else switch on c) (kept-switched on c)

kept-control : (model : Chip) (value : ℕ) (c : ChipState) → kept_in (control model value c) ≡ keep_control model value (kept_in c)
kept-control Uart16450 value c = refl
kept-control Uart16550A value c = kept-fifo value c

kept-write : (offset value : ℕ) (c : ChipState) → kept_in (after_write offset value c) ≡ keep_write offset value (kept_in c)
kept-write offset value c =
    kept_if (offset == offsets.DATA) _ _ _ _ (kept_if (is_dlab_set c.latches) _ _ _ _ refl refl)
    (kept_if (offset == offsets.IER) _ _ _ _ (kept_if (is_dlab_set c.latches) _ _ _ _ refl refl)
    (kept_if (offset == offsets.FCR) _ _ _ _ (kept-control c.model value c)
    (kept_if (offset == offsets.LCR) _ _ _ _ refl
    (kept_if (offset == offsets.MCR) _ _ _ _ refl
    (kept_if (offset == offsets.SPR) _ _ _ _ refl refl)))))

-- ---- the machine

pub kept_access : (m : MachineState) → kept_in (at_access m).chip ≡ kept_in m.chip
kept_access m = kept-before m.ahead m.chip

pub kept_step : (access : Access) (m n : MachineState) → MachineStep m access n → kept_in n.chip ≡ keep access (kept_in m.chip)
kept_step (Read offset answer) m n s = ap (λ (o : MachineState). kept_in o.chip) s.0 ∙ (kept-read offset (at_access m).chip ∙ kept_access m)
kept_step (Write offset value) m n s =
    ap (λ (o : MachineState). kept_in o.chip) s ∙
    (kept-write offset value (at_access m).chip ∙ ap (keep_write offset value) (kept_access m))

pub kept_path : (made : List Access) (m n : MachineState) → Path MachineStep m made n → kept_in n.chip ≡ kept_after made (kept_in m.chip)
kept_path [] m n p = ap (λ (o : MachineState). kept_in o.chip) p
kept_path (access ∷ accesses) m n p = kept_path accesses p.0 n p.2 ∙ ap (kept_after accesses) (kept_step access m p.0 p.1)

-- by what the list is
pub kept_list : (l made : List Access) (m n : MachineState) → l ≡ made → Path MachineStep m l n →
    kept_in n.chip ≡ kept_after made (kept_in m.chip)
kept_list l made m n is p = kept_path l m n p ∙ ap (λ k. kept_after k (kept_in m.chip)) is

-- what is kept is as after these accesses, and the driver takes the FIFO to be as before
pub record LeftBy (made : List Access) (f after : Fields) (m n : MachineState) : Type 0 where
  pub kept : kept_in n.chip ≡ kept_after made (kept_in m.chip)
  pub knows : after.fifo ≡ f.fifo

-- ---- what no access and no event changes

-- the option for characters
abbrev pub CutsAs : Bool → MachineState → Type 0
CutsAs cuts m = m.chip.cuts ≡ cuts

abbrev cuts_in : Kept → Bool
cuts_in k = k.cuts

cuts-control : (model : Chip) (value : ℕ) (k : Kept) → cuts_in (keep_control model value k) ≡ cuts_in k
cuts-control Uart16450 value k = refl
cuts-control Uart16550A value k = refl

cuts_if : (b : Bool) (x y k : Kept) → cuts_in x ≡ cuts_in k → cuts_in y ≡ cuts_in k → cuts_in (if b then x else y) ≡ cuts_in k
cuts_if true x y k p q = p
cuts_if false x y k p q = q

cuts-keep : (access : Access) (k : Kept) → cuts_in (keep access k) ≡ cuts_in k
cuts-keep (Read offset answer) k = refl
cuts-keep (Write offset value) k =
    cuts_if (offset == offsets.DATA) _ _ k (cuts_if (is_dlab_set k.latches) _ _ k refl refl)
    (cuts_if (offset == offsets.IER) _ _ k (cuts_if (is_dlab_set k.latches) _ _ k refl refl)
    (cuts_if (offset == offsets.FCR) _ _ k (cuts-control k.model value k)
    (cuts_if (offset == offsets.LCR) _ _ k refl
    (cuts_if (offset == offsets.MCR) _ _ k refl
    (cuts_if (offset == offsets.SPR) _ _ k refl refl)))))

cuts-after : (made : List Access) (k : Kept) → cuts_in (kept_after made k) ≡ cuts_in k
cuts-after [] k = refl
cuts-after (access ∷ accesses) k = cuts-after accesses (keep access k) ∙ cuts-keep access k

pub cuts_path : (cuts : Bool) (made : List Access) (m n : MachineState) → CutsAs cuts m → Path MachineStep m made n → CutsAs cuts n
cuts_path cuts made m n e p =
    ap cuts_in (kept_path made m n p) ∙ (cuts-after made (kept_in m.chip) ∙ e)

pub kept-before_mark : (events : List Event) (c : ChipState) → kept_in (before_mark events c) ≡ kept_in c
kept-before_mark [] c = refl
kept-before_mark (Mark ∷ events) c = refl
kept-before_mark (event ∷ events) c = kept-before_mark events (perform event c) ∙ kept-perform event c

pub cuts_mark : (cuts : Bool) (m : MachineState) → CutsAs cuts m → CutsAs cuts (at_mark m)
cuts_mark cuts m e = ap (λ (k : Kept). k.cuts) (kept-before_mark m.ahead m.chip) ∙ e
