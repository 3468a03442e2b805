-- Over the software chip, what a session reads shows the modes as they are taken to be.
use Rattle.std.proofs.Common.{◌≡◌, ℕ, zero, suc, Bool, true, false, List, [], ◌∷◌, ◌++◌, map, refl, sym, ◌∙◌, ap, subst, arith}
use Rattle.std.proofs.Common.{if◌then◌else◌, inl, inr, ◌⊎◌, bit_or}
use Rattle.std.specs.List.{AllByRecursion}
use Rattle.std.proofs.lemmas.Grind.{common_steps}
use Rattle.uart_spec.specs.Access.{Path}
use Rattle.uart_spec.specs.Bits.{has}
use Rattle.uart_spec.specs.declared.access.Access.{Access as RegisterAccess}
use Rattle.uart_spec.specs.declared.access.Access.TheVariants.{Read, Write}
use Rattle.uart_spec.specs.declared.registers.fifo_control.TheConstants.FCR as fcr_bits
use Rattle.uart_spec.specs.declared.registers.line_control.TheConstants.LCR as lcr_bits
use Rattle.uart_spec.specs.declared.registers.modem_control.TheConstants.MCR as mcr_bits
use Rattle.uart_spec.specs.declared.registers.offsets.TheConstants as offsets
use Rattle.uart_events.specs.declared.event.Chip.{Chip}
use Rattle.uart_events.specs.declared.event.Chip.TheVariants.{Uart16550A, Uart16450}
use Rattle.uart_chip.specs.Chip.{is_dlab_set, is_loopback}
use Rattle.uart_chip.specs.Machine.{MachineState, MachineStep, at_access}
use Rattle.uart_chip.proofs.Bits.{has_one}
use Rattle.uart_chip.proofs.conservation.Blocks.{AllFit, AllQuiet, Block, Look, Hit, Burst, Other, Divisor, IsFit}
use Rattle.uart_chip.proofs.conservation.Blocks.{accesses_of, flat, is_quiet}
use Rattle.uart_chip.proofs.conservation.BlockLaws.{path_as}
use Rattle.uart_run.proofs.Latches.{Kept, kept_in, keep, keep_write, keep_control, kept_access, kept_step, kept_path}
use Rattle.uart_run.proofs.CheckLists.{CheckList, Quiet, Among, LatchList, Ignored, Looked, opened as opened_line}
use Rattle.uart_run.proofs.initialising.FifoShown.{fifo_shown}
use Rattle.uart_judges_runs.specs.Calls.{AreTaken, AreTakenFrom, IsTaken, Shows, opened_by}
use Rattle.uart_judges_runs.proofs.Dlab.{blocks_leave, check_leaves, opened_after, quiet_leaves}
use Rattle.uart_judges_runs.proofs.CallLists.{IsOfSession, blocks, check, level}
use Rattle.uart_judges_runs.proofs.Steps.{IsLevel}

-- DLAB is on or off, loopback is off, and the FIFOs are on or off
pub record IsShown (fifo opened : Bool) (k : Kept) : Type 0 where
  pub dlab : is_dlab_set k.latches ≡ opened
  pub loopback : is_loopback k.latches ≡ false
  pub fifos : k.fifo ≡ fifo

abbrev ShownIn : (fifo opened : Bool) → MachineState → Type 0
ShownIn fifo opened m = IsShown fifo opened (kept_in m.chip)

abbrev pub OpenIn : Bool → MachineState → Type 0
OpenIn fifo m = ShownIn fifo false m

-- ---- reads

shows_lcr : (m n : MachineState) (value : ℕ) → MachineStep m (Read offsets.LCR value) n →
    has value lcr_bits.DLAB.0 ≡ is_dlab_set m.chip.latches
shows_lcr m n value s =
    ap (λ v. has v lcr_bits.DLAB.0) s.1 ∙ (has_one 7 (at_access m).chip.latches.lcr
    ∙ ap (λ (k : Kept). is_dlab_set k.latches) (kept_access m))

shows_mcr : (m n : MachineState) (value : ℕ) → MachineStep m (Read offsets.MCR value) n → is_loopback m.chip.latches ≡ false →
    has value mcr_bits.LOOP_BACK.0 ≡ false
shows_mcr m n value s e =
    ap (λ v. has v mcr_bits.LOOP_BACK.0) s.1 ∙ (has_one 4 (at_access m).chip.latches.mcr
    ∙ (ap (λ (k : Kept). is_loopback k.latches) (kept_access m) ∙ e))

shows : (fifo opened : Bool) (m n : MachineState) (register value : ℕ) → MachineStep m (Read register value) n → ShownIn fifo opened m →
    Shows fifo opened register value
shows fifo opened m n register value s o =
    let read_at : (r : ℕ) → register ≡ r → MachineStep m (Read r value) n =
    λ r e. subst (λ (r : ℕ). MachineStep m (Read r value) n) e s in
    record {
      dlab = λ e off. shows_lcr m n value (read_at offsets.LCR e) ∙ (o.dlab ∙ off);
      loopback = λ e. shows_mcr m n value (read_at offsets.MCR e) o.loopback;
      fifos = λ e. fifo_shown m n value (read_at offsets.ISR e) ∙ o.fifos;
    }

-- ---- accesses that leave the other modes

-- a read; a write of DATA or LCR; or one that touches no mode
abbrev IsPlain : RegisterAccess → Type 0
IsPlain (Read register value) = Unit {0}
IsPlain (Write register value) = (register ≡ offsets.DATA) ⊎ ((register ≡ offsets.LCR) ⊎ (is_quiet (Write register value) ≡ true))

shown_if : (fifo opened b : Bool) (x y : Kept) → IsShown fifo opened x → IsShown fifo opened y →
    IsShown fifo opened (if b then x else y)
shown_if fifo opened true x y p q = p
shown_if fifo opened false x y p q = q

shown_data : (fifo opened : Bool) (value : ℕ) (k : Kept) → IsShown fifo opened k → IsShown fifo opened (keep_write offsets.DATA value k)
shown_data fifo opened value k o =
    shown_if fifo opened (is_dlab_set k.latches) _ _ (record { dlab = o.dlab; loopback = o.loopback; fifos = o.fifos }) o

shown_line : (fifo opened : Bool) (value : ℕ) (k : Kept) → IsShown fifo opened k →
    IsShown fifo (has value lcr_bits.DLAB.0) (keep_write offsets.LCR value k)
shown_line fifo opened value k o = record { dlab = sym (has_one 7 value); loopback = o.loopback; fifos = o.fifos }

shown_quiet : (fifo opened : Bool) (n value : ℕ) (k : Kept) → is_quiet (Write n value) ≡ true → IsShown fifo opened k →
    IsShown fifo opened (keep_write n value k)
shown_quiet fifo opened (suc zero) value k q o =
    shown_if fifo opened (is_dlab_set k.latches) _ _ (record { dlab = o.dlab; loopback = o.loopback; fifos = o.fifos })
    (record { dlab = o.dlab; loopback = o.loopback; fifos = o.fifos })
shown_quiet fifo opened (suc (suc (suc (suc (suc (suc (suc zero))))))) value k q o =
    record { dlab = o.dlab; loopback = o.loopback; fifos = o.fifos }
shown_quiet fifo opened (suc (suc (suc (suc (suc (suc (suc (suc n)))))))) value k q o = absurd (grind (arith, common_steps))
shown_quiet fifo opened _ value k q o = absurd (cc)

shown_keep : (fifo opened : Bool) (x : RegisterAccess) (k : Kept) → IsPlain x → IsShown fifo opened k →
    IsShown fifo (opened_by x opened) (keep x k)
shown_keep fifo opened (Read register value) k p o = o
shown_keep fifo opened (Write register value) k (inl e) o =
    subst (λ (r : ℕ). IsShown fifo (opened_by (Write r value) opened) (keep_write r value k)) (sym e) (shown_data fifo opened value k o)
shown_keep fifo opened (Write register value) k (inr (inl e)) o =
    subst (λ (r : ℕ). IsShown fifo (opened_by (Write r value) opened) (keep_write r value k)) (sym e) (shown_line fifo opened value k o)
shown_keep fifo opened (Write register value) k (inr (inr q)) o =
    subst (λ (b : Bool). IsShown fifo b (keep_write register value k)) (sym (quiet_leaves (Write register value) opened q))
    (shown_quiet fifo opened register value k q o)

shown_step : (fifo opened : Bool) (x : RegisterAccess) (m n : MachineState) → IsPlain x → MachineStep m x n → ShownIn fifo opened m →
    ShownIn fifo (opened_by x opened) n
shown_step fifo opened x m n p s o =
    subst (λ (k : Kept). IsShown fifo (opened_by x opened) k) (sym (kept_step x m n s)) (shown_keep fifo opened x (kept_in m.chip) p o)

taken_step : (fifo opened : Bool) (x : RegisterAccess) (m n : MachineState) → MachineStep m x n → ShownIn fifo opened m →
    IsTaken fifo opened x
taken_step fifo opened (Read register value) m n s o = shows fifo opened m n register value s o
taken_step fifo opened (Write register value) m n s o = tt

-- some accesses were taken so, and after them DLAB is as it was written last
record TakesFrom (fifo opened : Bool) (l : List RegisterAccess) (n : MachineState) : Type 0 where
  pub taken : AreTakenFrom fifo opened l
  pub after : ShownIn fifo (opened_after l opened) n

plain_path : (fifo opened : Bool) (l : List RegisterAccess) (m n : MachineState) → AllByRecursion IsPlain l → Path MachineStep m l n →
    ShownIn fifo opened m → TakesFrom fifo opened l n
plain_path fifo opened [] m n p path o =
    record { taken = tt; after = subst (λ (m : MachineState). ShownIn fifo opened m) (sym path) o }
plain_path fifo opened (x ∷ l) m n p path o =
    let rest = plain_path fifo (opened_by x opened) l path.0 n p.1 path.2 (shown_step fifo opened x m path.0 p.0 path.1 o) in
    record { taken = (taken_step fifo opened x m path.0 path.1 o, rest.taken); after = rest.after }

-- and they leave the machine as open as it was
pub record Takes (fifo : Bool) (l : List RegisterAccess) (n : MachineState) : Type 0 where
  pub taken : AreTaken fifo l
  pub after : OpenIn fifo n

takes : (fifo : Bool) (l : List RegisterAccess) (n : MachineState) → (AreTaken fifo l → opened_after l false ≡ false) →
    TakesFrom fifo false l n → Takes fifo l n
takes fifo l n leaves t =
    record { taken = t.taken; after = subst (λ (b : Bool). ShownIn fifo b n) (leaves t.taken) t.after }

-- ---- blocks

all_plain-append : (xs ys : List RegisterAccess) → AllByRecursion IsPlain xs → AllByRecursion IsPlain ys →
    AllByRecursion IsPlain (xs ++ ys)
all_plain-append [] ys p q = q
all_plain-append (x ∷ xs) ys p q = (p.0, all_plain-append xs ys p.1 q)

quiet_plain : (x : RegisterAccess) → is_quiet x ≡ true → IsPlain x
quiet_plain (Read register value) q = tt
quiet_plain (Write register value) q = inr (inr q)

quiets_plain : (l : List RegisterAccess) → AllQuiet l → AllByRecursion IsPlain l
quiets_plain [] q = tt
quiets_plain (x ∷ l) q = (quiet_plain x q.0, quiets_plain l q.1)

data_plain : (bytes : List ℕ) → AllByRecursion IsPlain (map (Write offsets.DATA) bytes)
data_plain [] = tt
data_plain (byte ∷ bytes) = (inl refl, data_plain bytes)

line_plain : (value : ℕ) → IsPlain (Write offsets.LCR value)
line_plain value = inr (inl refl)

block_plain : (most : ℕ) (block : Block) → IsFit most block → AllByRecursion IsPlain (accesses_of block)
block_plain most (Look line) fit = (tt, tt)
block_plain most (Hit line byte) fit = (tt, (tt, tt))
block_plain most (Burst line checks bytes) fit =
    (tt, all_plain-append checks (map (Write offsets.DATA) bytes) (quiets_plain checks fit.1) (data_plain bytes))
block_plain most (Other x) fit = (quiet_plain x fit, tt)
block_plain most (Divisor lcr low high) fit =
    (tt, (line_plain (bit_or lcr lcr_bits.DLAB.0), (tt, (tt, (line_plain lcr, tt)))))

blocks_plain : (most : ℕ) (more : List Block) → AllFit most more → AllByRecursion IsPlain (flat more)
blocks_plain most [] fit = tt
blocks_plain most (block ∷ more) fit =
    all_plain-append (accesses_of block) (flat more) (block_plain most block fit.0) (blocks_plain most more fit.1)

blocks_path : (fifo : Bool) (most : ℕ) (more : List Block) (m n : MachineState) → AllFit most more → Path MachineStep m (flat more) n →
    OpenIn fifo m → Takes fifo (flat more) n
blocks_path fifo most more m n fit path o =
    takes fifo (flat more) n (λ t. blocks_leave fifo most more fit t)
    (plain_path fifo false (flat more) m n (blocks_plain most more fit) path o)

-- ---- a check

latch_plain : (l : List RegisterAccess) → LatchList l → AllByRecursion IsPlain l
latch_plain _ (Ignored lcr shown) = (tt, (line_plain (opened_line lcr), (tt, (line_plain lcr, tt))))
latch_plain _ (Looked lcr low high closed) =
    (tt, (line_plain (opened_line lcr), (tt, (tt, (tt, (line_plain lcr, (tt, tt)))))))

check_plain : (l : List RegisterAccess) → CheckList l → AllByRecursion IsPlain l
check_plain _ (Quiet quiet q) = quiets_plain quiet q
check_plain _ (Among front latch back p l q) =
    all_plain-append front (latch ++ back) (quiets_plain front p)
    (all_plain-append latch back (latch_plain latch l) (quiets_plain back q))

check_path : (fifo : Bool) (l : List RegisterAccess) (m n : MachineState) → CheckList l → Path MachineStep m l n → OpenIn fifo m →
    Takes fifo l n
check_path fifo l m n c path o =
    takes fifo l n (λ t. check_leaves fifo l c t) (plain_path fifo false l m n (check_plain l c) path o)

-- ---- the trigger level

open_control : (model : Chip) (value : ℕ) (k : Kept) → has value fcr_bits.FIFO_ENABLE.0 ≡ true → IsShown true false k →
    IsShown true false (keep_control model value k)
open_control Uart16450 value k on o = o
open_control Uart16550A value k on o = record { dlab = o.dlab; loopback = o.loopback; fifos = sym (has_one 0 value) ∙ on }

level_path : (value : ℕ) (m n : MachineState) → IsLevel value → Path MachineStep m (Write offsets.FCR value ∷ []) n → OpenIn true m →
    Takes true (Write offsets.FCR value ∷ []) n
level_path value m n v path o = record {
  taken = (tt, tt);
  after = subst (λ (k : Kept). IsShown true false k) (sym (kept_path (Write offsets.FCR value ∷ []) m n path))
      (open_control m.chip.model value (kept_in m.chip) v.on o);
}

-- ---- a list of a session

pub list_path : (fifo : Bool) (most : ℕ) (l : List RegisterAccess) (m n : MachineState) → IsOfSession fifo most l →
    Path MachineStep m l n → OpenIn fifo m → Takes fifo l n
list_path fifo most l m n (blocks ws rs b) path o =
    subst (λ (l : List RegisterAccess). Takes fifo l n) (sym b.joined)
    (blocks_path fifo most b.blocks m n b.fit (path_as m n l (flat b.blocks) b.joined path) o)
list_path fifo most l m n (check c) path o = check_path fifo l m n c path o
list_path fifo most l m n (level value on v is) path o =
    let p : Path MachineStep m (Write offsets.FCR value ∷ []) n = path_as m n l (Write offsets.FCR value ∷ []) is path in
    let t : Takes fifo (Write offsets.FCR value ∷ []) n =
    subst (λ (b : Bool). Takes b (Write offsets.FCR value ∷ []) n) (sym on)
    (level_path value m n v p (subst (λ (b : Bool). OpenIn b m) on o)) in
    subst (λ (l : List RegisterAccess). Takes fifo l n) (sym is) t
