-- Whether DLAB is on after some accesses, and what is known of them in parts.
use Rattle.std.proofs.Common.{◌≡◌, ◌==◌, ℕ, zero, suc, Bool, true, false, List, [], ◌∷◌, ◌++◌, map, refl, ◌∙◌, ap, subst, arith}
use Rattle.std.proofs.lemmas.Grind.{common_steps}
use Rattle.uart_spec.specs.declared.access.Access.{Access as RegisterAccess}
use Rattle.uart_spec.specs.declared.access.Access.TheVariants.{Read, Write}
use Rattle.uart_spec.specs.declared.registers.offsets.TheConstants as offsets
use Rattle.uart_chip.proofs.conservation.Blocks.{AllFit, AllQuiet, Block, Look, Hit, Burst, Other, Divisor, IsFit, accesses_of}
use Rattle.uart_chip.proofs.conservation.Blocks.{flat, is_quiet}
use Rattle.uart_run.proofs.CheckLists.{CheckList, Quiet, Among, LatchList, Ignored, Looked}
use Rattle.uart_judges_runs.specs.Calls.{AreTaken, AreTakenFrom, opened_by}

-- after all of these
abbrev pub opened_after : List RegisterAccess → Bool → Bool
opened_after [] before = before
opened_after (x ∷ xs) before = opened_after xs (opened_by x before)

opened-append : (xs ys : List RegisterAccess) (b : Bool) → opened_after (xs ++ ys) b ≡ opened_after ys (opened_after xs b)
opened-append [] ys b = refl
opened-append (x ∷ xs) ys b = opened-append xs ys (opened_by x b)

pub taken_front : (fifo b : Bool) (xs ys : List RegisterAccess) → AreTakenFrom fifo b (xs ++ ys) → AreTakenFrom fifo b xs
taken_front fifo b [] ys t = tt
taken_front fifo b (x ∷ xs) ys t = (t.0, taken_front fifo (opened_by x b) xs ys t.1)

taken_back : (fifo b : Bool) (xs ys : List RegisterAccess) → AreTakenFrom fifo b (xs ++ ys) → AreTakenFrom fifo (opened_after xs b) ys
taken_back fifo b [] ys t = t
taken_back fifo b (x ∷ xs) ys t = taken_back fifo (opened_by x b) xs ys t.1

-- ---- accesses that leave DLAB

quiet_write_leaves : (n value : ℕ) (b : Bool) → is_quiet (Write n value) ≡ true → opened_by (Write n value) b ≡ b
quiet_write_leaves (suc zero) value b q = refl
quiet_write_leaves (suc (suc (suc (suc n)))) value b q =
    let e : (suc (suc (suc (suc n))) == offsets.LCR) ≡ false = grind (arith, common_steps) in rw e refl
quiet_write_leaves _ value b q = absurd (cc)

pub quiet_leaves : (x : RegisterAccess) (b : Bool) → is_quiet x ≡ true → opened_by x b ≡ b
quiet_leaves (Read n value) b q = refl
quiet_leaves (Write n value) b q = quiet_write_leaves n value b q

quiets_leave : (l : List RegisterAccess) (b : Bool) → AllQuiet l → opened_after l b ≡ b
quiets_leave [] b q = refl
quiets_leave (x ∷ l) b q = ap (opened_after l) (quiet_leaves x b q.0) ∙ quiets_leave l b q.1

data_leave : (bytes : List ℕ) (b : Bool) → opened_after (map (Write offsets.DATA) bytes) b ≡ b
data_leave [] b = refl
data_leave (byte ∷ bytes) b = data_leave bytes b

-- ---- blocks, and checks

block_leaves : (fifo : Bool) (most : ℕ) (block : Block) → IsFit most block → AreTaken fifo (accesses_of block) →
    opened_after (accesses_of block) false ≡ false
block_leaves fifo most (Look line) fit t = refl
block_leaves fifo most (Hit line byte) fit t = refl
block_leaves fifo most (Burst line checks bytes) fit t =
    let sent : List RegisterAccess = map (Write offsets.DATA) bytes in
    opened-append checks sent false ∙ (ap (opened_after sent) (quiets_leave checks false fit.1) ∙ data_leave bytes false)
block_leaves fifo most (Other access) fit t = quiet_leaves access false fit
block_leaves fifo most (Divisor lcr low high) fit t = t.0.dlab refl refl

-- what follows a part that leaves DLAB off
pub taken_rest : (fifo : Bool) (xs ys : List RegisterAccess) → opened_after xs false ≡ false → AreTaken fifo (xs ++ ys) → AreTaken fifo ys
taken_rest fifo xs ys e t = subst (λ (b : Bool). AreTakenFrom fifo b ys) e (taken_back fifo false xs ys t)

-- and both leave it off
both_leave : (xs ys : List RegisterAccess) → opened_after xs false ≡ false → opened_after ys false ≡ false →
    opened_after (xs ++ ys) false ≡ false
both_leave xs ys p q = opened-append xs ys false ∙ (ap (opened_after ys) p ∙ q)

pub after_block : (fifo : Bool) (most : ℕ) (block : Block) (l : List RegisterAccess) → IsFit most block →
    AreTaken fifo (accesses_of block ++ l) → AreTaken fifo l
after_block fifo most block l fit t =
    taken_rest fifo (accesses_of block) l (block_leaves fifo most block fit (taken_front fifo false (accesses_of block) l t)) t

pub blocks_leave : (fifo : Bool) (most : ℕ) (blocks : List Block) → AllFit most blocks → AreTaken fifo (flat blocks) →
    opened_after (flat blocks) false ≡ false
blocks_leave fifo most [] fit t = refl
blocks_leave fifo most (block ∷ blocks) fit t =
    both_leave (accesses_of block) (flat blocks)
    (block_leaves fifo most block fit.0 (taken_front fifo false (accesses_of block) (flat blocks) t))
    (blocks_leave fifo most blocks fit.1 (after_block fifo most block (flat blocks) fit.0 t))

latch_leaves : (fifo : Bool) (l : List RegisterAccess) → LatchList l → AreTaken fifo l → opened_after l false ≡ false
latch_leaves fifo _ (Ignored lcr shown) t = t.0.dlab refl refl
latch_leaves fifo _ (Looked lcr low high closed) t = t.0.dlab refl refl

pub after_quiet : (fifo : Bool) (xs ys : List RegisterAccess) → AllQuiet xs → AreTaken fifo (xs ++ ys) → AreTaken fifo ys
after_quiet fifo xs ys q t = taken_rest fifo xs ys (quiets_leave xs false q) t

pub after_latch : (fifo : Bool) (xs ys : List RegisterAccess) → LatchList xs → AreTaken fifo (xs ++ ys) → AreTaken fifo ys
after_latch fifo xs ys l t = taken_rest fifo xs ys (latch_leaves fifo xs l (taken_front fifo false xs ys t)) t

pub check_leaves : (fifo : Bool) (l : List RegisterAccess) → CheckList l → AreTaken fifo l → opened_after l false ≡ false
check_leaves fifo _ (Quiet quiet q) t = quiets_leave quiet false q
check_leaves fifo _ (Among front latch back p l q) t =
    let rest = after_quiet fifo front (latch ++ back) p t in
    both_leave front (latch ++ back) (quiets_leave front false p)
    (both_leave latch back (latch_leaves fifo latch l (taken_front fifo false latch back rest)) (quiets_leave back false q))
