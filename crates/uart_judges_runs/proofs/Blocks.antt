-- The blocks of a session, and its calls.
use Rattle.std.proofs.Common.{◌≡◌, ◌≤◌, ◌+◌, ℕ, Bool, true, false, List, [], ◌∷◌, ◌++◌, length, map, refl, sym, subst, arith, bit_or}
use Rattle.uart_spec.specs.Bits.{has}
use Rattle.uart_spec.specs.declared.access.Access.{Access as RegisterAccess}
use Rattle.uart_spec.specs.declared.access.Access.TheVariants.{Read, Write}
use Rattle.uart_spec.specs.declared.registers.line_control.TheConstants.LCR as lcr_bits
use Rattle.uart_spec.specs.declared.registers.offsets.TheConstants as offsets
use Rattle.uart_spec.specs.declared.setup.FifoSize.{FifoSize}
use Rattle.uart_chip.specs.Transmitter.{room as room_of}
use Rattle.uart_chip.proofs.conservation.Blocks.{AllFit, AllQuiet, Block, Look, Hit, Burst, Other, Divisor, IsFit, accesses_of, flat}
use Rattle.uart_judges.specs.declared.audit.auditor.Auditor.{Auditor}
use Rattle.uart_run.proofs.CallBlocks.{InBlocks}
use Rattle.uart_run.proofs.CallKeeps.{quiet_blocks}
use Rattle.uart_run.proofs.CheckLists.{CheckList, Quiet, Among, LatchList, Ignored, Looked, opened}
use Rattle.uart_judges_runs.specs.Calls.{AreTaken, IsTaken, KnowsAsTaken}
use Rattle.uart_judges_runs.proofs.Dlab.{after_block, after_latch, after_quiet, taken_front}
use Rattle.uart_judges_runs.proofs.Recordings.{Goes, Moves, Stays, goes_none, goes_one, goes_then}
use Rattle.uart_judges_runs.proofs.Kept.{Opened, Reading, Sending, stays_knows, stays_opened, stays_reading, stays_sending}
use Rattle.uart_judges_runs.proofs.Steps.{closes_again, moves_look, moves_quiet, opens, opens_latch, reading_begins, reading_ends}
use Rattle.uart_judges_runs.proofs.Steps.{reads_high, reads_low, sending_begins, sending_quiet, sending_sends, shows_open, shows_shut}
use Rattle.uart_judges_runs.proofs.Steps.{stays_shut}

-- an access, and then some
goes_on : (size : FifoSize) (P Q R : Auditor → Type 0) (x : RegisterAccess) (l : List RegisterAccess) → Stays size P → Stays size Q →
    Moves size P x Q → Goes size Q l R →
    Goes size P (x ∷ l) R
goes_on size P Q R x l p q moves rest = goes_then size P Q R (x ∷ []) l (goes_one size P Q x p q moves) rest

-- ---- a burst

sent_all : (size : FifoSize) (fifo : Bool) (k : ℕ) (bytes : List ℕ) → k + length bytes ≤ room_of fifo size →
    Goes size (Sending fifo k) (map (Write offsets.DATA) bytes) (KnowsAsTaken fifo)
sent_all size fifo k [] few = λ past entries is p.
    let r = goes_none size (Sending fifo k) (stays_sending size fifo k) past entries is p in (r.0, r.1.knows)
sent_all size fifo k (byte ∷ bytes) few =
    goes_on size (Sending fifo k) (Sending fifo (k + 1)) (KnowsAsTaken fifo) (Write offsets.DATA byte) (map (Write offsets.DATA) bytes)
    (stays_sending size fifo k) (stays_sending size fifo (k + 1)) (sending_sends size fifo k byte (omega arith))
    (sent_all size fifo (k + 1) bytes (omega arith))

checked : (size : FifoSize) (fifo : Bool) (checks : List RegisterAccess) (bytes : List ℕ) → AllQuiet checks → AreTaken fifo checks →
    length bytes ≤ room_of fifo size →
    Goes size (Sending fifo 0) (checks ++ map (Write offsets.DATA) bytes) (KnowsAsTaken fifo)
checked size fifo [] bytes q t few = sent_all size fifo 0 bytes (omega arith)
checked size fifo (x ∷ checks) bytes q t few =
    goes_on size (Sending fifo 0) (Sending fifo 0) (KnowsAsTaken fifo) x (checks ++ map (Write offsets.DATA) bytes)
    (stays_sending size fifo 0) (stays_sending size fifo 0) (sending_quiet size fifo 0 x q.0 t.0)
    (checked size fifo checks bytes q.1 (after_quiet fifo (x ∷ []) checks (q.0, tt) t) few)

-- ---- each block

one : (size : FifoSize) (fifo : Bool) (x : RegisterAccess) → Moves size (KnowsAsTaken fifo) x (KnowsAsTaken fifo) →
    Goes size (KnowsAsTaken fifo) (x ∷ []) (KnowsAsTaken fifo)
one size fifo x moves = goes_one size (KnowsAsTaken fifo) (KnowsAsTaken fifo) x (stays_knows size fifo) (stays_knows size fifo) moves

goes_block : (size : FifoSize) (fifo : Bool) (most : ℕ) (block : Block) → most ≤ room_of fifo size → IsFit most block →
    AreTaken fifo (accesses_of block) →
    Goes size (KnowsAsTaken fifo) (accesses_of block) (KnowsAsTaken fifo)
goes_block size fifo most (Look line) fits fit t = one size fifo (Read offsets.LSR line) (moves_look size fifo line)
goes_block size fifo most (Hit line byte) fits fit t =
    goes_on size (KnowsAsTaken fifo) (Reading fifo) (KnowsAsTaken fifo) (Read offsets.LSR line) (Read offsets.DATA byte ∷ [])
    (stays_knows size fifo) (stays_reading size fifo) (reading_begins size fifo line fit)
    (goes_one size (Reading fifo) (KnowsAsTaken fifo) (Read offsets.DATA byte) (stays_reading size fifo) (stays_knows size fifo)
    (reading_ends size fifo byte))
goes_block size fifo most (Burst line checks bytes) fits fit t =
    let few = fit.2 in
    goes_on size (KnowsAsTaken fifo) (Sending fifo 0) (KnowsAsTaken fifo) (Read offsets.LSR line) (checks ++ map (Write offsets.DATA) bytes)
    (stays_knows size fifo) (stays_sending size fifo 0) (sending_begins size fifo line fit.0)
    (checked size fifo checks bytes fit.1 (taken_front fifo false checks (map (Write offsets.DATA) bytes) t.1) (omega (arith, few, fits)))
goes_block size fifo most (Other access) fits fit t = one size fifo access (moves_quiet size fifo access fit t.0)
goes_block size fifo most (Divisor lcr low high) fits fit t =
    let K = KnowsAsTaken fifo in
    let O = Opened fifo in
    goes_on size K K K (Read offsets.LCR lcr) _ (stays_knows size fifo) (stays_knows size fifo) (moves_quiet size fifo
    (Read offsets.LCR lcr) refl t.0)
    (goes_on size K O K (Write offsets.LCR (bit_or lcr lcr_bits.DLAB.0)) _ (stays_knows size fifo) (stays_opened size fifo)
    (opens size fifo lcr)
    (goes_on size O O K (Read offsets.DLL low) _ (stays_opened size fifo) (stays_opened size fifo) (reads_low size fifo low)
    (goes_on size O O K (Read offsets.DLM high) _ (stays_opened size fifo) (stays_opened size fifo) (reads_high size fifo high)
    (goes_one size O K (Write offsets.LCR lcr) (stays_opened size fifo) (stays_knows size fifo) (closes_again size fifo lcr
    (t.0.dlab refl refl))))))

pub goes_blocks : (size : FifoSize) (fifo : Bool) (most : ℕ) (blocks : List Block) → most ≤ room_of fifo size → AllFit most blocks →
    AreTaken fifo (flat blocks) →
    Goes size (KnowsAsTaken fifo) (flat blocks) (KnowsAsTaken fifo)
goes_blocks size fifo most [] fits fit t = goes_none size (KnowsAsTaken fifo) (stays_knows size fifo)
goes_blocks size fifo most (block ∷ blocks) fits fit t =
    goes_then size (KnowsAsTaken fifo) (KnowsAsTaken fifo) (KnowsAsTaken fifo) (accesses_of block) (flat blocks)
    (goes_block size fifo most block fits fit.0 (taken_front fifo false (accesses_of block) (flat blocks) t))
    (goes_blocks size fifo most blocks fits fit.1 (after_block fifo most block (flat blocks) fit.0 t))

pub goes_in_blocks : (size : FifoSize) (fifo : Bool) (most : ℕ) (l : List RegisterAccess) (ws rs : List ℕ) → most ≤ room_of fifo size →
    InBlocks most l ws rs → AreTaken fifo l → Goes size (KnowsAsTaken fifo) l (KnowsAsTaken fifo)
goes_in_blocks size fifo most l ws rs fits b t =
    subst (λ (l : List RegisterAccess). Goes size (KnowsAsTaken fifo) l (KnowsAsTaken fifo)) (sym b.joined)
    (goes_blocks size fifo most b.blocks fits b.fit (subst (λ (l : List RegisterAccess). AreTaken fifo l) b.joined t))

-- ---- a check

-- the latch is not read: LCR does not show what was written, and is written back
goes_ignored : (size : FifoSize) (fifo : Bool) (lcr shown : ℕ) (on : Bool) → has shown lcr_bits.DLAB.0 ≡ on →
    has lcr lcr_bits.DLAB.0 ≡ false →
    Goes size (Opened fifo) (Read offsets.LCR shown ∷ Write offsets.LCR lcr ∷ []) (KnowsAsTaken fifo)
goes_ignored size fifo lcr shown true e off =
    let K = KnowsAsTaken fifo in
    let O = Opened fifo in
    goes_on size O O K (Read offsets.LCR shown) _ (stays_opened size fifo) (stays_opened size fifo) (shows_open size fifo shown e)
    (goes_one size O K (Write offsets.LCR lcr) (stays_opened size fifo) (stays_knows size fifo) (closes_again size fifo lcr off))
goes_ignored size fifo lcr shown false e off =
    let K = KnowsAsTaken fifo in
    let O = Opened fifo in
    goes_on size O K K (Read offsets.LCR shown) _ (stays_opened size fifo) (stays_knows size fifo) (shows_shut size fifo shown e)
    (one size fifo (Write offsets.LCR lcr) (stays_shut size fifo lcr off))

-- the latch is read, and closed
goes_looked : (size : FifoSize) (fifo : Bool) (lcr low high : ℕ) (l : List RegisterAccess) → has lcr lcr_bits.DLAB.0 ≡ false →
    Goes size (KnowsAsTaken fifo) l (KnowsAsTaken fifo) →
    Goes size (Opened fifo) (Read offsets.LCR (opened lcr) ∷ Read offsets.DLL low ∷ Read offsets.DLM high ∷ Write offsets.LCR lcr ∷ l)
    (KnowsAsTaken fifo)
goes_looked size fifo lcr low high l off rest =
    let K = KnowsAsTaken fifo in
    let O = Opened fifo in
    goes_on size O O K (Read offsets.LCR (opened lcr)) _ (stays_opened size fifo) (stays_opened size fifo)
    (shows_open size fifo (opened lcr) (opens_latch lcr))
    (goes_on size O O K (Read offsets.DLL low) _ (stays_opened size fifo) (stays_opened size fifo) (reads_low size fifo low)
    (goes_on size O O K (Read offsets.DLM high) _ (stays_opened size fifo) (stays_opened size fifo) (reads_high size fifo high)
    (goes_on size O K K (Write offsets.LCR lcr) l (stays_opened size fifo) (stays_knows size fifo) (closes_again size fifo lcr off) rest)))

-- LCR is read, and the latch opened
goes_opening : (size : FifoSize) (fifo : Bool) (lcr : ℕ) (l : List RegisterAccess) → IsTaken fifo false (Read offsets.LCR lcr) →
    Goes size (Opened fifo) l (KnowsAsTaken fifo) →
    Goes size (KnowsAsTaken fifo) (Read offsets.LCR lcr ∷ Write offsets.LCR (opened lcr) ∷ l) (KnowsAsTaken fifo)
goes_opening size fifo lcr l t rest =
    let K = KnowsAsTaken fifo in
    let O = Opened fifo in
    goes_on size K K K (Read offsets.LCR lcr) _ (stays_knows size fifo) (stays_knows size fifo) (moves_quiet size fifo
    (Read offsets.LCR lcr) refl t)
    (goes_on size K O K (Write offsets.LCR (opened lcr)) l (stays_knows size fifo) (stays_opened size fifo) (opens size fifo lcr) rest)

goes_latch : (size : FifoSize) (fifo : Bool) (l : List RegisterAccess) → LatchList l → AreTaken fifo l →
    Goes size (KnowsAsTaken fifo) l (KnowsAsTaken fifo)
goes_latch size fifo _ (Ignored lcr shown) t =
    goes_opening size fifo lcr (Read offsets.LCR shown ∷ Write offsets.LCR lcr ∷ []) t.0
    (goes_ignored size fifo lcr shown (has shown lcr_bits.DLAB.0) refl (t.0.dlab refl refl))
goes_latch size fifo _ (Looked lcr low high closed) t =
    let off = t.0.dlab refl refl in
    let last : IsTaken fifo false (Read offsets.LCR closed) =
    subst (λ (b : Bool). IsTaken fifo b (Read offsets.LCR closed)) off t.1.1.1.1.1.1.0 in
    let reads : List RegisterAccess = Read offsets.LCR (opened lcr) ∷ Read offsets.DLL low ∷ Read offsets.DLM high ∷ [] in
    goes_opening size fifo lcr (reads ++ (Write offsets.LCR lcr ∷ Read offsets.LCR closed ∷ [])) t.0
    (goes_looked size fifo lcr low high (Read offsets.LCR closed ∷ []) off
    (one size fifo (Read offsets.LCR closed) (moves_quiet size fifo (Read offsets.LCR closed) refl last)))

pub goes_check : (size : FifoSize) (fifo : Bool) (l : List RegisterAccess) → CheckList l → AreTaken fifo l →
    Goes size (KnowsAsTaken fifo) l (KnowsAsTaken fifo)
goes_check size fifo _ (Quiet quiet q) t = goes_in_blocks size fifo 0 quiet [] [] (omega arith) (quiet_blocks 0 quiet q) t
goes_check size fifo _ (Among front latch back p l q) t =
    let K = KnowsAsTaken fifo in
    let rest = after_quiet fifo front (latch ++ back) p t in
    goes_then size K K K front (latch ++ back)
    (goes_in_blocks size fifo 0 front [] [] (omega arith) (quiet_blocks 0 front p) (taken_front fifo false front (latch ++ back) t))
    (goes_then size K K K latch back (goes_latch size fifo latch l (taken_front fifo false latch back rest))
    (goes_in_blocks size fifo 0 back [] [] (omega arith) (quiet_blocks 0 back q) (after_latch fifo latch back l rest)))
