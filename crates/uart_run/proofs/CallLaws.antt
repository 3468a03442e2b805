-- What a call of a session does to the machine.
use Rattle.uart_run.proofs.Names.{◌≡◌, ℕ, ◌≤◌, Bool, false, List, [], ◌∷◌, ◌++◌, refl, sym, ◌∙◌, ap, subst}
use Rattle.uart_run.proofs.Names.{bit_or, or_zero_r, Path, saved, saved_lsr, saved_msr, Access, Write, Doing, Did, Fields, fields}
use Rattle.uart_run.proofs.Names.{settings_of, inner_of, is_dlab_set, MachineStep, BurstsFit, State, machine_of}
use Rattle.uart_run.proofs.Names.{room, room_grows, Modes, dlab-in, passed-refl, IsOpen, Stands}
use Rattle.uart_run.proofs.Names.{PassedBlocks, nothing_taken, path_as, passed_level}
use Rattle.uart_spec.specs.declared.registers.offsets.TheConstants as offsets
use Rattle.uart_chip.proofs.Bits.{or_assoc}
use Rattle.uart_chip.proofs.conservation.Went.{saved-append}
use Rattle.uart_run.proofs.CallBlocks.{InBlocks, most_in, passed_in_blocks}
use Rattle.uart_run.proofs.{CallKeeps.Keeps, CheckLists.passed_check}
use Rattle.uart_run.proofs.Steady.{Steady, OfSession, in_blocks, sets_level, as_checked, IsSteady, steady_call}
pub use Rattle.uart_run.proofs.Steady.{level_bits_keep}
use Rattle.uart_run.proofs.Names.{◌≢◌, Call, Answer, CallStep, reported_by, received_by, passed-mark}
use Rattle.uart_call.specs.declared.call.Call.TheVariants as call

-- from s to t: these accesses wrote these bytes to DATA and read those; the driver takes the FIFO to be as before, and saved what the
-- statuses showed, unless it told and forgot it
pub record Passes (x : Modes) (NoLsr NoMsr : Type 0) (s t : State) (written read : List ℕ) : Type 0 where
  pub made : List Access
  pub passed : PassedBlocks x (machine_of s) (machine_of t) made written read
  pub fifo : (fields (inner_of t)).fifo ≡ (fields (inner_of s)).fifo
  pub lsr : NoLsr → (fields (inner_of t)).lsr ≡ bit_or (fields (inner_of s)).lsr (saved_lsr made)
  pub msr : NoMsr → (fields (inner_of t)).msr ≡ bit_or (fields (inner_of s)).msr (saved_msr made)

-- what two lists save is what their whole saves
pub saved_both : (register mask before : ℕ) (xs ys : List Access) →
    bit_or (bit_or before (saved register mask xs)) (saved register mask ys) ≡ bit_or before (saved register mask (xs ++ ys))
saved_both register mask before xs ys =
    or_assoc before (saved register mask xs) (saved register mask ys) ∙ ap (bit_or before) (sym (saved-append register mask xs ys))

-- a session's state, in its modes
pub record InSession (x : Modes) (s : State) : Type 0 where
  pub open_modes : IsOpen x
  pub stands : Stands x (machine_of s)
  pub fifo : (fields (inner_of s)).fifo ≡ x.fifo
  pub fits : BurstsFit s

-- DLAB is off
pub session_closed : (x : Modes) (s : State) → InSession x s → is_dlab_set (machine_of s).chip.latches ≡ false
session_closed x s w = dlab-in x (machine_of s).chip w.stands.modes ∙ w.open_modes.dlab

-- the transmitter has room for all that the driver writes at once
pub session_room : (x : Modes) (s : State) → InSession x s →
    most_in (settings_of (fields (inner_of s))) ≤ room x.fifo (machine_of s).chip.transmitter.size
session_room x s w =
    let size = (fields (inner_of s)).size in
    let held = (machine_of s).chip.transmitter.size in
    subst (λ (fifo : Bool). room fifo size ≤ room x.fifo held) (sym w.fifo) (room_grows x.fifo size held w.fits)

-- the accesses that a call made, by their blocks
passed_did : (x : Modes) (G : Doing) (ws rs : List ℕ) (s t : State) → InSession x s → (did : Did MachineStep G (inner_of s) (inner_of t)) →
    InBlocks (most_in (settings_of (fields (inner_of s)))) did.list ws rs →
    PassedBlocks x (machine_of s) (machine_of t) did.list ws rs
passed_did x G ws rs s t w did blocks =
    passed_in_blocks x (most_in (settings_of (fields (inner_of s)))) (machine_of s) (machine_of t) did.list ws rs w.open_modes w.stands
    (session_room x s w) blocks did.path

-- a call, by its blocks and by what it saves
passes_by : (x : Modes) (N M : Type 0) (G : Doing) (ws rs : List ℕ) (s t : State) → InSession x s →
    (did : Did MachineStep G (inner_of s) (inner_of t)) → InBlocks (most_in (settings_of (fields (inner_of s)))) did.list ws rs →
    (fields (inner_of t)).fifo ≡ (fields (inner_of s)).fifo →
    (N → (fields (inner_of t)).lsr ≡ bit_or (fields (inner_of s)).lsr (saved_lsr did.list)) →
    (M → (fields (inner_of t)).msr ≡ bit_or (fields (inner_of s)).msr (saved_msr did.list)) → Passes x N M s t ws rs
passes_by x N M G ws rs s t w did blocks fifo lsr msr =
    record { made = did.list; passed = passed_did x G ws rs s t w did blocks; fifo = fifo; lsr = lsr; msr = msr }

-- a call that saves what it reads
pub passes_did : (x : Modes) (N M : Type 0) (G : Doing) (ws rs : List ℕ) (s t : State) → InSession x s →
    (did : Did MachineStep G (inner_of s) (inner_of t)) → Keeps (fields (inner_of s)) did.list (fields (inner_of t)) ws rs →
    Passes x N M s t ws rs
passes_did x N M G ws rs s t w did k = passes_by x N M G ws rs s t w did k.blocks k.fifo (λ n. k.lsr) (λ n. k.msr)

-- ---- a call that changes no mode, by what its list is

passed_of : (x : Modes) (s t : State) (l : List Access) (ws rs : List ℕ) → InSession x s →
    OfSession (fields (inner_of s)).fifo (most_in (settings_of (fields (inner_of s)))) l ws rs →
    Path MachineStep (machine_of s) l (machine_of t) → PassedBlocks x (machine_of s) (machine_of t) l ws rs
passed_of x s t l ws rs w (in_blocks b) path =
    passed_in_blocks x (most_in (settings_of (fields (inner_of s)))) (machine_of s) (machine_of t) l ws rs w.open_modes w.stands
    (session_room x s w) b path
passed_of x s t l ws rs w (as_checked c unwritten unread) path =
    rw (unwritten, unread) (passed_check x (machine_of s) (machine_of t) l w.open_modes w.stands c path)
passed_of x s t l ws rs w (sets_level value on keep is unwritten unread) path =
    let made : List Access = Write offsets.FCR value ∷ [] in
    let p = path_as (machine_of s) (machine_of t) l made is path in
    let passed = passed_level x (machine_of s) p.0 value w.open_modes (sym w.fifo ∙ on) keep w.stands p.1 in
    rw (is, unwritten, unread) (nothing_taken x (machine_of s) (machine_of t) made [] (rw p.2 passed))

pub passes_steady : (x : Modes) (N M : Type 0) (s t : State) (l : List Access) (ws rs : List ℕ) → InSession x s →
    Steady N M (fields (inner_of s)) l (fields (inner_of t)) ws rs → Path MachineStep (machine_of s) l (machine_of t) →
    Passes x N M s t ws rs
passes_steady x N M s t l ws rs w k path =
    record { made = l; passed = passed_of x s t l ws rs w k.list path; fifo = k.fifo; lsr = k.lsr; msr = k.msr }

-- ---- no access

-- no access is made, and the fields stay
pub passes_quietly : (x : Modes) (N M : Type 0) (s t : State) → PassedBlocks x (machine_of s) (machine_of t) [] [] [] →
    fields (inner_of t) ≡ fields (inner_of s) → Passes x N M s t [] []
passes_quietly x N M s t p e = record {
  made = [];
  passed = p;
  fifo = ap (λ (f : Fields). f.fifo) e;
  lsr = λ n. ap (λ (f : Fields). f.lsr) e ∙ sym (or_zero_r (fields (inner_of s)).lsr);
  msr = λ n. ap (λ (f : Fields). f.msr) e ∙ sym (or_zero_r (fields (inner_of s)).msr);
}

pub passes_none : (x : Modes) (N M : Type 0) (s : State) → InSession x s → Passes x N M s s [] []
passes_none x N M s w =
    passes_quietly x N M s s (record { takes = []; bytes = refl; passed = passed-refl x (machine_of s) w.stands.sound w.stands.modes }) refl

-- ---- each call

pub passes_call : (x : Modes) (s t : State) (c : Call) (a : Answer) → InSession x s → IsSteady c → CallStep s c a t →
    Passes x (c ≢ call.Lsr) (c ≢ call.Msr) s t (reported_by c a) (received_by c a)
passes_call x s t call.Next a w i h =
    let p = passed-mark x (machine_of s) w.open_modes.loopback w.stands.sound w.stands.modes in
    passes_quietly x _ _ s t (record { takes = []; bytes = refl; passed = rw h.machine p }) h.driver
passes_call x s t c a w i h =
    subst (λ (b : Answer). Passes x (c ≢ call.Lsr) (c ≢ call.Msr) s t (reported_by c b) (received_by c b)) (sym h.answered)
    (passes_steady x _ _ s t h.did.list _ _ w
    (steady_call c i h.outcome (fields (inner_of s)) h.did.list (fields (inner_of t)) h.did.does) h.did.path)
