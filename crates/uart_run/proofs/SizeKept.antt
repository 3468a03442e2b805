-- No call changes for which size the driver takes the FIFOs, or its spin limit, and but for an `init` none changes whether it checks CTS.
-- Nor does it change the size that they have: that switches only on a chip that has the switch of a 16750, and only if FCR is written while
-- DLAB is set.
use Rattle.uart_run.proofs.Names.{◌≡◌, ◌⊎◌, ℕ, true, false, List, inl, inr, refl, ◌∙◌, ap, Access, FifoSize, Path, Language, Settings}
use Rattle.uart_run.proofs.Names.{Doing, Fields, fields, inner_of, Call, Answer, meaning, outcome_of, doing_of, MachineState, MachineStep}
use Rattle.uart_run.proofs.Names.{is_dlab_set, NeverSwitches, SameSizes, same_size, same_size-lacking, same_size-mark, State, machine_of}
use Rattle.uart_run.proofs.Names.{CallStep, transmitter_of, BurstsFit, IsSizeFixed, KeepsSize, IsUnchecked, KeepsChecks}
use Rattle.uart_spec.specs.declared.registers.offsets.TheConstants as offsets
use Rattle.uart_call.specs.declared.call.Call.TheVariants as call
use Rattle.uart_run.proofs.{built.Calls.kinds_of, built.Calls.call_does, CallBlocks.InBlocks}
use Rattle.uart_run.proofs.built.Words.{Kinds, Built, Does, but_checks, allows, all_pass, told_of, allowed, leaves}
use Rattle.uart_run.proofs.NeverSwitched.{NeverWrites, is_not, never, blocks_never, NeverEver, unwritten, unlatched, Stays, call_stays}

-- ---- what the driver takes the size to be, its spin limit, and whether it checks CTS

-- the size is as it was after what is done
abbrev pub LeavesSize : Doing → Type 0
LeavesSize G = (f : Fields) (l : List Access) (after : Fields) → G f l after → after.size ≡ f.size

pub leaves_size : {kinds : Kinds} {G : Doing} → Does kinds G → LeavesSize G
leaves_size p f l after t = ap (λ (told : FifoSize × ℕ). told.0) (leaves p f l after t).0

pub call_leaves : (c : Call) (outcome : outcome_of (meaning c)) → LeavesSize (doing_of (meaning c) outcome)
call_leaves c outcome = leaves_size (call_does c outcome)

told_kept : (s t : State) (c : Call) (a : Answer) → CallStep s c a t → told_of (fields (inner_of t)) ≡ told_of (fields (inner_of s))
told_kept s t call.Next a h = ap told_of h.driver
told_kept s t c a h = (leaves (call_does c h.outcome) (fields (inner_of s)) h.did.list (fields (inner_of t)) h.did.does).0

pub size_kept : (s t : State) (c : Call) (a : Answer) → CallStep s c a t → (fields (inner_of t)).size ≡ (fields (inner_of s)).size
size_kept s t c a h = ap (λ (told : FifoSize × ℕ). told.0) (told_kept s t c a h)

pub limit_kept : (s t : State) (c : Call) (a : Answer) → CallStep s c a t → (fields (inner_of t)).limit ≡ (fields (inner_of s)).limit
limit_kept s t c a h = ap (λ (told : FifoSize × ℕ). told.1) (told_kept s t c a h)

keeps_checks : (c : Call) → KeepsChecks c → allows but_checks (kinds_of c).alters ≡ true
keeps_checks (call.Init config) keeps = absurd keeps
keeps_checks (call.InitWith config setup) keeps = absurd keeps
keeps_checks other keeps = refl

-- whether it checks CTS, after a call that is no `init`
pub checks_left : (c : Call) → KeepsChecks c → (outcome : outcome_of (meaning c)) (f : Fields) (l : List Access) (after : Fields) →
    doing_of (meaning c) outcome f l after → after.config.check_cts_before_sending ≡ f.config.check_cts_before_sending
checks_left c keeps outcome f l after does =
    allowed but_checks (kinds_of c).alters f after (keeps_checks c keeps) (leaves (call_does c outcome) f l after does).1

pub checks_kept : (s t : State) (c : Call) (a : Answer) → CallStep s c a t → KeepsChecks c → IsUnchecked s → IsUnchecked t
checks_kept s t call.Next a h keeps unchecked = ap (λ (f : Fields). f.config.check_cts_before_sending) h.driver ∙ unchecked
checks_kept s t c a h keeps unchecked =
    checks_left c keeps h.outcome (fields (inner_of s)) h.did.list (fields (inner_of t)) h.did.does ∙ unchecked

-- ---- what the driver writes at once still fits

pub fits_by : (s t : State) → (fields (inner_of t)).size ≡ (fields (inner_of s)).size → (transmitter_of t).size ≡ (transmitter_of s).size →
    BurstsFit s → BurstsFit t
fits_by s t driver chip fits = rw (driver, chip) fits

-- these accesses do not switch the size
abbrev pub LeavesSwitch : MachineState → List Access → Type 0
LeavesSwitch m l = (m.chip.has_size_switch ≡ false) ⊎ NeverSwitches m.chip.latches.lcr l

sizes_left : (l : List Access) (m n : MachineState) → LeavesSwitch m l → Path MachineStep m l n → SameSizes m.chip n.chip
sizes_left l m n (inl lacks) path = same_size-lacking l m n lacks path
sizes_left l m n (inr never) path = same_size l m n never path

pub size_left : (l : List Access) (m n : MachineState) → LeavesSwitch m l → Path MachineStep m l n →
    n.chip.transmitter.size ≡ m.chip.transmitter.size
size_left l m n leaves path = (sizes_left l m n leaves path).transmitter

-- accesses that never do; those of a language without FCR; those of blocks; and those that write no LCR
pub left_ever : (m : MachineState) (l : List Access) → NeverEver l → LeavesSwitch m l
left_ever m l never = inr (never m.chip.latches.lcr)

pub left_plain : (m : MachineState) {kinds : Kinds} {L : Language} → Built kinds L → all_pass (is_not offsets.FCR) kinds.writes ≡ true →
    (s : Settings) (l : List Access) → L s l → LeavesSwitch m l
left_plain m built all s l made = left_ever m l (unwritten l (never offsets.FCR built all s l made))

pub left_blocks : (m : MachineState) (most : ℕ) (l : List Access) (written read : List ℕ) → InBlocks most l written read → LeavesSwitch m l
left_blocks m most l written read blocks = left_ever m l (unwritten l (blocks_never most l written read blocks))

pub left_fixed : (m : MachineState) (l : List Access) → NeverWrites offsets.LCR l → IsSizeFixed m → LeavesSwitch m l
left_fixed m l never (inl lacks) = inl lacks
left_fixed m l never (inr clear) = inr (unlatched m.chip.latches.lcr l clear never)

-- after accesses
pub fits_after : (s t : State) (l : List Access) → (fields (inner_of t)).size ≡ (fields (inner_of s)).size →
    LeavesSwitch (machine_of s) l → Path MachineStep (machine_of s) l (machine_of t) → BurstsFit s → BurstsFit t
fits_after s t l driver leaves path fits = fits_by s t driver (size_left l (machine_of s) (machine_of t) leaves path) fits

call_leaves_switch : (s : State) (c : Call) (l : List Access) → Stays c l → KeepsSize s c → LeavesSwitch (machine_of s) l
call_leaves_switch s (call.SetTriggerLevel level) l stays keeps = left_fixed (machine_of s) l stays keeps
call_leaves_switch s (call.Quiesce outputs fifos) l stays keeps = left_fixed (machine_of s) l stays keeps
call_leaves_switch s call.TestLoopback l stays keeps = left_fixed (machine_of s) l stays keeps
call_leaves_switch s other l stays keeps = left_ever (machine_of s) l stays

-- whatever is called, the size stays while DLAB is clear
pub keeps_size : (s : State) (c : Call) → is_dlab_set (machine_of s).chip.latches ≡ false → KeepsSize s c
keeps_size s (call.SetTriggerLevel level) clear = inr clear
keeps_size s (call.Quiesce outputs fifos) clear = inr clear
keeps_size s call.TestLoopback clear = inr clear
keeps_size s other clear = tt

-- both FIFOs have the same size after the call
pub sizes_kept : (s t : State) (c : Call) (a : Answer) → CallStep s c a t → KeepsSize s c →
    SameSizes (machine_of s).chip (machine_of t).chip
sizes_kept s t call.Next a h keeps = rw h.machine (same_size-mark (machine_of s))
sizes_kept s t c a h keeps =
    let stays = call_stays c h.outcome (fields (inner_of s)) h.did.list (fields (inner_of t)) h.did.does in
    sizes_left h.did.list (machine_of s) (machine_of t) (call_leaves_switch s c h.did.list stays keeps) h.did.path

pub fits_kept : (s t : State) (c : Call) (a : Answer) → CallStep s c a t → KeepsSize s c → BurstsFit s → BurstsFit t
fits_kept s t c a h keeps fits = fits_by s t (size_kept s t c a h) (sizes_kept s t c a h keeps).transmitter fits
