-- No call of a run switches the size of the FIFOs: it writes no FCR, or writes it only while DLAB is clear.
use Rattle.uart_run.proofs.Names.{not, ◌≡◌, ℕ, ◌==◌, ◌&&◌, ◌||◌, Bool, true, false, Option, List, [], ◌∷◌, ◌++◌, map, Result, Ok, Err, inl}
use Rattle.uart_run.proofs.Names.{inr, refl, sym, ap, subst, arith, if◌then◌else◌, common_steps, AllByRecursion, without, has_any}
use Rattle.uart_run.proofs.Names.{divisor_of, Access, Read, Write, Config, ConfigRegisterDump, InitError, InvalidBaudRate, DeviceNotPresent}
use Rattle.uart_run.proofs.Names.{FifoTriggerLevel, Setup, Language, Settings, Only, Then, Fields, Saving, with_config, with_fifo}
use Rattle.uart_run.proofs.Names.{with_interrupts, WaitsFor, ChecksPresence, frame_bits, line_writes, SetsFifo, raised_outputs, Begins}
use Rattle.uart_run.proofs.Names.{Ends, Inits, unlooped, WaitsIf, is_last, Looks, SetsUp, InitsWith, dumped_level, last_writes, Restores}
use Rattle.uart_run.proofs.Names.{Call, meaning, outcome_of, doing_of, lcr_after, NeverSwitches, has_not, is_quiet, AllQuiet, Block, Look}
use Rattle.uart_run.proofs.Names.{Hit, Other, Divisor, accesses_of, IsFit, AllFit, flat, not-true, Doing}
use Rattle.uart_spec.specs.declared.errors.InitError.TheVariants.{Stalled}
use Rattle.uart_spec.specs.declared.registers.line_control.TheConstants.LCR
use Rattle.uart_spec.specs.declared.registers.line_status.TheConstants.LSR
use Rattle.uart_spec.specs.declared.registers.offsets.TheConstants as offsets
use Rattle.uart_call.specs.declared.call.Call.TheVariants as call
use Rattle.uart_chip.proofs.conservation.Blocks.{Burst}
use Rattle.uart_run.proofs.ListsInTurn.{HoldsInTurn, HoldsOfAll, all_then, HoldsOfDoing, does_next, does_sets}
use Rattle.uart_run.proofs.{ListsInTurn.does_saving, initialising.Inits.frame-dlab, CallBlocks.InBlocks, built.Receive.waits_for}
use Rattle.uart_run.proofs.{built.Loopback.tests_loopback, built.Calls.call_does}
use Rattle.uart_run.proofs.built.Words.{Kinds, Built, Does, all_pass, saves, looks, each_such, does_such}
use Rattle.uart_run.proofs.built.Init.{checks_presence, checks_if, waits_if, looks_first, sets_fifo, drains_receiver}
use Rattle.uart_run.proofs.built.SettingUp.{writes_mcr, ends, sets_trigger, quiesces, registers_after}

-- ---- lists that never write a register

-- the access does not write this register
abbrev pub LeavesRegister : (register : ℕ) → Access → Type 0
LeavesRegister register (Read offset answer) = Unit {0}
LeavesRegister register (Write offset value) = (offset == register) ≡ false

-- none of these accesses writes it
abbrev pub NeverWrites : (register : ℕ) → List Access → Type 0
NeverWrites register l = AllByRecursion (LeavesRegister register) l

never-append : (register : ℕ) (xs ys : List Access) → NeverWrites register xs → NeverWrites register ys → NeverWrites register (xs ++ ys)
never-append register [] ys p q = q
never-append register (x ∷ xs) ys p q = (p.0, never-append register xs ys p.1 q)

pub never_writes : (register : ℕ) → HoldsInTurn (NeverWrites register)
never_writes register = record { none = tt; append = never-append register }

-- no list of a language does that is built without writes of it, and nothing that is done so
abbrev pub is_not : ℕ → ℕ → Bool
is_not register other = not (other == register)

pub never : (register : ℕ) {kinds : Kinds} {L : Language} → Built kinds L → all_pass (is_not register) kinds.writes ≡ true →
    (s : Settings) → HoldsOfAll (NeverWrites register) s L
never register p all s =
    each_such (LeavesRegister register) (is_not register) (λ offset answer. tt)
    (λ offset value is. not-true (offset == register) is) p all s

pub does_never : (register : ℕ) {kinds : Kinds} {G : Doing} → Does kinds G → all_pass (is_not register) kinds.writes ≡ true →
    HoldsOfDoing (NeverWrites register) G
does_never register p all =
    does_such (LeavesRegister register) (is_not register) (λ offset answer. tt) (λ offset value is. not-true (offset == register) is) p all

-- ---- blocks write no FCR

quiet_write : (offset : ℕ) → ((offset == offsets.IER) || (offset == offsets.SPR)) ≡ true → (offset == offsets.FCR) ≡ false
quiet_write offset e = grind (arith, common_steps)

quiet_access : (access : Access) → is_quiet access ≡ true → LeavesRegister offsets.FCR access
quiet_access (Read offset answer) e = tt
quiet_access (Write offset value) e = quiet_write offset e

quiet_never : (l : List Access) → AllQuiet l → NeverWrites offsets.FCR l
quiet_never [] q = tt
quiet_never (access ∷ l) q = (quiet_access access q.0, quiet_never l q.1)

data_never : (bytes : List ℕ) → NeverWrites offsets.FCR (map (Write offsets.DATA) bytes)
data_never [] = tt
data_never (byte ∷ bytes) = (refl, data_never bytes)

block_never : (most : ℕ) (block : Block) → IsFit most block → NeverWrites offsets.FCR (accesses_of block)
block_never most (Look line) fit = (tt, tt)
block_never most (Hit line byte) fit = (tt, (tt, tt))
block_never most (Burst line checks bytes) fit = (tt, never-append offsets.FCR checks _ (quiet_never checks fit.1) (data_never bytes))
block_never most (Other access) fit = (quiet_access access fit, tt)
block_never most (Divisor lcr low high) fit = (tt, (refl, (tt, (tt, (refl, tt)))))

flat_never : (most : ℕ) (blocks : List Block) → AllFit most blocks → NeverWrites offsets.FCR (flat blocks)
flat_never most [] fit = tt
flat_never most (block ∷ blocks) fit =
    never-append offsets.FCR (accesses_of block) (flat blocks) (block_never most block fit.0) (flat_never most blocks fit.1)

pub blocks_never : (most : ℕ) (l : List Access) (written read : List ℕ) → InBlocks most l written read → NeverWrites offsets.FCR l
blocks_never most l written read b = rw b.joined (flat_never most b.blocks b.fit)

-- ---- what never switches the size

-- LCR after some accesses
abbrev lcr_at_end : List Access → (lcr : ℕ) → ℕ
lcr_at_end [] lcr = lcr
lcr_at_end (access ∷ accesses) lcr = lcr_at_end accesses (lcr_after access lcr)

switches-append : (lcr : ℕ) (xs ys : List Access) → NeverSwitches lcr xs → NeverSwitches (lcr_at_end xs lcr) ys →
    NeverSwitches lcr (xs ++ ys)
switches-append lcr [] ys p q = q
switches-append lcr (x ∷ xs) ys p q = (p.0, switches-append (lcr_after x lcr) xs ys p.1 q)

-- whatever LCR is before them
abbrev pub NeverEver : List Access → Type 0
NeverEver l = (lcr : ℕ) → NeverSwitches lcr l

pub never_ever : HoldsInTurn NeverEver
never_ever = record { none = λ lcr. tt; append = λ xs ys p q lcr. switches-append lcr xs ys (p lcr) (q (lcr_at_end xs lcr)) }

-- no FCR is written
pub unwritten : (l : List Access) → NeverWrites offsets.FCR l → NeverEver l
unwritten [] never lcr = tt
unwritten (Read offset answer ∷ l) never lcr = (refl, unwritten l never.1 lcr)
unwritten (Write offset value ∷ l) never lcr =
    (ap (λ (b : Bool). b && has_any lcr LCR.DLAB.0) never.0, unwritten l never.1 (lcr_after (Write offset value) lcr))

-- DLAB is clear, and no LCR is written
pub unlatched : (lcr : ℕ) (l : List Access) → has_any lcr LCR.DLAB.0 ≡ false → NeverWrites offsets.LCR l → NeverSwitches lcr l
unlatched lcr [] clear never = tt
unlatched lcr (Read offset answer ∷ l) clear never = (refl, unlatched lcr l clear never.1)
unlatched lcr (Write offset value ∷ l) clear never = (
  shut (offset == offsets.FCR),
  subst (λ (b : Bool). NeverSwitches (if b then value else lcr) l) (sym never.0) (unlatched lcr l clear never.1),
)
  where
    shut : (b : Bool) → (b && has_any lcr LCR.DLAB.0) ≡ false
    shut true = clear
    shut false = refl

-- the line is set up, with a frame that leaves DLAB clear, and no LCR is written after it
framed_first : (divisor frame : ℕ) (l : List Access) → has_any frame LCR.DLAB.0 ≡ false → NeverWrites offsets.LCR l →
    NeverEver (line_writes divisor frame ++ l)
framed_first divisor frame l clear never lcr =
    (refl, (refl, (refl, (refl, (refl, (refl, (refl, unlatched frame l clear never)))))))

-- ---- setting up

-- the line, and then the FIFO step
line_stays : (s : Settings) (divisor frame : ℕ) (level : Option FifoTriggerLevel) (on : Bool) → has_any frame LCR.DLAB.0 ≡ false →
    HoldsOfAll NeverEver s (Then (Only (line_writes divisor frame)) (SetsFifo level on))
line_stays s divisor frame level on clear l t =
    rw (t.whole, t.first.is) (framed_first divisor frame t.back clear (never offsets.LCR (sets_fifo level on) refl s t.back t.second))

-- what is built without FCR stays so wherever it comes
pub stays : {kinds : Kinds} {G : Doing} → Does kinds G → all_pass (is_not offsets.FCR) kinds.writes ≡ true → HoldsOfDoing NeverEver G
stays p all f l after t = unwritten l (does_never offsets.FCR p all f l after t)

pub begins_stay : (config : Config) (divisor : ℕ) (fifo : Bool) → HoldsOfDoing NeverEver (Begins config divisor fifo)
begins_stay config divisor fifo =
    let line = Then (Only (line_writes divisor (frame_bits config))) (SetsFifo config.fifo_trigger_level fifo) in
    does_next never_ever _ _ (does_sets never_ever (with_config config))
    (does_next never_ever _ _
    (does_saving (Then (ChecksPresence true) line)
    (λ s. all_then never_ever s (ChecksPresence true) line (λ l t. unwritten l (never offsets.FCR (checks_presence true) refl s l t))
    (line_stays s divisor (frame_bits config) config.fifo_trigger_level fifo (frame-dlab config))))
    (does_next never_ever _ _ (does_sets never_ever (with_fifo fifo))
    (does_next never_ever _ _ (stays (looks drains_receiver) refl) (stays (saves (writes_mcr raised_outputs)) refl))))

ends_stay : (config : Config) → HoldsOfDoing NeverEver (Ends config)
ends_stay config = stays (ends config) refl

waits_stay : (empty : Bool) → HoldsOfDoing NeverEver (Saving (WaitsFor LSR.TRANSMITTER_EMPTY.0 empty))
waits_stay empty = stays (saves (waits_for LSR.TRANSMITTER_EMPTY.0 empty)) refl

nothing_stays : (l : List Access) → l ≡ [] → NeverEver l
nothing_stays l none = rw none (λ lcr. tt)

pub inits_stay : {T : Type 0} (config : Config) (result : Result T InitError) → HoldsOfDoing NeverEver (Inits config result)
inits_stay config (Ok x) f l after (d, on, of, does) =
    does_next never_ever _ _ (begins_stay config d on) (does_next never_ever _ _ (waits_stay true) (ends_stay config)) f l after does
inits_stay config (Err (InvalidBaudRate cause)) f l after (of, none, same) = nothing_stays l none
inits_stay config (Err DeviceNotPresent) f l after (d, of, does) =
    does_next never_ever _ _ (does_sets never_ever (with_config config)) (stays (saves (checks_presence false)) refl) f l after does
inits_stay config (Err Stalled) f l after (d, on, of, does) =
    does_next never_ever _ _ (begins_stay config d on) (waits_stay false) f l after does

pub looks_stay : (setup : Setup) (empty : Bool) → HoldsOfDoing NeverEver (Saving (Looks setup empty))
looks_stay setup empty = stays (saves (looks_first setup empty)) refl

waits_last_stay : (setup : Setup) (empty : Bool) → HoldsOfDoing NeverEver (Saving (WaitsIf (is_last setup.wait) empty))
waits_last_stay setup empty = stays (saves (waits_if (is_last setup.wait) empty)) refl

pub sets_up_stays : (setup : Setup) (config : Config) (divisor : ℕ) (fifo : Bool) →
    HoldsOfDoing NeverEver (SetsUp setup config divisor fifo)
sets_up_stays setup config divisor fifo =
    does_next never_ever _ _
    (does_saving (Then (Only (line_writes divisor (frame_bits config))) (SetsFifo config.fifo_trigger_level fifo))
    (λ s. line_stays s divisor (frame_bits config) config.fifo_trigger_level fifo (frame-dlab config)))
    (does_next never_ever _ _ (does_sets never_ever (with_fifo fifo))
    (does_next never_ever _ _ (stays (looks drains_receiver) refl) (stays (saves (writes_mcr (unlooped setup.outputs.0))) refl)))

pub inits_with_stay : {T : Type 0} (setup : Setup) (config : Config) (result : Result T InitError) →
    HoldsOfDoing NeverEver (InitsWith setup config result)
inits_with_stay setup config (Ok x) f l after (d, on, of, does) =
    does_next never_ever _ _ (does_sets never_ever (with_config config))
    (does_next never_ever _ _ (looks_stay setup true)
    (does_next never_ever _ _ (sets_up_stays setup config d on)
    (does_next never_ever _ _ (waits_last_stay setup true) (ends_stay config)))) f l after does
inits_with_stay setup config (Err (InvalidBaudRate cause)) f l after (of, none, same) = nothing_stays l none
inits_with_stay setup config (Err DeviceNotPresent) f l after (d, of, does) =
    does_next never_ever _ _ (does_sets never_ever (with_config config))
    (stays (saves (checks_if setup.checks_presence false)) refl) f l after does
inits_with_stay setup config (Err Stalled) f l after (d, of, inl does) =
    does_next never_ever _ _ (does_sets never_ever (with_config config)) (looks_stay setup false) f l after does
inits_with_stay setup config (Err Stalled) f l after (d, of, inr (on, does)) =
    does_next never_ever _ _ (does_sets never_ever (with_config config))
    (does_next never_ever _ _ (looks_stay setup true)
    (does_next never_ever _ _ (sets_up_stays setup config d on) (waits_last_stay setup false))) f l after does

registers_stay : (s : Settings) (dump : ConfigRegisterDump) (level : Option FifoTriggerLevel) (on : Bool) → HoldsOfAll NeverEver s
    (Then (Only (line_writes (divisor_of dump) (without 8 dump.lcr.0 LCR.DLAB.0))) (Then (SetsFifo level on) (Only (last_writes dump))))
registers_stay s dump level on l t =
    rw (t.whole, t.first.is)
    (framed_first (divisor_of dump) (without 8 dump.lcr.0 LCR.DLAB.0) t.back (has_not 7 dump.lcr.0 127 refl)
    (never offsets.LCR (registers_after dump level on) refl s t.back t.second))

pub restores_stay : (dump : ConfigRegisterDump) → HoldsOfDoing NeverEver (Restores dump)
restores_stay dump f l after (on, does) =
    let level = dumped_level dump f.config in
    does_next never_ever _ _ (does_sets never_ever (with_interrupts dump.ier.0))
    (does_next never_ever _ _
    (does_saving (Then (Only (line_writes (divisor_of dump) (without 8 dump.lcr.0 LCR.DLAB.0)))
    (Then (SetsFifo level on) (Only (last_writes dump)))) (λ s. registers_stay s dump level on))
    (does_sets never_ever (with_fifo on))) f l after does

-- what its lists are like: these three write FCR, and no LCR before it; and no other writes FCR while DLAB is set
abbrev pub Stays : Call → List Access → Type 0
Stays (call.SetTriggerLevel level) l = NeverWrites offsets.LCR l
Stays (call.Quiesce outputs fifos) l = NeverWrites offsets.LCR l
Stays call.TestLoopback l = NeverWrites offsets.LCR l
Stays other l = NeverEver l

pub call_stays : (c : Call) (outcome : outcome_of (meaning c)) (f : Fields) (l : List Access) (after : Fields) →
    doing_of (meaning c) outcome f l after → Stays c l
call_stays (call.Init config) outcome f l after does = inits_stay config outcome f l after does
call_stays (call.InitWith config setup) outcome f l after does = inits_with_stay setup config outcome f l after does
call_stays (call.Restore dump) outcome f l after does = restores_stay dump f l after does
call_stays (call.SetTriggerLevel level) outcome f l after does = does_never offsets.LCR (sets_trigger level outcome) refl f l after does
call_stays (call.Quiesce outputs fifos) outcome f l after does = does_never offsets.LCR (quiesces outputs.0 fifos) refl f l after does
call_stays call.TestLoopback outcome f l after does = does_never offsets.LCR (tests_loopback outcome) refl f l after does
call_stays other outcome f l after does = stays (call_does other outcome) refl f l after does
