-- Where ticks come before each access, the spin limit is long enough and the wire has room, an `init` does not stall.
use Rattle.uart_run.proofs.Names.{◌≡◌, ◌≢◌, ℕ, ◌+◌, ◌*◌, ◌<◌, ◌%◌, ◌/◌, Bool, true, false, List, [], ◌∷◌, ◌++◌, Result, Ok, Err, refl}
use Rattle.uart_run.proofs.Names.{arith, sym, ◌∙◌, ap, mul-div_cancel_left, common_steps, Config, InvalidDivisorError, InitError}
use Rattle.uart_run.proofs.Names.{InvalidBaudRate, DeviceNotPresent, Path, Access, Write, Language, Settings, Only, Then, WaitsFor, Fields}
use Rattle.uart_run.proofs.Names.{fields, settings_of, Doing, Saving, Plain, Sets, Next, with_config, with_fifo, raised_outputs}
use Rattle.uart_run.proofs.Names.{ChecksPresence, frame_bits, line_writes, SetsFifo, DrainsReceiver, Begins, DivisorOf, Inits, inner_of}
use Rattle.uart_run.proofs.Names.{Answer, Done, InitRefused, has_any, is_dlab_set, MachineState, MachineStep, at_access, IsSound}
use Rattle.uart_run.proofs.Names.{init_answer, State, machine_of, CallStep, HasDivisor, IsTimely, HasRoom, left, IsUnheld, path_as}
use Rattle.uart_run.proofs.Names.{cleared_off}
use Rattle.uart_spec.specs.Baud.{prescaler}
use Rattle.uart_spec.specs.BaudRate.{to_integer}
use Rattle.uart_spec.specs.declared.errors.InvalidDivisorError.TheVariants.{NonInteger, OutOfRange}
use Rattle.uart_spec.specs.declared.errors.InitError.TheVariants.{Stalled}
use Rattle.uart_spec.specs.declared.registers.offsets.TheConstants as offsets
use Rattle.uart_spec.specs.declared.registers.line_status.TheConstants.LSR
use Rattle.uart_spec.specs.declared.registers.line_control.TheConstants.LCR
use Rattle.uart_call.specs.declared.call.Call.TheVariants as call
use Rattle.uart_run.proofs.{Latches.Kept, Latches.kept_access, Pieces.then_parts, Pieces.next_stages, progress.Nearing.RunsWith}
use Rattle.uart_run.proofs.{progress.Nearing.free_runs, progress.Nearing.free-path, progress.Nearing.free-latch, SilentLists.is_no_data}
use Rattle.uart_run.proofs.{SilentLists.silent, built.Words.Kinds, built.Words.Built, built.Words.all_pass, built.Words.leaves_limit}
use Rattle.uart_run.proofs.{built.Init.checks_presence, built.Init.sets_fifo, built.Init.drains_receiver, built.SettingUp.ChecksAndSets}
use Rattle.uart_run.proofs.{progress.WaitEnds.no_stall-empty, NeverSwitched.begins_stay, SizeKept.left_ever, progress.Succeeds.few_left}
use Rattle.uart_run.proofs.{initialising.Inits.begun}
use Rattle.uart_run.proofs.built.SettingUp as built
use Rattle.uart_spec.specs.declared.registers.modem_control.TheConstants.MCR

-- ---- up to the wait

-- the divisor latch is written under DLAB, so nothing is sent
pub free-line : {more : ℕ} (divisor frame : ℕ) (m n : MachineState) → RunsWith more m →
    Path MachineStep m (line_writes divisor frame) n → RunsWith more n
free-line divisor frame m n r (m₁, s₁, (m₂, s₂, (m₃, under, (m₄, latch, rest)))) =
    let a = free-path (Write offsets.LCR 0 ∷ Write offsets.IER 0 ∷ Write offsets.LCR LCR.DLAB.0 ∷ []) m m₃ r (refl, (refl, (refl, tt)))
    (m₁, s₁, (m₂, s₂, (m₃, under, refl))) in
    let lcr : m₃.chip.latches.lcr ≡ 128 = ap (λ (o : MachineState). o.chip.latches.lcr) under in
    let on : is_dlab_set (at_access m₃).chip.latches ≡ true = ap (λ (k : Kept). is_dlab_set k.latches) (kept_access m₃)
    ∙ ap (λ value. has_any value LCR.DLAB.0) lcr in
    let b = free-latch m₃ m₄ (divisor % 256) a on latch in
    free-path (Write offsets.DLM (divisor / 256) ∷ Write offsets.LCR 0 ∷ Write offsets.LCR frame ∷ []) m₄ n b
    (refl, (refl, (refl, tt))) rest

-- a list that sends nothing
pub free-list : {more : ℕ} {kinds : Kinds} {L : Language} → Built kinds L → all_pass is_no_data kinds.writes ≡ true → (s : Settings)
    (l : List Access) (m n : MachineState) → RunsWith more m → L s l → Path MachineStep m l n → RunsWith more n
free-list p all s l m n r t path = free-path l m n r (silent p all s l t) path

-- the presence check, the line and the FIFO step
free-set_up : {more : ℕ} (config : Config) (divisor : ℕ) (fifo : Bool) (s : Settings) (l : List Access) (m n : MachineState) →
    RunsWith more m → ChecksAndSets config divisor fifo s l → Path MachineStep m l n → RunsWith more n
free-set_up config divisor fifo s l m n r t path =
    let frame = frame_bits config in
    let level = config.fifo_trigger_level in
    let p = then_parts (ChecksPresence true) (Then (Only (line_writes divisor frame)) (SetsFifo level fifo)) s l m n t path in
    let q = then_parts (Only (line_writes divisor frame)) (SetsFifo level fifo) s p.back p.between n p.second p.after in
    let a = free-list (checks_presence true) refl s p.front m p.between r p.first p.before in
    let b = free-line divisor frame p.between q.between a
    (path_as p.between q.between q.front (line_writes divisor frame) q.first.is q.before) in
    free-list (sets_fifo level fifo) refl s q.back q.between n b q.second q.after

-- the drain and MCR
pub free-drained : {more : ℕ} (outputs : ℕ) (f mid : Fields) (l : List Access) (m n : MachineState) → RunsWith more m →
    Next (Plain DrainsReceiver) (Saving (Only (Write offsets.MCR outputs ∷ []))) f l mid → Path MachineStep m l n → RunsWith more n
free-drained outputs f mid l m n r t path =
    let a = next_stages (Plain DrainsReceiver) (Saving (Only (Write offsets.MCR outputs ∷ []))) f mid l m n t path in
    let b = free-list drains_receiver refl (settings_of f) a.parts.front m a.parts.between r a.parts.first.0 a.parts.before in
    free-path (Write offsets.MCR outputs ∷ []) a.parts.between n b (refl, tt)
    (path_as a.parts.between n a.parts.back (Write offsets.MCR outputs ∷ []) a.parts.second.0.is a.parts.after)

-- fields that are set make no access
pub free-sets : {more : ℕ} (change : Fields → Fields) (H : Doing) (f after : Fields) (l : List Access) (m n : MachineState) →
    Next (Sets change) H f l after → Path MachineStep m l n →
    ((mid : Fields) (back : List Access) → H mid back after → Path MachineStep m back n → RunsWith more n) → RunsWith more n
free-sets change H f after l m n t path next =
    let whole : l ≡ t.back = t.whole ∙ ap (λ zs. zs ++ t.back) t.first.0 in
    next t.mid t.back t.second (path_as m n l t.back whole path)

pub free-begins : {more : ℕ} (config : Config) (divisor : ℕ) (fifo : Bool) (f mid : Fields) (l : List Access) (m n : MachineState) →
    RunsWith more m → Begins config divisor fifo f l mid → Path MachineStep m l n → RunsWith more n
free-begins {more} config divisor fifo f mid l m n r t path =
    free-sets (with_config config) (Next (Saving (ChecksAndSets config divisor fifo)) known) f mid l m n t path set_up
  where
    known : Doing
    known = Next (Sets (with_fifo fifo)) (Next (Plain DrainsReceiver) (Saving (Only (Write offsets.MCR raised_outputs ∷ []))))

    set_up : (g : Fields) (k : List Access) → Next (Saving (ChecksAndSets config divisor fifo)) known g k mid → Path MachineStep m k n →
        RunsWith more n
    set_up g k u p =
        let a = next_stages (Saving (ChecksAndSets config divisor fifo)) known g mid k m n u p in
        let b = free-set_up config divisor fifo (settings_of g) a.parts.front m a.parts.between r a.parts.first.0 a.parts.before in
        free-sets (with_fifo fifo) (Next (Plain DrainsReceiver) (Saving (Only (Write offsets.MCR raised_outputs ∷ [])))) a.mid mid
        a.parts.back a.parts.between n a.parts.second a.parts.after
        (λ h back w q. free-drained raised_outputs h mid back a.parts.between n b w q)

-- ---- a configuration with a divisor is not refused for its baud rate

pub no_refusal : (config : Config) (cause : InvalidDivisorError) → HasDivisor config → DivisorOf config (Err cause) → ⊥
no_refusal config (NonInteger error) h refused = refused.0 h.divisor h.is_divisor.0
no_refusal config (OutOfRange other) h refused =
    let factor : ℕ = 16 * (prescaler config.prescaler_division_factor + 1) * to_integer config.baud_rate in
    let some : 0 < factor = positive (prescaler config.prescaler_division_factor) (to_integer config.baud_rate) h.computable.baud_rate in
    let same : other ≡ h.divisor = sym (mul-div_cancel_left other some)
    ∙ (ap (λ n. n / factor) (refused.0 ∙ sym h.is_divisor.0) ∙ mul-div_cancel_left h.divisor some) in
    absurd (omega (arith, same, refused.1, h.is_divisor.2))
  where
    positive : (p b : ℕ) → 0 < b → 0 < 16 * (p + 1) * b
    positive p b some = grind (arith, common_steps)

-- ---- `init`

no_stall-init : (s t : State) (config : Config) (divisor : ℕ) (fifo : Bool) (l : List Access) → IsSound (machine_of s) → IsTimely s →
    HasRoom 0 (machine_of s) →
    Next (Begins config divisor fifo) (Saving (WaitsFor LSR.TRANSMITTER_EMPTY.0 false)) (fields (inner_of s)) l (fields (inner_of t)) →
    Path MachineStep (machine_of s) l (machine_of t) → ⊥
no_stall-init s t config divisor fifo l w timely room does path =
    let f = fields (inner_of s) in
    let a = next_stages (Begins config divisor fifo) (Saving (WaitsFor LSR.TRANSMITTER_EMPTY.0 false)) f (fields (inner_of t)) l
    (machine_of s) (machine_of t) does path in
    let n = a.parts.between in
    let b = free-begins config divisor fifo f a.mid a.parts.front (machine_of s) n
    (record { sound = w; ticked = timely.ticked; room = room }) a.parts.first a.parts.before in
    let few : left n.chip.transmitter < a.mid.limit =
    rw (leaves_limit (built.begins config divisor fifo) f a.parts.front a.mid a.parts.first)
    (few_left s a.parts.front n w timely
    (left_ever (machine_of s) a.parts.front (begins_stay config divisor fifo f a.parts.front a.mid a.parts.first)) a.parts.before) in
    let set = begun config divisor fifo f a.mid a.parts.front (machine_of s) n w a.parts.first a.parts.before in
    let unheld : IsUnheld n = cleared_off n.chip (ap (λ (k : Kept). has_any k.latches.mcr MCR.AUTO_FLOW.0) set.kept) in
    no_stall-empty (settings_of a.mid) a.mid.limit a.parts.back n (machine_of t) (free_runs n unheld b) few a.parts.second.0 a.parts.after

pub init_succeeds : (s t : State) (config : Config) (a : Answer) → IsSound (machine_of s) → IsTimely s → HasRoom 0 (machine_of s) →
    HasDivisor config → CallStep s (call.Init config) a t → a ≢ InitRefused DeviceNotPresent → a ≡ Done
init_succeeds s t config a w timely room divisor h present = go h.outcome h.answered h.did.does
  where
    go : (result : Result (Unit {0}) InitError) → a ≡ init_answer result →
        Inits config result (fields (inner_of s)) h.did.list (fields (inner_of t)) → a ≡ Done
    go (Ok x) e does = e
    go (Err (InvalidBaudRate cause)) e does = absurd (no_refusal config cause divisor does.0)
    go (Err DeviceNotPresent) e does = absurd (present e)
    go (Err Stalled) e (other, fifo, is, does) = absurd (no_stall-init s t config other fifo h.did.list w timely room does h.did.path)
