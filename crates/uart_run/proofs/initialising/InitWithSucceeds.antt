-- Where ticks come before each access, the spin limit is long enough and the wire has room, neither an `init_with` nor a
-- `set_frame_when_idle` stalls.
use Rattle.uart_run.proofs.Names.{◌≡◌, ◌≢◌, ℕ, ◌<◌, Bool, true, false, inl, inr, List, [], ◌∷◌, ◌++◌, Result, Ok, Err, refl, ◌&&◌, sym, ◌∙◌}
use Rattle.uart_run.proofs.Names.{ap, subst, Config, FrameError, InitError, InvalidBaudRate, DeviceNotPresent, Setup, Path, Access, Write}
use Rattle.uart_run.proofs.Names.{Settings, Only, Then, Fields, fields, settings_of, Doing, Saving, Plain, Sets, Next, with_config}
use Rattle.uart_run.proofs.Names.{with_fifo, unlooped, frame_bits, line_writes, SetsFifo, DrainsReceiver, ChecksIf, WaitsIf, is_first}
use Rattle.uart_run.proofs.Names.{is_last, Looks, SetsUp, InitsWith, SetsFrameWhenIdle, inner_of, path_then, Answer, Done, InitRefused}
use Rattle.uart_run.proofs.Names.{MachineState, MachineStep, IsSound, init_answer, frame_when_idle_answer, State, machine_of, CallStep}
use Rattle.uart_run.proofs.Names.{HasDivisor, IsTimely, HasRoom, left, IsUnheld, StaysUnheld, flow-path, path_as, has_any, kept_mcr}
use Rattle.uart_run.proofs.Names.{cleared_off, has_and, flow_bit, sound_path}
use Rattle.uart_spec.specs.declared.errors.FrameError.TheVariants as frame_error
use Rattle.uart_spec.specs.declared.errors.InitError.TheVariants.{Stalled}
use Rattle.uart_spec.specs.declared.registers.offsets.TheConstants as offsets
use Rattle.uart_call.specs.declared.call.Call.TheVariants as call
use Rattle.uart_run.proofs.{Pieces.then_parts, Pieces.next_stages, progress.Nearing.Runs, progress.Nearing.RunsFree}
use Rattle.uart_run.proofs.{progress.Nearing.free_runs, built.Words.leaves_limit, progress.WaitEnds.no_stall-empty, SizeKept.left_ever}
use Rattle.uart_run.proofs.{progress.Succeeds.few_left, progress.Succeeds.runs, progress.Succeeds.settings_at, Latches.Kept}
use Rattle.uart_run.proofs.{initialising.SetUp.checks_if, initialising.SetUp.placed}
use Rattle.uart_run.proofs.built.Init as init_lists
use Rattle.uart_run.proofs.built.SettingUp as built
use Rattle.uart_run.proofs.NeverSwitched.{never_ever, unwritten, never, looks_stay, sets_up_stays}
use Rattle.uart_spec.specs.declared.registers.offsets.TheConstants as offsets
use Rattle.uart_run.proofs.initialising.InitSucceeds.{free-line, free-list, free-drained, free-sets, no_refusal}
use Rattle.uart_spec.specs.declared.registers.modem_control.TheConstants.MCR

free-set : (setup : Setup) (config : Config) (divisor : ℕ) (fifo : Bool) (f mid : Fields) (l : List Access) (m n : MachineState) →
    RunsFree m → SetsUp setup config divisor fifo f l mid → Path MachineStep m l n → RunsFree n
free-set setup config divisor fifo f mid l m n r t path =
    let line = line_writes divisor (frame_bits config) in
    let level = config.fifo_trigger_level in
    let outputs = unlooped setup.outputs.0 in
    let rest : Doing = Next (Sets (with_fifo fifo)) (Next (Plain DrainsReceiver) (Saving (Only (Write offsets.MCR outputs ∷ [])))) in
    let a = next_stages (Saving (Then (Only line) (SetsFifo level fifo))) rest f mid l m n t path in
    let v = settings_of f in
    let p = then_parts (Only line) (SetsFifo level fifo) v a.parts.front m a.parts.between a.parts.first.0 a.parts.before in
    let b = free-line divisor (frame_bits config) m p.between r (path_as m p.between p.front line p.first.is p.before) in
    let c = free-list (init_lists.sets_fifo level fifo) refl v p.back p.between a.parts.between b p.second p.after in
    free-sets (with_fifo fifo) (Next (Plain DrainsReceiver) (Saving (Only (Write offsets.MCR outputs ∷ [])))) a.mid mid a.parts.back
    a.parts.between n a.parts.second a.parts.after (λ h back w q. free-drained outputs h mid back a.parts.between n c w q)

-- the bit of automatic flow control is not kept
outputs_off : (f : Bool) (outputs : ℕ) → (f && has_any outputs MCR.AUTO_FLOW.0) ≡ false →
    has_any (kept_mcr f (unlooped outputs)) MCR.AUTO_FLOW.0 ≡ false
outputs_off f outputs e =
    flow_bit f (unlooped outputs) ∙ (ap (λ (b : Bool). b && f) (has_and 5 outputs 239 refl)
    ∙ swapped f (has_any outputs MCR.AUTO_FLOW.0) e)
  where
    swapped : (a b : Bool) → (a && b) ≡ false → (b && a) ≡ false
    swapped true true e = e
    swapped true false e = refl
    swapped false true e = refl
    swapped false false e = refl

-- ---- waits in vain

vain : (asked : Bool) (v : Settings) (l : List Access) (m n : MachineState) → Runs m → left m.chip.transmitter < v.limit →
    WaitsIf asked false v l → Path MachineStep m l n → ⊥
vain true v l m n r few t p = no_stall-empty v v.limit l m n r few t p
vain false v l m n r few t p = absurd t

-- the fields are set, and the rest follows from the same machine
after_sets : (change : Fields → Fields) (H : Doing) (f after : Fields) (l : List Access) (m n : MachineState) →
    Next (Sets change) H f l after → Path MachineStep m l n →
    ((mid : Fields) (back : List Access) → mid ≡ change f → H mid back after → Path MachineStep m back n → ⊥) → ⊥
after_sets change H f after l m n t path next =
    let whole : l ≡ t.back = t.whole ∙ ap (λ zs. zs ++ t.back) t.first.0 in
    next t.mid t.back t.first.1 t.second (path_as m n l t.back whole path)

no_stall-first : (setup : Setup) (config : Config) (s t : State) (l : List Access) → IsSound (machine_of s) → IsTimely s →
    IsUnheld (machine_of s) → HasRoom 0 (machine_of s) →
    Next (Sets (with_config config)) (Saving (Looks setup false)) (fields (inner_of s)) l (fields (inner_of t)) →
    Path MachineStep (machine_of s) l (machine_of t) → ⊥
no_stall-first setup config s t l w timely unheld room does path =
    after_sets (with_config config) (Saving (Looks setup false)) (fields (inner_of s)) (fields (inner_of t)) l (machine_of s) (machine_of t)
    does path looks
  where
    looks : (mid : Fields) (back : List Access) → mid ≡ with_config config (fields (inner_of s)) →
        Saving (Looks setup false) mid back (fields (inner_of t)) → Path MachineStep (machine_of s) back (machine_of t) → ⊥
    looks mid back same u q =
        let v = settings_of mid in
        let asked = setup.checks_presence in
        let p = then_parts (ChecksIf asked true) (WaitsIf (is_first setup.wait) false) v back (machine_of s) (machine_of t) u.0 q in
        let r = free-list (init_lists.checks_if asked true) refl v p.front (machine_of s) p.between
        (record { sound = w; ticked = timely.ticked; room = room }) p.first p.before in
        let unwritten_first = unwritten p.front (never offsets.FCR (init_lists.checks_if asked true) refl v p.front p.first) in
        let few : left p.between.chip.transmitter < mid.limit =
        subst (λ (n : ℕ). left p.between.chip.transmitter < n) (sym (ap (λ (g : Fields). g.limit) same))
        (few_left s p.front p.between w timely (left_ever (machine_of s) p.front unwritten_first) p.before) in
        let scratched = checks_if v asked p.front (machine_of s) p.between p.first p.before in
        let still : IsUnheld p.between =
        ap (λ (k : Kept). k.auto_flow && has_any k.latches.mcr MCR.AUTO_FLOW.0) scratched.kept ∙ unheld in
        vain (is_first setup.wait) v p.back p.between (machine_of t) (free_runs p.between still r) few p.second p.after

no_stall-last : (setup : Setup) (config : Config) (divisor : ℕ) (fifo : Bool) (s t : State) (l : List Access) → IsSound (machine_of s) →
    IsTimely s → StaysUnheld setup (machine_of s) → HasRoom 0 (machine_of s) →
    Next (Sets (with_config config)) (Next (Saving (Looks setup true))
    (Next (SetsUp setup config divisor fifo) (Saving (WaitsIf (is_last setup.wait) false)))) (fields (inner_of s)) l (fields (inner_of t)) →
    Path MachineStep (machine_of s) l (machine_of t) → ⊥
no_stall-last setup config divisor fifo s t l w timely unheld room does path =
    after_sets (with_config config) (Next (Saving (Looks setup true)) rest) (fields (inner_of s)) (fields (inner_of t)) l (machine_of s)
    (machine_of t) does path sets
  where
    rest : Doing
    rest = Next (SetsUp setup config divisor fifo) (Saving (WaitsIf (is_last setup.wait) false))

    sets : (mid : Fields) (back : List Access) → mid ≡ with_config config (fields (inner_of s)) →
        Next (Saving (Looks setup true)) rest mid back (fields (inner_of t)) → Path MachineStep (machine_of s) back (machine_of t) → ⊥
    sets mid back same u q =
        let m = machine_of s in
        let n = machine_of t in
        let b = next_stages (Saving (Looks setup true)) rest mid (fields (inner_of t)) back m n u q in
        let c = next_stages (SetsUp setup config divisor fifo) (Saving (WaitsIf (is_last setup.wait) false)) b.mid (fields (inner_of t))
        b.parts.back b.parts.between n b.parts.second b.parts.after in
        let first = free-list (init_lists.looks_first setup true) refl (settings_of mid) b.parts.front m b.parts.between
        (record { sound = w; ticked = timely.ticked; room = room }) b.parts.first.0 b.parts.before in
        let set = free-set setup config divisor fifo b.mid c.mid c.parts.front b.parts.between c.parts.between first c.parts.first
        c.parts.before in
        let at : Fields → ℕ = λ g. g.limit in
        let limit : c.mid.limit ≡ (fields (inner_of s)).limit =
        leaves_limit (built.sets_up setup config divisor fifo) b.mid c.parts.front c.mid c.parts.first
        ∙ (ap at b.parts.first.1 ∙ ap at same) in
        let few : left c.parts.between.chip.transmitter < c.mid.limit =
        subst (λ (n : ℕ). left c.parts.between.chip.transmitter < n) (sym limit)
        (few_left s (b.parts.front ++ c.parts.front) c.parts.between w timely
        (left_ever m (b.parts.front ++ c.parts.front) (never_ever.append b.parts.front c.parts.front
        (looks_stay setup true mid b.parts.front b.mid b.parts.first)
        (sets_up_stays setup config divisor fifo b.mid c.parts.front c.mid c.parts.first)))
        (path_then MachineStep m b.parts.between c.parts.between b.parts.front c.parts.front b.parts.before c.parts.before)) in
        let begun = sound_path b.parts.front m b.parts.between w b.parts.before in
        let put = placed setup config divisor fifo b.mid c.mid c.parts.front b.parts.between c.parts.between begun c.parts.first
        c.parts.before in
        let same = flow-path b.parts.front m b.parts.between b.parts.before in
        let written = outputs_off b.parts.between.chip.auto_flow setup.outputs.0
        (ap (λ (f : Bool). f && has_any setup.outputs.0 MCR.AUTO_FLOW.0) same ∙ unheld.1) in
        let off : IsUnheld c.parts.between = cleared_off c.parts.between.chip
        (ap (λ (k : Kept). has_any k.latches.mcr MCR.AUTO_FLOW.0) put.kept ∙ written) in
        vain (is_last setup.wait) (settings_of c.mid) c.parts.back c.parts.between n (free_runs c.parts.between off set) few
        c.parts.second.0 c.parts.after

-- ---- `init_with`

pub init_with_succeeds : (s t : State) (config : Config) (setup : Setup) (a : Answer) → IsSound (machine_of s) → IsTimely s →
    StaysUnheld setup (machine_of s) → HasRoom 0 (machine_of s) → HasDivisor config → CallStep s (call.InitWith config setup) a t →
    a ≢ InitRefused DeviceNotPresent → a ≡ Done
init_with_succeeds s t config setup a w timely unheld room divisor h present = go h.outcome h.answered h.did.does
  where
    go : (result : Result (Unit {0}) InitError) → a ≡ init_answer result →
        InitsWith setup config result (fields (inner_of s)) h.did.list (fields (inner_of t)) → a ≡ Done
    go (Ok x) e does = e
    go (Err (InvalidBaudRate cause)) e does = absurd (no_refusal config cause divisor does.0)
    go (Err DeviceNotPresent) e does = absurd (present e)
    go (Err Stalled) e (other, of, inl does) = absurd (no_stall-first setup config s t h.did.list w timely unheld.0 room does h.did.path)
    go (Err Stalled) e (other, of, inr (fifo, does)) =
        absurd (no_stall-last setup config other fifo s t h.did.list w timely unheld room does h.did.path)

-- ---- `set_frame_when_idle`

pub frame_when_idle_succeeds : (s t : State) (config : Config) (a : Answer) (l : List Access) (result : Result (Unit {0}) FrameError) →
    IsSound (machine_of s) → IsTimely s → IsUnheld (machine_of s) → HasRoom 0 (machine_of s) → HasDivisor config →
    a ≡ frame_when_idle_answer result →
    SetsFrameWhenIdle config result (fields (inner_of s)) l (fields (inner_of t)) → Path MachineStep (machine_of s) l (machine_of t) →
    a ≡ Done
frame_when_idle_succeeds s t config a l (Ok x) w timely unheld room divisor e does path = e
frame_when_idle_succeeds s t config a l (Err (frame_error.InvalidBaudRate cause)) w timely unheld room divisor e does path =
    absurd (no_refusal config cause divisor does.0)
frame_when_idle_succeeds s t config a l (Err frame_error.Stalled) w timely unheld room divisor e (other, of, (waits, saved)) path =
    absurd (no_stall-empty (settings_at s) (settings_at s).limit l (machine_of s) (machine_of t) (runs s w timely unheld room)
    (few_left s [] (machine_of s) w timely (inr tt) refl) waits path)
