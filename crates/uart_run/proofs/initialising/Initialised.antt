-- What an `init` comes to, whatever it answers.
use Rattle.uart_run.proofs.Names.{◌≡◌, ℕ, Bool, true, false, ◌&&◌, List, [], ◌∷◌, Result, Ok, Err, refl, sym, ◌∙◌, ap, subst, bit_and}
use Rattle.uart_run.proofs.Names.{if◌then◌else◌, div-add-mod, has_any, Config, InitError, InvalidBaudRate, DeviceNotPresent, Path, Access}
use Rattle.uart_run.proofs.Names.{Write, FewMisses, Asks, Fields, fields, settings_of, Saving, Sets, Next, with_config, WaitsFor}
use Rattle.uart_run.proofs.Names.{raised_outputs, ChecksPresence, Begins, Ends, DivisorOf, Inits, inner_of, Answer, ier_bits, is_dlab_set}
use Rattle.uart_run.proofs.Names.{is_loopback, divisor, MachineState, MachineStep, init_answer, State, machine_of, CallStep, Ready}
use Rattle.uart_run.proofs.Names.{BurstsFit, has_fifo, is_level, IsInitialised, Initialises, IsSound, IsWired}
use Rattle.uart_spec.specs.declared.errors.InitError.TheVariants.{Stalled}
use Rattle.uart_spec.specs.declared.registers.line_control.TheConstants.LCR
use Rattle.uart_spec.specs.declared.registers.offsets.TheConstants as offsets
use Rattle.uart_spec.specs.declared.registers.line_status.TheConstants.LSR
use Rattle.uart_call.specs.declared.call.Call.TheVariants as call
use Rattle.uart_run.proofs.{Latches.Kept, Latches.kept_in, Latches.kept_after, Latches.kept_list, SizeKept.fits_kept, Wired.wired_path}
use Rattle.uart_run.proofs.{Pieces.then_parts, Pieces.next_stages, initialising.Presence.never_absent, KeptLists.kept_still}
use Rattle.uart_run.proofs.{built.Receive.waits_for, EmptyTransmitter.IsEmpty, EmptyTransmitter.empty_shown}
use Rattle.uart_run.proofs.{initialising.Stored.init_stores}
use Rattle.uart_run.proofs.initialising.Inits.{frame-dlab, frame-unbroken, set_up, Begun, begun, ended}

-- ready by what the registers keep
pub ready_by : (t : State) (k : Kept) → kept_in (machine_of t).chip ≡ k → is_dlab_set k.latches ≡ false → is_loopback k.latches ≡ false →
    (fields (inner_of t)).fifo ≡ k.fifo → BurstsFit t → Ready t
ready_by t k e dlab loopback knows fits = record {
  dlab = ap (λ (v : Kept). is_dlab_set v.latches) e ∙ dlab;
  loopback = ap (λ (v : Kept). is_loopback v.latches) e ∙ loopback;
  fifo = ap (λ (v : Kept). v.fifo) e ∙ sym knows;
  fits = fits;
}

-- ---- done

-- the registers after the interrupts are enabled
abbrev last : Config → ℕ → ℕ → Bool → Kept → Kept
last config d scr on k =
    record k { latches = record (set_up config d raised_outputs scr) { ier = bit_and config.interrupts.0 ier_bits }; fifo = on }

enabled : (config : Config) (d scr : ℕ) (on : Bool) (k : Kept) →
    kept_after (Write offsets.IER config.interrupts.0 ∷ []) (record k { latches = set_up config d raised_outputs scr; fifo = on }) ≡
    last config d scr on k
enabled config d scr on k =
    ap (λ (b : Bool). if b then record k { latches = record (set_up config d raised_outputs scr) { dlm = config.interrupts.0 }; fifo = on }
    else last config d scr on k) (frame-dlab config)

-- all that an `init` leaves, by what the registers keep
initialised : (config : Config) (d scr : ℕ) (on : Bool) (k : Kept) (t : State) → DivisorOf config (Ok d) →
    kept_in (machine_of t).chip ≡ last config d scr on k → on ≡ (is_level config.fifo_trigger_level && has_fifo k.model) →
    (fields (inner_of t)).fifo ≡ on → IsWired t → IsEmpty (machine_of t).chip.transmitter → IsInitialised config t
initialised config d scr on k t of kept is_on knows wired empty = record {
  ready = ready_by t (last config d scr on k) kept (frame-dlab config) refl knows;
  unbroken = ap (λ (v : Kept). has_any v.latches.lcr LCR.SET_BREAK.0) kept ∙ frame-unbroken config;
  wired = wired;
  divisor_latch = subst (λ n. DivisorOf config (Ok n)) (sym (ap (λ (v : Kept). divisor v.latches) kept ∙ div-add-mod d 256)) of;
  lcr = ap (λ (v : Kept). v.latches.lcr) kept;
  mcr = ap (λ (v : Kept). v.latches.mcr) kept;
  ier = ap (λ (v : Kept). v.latches.ier) kept;
  is_empty = empty;
  fifo = ap (λ (v : Kept). v.fifo) kept ∙ (is_on ∙ sym (ap (λ (v : Kept). is_level config.fifo_trigger_level && has_fifo v.model) kept));
  knows = ap (λ (v : Kept). v.fifo) kept ∙ sym knows;
}

-- a wait keeps the registers that were set up
still_begun : (config : Config) (d : ℕ) (on : Bool) (m n o : MachineState) (g : Fields) (l : List Access) (empty : Bool) →
    Begun config d on m n g → WaitsFor LSR.TRANSMITTER_EMPTY.0 empty (settings_of g) l → Path MachineStep n l o →
    kept_in o.chip ≡ kept_in n.chip
still_begun config d on m n o g l empty b t p =
    kept_still (waits_for LSR.TRANSMITTER_EMPTY.0 empty) refl (settings_of g) l n o
    (ap (λ (v : Kept). is_dlab_set v.latches) b.kept ∙ frame-dlab config) t p

pub done : (config : Config) (d : ℕ) (on : Bool) (f : Fields) (l : List Access) (m : MachineState) (t : State) → IsSound m →
    DivisorOf config (Ok d) →
    Next (Begins config d on) (Next (Saving (WaitsFor LSR.TRANSMITTER_EMPTY.0 true)) (Ends config)) f l (fields (inner_of t)) →
    Path MachineStep m l (machine_of t) → IsInitialised config t
done config d on f l m t w of does p =
    let n = machine_of t in
    let after = fields (inner_of t) in
    let a = next_stages (Begins config d on) (Next (Saving (WaitsFor LSR.TRANSMITTER_EMPTY.0 true)) (Ends config)) f after l m n does p in
    let b = next_stages (Saving (WaitsFor LSR.TRANSMITTER_EMPTY.0 true)) (Ends config) a.mid after a.parts.back a.parts.between
    n a.parts.second a.parts.after in
    joined a.parts.between b.parts.between a.mid b.mid b.parts.front b.parts.back
    (begun config d on f a.mid a.parts.front m a.parts.between w a.parts.first a.parts.before)
    b.parts.first.0 b.parts.before b.parts.second b.parts.after (ap (λ (g : Fields). g.fifo) b.parts.first.1)
  where
    joined : (m₁ m₂ : MachineState) (g h : Fields) (xs ys : List Access) → Begun config d on m m₁ g →
        WaitsFor LSR.TRANSMITTER_EMPTY.0 true (settings_of g) xs → Path MachineStep m₁ xs m₂ → Ends config h ys (fields (inner_of t)) →
        Path MachineStep m₂ ys (machine_of t) → h.fifo ≡ g.fifo → IsInitialised config t
    joined m₁ m₂ g h xs ys begins waits p ends q knows =
        let a = then_parts (FewMisses (Asks offsets.LSR LSR.TRANSMITTER_EMPTY.0 false)) (Asks offsets.LSR LSR.TRANSMITTER_EMPTY.0 true)
        (settings_of g) xs m₁ m₂ waits p in
        let e = ended config h (fields (inner_of t)) ys m₂ (machine_of t) ends q in
        let set = still_begun config d on m m₁ m₂ g xs true begins waits p ∙ begins.kept in
        initialised config d begins.scr on (kept_in m.chip) t of
        (e.left.kept ∙ (ap (kept_after (Write offsets.IER config.interrupts.0 ∷ [])) set ∙ enabled config d begins.scr on (kept_in m.chip)))
        begins.is_on (e.left.knows ∙ (knows ∙ begins.knows))
        (wired_path ys m₂ (machine_of t) (wired_path xs m₁ m₂ begins.wired p) q)
        (e.empty (empty_shown (settings_of g) a.back a.between m₂ a.second a.after))

-- ---- refused

-- the device is always found
found : (config : Config) (f after : Fields) (l : List Access) (m n : MachineState) →
    Next (Sets (with_config config)) (Saving (ChecksPresence false)) f l after → Path MachineStep m l n → ⊥
found config f after l m n does p =
    let a = next_stages (Sets (with_config config)) (Saving (ChecksPresence false)) f after l m n does p in
    never_absent (settings_of a.mid) a.parts.back a.parts.between n a.parts.second.0 a.parts.after

-- a wait in vain for an empty transmitter, from any state
stalled : (config : Config) (d : ℕ) (on : Bool) (f : Fields) (l : List Access) (m : MachineState) (t : State) → IsSound m →
    Next (Begins config d on) (Saving (WaitsFor LSR.TRANSMITTER_EMPTY.0 false)) f l (fields (inner_of t)) →
    Path MachineStep m l (machine_of t) → BurstsFit t → Ready t
stalled config d on f l m t w does p fits =
    let n = machine_of t in
    let a = next_stages (Begins config d on) (Saving (WaitsFor LSR.TRANSMITTER_EMPTY.0 false)) f (fields (inner_of t)) l m n does p in
    let b = begun config d on f a.mid a.parts.front m a.parts.between w a.parts.first a.parts.before in
    let set = still_begun config d on m a.parts.between n a.mid a.parts.back false b a.parts.second.0 a.parts.after ∙ b.kept in
    ready_by t _ set (frame-dlab config) refl (ap (λ (g : Fields). g.fifo) a.parts.second.1 ∙ b.knows) fits

-- nothing was done
pub untouched : (s t : State) (l : List Access) → l ≡ [] → fields (inner_of t) ≡ fields (inner_of s) →
    Path MachineStep (machine_of s) l (machine_of t) → BurstsFit t → Ready s → Ready t
untouched s t l none same p fits ready =
    ready_by t (kept_in (machine_of s).chip) (kept_list l [] (machine_of s) (machine_of t) none p) ready.dlab ready.loopback
    (ap (λ (g : Fields). g.fifo) same ∙ sym ready.fifo) fits

-- ---- whatever it answers

pub initialises : (s t : State) (config : Config) (a : Answer) → IsSound (machine_of s) → CallStep s (call.Init config) a t →
    Initialises config a t
initialises s t config a w h = go h.outcome h.answered h.did.does
  where
    go : (result : Result (Unit {0}) InitError) → a ≡ init_answer result →
        Inits config result (fields (inner_of s)) h.did.list (fields (inner_of t)) → Initialises config a t
    go (Ok x) e (d, on, of, does) =
        record {
          is_present = λ r. absurd (cc);
          leaves = λ r. done config d on (fields (inner_of s)) h.did.list
              (machine_of s) t w of does h.did.path;
          stores = λ r. init_stores config (fields (inner_of s)) (fields (inner_of t)) h.did.list (d, on, of, does);
        }
    go (Err (InvalidBaudRate cause)) e does = record { is_present = λ r. absurd (cc); leaves = λ r. absurd (cc); stores = λ r. absurd (cc) }
    go (Err DeviceNotPresent) e (d, of, does) =
        absurd (found config (fields (inner_of s)) (fields (inner_of t)) h.did.list (machine_of s) (machine_of t) does h.did.path)
    go (Err Stalled) e does = record { is_present = λ r. absurd (cc); leaves = λ r. absurd (cc); stores = λ r. absurd (cc) }

pub init_ready : (s t : State) (config : Config) (a : Answer) → IsSound (machine_of s) → CallStep s (call.Init config) a t → Ready s →
    Ready t
init_ready s t config a w h ready = go h.outcome h.did.does
  where
    fits : BurstsFit t
    fits = fits_kept s t (call.Init config) a h tt ready.fits

    go : (result : Result (Unit {0}) InitError) → Inits config result (fields (inner_of s)) h.did.list (fields (inner_of t)) → Ready t
    go (Ok x) (d, on, of, does) = (done config d on (fields (inner_of s)) h.did.list (machine_of s) t w of does h.did.path).ready fits
    go (Err (InvalidBaudRate cause)) (of, none, same) = untouched s t h.did.list none same h.did.path fits ready
    go (Err DeviceNotPresent) (d, of, does) =
        absurd (found config (fields (inner_of s)) (fields (inner_of t)) h.did.list (machine_of s) (machine_of t) does h.did.path)
    go (Err Stalled) (d, on, of, does) = stalled config d on (fields (inner_of s)) h.did.list (machine_of s) t w does h.did.path fits
