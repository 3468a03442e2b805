-- What an `init_with` comes to, whatever it answers.
use Rattle.uart_run.proofs.Names.{◌≡◌, ◌≢◌, ◌⊎◌, inl, inr, ℕ, Bool, true, false, ◌&&◌, List, [], ◌∷◌, Result, Ok, Err, refl, sym, ◌∙◌, ap}
use Rattle.uart_run.proofs.Names.{subst, bit_and, if◌then◌else◌, div-add-mod, has_any, Path, Access, Write, Config, InitError}
use Rattle.uart_run.proofs.Names.{InvalidBaudRate, DeviceNotPresent, Setup, Settings, Only, Then, Asks, Fields, fields, settings_of, Saving}
use Rattle.uart_run.proofs.Names.{Plain, Sets, Next, with_config, with_fifo, unlooped, frame_bits, line_writes, SetsFifo, DrainsReceiver}
use Rattle.uart_run.proofs.Names.{Ends, DivisorOf, ChecksIf, WaitsIf, is_first, is_last, Looks, SetsUp, InitsWith, WaitsFor, inner_of}
use Rattle.uart_run.proofs.Names.{Answer, init_answer, ier_bits, kept_mcr, is_dlab_set, divisor, MachineState, MachineStep, IsSound}
use Rattle.uart_run.proofs.Names.{sound_path, path_as, State, machine_of, CallStep, Ready, BurstsFit, has_fifo, is_level, IsSetUp, Arranges}
use Rattle.uart_run.proofs.Names.{IsWiredChip, IsWired}
use Rattle.uart_spec.specs.declared.errors.InitError.TheVariants.{Stalled}
use Rattle.uart_spec.specs.declared.registers.line_control.TheConstants.LCR
use Rattle.uart_spec.specs.declared.registers.line_status.TheConstants.LSR
use Rattle.uart_spec.specs.declared.registers.offsets.TheConstants as offsets
use Rattle.uart_spec.specs.declared.setup.TransmitterWait.{TransmitterWait}
use Rattle.uart_spec.specs.declared.setup.TransmitterWait.TheVariants.{First, Last, Never as NoWait}
use Rattle.uart_call.specs.declared.call.Call.TheVariants as call
use Rattle.uart_run.proofs.{Wired.wired_path, Wired.wired_control, SizeKept.fits_kept, Pieces.then_parts, Pieces.next_stages}
use Rattle.uart_run.proofs.{SilentLists.silent, EmptyTransmitter.IsEmpty, EmptyTransmitter.wait_empties, EmptyTransmitter.empty_path}
use Rattle.uart_run.proofs.{EmptyTransmitter.empty_lined, initialising.Stored.init_with_stores, initialising.Presence.never_absent}
use Rattle.uart_run.proofs.{initialising.FifoSteps.sets_fifo, initialising.Initialised.ready_by, initialising.Initialised.untouched}
use Rattle.uart_run.proofs.{FrameLaws.unlooped_off}
use Rattle.uart_run.proofs.Latches.{Kept, kept_in, kept_after, kept_after-append, kept_list, kept_path}
use Rattle.uart_run.proofs.ListsInTurn.{HoldsInTurn, HoldsOfAll, all_only, all_then, all_few, all_misses}
use Rattle.uart_run.proofs.built.Init as built
use Rattle.uart_run.proofs.initialising.Inits.{frame-dlab, frame-unbroken, set_up, checked, drained, ended}

-- ---- the looks

-- these accesses change nothing that the registers keep, not even under DLAB
abbrev OnlyReads : List Access → Type 0
OnlyReads l = (k : Kept) → kept_after l k ≡ k

reading : HoldsInTurn OnlyReads
reading = record { none = λ k. refl; append = λ xs ys p q k. kept_after-append xs ys k ∙ (ap (kept_after ys) (p k) ∙ q k) }

reads_asks : (s : Settings) (bits : ℕ) (outcome : Bool) → HoldsOfAll OnlyReads s (Asks offsets.LSR bits outcome)
reads_asks s bits outcome l t = rw t.is (λ k. refl)

pub reads_waits : (s : Settings) (bits : ℕ) (outcome : Bool) → HoldsOfAll OnlyReads s (WaitsFor bits outcome)
reads_waits s bits true = all_then reading s _ _ (all_few reading s _ (reads_asks s bits false)) (reads_asks s bits true)
reads_waits s bits false = all_misses reading s _ (reads_asks s bits false)

waits_if : (s : Settings) (asked empty : Bool) → HoldsOfAll OnlyReads s (WaitsIf asked empty)
waits_if s true empty = reads_waits s LSR.TRANSMITTER_EMPTY.0 empty
waits_if s false true = all_only reading s [] (λ k. refl)
waits_if s false false = λ l t. absurd t

-- the scratch register alone may have changed
pub record Scratched (m n : MachineState) : Type 0 where
  pub scr : ℕ
  pub kept : kept_in n.chip ≡ record (kept_in m.chip) { latches = record m.chip.latches { scr = scr } }

pub checks_if : (s : Settings) (asked : Bool) (l : List Access) (m n : MachineState) → ChecksIf asked true s l → Path MachineStep m l n →
    Scratched m n
checks_if s true l m n t p =
    let c = checked s l t in record { scr = c.scr; kept = kept_path l m n p ∙ c.kept (kept_in m.chip) }
checks_if s false l m n t p = record { scr = m.chip.latches.scr; kept = kept_list l [] m n t.is p }

looked : (setup : Setup) (empty : Bool) (s : Settings) (l : List Access) (m n : MachineState) → Looks setup empty s l →
    Path MachineStep m l n → Scratched m n
looked setup empty s l m n t p =
    let a = then_parts (ChecksIf setup.checks_presence true) (WaitsIf (is_first setup.wait) empty) s l m n t p in
    let c = checks_if s setup.checks_presence a.front m a.between a.first a.before in
    record {
      scr = c.scr;
      kept = kept_path a.back a.between n a.after
          ∙ (waits_if s (is_first setup.wait) empty a.back a.second (kept_in a.between.chip) ∙ c.kept);
    }

-- a wait that came first found the transmitter empty
looked_empty : (setup : Setup) (s : Settings) (l : List Access) (m n : MachineState) → is_first setup.wait ≡ true →
    Looks setup true s l → Path MachineStep m l n → IsEmpty n.chip.transmitter
looked_empty setup s l m n first t p =
    let a = then_parts (ChecksIf setup.checks_presence true) (WaitsIf (is_first setup.wait) true) s l m n t p in
    wait_empties s a.back a.between n (subst (λ (b : Bool). WaitsIf b true s a.back) first a.second) a.after

-- no device is absent
never_missing : (s : Settings) (asked : Bool) (l : List Access) (m n : MachineState) → ChecksIf asked false s l →
    Path MachineStep m l n → ⊥
never_missing s true l m n t p = never_absent s l m n t p
never_missing s false l m n t p = absurd t

-- ---- up to MCR

-- the outputs as MCR keeps them
abbrev pub kept_outputs : Bool → Setup → ℕ
kept_outputs auto_flow setup = kept_mcr auto_flow (unlooped setup.outputs.0)

-- the chip is set up, outside of loopback, and the driver takes the FIFO to be as it is; an empty transmitter stays
-- empty
pub record Placed (setup : Setup) (config : Config) (d : ℕ) (on : Bool) (m n : MachineState) (after : Fields) : Type 0 where
  pub kept : kept_in n.chip ≡ record {
    latches = set_up config d (kept_outputs m.chip.auto_flow setup) m.chip.latches.scr;
    fifo = on;
    model = m.chip.model;
    cuts = m.chip.cuts;
    auto_flow = m.chip.auto_flow;
  }
  pub is_on : on ≡ (is_level config.fifo_trigger_level && has_fifo m.chip.model)
  pub knows : after.fifo ≡ on
  pub wired : IsWiredChip n.chip
  pub empty : IsEmpty m.chip.transmitter → IsEmpty n.chip.transmitter

pub placed : (setup : Setup) (config : Config) (d : ℕ) (on : Bool) (f after : Fields) (l : List Access) (m n : MachineState) → IsSound m →
    SetsUp setup config d on f l after → Path MachineStep m l n → Placed setup config d on m n after
placed setup config d on f after l m n w t p =
    let line : List Access = line_writes d (frame_bits config) in
    let outputs = unlooped setup.outputs.0 in
    let level = config.fifo_trigger_level in
    let a = next_stages (Saving (Then (Only line) (SetsFifo level on)))
    (Next (Sets (with_fifo on)) (Next (Plain DrainsReceiver) (Saving (Only (Write offsets.MCR outputs ∷ []))))) f after l m n t p in
    let b = next_stages (Sets (with_fifo on)) (Next (Plain DrainsReceiver) (Saving (Only (Write offsets.MCR outputs ∷ [])))) a.mid after
    a.parts.back a.parts.between n a.parts.second a.parts.after in
    let c = then_parts (Only line) (SetsFifo level on) (settings_of f) a.parts.front m a.parts.between a.parts.first.0 a.parts.before in
    let e = next_stages (Plain DrainsReceiver) (Saving (Only (Write offsets.MCR outputs ∷ []))) b.mid after b.parts.back b.parts.between
    n b.parts.second b.parts.after in
    let lined = path_as m c.between c.front line c.first.is c.before in
    let first = kept_path line m c.between lined in
    let set = sets_fifo level on (settings_of f) c.back c.between a.parts.between (sound_path line m c.between w lined) c.second c.after in
    let sets = path_as a.parts.between b.parts.between b.parts.front [] b.parts.first.0 b.parts.before in
    let written = path_as e.parts.between n e.parts.back (Write offsets.MCR outputs ∷ []) e.parts.second.0.is e.parts.after in
    let begun : kept_in b.parts.between.chip ≡ record {
      latches = set_up config d m.chip.latches.mcr m.chip.latches.scr;
      fifo = on;
      model = m.chip.model;
      cuts = m.chip.cuts;
      auto_flow = m.chip.auto_flow;
    } = ap (λ (o : MachineState). kept_in o.chip) sets ∙ (set.kept ∙ ap (λ (k : Kept). record k { fifo = on }) first) in
    let last = drained outputs b.mid after b.parts.back b.parts.between n
    (ap (λ (k : Kept). is_dlab_set k.latches) begun ∙ frame-dlab config) b.parts.second b.parts.after in
    record {
      kept = last.kept ∙ ap (kept_after (Write offsets.MCR outputs ∷ [])) begun;
      is_on = set.is_on ∙ ap (λ (k : Kept). is_level level && has_fifo k.model) first;
      knows = last.knows ∙ ap (λ (g : Fields). g.fifo) b.parts.first.1;
      wired = wired_control e.parts.between n outputs written;
      empty = λ empty.
          empty_path (Write offsets.MCR outputs ∷ []) e.parts.between n (refl, tt) written
          (empty_path e.parts.front b.parts.between e.parts.between
          (silent built.drains_receiver refl (settings_of b.mid) e.parts.front e.parts.first.0) e.parts.before
          (empty_path [] a.parts.between b.parts.between tt sets
          (empty_path c.back c.between a.parts.between (silent (built.sets_fifo level on) refl (settings_of f) c.back c.second) c.after
          (empty_lined d (frame_bits config) m c.between lined empty))));
    }

-- ---- done

-- the registers after the interrupts are enabled
abbrev last : Setup → Config → ℕ → ℕ → Bool → Kept → Kept
last setup config d scr on k =
    record k {
      latches = record (set_up config d (kept_outputs k.auto_flow setup) scr) { ier = bit_and config.interrupts.0 ier_bits };
      fifo = on;
    }

enabled : (setup : Setup) (config : Config) (d scr : ℕ) (on : Bool) (k : Kept) →
    kept_after (Write offsets.IER config.interrupts.0 ∷ [])
    (record k { latches = set_up config d (kept_outputs k.auto_flow setup) scr; fifo = on }) ≡
    last setup config d scr on k
enabled setup config d scr on k =
    let begun : Kept = record k { latches = set_up config d (kept_outputs k.auto_flow setup) scr; fifo = on } in
    ap (λ (b : Bool). if b then record begun { latches = record begun.latches { dlm = config.interrupts.0 } }
    else last setup config d scr on k) (frame-dlab config)

-- all that an `init_with` leaves, by what the registers keep
arranged : (setup : Setup) (config : Config) (d scr : ℕ) (on : Bool) (k : Kept) (t : State) → DivisorOf config (Ok d) →
    kept_in (machine_of t).chip ≡ last setup config d scr on k → on ≡ (is_level config.fifo_trigger_level && has_fifo k.model) →
    (fields (inner_of t)).fifo ≡ on → IsWired t → (setup.wait ≢ NoWait → IsEmpty (machine_of t).chip.transmitter) →
    IsSetUp setup config t
arranged setup config d scr on k t of kept is_on knows wired empty = record {
  ready = ready_by t (last setup config d scr on k) kept (frame-dlab config) (unlooped_off k.auto_flow setup.outputs.0) knows;
  unbroken = ap (λ (v : Kept). has_any v.latches.lcr LCR.SET_BREAK.0) kept ∙ frame-unbroken config;
  wired = wired;
  divisor_latch = subst (λ n. DivisorOf config (Ok n)) (sym (ap (λ (v : Kept). divisor v.latches) kept ∙ div-add-mod d 256)) of;
  lcr = ap (λ (v : Kept). v.latches.lcr) kept;
  mcr = ap (λ (v : Kept). v.latches.mcr) kept
      ∙ ap (λ (f : Bool). kept_outputs f setup) (sym (ap (λ (v : Kept). v.auto_flow) kept));
  ier = ap (λ (v : Kept). v.latches.ier) kept;
  is_empty = empty;
  fifo = ap (λ (v : Kept). v.fifo) kept ∙ (is_on ∙ sym (ap (λ (v : Kept). is_level config.fifo_trigger_level && has_fifo v.model) kept));
  knows = ap (λ (v : Kept). v.fifo) kept ∙ sym knows;
}

-- a wait comes first or last
some_wait : (wait : TransmitterWait) → wait ≢ NoWait → (is_first wait ≡ true) ⊎ (is_last wait ≡ true)
some_wait First some = inl refl
some_wait Last some = inr refl
some_wait NoWait some = absurd (some refl)

pub done : (setup : Setup) (config : Config) (d : ℕ) (on : Bool) (f : Fields) (l : List Access) (m : MachineState) (t : State) → IsSound m →
    DivisorOf config (Ok d) →
    Next (Sets (with_config config)) (Next (Saving (Looks setup true))
    (Next (SetsUp setup config d on) (Next (Saving (WaitsIf (is_last setup.wait) true)) (Ends config)))) f l (fields (inner_of t)) →
    Path MachineStep m l (machine_of t) → IsSetUp setup config t
done setup config d on f l m t w of does p =
    let n = machine_of t in
    let after = fields (inner_of t) in
    let a = next_stages (Sets (with_config config)) (Next (Saving (Looks setup true))
    (Next (SetsUp setup config d on) (Next (Saving (WaitsIf (is_last setup.wait) true)) (Ends config)))) f after l m n does p in
    let b = next_stages (Saving (Looks setup true)) (Next (SetsUp setup config d on)
    (Next (Saving (WaitsIf (is_last setup.wait) true)) (Ends config))) a.mid after a.parts.back a.parts.between n a.parts.second
    a.parts.after in
    let c = next_stages (SetsUp setup config d on) (Next (Saving (WaitsIf (is_last setup.wait) true)) (Ends config)) b.mid after
    b.parts.back b.parts.between n b.parts.second b.parts.after in
    let e = next_stages (Saving (WaitsIf (is_last setup.wait) true)) (Ends config) c.mid after c.parts.back c.parts.between n
    c.parts.second c.parts.after in
    let begins = path_as m a.parts.between a.parts.front [] a.parts.first.0 a.parts.before in
    joined b.parts.between c.parts.between e.parts.between b.mid c.mid e.mid
    (sound_path b.parts.front a.parts.between b.parts.between (sound_path [] m a.parts.between w begins) b.parts.before)
    (λ first. looked_empty setup (settings_of a.mid) b.parts.front a.parts.between b.parts.between first b.parts.first.0 b.parts.before)
    c.parts.front c.parts.first c.parts.before e.parts.front e.parts.first.0 e.parts.before (ap (λ (g : Fields). g.fifo) e.parts.first.1)
    e.parts.back e.parts.second e.parts.after
  where
    joined : (m₂ m₃ m₄ : MachineState) (f₂ f₃ f₄ : Fields) → IsSound m₂ → (is_first setup.wait ≡ true → IsEmpty m₂.chip.transmitter) →
        (xs : List Access) → SetsUp setup config d on f₂ xs f₃ → Path MachineStep m₂ xs m₃ →
        (ys : List Access) → WaitsIf (is_last setup.wait) true (settings_of f₃) ys → Path MachineStep m₃ ys m₄ → f₄.fifo ≡ f₃.fifo →
        (zs : List Access) → Ends config f₄ zs (fields (inner_of t)) → Path MachineStep m₄ zs (machine_of t) → IsSetUp setup config t
    joined m₂ m₃ m₄ f₂ f₃ f₄ sound first xs sets p ys waits q knows zs ends r =
        let put = placed setup config d on f₂ f₃ xs m₂ m₃ sound sets p in
        let waited = kept_path ys m₃ m₄ q ∙ waits_if (settings_of f₃) (is_last setup.wait) true ys waits (kept_in m₃.chip) in
        let e = ended config f₄ (fields (inner_of t)) zs m₄ (machine_of t) ends r in
        let scr = m₂.chip.latches.scr in
        arranged setup config d scr on (kept_in m₂.chip) t of
        (e.left.kept ∙ (ap (kept_after (Write offsets.IER config.interrupts.0 ∷ [])) (waited ∙ put.kept)
        ∙ enabled setup config d scr on (kept_in m₂.chip)))
        put.is_on (e.left.knows ∙ (knows ∙ put.knows)) (wired_path zs m₄ (machine_of t) (wired_path ys m₃ m₄ put.wired q) r)
        (λ some. e.empty (awaited put.empty (some_wait setup.wait some)))
      where
        -- what is empty before the last wait, or after it, is empty after it
        still_empty : (asked : Bool) → WaitsIf asked true (settings_of f₃) ys → IsEmpty m₃.chip.transmitter → IsEmpty m₄.chip.transmitter
        still_empty true waits empty = wait_empties (settings_of f₃) ys m₃ m₄ waits q
        still_empty false waits empty = empty_path [] m₃ m₄ tt (path_as m₃ m₄ ys [] waits.is q) empty

        awaited : (IsEmpty m₂.chip.transmitter → IsEmpty m₃.chip.transmitter) → (is_first setup.wait ≡ true) ⊎ (is_last setup.wait ≡ true) →
            IsEmpty m₄.chip.transmitter
        awaited stays (inl is_first) = still_empty (is_last setup.wait) waits (stays (first is_first))
        awaited stays (inr last) =
            wait_empties (settings_of f₃) ys m₃ m₄ (subst (λ (b : Bool). WaitsIf b true (settings_of f₃) ys) last waits) q

-- ---- refused

-- the device is always found
found : (setup : Setup) (config : Config) (f after : Fields) (l : List Access) (m n : MachineState) →
    Next (Sets (with_config config)) (Saving (ChecksIf setup.checks_presence false)) f l after → Path MachineStep m l n → ⊥
found setup config f after l m n does p =
    let a = next_stages (Sets (with_config config)) (Saving (ChecksIf setup.checks_presence false)) f after l m n does p in
    never_missing (settings_of a.mid) setup.checks_presence a.parts.back a.parts.between n a.parts.second.0 a.parts.after

-- a wait in vain that comes first: nothing but the scratch register was written
stalled_first : (setup : Setup) (config : Config) (s t : State) (l : List Access) →
    Next (Sets (with_config config)) (Saving (Looks setup false)) (fields (inner_of s)) l (fields (inner_of t)) →
    Path MachineStep (machine_of s) l (machine_of t) → BurstsFit t → Ready s → Ready t
stalled_first setup config s t l does p fits ready =
    let a = next_stages (Sets (with_config config)) (Saving (Looks setup false)) (fields (inner_of s)) (fields (inner_of t)) l
    (machine_of s) (machine_of t) does p in
    let begins = path_as (machine_of s) a.parts.between a.parts.front [] a.parts.first.0 a.parts.before in
    let c = looked setup false (settings_of a.mid) a.parts.back a.parts.between (machine_of t) a.parts.second.0 a.parts.after in
    let scratched : Kept → Kept = λ k. record k { latches = record k.latches { scr = c.scr } } in
    ready_by t (scratched (kept_in (machine_of s).chip)) (c.kept ∙ ap (λ (o : MachineState). scratched (kept_in o.chip)) begins) ready.dlab
    ready.loopback (ap (λ (g : Fields). g.fifo) a.parts.second.1 ∙ (ap (λ (g : Fields). g.fifo) a.parts.first.1 ∙ sym ready.fifo)) fits

-- one that comes last: the chip is set up
stalled_last : (setup : Setup) (config : Config) (d : ℕ) (on : Bool) (f : Fields) (l : List Access) (m : MachineState) (t : State) →
    IsSound m →
    Next (Sets (with_config config)) (Next (Saving (Looks setup true))
    (Next (SetsUp setup config d on) (Saving (WaitsIf (is_last setup.wait) false)))) f l (fields (inner_of t)) →
    Path MachineStep m l (machine_of t) → BurstsFit t → Ready t
stalled_last setup config d on f l m t w does p fits =
    let n = machine_of t in
    let after = fields (inner_of t) in
    let a = next_stages (Sets (with_config config)) (Next (Saving (Looks setup true))
    (Next (SetsUp setup config d on) (Saving (WaitsIf (is_last setup.wait) false)))) f after l m n does p in
    let b = next_stages (Saving (Looks setup true)) (Next (SetsUp setup config d on) (Saving (WaitsIf (is_last setup.wait) false))) a.mid
    after a.parts.back a.parts.between n a.parts.second a.parts.after in
    let c = next_stages (SetsUp setup config d on) (Saving (WaitsIf (is_last setup.wait) false)) b.mid after b.parts.back b.parts.between n
    b.parts.second b.parts.after in
    let begins = path_as m a.parts.between a.parts.front [] a.parts.first.0 a.parts.before in
    let sound = sound_path b.parts.front a.parts.between b.parts.between (sound_path [] m a.parts.between w begins) b.parts.before in
    let put = placed setup config d on b.mid c.mid c.parts.front b.parts.between c.parts.between sound c.parts.first c.parts.before in
    let waited = kept_path c.parts.back c.parts.between n c.parts.after
    ∙ waits_if (settings_of c.mid) (is_last setup.wait) false c.parts.back c.parts.second.0 (kept_in c.parts.between.chip) in
    ready_by t _ (waited ∙ put.kept) (frame-dlab config) (unlooped_off b.parts.between.chip.auto_flow setup.outputs.0)
    (ap (λ (g : Fields). g.fifo) c.parts.second.1 ∙ put.knows) fits

-- ---- whatever it answers

pub arranges : (s t : State) (config : Config) (setup : Setup) (a : Answer) → IsSound (machine_of s) →
    CallStep s (call.InitWith config setup) a t → Arranges setup config a t
arranges s t config setup a w h = go h.outcome h.answered h.did.does
  where
    go : (result : Result (Unit {0}) InitError) → a ≡ init_answer result →
        InitsWith setup config result (fields (inner_of s)) h.did.list (fields (inner_of t)) → Arranges setup config a t
    go (Ok x) e (d, on, of, does) = record {
      is_present = λ r. absurd (cc);
      leaves = λ r. done setup config d on (fields (inner_of s)) h.did.list (machine_of s) t w of does h.did.path;
      stores = λ r. init_with_stores setup config (fields (inner_of s)) (fields (inner_of t)) h.did.list (d, on, of, does);
    }
    go (Err (InvalidBaudRate cause)) e does = record { is_present = λ r. absurd (cc); leaves = λ r. absurd (cc); stores = λ r. absurd (cc) }
    go (Err DeviceNotPresent) e (d, of, does) =
        absurd (found setup config (fields (inner_of s)) (fields (inner_of t)) h.did.list (machine_of s) (machine_of t) does h.did.path)
    go (Err Stalled) e does = record { is_present = λ r. absurd (cc); leaves = λ r. absurd (cc); stores = λ r. absurd (cc) }

pub init_with_ready : (s t : State) (config : Config) (setup : Setup) (a : Answer) → IsSound (machine_of s) →
    CallStep s (call.InitWith config setup) a t → Ready s → Ready t
init_with_ready s t config setup a w h ready = go h.outcome h.did.does
  where
    fits : BurstsFit t
    fits = fits_kept s t (call.InitWith config setup) a h tt ready.fits

    go : (result : Result (Unit {0}) InitError) →
        InitsWith setup config result (fields (inner_of s)) h.did.list (fields (inner_of t)) → Ready t
    go (Ok x) (d, on, of, does) =
        (done setup config d on (fields (inner_of s)) h.did.list (machine_of s) t w of does h.did.path).ready fits
    go (Err (InvalidBaudRate cause)) (of, none, same) = untouched s t h.did.list none same h.did.path fits ready
    go (Err DeviceNotPresent) (d, of, does) =
        absurd (found setup config (fields (inner_of s)) (fields (inner_of t)) h.did.list (machine_of s) (machine_of t) does h.did.path)
    go (Err Stalled) (d, of, inl does) = stalled_first setup config s t h.did.list does h.did.path fits ready
    go (Err Stalled) (d, of, inr (on, does)) =
        stalled_last setup config d on (fields (inner_of s)) h.did.list (machine_of s) t w does h.did.path fits
