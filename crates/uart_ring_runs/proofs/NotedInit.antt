-- The notes are in step after an `init` of a chip with a FIFO that is not in loopback.
use Rattle.uart_ring_runs.proofs.Names.{◌≡◌, ℕ, zero, suc, Bool, true, false, inl, inr, List, [], ◌∷◌, ◌++◌, refl, sym, ◌∙◌, ap, subst}
use Rattle.uart_ring_runs.proofs.Names.{Option, Some, Ok, Chip, Uart16550A, Path, has, has_any, Access, Read, Write, Config}
use Rattle.uart_ring_runs.proofs.Names.{FifoTriggerLevel, Did, Fields, backend_of, settings_of, Language, Settings, Times, Asks}
use Rattle.uart_ring_runs.proofs.Names.{raised_outputs, ChecksPresence, frame_bits, line_writes, fifo_bits, SetsFifo, Discards}
use Rattle.uart_ring_runs.proofs.Names.{DrainsReceiver, Begins, Ends, Inits, WaitsFor, Uart16550, ChipState, cut_of, is_dlab_set}
use Rattle.uart_ring_runs.proofs.Names.{is_loopback, set_fifo, control, front_of, reported_front, MachineState, MachineStep, at_access}
use Rattle.uart_ring_runs.proofs.Names.{ReceiverState, IsSound, Character, both_if, read_move, has_one, path_split, Modes, sound_path, Kept}
use Rattle.uart_ring_runs.proofs.Names.{kept_in, keep, keep_control, kept_after, kept_access, kept_step, kept_path, Notes, NotesErrors}
use Rattle.uart_ring_runs.proofs.Names.{notes_of, with_access, ErrorNotes, shown_of, IsInStep, AreUnlooked}
use Rattle.uart_spec.specs.declared.registers.fifo_control.TheConstants.FCR
use Rattle.uart_spec.specs.declared.registers.fifo_trigger_level.FifoTriggerLevel.TheVariants.{One, Four, Eight, Fourteen}
use Rattle.uart_spec.specs.declared.registers.line_status.TheConstants.LSR
use Rattle.uart_spec.specs.declared.registers.offsets.TheConstants as offsets
use Rattle.uart_run.proofs.initialising.Inits.{frame-dlab, checked}
use Rattle.uart_ring_runs.proofs.NotedAccesses.{Along, Tame, Looks, Reads, Enables, Steers, tame_noted, with_accesses, with_append}
use Rattle.uart_ring_runs.proofs.{NotedAccesses.notes_begin, NotedAccesses.front_until, NotedAccesses.other_read, NotedAccesses.write_sound}
use Rattle.uart_ring_runs.proofs.{NotedBlocks.hit_begins, NotedCalls.parted}

-- ---- what a list leads to

-- from notes and a machine of the first kind to those of the second
abbrev Leads : (P Q : Notes → MachineState → Type 0) → List Access → Type 0
Leads P Q l = (a : Notes) (m n : MachineState) → P a m → Path MachineStep m l n → Q (with_accesses l a) n

leads_none : (P : Notes → MachineState → Type 0) (l : List Access) → l ≡ [] → Leads P P l
leads_none P l is =
    let L : List Access → Type 0 = λ k. Leads P P k in
    subst L (sym is) (λ a m n w p. let M : MachineState → Type 0 = λ v. P a v in subst M (sym p) w)

leads_as : (P Q : Notes → MachineState → Type 0) (l k : List Access) → l ≡ k → Leads P Q k → Leads P Q l
leads_as P Q l k is h = let L : List Access → Type 0 = λ v. Leads P Q v in subst L (sym is) h

leads_then : (P Q R : Notes → MachineState → Type 0) (l front back : List Access) → l ≡ front ++ back → Leads P Q front →
    Leads Q R back → Leads P R l
leads_then P Q R l front back whole p q =
    leads_as P R l (front ++ back) whole (λ a m n start path.
    let s = path_split MachineStep m n front back path in
    let last = q (with_accesses front a) s.0 n (p a m s.0 start s.1) s.2 in
    let N : Notes → Type 0 = λ v. R v n in subst N (sym (with_append front back a)) last)

-- ---- the kinds

-- a sound chip with a FIFO, outside of loopback
record HasFifo (a : Notes) (m : MachineState) : Type 0 where
  pub sound : IsSound m
  pub loopback : is_loopback m.chip.latches ≡ false
  pub model : m.chip.model ≡ Uart16550A

-- the divisor latch is hidden, as the notes know
record IsClosed (a : Notes) (m : MachineState) : Type 0 where
  pub sound : IsSound m
  pub loopback : is_loopback m.chip.latches ≡ false
  pub model : m.chip.model ≡ Uart16550A
  pub dlab : is_dlab_set m.chip.latches ≡ false
  pub latch : a.is_latch ≡ false

-- and the FIFO is on
record IsOn (a : Notes) (m : MachineState) : Type 0 where
  pub sound : IsSound m
  pub fifo : m.chip.fifo ≡ true
  pub loopback : is_loopback m.chip.latches ≡ false
  pub dlab : is_dlab_set m.chip.latches ≡ false
  pub latch : a.is_latch ≡ false

-- nothing was shown since the receiver was reset
record IsEmptied (a : Notes) (m : MachineState) : Type 0 where
  pub on : IsOn a m
  pub unlooked : AreUnlooked a
  pub none : shown_of (reported_front m.chip.receiver) ≡ 0

-- the notes are in step
record IsStepping (a : Notes) (m : MachineState) : Type 0 where
  pub on : IsOn a m
  pub step : IsInStep a m.chip.receiver

-- ---- up to the FIFO

presence_leads : (s : Settings) (l : List Access) → ChecksPresence true s l → Leads HasFifo HasFifo l
presence_leads s l t a m n w p =
    let k = kept_path l m n p ∙ (checked s l t).kept (kept_in m.chip) in
    record {
      sound = sound_path l m n w.sound p;
      loopback = ap (λ (v : Kept). is_loopback v.latches) k ∙ w.loopback;
      model = ap (λ (v : Kept). v.model) k ∙ w.model;
    }

line_leads : (config : Config) (d : ℕ) → Leads HasFifo IsClosed (line_writes d (frame_bits config))
line_leads config d a m n w p =
    let line = line_writes d (frame_bits config) in
    let k = kept_path line m n p in
    record {
      sound = sound_path line m n w.sound p;
      loopback = ap (λ (v : Kept). is_loopback v.latches) k ∙ w.loopback;
      model = ap (λ (v : Kept). v.model) k ∙ w.model;
      dlab = ap (λ (v : Kept). is_dlab_set v.latches) k ∙ frame-dlab config;
      latch = has_one 7 (frame_bits config) ∙ frame-dlab config;
    }

-- FCR switches the FIFO on and resets the receiver
fcr_leads : (value : ℕ) → has_any value FCR.FIFO_ENABLE.0 ≡ true → has value FCR.RX_FIFO_RESET.0 ≡ true →
    ((c : ChipState) → (set_fifo value c).receiver.queue ≡ []) → Leads IsClosed IsEmptied (Write offsets.FCR value ∷ [])
fcr_leads value enables resets empties a m n w (m₁, s₁, e) =
    let c = (at_access m).chip in
    let model : c.model ≡ Uart16550A = ap (λ (v : Kept). v.model) (kept_access m) ∙ w.model in
    let queue : m₁.chip.receiver.queue ≡ [] =
    ap (λ (v : MachineState). v.chip.receiver.queue) s₁ ∙ (ap (λ (v : Chip). (control v value c).receiver.queue) model ∙ empties c) in
    let k = kept_step (Write offsets.FCR value) m m₁ s₁
    ∙ ap (λ (v : Chip). keep_control v value (kept_in m.chip)) w.model in
    let b : Notes = record a { shown = 0; is_overrun_old = true } in
    let same : b ≡ with_access (Write offsets.FCR value) a = rw resets refl in
    let N : Notes → Type 0 = λ v. IsEmptied v n in
    subst N same (rw e (record {
      on = record {
        sound = write_sound m m₁ offsets.FCR value w.sound s₁;
        fifo = ap (λ (v : Kept). v.fifo) k ∙ enables;
        loopback = ap (λ (v : Kept). is_loopback v.latches) k ∙ w.loopback;
        dlab = ap (λ (v : Kept). is_dlab_set v.latches) k ∙ w.dlab;
        latch = w.latch;
      };
      unlooked = record { latch = w.latch; shown = refl; old = refl };
      none = ap (λ (q : List Character). shown_of (front_of q m₁.chip.receiver.is_front_reported)) queue;
    }))

level_leads : (level : FifoTriggerLevel) → Leads IsClosed IsEmptied (Write offsets.FCR (fifo_bits (Some level)) ∷ [])
level_leads One = fcr_leads (fifo_bits (Some One)) refl refl (λ c. refl)
level_leads Four = fcr_leads (fifo_bits (Some Four)) refl refl (λ c. refl)
level_leads Eight = fcr_leads (fifo_bits (Some Eight)) refl refl (λ c. refl)
level_leads Fourteen = fcr_leads (fifo_bits (Some Fourteen)) refl refl (λ c. refl)

-- ISR shows whether it is on
isr_leads : (isr : ℕ) → Leads IsEmptied IsEmptied (Read offsets.ISR isr ∷ [])
isr_leads isr a m n w (m₁, s₁, e) =
    let k = kept_step (Read offsets.ISR isr) m m₁ s₁ in
    let same : m₁.chip.receiver ≡ (at_access m).chip.receiver =
    ap (λ (v : MachineState). v.chip.receiver) s₁.0
    ∙ other_read offsets.ISR (at_access m).chip _ refl refl (read_move offsets.ISR (at_access m).chip) in
    rw e (record {
      on = record {
        sound = sound_path (Read offsets.ISR isr ∷ []) m m₁ w.on.sound (m₁, s₁, refl);
        fifo = ap (λ (v : Kept). v.fifo) k ∙ w.on.fifo;
        loopback = ap (λ (v : Kept). is_loopback v.latches) k ∙ w.on.loopback;
        dlab = ap (λ (v : Kept). is_dlab_set v.latches) k ∙ w.on.dlab;
        latch = w.on.latch;
      };
      unlooked = w.unlooked;
      none = ap (λ (r : ReceiverState). shown_of (reported_front r)) same ∙ front_until m w.on.sound w.on.fifo w.on.loopback 0 w.none;
    })

fifo_leads : (level : FifoTriggerLevel) (on : Bool) (s : Settings) (l : List Access) → SetsFifo (Some level) on s l →
    Leads IsClosed IsEmptied l
fifo_leads level on s l t =
    leads_then IsClosed IsEmptied IsEmptied l t.front t.back t.whole
    (leads_as IsClosed IsEmptied t.front (Write offsets.FCR (fifo_bits (Some level)) ∷ []) t.first.is (level_leads level))
    (leads_as IsEmptied IsEmptied t.back (Read offsets.ISR t.second.answer ∷ []) t.second.is (isr_leads t.second.answer))

-- ---- behind the FIFO

abbrev modes_on : MachineState → Modes
modes_on m = record { lcr = m.chip.latches.lcr; mcr = m.chip.latches.mcr; fifo = m.chip.fifo; cut = cut_of m.chip }

-- reads leave what is kept
reads_on : (l : List Access) (a b : Notes) (m n : MachineState) → ((k : Kept) → kept_after l k ≡ k) → b.is_latch ≡ false → IsOn a m →
    Path MachineStep m l n → IsOn b n
reads_on l a b m n still latch w p =
    let k = kept_path l m n p ∙ still (kept_in m.chip) in
    record {
      sound = sound_path l m n w.sound p;
      fifo = ap (λ (v : Kept). v.fifo) k ∙ w.fifo;
      loopback = ap (λ (v : Kept). is_loopback v.latches) k ∙ w.loopback;
      dlab = ap (λ (v : Kept). is_dlab_set v.latches) k ∙ w.dlab;
      latch = latch;
    }

-- a byte that is discarded
discard_leads : (s : Settings) (l : List Access) → Discards s l → Leads IsOn IsStepping l
discard_leads s l t =
    let line = t.first.answer in
    let byte = t.second.0 in
    let made : List Access = Read offsets.LSR line ∷ Read offsets.DATA byte ∷ [] in
    let is : l ≡ made = t.whole ∙ ((λ i. t.first.is i ++ t.second.1 i)) in
    leads_as IsOn IsStepping l made is (λ a m n w p.
    let shows : has_any line LSR.DATA_READY.0 ≡ true = sym (has_one 0 line) ∙ t.first.shows in
    let step = hit_begins (modes_on m) a m n line byte (record { dlab = w.dlab; loopback = w.loopback }) w.fifo
    (record { sound = w.sound; modes = record { lcr = refl; mcr = refl; fifo = refl; cut = refl } }) w.latch shows p in
    record { on = reads_on made a (with_accesses made a) m n (λ k. refl) step.latch w p; step = step })

-- the first look
first_look : (line : ℕ) → Leads IsEmptied IsStepping (Read offsets.LSR line ∷ [])
first_look line a m n w p =
    let seen = notes_begin a m p.0 line w.on.sound w.on.fifo w.on.loopback w.unlooked w.none p.1 in
    let I : MachineState → Type 0 = λ v. IsInStep (with_access (Read offsets.LSR line) a) v.chip.receiver in
    record {
      on = reads_on (Read offsets.LSR line ∷ []) a (with_access (Read offsets.LSR line) a) m n (λ k. refl) w.on.latch w.on p;
      step = subst I (sym p.2) seen;
    }

-- any other access that shows no latch
tame_leads : (access : Access) → Tame access → ((k : Kept) → is_dlab_set (keep access k).latches ≡ is_dlab_set k.latches) →
    Leads IsStepping IsStepping (access ∷ [])
tame_leads access tame still a m n w p =
    let along : Along a m = record {
      sound = w.on.sound;
      fifo = w.on.fifo;
      loopback = w.on.loopback;
      latch = w.on.latch ∙ sym w.on.dlab;
      fits = record { front = w.step.shown; lost = w.step.lost; flag = w.step.flag };
    } in
    let t = (tame_noted access a m p.0 tame along p.1).along in
    let dlab : is_dlab_set p.0.chip.latches ≡ false =
    ap (λ (v : Kept). is_dlab_set v.latches) (kept_step access m p.0 p.1) ∙ (still (kept_in m.chip) ∙ w.on.dlab) in
    let b = with_access access a in
    let S : MachineState → Type 0 = λ v. IsStepping b v in
    subst S (sym p.2) (record {
      on = record { sound = t.sound; fifo = t.fifo; loopback = t.loopback; dlab = dlab; latch = t.latch ∙ dlab };
      step = record { latch = t.latch ∙ dlab; shown = t.fits.front; lost = t.fits.lost; flag = t.fits.flag };
    })

look_leads : (bits : ℕ) (outcome : Bool) (s : Settings) (l : List Access) → Asks offsets.LSR bits outcome s l →
    Leads IsStepping IsStepping l
look_leads bits outcome s l t =
    leads_as IsStepping IsStepping l (Read offsets.LSR t.answer ∷ []) t.is
    (tame_leads (Read offsets.LSR t.answer) (Looks t.answer) (λ k. refl))

times_lead : (P : Language) (s : Settings) → ((l : List Access) → P s l → Leads IsStepping IsStepping l) → (count : ℕ) (l : List Access) →
    Times count P s l → Leads IsStepping IsStepping l
times_lead P s h zero l t = leads_none IsStepping l t.is
times_lead P s h (suc count) l t =
    leads_then IsStepping IsStepping IsStepping l t.front t.back t.whole (h t.front t.first) (times_lead P s h count t.back t.second)

stepping_discard : (s : Settings) (l : List Access) → Discards s l → Leads IsStepping IsStepping l
stepping_discard s l t a m n w p = discard_leads s l t a m n w.on p

emptied_discard : (s : Settings) (l : List Access) → Discards s l → Leads IsEmptied IsStepping l
emptied_discard s l t a m n w p = discard_leads s l t a m n w.on p

some_discards : (s : Settings) (count : ℕ) (l : List Access) → Times (suc count) Discards s l → Leads IsEmptied IsStepping l
some_discards s count l t =
    leads_then IsEmptied IsStepping IsStepping l t.front t.back t.whole (emptied_discard s t.front t.first)
    (times_lead Discards s (stepping_discard s) count t.back t.second)

drain_leads : (s : Settings) (l : List Access) → DrainsReceiver s l → Leads IsEmptied IsStepping l
drain_leads s l (inl t) = some_discards s 16 l t
drain_leads s l (inr (count, few, t)) = go count t.first
  where
    last : Leads IsStepping IsStepping t.back
    last = look_leads LSR.DATA_READY.0 false s t.back t.second

    go : (count : ℕ) → Times count Discards s t.front → Leads IsEmptied IsStepping l
    go zero none =
        leads_then IsEmptied IsEmptied IsStepping l t.front t.back t.whole (leads_none IsEmptied t.front none.is)
        (leads_as IsEmptied IsStepping t.back (Read offsets.LSR t.second.answer ∷ []) t.second.is (first_look t.second.answer))
    go (suc more) some =
        leads_then IsEmptied IsStepping IsStepping l t.front t.back t.whole (some_discards s more t.front some) last

-- ---- the call

ier_keeps : (value : ℕ) (k : Kept) → is_dlab_set (keep (Write offsets.IER value) k).latches ≡ is_dlab_set k.latches
ier_keeps value k = both_if (λ (v : Kept). is_dlab_set v.latches ≡ is_dlab_set k.latches) _ _ (is_dlab_set k.latches) refl refl

begins_leads : (config : Config) (level : FifoTriggerLevel) (d : ℕ) (on : Bool) (f after : Fields) (l : List Access) →
    config.fifo_trigger_level ≡ Some level → Begins config d on f l after → Leads HasFifo IsStepping l
begins_leads config level d on f after l is t =
    let u = t.second in
    let v = u.second in
    let w = v.second in
    let set = u.first.0 in
    let line = set.second in
    let fifo = subst (λ (o : Option FifoTriggerLevel). SetsFifo o on (settings_of t.mid) line.back) is line.second in
    leads_then HasFifo HasFifo IsStepping l t.front t.back t.whole (leads_none HasFifo t.front t.first.0)
    (leads_then HasFifo IsEmptied IsStepping t.back u.front u.back u.whole
    (leads_then HasFifo HasFifo IsEmptied u.front set.front set.back set.whole (presence_leads _ set.front set.first)
    (leads_then HasFifo IsClosed IsEmptied set.back line.front line.back line.whole
    (leads_as HasFifo IsClosed line.front (line_writes d (frame_bits config)) line.first.is (line_leads config d))
    (fifo_leads level on _ line.back fifo)))
    (leads_then IsEmptied IsEmptied IsStepping u.back v.front v.back v.whole (leads_none IsEmptied v.front v.first.0)
    (leads_then IsEmptied IsStepping IsStepping v.back w.front w.back w.whole (drain_leads _ w.front w.first.0)
    (leads_as IsStepping IsStepping w.back (Write offsets.MCR raised_outputs ∷ []) w.second.0.is
    (tame_leads (Write offsets.MCR raised_outputs) (Steers raised_outputs refl) (λ k. refl))))))

waits_lead : (s : Settings) (l : List Access) → WaitsFor LSR.TRANSMITTER_EMPTY.0 true s l → Leads IsStepping IsStepping l
waits_lead s l t =
    leads_then IsStepping IsStepping IsStepping l t.front t.back t.whole
    (times_lead (Asks offsets.LSR LSR.TRANSMITTER_EMPTY.0 false) s (look_leads LSR.TRANSMITTER_EMPTY.0 false s) t.first.0 t.front t.first.2)
    (look_leads LSR.TRANSMITTER_EMPTY.0 true s t.back t.second)

read_leads : (offset : ℕ) (answer : ℕ) (l : List Access) → Tame (Read offset answer) → l ≡ Read offset answer ∷ [] →
    Leads IsStepping IsStepping l
read_leads offset answer l tame is =
    leads_as IsStepping IsStepping l (Read offset answer ∷ []) is (tame_leads (Read offset answer) tame (λ k. refl))

ends_lead : (config : Config) (f after : Fields) (l : List Access) → Ends config f l after → Leads IsStepping IsStepping l
ends_lead config f after l t =
    let r = t.first.0 in
    let more = r.second in
    let u = t.second in
    leads_then IsStepping IsStepping IsStepping l t.front t.back t.whole
    (leads_then IsStepping IsStepping IsStepping t.front r.front r.back r.whole
    (read_leads offsets.LSR r.first.0 r.front (Looks r.first.0) r.first.1)
    (leads_then IsStepping IsStepping IsStepping r.back more.front more.back more.whole
    (read_leads offsets.ISR more.first.0 more.front (Reads offsets.ISR more.first.0 refl refl) more.first.1)
    (read_leads offsets.MSR more.second.0 more.back (Reads offsets.MSR more.second.0 refl refl) more.second.1)))
    (leads_then IsStepping IsStepping IsStepping t.back u.front u.back u.whole (leads_none IsStepping u.front u.first.0)
    (leads_as IsStepping IsStepping u.back (Write offsets.IER config.interrupts.0 ∷ []) u.second.0.is
    (tame_leads (Write offsets.IER config.interrupts.0) (Enables config.interrupts.0) (ier_keeps config.interrupts.0))))

pub init_steps : (before after : Uart16550 (ErrorNotes MachineState)) (config : Config) (level : FifoTriggerLevel) →
    IsSound (backend_of before).backend → is_loopback (backend_of before).backend.chip.latches ≡ false →
    (backend_of before).backend.chip.model ≡ Uart16550A → config.fifo_trigger_level ≡ Some level →
    Did (NotesErrors MachineStep) (Inits {T = Unit {0}} config (Ok tt)) before after →
    IsInStep (notes_of (backend_of after)) (backend_of after).backend.chip.receiver
init_steps before after config level sound off model is did =
    let m = (backend_of before).backend in
    let n = (backend_of after).backend in
    let parts = parted did.list (backend_of before) (backend_of after) did.path in
    let t = did.does.3 in
    let u = t.second in
    let leads : Leads HasFifo IsStepping did.list =
    leads_then HasFifo IsStepping IsStepping did.list t.front t.back t.whole
    (begins_leads config level did.does.0 did.does.1 _ t.mid t.front is t.first)
    (leads_then IsStepping IsStepping IsStepping t.back u.front u.back u.whole (waits_lead _ u.front u.first.0)
    (ends_lead config u.mid _ u.back u.second)) in
    let last = leads (notes_of (backend_of before)) m n (record { sound = sound; loopback = off; model = model }) parts.path in
    let I : Notes → Type 0 = λ v. IsInStep v n.chip.receiver in
    subst I (sym parts.notes) last.step
