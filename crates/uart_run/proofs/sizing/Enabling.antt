-- An `enable_64_byte_fifos` in a ready state: a chip that has the switch of a 16750 has FIFOs of 64 after it, and any other chip is as it
-- was.
use Rattle.uart_run.proofs.Names.{◌≡◌, ◌≢◌, ◌&&◌, ◌+◌, ℕ, Bool, true, false, not, inr, List, [], ◌∷◌, ◌++◌, append-nil, Result, Ok, Err}
use Rattle.uart_run.proofs.Names.{unwrap_or, arith, refl, sym, ◌∙◌, ap, subst, bit_and, bit_or, if◌then◌else◌, false≢true, common_steps}
use Rattle.uart_run.proofs.Names.{and_assoc, without, has, has_any, FifoSize, Sixteen, SixtyFour, FifoSizeError, FifosOff, TooFew, Stalled}
use Rattle.uart_run.proofs.Names.{FifoTriggerLevel, One, Path, Access, Read, Write, Settings, Only, Fields, fields, settings_of, level_bits}
use Rattle.uart_run.proofs.Names.{BeginsEnabling, opened, enabling_writes, Enabling, Enables64, is_64_shown, WaitsFor, inner_of, Chip}
use Rattle.uart_run.proofs.Names.{Uart16550A, Option, Some, isr_of, all_shown}
use Rattle.uart_run.proofs.Names.{ier_bits, ChipState, word_length, is_dlab_set, interrupt, is_64, is_same, after_write, trigger_level}
use Rattle.uart_run.proofs.Names.{switch_size, is_switching, switch, set_fifo, set_trigger, control, with_size, empty_queues, switched_size}
use Rattle.uart_run.proofs.Names.{reset_receiver, reset_transmitter, clear, MachineState, MachineStep, at_access, IsSound, IsSoundChip}
use Rattle.uart_run.proofs.Names.{has_one, has_or, word_same, size_shown, same_size-access, switch-step, chip_lasts-before, sound_access}
use Rattle.uart_run.proofs.Names.{sound_path, sound_write, IsLevel, sends-refl, receives-still, reports-same, changed-refl, Modes, IsIn}
use Rattle.uart_run.proofs.Names.{Went, loopback, marked-in, Passed, passed-trans, passed-effect, IsOpen, Stands, PassedBlocks}
use Rattle.uart_run.proofs.Names.{nothing_taken, path_as, passed_quiet, passed_level, stands-after, passed_blocks-trans, received_kept}
use Rattle.uart_run.proofs.Names.{State, machine_of, IsTimely, HasRoom, IsUnheld, Ready, transmitter_of, size_in, LosesNone, IsEnabled}
use Rattle.uart_run.proofs.Names.{IsStillAsBefore, EnablesOff}
use Rattle.uart_spec.specs.declared.registers.fifo_control.TheConstants.FCR
use Rattle.uart_spec.specs.declared.registers.interrupt_status.TheConstants.ISR
use Rattle.uart_spec.specs.declared.registers.interrupt_type.InterruptType.{InterruptType}
use Rattle.uart_spec.specs.declared.registers.interrupt_type.InterruptType.TheVariants.{ReceiverLineStatus}
use Rattle.uart_spec.specs.declared.registers.line_control.TheConstants.LCR
use Rattle.uart_spec.specs.declared.registers.line_status.TheConstants.LSR
use Rattle.uart_spec.specs.declared.registers.modem_control.TheConstants.MCR
use Rattle.uart_spec.specs.declared.registers.offsets.TheConstants as offsets
use Rattle.uart_chip.specs.Transmitter as transmitter
use Rattle.uart_chip.specs.Conserved.{out}
use Rattle.uart_chip.proofs.Switching.{lacking-keeps}
use Rattle.uart_run.specs.Sizes.{Enables}
use Rattle.uart_run.proofs.{EmptyTransmitter.sent_path, EmptyTransmitter.sent_shown, EmptyTransmitter.shown_sent}
use Rattle.uart_run.proofs.{EmptyTransmitter.wait_empties, Pieces.then_parts, KeptLists.kept_still, built.Sizing.begins_enabling}
use Rattle.uart_run.proofs.{NeverSwitched.unwritten, SizeKept.size_left, SizeKept.left_ever, SizeKept.left_plain, SizeKept.fits_by}
use Rattle.uart_run.proofs.{CallKeeps.quiet_blocks, CallLaws.InSession, CallLaws.level_bits_keep, CheckLists.passed_lcr}
use Rattle.uart_run.proofs.{SessionCalls.modes_of, SessionCalls.modes_cut, SessionCalls.in_session, progress.Nearing.RunsFree}
use Rattle.uart_run.proofs.{progress.Nearing.free_runs, progress.Nearing.free-path, progress.Succeeds.few_left}
use Rattle.uart_run.proofs.{progress.WaitEnds.no_stall-empty, initialising.FifoShown.shows_64, initialising.Initialised.ready_by}
use Rattle.uart_run.proofs.Latches.{Kept, kept_in, keep, keep_control, kept_after, kept_access, kept_step, kept_path, kept_list}
use Rattle.uart_run.proofs.CallBlocks.{Makes, most_in, makes_then, passed_silently, waits_blocks}

-- ---- FIFOs of 64 are asked for

-- FCR that asks for them
abbrev asking : FifoTriggerLevel → ℕ
asking level = bit_or (level_bits level) FCR.FIFO_64_ENABLE.0

asking_level : (level : FifoTriggerLevel) → IsLevel (asking level)
asking_level One = record { on = refl; keeps_received = refl; keeps_queued = refl }
asking_level _ = record { on = refl; keeps_received = refl; keeps_queued = refl }

asks : (level : FifoTriggerLevel) → has_any (asking level) FCR.FIFO_64_ENABLE.0 ≡ true
asks One = refl
asks _ = refl

-- LCR meanwhile: DLAB is set, and the word length as it was
opened_dlab : (lcr : ℕ) → has_any (opened lcr) LCR.DLAB.0 ≡ true
opened_dlab lcr = has_or 7 (without 8 lcr LCR.MORE_STOP_BITS.0) 128 ∙ grind (arith, common_steps)

opened_word : (lcr : ℕ) → word_length (opened lcr) ≡ word_length lcr
opened_word lcr =
    word_same (without 8 lcr LCR.MORE_STOP_BITS.0) ∙ ap (λ (more : ℕ). 5 + more) (and_assoc LCR.WORD_LENGTH.0 lcr 251)

-- a write that leaves the FIFOs on, and resets none, switches their size or not, and sets the level
set_level : (value : ℕ) (c : ChipState) → IsLevel value → c.fifo ≡ true →
    set_fifo value c ≡ set_trigger (trigger_level value) (switch_size value c)
set_level value c level fifo =
    ap (λ (b : Bool). if b then levelling (still b) else still b) level.on
    ∙ (ap (λ (b : Bool). levelling (if b then c else switch true c)) same
    ∙ (ap (λ (b : Bool). set_trigger (trigger_level value)
    (reset_transmitter value (if b then record d { receiver = clear d.receiver } else d))) level.keeps_received
    ∙ ap (λ (b : Bool). set_trigger (trigger_level value) (if b then emptied else d)) level.keeps_queued))
  where
    levelling : ChipState → ChipState
    levelling e = set_trigger (trigger_level value) (reset_transmitter value (reset_receiver value (switch_size value e)))

    still : Bool → ChipState
    still b = if is_same c.fifo b then c else switch b c

    same : is_same c.fifo true ≡ true
    same = ap (λ (b : Bool). is_same b true) fifo

    d : ChipState
    d = switch_size value c

    emptied : ChipState
    emptied = record d { transmitter = record d.transmitter { queue = []; is_thr_pending = true } }

level_written : (value : ℕ) (c : ChipState) → IsLevel value → IsSoundChip c → c.fifo ≡ true →
    after_write offsets.FCR value c ≡ set_trigger (trigger_level value) (switch_size value c)
level_written value c level sound fifo =
    ap (λ (model : Chip). control model value c) (sound.implemented fifo) ∙ set_level value c level fifo

-- ---- the size that this leaves

-- of a chip that has the switch, or has not, where it is written under DLAB
abbrev asked_size : (has : Bool) → FifoSize → FifoSize
asked_size has size = if has then SixtyFour else size

of_64 : (size : FifoSize) → is_64 size ≡ true → size ≡ SixtyFour
of_64 SixtyFour e = refl
of_64 _ e = absurd (false≢true e)

module _ (value : ℕ) (c : ChipState) (asks : has_any value FCR.FIFO_64_ENABLE.0 ≡ true) (dlab : is_dlab_set c.latches ≡ true)
    (one : c.receiver.size ≡ c.transmitter.size) where
  -- it has them already
  keeps_64 : is_64 c.receiver.size ≡ true → is_switching value c ≡ false
  keeps_64 holds = go c.has_size_switch
    where
      go : (has : Bool) →
          (has && (is_dlab_set c.latches && not (is_same (is_64 c.receiver.size) (has_any value FCR.FIFO_64_ENABLE.0)))) ≡ false
      go true = rw (dlab, holds, asks) refl
      go false = refl

  switches_64 : c.has_size_switch ≡ true → is_64 c.receiver.size ≡ false → is_switching value c ≡ true
  switches_64 has holds = rw (has, dlab, holds, asks) refl

  sized_64 : (switch_size value c).transmitter.size ≡ asked_size c.has_size_switch c.transmitter.size
  sized_64 = go c.has_size_switch refl (is_64 c.receiver.size) refl
    where
      go : (has : Bool) → c.has_size_switch ≡ has → (holds : Bool) → is_64 c.receiver.size ≡ holds →
          (switch_size value c).transmitter.size ≡ asked_size has c.transmitter.size
      go false e holds f = rw (lacking-keeps value c e) refl
      go true e true f = rw (keeps_64 f) (sym one ∙ of_64 c.receiver.size f)
      go true e false f = rw (switches_64 e f) (ap (λ (b : Bool). if b then SixtyFour else Sixteen) asks)

  -- where the size stays, nothing is switched
  stays_64 : asked_size c.has_size_switch c.transmitter.size ≡ c.transmitter.size → is_switching value c ≡ false
  stays_64 = go c.has_size_switch refl
    where
      go : (has : Bool) → c.has_size_switch ≡ has → asked_size has c.transmitter.size ≡ c.transmitter.size → is_switching value c ≡ false
      go false e same = lacking-keeps value c e
      go true e same = keeps_64 (ap is_64 (one ∙ sym same))

-- ---- the switch itself is never lost or gained

switch_access : (m : MachineState) → (at_access m).chip.has_size_switch ≡ m.chip.has_size_switch
switch_access m =
    chip_lasts-before (λ (c : ChipState). c.has_size_switch ≡ m.chip.has_size_switch)
    (record { in_tick = λ c e. e; in_arrival = λ byte errors c e. e; in_lines = λ inputs c e. e }) m.ahead m.chip refl

switch_path : (l : List Access) (m n : MachineState) → Path MachineStep m l n → n.chip.has_size_switch ≡ m.chip.has_size_switch
switch_path [] m n path = ap (λ (o : MachineState). o.chip.has_size_switch) path
switch_path (access ∷ l) m n (mid, step, rest) = switch_path l mid n rest ∙ switch-step m mid access step

-- ---- lists

-- all that is done after the wait
abbrev enabling_list : (lcr ier : ℕ) → FifoTriggerLevel → (isr : ℕ) → List Access
enabling_list lcr ier level isr = enabling_writes lcr level ++ (Read offsets.ISR isr ∷ Write offsets.IER ier ∷ [])

enabled_by : (lcr ier : ℕ) (level : FifoTriggerLevel) (on : Bool) (s : Settings) (l : List Access) → Enabling lcr ier level on s l →
    (isr : ℕ) × (is_64_shown isr ≡ on) × (l ≡ enabling_list lcr ier level isr)
enabled_by lcr ier level on s l t =
    (t.second.first.0, t.second.first.1, rw (t.whole, t.first.is, t.second.whole, t.second.first.2, t.second.second.is) refl)

begins_blocks : (s : Settings) (lcr ier : ℕ) (empty : Bool) → Makes s (BeginsEnabling lcr ier empty) [] []
begins_blocks s lcr ier empty l t =
    makes_then s (Only (Read offsets.LCR lcr ∷ Read offsets.IER ier ∷ [])) (WaitsFor LSR.TRANSMITTER_EMPTY.0 empty) [] [] [] []
    (λ k u. rw u.is (quiet_blocks (most_in s) (Read offsets.LCR lcr ∷ Read offsets.IER ier ∷ []) (refl, (refl, tt))))
    (waits_blocks s LSR.TRANSMITTER_EMPTY.0 empty) l t

-- ---- what the registers keep

module _ (lcr ier isr : ℕ) (level : FifoTriggerLevel) (k : Kept) (model : k.model ≡ Uart16550A) (fifo : k.fifo ≡ true)
    (dlab : is_dlab_set k.latches ≡ false) (is_lcr : lcr ≡ k.latches.lcr) (is_ier : ier ≡ k.latches.ier)
    (within : bit_and k.latches.ier ier_bits ≡ k.latches.ier) where
  abbrev silenced : Kept
  silenced = record k { latches = record k.latches { ier = 0 } }

  abbrev asked : Kept
  asked = record silenced { latches = record silenced.latches { lcr = opened lcr } }

  abbrev closed : (ier lcr : ℕ) (fifo : Bool) → Kept
  closed ier lcr fifo = record k { latches = record k.latches { ier = ier; lcr = lcr }; fifo = fifo }

  silenced_by : keep (Write offsets.IER 0) k ≡ silenced
  silenced_by = ap (λ (b : Bool). if b then record k { latches = record k.latches { dlm = 0 } } else silenced) dlab

  asked_by : keep (Write offsets.FCR (asking level)) asked ≡ record asked { fifo = true }
  asked_by =
      ap (λ (chip : Chip). keep_control chip (asking level) asked) model
      ∙ ap (λ (b : Bool). record asked { fifo = b }) (asking_level level).on

  levelled_by : keep (Write offsets.FCR (level_bits level)) (closed 0 lcr true) ≡ closed 0 lcr true
  levelled_by =
      ap (λ (chip : Chip). keep_control chip (level_bits level) (closed 0 lcr true)) model
      ∙ ap (λ (b : Bool). closed 0 lcr b) (level_bits_keep level).on

  restored_by : keep (Write offsets.IER ier) (closed 0 lcr true) ≡ closed (bit_and ier ier_bits) lcr true
  restored_by =
      let shut : has_any lcr LCR.DLAB.0 ≡ false = ap (λ (v : ℕ). has_any v LCR.DLAB.0) is_lcr ∙ dlab in
      let shown = record (closed 0 lcr true) { latches = record (closed 0 lcr true).latches { dlm = ier } } in
      ap (λ (b : Bool). if b then shown else closed (bit_and ier ier_bits) lcr true) shut

  same_again : closed (bit_and ier ier_bits) lcr true ≡ k
  same_again =
      ap (λ (v : ℕ). closed v lcr true) (ap (λ (v : ℕ). bit_and v ier_bits) is_ier ∙ within)
      ∙ (ap (λ (v : ℕ). closed k.latches.ier v true) is_lcr ∙ ap (λ (b : Bool). closed k.latches.ier k.latches.lcr b) (sym fifo))

  -- the same in the end
  pub enabled_kept : kept_after (enabling_list lcr ier level isr) k ≡ k
  enabled_kept =
      ap (kept_after (Write offsets.LCR (opened lcr) ∷ Write offsets.FCR (asking level) ∷ Write offsets.LCR lcr ∷
      Write offsets.FCR (level_bits level) ∷ Read offsets.ISR isr ∷ Write offsets.IER ier ∷ [])) silenced_by
      ∙ (ap (kept_after (Write offsets.LCR lcr ∷ Write offsets.FCR (level_bits level) ∷ Read offsets.ISR isr ∷ Write offsets.IER ier ∷ []))
      asked_by
      ∙ (ap (kept_after (Read offsets.ISR isr ∷ Write offsets.IER ier ∷ [])) levelled_by ∙ (restored_by ∙ same_again)))

  -- and before the size is asked for: DLAB is set, and the FIFO on
  pub before_asking : kept_after (Write offsets.IER 0 ∷ Write offsets.LCR (opened lcr) ∷ []) k ≡ asked
  before_asking = ap (kept_after (Write offsets.LCR (opened lcr) ∷ [])) silenced_by

  -- and before ISR is read
  pub before_look :
      kept_after (Write offsets.IER 0 ∷ Write offsets.LCR (opened lcr) ∷ Write offsets.FCR (asking level) ∷ Write offsets.LCR lcr ∷
      Write offsets.FCR (level_bits level) ∷ []) k ≡ closed 0 lcr true
  before_look =
      ap (kept_after (Write offsets.LCR (opened lcr) ∷ Write offsets.FCR (asking level) ∷ Write offsets.LCR lcr ∷
      Write offsets.FCR (level_bits level) ∷ [])) silenced_by
      ∙ (ap (kept_after (Write offsets.LCR lcr ∷ Write offsets.FCR (level_bits level) ∷ [])) asked_by ∙ levelled_by)

-- ---- the write under DLAB, over the machine

asked_step : (level : FifoTriggerLevel) (m n : MachineState) → IsSound m → m.chip.fifo ≡ true → is_dlab_set m.chip.latches ≡ true →
    MachineStep m (Write offsets.FCR (asking level)) n →
    n.chip.transmitter.size ≡ asked_size m.chip.has_size_switch m.chip.transmitter.size
asked_step level m n sound fifo dlab step =
    let c = (at_access m).chip in
    let w = (sound_access m sound).chip in
    let on : c.fifo ≡ true = ap (λ (k : Kept). k.fifo) (kept_access m) ∙ fifo in
    let shown : is_dlab_set c.latches ≡ true = ap (λ (k : Kept). is_dlab_set k.latches) (kept_access m) ∙ dlab in
    ap (λ (o : MachineState). o.chip.transmitter.size) step
    ∙ (ap (λ (d : ChipState). d.transmitter.size) (level_written (asking level) c (asking_level level) w on)
    ∙ (sized_64 (asking level) c (asks level) shown w.sizes
    ∙ (ap (λ (b : Bool). asked_size b c.transmitter.size) (switch_access m)
    ∙ ap (asked_size m.chip.has_size_switch) (same_size-access m).transmitter)))

-- if it switches nothing, it loses nothing
went-asked : (x : Modes) (c : ChipState) (value : ℕ) → x.fifo ≡ true → IsLevel value → is_switching value c ≡ false → IsSoundChip c →
    IsIn x c → Went x c (after_write offsets.FCR value c) [] (Write offsets.FCR value ∷ []) [] []
went-asked x c value on level keeps s w =
    let same : after_write offsets.FCR value c ≡ set_trigger (trigger_level value) c = level_written value c level s (w.fifo ∙ on)
    ∙ ap (λ (b : Bool). set_trigger (trigger_level value) (if b then with_size (switched_size value) (empty_queues c) else c)) keeps in
    rw same (record {
      modes = record { lcr = w.lcr; mcr = w.mcr; fifo = w.fifo; cut = w.cut };
      sends = sends-refl c.transmitter;
      receives =
          receives-still x.fifo c.receiver (record c.receiver { trigger = trigger_level value }) (marked-in x c s w)
          (record { queue = refl; marks = refl; missing = refl; arrived = refl; size = refl }) refl;
      reports = reports-same x.fifo c.receiver (record c.receiver { trigger = trigger_level value }) refl refl refl;
      modem_lines = changed-refl c.modem;
    })

passed_asked : (y : Modes) (m n : MachineState) (value : ℕ) → loopback y ≡ false → y.fifo ≡ true → IsLevel value → Stands y m →
    is_switching value (at_access m).chip ≡ false → MachineStep m (Write offsets.FCR value) n →
    Passed y m n (Write offsets.FCR value ∷ []) [] []
passed_asked y m n value l on level w keeps s =
    passed-effect y y m n (after_write offsets.FCR value (at_access m).chip) (Write offsets.FCR value) [] [] l refl w.sound w.modes s
    (sound_write offsets.FCR value (at_access m) (sound_access m w.sound))
    (λ p. went-asked y (at_access m).chip value on level keeps p.sound.chip p.went.modes)

-- ---- after the wait

-- the machine, of which LCR and IER were read
pub record Waited (lcr ier : ℕ) (m : MachineState) : Type 0 where
  pub sound : IsSound m
  pub fifo : m.chip.fifo ≡ true
  pub dlab : is_dlab_set m.chip.latches ≡ false
  pub is_lcr : lcr ≡ m.chip.latches.lcr
  pub is_ier : ier ≡ m.chip.latches.ier

-- what ISR tells then
told : (has : Bool) (size : FifoSize) → (has && is_64 (asked_size has size)) ≡ has
told true size = refl
told false size = refl

-- ISR of the chip never shows bit 4
bit_4 : (on holds_64 : Bool) (pending : Option InterruptType) → has (isr_of on holds_64 pending) ISR.DMA_RX_END.0 ≡ false
bit_4 true true (Some ReceiverLineStatus) = refl
bit_4 true false (Some ReceiverLineStatus) = refl
bit_4 false _ (Some ReceiverLineStatus) = refl
bit_4 _ _ _ = refl

-- so it shows FIFOs of 64 exactly if they are on and hold 64
shown_64 : (on holds_64 : Bool) (pending : Option InterruptType) → is_64_shown (isr_of on holds_64 pending) ≡ (on && holds_64)
shown_64 on holds_64 pending =
    let isr = isr_of on holds_64 pending in
    ap (λ (b : Bool). b && (has isr ISR.FIFO_64_ENABLED.0 && not (has isr ISR.DMA_RX_END.0))) (all_shown on holds_64 pending)
    ∙ (ap (λ (b : Bool). on && (has isr ISR.FIFO_64_ENABLED.0 && not b)) (bit_4 on holds_64 pending)
    ∙ (ap (λ (b : Bool). on && (b && true)) (has_one 5 isr ∙ size_shown on holds_64 pending) ∙ together on holds_64))
  where
    together : (on holds_64 : Bool) → (on && ((on && holds_64) && true)) ≡ (on && holds_64)
    together true true = refl
    together true false = refl
    together false holds_64 = refl

module _ (lcr ier isr : ℕ) (level : FifoTriggerLevel) (m n : MachineState) (w : Waited lcr ier m)
    (path : Path MachineStep m (enabling_list lcr ier level isr) n) where
  abbrev m₁ : MachineState
  m₁ = path.0

  abbrev m₂ : MachineState
  m₂ = path.2.0

  abbrev m₃ : MachineState
  m₃ = path.2.2.0

  abbrev m₄ : MachineState
  m₄ = path.2.2.2.0

  abbrev m₅ : MachineState
  m₅ = path.2.2.2.2.0

  abbrev m₆ : MachineState
  m₆ = path.2.2.2.2.2.0

  abbrev m₇ : MachineState
  m₇ = path.2.2.2.2.2.2.0

  abbrev switches : Bool
  switches = m.chip.has_size_switch

  model : m.chip.model ≡ Uart16550A
  model = w.sound.chip.implemented w.fifo

  shut : has_any lcr LCR.DLAB.0 ≡ false
  shut = ap (λ (v : ℕ). has_any v LCR.DLAB.0) w.is_lcr ∙ w.dlab

  pub kept_again : kept_in n.chip ≡ kept_in m.chip
  kept_again =
      kept_path (enabling_list lcr ier level isr) m n path
      ∙ enabled_kept lcr ier isr level (kept_in m.chip) model w.fifo w.dlab w.is_lcr w.is_ier w.sound.chip.latches.ier

  -- up to the write under DLAB
  to_asking : Path MachineStep m (Write offsets.IER 0 ∷ Write offsets.LCR (opened lcr) ∷ []) m₂
  to_asking = (m₁, path.1, (m₂, path.2.1, refl))

  kept_asking : kept_in m₂.chip ≡ asked lcr ier isr level (kept_in m.chip) model w.fifo w.dlab w.is_lcr w.is_ier w.sound.chip.latches.ier
  kept_asking =
      kept_path (Write offsets.IER 0 ∷ Write offsets.LCR (opened lcr) ∷ []) m m₂ to_asking
      ∙ before_asking lcr ier isr level (kept_in m.chip) model w.fifo w.dlab w.is_lcr w.is_ier w.sound.chip.latches.ier

  sound_asking : IsSound m₂
  sound_asking = sound_path (Write offsets.IER 0 ∷ Write offsets.LCR (opened lcr) ∷ []) m m₂ w.sound to_asking

  dlab_asking : is_dlab_set m₂.chip.latches ≡ true
  dlab_asking = ap (λ (k : Kept). is_dlab_set k.latches) kept_asking ∙ opened_dlab lcr

  size_asking : m₂.chip.transmitter.size ≡ m.chip.transmitter.size
  size_asking =
      let l : List Access = Write offsets.IER 0 ∷ Write offsets.LCR (opened lcr) ∷ [] in
      size_left l m m₂ (left_ever m l (unwritten l (refl, (refl, tt)))) to_asking

  has_asking : m₂.chip.has_size_switch ≡ switches
  has_asking = switch_path (Write offsets.IER 0 ∷ Write offsets.LCR (opened lcr) ∷ []) m m₂ to_asking

  size_asked : m₃.chip.transmitter.size ≡ asked_size switches m.chip.transmitter.size
  size_asked =
      asked_step level m₂ m₃ sound_asking (ap (λ (k : Kept). k.fifo) kept_asking ∙ w.fifo) dlab_asking path.2.2.1
      ∙ (ap (λ (b : Bool). asked_size b m₂.chip.transmitter.size) has_asking ∙ ap (asked_size switches) size_asking)

  -- and from there on
  pub size_enabled : n.chip.transmitter.size ≡ asked_size switches m.chip.transmitter.size
  size_enabled =
      let l : List Access = Write offsets.LCR lcr ∷ Write offsets.FCR (level_bits level) ∷ Read offsets.ISR isr ∷
      Write offsets.IER ier ∷ [] in
      size_left l m₃ n (inr (refl, (shut, (refl, (refl, tt))))) path.2.2.2 ∙ size_asked

  -- up to the look at ISR
  to_look : Path MachineStep m (Write offsets.IER 0 ∷ Write offsets.LCR (opened lcr) ∷ Write offsets.FCR (asking level) ∷
      Write offsets.LCR lcr ∷ Write offsets.FCR (level_bits level) ∷ []) m₅
  to_look = (m₁, path.1, (m₂, path.2.1, (m₃, path.2.2.1, (m₄, path.2.2.2.1, (m₅, path.2.2.2.2.1, refl)))))

  pub is_shown : is_64_shown isr ≡ switches
  is_shown =
      let l : List Access = Write offsets.IER 0 ∷ Write offsets.LCR (opened lcr) ∷ Write offsets.FCR (asking level) ∷
      Write offsets.LCR lcr ∷ Write offsets.FCR (level_bits level) ∷ [] in
      let c = (at_access m₅).chip in
      let sound = (sound_access m₅ (sound_path l m m₅ w.sound to_look)).chip in
      let fifo : c.fifo ≡ true = ap (λ (k : Kept). k.fifo) (kept_access m₅ ∙ (kept_path l m m₅ to_look
      ∙ before_look lcr ier isr level (kept_in m.chip) model w.fifo w.dlab w.is_lcr w.is_ier w.sound.chip.latches.ier)) in
      let later : List Access = Write offsets.LCR lcr ∷ Write offsets.FCR (level_bits level) ∷ [] in
      let size : c.receiver.size ≡ asked_size switches m.chip.transmitter.size = sound.sizes ∙ ((same_size-access m₅).transmitter
      ∙ (size_left later m₃ m₅ (inr (refl, (shut, tt))) (m₄, path.2.2.2.1, (m₅, path.2.2.2.2.1, refl)) ∙ size_asked)) in
      let switch : c.has_size_switch ≡ switches = switch_access m₅ ∙ switch_path l m m₅ to_look in
      ap is_64_shown path.2.2.2.2.2.1.1
      ∙ (shown_64 c.fifo (shows_64 c) (interrupt c)
      ∙ (ap (λ (b : Bool). b && shows_64 c) fifo
      ∙ (ap (λ (b : Bool). b && is_64 c.receiver.size) switch
      ∙ (ap (λ (z : FifoSize). switches && is_64 z) size ∙ told switches m.chip.transmitter.size))))

  -- where the size stays, nothing is lost
  module _ (x : Modes) (o : IsOpen x) (on : x.fifo ≡ true) (st : Stands x m)
      (stays : n.chip.transmitter.size ≡ m.chip.transmitter.size) where
    abbrev y : Modes
    y = record x { lcr = opened lcr }

    same_lcr : lcr ≡ x.lcr
    same_lcr = w.is_lcr ∙ st.modes.lcr

    not_switching : is_switching (asking level) (at_access m₂).chip ≡ false
    not_switching =
        let c = (at_access m₂).chip in
        let size : c.transmitter.size ≡ m.chip.transmitter.size = (same_size-access m₂).transmitter ∙ size_asking in
        let still : asked_size switches m.chip.transmitter.size ≡ m.chip.transmitter.size = sym size_enabled ∙ stays in
        stays_64 (asking level) c (asks level) (ap (λ (k : Kept). is_dlab_set k.latches) (kept_access m₂) ∙ dlab_asking)
        (sound_access m₂ sound_asking).chip.sizes
        (ap (λ (b : Bool). asked_size b c.transmitter.size) (switch_access m₂ ∙ has_asking)
        ∙ (ap (asked_size switches) size ∙ (still ∙ sym size)))

    pub passes : Passed x m n (enabling_list lcr ier level isr) [] []
    passes =
        let p₁ = passed_quiet x m m₁ (Write offsets.IER 0) o st refl path.1 in
        let at₁ = stands-after x m m₁ (Write offsets.IER 0 ∷ []) [] [] p₁ in
        let p₂ : Passed y m₁ m₂ (Write offsets.LCR (opened lcr) ∷ []) [] [] =
        passed_lcr x m₁ m₂ (opened lcr) o.loopback at₁ (opened_word lcr ∙ ap word_length same_lcr) path.2.1 in
        let at₂ = stands-after y m₁ m₂ (Write offsets.LCR (opened lcr) ∷ []) [] [] p₂ in
        let p₃ = passed_asked y m₂ m₃ (asking level) o.loopback on (asking_level level) at₂ not_switching path.2.2.1 in
        let at₃ = stands-after y m₂ m₃ (Write offsets.FCR (asking level) ∷ []) [] [] p₃ in
        let z : Modes = record y { lcr = lcr } in
        let back : z ≡ x = ap (λ (v : ℕ). record x { lcr = v }) same_lcr in
        let q₄ : Passed z m₃ m₄ (Write offsets.LCR lcr ∷ []) [] [] =
        passed_lcr y m₃ m₄ lcr o.loopback at₃ (sym (opened_word lcr)) path.2.2.2.1 in
        let p₄ : Passed x m₃ m₄ (Write offsets.LCR lcr ∷ []) [] [] =
        subst (λ (v : Modes). Passed v m₃ m₄ (Write offsets.LCR lcr ∷ []) [] []) back q₄ in
        let at₄ = stands-after x m₃ m₄ (Write offsets.LCR lcr ∷ []) [] [] p₄ in
        let p₅ = passed_level x m₄ m₅ (level_bits level) o on (level_bits_keep level) at₄ path.2.2.2.2.1 in
        let at₅ = stands-after x m₄ m₅ (Write offsets.FCR (level_bits level) ∷ []) [] [] p₅ in
        let p₆ = passed_quiet x m₅ m₆ (Read offsets.ISR isr) o at₅ refl path.2.2.2.2.2.1 in
        let at₆ = stands-after x m₅ m₆ (Read offsets.ISR isr ∷ []) [] [] p₆ in
        let p₇ = passed_quiet x m₆ m₇ (Write offsets.IER ier) o at₆ refl path.2.2.2.2.2.2.1 in
        let same : m₇ ≡ n = sym path.2.2.2.2.2.2.2 in
        let p₆₇ = passed-trans x x m₅ m₆ m₇ (Read offsets.ISR isr ∷ []) (Write offsets.IER ier ∷ []) [] [] [] [] refl p₆ p₇ in
        let p₅₇ = passed-trans x x m₄ m₅ m₇ (Write offsets.FCR (level_bits level) ∷ []) (Read offsets.ISR isr ∷ Write offsets.IER ier ∷ [])
        [] [] [] [] refl p₅ p₆₇ in
        let p₄₇ = passed-trans x x m₃ m₄ m₇ (Write offsets.LCR lcr ∷ [])
        (Write offsets.FCR (level_bits level) ∷ Read offsets.ISR isr ∷ Write offsets.IER ier ∷ []) [] [] [] [] refl p₄ p₅₇ in
        let p₃₇ = passed-trans y x m₂ m₃ m₇ (Write offsets.FCR (asking level) ∷ [])
        (Write offsets.LCR lcr ∷ Write offsets.FCR (level_bits level) ∷ Read offsets.ISR isr ∷ Write offsets.IER ier ∷ []) [] [] [] [] refl
        p₃ p₄₇ in
        let p₂₇ = passed-trans y x m₁ m₂ m₇ (Write offsets.LCR (opened lcr) ∷ [])
        (Write offsets.FCR (asking level) ∷ Write offsets.LCR lcr ∷ Write offsets.FCR (level_bits level) ∷ Read offsets.ISR isr ∷
        Write offsets.IER ier ∷ []) [] [] [] [] refl p₂ p₃₇ in
        let whole = passed-trans x x m m₁ m₇ (Write offsets.IER 0 ∷ [])
        (Write offsets.LCR (opened lcr) ∷ Write offsets.FCR (asking level) ∷ Write offsets.LCR lcr ∷ Write offsets.FCR (level_bits level) ∷
        Read offsets.ISR isr ∷ Write offsets.IER ier ∷ []) [] [] [] [] refl p₁ p₂₇ in
        subst (λ (v : MachineState). Passed x m v (enabling_list lcr ier level isr) [] []) same whole

-- ---- the reads, and the wait

lcr_read : (s : Settings) (lcr ier : ℕ) (empty : Bool) (l : List Access) (m n : MachineState) → is_dlab_set m.chip.latches ≡ false →
    BeginsEnabling lcr ier empty s l → Path MachineStep m l n → (lcr ≡ m.chip.latches.lcr) × (ier ≡ m.chip.latches.ier)
lcr_read s lcr ier empty l m n dlab t p =
    let reads : List Access = Read offsets.LCR lcr ∷ Read offsets.IER ier ∷ [] in
    let a = then_parts (Only reads) (WaitsFor LSR.TRANSMITTER_EMPTY.0 empty) s l m n t p in
    both a.between (path_as m a.between a.front reads a.first.is a.before)
  where
    both : (o : MachineState) → Path MachineStep m (Read offsets.LCR lcr ∷ Read offsets.IER ier ∷ []) o →
        (lcr ≡ m.chip.latches.lcr) × (ier ≡ m.chip.latches.ier)
    both o (mid, first, (last, second, same)) = (
      first.1 ∙ ap (λ (k : Kept). k.latches.lcr) (kept_access m),
      second.1
          ∙ (ap (λ (k : Kept). if is_dlab_set k.latches then k.latches.dlm else k.latches.ier)
          (kept_access mid ∙ kept_step (Read offsets.LCR lcr) m mid first)
          ∙ ap (λ (b : Bool). if b then m.chip.latches.dlm else m.chip.latches.ier) dlab),
    )

-- ---- the whole call

module _ (s t : State) (sound : IsSound (machine_of s)) (ready : Ready s) (is_on : (fields (inner_of s)).fifo ≡ true) where
  abbrev v : Settings
  v = settings_of (fields (inner_of s))

  abbrev x : Modes
  x = modes_of s

  session : InSession x s
  session = in_session s ready sound

  -- what comes before the first write moves no data
  passed_begins : (lcr ier : ℕ) (empty : Bool) (l : List Access) (n : MachineState) → BeginsEnabling lcr ier empty v l →
      Path MachineStep (machine_of s) l n → PassedBlocks x (machine_of s) n l [] []
  passed_begins lcr ier empty l n t path =
      passed_silently x (most_in v) (machine_of s) n l [] session.open_modes session.stands (begins_blocks v lcr ier empty l t) path

  received_all : (l : List Access) → PassedBlocks x (machine_of s) (machine_of t) l [] [] → LosesNone s t
  received_all l p = received_kept x (machine_of s) (machine_of t) l [] [] (sym (modes_cut s)) p

  enabled : (on : Bool) (l : List Access) → Enables64 (Ok on) (fields (inner_of s)) l (fields (inner_of t)) →
      Path MachineStep (machine_of s) l (machine_of t) → IsEnabled s on t
  enabled on l (fifo, lcr, ier, (does, saved)) path =
      let m = machine_of s in
      let n = machine_of t in
      let level = unwrap_or (fields (inner_of s)).config.fifo_trigger_level One in
      let a = then_parts (BeginsEnabling lcr ier true) (Enabling lcr ier level on) v l m n does path in
      let reads = then_parts (Only (Read offsets.LCR lcr ∷ Read offsets.IER ier ∷ [])) (WaitsFor LSR.TRANSMITTER_EMPTY.0 true) v a.front m
      a.between a.first a.before in
      let still = kept_still (begins_enabling lcr ier true) refl v a.front m a.between ready.dlab a.first
      a.before in
      let held = size_left a.front m a.between
      (left_plain m (begins_enabling lcr ier true) refl v a.front a.first) a.before in
      let both = lcr_read v lcr ier true a.front m a.between ready.dlab a.first a.before in
      let switch = switch_path a.front m a.between a.before in
      let began = passed_begins lcr ier true a.front a.between a.first a.before in
      let e = enabled_by lcr ier level on v a.back a.second in
      let list = enabling_list lcr ier level e.0 in
      let p = path_as a.between n a.back list e.2 a.after in
      let w : Waited lcr ier a.between = record {
        sound = sound_path a.front m a.between sound a.before;
        fifo = ap (λ (k : Kept). k.fifo) still ∙ (ready.fifo ∙ is_on);
        dlab = ap (λ (k : Kept). is_dlab_set k.latches) still ∙ ready.dlab;
        is_lcr = both.0 ∙ sym (ap (λ (k : Kept). k.latches.lcr) still);
        is_ier = both.1 ∙ sym (ap (λ (k : Kept). k.latches.ier) still);
      } in
      let size : size_in t ≡ asked_size a.between.chip.has_size_switch a.between.chip.transmitter.size =
      size_enabled lcr ier e.0 level a.between n w p in
      let kept_all = kept_again lcr ier e.0 level a.between n w p ∙ still in
      let gone = transmitter.out a.between.chip.transmitter in
      let grown : gone ≡ out m = began.passed.went.sends.grows ∙ append-nil (out m) in
      let sent = sent_path gone list a.between n (refl, (refl, (refl, (refl, (refl, (tt, (refl, tt)))))))
      (sent_shown a.between.chip.transmitter (wait_empties v reads.back reads.between a.between reads.second reads.after)) p in
      let at = stands-after x m a.between a.front [] began.takes began.passed in
      record {
        answers = sym e.1 ∙ (is_shown lcr ier e.0 level a.between n w p ∙ switch);
        size =
            size ∙ (ap (λ (b : Bool). asked_size b a.between.chip.transmitter.size) switch
            ∙ ap (asked_size m.chip.has_size_switch) held);
        flushed = record { is_empty = shown_sent gone (transmitter_of t) sent; wire = sent.wire ∙ grown };
        received = λ same.
            let all = passes lcr ier e.0 level a.between n w p x session.open_modes (sym session.fifo ∙ is_on) at (same ∙ sym held) in
            received_all (a.front ++ list)
            (passed_blocks-trans x m a.between n a.front list [] [] [] [] began (nothing_taken x a.between n list [] all));
        latches = ap (λ (k : Kept). k.latches) kept_all;
        fifo = ap (λ (k : Kept). k.fifo) kept_all ∙ (ready.fifo ∙ is_on);
        ready =
            ready_by t (kept_in m.chip) kept_all ready.dlab ready.loopback (ap (λ (g : Fields). g.fifo) saved ∙ sym ready.fifo);
      }

  stalled : (l : List Access) → Enables64 (Err Stalled) (fields (inner_of s)) l (fields (inner_of t)) →
      Path MachineStep (machine_of s) l (machine_of t) → IsStillAsBefore s t
  stalled l (fifo, lcr, ier, (does, saved)) path =
      let m = machine_of s in
      let n = machine_of t in
      let still = kept_still (begins_enabling lcr ier false) refl v l m n ready.dlab does path in
      let size = size_left l m n (left_plain m (begins_enabling lcr ier false) refl v l does) path in
      let began = passed_begins lcr ier false l n does path in
      record {
        sent = began.passed.went.sends.grows ∙ append-nil (out m);
        received = received_all l began;
        size = size;
        latches = ap (λ (k : Kept). k.latches) still;
        ready = ready_by t (kept_in m.chip) still ready.dlab ready.loopback (ap (λ (g : Fields). g.fifo) saved ∙ sym ready.fifo)
            (fits_by s t (ap (λ (g : Fields). g.size) saved) size ready.fits);
      }

  pub enables : (result : Result Bool FifoSizeError) (l : List Access) → Enables64 result (fields (inner_of s)) l (fields (inner_of t)) →
      Path MachineStep (machine_of s) l (machine_of t) → Enables s result t
  enables (Ok on) l does path = enabled on l does path
  enables (Err Stalled) l does path = stalled l does path
  enables (Err FifosOff) l does path = let other : true ≡ false = sym is_on ∙ does.0 in absurd (cc)
  enables (Err (TooFew returned)) l does path = does

-- with the FIFOs off nothing is done
pub enables_off : (s t : State) (result : Result Bool FifoSizeError) (l : List Access) → (fields (inner_of s)).fifo ≡ false →
    Enables64 result (fields (inner_of s)) l (fields (inner_of t)) → Path MachineStep (machine_of s) l (machine_of t) →
    EnablesOff s result t
enables_off s t (Err FifosOff) l off does path = record {
  answers = refl;
  machine = path_as (machine_of s) (machine_of t) l [] does.1 path;
  driver = does.2;
}
enables_off s t (Err (TooFew returned)) l off does path = absurd does
enables_off s t _ l off does path = let other : false ≡ true = sym off ∙ does.0 in absurd (cc)

-- ---- where ticks come before each access, it does not stall

no_stall-enabling : (s : State) (n : MachineState) (lcr ier : ℕ) (l : List Access) → IsSound (machine_of s) → IsTimely s →
    IsUnheld (machine_of s) → HasRoom 0 (machine_of s) → BeginsEnabling lcr ier false (settings_of (fields (inner_of s))) l →
    Path MachineStep (machine_of s) l n → ⊥
no_stall-enabling s n lcr ier l w timely unheld room t path =
    let v = settings_of (fields (inner_of s)) in
    let reads : List Access = Read offsets.LCR lcr ∷ Read offsets.IER ier ∷ [] in
    let p = then_parts (Only reads) (WaitsFor LSR.TRANSMITTER_EMPTY.0 false) v l (machine_of s) n t path in
    let r : RunsFree (machine_of s) = record { sound = w; ticked = timely.ticked; room = room } in
    let a = free-path p.front (machine_of s) p.between r (rw p.first.is (tt, (tt, tt))) p.before in
    let still : IsUnheld p.between = ap (λ (k : Kept). k.auto_flow && has_any k.latches.mcr MCR.AUTO_FLOW.0)
    (kept_list p.front reads (machine_of s) p.between p.first.is p.before) ∙ unheld in
    let leaves = left_ever (machine_of s) p.front (unwritten p.front (rw p.first.is (tt, (tt, tt)))) in
    no_stall-empty v v.limit p.back p.between n (free_runs p.between still a) (few_left s p.front p.between w timely leaves p.before)
    p.second p.after

pub ends : (s t : State) (result : Result Bool FifoSizeError) (l : List Access) → IsSound (machine_of s) → IsTimely s →
    IsUnheld (machine_of s) → HasRoom 0 (machine_of s) → Enables64 result (fields (inner_of s)) l (fields (inner_of t)) →
    Path MachineStep (machine_of s) l (machine_of t) → result ≢ Err Stalled
ends s t (Err Stalled) l w timely unheld room (fifo, lcr, ier, (does, saved)) path e =
    no_stall-enabling s (machine_of t) lcr ier l w timely unheld room does path
ends s t _ l w timely unheld room does path e = absurd (cc)
