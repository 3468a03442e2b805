-- No event and no access changes the size of the FIFOs, but a write of FCR that switches it. So the size stays on a chip that has no
-- switch, and on any chip over accesses that write FCR only while DLAB is off.
use Rattle.std.proofs.Common.{◌≡◌, ℕ, ◌+◌, Bool, true, false, ◌==◌, nat_lt, List, [], ◌∷◌, length, Option, Some, None, refl, sym}
use Rattle.std.proofs.Common.{◌∙◌, ap, subst, if◌then◌else◌}
use Rattle.uart_events.specs.declared.event.Chip.{Chip}
use Rattle.uart_events.specs.declared.event.Chip.TheVariants.{Uart16550A, Uart16450}
use Rattle.uart_spec.specs.declared.access.Access.{Access}
use Rattle.uart_spec.specs.declared.access.Access.TheVariants.{Read, Write}
use Rattle.uart_spec.specs.Bits.{has_any}
use Rattle.uart_spec.specs.declared.registers.fifo_control.TheConstants.FCR
use Rattle.uart_spec.specs.declared.registers.line_control.TheConstants.LCR
use Rattle.uart_spec.specs.declared.registers.offsets.TheConstants as offsets
use Rattle.uart_chip.specs.declared.receiver.Character.{Character}
use Rattle.uart_chip.specs.Transmitter.{room}
use Rattle.uart_chip.specs.Receiver as receiver
use Rattle.uart_chip.specs.Receiver.{ReceiverState, replace, enter, come_back, take_front, clear}
use Rattle.uart_chip.specs.Chip.{ChipState, cut_of, is_dlab_set, is_loopback, is_held_off, is_same, tick, ticks, arrive}
use Rattle.uart_chip.specs.Chip.{after_read, after_write, control, switch, switch_size, is_switching, reset_receiver}
use Rattle.uart_chip.specs.Chip.{reset_transmitter, set_trigger, trigger_level, with_size, switched_size, empty_queues}
use Rattle.uart_chip.specs.Machine.{MachineState, MachineStep, at_access, at_mark}
use Rattle.uart_chip.specs.Switching.{SameSizes, EventsKeepSizes, ReadsKeepSizes, OnlySwitchesResize, SizesStayWithoutSwitch}
use Rattle.uart_chip.specs.Switching.{may_switch, lcr_after, SizesStayWithoutDlab}
use Rattle.uart_chip.proofs.AccessMoves.{both_if, if_at, ReadMove, takes, read_move, WriteMove, sends, resizes, write_cases, write_lasts}
use Rattle.uart_chip.proofs.Switching.{closed-keeps, lacking-keeps}
use Rattle.uart_chip.proofs.lasting.Lasting.{LastsInEvents, chip_lasts-ticks, chip_lasts-perform, chip_lasts-before, chip_lasts-before_mark}
use Rattle.uart_chip.proofs.soundness.Sounds.{size-tick, size-load, latches-control}

pub same_sizes : (c : ChipState) → SameSizes c c
same_sizes c = record { transmitter = refl; receiver = refl }

pub same_sizes-trans : (c d e : ChipState) → SameSizes c d → SameSizes d e → SameSizes c e
same_sizes-trans c d e p q = record { transmitter = q.transmitter ∙ p.transmitter; receiver = q.receiver ∙ p.receiver }

-- ---- the receiver

size-either : (r x y : ReceiverState) (b : Bool) → x.size ≡ r.size → y.size ≡ r.size → (if b then x else y).size ≡ r.size
size-either r x y true p q = p
size-either r x y false p q = q

size-replace : (queue : List Character) (new : Character) (r : ReceiverState) → (replace queue new r).size ≡ r.size
size-replace [] new r = refl
size-replace (old ∷ others) new r = refl

size-enter : (fifo : Bool) (new : Character) (r : ReceiverState) → (enter fifo new r).size ≡ r.size
size-enter fifo new r =
    size-either r _ _ (nat_lt (length r.queue) (room fifo r.size)) refl (size-either r _ _ fifo refl (size-replace r.queue new r))

size-come_back : (fifo : Bool) (looped : Option ℕ) (r : ReceiverState) → (come_back fifo looped r).size ≡ r.size
size-come_back fifo None r = refl
size-come_back fifo (Some byte) r = size-enter fifo _ r

size-arrive : (loopback fifo : Bool) (byte errors : ℕ) (r : ReceiverState) → (receiver.arrive loopback fifo byte errors r).size ≡ r.size
size-arrive true fifo byte errors r = refl
size-arrive false fifo byte errors r = size-enter fifo _ (record r { arrived = r.arrived + 1 })

size-take_front : (queue : List Character) (r : ReceiverState) → (take_front queue r).size ≡ r.size
size-take_front [] r = refl
size-take_front (front ∷ others) r = refl

-- ---- events

in_tick : (c : ChipState) → SameSizes c (tick c)
in_tick c = record {
  transmitter = size-tick (is_loopback c.latches) (is_held_off c) c.transmitter;
  receiver = size-come_back c.fifo _ c.receiver;
}

sizes_last : (c : ChipState) → LastsInEvents (SameSizes c)
sizes_last c = record {
  in_tick = λ d p. same_sizes-trans c d (tick d) p (in_tick d);
  in_arrival =
      λ byte errors d p. same_sizes-trans c d (arrive byte errors d) p
      (record { transmitter = refl; receiver = size-arrive (is_loopback d.latches) d.fifo (cut_of d byte) errors d.receiver });
  in_lines = λ inputs d p. record { transmitter = p.transmitter; receiver = p.receiver };
}

pub same_size-ticks : (n : ℕ) (c : ChipState) → SameSizes c (ticks n c)
same_size-ticks n c = chip_lasts-ticks (SameSizes c) (sizes_last c) n c (same_sizes c)

pub same_size-event : EventsKeepSizes
same_size-event event c = chip_lasts-perform (SameSizes c) (sizes_last c) event c (same_sizes c)

pub same_size-mark : (m : MachineState) → SameSizes m.chip (at_mark m).chip
same_size-mark m = chip_lasts-before_mark (SameSizes m.chip) (sizes_last m.chip) m.ahead m.chip (same_sizes m.chip)

pub same_size-access : (m : MachineState) → SameSizes m.chip (at_access m).chip
same_size-access m = chip_lasts-before (SameSizes m.chip) (sizes_last m.chip) m.ahead m.chip (same_sizes m.chip)

-- ---- accesses

in_read : (offset : ℕ) (c d : ChipState) → ReadMove offset c d → SameSizes c d
in_read offset c d (takes e q) = record { transmitter = refl; receiver = size-take_front c.receiver.queue c.receiver }
in_read offset c d _ = record { transmitter = refl; receiver = refl }

pub same_size-read : ReadsKeepSizes
same_size-read offset c = in_read offset c _ (read_move offset c)

in_write : (offset value : ℕ) (c d : ChipState) → (offset ≡ offsets.FCR → is_switching value c ≡ false) → WriteMove offset value c d →
    SameSizes c d
in_write offset value c d keeps (sends e q) =
    record { transmitter = size-load c.fifo (cut_of c value) c.transmitter; receiver = refl }
in_write offset value c d keeps (resizes e s) = let no : true ≡ false = sym s ∙ keeps e in absurd (cc)
in_write offset value c d keeps _ = record { transmitter = refl; receiver = refl }

in_control : (model : Chip) (value : ℕ) (c : ChipState) → is_switching value c ≡ false → SameSizes c (control model value c)
in_control Uart16450 value c keeps = same_sizes c
in_control Uart16550A value c keeps =
    let on : Bool = has_any value FCR.FIFO_ENABLE.0 in
    let S : ChipState → Type 0 = SameSizes c in
    let d : ChipState = if is_same c.fifo on then c else switch on c in
    let a : S d = both_if S c (switch on c) (is_same c.fifo on) (same_sizes c) (record { transmitter = refl; receiver = refl }) in
    let still : is_switching value d ≡ false =
    both_if (λ e. is_switching value e ≡ false) c (switch on c) (is_same c.fifo on) keeps keeps in
    let e : ChipState = switch_size value d in
    let b : S e =
    subst S (sym (ap (λ (b : Bool). if b then with_size (switched_size value) (empty_queues d) else d) still)) a in
    let f : ChipState = reset_receiver value e in
    let p : S f =
    both_if S (record e { receiver = clear e.receiver }) e (has_any value FCR.RX_FIFO_RESET.0)
    (record { transmitter = b.transmitter; receiver = b.receiver }) b in
    let g : ChipState = reset_transmitter value f in
    let q : S g =
    both_if S (record f { transmitter = record f.transmitter { queue = []; is_thr_pending = true } }) f
    (has_any value FCR.TX_FIFO_RESET.0) (record { transmitter = p.transmitter; receiver = p.receiver }) p in
    both_if S (set_trigger (trigger_level value) g) d on (record { transmitter = q.transmitter; receiver = q.receiver }) a

-- only a write of FCR that switches the size changes it
pub same_size-write : OnlySwitchesResize
same_size-write offset value c keeps =
    write_cases (SameSizes c) offset value c (λ d m. in_write offset value c d keeps m) (λ e. in_control c.model value c (keeps e))

-- an access of a machine, and the events before it
same_size-step : (m n : MachineState) (access : Access) → MachineStep m access n →
    ((offset value : ℕ) → access ≡ Write offset value → offset ≡ offsets.FCR → is_switching value (at_access m).chip ≡ false) →
    SameSizes m.chip n.chip
same_size-step m n (Read offset value) step keeps =
    same_sizes-trans m.chip (at_access m).chip n.chip (same_size-access m) (rw step.0 (same_size-read offset (at_access m).chip))
same_size-step m n (Write offset value) step keeps =
    same_sizes-trans m.chip (at_access m).chip n.chip (same_size-access m)
    (rw step (same_size-write offset value (at_access m).chip (keeps offset value refl)))

-- ---- a chip that has no switch

-- no event and no access gives it one
switch_lasts : (has : Bool) → LastsInEvents (λ c. c.has_size_switch ≡ has)
switch_lasts has = record { in_tick = λ c e. e; in_arrival = λ byte errors c e. e; in_lines = λ inputs c e. e }

switch-access : (m : MachineState) → (at_access m).chip.has_size_switch ≡ m.chip.has_size_switch
switch-access m =
    chip_lasts-before (λ c. c.has_size_switch ≡ m.chip.has_size_switch) (switch_lasts m.chip.has_size_switch) m.ahead m.chip refl

switch-read : (offset : ℕ) (c d : ChipState) → ReadMove offset c d → d.has_size_switch ≡ c.has_size_switch
switch-read offset c d (takes e q) = refl
switch-read offset c d _ = refl

switch-write : (has : Bool) (offset value : ℕ) (c d : ChipState) → WriteMove offset value c d → c.has_size_switch ≡ has →
    d.has_size_switch ≡ has
switch-write has offset value c d (sends e q) h = h
switch-write has offset value c d _ h = h

pub switch-step : (m n : MachineState) (access : Access) → MachineStep m access n → n.chip.has_size_switch ≡ m.chip.has_size_switch
switch-step m n (Read offset value) step =
    let r : ChipState = (at_access m).chip in
    rw step.0 (switch-read offset r (after_read offset r) (read_move offset r) ∙ switch-access m)
switch-step m n (Write offset value) step =
    let r : ChipState = (at_access m).chip in
    let has : Bool = m.chip.has_size_switch in
    rw step (write_lasts (λ c. c.has_size_switch ≡ has) offset value (switch-write has offset value) r (switch-access m))

pub same_size-lacking : SizesStayWithoutSwitch
same_size-lacking [] m n none path = rw path (same_sizes m.chip)
same_size-lacking (access ∷ made) m n none (mid, step, rest) =
    same_sizes-trans m.chip mid.chip n.chip
    (same_size-step m mid access step (λ offset value e f. lacking-keeps value (at_access m).chip (switch-access m ∙ none)))
    (same_size-lacking made mid n (switch-step m mid access step ∙ none) rest)

-- ---- accesses that write FCR only while DLAB is off

lcr-access : (m : MachineState) → (at_access m).chip.latches.lcr ≡ m.chip.latches.lcr
lcr-access m =
    chip_lasts-before (λ c. c.latches.lcr ≡ m.chip.latches.lcr)
    (record { in_tick = λ c e. e; in_arrival = λ byte errors c e. e; in_lines = λ inputs c e. e }) m.ahead m.chip refl

lcr-read : (offset : ℕ) (c d : ChipState) → ReadMove offset c d → d.latches.lcr ≡ c.latches.lcr
lcr-read offset c d (takes e q) = refl
lcr-read offset c d _ = refl

lcr-write : (offset value : ℕ) (c : ChipState) →
    (after_write offset value c).latches.lcr ≡ (if offset == offsets.LCR then value else c.latches.lcr)
lcr-write offset value c =
    let M : ChipState → Type 0 = λ d. d.latches.lcr ≡ (if offset == offsets.LCR then value else c.latches.lcr) in
    if_at M _ _ offset offsets.DATA (λ e. both_if M _ _ (is_dlab_set c.latches) (rw e refl) (rw e refl))
    (λ _. if_at M _ _ offset offsets.IER (λ e. both_if M _ _ (is_dlab_set c.latches) (rw e refl) (rw e refl))
    (λ _. if_at M _ _ offset offsets.FCR (λ e. rw e (ap (λ l. l.lcr) (latches-control c.model value c)))
    (λ _. if_at M _ _ offset offsets.LCR (λ e. rw e refl)
    (λ n. if_at M _ _ offset offsets.MCR (λ e. rw e refl)
    (λ _. if_at M _ _ offset offsets.SPR (λ e. rw e refl) (λ _. rw n refl))))))

lcr-step : (m n : MachineState) (access : Access) → MachineStep m access n → n.chip.latches.lcr ≡ lcr_after access m.chip.latches.lcr
lcr-step m n (Read offset value) step =
    let r : ChipState = (at_access m).chip in
    rw step.0 (lcr-read offset r (after_read offset r) (read_move offset r) ∙ lcr-access m)
lcr-step m n (Write offset value) step =
    rw step (lcr-write offset value (at_access m).chip ∙
    ap (λ (lcr : ℕ). if offset == offsets.LCR then value else lcr) (lcr-access m))

-- a write of FCR that may switch nothing comes while DLAB is off
closed_by : (m : MachineState) (access : Access) → may_switch m.chip.latches.lcr access ≡ false → (offset value : ℕ) →
    access ≡ Write offset value → offset ≡ offsets.FCR → is_switching value (at_access m).chip ≡ false
closed_by m access never offset value e f =
    let closed : may_switch m.chip.latches.lcr (Write offsets.FCR value) ≡ false = rw (e, f) at never in
    closed-keeps value (at_access m).chip (ap (λ (lcr : ℕ). has_any lcr LCR.DLAB.0) (lcr-access m) ∙ closed)

pub same_size : SizesStayWithoutDlab
same_size [] m n never path = rw path (same_sizes m.chip)
same_size (access ∷ made) m n never (mid, step, rest) =
    same_sizes-trans m.chip mid.chip n.chip (same_size-step m mid access step (closed_by m access never.0))
    (same_size made mid n (rw (lcr-step m mid access step) never.1) rest)
