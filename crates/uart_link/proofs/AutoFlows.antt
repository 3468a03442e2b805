-- Flow control by the chips loses nothing in its direction.
use Rattle.uart_link.proofs.Names.{◌≡◌, ◌≤◌, ◌<◌, ◌+◌, ◌-◌, ◌&&◌, ◌⊎◌, inl, inr, ℕ, zero, suc, Bool, true, false, not, nat_lt, nat_le, List}
use Rattle.uart_link.proofs.Names.{[], ◌∷◌, ◌++◌, length, length-append, Option, Some, None, refl, sym, ◌∙◌, ap, subst, arith}
use Rattle.uart_link.proofs.Names.{AllByRecursion, common_steps, Event, Ticks, Arrive, Lines, Gate, Mark, Path, has_any, characters, Access}
use Rattle.uart_link.proofs.Names.{Read, Write, FifoSize, Character, Shifting, ChipState, is_loopback, is_auto_flow, is_held_off}
use Rattle.uart_link.proofs.Names.{rts_output, cut_of, tick, ticks, arrive, change_lines, MachineState, MachineStep, arrivals, perform}
use Rattle.uart_link.proofs.Names.{before_access, before_mark, at_access, ReceiverState, characters_of, is_data_pending, replace, enter}
use Rattle.uart_link.proofs.Names.{come_back, take_front, TransmitterState, looped_byte, shift, shift_bytes, load, room, Drop, drop_split}
use Rattle.uart_link.proofs.Names.{drop_receivers, Modes, loopback-in, LastsInEvents, chip_lasts-before, chip_lasts-before_mark}
use Rattle.uart_link.proofs.Names.{ring_fields, RingCall, RingAnswer, RingState, ring_machine, Moment, Side, Left, Right, Link, lines_from}
use Rattle.uart_link.proofs.Names.{settled, unknown, to_come, arranged, receiver_at, IsJoined, OfEnd, SeesLines, hold_of, DropsNothing}
use Rattle.uart_link.proofs.Names.{at_end, other, EndStep, Step, LinkChain}
use Rattle.uart_spec.specs.declared.registers.fifo_trigger_level.FifoTriggerLevel.{FifoTriggerLevel}
use Rattle.uart_spec.specs.declared.registers.modem_control.TheConstants.MCR
use Rattle.uart_spec.specs.declared.registers.modem_status.TheConstants.MSR
use Rattle.uart_chip.specs.Receiver as receiver
use Rattle.uart_chip.specs.Transmitter as transmitter
use Rattle.uart_chip.proofs.AccessMoves.{both_if, ReadMove, takes, read_move, WriteMove, sends, switches, resizes, clears, triggers, steers}
use Rattle.uart_chip.proofs.AccessMoves.{write_lasts}
use Rattle.uart_link.specs.AutoFlow.{begun, under_way, level_at, fifo_at, IsFlowStep, IsPacedByChip}
use Rattle.uart_link.proofs.{Arranges.arranged_events, EndPasses.InEnd, Flows.no_drop_still, Lefts.settled_grows, LinkSteps.link_chain}
use Rattle.uart_link.proofs.{LinkSteps.joined_after}
use Rattle.uart_link.proofs.Calm.{LeavesMcr, AllLeaveMcr, blocks_leave, LeavesCts, AllLeaveCts, HasCts, cts_after}
use Rattle.uart_link.proofs.EndFlows.{waits, IsHeldBack, EndKept, EndFlows, end_moves, call_did, CallDid, cts_arranged, cts_off}

-- ---- what calls leave that neither write FCR nor MCR

-- a property that lasts in events, and in accesses that write neither, lasts in all of them
module _ (P : ChipState → Type 0) (events : LastsInEvents P) (reads : (offset : ℕ) (c d : ChipState) → ReadMove offset c d → P c → P d)
    (writes : (offset value : ℕ) → LeavesMcr (Write offset value) → (c d : ChipState) → WriteMove offset value c d → P c → P d) where
  leaves_path : (made : List Access) (m n : MachineState) → AllLeaveMcr made → P m.chip → Path MachineStep m made n → P n.chip
  leaves_path [] m n h p path = rw path p
  leaves_path (Read offset value ∷ made) m n h p (mid, step, rest) =
      let now = chip_lasts-before P events m.ahead m.chip p in
      leaves_path made mid n h.1 (rw step.0 (reads offset (at_access m).chip _ (read_move offset (at_access m).chip) now)) rest
  leaves_path (Write offset value ∷ made) m n h p (mid, step, rest) =
      let now = chip_lasts-before P events m.ahead m.chip p in
      leaves_path made mid n h.1 (rw step (write_lasts P offset value (writes offset value h.0) (at_access m).chip now)) rest

-- ---- the trigger level, the size of the FIFO, and automatic flow control stay

abbrev Trigger : FifoTriggerLevel → ReceiverState → Type 0
Trigger level r = r.trigger ≡ level

abbrev Size : FifoSize → ReceiverState → Type 0
Size size r = r.size ≡ size

-- both of a receiver
abbrev Set : FifoTriggerLevel → FifoSize → ReceiverState → Type 0
Set level size r = Trigger level r × Size size r

module _ (level : FifoTriggerLevel) (size : FifoSize) where
  set_replace : (queue : List Character) (new : Character) (r : ReceiverState) → Set level size r → Set level size (replace queue new r)
  set_replace [] new r h = h
  set_replace (old ∷ others) new r h = h

  set_enter : (fifo : Bool) (new : Character) (r : ReceiverState) → Set level size r → Set level size (enter fifo new r)
  set_enter fifo new r h =
      both_if (Set level size) _ _ (nat_lt (length r.queue) (room fifo r.size)) h
      (both_if (Set level size) _ _ fifo h (set_replace r.queue new r h))

  set_back : (fifo : Bool) (looped : Option ℕ) (r : ReceiverState) → Set level size r → Set level size (come_back fifo looped r)
  set_back fifo None r h = h
  set_back fifo (Some byte) r h = set_enter fifo _ r h

  set_arrive : (loopback fifo : Bool) (byte errors : ℕ) (r : ReceiverState) → Set level size r →
      Set level size (receiver.arrive loopback fifo byte errors r)
  set_arrive loopback fifo byte errors r h =
      both_if (Set level size) _ _ loopback h (set_enter fifo _ (record r { arrived = r.arrived + 1 }) h)

  set_front : (queue : List Character) (r : ReceiverState) → Set level size r → Set level size (take_front queue r)
  set_front [] r h = h
  set_front (front ∷ others) r h = h

-- of a chip, with whether it has automatic flow control and with MCR
record IsMake (level : FifoTriggerLevel) (size : FifoSize) (has_flow : Bool) (control : ℕ) (c : ChipState) : Type 0 where
  pub set : Set level size c.receiver
  pub flow : c.auto_flow ≡ has_flow
  pub mcr : c.latches.mcr ≡ control

module _ (level : FifoTriggerLevel) (size : FifoSize) (has_flow : Bool) (control : ℕ) where
  abbrev Make : ChipState → Type 0
  Make c = IsMake level size has_flow control c

  make_events : LastsInEvents Make
  make_events = record {
    in_tick = λ c h. record {
      set = set_back level size c.fifo (looped_byte (is_loopback c.latches) c.transmitter.shift_register) c.receiver h.set;
      flow = h.flow;
      mcr = h.mcr;
    };
    in_arrival = λ byte errors c h. record {
      set = set_arrive level size (is_loopback c.latches) c.fifo (cut_of c byte) errors c.receiver h.set;
      flow = h.flow;
      mcr = h.mcr;
    };
    in_lines = λ inputs c h. record { set = h.set; flow = h.flow; mcr = h.mcr };
  }

  make_reads : (offset : ℕ) (c d : ChipState) → ReadMove offset c d → Make c → Make d
  make_reads offset c d (takes e q) h =
      record { set = set_front level size c.receiver.queue c.receiver h.set; flow = h.flow; mcr = h.mcr }
  make_reads offset c d _ h = record { set = h.set; flow = h.flow; mcr = h.mcr }

  make_writes : (offset value : ℕ) → LeavesMcr (Write offset value) → (c d : ChipState) → WriteMove offset value c d → Make c → Make d
  make_writes offset value l c d (switches e m on) h = let no : true ≡ false = rw e at l.0 in absurd (cc)
  make_writes offset value l c d (resizes e s) h = let no : true ≡ false = rw e at l.0 in absurd (cc)
  make_writes offset value l c d (clears e) h = let no : true ≡ false = rw e at l.0 in absurd (cc)
  make_writes offset value l c d (triggers e level) h = let no : true ≡ false = rw e at l.0 in absurd (cc)
  make_writes offset value l c d (steers e) h = let no : true ≡ false = rw e at l.1 in absurd (cc)
  make_writes offset value l c d _ h = record { set = h.set; flow = h.flow; mcr = h.mcr }

  make_path : (made : List Access) (m n : MachineState) → AllLeaveMcr made → Make m.chip → Path MachineStep m made n → Make n.chip
  make_path made m n l h path = leaves_path Make make_events make_reads make_writes made m n l h path

  make_mark : (events : List Event) (c : ChipState) → Make c → Make (before_mark events c)
  make_mark events c h = chip_lasts-before_mark Make make_events events c h

-- ---- a transmitter that is held off begins nothing

begun_shift : (place : Option Shifting) (t : TransmitterState) → t.shift_register ≡ place → begun (shift false place t) ≡ begun t
begun_shift None t e = refl
begun_shift (Some s) t e = go (nat_lt 1 s.ticks_left) refl (nat_lt (length t.wire) t.capacity) refl
  where
    whole : begun t ≡ length t.wire + 1
    whole = ap (λ (place : Option Shifting). length t.wire + length (shift_bytes place)) e

    go : (more : Bool) → nat_lt 1 s.ticks_left ≡ more → (free : Bool) → nat_lt (length t.wire) t.capacity ≡ free →
        begun (shift false (Some s) t) ≡ begun t
    go true f free g = rw f (sym whole)
    go false f true g = rw (f, g) (let long = length-append t.wire (s.byte ∷ []) in omega (arith, long, whole))
    go false f false g = rw (f, g) refl

-- automatic flow control is on, loopback and CTS are off, and so much has begun
record Holds (number : ℕ) (c : ChipState) : Type 0 where
  pub on : is_auto_flow c ≡ true
  pub cts : HasCts false c
  pub begun : begun c.transmitter ≡ number

module _ (number : ℕ) where
  holds_as : (c d : ChipState) → is_auto_flow d ≡ is_auto_flow c → d.latches.mcr ≡ c.latches.mcr → d.modem.lines ≡ c.modem.lines →
      begun d.transmitter ≡ begun c.transmitter → Holds number c → Holds number d
  holds_as c d on mcr lines same h = record {
    on = on ∙ h.on;
    cts = record {
      loopback = ap (λ v. has_any v MCR.LOOP_BACK.0) mcr ∙ h.cts.loopback;
      line = ap (λ v. has_any v MSR.CTS.0) lines ∙ h.cts.line;
    };
    begun = same ∙ h.begun;
  }

  is_off : (c : ChipState) → Holds number c → is_held_off c ≡ true
  is_off c h =
      ap (λ (b : Bool). b && not (has_any c.modem.lines MSR.CTS.0)) h.on ∙ ap (λ (b : Bool). not b) h.cts.line

  holds_tick : (c : ChipState) → Holds number c → Holds number (tick c)
  holds_tick c h =
      let t = c.transmitter in
      let same : begun (transmitter.tick (is_loopback c.latches) (is_held_off c) t) ≡ begun t =
      ap (λ (b : Bool). begun (transmitter.tick b (is_held_off c) t)) h.cts.loopback ∙
      (ap (λ (b : Bool). begun (transmitter.tick false b t)) (is_off c h) ∙ begun_shift t.shift_register t refl) in
      holds_as c (tick c) refl refl refl same h

  holds_ticks : (n : ℕ) (c : ChipState) → Holds number c → Holds number (ticks n c)
  holds_ticks zero c h = h
  holds_ticks (suc n) c h = holds_tick (ticks n c) (holds_ticks n c h)

  holds_lines : (inputs : ℕ) (c : ChipState) → has_any inputs MSR.CTS.0 ≡ false → is_auto_flow c ≡ true →
      is_loopback c.latches ≡ false → begun c.transmitter ≡ number → Holds number (change_lines inputs c)
  holds_lines inputs c off on loop same =
      record { on = on; cts = record { loopback = loop; line = rw loop off }; begun = same }

  holds_event : (event : Event) (c : ChipState) → LeavesCts false event → Holds number c → Holds number (perform event c)
  holds_event (Ticks n) c l h = holds_ticks n c h
  holds_event (Arrive byte errors) c l h = holds_as c (arrive byte errors c) refl refl refl refl h
  holds_event (Lines inputs) c l h = holds_lines inputs c l h.on h.cts.loopback h.begun
  holds_event _ c l h = h

  holds_before : (events : List Event) (c : ChipState) → AllLeaveCts false events → Holds number c → Holds number (before_access events c)
  holds_before [] c l h = holds_tick c h
  holds_before (Gate ∷ events) c l h = h
  holds_before (Mark ∷ events) c l h = holds_tick c h
  holds_before (event ∷ events) c l h = holds_before events (perform event c) l.1 (holds_event event c l.0 h)

  holds_mark : (events : List Event) (c : ChipState) → AllLeaveCts false events → Holds number c → Holds number (before_mark events c)
  holds_mark [] c l h = h
  holds_mark (Mark ∷ events) c l h = h
  holds_mark (event ∷ events) c l h = holds_mark events (perform event c) l.1 (holds_event event c l.0 h)

  holds_reads : (offset : ℕ) (c d : ChipState) → ReadMove offset c d → Holds number c → Holds number d
  holds_reads offset c d (takes e q) h = holds_as c d refl refl refl refl h
  holds_reads offset c d _ h = holds_as c d refl refl refl refl h

  begun_load : (fifo : Bool) (byte : ℕ) (t : TransmitterState) → begun (load fifo byte t) ≡ begun t
  begun_load fifo byte t =
      both_if (λ (u : TransmitterState). begun u ≡ begun t) _ _ (nat_lt (length t.queue) (room fifo t.size)) refl refl

  holds_writes : (offset value : ℕ) → LeavesMcr (Write offset value) → (c d : ChipState) → WriteMove offset value c d → Holds number c →
      Holds number d
  holds_writes offset value l c d (sends e q) h =
      holds_as c d refl refl refl (begun_load c.fifo (cut_of c value) c.transmitter) h
  holds_writes offset value l c d (steers e) h = let no : true ≡ false = rw e at l.1 in absurd (cc)
  holds_writes offset value l c d _ h = holds_as c d refl refl refl refl h

  -- from a machine on, in which it is held off
  holds_path : (made : List Access) (m n : MachineState) → Holds number m.chip → AllLeaveCts false m.ahead → AllLeaveMcr made →
      Path MachineStep m made n → Holds number (before_mark n.ahead n.chip)
  holds_path [] m n h e l path =
      let H : MachineState → Type 0 = λ o. Holds number (before_mark o.ahead o.chip) in
      subst H (sym path) (holds_mark m.ahead m.chip e h)
  holds_path (Read offset value ∷ made) m n h e l (mid, step, rest) =
      let c = (at_access m).chip in
      holds_path made mid n
      (rw step.0 (holds_reads offset c _ (read_move offset c) (holds_before m.ahead m.chip e h)))
      (rw step.0 (cts_after false m.ahead e)) l.1 rest
  holds_path (Write offset value ∷ made) m n h e l (mid, step, rest) =
      let c = (at_access m).chip in
      holds_path made mid n
      (rw step (write_lasts (Holds number) offset value (holds_writes offset value l.0) c (holds_before m.ahead m.chip e h)))
      (rw step (cts_after false m.ahead e)) l.1 rest

-- a machine whose next event is a change of the lines, and one in which that has happened, go on alike
path_begun : (number : ℕ) (made : List Access) (m n : MachineState) (inputs : ℕ) (events : List Event) →
    m.ahead ≡ Lines inputs ∷ events → Holds number (change_lines inputs m.chip) → AllLeaveCts false events → AllLeaveMcr made →
    Path MachineStep m made n → Holds number (before_mark n.ahead n.chip)
path_begun number made m n inputs events is h e l path =
    begins made l (subst (λ (o : MachineState). Path MachineStep o made n) same path)
  where
    same : m ≡ record m { ahead = Lines inputs ∷ events }
    same = ap (λ (es : List Event). record m { ahead = es }) is

    later : MachineState
    later = record { chip = change_lines inputs m.chip; ahead = events }

    begins : (made : List Access) → AllLeaveMcr made → Path MachineStep (record m { ahead = Lines inputs ∷ events }) made n →
        Holds number (before_mark n.ahead n.chip)
    begins [] l p =
        let H : MachineState → Type 0 = λ o. Holds number (before_mark o.ahead o.chip) in
        subst H (sym p) (holds_mark number events (change_lines inputs m.chip) e h)
    begins (Read offset value ∷ made) l p = holds_path number (Read offset value ∷ made) later n h e l p
    begins (Write offset value ∷ made) l p = holds_path number (Write offset value ∷ made) later n h e l p

-- ---- a call

-- it leaves the make of the chip of its end
call_make : (moments : List Moment) (there s t : RingState) (c : RingCall) (a : RingAnswer) → hold_of c ≡ None →
    EndStep moments there s c a t →
    let m = (ring_machine s).chip in
    IsMake m.receiver.trigger m.receiver.size m.auto_flow m.latches.mcr (ring_machine t).chip
call_make moments there s t c a none h =
    by (call_did h.begins t c a none h.called)
  where
    old : ChipState
    old = (ring_machine s).chip

    M : ChipState → Type 0
    M d = IsMake old.receiver.trigger old.receiver.size old.auto_flow old.latches.mcr d

    chip : (ring_machine h.begins).chip ≡ (settled (ring_machine s)).chip
    chip = ap (λ (o : MachineState). o.chip) h.arranges.machine

    first : M (ring_machine h.begins).chip
    first = subst M (sym chip) (make_mark _ _ _ _ (ring_machine s).ahead old (record { set = (refl, refl); flow = refl; mcr = refl }))

    by : CallDid h.begins t ⊎ ((ring_machine t ≡ settled (ring_machine h.begins)) × (ring_fields t ≡ ring_fields h.begins)) →
        M (ring_machine t).chip
    by (inl d) =
        let l : AllLeaveMcr d.list = let A : List Access → Type 0 = λ l. AllLeaveMcr l in
        subst A (sym d.facts.blocks.joined) (blocks_leave _ d.facts.blocks.blocks d.facts.blocks.fit) in
        make_path _ _ _ _ d.list (ring_machine h.begins) (ring_machine t) l first d.path
    by (inr e) =
        let N : MachineState → Type 0 = λ o. M o.chip in
        subst N (sym e.0) (make_mark _ _ _ _ (ring_machine h.begins).ahead (ring_machine h.begins).chip first)

-- and one that finds RTS of the other end off begins nothing
call_begins_none : (moments : List Moment) (there s t : RingState) (c : RingCall) (a : RingAnswer) → hold_of c ≡ None →
    is_loopback (ring_machine s).chip.latches ≡ false → is_auto_flow (ring_machine s).chip ≡ true → SeesLines moments →
    has_any (lines_from (ring_machine there).chip) MSR.CTS.0 ≡ false → EndStep moments there s c a t →
    begun (settled (ring_machine t)).chip.transmitter ≡ begun (settled (ring_machine s)).chip.transmitter
call_begins_none moments there s t c a none loop on lines off h =
    (by (call_did h.begins t c a none h.called)).begun
  where
    far : ChipState
    far = (ring_machine there).chip

    here : ChipState
    here = (settled (ring_machine s)).chip

    number : ℕ
    number = begun here.transmitter

    begins : MachineState
    begins = ring_machine h.begins

    chip : begins.chip ≡ here
    chip = ap (λ (o : MachineState). o.chip) h.arranges.machine

    -- what is ahead begins with the lines
    rest : List Event
    rest =
        let events = arranged_events lines.0 far here in events ++ unknown (to_come here - arrivals events)

    ahead : begins.ahead ≡ Lines (lines_from far) ∷ rest
    ahead =
        ap (λ (o : MachineState). o.ahead) h.arranges.machine
        ∙ ap (λ (ms : List Moment). (arranged ms far (ring_machine s)).ahead) lines.1

    old : ChipState
    old = (ring_machine s).chip

    make : IsMake old.receiver.trigger old.receiver.size old.auto_flow old.latches.mcr here
    make = make_mark _ _ _ _ (ring_machine s).ahead old (record { set = (refl, refl); flow = refl; mcr = refl })

    still_on : is_auto_flow here ≡ true
    still_on =
        ap (λ (b : Bool). b && has_any here.latches.mcr MCR.AUTO_FLOW.0) make.flow
        ∙ (ap (λ (v : ℕ). old.auto_flow && has_any v MCR.AUTO_FLOW.0) make.mcr ∙ on)

    still_out : is_loopback here.latches ≡ false
    still_out = ap (λ (v : ℕ). has_any v MCR.LOOP_BACK.0) make.mcr ∙ loop

    first : Holds number (change_lines (lines_from far) begins.chip)
    first =
        let H : ChipState → Type 0 = λ d. Holds number (change_lines (lines_from far) d) in
        subst H (sym chip) (holds_lines number (lines_from far) here off still_on still_out refl)

    leaves : AllLeaveCts false rest
    leaves = cts_arranged false lines.0 far here _ off

    -- a machine that has settled has nothing left to do
    settled_again : (m : MachineState) → Holds number (before_mark m.ahead m.chip) → Holds number (settled (settled m)).chip
    settled_again m w = w

    by : CallDid h.begins t ⊎ ((ring_machine t ≡ settled begins) × (ring_fields t ≡ ring_fields h.begins)) →
        Holds number (settled (ring_machine t)).chip
    by (inl d) =
        let l : AllLeaveMcr d.list = let A : List Access → Type 0 = λ l. AllLeaveMcr l in
        subst A (sym d.facts.blocks.joined) (blocks_leave _ d.facts.blocks.blocks d.facts.blocks.fit) in
        path_begun number d.list begins (ring_machine t) (lines_from far) rest ahead first leaves l d.path
    by (inr e) =
        let ended : Holds number (before_mark begins.ahead begins.chip) =
        path_begun number [] begins begins (lines_from far) rest ahead first leaves tt refl in
        let H : MachineState → Type 0 = λ o. Holds number (before_mark o.ahead o.chip) in
        let N : MachineState → Type 0 = λ o. Holds number (settled o).chip in
        subst N (sym e.0) (settled_again begins ended)

-- ---- one direction

-- what holds between calls
record FlowsByChip (late : ℕ) (from to : RingState) : Type 0 where
  sends : is_auto_flow (ring_machine from).chip ≡ true
  receives : is_auto_flow (ring_machine to).chip ≡ true
  fifo : (ring_machine to).chip.fifo ≡ true
  fits : level_at to + late ≤ fifo_at to + 1
  room : waits to + under_way from to ≤ fifo_at to

-- no more has left an end than it has begun
wire_begun : (s : RingState) → length (ring_machine s).chip.transmitter.wire ≤ begun (settled (ring_machine s)).chip.transmitter
wire_begun s =
    let g = settled_grows (ring_machine s) in
    let wire = (ring_machine s).chip.transmitter.wire in
    let sizes = ap length g.1 in
    let sum = length-append wire g.0 in
    omega (arith, sizes, sum)

-- automatic flow control stays on, and the trigger level as it is
stays_on : (s t : RingState) →
    (let m = (ring_machine s).chip in IsMake m.receiver.trigger m.receiver.size m.auto_flow m.latches.mcr (ring_machine t).chip) →
    is_auto_flow (ring_machine s).chip ≡ true → is_auto_flow (ring_machine t).chip ≡ true
stays_on s t make on =
    ap (λ (b : Bool). b && has_any (ring_machine t).chip.latches.mcr MCR.AUTO_FLOW.0) make.flow
    ∙ (ap (λ (v : ℕ). (ring_machine s).chip.auto_flow && has_any v MCR.AUTO_FLOW.0) make.mcr ∙ on)

-- RTS is off while as many wait as the trigger level
rts_falls : (s : RingState) → is_auto_flow (ring_machine s).chip ≡ true → (ring_machine s).chip.fifo ≡ true →
    nat_le (level_at s) (waits s) ≡ true → rts_output (ring_machine s).chip ≡ false
rts_falls s on fifo full =
    let c = (ring_machine s).chip in
    let held : (is_auto_flow c && (c.fifo && is_data_pending c.fifo c.receiver)) ≡ true =
    (λ i. on i && (fifo i && is_data_pending (fifo i) c.receiver)) ∙ full in
    ap (λ (b : Bool). has_any c.latches.mcr MCR.RTS.0 && not b) held ∙ none (has_any c.latches.mcr MCR.RTS.0)
  where
    none : (b : Bool) → (b && false) ≡ false
    none true = refl
    none false = refl

-- a call at the end that receives, and what was dropped there
record Flowed (late : ℕ) (from to before : RingState) : Type 0 where
  pub flow : FlowsByChip late from to
  pub whole : Drop (receiver_at before) (receiver_at to) → ⊥

receiver_acts : (x : Modes) (late : ℕ) (moments : List Moment) (c : RingCall) (a : RingAnswer) (s t r u : RingState) → InEnd x s →
    hold_of c ≡ None → EndStep moments r s c a t → u ≡ r →
    (receiver_at t).arrived ≤ length (ring_machine u).chip.transmitter.wire → FlowsByChip late r s → Flowed late u t s
receiver_acts x late moments c a s t r u w none h same behind flows =
    let F : RingState → Type 0 = λ o. Flowed late o t s in
    let B : RingState → Type 0 = λ o. (receiver_at t).arrived ≤ length (ring_machine o).chip.transmitter.wire in
    subst F (sym same) (acts (subst B same behind))
  where
    e : EndFlows (IsHeldBack moments (ring_machine r).chip) (EndKept c s t) s t
    e = end_moves x moments r s t c a w h

    make : IsMake (receiver_at s).trigger (receiver_at s).size (ring_machine s).chip.auto_flow (ring_machine s).chip.latches.mcr
        (ring_machine t).chip
    make = call_make moments r s t c a none h

    acts : (receiver_at t).arrived ≤ length (ring_machine r).chip.transmitter.wire → Flowed late r t s
    acts behind =
        let out = wire_begun r in
        let arrived = e.arrived in
        let waiting = e.waiting in
        let held = flows.room in
        let size : fifo_at t ≡ fifo_at s = ap characters make.set.1 in
        let level : level_at t ≡ level_at s = λ i. characters_of (make.set.1 i) (make.set.0 i) in
        record {
          flow = record {
            sends = flows.sends;
            receives = stays_on s t make flows.receives;
            fifo = e.fifo ∙ flows.fifo;
            fits = let f = flows.fits in omega (arith, f, size, level);
            room = omega (arith, held, waiting, arrived, behind, out, size);
          };
          whole = e.whole flows.fifo (omega (arith, held, arrived, behind, out));
        }

-- a call at the end that sends
sender_acts : (x : Modes) (late : ℕ) (moments : List Moment) (c : RingCall) (a : RingAnswer) (s t r u : RingState) → InEnd x s →
    hold_of c ≡ None → EndStep moments r s c a t → u ≡ r → SeesLines moments → under_way t u ≤ late → FlowsByChip late s r →
    Flowed late t u r
sender_acts x late moments c a s t r u w none h same lines few flows =
    let F : RingState → Type 0 = λ o. Flowed late t o r in
    let U : RingState → Type 0 = λ o. under_way t o ≤ late in
    subst F (sym same) (record {
      flow = record {
        sends = stays_on s t (call_make moments r s t c a none h) flows.sends;
        receives = flows.receives;
        fifo = flows.fifo;
        fits = flows.fits;
        room = go (nat_le (level_at r) (waits r)) refl (subst U same few);
      };
      whole = no_drop_still r r refl;
    })
  where
    loop : is_loopback (ring_machine s).chip.latches ≡ false
    loop = loopback-in _ (ring_machine s).chip w.session.stands.modes ∙ w.session.open_modes.loopback

    go : (full : Bool) → nat_le (level_at r) (waits r) ≡ full → under_way t r ≤ late → waits r + under_way t r ≤ fifo_at r
    go false e few =
        let below : waits r < level_at r = grind (arith, common_steps) in
        let fits = flows.fits in omega (arith, below, fits, few)
    go true e few =
        let off = cts_off (ring_machine r).chip (rts_falls r flows.receives flows.fifo e) in
        let none_begun = call_begins_none moments r s t c a none loop flows.sends lines off h in
        let held = flows.room in omega (arith, none_begun, held)

-- ---- calls of a link

step_flows : (x y : Modes) (late : ℕ) (end side : Side) (moments : List Moment) (c : RingCall) (answer : RingAnswer) (a b : Link) →
    InEnd x a.left → InEnd y a.right → EndStep moments (at_end (other side) a) (at_end side a) c answer (at_end side b) →
    at_end (other side) b ≡ at_end (other side) a → IsJoined b → hold_of c ≡ None → OfEnd end side (SeesLines moments) →
    OfEnd end side (under_way (at_end end b) (at_end (other end) b) ≤ late) → FlowsByChip late (at_end end a) (at_end (other end) a) →
    Flowed late (at_end end b) (at_end (other end) b) (at_end (other end) a)
step_flows x y late Left Left moments c answer a b w v h same joined none lines few flows =
    sender_acts x late moments c answer a.left b.left a.right b.right w none h same lines few flows
step_flows x y late Right Right moments c answer a b w v h same joined none lines few flows =
    sender_acts y late moments c answer a.right b.right a.left b.left v none h same lines few flows
step_flows x y late Left Right moments c answer a b w v h same joined none lines few flows =
    receiver_acts y late moments c answer a.right b.right a.left b.left v none h same joined.right.behind flows
step_flows x y late Right Left moments c answer a b w v h same joined none lines few flows =
    receiver_acts x late moments c answer a.left b.left a.right b.right w none h same joined.left.behind flows

chain_flows : (x y : Modes) (late : ℕ) (end : Side) (a b : Link) (steps : List Step) → InEnd x a.left → InEnd y a.right → IsJoined a →
    LinkChain a steps b → AllByRecursion (IsFlowStep late end) steps → FlowsByChip late (at_end end a) (at_end (other end) a) →
    Drop (receiver_at (at_end (other end) a)) (receiver_at (at_end (other end) b)) → ⊥
chain_flows x y late end a b [] w v joined h each flow d =
    no_drop_still (at_end (other end) a) (at_end (other end) b) (ap (λ (o : Link). at_end (other end) o) h) d
chain_flows x y late end a b (step ∷ steps) w v joined h each flow d =
    let here = sym h.0 in
    let to = other end in
    let w' = subst (λ (o : Link). InEnd x o.left) here w in
    let v' = subst (λ (o : Link). InEnd y o.right) here v in
    let joined' = subst (λ (o : Link). IsJoined o) here joined in
    let one = link_chain x y step.before step.after (step ∷ []) w' v' joined' (refl, h.1, refl) in
    let after = joined_after x y _ _ _ _ step.before step.after one in
    let flowed = step_flows x y late end step.call.side step.call.moments.items step.call.call step.answer step.before step.after w' v'
    h.1.0 h.1.1 after each.0.leaves each.0.lines each.0.few
    (subst (λ (o : Link). FlowsByChip late (at_end end o) (at_end to o)) here flow) in
    let rest = chain_flows x y late end step.after b steps one.in_left one.in_right after h.2 each.1 flowed.flow in
    split (subst (λ (o : Link). Drop (receiver_at (at_end to o)) (receiver_at (at_end to step.after)) → ⊥) h.0 flowed.whole) rest
    (drop_split (receiver_at (at_end to a)) (receiver_at (at_end to step.after)) (receiver_at (at_end to b)) d)
  where
    split : {A B : Type 0} → (A → ⊥) → (B → ⊥) → A ⊎ B → ⊥
    split f g (inl p) = f p
    split f g (inr q) = g q

pub chips_drop_nothing : (x y : Modes) (late : ℕ) (end : Side) (a b : Link) (steps : List Step) → InEnd x a.left → InEnd y a.right →
    IsJoined a → LinkChain a steps b → IsPacedByChip late end a steps → DropsNothing (other end) a b
chips_drop_nothing x y late end a b steps w v joined chain paced d =
    let begins = paced.begins in
    chain_flows x y late end a b steps w v joined chain paced.each (record {
      sends = begins.sends;
      receives = begins.receives;
      fifo = begins.fifo;
      fits = begins.fits;
      room = begins.room;
    }) (drop_receivers _ _ d)
