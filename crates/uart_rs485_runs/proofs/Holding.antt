-- At a bus the output makes the transceiver do what MCR was last written for, at each moment.
use Rattle.std.proofs.Common.{◌≡◌, ◌==◌, ◌&&◌, ℕ, Bool, true, false, not, List, [], ◌∷◌, Option, Some, None, refl, sym, ◌∙◌, ap}
use Rattle.std.proofs.Common.{subst, arith, if◌then◌else◌}
use Rattle.std.proofs.lemmas.Grind.{common_steps}
use lib.Bits.{and_zero_r}
use Rattle.uart_spec.specs.Access.{Path}
use Rattle.uart_spec.specs.Bits.{has, has_any}
use Rattle.uart_spec.specs.declared.access.Access.{Access}
use Rattle.uart_spec.specs.declared.access.Access.TheVariants.{Read, Write}
use Rattle.uart_spec.specs.declared.registers.line_status.TheConstants.LSR
use Rattle.uart_spec.specs.declared.registers.modem_control.TheConstants.MCR
use Rattle.uart_spec.specs.declared.registers.offsets.TheConstants as offsets
use Rattle.uart_16550.specs.Frame.{unlooped}
use Rattle.uart_events.specs.declared.event.Event.{Event}
use Rattle.uart_events.specs.declared.event.Event.TheVariants.{Ticks, Access as Gate, Mark}
use Rattle.uart_chip.specs.declared.transmitter.Shifting.{Shifting}
use Rattle.uart_chip.specs.Masks.{kept_mcr}
use Rattle.uart_chip.specs.Transmitter.{TransmitterState, shift, refill, tick}
use Rattle.uart_chip.specs.Chip.{ChipState, LatchesState, is_auto_flow, is_dlab_set, is_loopback, is_transmitter_empty, line_status}
use Rattle.uart_chip.specs.Chip.{rts_output, after_read, after_write, ticks}
use Rattle.uart_chip.specs.Chip as chip
use Rattle.uart_chip.specs.Machine.{MachineState, MachineStep, perform, at_access}
use Rattle.uart_chip.proofs.AccessMoves.{ReadMove, takes, read_move, WriteMove, steers, write_lasts}
use Rattle.uart_chip.proofs.AutoFlow.{cleared_off}
use Rattle.uart_chip.proofs.Bits.{has_one}
use Rattle.uart_chip.proofs.McrBits.{kept_bit, flow_bit}
use Rattle.uart_chip.proofs.conservation.BlockLaws.{path_as}
use Rattle.uart_chip.proofs.lasting.Lasting.{Lasts, LastsInEvents, lasts-read, lasts-write, chip_lasts-ticks, chip_lasts-perform}
use Rattle.uart_chip.proofs.lasting.Lasting.{chip_lasts-before}
use Rattle.uart_chip.proofs.statuses.Status.{status_empty}
use Rattle.uart_rs485.specs.Directions.{drives_itself, empty_after_one, sends_after, sends_after_one, sends_by, turned}
use Rattle.uart_rs485.specs.declared.direction.Direction.{Direction}
use Rattle.uart_rs485.specs.declared.direction.DirectionLine.{DirectionLine}
use Rattle.uart_rs485.specs.declared.direction.DirectionLine.TheVariants.{Rts, Dtr}
use Rattle.uart_rs485.proofs.Allowing.{Allows, AllowsAll}
use Rattle.uart_rs485.proofs.Keeping.{Finish, calls_kept, finish_made, frees}
use Rattle.uart_rs485.proofs.RingKeeping as ring
use Rattle.uart_rs485.proofs.Turning.{switches_turn, unlooped_off}
use Rattle.uart_rs485_runs.specs.Outputs.{sends_by_output, is_sent, IsSwitched, UpToAccess, IsSwitchedThroughout, IsAtBus}
use Rattle.uart_rs485_runs.specs.Outputs.{BeginsAtBus, EventsStayAtBus, HoldsBus, CallsHoldBus}
use Rattle.uart_rs485_runs.specs.Outputs.{GivingUpReceives, RingCallsHoldBus, RingsBeginAtBus}

-- ---- an empty transmitter

abbrev IsEmpty : TransmitterState → Type 0
IsEmpty t = is_transmitter_empty t.queue t.shift_register ≡ true

empty_parts : (queue : List ℕ) (place : Option Shifting) → is_transmitter_empty queue place ≡ true → (queue ≡ []) × (place ≡ None)
empty_parts [] None e = (refl, refl)
empty_parts [] (Some s) e = absurd (cc)
empty_parts (x ∷ xs) place e = absurd (cc)

without_queue : (queue : List ℕ) (place : Option Shifting) → is_transmitter_empty queue place ≡ true → is_transmitter_empty [] place ≡ true
without_queue queue place e = rw (empty_parts queue place e).1 refl

empty_shift : (loopback : Bool) (place : Option Shifting) (t : TransmitterState) → place ≡ None → IsEmpty t →
    IsEmpty (shift loopback place t)
empty_shift loopback None t is e = e
empty_shift loopback (Some s) t is e = absurd (cc)

empty_refill : (place : Option Shifting) (queue : List ℕ) (t : TransmitterState) → queue ≡ [] → IsEmpty t → IsEmpty (refill place queue t)
empty_refill (Some s) queue t is e = e
empty_refill None [] t is e = e
empty_refill None (x ∷ xs) t is e = absurd (cc)

empty_tick : (loopback held_off : Bool) (t : TransmitterState) → IsEmpty t → IsEmpty (tick loopback held_off t)
empty_tick loopback held_off t e =
    let u = shift loopback t.shift_register t in
    let shifted : IsEmpty u = empty_shift loopback t.shift_register t (empty_parts t.queue t.shift_register e).1 e in
    go held_off u shifted
  where
    go : (held_off : Bool) (u : TransmitterState) → IsEmpty u → IsEmpty (if held_off then u else refill u.shift_register u.queue u)
    go true u e = e
    go false u e = empty_refill u.shift_register u.queue u (empty_parts u.queue u.shift_register e).0 e

empty_lasts : Lasts IsEmpty
empty_lasts = record {
  in_accesses = record {
    pending = λ t pending e. e;
    cleared = λ t pending e. without_queue t.queue t.shift_register e;
    resized = λ t size e. without_queue t.queue t.shift_register e;
  };
  in_tick = empty_tick;
}

-- ---- what happens between accesses

at_bus_lasts : (d : Direction) (sends : Bool) → LastsInEvents (IsAtBus d sends)
at_bus_lasts d sends = record {
  in_tick = λ c w. record {
    mcr = w.mcr;
    own = w.own;
    loopback = w.loopback;
    sent = λ off. empty_tick _ _ c.transmitter (w.sent off);
  };
  in_arrival = λ byte errors c w. record { mcr = w.mcr; own = w.own; loopback = w.loopback; sent = w.sent };
  in_lines = λ inputs c w. record { mcr = w.mcr; own = w.own; loopback = w.loopback; sent = w.sent };
}

pub events_stay : EventsStayAtBus
events_stay d sends event c w = chip_lasts-perform (IsAtBus d sends) (at_bus_lasts d sends) event c w

-- ---- what the output makes of MCR

-- outside of loopback, with no flow control by the chip, the output is its bit in MCR
shown : (looped flow full bit : Bool) → looped ≡ false → flow ≡ false → (not looped && (bit && not (flow && full))) ≡ bit
shown looped flow full bit off still = rw (off, still) (go bit)
  where
    go : (bit : Bool) → (bit && true) ≡ bit
    go true = refl
    go false = refl

shown_plain : (looped bit : Bool) → looped ≡ false → (not looped && bit) ≡ bit
shown_plain looped bit off = rw off refl

switched_by : (line : DirectionLine) (set sends : Bool) (c : ChipState) →
    let d : Direction = record { line = line; sends_when_set = set } in
    sends_by d c.latches.mcr ≡ sends → drives_itself d c.latches.mcr ≡ false → is_loopback c.latches ≡ false → sends_by_output d c ≡ sends
switched_by Rts set sends c mcr own loopback =
    ap (λ (b : Bool). if b then set else not set) (shown (is_loopback c.latches) (is_auto_flow c) _ (has_any c.latches.mcr MCR.RTS.0)
    loopback (cleared_off c own) ∙ sym (has_one 1 c.latches.mcr)) ∙ mcr
switched_by Dtr set sends c mcr own loopback =
    ap (λ (b : Bool). if b then set else not set) (shown_plain (is_loopback c.latches) (has_any c.latches.mcr MCR.DTR.0) loopback
    ∙ sym (has_one 0 c.latches.mcr)) ∙ mcr

is_switched : (d : Direction) (sends : Bool) (c : ChipState) → IsAtBus d sends c → IsSwitched d sends c
is_switched d sends c w =
    let by = switched_by d.line d.sends_when_set sends c w.mcr w.own w.loopback in
    record { direction = by; whole = λ busy. by ∙ go sends w.sent busy }
  where
    go : (sends : Bool) → (sends ≡ false → is_sent c ≡ true) → is_sent c ≡ false → sends ≡ true
    go true sent busy = refl
    go false sent busy = let no : true ≡ false = sym (sent refl) ∙ busy in absurd (cc)

up_to : (d : Direction) (sends : Bool) (events : List Event) (c : ChipState) → IsAtBus d sends c →
    UpToAccess (IsSwitched d sends) events c
up_to d sends [] c w = (is_switched d sends c w, is_switched d sends (chip.tick c) ((at_bus_lasts d sends).in_tick c w))
up_to d sends (Gate ∷ events) c w = is_switched d sends c w
up_to d sends (Mark ∷ events) c w =
    (is_switched d sends c w, is_switched d sends (chip.tick c) ((at_bus_lasts d sends).in_tick c w))
up_to d sends (Ticks n ∷ events) c w = (
  λ k few. is_switched d sends (ticks k c) (chip_lasts-ticks (IsAtBus d sends) (at_bus_lasts d sends) k c w),
  up_to d sends events (ticks n c) (chip_lasts-ticks (IsAtBus d sends) (at_bus_lasts d sends) n c w),
)
up_to d sends (event ∷ events) c w =
    (is_switched d sends c w, up_to d sends events (perform event c) (events_stay d sends event c w))

-- ---- an access

-- while the transmitter is known to be empty, it is
record Known (d : Direction) (sends empty : Bool) (c : ChipState) : Type 0 where
  at_bus : IsAtBus d sends c
  knows : empty ≡ true → IsEmpty c.transmitter

-- with the same MCR, and a transmitter that stays empty
at_bus_by : (d : Direction) (sends : Bool) (b c : ChipState) → c.latches.mcr ≡ b.latches.mcr →
    (IsEmpty b.transmitter → IsEmpty c.transmitter) → IsAtBus d sends b → IsAtBus d sends c
at_bus_by d sends b c same stays w = record {
  mcr = ap (sends_by d) same ∙ w.mcr;
  own = ap (drives_itself d) same ∙ w.own;
  loopback = ap (λ (v : ℕ). has_any v MCR.LOOP_BACK.0) same ∙ w.loopback;
  sent = λ off. stays (w.sent off);
}

same_read : (offset : ℕ) (c d : ChipState) → ReadMove offset c d → d.latches.mcr ≡ c.latches.mcr
same_read offset c d (takes e q) = refl
same_read offset c d _ = refl

-- the bits of MCR as the chip keeps them
kept_sends : (line : DirectionLine) (set f : Bool) (value : ℕ) → let d : Direction = record { line = line; sends_when_set = set } in
    sends_by d (kept_mcr f value) ≡ sends_by d value
kept_sends Rts set f value =
    ap (λ (b : Bool). if b then set else not set) (has_one 1 (kept_mcr f value) ∙ (kept_bit f 1 value refl refl ∙ sym (has_one 1 value)))
kept_sends Dtr set f value =
    ap (λ (b : Bool). if b then set else not set) (has_one 0 (kept_mcr f value) ∙ (kept_bit f 0 value refl refl ∙ sym (has_one 0 value)))

kept_own : (line : DirectionLine) (set f : Bool) (value : ℕ) → drives_itself (record { line = line; sends_when_set = set }) value ≡ false →
    drives_itself (record { line = line; sends_when_set = set }) (kept_mcr f value) ≡ false
kept_own Rts set f value off = flow_bit f value ∙ ap (λ (b : Bool). b && f) off
kept_own Dtr set f value off = ap (λ (n : ℕ). not (n == 0)) (and_zero_r (kept_mcr f value))

-- MCR is written
steered : (d : Direction) (sends empty : Bool) (value : ℕ) (c : ChipState) → (sends_by d value ≡ false → empty ≡ true) →
    drives_itself d value ≡ false → has_any value MCR.LOOP_BACK.0 ≡ false → (empty ≡ true → IsEmpty c.transmitter) →
    IsAtBus d (sends_by d value) (after_write offsets.MCR value c)
steered d sends empty value c due own off knows = record {
  mcr = kept_sends d.line d.sends_when_set c.auto_flow value;
  own = kept_own d.line d.sends_when_set c.auto_flow value own;
  loopback = kept_bit c.auto_flow 4 value refl refl ∙ off;
  sent = λ receives. knows (due receives);
}

-- another register than DATA is written, and not MCR
same_write : (offset value : ℕ) → (offset == offsets.MCR) ≡ false → (c : ChipState) →
    (after_write offset value c).latches.mcr ≡ c.latches.mcr
same_write offset value other c =
    write_lasts (λ (d : ChipState). d.latches.mcr ≡ c.latches.mcr) offset value in_move c refl
  where
    in_move : (b d : ChipState) → WriteMove offset value b d → b.latches.mcr ≡ c.latches.mcr → d.latches.mcr ≡ c.latches.mcr
    in_move b d (steers e) same = let no : true ≡ false = rw e at other in absurd (cc)
    in_move b d _ same = same

known_read : (d : Direction) (sends empty : Bool) (offset : ℕ) (c : ChipState) → Known d sends empty c →
    Known d sends (empty_after_one empty (Read offset (chip.answer offset c))) (after_read offset c)
known_read d sends empty offset c k = record {
  at_bus = at_bus_by d sends c (after_read offset c) (same_read offset c _ (read_move offset c))
      (lasts-read IsEmpty empty_lasts.in_accesses offset c) k.at_bus;
  knows = λ is. lasts-read IsEmpty empty_lasts.in_accesses offset c (go (offset == offsets.LSR) refl is);
}
  where
    go : (b : Bool) → (offset == offsets.LSR) ≡ b →
        (if b then has (chip.answer offset c) LSR.TRANSMITTER_EMPTY.0 else empty) ≡ true → IsEmpty c.transmitter
    go false other is = k.knows is
    go true at is =
        let lsr : offset ≡ offsets.LSR = grind (arith, common_steps) in
        let line : chip.answer offset c ≡ line_status c = rw lsr refl in
        sym (status_empty c) ∙ (sym (has_one 6 (line_status c)) ∙ (ap (λ (v : ℕ). has v LSR.TRANSMITTER_EMPTY.0) (sym line) ∙ is))

known_write : (d : Direction) (sends empty : Bool) (offset value : ℕ) (c : ChipState) → Allows d sends empty (Write offset value) →
    Known d sends empty c →
    Known d (sends_after_one d sends (Write offset value)) (empty_after_one empty (Write offset value)) (after_write offset value c)
known_write d sends empty offset value c t k = go (offset == offsets.DATA) refl
  where
    at_mcr : (b : Bool) → (offset == offsets.MCR) ≡ b → (offset == offsets.DATA) ≡ false →
        Known d (if b then sends_by d value else sends) empty (after_write offset value c)
    at_mcr true at other =
        let mcr : offset ≡ offsets.MCR = grind (arith, common_steps) in
        let own = t.2 mcr in
        rw mcr (record {
          at_bus = steered d sends empty value c (t.1 mcr) own.0 own.1 k.knows;
          knows = k.knows;
        })
    at_mcr false not_mcr other =
        let stays : IsEmpty c.transmitter → IsEmpty (after_write offset value c).transmitter =
        lasts-write IsEmpty empty_lasts.in_accesses offset value c other in
        record {
          at_bus = at_bus_by d sends c (after_write offset value c) (same_write offset value not_mcr c) stays k.at_bus;
          knows = λ is. stays (k.knows is);
        }

    -- a byte is written, which is allowed only while the transceiver sends
    loaded : (b : ChipState) → b.latches.mcr ≡ c.latches.mcr → sends ≡ true → Known d sends false b
    loaded b same on = record {
      at_bus = record {
        mcr = ap (sends_by d) same ∙ k.at_bus.mcr;
        own = ap (drives_itself d) same ∙ k.at_bus.own;
        loopback = ap (λ (v : ℕ). has_any v MCR.LOOP_BACK.0) same ∙ k.at_bus.loopback;
        sent = λ off. let no : true ≡ false = sym on ∙ off in absurd (cc);
      };
      knows = λ is. absurd (cc);
    }

    go : (b : Bool) → (offset == offsets.DATA) ≡ b →
        Known d (if offset == offsets.MCR then sends_by d value else sends) (not b && empty) (after_write offset value c)
    go false other = at_mcr (offset == offsets.MCR) refl other
    go true at =
        let at_data : offset ≡ offsets.DATA = grind (arith, common_steps) in
        let not_mcr : (offset == offsets.MCR) ≡ false = rw at_data refl in
        subst (λ (b : Bool). Known d (if b then sends_by d value else sends) false (after_write offset value c)) (sym not_mcr)
        (loaded (after_write offset value c) (same_write offset value not_mcr c) (t.0 at_data))

-- ---- a list

hold : (d : Direction) (sends empty : Bool) (l : List Access) (m n : MachineState) → AllowsAll d sends empty l →
    (path : Path MachineStep m l n) → Known d sends empty m.chip →
    IsSwitchedThroughout d sends l m n path × IsAtBus d (sends_after d sends l) n.chip
hold d sends empty [] m n t path k = (is_switched d sends m.chip k.at_bus, rw path k.at_bus)
hold d sends empty (access ∷ l) m n t path k =
    let events = m.ahead in
    let there : Known d sends empty (at_access m).chip = record {
      at_bus = chip_lasts-before (IsAtBus d sends) (at_bus_lasts d sends) m.ahead m.chip k.at_bus;
      knows = λ is. chip_lasts-before (λ (c : ChipState). IsEmpty c.transmitter) empty_in_events m.ahead m.chip (k.knows is);
    } in
    let next = hold d (sends_after_one d sends access) (empty_after_one empty access) l path.0 n t.1 path.2
    (stepped access m path.0 t.0 path.1 there) in
    ((up_to d sends m.ahead m.chip k.at_bus, next.0), next.1)
  where
    empty_in_events : LastsInEvents (λ (c : ChipState). IsEmpty c.transmitter)
    empty_in_events = record {
      in_tick = λ c e. empty_tick (is_loopback c.latches) (chip.is_held_off c) c.transmitter e;
      in_arrival = λ byte errors c e. e;
      in_lines = λ inputs c e. e;
    }

    stepped : (access : Access) (m mid : MachineState) → Allows d sends empty access → MachineStep m access mid →
        Known d sends empty (at_access m).chip →
        Known d (sends_after_one d sends access) (empty_after_one empty access) mid.chip
    stepped (Read offset value) m mid t step there = rw (step.0, step.1) (known_read d sends empty offset (at_access m).chip there)
    stepped (Write offset value) m mid t step there = rw step (known_write d sends empty offset value (at_access m).chip t there)

holds : (d : Direction) (before after : Bool) (l : List Access) (m n : MachineState) → AllowsAll d before false l →
    after ≡ sends_after d before l → (path : Path MachineStep m l n) → IsAtBus d before m.chip → HoldsBus d before after l m n path
holds d before after l m n allows sends path w =
    let h = hold d before false l m n allows path (record { at_bus = w; knows = λ is. absurd (cc) }) in
    record { throughout = h.0; at_bus = subst (λ (sends : Bool). IsAtBus d sends n.chip) (sym sends) h.1 }

pub calls_hold_bus : CallsHoldBus
calls_hold_bus calls f after l m n t path w =
    let kept = calls_kept calls f l after t in holds f.direction f.sends after.sends l m n kept.allows kept.sends path w

pub ring_calls_hold_bus : RingCallsHoldBus
ring_calls_hold_bus calls f after l m n t waits path w =
    let kept = ring.calls_kept calls f l after waits t in holds f.direction f.sends after.sends l m n kept.allows kept.sends path w

-- ---- `new`

-- LSR shows an empty transmitter, MCR is read, and written to receive
finish_at_bus : (d : Direction) (l : List Access) (m n : MachineState) → Finish d l → Path MachineStep m l n → IsAtBus d false n.chip
finish_at_bus d l m n made path =
    let p = path_as m n l _ made.is path in
    let looked = (at_access m).chip in
    let empty : IsEmpty looked.transmitter =
    sym (status_empty looked) ∙
    (sym (has_one 6 (line_status looked)) ∙ (ap (λ (v : ℕ). has v LSR.TRANSMITTER_EMPTY.0) (sym p.1.1) ∙ made.shows)) in
    after_looks p.0 p.2.0 n made.mcr (rw p.1.0 empty) p.2.1 p.2.2
  where
    later : (a : MachineState) → IsEmpty a.chip.transmitter → IsEmpty (at_access a).chip.transmitter
    later a e = chip_lasts-before (λ (c : ChipState). IsEmpty c.transmitter) (record {
      in_tick = λ c e. empty_tick (is_loopback c.latches) (chip.is_held_off c) c.transmitter e;
      in_arrival = λ byte errors c e. e;
      in_lines = λ inputs c e. e;
    }) a.ahead a.chip e

    after_looks : (a b n : MachineState) (mcr : ℕ) → IsEmpty a.chip.transmitter → MachineStep a (Read offsets.MCR mcr) b →
        Path MachineStep b (Write offsets.MCR (unlooped (turned d false mcr)) ∷ []) n → IsAtBus d false n.chip
    after_looks a b n mcr e read path =
        let value = unlooped (turned d false mcr) in
        let turns = switches_turn d false mcr in
        let there : IsEmpty b.chip.transmitter = rw read.0 (later a e) in
        let written : IsAtBus d (sends_by d value) (after_write offsets.MCR value (at_access b).chip) =
        steered d false true value (at_access b).chip (λ off. refl) turns.1 (unlooped_off (turned d false mcr)) (λ is. later b there) in
        rw (path.2, path.1) (subst (λ (sends : Bool). IsAtBus d sends (after_write offsets.MCR value (at_access b).chip)) turns.0 written)

pub begins_at_bus : BeginsAtBus
begins_at_bus d driver l mid m n t path = finish_at_bus d l m n (finish_made _ l mid t) path

pub rings_begin_at_bus : RingsBeginAtBus
rings_begin_at_bus d f l mid m n t path = finish_at_bus d l m n (ring.ring_finish_made _ l mid t) path

-- ---- `give_up`

pub given_up_receives : GivingUpReceives
given_up_receives status f after l m n t path =
    let made = frees status f l after t in
    let p = path_as m n l _ made.is path in
    let c = (at_access p.2.0).chip in
    rw (p.2.2.2, p.2.2.1) (switched_by f.direction.line f.direction.sends_when_set false (after_write offsets.MCR made.written c)
    (kept_sends f.direction.line f.direction.sends_when_set c.auto_flow made.written ∙ made.receives.0)
    (kept_own f.direction.line f.direction.sends_when_set c.auto_flow made.written made.receives.1)
    (kept_bit c.auto_flow 4 made.written refl refl ∙ made.loopback))
