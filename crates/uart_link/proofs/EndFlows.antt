-- What a call at one end does there, in numbers: how many characters came, were moved to the receive ring, and left the driver.
use Rattle.uart_link.proofs.Names.{◌≡◌, ◌⊎◌, inl, inr, ℕ, zero, suc, ◌+◌, ◌-◌, ◌<◌, ◌≤◌, nat_lt, nat_le, Bool, true, false, List, [], ◌∷◌}
use Rattle.uart_link.proofs.Names.{◌++◌, ◌&&◌, not, length, length-append, map, take, refl, replicate, sym, ◌∙◌, ap, subst, arith, filter}
use Rattle.uart_link.proofs.Names.{Option, Some, None, if◌then◌else◌, common_steps, length-map, length-filter, count_by-le-length, or-true}
use Rattle.uart_link.proofs.Names.{Arrive, Path, has, has_any, Access, Read, Write, switched, unlooped, settings_of, Character}
use Rattle.uart_link.proofs.Names.{ReceiverState, is_data_pending, out, stands, ChipState, is_loopback, is_auto_flow, rts_output}
use Rattle.uart_link.proofs.Names.{MachineState, MachineStep, at_access, before_access, at_mark, arrivals, Passed, passed-mark, each-append}
use Rattle.uart_link.proofs.Names.{characters, kept_bit, has_one, has_or, has_and, has_not, IsOpen, Stands, path_as, Drop, Modes, IsIn}
use Rattle.uart_link.proofs.Names.{loopback-in, arriving_cut, IsSound, IsWired, IsWiredChip, InSession, session_room, fits_by, wired_mark}
use Rattle.uart_link.proofs.Names.{RingDid, RingFields, ring_fields, free, rts_at, write_if_other, MakesRtsIfAny, AdjustsRts, ReceiveMarks}
use Rattle.uart_link.proofs.Names.{data_written, data_read, rts_moves, RingCall, RingAnswer, RingState, under, ring_machine, to_take}
use Rattle.uart_link.proofs.Names.{gone_in, MakesBlocks, in_blocks, Meant, meaning_of, modes_at, begins_session, came_rts, Moment}
use Rattle.uart_link.proofs.Names.{events_of, unknown, to_come, settled, arranged, on_cable, lines_joined, lines_from, receiver_at}
use Rattle.uart_link.proofs.Names.{receive_room, hold_of, CabledCallStep, EndStep}
use Rattle.uart_spec.specs.declared.registers.modem_control.TheConstants.MCR
use Rattle.uart_spec.specs.declared.registers.modem_status.TheConstants.MSR
use Rattle.uart_spec.specs.declared.registers.offsets.TheConstants as offsets
use Rattle.uart_chip.specs.Transmitter as transmitter
use Rattle.uart_link.proofs.{Lines.rts_of_mcr, Arranges.arranged_events, EndActs.sound_arranged, EndPasses.InEnd, Held.HoldsBack}
use Rattle.uart_link.proofs.{Held.HeldBack, Held.in_held}
use Rattle.uart_run.proofs.CallBlocks.{InBlocks, most_in, passed_in_blocks}
use Rattle.uart_ring_runs.specs.declared.call.RingCall.TheVariants as call
use Rattle.uart_link.specs.declared.call.Moment.TheVariants as moment
use Rattle.uart_link.proofs.Calm.{AllLeaveMcr, AllMild, all_mild, blocks_leave, mcr_settled, mcr_path, LeavesCts, AllLeaveCts, HasCts}
use Rattle.uart_link.proofs.Calm.{cts_path, cts_first, HasRoomTo, room_path, room_settled, room_first}

-- ---- what a ring call does, over any backend

pub record CallFacts (f : RingFields) (l : List Access) (after : RingFields) : Type 0 where
  pub blocks : InBlocks (most_in (settings_of f.driver)) l (data_written l) (data_read l)
  pub fewer : length after.receive.items ≤ length f.receive.items + length (data_read l)
  pub capacity : after.receive.capacity ≡ f.receive.capacity
  pub held : HoldsBack f l after

-- a ring call made accesses, of which this is known
pub record CallDid (s t : RingState) : Type 0 where
  pub list : List Access
  pub path : Path MachineStep (ring_machine s) list (ring_machine t)
  pub facts : CallFacts (ring_fields s) list (ring_fields t)

did : (s t : RingState) (c : RingCall) (a : RingAnswer) → Meant MachineStep c a s t → CallDid s t
did s t c a k = record {
  list = k.list;
  path = k.path;
  facts = record {
    blocks = (k.walks MakesBlocks in_blocks).blocks;
    fewer =
        let items = (ring_fields s).receive.items in
        let after = (ring_fields t).receive.items in
        let given = gone_in c a items in
        let sizes : length (given ++ after) ≡ length (items ++ data_read k.list) = ap length k.loses.received in
        omega (arith, sizes, length-append given after, length-append items (data_read k.list));
    capacity = k.loses.rooms.1;
    held = k.walks HeldBack in_held;
  };
}

-- each call that does not adjust RTS: it made accesses; or all moments happened, and the rings are as they were
pub call_did : (s t : RingState) (c : RingCall) (a : RingAnswer) → hold_of c ≡ None → CabledCallStep s c a t →
    CallDid s t ⊎ ((ring_machine t ≡ settled (ring_machine s)) × (ring_fields t ≡ ring_fields s))
call_did s t (call.AdjustRts marks) a none h = absurd (cc)
call_did s t call.Next a none h = inr (h.passes.machine, h.passes.rings)
call_did s t (call.Driver c) a none h = absurd h
call_did s t other a none h = inl (did s t other a (meaning_of s t other a tt h))

-- ---- what it does to the chip

-- how many characters wait in the receiver; how many bytes are in the receive ring; how many have left the driver
abbrev pub waits : RingState → ℕ
waits s = length (receiver_at s).queue

abbrev pub in_ring : RingState → ℕ
in_ring s = length (to_take s)

abbrev pub sent_of : RingState → ℕ
sent_of s = length (out (ring_machine s))

-- a stretch in numbers
record Counts (m n : MachineState) (written taken : ℕ) : Type 0 where
  pub came : ℕ
  pub arrived : n.chip.receiver.arrived ≡ m.chip.receiver.arrived + came
  pub waits : length n.chip.receiver.queue + taken ≤ length m.chip.receiver.queue + came
  pub grows : length (out n) ≡ length (out m) + written

counts : (x : Modes) (m n : MachineState) (made : List Access) (written : List ℕ) (takes : List Character) →
    Passed x m n made written takes → Counts m n (length written) (length takes)
counts x m n made written takes p =
    let r = m.chip.receiver in
    let s = n.chip.receiver in
    let g = p.went.receives in
    record {
      came = length (arriving_cut x.cut r.arrived p.events);
      arrived = g.number;
      waits =
          let all = r.queue ++ arriving_cut x.cut r.arrived p.events in
          let same : length (filter (stands s) all) ≡ length (takes ++ s.queue) = ap length g.moved.stay in
          let few : length (filter (stands s) all) ≤ length all =
          subst (λ k. k ≤ length all) (sym (length-filter (stands s) all)) (count_by-le-length (stands s) all) in
          let both = length-append r.queue (arriving_cut x.cut r.arrived p.events) in
          omega (arith, same, few, both, length-append takes s.queue);
      grows =
          let sizes : length (out n) ≡ length (out m ++ map x.cut written) = ap length p.went.sends.grows in
          omega (arith, sizes, length-append (out m) (map x.cut written), length-map written x.cut);
    }

-- from s to t at an end, in numbers: nothing was written if the other end held this one back, no character was dropped for which there
-- was room, and this was kept of the outputs
pub record EndFlows (Held Kept : Type 0) (s t : RingState) : Type 0 where
  pub came : ℕ
  pub moved : ℕ
  pub written : ℕ
  pub arrived : (receiver_at t).arrived ≡ (receiver_at s).arrived + came
  pub waiting : waits t + moved ≤ waits s + came
  pub ring : in_ring t ≤ in_ring s + moved
  pub capacity : (ring_fields t).receive.capacity ≡ (ring_fields s).receive.capacity
  pub grows : sent_of t ≡ sent_of s + written
  pub kept : Kept
  pub checks : (settings_of (ring_fields t).driver).checks ≡ (settings_of (ring_fields s).driver).checks
  pub held : (settings_of (ring_fields s).driver).checks ≡ true → Held → written ≡ 0
  pub whole : (ring_machine s).chip.fifo ≡ true → waits s + came ≤ characters (receiver_at s).size →
      Drop (receiver_at s) (receiver_at t) → ⊥
  pub fifo : (ring_machine t).chip.fifo ≡ (ring_machine s).chip.fifo

-- ---- the lines that come with a call

-- the call's moments begin with the lines, and the other end's RTS is off
abbrev pub IsHeldBack : List Moment → (there : ChipState) → Type 0
IsHeldBack moments there =
    ((rest : List Moment) × (moments ≡ moment.Lines ∷ rest)) × (has_any (lines_from there) MSR.CTS.0 ≡ false)

cts_events : (cts : Bool) (moments : List Moment) (cable : List ℕ) (lines : ℕ) → has_any lines MSR.CTS.0 ≡ cts →
    AllLeaveCts cts (events_of moments cable lines)
cts_events cts [] cable lines e = tt
cts_events cts (moment.Ticks n ∷ moments) cable lines e = (tt, cts_events cts moments cable lines e)
cts_events cts (moment.Arrives ∷ moments) [] lines e = cts_events cts moments [] lines e
cts_events cts (moment.Arrives ∷ moments) (byte ∷ cable) lines e = (tt, cts_events cts moments cable lines e)
cts_events cts (moment.Lines ∷ moments) cable lines e = (e, cts_events cts moments cable lines e)
cts_events cts (moment.Access ∷ moments) cable lines e = (tt, cts_events cts moments cable lines e)

cts_unknown : (cts : Bool) (count : ℕ) → AllLeaveCts cts (unknown count)
cts_unknown cts count = (tt, blanks count)
  where
    blanks : (count : ℕ) → AllLeaveCts cts (replicate count (Arrive 0 0))
    blanks zero = tt
    blanks (suc count) = (tt, blanks count)

-- what lies ahead leaves CTS as the other end gives it
pub cts_arranged : (cts : Bool) (moments : List Moment) (there c : ChipState) (left : ℕ) →
    has_any (lines_from there) MSR.CTS.0 ≡ cts → AllLeaveCts cts (arranged_events moments there c ++ unknown left)
cts_arranged cts moments there c left e =
    each-append (LeavesCts cts) (arranged_events moments there c) (unknown left)
    (cts_events cts moments (take (to_come c) (on_cable there c)) (lines_from there) e) (cts_unknown cts left)

-- and is so at the first access
pub cts_at_first : (cts : Bool) (moments rest : List Moment) (there c : ChipState) (left : ℕ) → moments ≡ moment.Lines ∷ rest →
    has_any (lines_from there) MSR.CTS.0 ≡ cts → has_any c.latches.mcr MCR.LOOP_BACK.0 ≡ false →
    HasCts cts (before_access (arranged_events moments there c ++ unknown left) c)
cts_at_first cts moments rest there c left is e off =
    let M : List Moment → Type 0 = λ ms. HasCts cts (before_access (arranged_events ms there c ++ unknown left) c) in
    subst M (sym is) (cts_first cts (lines_from there) (arranged_events rest there c ++ unknown left) c
    (e, cts_arranged cts rest there c left e) off)

-- ---- a call at an end

-- what the events before the call do
record Before (x : Modes) (s begins : RingState) : Type 0 where
  pub counts : Counts (ring_machine s) (ring_machine begins) 0 0
  pub session : InSession x (under begins)
  pub rings : ring_fields begins ≡ ring_fields s

settle_counts : (x : Modes) (m n : MachineState) → IsOpen x → Stands x m → n.chip ≡ (at_mark m).chip → Counts m n 0 0
settle_counts x m n o w chip =
    let c = counts x m (at_mark m) [] [] [] (passed-mark x m o.loopback w.sound w.modes) in
    record {
      came = c.came;
      arrived = ap (λ (d : ChipState). d.receiver.arrived) chip ∙ c.arrived;
      waits = subst (λ (d : ChipState). length d.receiver.queue + 0 ≤ length m.chip.receiver.queue + c.came) (sym chip) c.waits;
      grows = ap (λ (d : ChipState). length (transmitter.out d.transmitter)) chip ∙ c.grows;
    }

before_call : (x : Modes) (moments : List Moment) (there s t : RingState) (c : RingCall) (a : RingAnswer) → InSession x (under s) →
    (h : EndStep moments there s c a t) → Before x s h.begins
before_call x moments there s t c a w h =
    let m = ring_machine s in
    let far = (ring_machine there).chip in
    let begins = h.begins in
    let chip : (ring_machine begins).chip ≡ (at_mark m).chip = ap (λ (o : MachineState). o.chip) h.arranges.machine in
    let p = passed-mark x m w.open_modes.loopback w.stands.sound w.stands.modes in
    let M : ChipState → Type 0 = λ d. IsIn x d in
    let S : MachineState → Type 0 = λ o. IsSound o in
    record {
      counts = settle_counts x m (ring_machine begins) w.open_modes w.stands chip;
      session = record {
        open_modes = w.open_modes;
        stands = record {
          sound = subst S (sym h.arranges.machine) (sound_arranged moments far (settled m).chip p.sound.chip);
          modes = subst M (sym chip) p.went.modes;
        };
        fifo = ap (λ (f : RingFields). f.driver.fifo) h.arranges.rings ∙ w.fifo;
        fits = fits_by (under s) (under begins) (ap (λ (f : RingFields). f.driver.size) h.arranges.rings)
            (ap (λ (d : ChipState). d.transmitter.size) chip ∙ p.went.sends.size) w.fits;
      };
      rings = h.arranges.rings;
    }

-- the fields of the driver and of the rings that a call leaves
record Leaves (f after : RingFields) (taken : ℕ) : Type 0 where
  pub ring : length after.receive.items ≤ length f.receive.items + taken
  pub capacity : after.receive.capacity ≡ f.receive.capacity
  pub checks : (settings_of after.driver).checks ≡ (settings_of f.driver).checks

-- MCR is as it was
abbrev pub KeepsMcr : (s t : RingState) → Type 0
KeepsMcr s t = (ring_machine t).chip.latches.mcr ≡ (ring_machine s).chip.latches.mcr

-- what the call itself does
record Within (fifo : Bool) (Held Kept : Type 0) (begins t : RingState) : Type 0 where
  pub written : ℕ
  pub taken : ℕ
  pub counts : Counts (ring_machine begins) (ring_machine t) written taken
  pub leaves : Leaves (ring_fields begins) (ring_fields t) taken
  pub kept : Kept
  pub is_fifo : (ring_machine t).chip.fifo ≡ fifo
  pub held : (settings_of (ring_fields begins).driver).checks ≡ true → Held → written ≡ 0
  pub room : (last : ℕ) (r : ReceiverState) → HasRoomTo last r (ring_machine begins).chip → HasRoomTo last r (ring_machine t).chip

within_accesses : (x : Modes) (moments : List Moment) (there s begins t : RingState) → InSession x (under begins) →
    ring_machine begins ≡ arranged moments (ring_machine there).chip (ring_machine s) → CallDid begins t →
    Within x.fifo (IsHeldBack moments (ring_machine there).chip) (KeepsMcr begins t) begins t
within_accesses x moments there s begins t w machine d =
    let m = ring_machine begins in
    let n = ring_machine t in
    let far = (ring_machine there).chip in
    let c = (settled (ring_machine s)).chip in
    let left = to_come c - arrivals (arranged_events moments far c) in
    let f = ring_fields begins in
    let blocks = d.facts.blocks in
    let q = passed_in_blocks x (most_in (settings_of f.driver)) m n d.list _ _ w.open_modes w.stands
    (session_room x (under begins) w) blocks d.path in
    let k = counts x m n d.list (data_written d.list) q.takes q.passed in
    let sizes : length (map (λ character. character.byte) q.takes) ≡ length (data_read d.list) = ap length q.bytes in
    let same : length q.takes ≡ length (data_read d.list) = sym (length-map q.takes (λ character. character.byte)) ∙ sizes in
    let A : List Access → Type 0 = λ l. AllLeaveMcr l in
    let leaves : AllLeaveMcr d.list = subst A (sym blocks.joined) (blocks_leave _ blocks.blocks blocks.fit) in
    let off : is_loopback m.chip.latches ≡ false = loopback-in x m.chip w.stands.modes ∙ w.open_modes.loopback in
    let here : c ≡ m.chip = sym (ap (λ (o : MachineState). o.chip) machine) in
    record {
      written = length (data_written d.list);
      taken = length q.takes;
      counts = k;
      leaves = record {
        ring = omega (arith, d.facts.fewer, same);
        capacity = d.facts.capacity;
        checks = d.facts.held.checks;
      };
      kept = mcr_path m.chip.latches.mcr d.list m n leaves refl d.path;
      is_fifo = q.passed.went.modes.fifo;
      held = λ on back.
          let E : MachineState → Type 0 = λ o. AllLeaveCts false o.ahead in
          let ahead : AllLeaveCts false m.ahead = subst E (sym machine) (cts_arranged false moments far c left back.1) in
          let H : MachineState → Type 0 = λ o. HasCts false (at_access o).chip in
          let loop : has_any c.latches.mcr MCR.LOOP_BACK.0 ≡ false =
          ap (λ (o : ChipState). has_any o.latches.mcr MCR.LOOP_BACK.0) here ∙ off in
          let first : HasCts false (at_access m).chip =
          subst H (sym machine) (cts_at_first false moments back.0.0 far c left back.0.1 back.1 loop) in
          ap length (d.facts.held.held on (cts_path false d.list m n w.stands.sound first ahead leaves d.path));
      room = λ last r h. room_path last r d.list m n (all_mild d.list leaves) h d.path;
    }

within_settled : (x : Modes) (Held : Type 0) (begins t : RingState) → InSession x (under begins) →
    ring_machine t ≡ settled (ring_machine begins) → ring_fields t ≡ ring_fields begins →
    Within x.fifo Held (KeepsMcr begins t) begins t
within_settled x Held begins t w machine rings =
    let m = ring_machine begins in
    let chip : (ring_machine t).chip ≡ (at_mark m).chip = ap (λ (o : MachineState). o.chip) machine in
    record {
      written = 0;
      taken = 0;
      counts = settle_counts x m (ring_machine t) w.open_modes w.stands chip;
      leaves = record {
        ring = let e : length (ring_fields t).receive.items ≡ length (ring_fields begins).receive.items =
            ap (λ (f : RingFields). length f.receive.items) rings in omega (arith, e);
        capacity = ap (λ (f : RingFields). f.receive.capacity) rings;
        checks = ap (λ (f : RingFields). (settings_of f.driver).checks) rings;
      };
      kept = ap (λ (d : ChipState). d.latches.mcr) chip ∙ mcr_settled m.chip.latches.mcr m.ahead m.chip refl;
      is_fifo = ap (λ (d : ChipState). d.fifo) chip ∙
          (passed-mark x m w.open_modes.loopback w.stands.sound w.stands.modes).went.modes.fifo;
      held = λ on back. refl;
      room = λ last r h.
          let R : ChipState → Type 0 = λ d. HasRoomTo last r d in subst R (sym chip) (room_settled last r m.ahead m.chip h);
    }

-- both together
join : (x : Modes) (Held Within_kept Kept : Type 0) (s begins t : RingState) → InSession x (under s) → Before x s begins →
    (ring_machine begins).chip ≡ (at_mark (ring_machine s)).chip → Within x.fifo Held Within_kept begins t → (Within_kept → Kept) →
    EndFlows Held Kept s t
join x Held Within_kept Kept s begins t w b chip k keeps =
    let m = ring_machine s in
    let f : RingFields → ℕ = λ g. length g.receive.items in
    let same_ring : in_ring begins ≡ in_ring s = ap f b.rings in
    let on : (settings_of (ring_fields begins).driver).checks ≡ (settings_of (ring_fields s).driver).checks =
    ap (λ (g : RingFields). (settings_of g.driver).checks) b.rings in
    let off : is_loopback m.chip.latches ≡ false = loopback-in x m.chip w.stands.modes ∙ w.open_modes.loopback in
    record {
      came = b.counts.came + k.counts.came;
      moved = k.taken;
      written = k.written;
      arrived = omega (arith, b.counts.arrived, k.counts.arrived);
      waiting = omega (arith, b.counts.waits, k.counts.waits);
      ring = omega (arith, k.leaves.ring, same_ring);
      capacity = k.leaves.capacity ∙ ap (λ (g : RingFields). g.receive.capacity) b.rings;
      grows = omega (arith, b.counts.grows, k.counts.grows);
      kept = keeps k.kept;
      checks = k.leaves.checks ∙ on;
      held = λ checks back. k.held (on ∙ checks) back;
      whole = λ fifo few d.
          let last = (receiver_at t).arrived in
          let r = receiver_at s in
          let all : length m.chip.receiver.queue + last ≤ characters m.chip.receiver.size + m.chip.receiver.arrived =
          omega (arith, few, b.counts.arrived, k.counts.arrived) in
          let R : ChipState → Type 0 = λ d. HasRoomTo last r d in
          let begun : HasRoomTo last r (ring_machine begins).chip =
          subst R (sym chip) (room_settled last r m.ahead m.chip (room_first last m.chip fifo off all)) in
          let ended : HasRoomTo last r (ring_machine t).chip = k.room last r begun in
          ended.whole (omega arith) d;
      fifo = k.is_fifo ∙ sym w.stands.modes.fifo;
    }

-- a call that does not adjust RTS
plain_flows : (x : Modes) (moments : List Moment) (there s t : RingState) (c : RingCall) (a : RingAnswer) → hold_of c ≡ None →
    InSession x (under s) → EndStep moments there s c a t →
    EndFlows (IsHeldBack moments (ring_machine there).chip) (KeepsMcr s t) s t
plain_flows x moments there s t c a none w h =
    let b = before_call x moments there s t c a w h in
    let m = ring_machine s in
    let chip : (ring_machine h.begins).chip ≡ (at_mark m).chip = ap (λ (o : MachineState). o.chip) h.arranges.machine in
    join x _ (KeepsMcr h.begins t) (KeepsMcr s t) s h.begins t w b chip (by b (call_did h.begins t c a none h.called))
    (λ kept. kept ∙ (ap (λ (d : ChipState). d.latches.mcr) chip ∙ mcr_settled m.chip.latches.mcr m.ahead m.chip refl))
  where
    by : Before x s h.begins →
        CallDid h.begins t ⊎ ((ring_machine t ≡ settled (ring_machine h.begins)) × (ring_fields t ≡ ring_fields h.begins)) →
        Within x.fifo (IsHeldBack moments (ring_machine there).chip) (KeepsMcr h.begins t) h.begins t
    by b (inl d) = within_accesses x moments there s h.begins t b.session h.arranges.machine d
    by b (inr n) = within_settled x _ h.begins t b.session n.0 n.1

-- ---- `adjust_rts`

-- RTS of an end is off in MCR
abbrev pub IsRtsOff : RingState → Type 0
IsRtsOff s = has_any (ring_machine s).chip.latches.mcr MCR.RTS.0 ≡ false

-- CTS of the other end is RTS
cts_is_rts : (rts dtr : Bool) → has_any (lines_joined rts dtr) MSR.CTS.0 ≡ rts
cts_is_rts true true = refl
cts_is_rts true false = refl
cts_is_rts false true = refl
cts_is_rts false false = refl

-- as the other end sees an output that is off
pub cts_off : (c : ChipState) → rts_output c ≡ false → has_any (lines_from c) MSR.CTS.0 ≡ false
cts_off c off = go (is_loopback c.latches)
  where
    go : (b : Bool) → has_any (if b then 0 else lines_joined (rts_output c) (has_any c.latches.mcr MCR.DTR.0)) MSR.CTS.0 ≡ false
    go true = refl
    go false = cts_is_rts (rts_output c) (has_any c.latches.mcr MCR.DTR.0) ∙ off

-- RTS that is off in MCR is off
pub rts_off : (s : RingState) → IsRtsOff s → has_any (lines_from (ring_machine s).chip) MSR.CTS.0 ≡ false
rts_off s off =
    let c = (ring_machine s).chip in
    cts_off c (ap (λ (b : Bool). b && not (is_auto_flow c && (c.fifo && is_data_pending c.fifo c.receiver))) off)

-- and RTS that is on there is on, without automatic flow control
pub rts_on : (s : RingState) → is_loopback (ring_machine s).chip.latches ≡ false → is_auto_flow (ring_machine s).chip ≡ false →
    has_any (ring_machine s).chip.latches.mcr MCR.RTS.0 ≡ true → has_any (lines_from (ring_machine s).chip) MSR.CTS.0 ≡ true
rts_on s off by_driver on =
    let c = (ring_machine s).chip in
    ap (λ (b : Bool). has_any (if b then 0 else lines_joined (rts_output c) (has_any c.latches.mcr MCR.DTR.0)) MSR.CTS.0) off
    ∙ (cts_is_rts (rts_output c) (has_any c.latches.mcr MCR.DTR.0) ∙ (rts_of_mcr c by_driver ∙ on))

-- the accesses that make RTS so
abbrev rts_list : (on : Bool) (mcr : ℕ) → List Access
rts_list on mcr =
    Read offsets.MCR mcr ∷ write_if_other (has mcr MCR.RTS.0) on (Write offsets.MCR (unlooped (switched on MCR.RTS.0 mcr)))

rts_mild : (shown on : Bool) (mcr : ℕ) →
    AllMild (Read offsets.MCR mcr ∷ write_if_other shown on (Write offsets.MCR (unlooped (switched on MCR.RTS.0 mcr))))
rts_mild true true mcr = (tt, tt)
rts_mild false false mcr = (tt, tt)
rts_mild true false mcr = (tt, ((refl, λ e. has_not 4 (switched false MCR.RTS.0 mcr) 239 refl), tt))
rts_mild false true mcr = (tt, ((refl, λ e. has_not 4 (switched true MCR.RTS.0 mcr) 239 refl), tt))

-- what the call does to the fields, and to RTS
record Adjusted (marks : ReceiveMarks) (begins t : RingState) (l : List Access) : Type 0 where
  pub read : data_read l ≡ []
  pub written : data_written l ≡ []
  pub mild : AllMild l
  pub receive : (ring_fields t).receive ≡ (ring_fields begins).receive
  pub checks : (settings_of (ring_fields t).driver).checks ≡ (settings_of (ring_fields begins).driver).checks
  pub made : (on : Bool) → rts_at marks (receive_room begins) ≡ Some on → has_any (ring_machine t).chip.latches.mcr MCR.RTS.0 ≡ on

-- RTS as MCR showed it, or as it was written
shown_rts : (mcr : ℕ) (m mid n : MachineState) → MachineStep m (Read offsets.MCR mcr) mid → n ≡ mid →
    has_any n.chip.latches.mcr MCR.RTS.0 ≡ has_any mcr MCR.RTS.0
shown_rts mcr m mid n read same =
    ap (λ (o : MachineState). has_any o.chip.latches.mcr MCR.RTS.0) same ∙
    ap (λ v. has_any v MCR.RTS.0) (ap (λ (o : MachineState). o.chip.latches.mcr) read.0 ∙ sym read.1)

written_rts : (value : ℕ) (mid last n : MachineState) → MachineStep mid (Write offsets.MCR (unlooped value)) last → n ≡ last →
    has_any n.chip.latches.mcr MCR.RTS.0 ≡ has_any (unlooped value) MCR.RTS.0
written_rts value mid last n write same =
    ap (λ (o : MachineState). has_any o.chip.latches.mcr MCR.RTS.0) same ∙
    (ap (λ (o : MachineState). has_any o.chip.latches.mcr MCR.RTS.0) write ∙
    kept_bit (at_access mid).chip.auto_flow 1 (unlooped value) refl refl)

-- RTS is so after these accesses
now_rts : (shown on : Bool) (mcr : ℕ) (m n : MachineState) → has mcr MCR.RTS.0 ≡ shown →
    Path MachineStep m (Read offsets.MCR mcr ∷ write_if_other shown on (Write offsets.MCR (unlooped (switched on MCR.RTS.0 mcr)))) n →
    has_any n.chip.latches.mcr MCR.RTS.0 ≡ on
now_rts true true mcr m n e (mid, read, same) = shown_rts mcr m mid n read same ∙ (sym (has_one 1 mcr) ∙ e)
now_rts false false mcr m n e (mid, read, same) = shown_rts mcr m mid n read same ∙ (sym (has_one 1 mcr) ∙ e)
now_rts true false mcr m n e (mid, read, (last, write, same)) =
    let low = switched false MCR.RTS.0 mcr in
    written_rts low mid last n write same ∙ (has_and 1 low 239 refl ∙ has_not 1 mcr 253 refl)
now_rts false true mcr m n e (mid, read, (last, write, same)) =
    let high = switched true MCR.RTS.0 mcr in
    written_rts high mid last n write same ∙ (has_and 1 high 239 refl ∙ (has_or 1 mcr MCR.RTS.0 ∙ or-true (has_any mcr MCR.RTS.0)))

-- below the mark RTS is made off
below_mark : (marks : ReceiveMarks) (room : ℕ) → room < marks.hold → rts_at marks room ≡ Some false
below_mark marks room h = let e : nat_lt room marks.hold ≡ true = grind (arith, common_steps) in rw e refl

-- and on where both marks are reached
above_marks : (marks : ReceiveMarks) (room : ℕ) → marks.hold ≤ room → marks.release ≤ room → rts_at marks room ≡ Some true
above_marks marks room h r =
    let e : nat_lt room marks.hold ≡ false = grind (arith, common_steps) in
    let f : nat_le marks.release room ≡ true = grind (arith, common_steps) in rw (e, f) refl

adjusted : (marks : ReceiveMarks) (begins t : RingState) (l : List Access) (wanted : Option Bool) →
    rts_at marks (receive_room begins) ≡ wanted → MakesRtsIfAny wanted (ring_fields begins) l (ring_fields t) →
    Path MachineStep (ring_machine begins) l (ring_machine t) → Adjusted marks begins t l
adjusted marks begins t l None is (none, same) path = record {
  read = ap data_read none;
  written = ap data_written none;
  mild = let A : List Access → Type 0 = λ k. AllMild k in subst A (sym none) tt;
  receive = ap (λ (f : RingFields). f.receive) same;
  checks = ap (λ (f : RingFields). (settings_of f.driver).checks) same;
  made = λ on e. absurd (cc (is, e));
}
adjusted marks begins t l (Some on) is (((mcr, list), saved), same) path =
    let shown = has mcr MCR.RTS.0 in
    let A : List Access → Type 0 = λ k. AllMild k in
    let moves = rts_moves shown on mcr (unlooped (switched on MCR.RTS.0 mcr)) in
    record {
      read = ap data_read list ∙ moves.read_is;
      written = ap data_written list ∙ moves.written_is;
      mild = subst A (sym list) (rts_mild shown on mcr);
      receive = ap (λ (f : RingFields). f.receive) same;
      checks = ap (λ g. (settings_of g).checks) saved;
      made = λ wanted e.
          let same : on ≡ wanted = some_is on wanted (sym is ∙ e) in
          now_rts shown on mcr (ring_machine begins) (ring_machine t) refl
          (path_as (ring_machine begins) (ring_machine t) l _ list path) ∙ same;
    }
  where
    some_is : (a b : Bool) → Some a ≡ Some b → a ≡ b
    some_is a b e = ap (λ o. of o) e
      where
        of : Option Bool → Bool
        of None = a
        of (Some b) = b

-- what a call keeps of the outputs: MCR; or if it adjusts RTS, that is off below the mark
abbrev pub EndKept : RingCall → (s t : RingState) → Type 0
EndKept (call.AdjustRts marks) s t = receive_room t < marks.hold → IsRtsOff t
EndKept other s t = KeepsMcr s t

within_adjusts : (x : Modes) (Held : Type 0) (marks : ReceiveMarks) (s begins t : RingState) → InSession x (under begins) →
    IsWired (under begins) → RingDid MachineStep (AdjustsRts marks) begins t →
    Within x.fifo Held (EndKept (call.AdjustRts marks) s t) begins t
within_adjusts x Held marks s begins t w wired d =
    let m = ring_machine begins in
    let n = ring_machine t in
    let q = came_rts x begins t (rts_at marks (receive_room begins)) d.list (begins_session x begins w) wired d.does d.path in
    let k = counts _ m n d.list (data_written d.list) q.passed.takes q.passed.passed in
    let adjusts = adjusted marks begins t d.list (rts_at marks (receive_room begins)) refl d.does d.path in
    record {
      written = length (data_written d.list);
      taken = length q.passed.takes;
      counts = k;
      leaves = record {
        ring = let e : length (ring_fields t).receive.items ≡ length (ring_fields begins).receive.items =
            ap (λ ring. length ring.items) adjusts.receive in omega (arith, e);
        capacity = ap (λ ring. ring.capacity) adjusts.receive;
        checks = adjusts.checks;
      };
      kept = λ low. let e : receive_room t ≡ receive_room begins = ap free adjusts.receive in
          adjusts.made false (below_mark marks (receive_room begins) (omega (arith, e, low)));
      is_fifo = q.passed.passed.went.modes.fifo;
      held = λ on back. ap length adjusts.written;
      room = λ last r h. room_path last r d.list m n adjusts.mild h d.path;
    }

pub end_moves : (x : Modes) (moments : List Moment) (there s t : RingState) (c : RingCall) (a : RingAnswer) → InEnd x s →
    EndStep moments there s c a t → EndFlows (IsHeldBack moments (ring_machine there).chip) (EndKept c s t) s t
end_moves x moments there s t (call.AdjustRts marks) a w h =
    let z = modes_at x s in
    let m = ring_machine s in
    let b = before_call z moments there s t (call.AdjustRts marks) a w.session h in
    let chip : (ring_machine h.begins).chip ≡ (at_mark m).chip = ap (λ (o : MachineState). o.chip) h.arranges.machine in
    let W : ChipState → Type 0 = λ d. IsWiredChip d in
    let K : Type 0 = EndKept (call.AdjustRts marks) s t in
    join z _ K K s h.begins t w.session b chip
    (within_adjusts z _ marks s h.begins t b.session (subst W (sym chip) (wired_mark m w.wired)) h.called.did) (λ kept. kept)
end_moves x moments there s t other a w h = plain_flows (modes_at x s) moments there s t other a refl w.session h

-- ---- the accesses of a call

-- a call made accesses that reset nothing, or let all moments happen
pub calm_call : (x : Modes) (s t : RingState) (c : RingCall) (a : RingAnswer) → InEnd x s → CabledCallStep s c a t →
    ((made : List Access) × Path MachineStep (ring_machine s) made (ring_machine t) × AllMild made)
    ⊎ (ring_machine t ≡ settled (ring_machine s))
calm_call x s t (call.AdjustRts marks) a w h =
    let d = h.did in
    let adjusts = adjusted marks s t d.list (rts_at marks (receive_room s)) refl d.does d.path in inl (d.list, d.path, adjusts.mild)
calm_call x s t other a w h = by (call_did s t other a refl h)
  where
    by : CallDid s t ⊎ ((ring_machine t ≡ settled (ring_machine s)) × (ring_fields t ≡ ring_fields s)) →
        ((made : List Access) × Path MachineStep (ring_machine s) made (ring_machine t) × AllMild made)
        ⊎ (ring_machine t ≡ settled (ring_machine s))
    by (inl d) =
        let blocks = d.facts.blocks in
        let A : List Access → Type 0 = λ l. AllMild l in
        inl (d.list, d.path, subst A (sym blocks.joined) (all_mild _ (blocks_leave _ blocks.blocks blocks.fit)))
    by (inr n) = inr n.0

-- an `adjust_rts` with marks that the room reaches makes RTS on
pub adjusts_on : (moments : List Moment) (there s t : RingState) (marks : ReceiveMarks) (a : RingAnswer) →
    EndStep moments there s (call.AdjustRts marks) a t → marks.hold ≤ receive_room t → marks.release ≤ receive_room t →
    has_any (ring_machine t).chip.latches.mcr MCR.RTS.0 ≡ true
adjusts_on moments there s t marks a h hold release =
    let d = h.called.did in
    let adjusts = adjusted marks h.begins t d.list (rts_at marks (receive_room h.begins)) refl d.does d.path in
    let e : receive_room t ≡ receive_room h.begins = ap free adjusts.receive in
    adjusts.made true (above_marks marks (receive_room h.begins) (omega (arith, e, hold)) (omega (arith, e, release)))
