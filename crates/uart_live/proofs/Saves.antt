-- Data that pass are those of a live chip, and no others are.
use Rattle.std.proofs.Common.{◌≡◌, ℕ, ◌*◌, ◌≤◌, Bool, true, false, ◌&&◌, nat_le, List, [], ◌∷◌, length}
use Rattle.std.proofs.Common.{Option, Some, None, refl, arith, sym}
use Rattle.std.specs.List.{list_all}
use Rattle.std.proofs.lemmas.Grind.{common_steps}
use Rattle.uart_chip.specs.declared.chip.ChipData.{ChipData}
use Rattle.uart_events.specs.declared.event.ArrivalMark.{ArrivalMark}
use Rattle.uart_events.specs.declared.event.Chip.{Chip}
use Rattle.uart_events.specs.declared.event.Chip.TheVariants.{Uart16550A, Uart16450}
use Rattle.uart_events.specs.declared.event.TheConstants.{MAX_WIRE_CAPACITY}
use Rattle.uart_chip.specs.declared.receiver.Character.{Character}
use Rattle.uart_chip.specs.declared.receiver.Origin.{Origin}
use Rattle.uart_chip.specs.declared.receiver.Origin.TheVariants.{Arrived}
use Rattle.uart_chip.specs.declared.receiver.ReceiverData.{ReceiverData}
use Rattle.uart_chip.specs.declared.transmitter.Shifting.{Shifting}
use Rattle.uart_chip.specs.declared.transmitter.TransmitterData.{TransmitterData}
use Rattle.uart_spec.specs.Bits.{IsWithin}
use Rattle.uart_chip.specs.Receiver.{is_unscheduled}
use Rattle.uart_chip.specs.Transmitter.{room}
use Rattle.uart_chip.specs.Chip.{ChipState, with_size}
use Rattle.uart_chip.specs.Data.{transmitter_of, receiver_of}
use Rattle.uart_chip.specs.Snapshot.{latches_of, chip_of, unscheduled}
use Rattle.uart_chip.specs.Sound.{IsInQueue, AllInQueue, NoneHas, Distinct, AllErrorsLegal, IsSoundReceiver, IsTicking}
use Rattle.uart_chip.specs.Sound.{IsSoundTransmitter, IsSoundChip, IsSound, HoldBytes}
use Rattle.uart_spec.specs.declared.setup.FifoSize.{FifoSize}
use Rattle.uart_live.specs.Live.{IsLive}
use Rattle.uart_live.specs.Saved.{is_within, is_live_character, is_sound_receiver, is_ticking, is_char_time, is_sound_transmitter}
use Rattle.uart_live.specs.Saved.{is_implemented, is_live}

both-true : (a b : Bool) → (a && b) ≡ true → (a ≡ true) × (b ≡ true)
both-true true b e = (refl, e)
both-true false b e = absurd (cc)

true-both : (a b : Bool) → a ≡ true → b ≡ true → (a && b) ≡ true
true-both a b p q = rw (p, q) refl

at-most : (a b : ℕ) → nat_le a b ≡ true → a ≤ b
at-most a b e = grind (arith, common_steps)

most-at : (a b : ℕ) → a ≤ b → nat_le a b ≡ true
most-at a b h = grind (arith, common_steps)

within : (value mask : ℕ) → is_within value mask ≡ true → IsWithin value mask
within value mask e = grind (arith, common_steps)

is-within : (value mask : ℕ) → IsWithin value mask → is_within value mask ≡ true
is-within value mask e = grind (arith, common_steps)

-- ---- the receiver

in_queue : (o : Origin) → is_unscheduled o ≡ true → IsInQueue 0 [] false o
in_queue (Arrived k) s = absurd (cc)
in_queue _ s = refl

unscheduled_here : (o : Origin) → IsInQueue 0 [] false o → is_unscheduled o ≡ true
unscheduled_here (Arrived k) h = absurd (omega (arith, h.0))
unscheduled_here _ h = refl

none_has : (o : Origin) (characters : List Character) → is_unscheduled o ≡ true → NoneHas o characters
none_has (Arrived k) characters s = absurd (cc)
none_has _ characters s = tt

all_in_queue : (characters : List Character) → list_all is_live_character characters ≡ true → AllInQueue 0 [] false characters
all_in_queue [] e = tt
all_in_queue (x ∷ xs) e =
    let both = both-true (is_live_character x) (list_all is_live_character xs) e in
    let one = both-true (is_unscheduled x.origin) (is_within x.errors 28) both.0 in
    (in_queue x.origin one.0, all_in_queue xs both.1)

distinct : (characters : List Character) → list_all is_live_character characters ≡ true → Distinct characters
distinct [] e = tt
distinct (x ∷ xs) e =
    let both = both-true (is_live_character x) (list_all is_live_character xs) e in
    let one = both-true (is_unscheduled x.origin) (is_within x.errors 28) both.0 in
    (none_has x.origin xs one.0, distinct xs both.1)

all_legal : (characters : List Character) → list_all is_live_character characters ≡ true → AllErrorsLegal characters
all_legal [] e = tt
all_legal (x ∷ xs) e =
    let both = both-true (is_live_character x) (list_all is_live_character xs) e in
    let one = both-true (is_unscheduled x.origin) (is_within x.errors 28) both.0 in
    (within x.errors 28 one.1, all_legal xs both.1)

all_live : (characters : List Character) → AllInQueue 0 [] false characters → AllErrorsLegal characters →
    list_all is_live_character characters ≡ true
all_live [] h l = refl
all_live (x ∷ xs) h l =
    true-both (is_live_character x) (list_all is_live_character xs)
    (true-both (is_unscheduled x.origin) (is_within x.errors 28) (unscheduled_here x.origin h.0) (is-within x.errors 28 l.0))
    (all_live xs h.1 l.1)

sound_receiver : (size : FifoSize) (fifo : Bool) (char_ticks : ℕ) (r : ReceiverData) →
    is_sound_receiver size fifo char_ticks r ≡ true → IsSoundReceiver fifo (record (receiver_of char_ticks r) { size = size })
sound_receiver size fifo char_ticks r e =
    let first = both-true (nat_le (length r.queue.items) (room fifo size)) _ e in
    let second = both-true (list_all is_live_character r.queue.items) _ first.1 in
    record {
      marked = record {
        wait = all_in_queue r.queue.items second.0;
        distinct = distinct r.queue.items second.0;
        to_come = λ k h. refl;
        in_room = at-most _ _ first.0;
        counted = omega arith;
      };
      settled = λ k h. absurd (omega (arith, h));
      no_other = λ k n w. absurd (cc);
      legal = all_legal r.queue.items second.0;
      idle = at-most _ _ second.1;
    }

receiver_sound : (size : FifoSize) (fifo : Bool) (char_ticks : ℕ) (r : ReceiverData) →
    IsSoundReceiver fifo (record (receiver_of char_ticks r) { size = size }) → is_sound_receiver size fifo char_ticks r ≡ true
receiver_sound size fifo char_ticks r w =
    true-both _ _ (most-at _ _ w.marked.in_room)
    (true-both _ _ (all_live r.queue.items w.marked.wait w.legal) (most-at _ _ w.idle))

-- ---- the transmitter

ticking : (char_ticks : ℕ) (place : Option Shifting) → is_ticking char_ticks place ≡ true → IsTicking char_ticks place
ticking char_ticks None e = tt
ticking char_ticks (Some s) e =
    let both = both-true (nat_le 1 s.ticks_left) _ e in (at-most _ _ both.0, at-most _ _ both.1)

is-ticking : (char_ticks : ℕ) (place : Option Shifting) → IsTicking char_ticks place → is_ticking char_ticks place ≡ true
is-ticking char_ticks None w = refl
is-ticking char_ticks (Some s) w = true-both _ _ (most-at _ _ w.0) (most-at _ _ w.1)

-- the transmitter is sound, and its wire has room for no more than a wire may have
pub record Fits (size : FifoSize) (fifo : Bool) (t : TransmitterData) (wire : List ℕ) : Type 0 where
  pub sound : IsSoundTransmitter fifo (record (transmitter_of t wire) { size = size })
  pub room : t.wire_capacity ≤ MAX_WIRE_CAPACITY

sound_transmitter : (size : FifoSize) (fifo : Bool) (t : TransmitterData) (wire : List ℕ) →
    is_sound_transmitter size fifo t wire ≡ true → Fits size fifo t wire
sound_transmitter size fifo t wire e =
    let a = both-true (is_char_time t.char_ticks) _ e in
    let time = both-true (nat_le 1 t.char_ticks) _ a.0 in
    let b = both-true (is_ticking t.char_ticks t.shift_register) _ a.1 in
    let c = both-true (nat_le (length t.queue.items) (room fifo size)) _ b.1 in
    let d = both-true (nat_le (length wire) t.wire_capacity) _ c.1 in
    record {
      sound = record {
        in_room = at-most _ _ c.0;
        ticking = ticking t.char_ticks t.shift_register b.0;
        at_least_one = at-most _ _ time.0;
        at_most = at-most _ _ time.1;
        on_wire = at-most _ _ d.0;
      };
      room = at-most _ _ d.1;
    }

transmitter_sound : (size : FifoSize) (fifo : Bool) (t : TransmitterData) (wire : List ℕ) → Fits size fifo t wire →
    is_sound_transmitter size fifo t wire ≡ true
transmitter_sound size fifo t wire w =
    true-both _ _ (true-both _ _ (most-at _ _ w.sound.at_least_one) (most-at _ _ w.sound.at_most))
    (true-both _ _ (is-ticking t.char_ticks t.shift_register w.sound.ticking)
    (true-both _ _ (most-at _ _ w.sound.in_room) (true-both _ _ (most-at _ _ w.sound.on_wire) (most-at _ _ w.room))))

-- ---- the chip

implemented : (model : Chip) (fifo : Bool) → is_implemented model fifo ≡ true → fifo ≡ true → model ≡ Uart16550A
implemented Uart16550A fifo e on = refl
implemented Uart16450 fifo e on = let no : false ≡ true = rw on at e in absurd (cc)

is-implemented : (model : Chip) (fifo : Bool) → (fifo ≡ true → model ≡ Uart16550A) → is_implemented model fifo ≡ true
is-implemented Uart16550A fifo h = refl
is-implemented Uart16450 true h = let no = h refl in absurd (cc)
is-implemented Uart16450 false h = refl

pub live_of : (size : FifoSize) (c : ChipData) (wire : List ℕ) → is_live size c wire ≡ true → HoldBytes (latches_of c.latches) →
    IsLive size (with_size size (chip_of c wire))
live_of size c wire e bytes =
    let made : ChipState = with_size size (chip_of c wire) in
    let a = both-true _ _ e in
    let latches = both-true _ _ a.0 in
    let b = both-true (is_implemented c.model c.fifo) _ a.1 in
    let d = both-true _ _ b.1 in
    let modem = both-true _ _ d.0 in
    let lines = both-true _ _ modem.1 in
    let f = both-true (is_sound_receiver size c.fifo c.transmitter.char_ticks c.receiver) _ d.1 in
    let fits = sound_transmitter size c.fifo c.transmitter wire f.1 in
    let chip : IsSoundChip made = record {
      receiver = sound_receiver size c.fifo c.transmitter.char_ticks c.receiver f.0;
      transmitter = fits.sound;
      modem = record { inputs = within _ _ modem.0; lines = within _ _ lines.0; deltas = within _ _ lines.1 };
      latches = record { ier = within _ _ latches.0; mcr = within _ _ latches.1 };
      sizes = refl;
      implemented = implemented c.model c.fifo b.0;
      limit = refl;
    } in
    let sound : IsSound (record { chip = made; ahead = [] }) = record { chip = chip; foreseen = refl; legal = tt } in
    record {
      whole = record { sound = sound; bytes = bytes };
      no_marks = refl;
      none_lost = refl;
      room = fits.room;
      size = refl;
      flow = refl;
      switch = refl;
    }

pub of_live : (size : FifoSize) (c : ChipData) (wire : List ℕ) → IsLive size (with_size size (chip_of c wire)) →
    is_live size c wire ≡ true
of_live size c wire w =
    let chip = w.whole.sound.chip in
    true-both _ _ (true-both _ _ (is-within _ _ chip.latches.ier) (is-within _ _ chip.latches.mcr))
    (true-both _ _ (is-implemented c.model c.fifo chip.implemented)
    (true-both _ _ (true-both _ _ (is-within _ _ chip.modem.inputs)
    (true-both _ _ (is-within _ _ chip.modem.lines) (is-within _ _ chip.modem.deltas)))
    (true-both _ _ (receiver_sound size c.fifo c.transmitter.char_ticks c.receiver chip.receiver)
    (transmitter_sound size c.fifo c.transmitter wire (record { sound = chip.transmitter; room = w.room })))))

-- ---- a live chip has no schedule to lose

same_receiver : (c : ChipState) (limit arrived : ℕ) (marks : List ArrivalMark) (lost : Bool) → limit ≡ c.receiver.timeout_limit →
    arrived ≡ c.receiver.arrived → marks ≡ c.receiver.marks → lost ≡ c.receiver.is_unscheduled_lost →
    record c { receiver = record c.receiver { timeout_limit = limit; arrived = arrived; marks = marks; is_unscheduled_lost = lost } } ≡ c
same_receiver c limit arrived marks lost e f g h = rw (e, f, g, h) refl

no_marks : (marks : List ArrivalMark) → length marks ≡ 0 → [] ≡ marks
no_marks [] e = refl
no_marks (x ∷ xs) e = absurd (omega (arith, e))

pub unscheduled_same : {size : FifoSize} (c : ChipState) → IsLive size c → unscheduled c ≡ c
unscheduled_same c w =
    let none : 0 ≡ c.receiver.arrived = omega (arith, w.whole.sound.foreseen, w.no_marks) in
    same_receiver c (4 * c.transmitter.char_ticks) 0 [] false (sym w.whole.sound.chip.limit) none
    (no_marks c.receiver.marks w.no_marks) (sym w.none_lost)
