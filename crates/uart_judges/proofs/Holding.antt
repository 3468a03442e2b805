-- That what is known holds of a chip, and that nothing between the accesses changes it.
use Rattle.std.proofs.Common.{◌≡◌, Bool, true, false, List, Option, Some, None, refl, if◌then◌else◌}
use Rattle.uart_events.specs.declared.event.Event.{Event}
use Rattle.uart_chip.specs.Chip.{ChipState, LatchesState, is_loopback, is_held_off}
use Rattle.uart_chip.specs.Machine.{before_access}
use Rattle.uart_chip.proofs.lasting.Lasting.{LastsInEvents, chip_lasts-before}
use Rattle.uart_judges.specs.declared.replay.known.Known.{Known}
use Rattle.uart_judges.specs.declared.replay.latches.KnownLatches.{KnownLatches}
use Rattle.uart_judges.proofs.Between.{SenderHolds, HasCharacter, sender_lasts, has-tick, has-arrive}
use Rattle.uart_judges.proofs.Returning.{LoopHolds, loop_lasts}

-- the value is this one, if it is known
abbrev pub Agrees : {A : Type 0} → Option A → A → Type 0
Agrees None x = Unit {0}
Agrees (Some y) x = x ≡ y

-- each latch is as it is known
pub record LatchesHold (k : KnownLatches) (l : LatchesState) : Type 0 where
  pub ier : Agrees k.ier l.ier
  pub lcr : Agrees k.lcr l.lcr
  pub mcr : Agrees k.mcr l.mcr
  pub scr : Agrees k.scr l.scr
  pub dll : Agrees k.dll l.dll
  pub dlm : Agrees k.dlm l.dlm

-- the chip is as it is known; it has no automatic flow control and no switch of its size, as no 16550A has
pub record Holds (k : Known) (c : ChipState) : Type 0 where
  pub model : c.model ≡ k.model
  pub flow : c.auto_flow ≡ false
  pub switch : c.has_size_switch ≡ false
  pub latches : LatchesHold k.latches c.latches
  pub fifo : Agrees k.fifo c.fifo
  pub sender : SenderHolds k.sender c.transmitter
  pub waits : k.waits ≡ true → HasCharacter c.receiver
  pub looped : LoopHolds k.looped c

-- what holds of a value holds of one that equals it
pub latches_moved : (k : KnownLatches) (l m : LatchesState) → m ≡ l → LatchesHold k l → LatchesHold k m
latches_moved k l m e h = rw e h

pub fifo_moved : (o : Option Bool) (a b : Bool) → b ≡ a → Agrees o a → Agrees o b
fifo_moved o a b e h = rw e h

-- ---- two chips of one model, with the same latches and the FIFO on or off in both

pub record Same (c d : ChipState) : Type 0 where
  pub model : d.model ≡ c.model
  pub flow : d.auto_flow ≡ c.auto_flow
  pub switch : d.has_size_switch ≡ c.has_size_switch
  pub latches : d.latches ≡ c.latches
  pub fifo : d.fifo ≡ c.fifo

pub same_refl : (c : ChipState) → Same c c
same_refl c = record { model = refl; flow = refl; switch = refl; latches = refl; fifo = refl }

pub same_if : (c d e : ChipState) (b : Bool) → Same c d → Same c e → Same c (if b then d else e)
same_if c d e true p q = p
same_if c d e false p q = q

-- ---- between the accesses

holds_lasts : (k : Known) → LastsInEvents (Holds k)
holds_lasts k = record {
  in_tick = λ c h. record {
    model = h.model;
    flow = h.flow;
    switch = h.switch;
    latches = h.latches;
    fifo = h.fifo;
    sender = (sender_lasts k.sender).in_tick (is_loopback c.latches) (is_held_off c) c.transmitter h.sender;
    waits = λ e. has-tick c (h.waits e);
    looped = (loop_lasts k.looped).in_tick c h.looped;
  };
  in_arrival = λ byte errors c h. record {
    model = h.model;
    flow = h.flow;
    switch = h.switch;
    latches = h.latches;
    fifo = h.fifo;
    sender = h.sender;
    waits = λ e. has-arrive byte errors c (h.waits e);
    looped = (loop_lasts k.looped).in_arrival byte errors c h.looped;
  };
  in_lines = λ inputs c h. record {
    model = h.model;
    flow = h.flow;
    switch = h.switch;
    latches = h.latches;
    fifo = h.fifo;
    sender = h.sender;
    waits = h.waits;
    looped = (loop_lasts k.looped).in_lines inputs c h.looped;
  };
}

pub holds_before : (events : List Event) (k : Known) (c : ChipState) → Holds k c → Holds k (before_access events c)
holds_before events k c h = chip_lasts-before (Holds k) (holds_lasts k) events c h
