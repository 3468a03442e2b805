-- What the judge knows of the software chip stays so while the schedule's events happen.
use Rattle.std.proofs.Common.{◌≡◌, ◌≤◌, ◌<◌, ℕ, ◌+◌, ◌-◌, Bool, true, false, List, [], ◌∷◌, ◌++◌, length, length-append, min, nat_lt}
use Rattle.std.proofs.Common.{Option, Some, None, refl, ◌∙◌, ap, arith, if◌then◌else◌}
use Rattle.std.proofs.lemmas.Grind.{common_steps}
use Rattle.uart_spec.specs.declared.registers.fifo_trigger_level.FifoTriggerLevel.{FifoTriggerLevel}
use Rattle.uart_chip.specs.declared.receiver.Character.{Character}
use Rattle.uart_chip.specs.declared.receiver.Origin.TheVariants.{Arrived}
use Rattle.uart_chip.specs.Chip.{is_loopback}
use Rattle.uart_chip.specs.Machine.{MachineState, at_access}
use Rattle.uart_chip.specs.Receiver.{ReceiverState, come_back, enter, replace}
use Rattle.uart_events.specs.declared.event.ArrivalMark.TheVariants.{Dropped}
use Rattle.uart_chip.specs.Receiver as receiver
use Rattle.uart_chip.specs.Sound.{IsSound}
use Rattle.uart_spec.specs.declared.setup.FifoSize.{FifoSize}
use Rattle.uart_chip.specs.Transmitter.{looped_byte, room}
use Rattle.uart_chip.proofs.lasting.FifoSizes.{same_size-access}
use Rattle.uart_chip.proofs.lasting.Lasting.{LastsInEvents, chip_lasts-before}
use Rattle.uart_run.proofs.Latches.{Kept, kept_access}
use Rattle.uart_judges.specs.declared.audit.auditor.Auditor.{Auditor}
use Rattle.uart_judges_runs.specs.Lost.{KnowsWhatIs}
use Rattle.uart_judges_runs.proofs.Knows.{dlab_as, fifos_as, looping_as, trigger_as}

-- as many characters wait, at least, and no more than there is room for
pub record Waits (n : ℕ) (level : FifoTriggerLevel) (fifo : Bool) (r : ReceiverState) : Type 0 where
  pub at_least : n ≤ length r.queue
  pub in_room : length r.queue ≤ room fifo r.size
  pub trigger : r.trigger ≡ level

module _ (n : ℕ) (level : FifoTriggerLevel) where
  waits_replace : (queue : List Character) (new : Character) (r : ReceiverState) → r.queue ≡ queue → Waits n level false r →
      Waits n level false (replace queue new r)
  waits_replace [] new r e w = w
  waits_replace (old ∷ others) new r e w = record { at_least = few w.at_least w.in_room; in_room = omega arith; trigger = w.trigger }
    where
      few : n ≤ length r.queue → length r.queue ≤ 1 → n ≤ 1
      few p q = omega (arith, p, q)

  waits_full : (fifo : Bool) (new : Character) (r : ReceiverState) → Waits n level fifo r →
      Waits n level fifo (if fifo then record r {
        is_overrun = true;
        timeout_ticks = 0;
        marks = receiver.set_mark new.origin Dropped r.marks;
        is_unscheduled_lost = if receiver.is_unscheduled new.origin then false else r.is_unscheduled_lost;
      } else replace r.queue new r)
  waits_full true new r w = record { at_least = w.at_least; in_room = w.in_room; trigger = w.trigger }
  waits_full false new r w = waits_replace r.queue new r refl w

  one_more : (queue : List Character) (new : Character) → n ≤ length queue → n ≤ length (queue ++ new ∷ [])
  one_more queue new h = rw (length-append queue (new ∷ [])) (omega (arith, h))

  fits_more : (queue : List Character) (new : Character) (space : ℕ) → nat_lt (length queue) space ≡ true →
      length (queue ++ new ∷ []) ≤ space
  fits_more queue new space e = let free : length queue < space = grind (arith, common_steps) in simp length-append (omega arith)

  waits_enter : (fifo : Bool) (new : Character) (r : ReceiverState) → Waits n level fifo r → Waits n level fifo (enter fifo new r)
  waits_enter fifo new r w = go (nat_lt (length r.queue) (room fifo r.size)) refl
    where
      go : (b : Bool) → nat_lt (length r.queue) (room fifo r.size) ≡ b → Waits n level fifo (enter fifo new r)
      go true e = rw e (record {
        at_least = one_more r.queue new w.at_least;
        in_room = fits_more r.queue new (room fifo r.size) e;
        trigger = w.trigger;
      })
      go false e = rw e (waits_full fifo new r w)

  waits_back : (fifo : Bool) (byte : Option ℕ) (r : ReceiverState) → Waits n level fifo r → Waits n level fifo (come_back fifo byte r)
  waits_back fifo None r w = w
  waits_back fifo (Some byte) r w = waits_enter fifo _ r w

  waits_arrive : (loopback fifo : Bool) (byte errors : ℕ) (r : ReceiverState) → Waits n level fifo r →
      Waits n level fifo (receiver.arrive loopback fifo byte errors r)
  waits_arrive true fifo byte errors r w = record { at_least = w.at_least; in_room = w.in_room; trigger = w.trigger }
  waits_arrive false fifo byte errors r w =
      waits_enter fifo (record { byte = byte; errors = errors; origin = Arrived r.arrived }) (record r { arrived = r.arrived + 1 })
      (record { at_least = w.at_least; in_room = w.in_room; trigger = w.trigger })

  pub waits_last : LastsInEvents (λ c. Waits n level c.fifo c.receiver)
  waits_last = record {
    in_tick = λ c w.
        let b = waits_back c.fifo (looped_byte (is_loopback c.latches) c.transmitter.shift_register) c.receiver w in
        record { at_least = b.at_least; in_room = b.in_room; trigger = b.trigger };
    in_arrival = λ byte errors c w. waits_arrive (is_loopback c.latches) c.fifo _ errors c.receiver w;
    in_lines = λ inputs c w. w;
  }

pub left_grows : (n space queued left before : ℕ) → min n space ≤ before + left → min n space ≤ queued + (left + (before - queued))
left_grows n space queued left before h = omega (arith, h)

pub at_the_access : (a : Auditor) (left : ℕ) (m : MachineState) → IsSound m → KnowsWhatIs a left m.chip →
    KnowsWhatIs a (left + (length m.chip.transmitter.queue - length (at_access m).chip.transmitter.queue)) (at_access m).chip
at_the_access a left m sound k =
    let c = m.chip in
    let d = (at_access m).chip in
    let kept = kept_access m in
    let w = chip_lasts-before (λ c. Waits a.waiting m.chip.receiver.trigger c.fifo c.receiver)
    (waits_last a.waiting c.receiver.trigger) m.ahead c
    (record { at_least = k.waiting; in_room = sound.chip.receiver.marked.in_room; trigger = refl }) in
    let fifo : d.fifo ≡ c.fifo = ap (λ (k : Kept). k.fifo) kept in
    record {
      model = ap (λ (k : Kept). k.model) kept ∙ k.model;
      dlab = dlab_as c d a.setup.is_open (ap (λ (k : Kept). k.latches.lcr) kept) k.dlab;
      loopback = looping_as c d a.setup.modem (ap (λ (k : Kept). k.latches.mcr) kept) k.loopback;
      fifos = fifos_as c d a.setup.has_fifo fifo k.fifos;
      trigger = trigger_as c d a.setup.trigger w.trigger k.trigger;
      waiting = w.at_least;
      sent = grown d.fifo d.transmitter.size fifo (same_size-access m).transmitter;
    }
  where
    grown : (fifo : Bool) (size : FifoSize) → fifo ≡ m.chip.fifo → size ≡ m.chip.transmitter.size → min a.sent (room fifo size) ≤
        length (at_access m).chip.transmitter.queue +
        (left + (length m.chip.transmitter.queue - length (at_access m).chip.transmitter.queue))
    grown fifo size e z =
        rw (e, z)
        (left_grows a.sent (room m.chip.fifo m.chip.transmitter.size) (length (at_access m).chip.transmitter.queue) left
        (length m.chip.transmitter.queue) k.sent)
