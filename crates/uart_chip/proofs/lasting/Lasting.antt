-- What lasts of the transmitter while no byte is written, and of the chip in events: shown once for any property.
--
-- An access that sends nothing can only clear the queue, with or without another size, or change the interrupt flag.
-- That an empty transmitter stays empty, that its pace stays, and that the end of sending comes nearer, are three
-- instances.
use Rattle.std.proofs.Common.{◌≡◌, ℕ, zero, suc, Bool, true, false, ◌==◌, List, [], ◌∷◌, if◌then◌else◌}
use Rattle.std.specs.List.{AllByRecursion}
use Rattle.uart_spec.specs.Access.{Path}
use Rattle.uart_spec.specs.declared.access.Access.{Access}
use Rattle.uart_spec.specs.declared.access.Access.TheVariants.{Read, Write}
use Rattle.uart_events.specs.declared.event.Event.{Event}
use Rattle.uart_events.specs.declared.event.Event.TheVariants.{Ticks, Arrive, Lines, Access as Gate, Mark}
use Rattle.uart_spec.specs.declared.registers.offsets.TheConstants as offsets
use Rattle.uart_chip.specs.Transmitter as transmitter
use Rattle.uart_chip.specs.Transmitter.{TransmitterState}
use Rattle.uart_chip.specs.Chip.{ChipState, is_dlab_set, is_loopback, is_held_off, tick, ticks, arrive, change_lines, after_read}
use Rattle.uart_chip.specs.Chip.{after_write, switched_size}
use Rattle.uart_spec.specs.declared.setup.FifoSize.{FifoSize}
use Rattle.uart_chip.proofs.AccessMoves.{ReadMove, acknowledges, read_move, WriteMove, sends, enables, switches, resizes, empties}
use Rattle.uart_chip.proofs.AccessMoves.{write_lasts}
use Rattle.uart_chip.specs.Machine.{MachineState, MachineStep, perform, before_access, before_mark, at_access}

-- a property lasts if the queue is emptied, with any size, or the interrupt flag changes: an access that sends nothing does no more
pub record LastsInAccesses (P : TransmitterState → Type 0) : Type 0 where
  pub pending : (t : TransmitterState) (pending : Bool) → P t → P (record t { is_thr_pending = pending })
  pub cleared : (t : TransmitterState) (pending : Bool) → P t → P (record t { queue = []; is_thr_pending = pending })
  pub resized : (t : TransmitterState) (size : FifoSize) → P t → P (record t { size = size; queue = [] })

-- and it lasts in a tick
pub record Lasts (P : TransmitterState → Type 0) : Type 0 where
  pub in_accesses : LastsInAccesses P
  pub in_tick : (loopback held_off : Bool) (t : TransmitterState) → P t → P (transmitter.tick loopback held_off t)

-- an access that sends nothing: a read, or a write of another register than that of the data
abbrev pub SendsNothing : Access → Type 0
SendsNothing (Read offset value) = Unit {0}
SendsNothing (Write offset value) = (offset == offsets.DATA) ≡ false

-- only such accesses
abbrev pub AllSendNothing : List Access → Type 0
AllSendNothing accesses = AllByRecursion SendsNothing accesses

-- ---- effects

module _ (P : TransmitterState → Type 0) where
  -- either of two chips
  pub either : (c d : ChipState) (b : Bool) → P c.transmitter → P d.transmitter → P (if b then c else d).transmitter
  either c d true p q = p
  either c d false p q = q

module _ (P : TransmitterState → Type 0) (w : LastsInAccesses P) where
  lasts-reads : (offset : ℕ) (c d : ChipState) → ReadMove offset c d → P c.transmitter → P d.transmitter
  lasts-reads offset c d (acknowledges e) p = w.pending c.transmitter false p
  lasts-reads offset c d _ p = p

  pub lasts-read : (offset : ℕ) (c : ChipState) → P c.transmitter → P (after_read offset c).transmitter
  lasts-read offset c p = lasts-reads offset c _ (read_move offset c) p

  lasts-writes : (offset value : ℕ) → (offset == offsets.DATA) ≡ false → (c d : ChipState) → WriteMove offset value c d →
      P c.transmitter → P d.transmitter
  lasts-writes offset value other c d (sends e q) p = let no : true ≡ false = rw e at other in absurd (cc)
  lasts-writes offset value other c d (enables e q) p = w.pending c.transmitter _ p
  lasts-writes offset value other c d (switches e m on) p = w.cleared c.transmitter _ p
  lasts-writes offset value other c d (resizes e s) p = w.resized c.transmitter (switched_size value) p
  lasts-writes offset value other c d (empties e) p = w.cleared c.transmitter _ p
  lasts-writes offset value other c d _ p = p

  -- another register is written than that of the data
  pub lasts-write : (offset value : ℕ) (c : ChipState) → (offset == offsets.DATA) ≡ false → P c.transmitter →
      P (after_write offset value c).transmitter
  lasts-write offset value c other p = write_lasts (λ d. P d.transmitter) offset value (lasts-writes offset value other) c p

  -- under DLAB the divisor latch is written
  pub lasts-latch : (value : ℕ) (c : ChipState) → is_dlab_set c.latches ≡ true → P c.transmitter →
      P (after_write offsets.DATA value c).transmitter
  lasts-latch value c on p = rw on p

-- ---- events, for any property of the chip

-- a property of the chip lasts in a tick, and in each event from outside
pub record LastsInEvents (P : ChipState → Type 0) : Type 0 where
  pub in_tick : (c : ChipState) → P c → P (tick c)
  pub in_arrival : (byte errors : ℕ) (c : ChipState) → P c → P (arrive byte errors c)
  pub in_lines : (inputs : ℕ) (c : ChipState) → P c → P (change_lines inputs c)

module _ (P : ChipState → Type 0) (w : LastsInEvents P) where
  pub chip_lasts-ticks : (n : ℕ) (c : ChipState) → P c → P (ticks n c)
  chip_lasts-ticks zero c p = p
  chip_lasts-ticks (suc n) c p = w.in_tick (ticks n c) (chip_lasts-ticks n c p)

  pub chip_lasts-perform : (event : Event) (c : ChipState) → P c → P (perform event c)
  chip_lasts-perform (Ticks n) c p = chip_lasts-ticks n c p
  chip_lasts-perform (Arrive byte errors) c p = w.in_arrival byte errors c p
  chip_lasts-perform (Lines inputs) c p = w.in_lines inputs c p
  chip_lasts-perform _ c p = p

  pub chip_lasts-before : (events : List Event) (c : ChipState) → P c → P (before_access events c)
  chip_lasts-before [] c p = w.in_tick c p
  chip_lasts-before (Gate ∷ events) c p = p
  chip_lasts-before (Mark ∷ events) c p = w.in_tick c p
  chip_lasts-before (event ∷ events) c p = chip_lasts-before events (perform event c) (chip_lasts-perform event c p)

  pub chip_lasts-before_mark : (events : List Event) (c : ChipState) → P c → P (before_mark events c)
  chip_lasts-before_mark [] c p = p
  chip_lasts-before_mark (Mark ∷ events) c p = p
  chip_lasts-before_mark (event ∷ events) c p = chip_lasts-before_mark events (perform event c) (chip_lasts-perform event c p)

-- ---- events, for the transmitter, and accesses after them

module _ (P : TransmitterState → Type 0)
    (in_tick : (loopback held_off : Bool) (t : TransmitterState) → P t → P (transmitter.tick loopback held_off t)) where
  -- no event from outside reaches the transmitter
  in_events : LastsInEvents (λ c. P c.transmitter)
  in_events = record {
    in_tick = λ c p. in_tick (is_loopback c.latches) (is_held_off c) c.transmitter p;
    in_arrival = λ byte errors c p. p;
    in_lines = λ inputs c p. p;
  }

  pub lasts-before : (events : List Event) (c : ChipState) → P c.transmitter → P (before_access events c).transmitter
  lasts-before events c p = chip_lasts-before (λ c. P c.transmitter) in_events events c p

  pub lasts-ticks : (n : ℕ) (c : ChipState) → P c.transmitter → P (ticks n c).transmitter
  lasts-ticks n c p = chip_lasts-ticks (λ c. P c.transmitter) in_events n c p

  pub lasts-before_mark : (events : List Event) (c : ChipState) → P c.transmitter → P (before_mark events c).transmitter
  lasts-before_mark events c p = chip_lasts-before_mark (λ c. P c.transmitter) in_events events c p

module _ (P : TransmitterState → Type 0) (w : Lasts P) where
  lasts-step : (access : Access) (m n : MachineState) → SendsNothing access → P m.chip.transmitter → MachineStep m access n →
      P n.chip.transmitter
  lasts-step (Read offset value) m n q p s =
      rw s.0 (lasts-read P w.in_accesses offset (at_access m).chip (lasts-before P w.in_tick m.ahead m.chip p))
  lasts-step (Write offset value) m n q p s =
      rw s (lasts-write P w.in_accesses offset value (at_access m).chip q (lasts-before P w.in_tick m.ahead m.chip p))

  pub lasts-path : (made : List Access) (m n : MachineState) → AllSendNothing made → P m.chip.transmitter → Path MachineStep m made n →
      P n.chip.transmitter
  lasts-path [] m n q p path = rw path p
  lasts-path (access ∷ made) m n q p path = lasts-path made path.0 n q.1 (lasts-step access m path.0 q.0 p path.1) path.2
