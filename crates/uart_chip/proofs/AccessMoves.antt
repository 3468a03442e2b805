-- What an access does to a chip is one of few moves, and a write of FCR is some of them in turn. A property is shown once for each move.
--
-- A move says of which register it is. So who matches on it compares no offset, and a catch-all takes the moves that leave a property
-- alone.
use Rattle.std.proofs.Common.{◌≡◌, ◌≢◌, ℕ, Bool, true, false, not, ◌&&◌, ◌==◌, [], refl, if◌then◌else◌, arith}
use Rattle.uart_events.specs.declared.event.Chip.{Chip}
use Rattle.uart_events.specs.declared.event.Chip.TheVariants.{Uart16550A, Uart16450}
use Rattle.uart_spec.specs.Bits.{has_any}
use Rattle.uart_spec.specs.declared.registers.fifo_control.TheConstants.FCR
use Rattle.uart_spec.specs.declared.registers.fifo_trigger_level.FifoTriggerLevel.{FifoTriggerLevel}
use Rattle.uart_spec.specs.declared.registers.offsets.TheConstants as offsets
use Rattle.uart_chip.specs.Masks.{kept_mcr}
use Rattle.uart_chip.specs.Receiver.{take_front, report, clear}
use Rattle.uart_chip.specs.Transmitter.{load}
use Rattle.uart_chip.specs.Chip.{ChipState, cut_of, is_dlab_set, interrupt, is_thr_empty, with_thr_pending, with_latches, enable}
use Rattle.uart_chip.specs.Chip.{after_read, after_write, trigger_level, switch, reset_receiver, reset_transmitter, set_trigger}
use Rattle.uart_chip.specs.Chip.{is_same, control, control_modem, with_size, empty_queues, switched_size, is_switching, switch_size}
use Rattle.std.proofs.lemmas.Grind.{common_steps}

-- ---- either of two

pub both_if : {A : Type 0} (P : A → Type 0) (x y : A) (b : Bool) → P x → P y → P (if b then x else y)
both_if P x y true p q = p
both_if P x y false p q = q

pub if_given : {A : Type 0} (P : A → Type 0) (x y : A) (b : Bool) → (b ≡ true → P x) → (b ≡ false → P y) → P (if b then x else y)
if_given P x y true p q = p refl
if_given P x y false p q = q refl

-- the same, of a test whether a register is this one
pub if_at : {A : Type 0} (P : A → Type 0) (x y : A) (offset register : ℕ) → (offset ≡ register → P x) →
    ((offset == register) ≡ false → P y) → P (if offset == register then x else y)
if_at P x y offset register p q = if_given P x y (offset == register) (λ e. p (grind (arith, common_steps))) q

-- ---- a read

pub data ReadMove (offset : ℕ) (c : ChipState) : ChipState → Type 0 where
  stays : (offset == offsets.DATA && not (is_dlab_set c.latches)) ≡ false → ReadMove offset c c
  takes : offset ≡ offsets.DATA → is_dlab_set c.latches ≡ false →
      ReadMove offset c (record c { receiver = take_front c.receiver.queue c.receiver })
  acknowledges : offset ≡ offsets.ISR → ReadMove offset c (with_thr_pending false c)
  looks : offset ≡ offsets.LSR → ReadMove offset c (record c { receiver = report c.receiver })
  sees : offset ≡ offsets.MSR → ReadMove offset c (record c { modem = record c.modem { deltas = 0 } })

pub read_move : (offset : ℕ) (c : ChipState) → ReadMove offset c (after_read offset c)
read_move offset c =
    let M : ChipState → Type 0 = ReadMove offset c in
    if_at M _ _ offset offsets.DATA (λ p. if_given M _ _ (is_dlab_set c.latches) (λ q. stays (rw (p, q) refl)) (λ q. takes p q))
    (λ n. if_at M _ _ offset offsets.ISR (λ p. both_if M _ _ (is_thr_empty (interrupt c)) (acknowledges p) (stays (rw n refl)))
    (λ _. if_at M _ _ offset offsets.LSR looks (λ _. if_at M _ _ offset offsets.MSR sees (λ _. stays (rw n refl)))))

-- ---- a write

pub data WriteMove (offset value : ℕ) (c : ChipState) : ChipState → Type 0 where
  ignores : (offset == offsets.DATA && not (is_dlab_set c.latches)) ≡ false → WriteMove offset value c c
  sets_low : offset ≡ offsets.DATA → is_dlab_set c.latches ≡ true →
      WriteMove offset value c (with_latches (record c.latches { dll = value }) c)
  sends : offset ≡ offsets.DATA → is_dlab_set c.latches ≡ false →
      WriteMove offset value c (record c { transmitter = load c.fifo (cut_of c value) c.transmitter })
  sets_high : offset ≡ offsets.IER → is_dlab_set c.latches ≡ true →
      WriteMove offset value c (with_latches (record c.latches { dlm = value }) c)
  enables : offset ≡ offsets.IER → is_dlab_set c.latches ≡ false → WriteMove offset value c (enable value c)
  switches : offset ≡ offsets.FCR → c.model ≡ Uart16550A → (on : Bool) → WriteMove offset value c (switch on c)
  resizes : offset ≡ offsets.FCR → is_switching value c ≡ true →
      WriteMove offset value c (with_size (switched_size value) (empty_queues c))
  clears : offset ≡ offsets.FCR → WriteMove offset value c (record c { receiver = clear c.receiver })
  empties : offset ≡ offsets.FCR →
      WriteMove offset value c (record c { transmitter = record c.transmitter { queue = []; is_thr_pending = true } })
  triggers : offset ≡ offsets.FCR → (level : FifoTriggerLevel) → WriteMove offset value c (set_trigger level c)
  frames : offset ≡ offsets.LCR → WriteMove offset value c (with_latches (record c.latches { lcr = value }) c)
  steers : offset ≡ offsets.MCR → WriteMove offset value c (control_modem (kept_mcr c.auto_flow value) c)
  notes : offset ≡ offsets.SPR → WriteMove offset value c (with_latches (record c.latches { scr = value }) c)

-- a write is one move, or of FCR
pub write_cases : (M : ChipState → Type 0) (offset value : ℕ) (c : ChipState) → ((d : ChipState) → WriteMove offset value c d → M d) →
    (offset ≡ offsets.FCR → M (control c.model value c)) → M (after_write offset value c)
write_cases M offset value c move controls =
    if_at M _ _ offset offsets.DATA
    (λ e. if_given M _ _ (is_dlab_set c.latches) (λ q. move _ (sets_low e q)) (λ q. move _ (sends e q)))
    (λ n. if_at M _ _ offset offsets.IER
    (λ e. if_given M _ _ (is_dlab_set c.latches) (λ q. move _ (sets_high e q)) (λ q. move _ (enables e q)))
    (λ _. if_at M _ _ offset offsets.FCR controls
    (λ _. if_at M _ _ offset offsets.LCR (λ e. move _ (frames e))
    (λ _. if_at M _ _ offset offsets.MCR (λ e. move _ (steers e))
    (λ _. if_at M _ _ offset offsets.SPR (λ e. move _ (notes e)) (λ _. move _ (ignores (rw n refl))))))))

pub write_move : (offset value : ℕ) (c : ChipState) → offset ≢ offsets.FCR → WriteMove offset value c (after_write offset value c)
write_move offset value c f = write_cases (WriteMove offset value c) offset value c (λ d m. m) (λ e. absurd (f e))

-- what the size, the resets and the trigger level of FCR leave, once it is switched
module _ (P : ChipState → Type 0) (value : ℕ)
    (resizes : (c : ChipState) → is_switching value c ≡ true → P c → P (with_size (switched_size value) (empty_queues c)))
    (clears : (c : ChipState) → P c → P (record c { receiver = clear c.receiver }))
    (empties : (c : ChipState) → P c → P (record c { transmitter = record c.transmitter { queue = []; is_thr_pending = true } }))
    (triggers : (level : FifoTriggerLevel) (c : ChipState) → P c → P (set_trigger level c)) where
  pub resets_last : (on : Bool) (c : ChipState) → P c →
      P (if on then set_trigger (trigger_level value) (reset_transmitter value (reset_receiver value (switch_size value c))) else c)
  resets_last on c p =
      let b : ChipState = switch_size value c in
      let sized : P b = if_given P _ _ (is_switching value c) (λ e. resizes c e p) (λ _. p) in
      let d : ChipState = reset_receiver value b in
      let received : P d = both_if P _ _ (has_any value FCR.RX_FIFO_RESET.0) (clears b sized) sized in
      let e : ChipState = reset_transmitter value d in
      let sent : P e = both_if P _ _ (has_any value FCR.TX_FIFO_RESET.0) (empties d received) received in
      both_if P _ _ on (triggers (trigger_level value) e sent) p

-- what lasts in each move lasts in a write
module _ (P : ChipState → Type 0) (offset value : ℕ) (moves : (c d : ChipState) → WriteMove offset value c d → P c → P d) where
  control_lasts : offset ≡ offsets.FCR → (c : ChipState) (model : Chip) → c.model ≡ model → P c → P (control model value c)
  control_lasts e c Uart16450 m p = p
  control_lasts e c Uart16550A m p =
      let on : Bool = has_any value FCR.FIFO_ENABLE.0 in
      resets_last P value (λ d s p. moves d _ (resizes e s) p)
      (λ d p. moves d _ (clears e) p) (λ d p. moves d _ (empties e) p) (λ level d p. moves d _ (triggers e level) p)
      on (if is_same c.fifo on then c else switch on c) (both_if P _ _ (is_same c.fifo on) p (moves c _ (switches e m on) p))

  pub write_lasts : (c : ChipState) → P c → P (after_write offset value c)
  write_lasts c p = write_cases P offset value c (λ d m. moves c d m p) (λ e. control_lasts e c c.model refl p)
