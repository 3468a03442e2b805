-- What a stretch of a session does to the chip.
--
-- A stretch is one record. Two stretches, one after the other, are again a stretch, so calls, `next` and whole sessions
-- have the same record. Its parameter is the list of accesses. What was seen is computed from the list, so no call has to
-- prove anything about saved bits.
use Rattle.std.proofs.Common.{◌≡◌, ℕ, zero, suc, ◌+◌, ◌≤◌, ◌<◌, Bool, false, List, [], ◌∷◌, ◌++◌, length, map, refl, arith, sym, ◌∙◌, ap}
use Rattle.std.proofs.Common.{subst, inl, bit_or}
use Rattle.std.proofs.lemmas.List.{map-append}
use Rattle.uart_events.specs.declared.event.Event.{Event}
use Rattle.uart_events.specs.declared.event.Event.TheVariants.{Ticks, Arrive, Lines}
use Rattle.uart_chip.specs.declared.receiver.Character.{Character}
use Rattle.uart_chip.specs.declared.receiver.Origin.TheVariants.{Arrived}
use Rattle.uart_spec.specs.Access.{saved, saved_of, saved_lsr, saved_msr}
use Rattle.uart_spec.specs.declared.access.Access.{Access}
use Rattle.uart_spec.specs.Bits.{has_any}
use Rattle.uart_spec.specs.declared.registers.line_control.TheConstants.LCR
use Rattle.uart_spec.specs.declared.registers.modem_control.TheConstants.MCR
use Rattle.uart_spec.specs.declared.registers.line_status.TheConstants.LSR
use Rattle.uart_spec.specs.declared.registers.modem_status.TheConstants.MSR
use Rattle.uart_spec.specs.declared.registers.offsets.TheConstants as offsets
use Rattle.uart_chip.specs.Transmitter as transmitter
use Rattle.uart_chip.specs.Transmitter.{looped_byte}
use Rattle.uart_chip.specs.Receiver as receiver
use Rattle.uart_chip.specs.Receiver.{ReceiverState, grow_timeout}
use Rattle.uart_chip.specs.Chip.{ChipState, cut_of, is_dlab_set, is_loopback, is_held_off, tick, ticks, arrive, change_lines}
use Rattle.uart_chip.specs.Machine.{perform, arrivals}
use Rattle.uart_chip.specs.Conserved.{arriving, cut_character}
use Rattle.uart_chip.specs.Sound.{IsMarked, IsSoundChip}
use Rattle.uart_chip.proofs.Bits.{or_assoc}
use Rattle.uart_chip.proofs.soundness.Sounds.{steady_ticks}
use Rattle.uart_chip.proofs.conservation.Sends.{Sends, sends-refl, sends-trans, sends-tick}
use Rattle.uart_chip.proofs.conservation.Receives.{Receives, receives-trans, receives-refl, receives-still}
use Rattle.uart_chip.proofs.conservation.Arrivals.{receives-arrive}
use Rattle.uart_chip.proofs.statuses.Reports.{Reports, reports-refl, reports-same, reports-trans, reports-arrive}
use Rattle.uart_chip.proofs.statuses.LinesChanged.{LinesChanged, changed-refl, changed-trans, changed-lines}

-- ---- the modes

-- what decides how the chip takes an access
pub record Modes : Type 0 where
  pub lcr : ℕ
  pub mcr : ℕ
  pub fifo : Bool
  pub cut : ℕ → ℕ

-- the chip is in these modes
pub record IsIn (x : Modes) (c : ChipState) : Type 0 where
  pub lcr : c.latches.lcr ≡ x.lcr
  pub mcr : c.latches.mcr ≡ x.mcr
  pub fifo : c.fifo ≡ x.fifo
  pub cut : cut_of c ≡ x.cut

-- the modes that no call of a session changes
abbrev pub fixed : Modes → Bool × (ℕ → ℕ)
fixed x = (x.fifo, x.cut)

abbrev pub fixed_in : ChipState → Bool × (ℕ → ℕ)
fixed_in c = (c.fifo, cut_of c)

-- offsets 0 and 1 reach the divisor latch
abbrev pub dlab : Modes → Bool
dlab x = has_any x.lcr LCR.DLAB.0

-- what leaves the transmitter is received
abbrev pub loopback : Modes → Bool
loopback x = has_any x.mcr MCR.LOOP_BACK.0

pub dlab-in : (x : Modes) (c : ChipState) → IsIn x c → is_dlab_set c.latches ≡ dlab x
dlab-in x c w = ap (λ l. has_any l LCR.DLAB.0) w.lcr

pub loopback-in : (x : Modes) (c : ChipState) → IsIn x c → is_loopback c.latches ≡ loopback x
loopback-in x c w = ap (λ l. has_any l MCR.LOOP_BACK.0) w.mcr

pub marked-in : (x : Modes) (c : ChipState) → IsSoundChip c → IsIn x c → IsMarked x.fifo c.receiver
marked-in x c s w = subst (λ (b : Bool). IsMarked b c.receiver) w.fifo s.receiver.marked

-- ---- the events' characters, and the accesses' saved bits

-- the characters that events bring, cut
abbrev pub arriving_cut : (ℕ → ℕ) → ℕ → List Event → List Character
arriving_cut cut number events = map (cut_character cut) (arriving number events)

pub arriving-append : (cut : ℕ → ℕ) (k : ℕ) (xs ys : List Event) →
    arriving_cut cut k (xs ++ ys) ≡ arriving_cut cut k xs ++ arriving_cut cut (k + length (arriving_cut cut k xs)) ys
arriving-append cut k [] ys = ap (λ n. arriving_cut cut n ys) (omega arith)
arriving-append cut k (Arrive byte errors ∷ xs) ys =
    let e : (k + 1) + length (arriving_cut cut (k + 1) xs) ≡ k + suc (length (arriving_cut cut (k + 1) xs)) = omega arith in
    ap (λ zs. record { byte = cut byte; errors = errors; origin = Arrived k } ∷ zs)
    (arriving-append cut (k + 1) xs ys ∙ ap (λ n. arriving_cut cut (k + 1) xs ++ arriving_cut cut n ys) e)
arriving-append cut k (_ ∷ xs) ys = arriving-append cut k xs ys

pub saved-append : (register mask : ℕ) (xs ys : List Access) →
    saved register mask (xs ++ ys) ≡ bit_or (saved register mask xs) (saved register mask ys)
saved-append register mask [] ys = refl
saved-append register mask (x ∷ xs) ys =
    rw (saved-append register mask xs ys) (sym (or_assoc (saved_of register mask x) (saved register mask xs) (saved register mask ys)))

-- ---- a stretch

-- from c to d: these events came, these accesses were made, these bytes written and these characters taken
pub record Went (x : Modes) (c d : ChipState) (events : List Event) (made : List Access) (written : List ℕ)
    (takes : List Character) : Type 0 where
  pub modes : IsIn x d
  pub sends : Sends c.transmitter d.transmitter (map x.cut written)
  pub receives : Receives x.fifo c.receiver d.receiver (arriving_cut x.cut c.receiver.arrived events) takes (saved_lsr made)
  pub reports : Reports x.fifo c.receiver d.receiver takes (saved_lsr made)
  pub modem_lines : LinesChanged c.modem d.modem events (saved_msr made)

-- one stretch and then another, which may begin in other modes
pub went-trans : (x y : Modes) (c d e : ChipState) (f g : List Event) (xs ys : List Access) (ws vs : List ℕ) (ts us : List Character) →
    fixed y ≡ fixed x →
    Went x c d f xs ws ts → Went y d e g ys vs us → Went y c e (f ++ g) (xs ++ ys) (ws ++ vs) (ts ++ us)
went-trans x y c d e f g xs ys ws vs ts us same p q = record {
  modes = q.modes;
  sends =
      let joined : map x.cut ws ++ map y.cut vs ≡ map y.cut (ws ++ vs) =
      ap (λ (f : ℕ → ℕ). map f ws ++ map y.cut vs) (sym cut) ∙ sym (map-append y.cut ws vs) in
      subst (λ (zs : List ℕ). Sends c.transmitter e.transmitter zs) joined
      (sends-trans c.transmitter d.transmitter e.transmitter (map x.cut ws) (map y.cut vs) p.sends q.sends);
  receives =
      let k = c.receiver.arrived in
      let first : Receives y.fifo c.receiver d.receiver (arriving_cut y.cut k f) ts (saved_lsr xs) = rw (fifo, cut) p.receives in
      let come : arriving_cut y.cut k f ++ arriving_cut y.cut d.receiver.arrived g ≡ arriving_cut y.cut k (f ++ g) =
      ap (λ n. arriving_cut y.cut k f ++ arriving_cut y.cut n g) first.number ∙ sym (arriving-append y.cut k f g) in
      let both =
      receives-trans y.fifo c.receiver d.receiver e.receiver (arriving_cut y.cut k f) (arriving_cut y.cut d.receiver.arrived g) ts us
      (saved_lsr xs) (saved_lsr ys) first q.receives in
      rw (come, ← saved-append offsets.LSR LSR.LINE_ERRORS.0 xs ys) at both;
  reports =
      let first : Reports y.fifo c.receiver d.receiver ts (saved_lsr xs) = rw fifo p.reports in
      let both =
      reports-trans y.fifo c.receiver d.receiver e.receiver ts us (saved_lsr xs) (saved_lsr ys)
      (λ h. q.receives.is_shown (inl h)) first q.reports in
      rw (← saved-append offsets.LSR LSR.LINE_ERRORS.0 xs ys) at both;
  modem_lines = rw (saved-append offsets.MSR MSR.CHANGES.0 xs ys)
      (changed-trans c.modem d.modem e.modem f g (saved_msr xs) (saved_msr ys) p.modem_lines q.modem_lines);
}
  where
    fifo : y.fifo ≡ x.fifo
    fifo = ap (λ (p : Bool × (ℕ → ℕ)). p.0) same

    cut : y.cut ≡ x.cut
    cut = ap (λ (p : Bool × (ℕ → ℕ)). p.1) same

-- ---- events

pub went-refl : (x : Modes) (c : ChipState) → IsSoundChip c → IsIn x c → Went x c c [] [] [] []
went-refl x c s w = record {
  modes = w;
  sends = sends-refl c.transmitter;
  receives = receives-refl x.fifo c.receiver (marked-in x c s w);
  reports = reports-refl x.fifo c.receiver;
  modem_lines = changed-refl c.modem;
}

tick-still : (c : ChipState) → is_loopback c.latches ≡ false →
    tick c ≡ record c { transmitter = transmitter.tick false (is_held_off c) c.transmitter; receiver = grow_timeout c.receiver }
tick-still c e =
    ap (λ (b : Bool). record c {
      transmitter = transmitter.tick b (is_held_off c) c.transmitter;
      receiver = receiver.tick c.fifo (looped_byte b c.transmitter.shift_register) c.receiver;
    }) e

pub went-tick : (x : Modes) (c : ChipState) → loopback x ≡ false → IsSoundChip c → IsIn x c → Went x c (tick c) [] [] [] []
went-tick x c l s w = rw (tick-still c (loopback-in x c w ∙ l)) (record {
  modes = record { lcr = w.lcr; mcr = w.mcr; fifo = w.fifo; cut = w.cut };
  sends = sends-tick (is_held_off c) c.transmitter;
  receives =
      receives-still x.fifo c.receiver (grow_timeout c.receiver) (marked-in x c s w)
      (record { queue = refl; marks = refl; missing = refl; arrived = refl; size = refl }) refl;
  reports = reports-same x.fifo c.receiver (grow_timeout c.receiver) refl refl refl;
  modem_lines = changed-refl c.modem;
})

went-ticks : (x : Modes) (n : ℕ) (c : ChipState) → loopback x ≡ false → IsSoundChip c → IsIn x c → Went x c (ticks n c) [] [] [] []
went-ticks x zero c l s w = went-refl x c s w
went-ticks x (suc n) c l s w =
    let a = went-ticks x n c l s w in
    let sound = steady_ticks n c s in
    went-trans x x c (ticks n c) (ticks (suc n) c) [] [] [] [] [] [] [] [] refl a (went-tick x (ticks n c) l sound.sound a.modes)

went-arrive : (x : Modes) (byte errors : ℕ) (c : ChipState) → loopback x ≡ false → IsSoundChip c → IsIn x c →
    c.receiver.arrived < length c.receiver.marks →
    Went x c (arrive byte errors c) (Arrive byte errors ∷ []) [] [] []
went-arrive x byte errors c l s w k = record {
  modes = record { lcr = w.lcr; mcr = w.mcr; fifo = w.fifo; cut = w.cut };
  sends = sends-refl c.transmitter;
  receives =
      let new : Character = record { byte = x.cut byte; errors = errors; origin = Arrived c.receiver.arrived } in
      subst (λ (r : ReceiverState). Receives x.fifo c.receiver r (new ∷ []) [] 0) (sym same)
      (receives-arrive x.fifo c.receiver (x.cut byte) errors (marked-in x c s w) k);
  reports = subst (λ (r : ReceiverState). Reports x.fifo c.receiver r [] 0) (sym same)
      (reports-arrive x.fifo c.receiver (x.cut byte) errors);
  modem_lines = record { lines = refl; deltas = (changed-refl c.modem).deltas };
}
  where
    same : receiver.arrive (is_loopback c.latches) c.fifo (cut_of c byte) errors c.receiver ≡
        receiver.arrive false x.fifo (x.cut byte) errors c.receiver
    same =
        ap (λ (b : Bool). receiver.arrive b c.fifo (cut_of c byte) errors c.receiver) (loopback-in x c w ∙ l) ∙
        (ap (λ (b : Bool). receiver.arrive false b (cut_of c byte) errors c.receiver) w.fifo ∙
        ap (λ (f : ℕ → ℕ). receiver.arrive false x.fifo (f byte) errors c.receiver) w.cut)

went-lines : (x : Modes) (inputs : ℕ) (c : ChipState) → loopback x ≡ false → IsSoundChip c → IsIn x c →
    Went x c (change_lines inputs c) (Lines inputs ∷ []) [] [] []
went-lines x inputs c l s w = record {
  modes = record { lcr = w.lcr; mcr = w.mcr; fifo = w.fifo; cut = w.cut };
  sends = sends-refl c.transmitter;
  receives = receives-refl x.fifo c.receiver (marked-in x c s w);
  reports = reports-refl x.fifo c.receiver;
  modem_lines = changed-lines c.latches.mcr inputs c.modem (loopback-in x c w ∙ l);
}

-- an event that brings no character and changes no line
went-passed : (x : Modes) (event : Event) (c d : ChipState) → arriving c.receiver.arrived (event ∷ []) ≡ [] →
    (LinesChanged c.modem d.modem [] 0 → LinesChanged c.modem d.modem (event ∷ []) 0) →
    Went x c d [] [] [] [] → Went x c d (event ∷ []) [] [] []
went-passed x event c d none modem_lines a = record {
  modes = a.modes;
  sends = a.sends;
  receives = rw none a.receives;
  reports = a.reports;
  modem_lines = modem_lines a.modem_lines;
}

-- one event
pub went-perform : (x : Modes) (event : Event) (c : ChipState) → loopback x ≡ false → IsSoundChip c → IsIn x c →
    c.receiver.arrived + arrivals (event ∷ []) ≤ length c.receiver.marks → Went x c (perform event c) (event ∷ []) [] [] []
went-perform x (Ticks n) c l s w k =
    went-passed x (Ticks n) c _ refl (λ t. record { lines = t.lines; deltas = t.deltas }) (went-ticks x n c l s w)
went-perform x (Arrive byte errors) c l s w k = went-arrive x byte errors c l s w (omega (arith, k))
went-perform x (Lines inputs) c l s w k = went-lines x inputs c l s w
went-perform x event c l s w k =
    went-passed x event c c refl (λ t. record { lines = t.lines; deltas = t.deltas }) (went-refl x c s w)
