-- What is known of the latches holds after a read or a write, and a read returns it.
use Rattle.std.proofs.Common.{◌≡◌, ℕ, Bool, true, false, ◌==◌, Option, Some, None, refl, arith, ap, ◌∙◌, if◌then◌else◌, bit_and}
use Rattle.std.proofs.lemmas.Grind.{common_steps}
use Rattle.uart_spec.specs.Bits.{has_any}
use Rattle.uart_spec.specs.declared.registers.line_control.TheConstants.LCR
use Rattle.uart_spec.specs.declared.registers.offsets.TheConstants as offsets
use Rattle.uart_chip.specs.Chip as chip
use Rattle.uart_chip.specs.Chip.{ChipState, LatchesState, answer, is_dlab_set, with_latches, enable, write_data}
use Rattle.uart_judges.specs.declared.replay.latches.KnownLatches.{KnownLatches}
use Rattle.uart_judges.specs.Latches.{dlab_in, dlab, under_dlab, shown, data_read, ier_read, after_read, data_written, ier_written}
use Rattle.uart_judges.specs.Latches.{after_write}
use Rattle.uart_judges.proofs.Holding.{Agrees, LatchesHold}
use Rattle.uart_chip.specs.Masks.{mcr_bits, kept_mcr}
use Rattle.uart_chip.proofs.McrBits.{kept_without}

-- ---- by the register

-- what holds of a number holds of one that a test finds equal
pub by_number : (P : ℕ → Type 0) (n m : ℕ) → (n == m) ≡ true → P m → P n
by_number P n m e p = let same : n ≡ m = grind (arith, common_steps) in rw same p

-- no register at this offset keeps what is written to it
pub record IsNoLatch (offset : ℕ) : Type 0 where
  pub not_data : (offset == offsets.DATA) ≡ false
  pub not_ier : (offset == offsets.IER) ≡ false
  pub not_lcr : (offset == offsets.LCR) ≡ false
  pub not_mcr : (offset == offsets.MCR) ≡ false
  pub not_spr : (offset == offsets.SPR) ≡ false

module _ (P : ℕ → Type 0) (front : P offsets.DATA) (ier : P offsets.IER) (lcr : P offsets.LCR) (mcr : P offsets.MCR) (spr : P offsets.SPR)
    (other : (offset : ℕ) → IsNoLatch offset → P offset) where
  at_spr : (n : ℕ) → (n == offsets.DATA) ≡ false → (n == offsets.IER) ≡ false → (n == offsets.LCR) ≡ false →
      (n == offsets.MCR) ≡ false → (b : Bool) → (n == offsets.SPR) ≡ b → P n
  at_spr n p q r s true e = by_number P n offsets.SPR e spr
  at_spr n p q r s false e = other n (record { not_data = p; not_ier = q; not_lcr = r; not_mcr = s; not_spr = e })

  at_mcr : (n : ℕ) → (n == offsets.DATA) ≡ false → (n == offsets.IER) ≡ false → (n == offsets.LCR) ≡ false →
      (b : Bool) → (n == offsets.MCR) ≡ b → P n
  at_mcr n p q r true e = by_number P n offsets.MCR e mcr
  at_mcr n p q r false e = at_spr n p q r e (n == offsets.SPR) refl

  at_lcr : (n : ℕ) → (n == offsets.DATA) ≡ false → (n == offsets.IER) ≡ false → (b : Bool) → (n == offsets.LCR) ≡ b → P n
  at_lcr n p q true e = by_number P n offsets.LCR e lcr
  at_lcr n p q false e = at_mcr n p q e (n == offsets.MCR) refl

  at_ier : (n : ℕ) → (n == offsets.DATA) ≡ false → (b : Bool) → (n == offsets.IER) ≡ b → P n
  at_ier n p true e = by_number P n offsets.IER e ier
  at_ier n p false e = at_lcr n p e (n == offsets.LCR) refl

  at_data : (n : ℕ) → (b : Bool) → (n == offsets.DATA) ≡ b → P n
  at_data n true e = by_number P n offsets.DATA e front
  at_data n false e = at_ier n e (n == offsets.IER) refl

  -- what holds of each register that keeps what is written to it, and of the others, holds of all
  pub by_register : (n : ℕ) → P n
  by_register n = at_data n (n == offsets.DATA) refl

-- ---- DLAB

agrees_dlab : (lcr : Option ℕ) (value : ℕ) → Agrees lcr value → Agrees (dlab_in lcr) (has_any value LCR.DLAB.0)
agrees_dlab None value a = tt
agrees_dlab (Some lcr) value a = ap (λ n. has_any n LCR.DLAB.0) a

pub knows_dlab : (k : KnownLatches) (l : LatchesState) → LatchesHold k l → Agrees (dlab k) (is_dlab_set l)
knows_dlab k l h = agrees_dlab k.lcr l.lcr h.lcr

-- ---- one latch changes

module _ (k : KnownLatches) (l : LatchesState) (h : LatchesHold k l) where
  with_ier : (o : Option ℕ) (x : ℕ) → Agrees o x → LatchesHold (record k { ier = o }) (record l { ier = x })
  with_ier o x a = record { ier = a; lcr = h.lcr; mcr = h.mcr; scr = h.scr; dll = h.dll; dlm = h.dlm }

  with_lcr : (o : Option ℕ) (x : ℕ) → Agrees o x → LatchesHold (record k { lcr = o }) (record l { lcr = x })
  with_lcr o x a = record { ier = h.ier; lcr = a; mcr = h.mcr; scr = h.scr; dll = h.dll; dlm = h.dlm }

  with_mcr : (o : Option ℕ) (x : ℕ) → Agrees o x → LatchesHold (record k { mcr = o }) (record l { mcr = x })
  with_mcr o x a = record { ier = h.ier; lcr = h.lcr; mcr = a; scr = h.scr; dll = h.dll; dlm = h.dlm }

  with_scr : (o : Option ℕ) (x : ℕ) → Agrees o x → LatchesHold (record k { scr = o }) (record l { scr = x })
  with_scr o x a = record { ier = h.ier; lcr = h.lcr; mcr = h.mcr; scr = a; dll = h.dll; dlm = h.dlm }

  with_dll : (o : Option ℕ) (x : ℕ) → Agrees o x → LatchesHold (record k { dll = o }) (record l { dll = x })
  with_dll o x a = record { ier = h.ier; lcr = h.lcr; mcr = h.mcr; scr = h.scr; dll = a; dlm = h.dlm }

  with_dlm : (o : Option ℕ) (x : ℕ) → Agrees o x → LatchesHold (record k { dlm = o }) (record l { dlm = x })
  with_dlm o x a = record { ier = h.ier; lcr = h.lcr; mcr = h.mcr; scr = h.scr; dll = h.dll; dlm = a }

  -- ---- a read

  data_shown : (b : Option Bool) → Agrees b (is_dlab_set l) → (other : ℕ) →
      Agrees (under_dlab b k.dll None) (if is_dlab_set l then l.dll else other)
  data_shown None a other = tt
  data_shown (Some false) a other = tt
  data_shown (Some true) a other = rw a h.dll

  ier_shown : (b : Option Bool) → Agrees b (is_dlab_set l) → Agrees (under_dlab b k.dlm k.ier) (if is_dlab_set l then l.dlm else l.ier)
  ier_shown None a = tt
  ier_shown (Some true) a = rw a h.dlm
  ier_shown (Some false) a = rw a h.ier

  data_learned : (b : Option Bool) → Agrees b (is_dlab_set l) → (other : ℕ) →
      LatchesHold (data_read b (if is_dlab_set l then l.dll else other) k) l
  data_learned None a other = h
  data_learned (Some false) a other = h
  data_learned (Some true) a other = rw a (with_dll (Some l.dll) l.dll refl)

  ier_learned : (b : Option Bool) → Agrees b (is_dlab_set l) → LatchesHold (ier_read b (if is_dlab_set l then l.dlm else l.ier) k) l
  ier_learned None a = h
  ier_learned (Some true) a = rw a (with_dlm (Some l.dlm) l.dlm refl)
  ier_learned (Some false) a = rw a (with_ier (Some l.ier) l.ier refl)

module _ (k : KnownLatches) (c : ChipState) (h : LatchesHold k c.latches) where
  l : LatchesState
  l = c.latches

  -- a read returns what is known
  pub agrees_shown : (offset : ℕ) → Agrees (shown offset k) (answer offset c)
  agrees_shown offset =
      by_register (λ n. Agrees (shown n k) (answer n c))
      (data_shown k c.latches h (dlab k) (knows_dlab k c.latches h) _)
      (ier_shown k c.latches h (dlab k) (knows_dlab k c.latches h)) h.lcr h.mcr h.scr
      (λ n o. rw (o.not_data, o.not_ier, o.not_lcr, o.not_mcr, o.not_spr) tt) offset

  -- what is known after a read holds
  pub learned : (offset : ℕ) → LatchesHold (after_read offset (answer offset c) k) c.latches
  learned offset =
      by_register (λ n. LatchesHold (after_read n (answer n c) k) c.latches)
      (data_learned k c.latches h (dlab k) (knows_dlab k c.latches h) _)
      (ier_learned k c.latches h (dlab k) (knows_dlab k c.latches h))
      (with_lcr k c.latches h (Some c.latches.lcr) c.latches.lcr refl)
      (with_mcr k c.latches h (Some c.latches.mcr) c.latches.mcr refl)
      (with_scr k c.latches h (Some c.latches.scr) c.latches.scr refl)
      (λ n o. rw (o.not_data, o.not_ier, o.not_lcr, o.not_mcr, o.not_spr) h) offset

-- ---- a write

either : (k : KnownLatches) (c d : ChipState) (b : Bool) → LatchesHold k c.latches → LatchesHold k d.latches →
    LatchesHold k (if b then c else d).latches
either k c d true p q = p
either k c d false p q = q

module _ (k : KnownLatches) (c : ChipState) (h : LatchesHold k c.latches) (flow : c.auto_flow ≡ false) (value : ℕ) where
  data_wrote : (b : Option Bool) → Agrees b (is_dlab_set c.latches) → LatchesHold (data_written b value k) (write_data value c).latches
  data_wrote None a =
      either (record k { dll = None }) _ _ (is_dlab_set c.latches) (with_dll k c.latches h None value tt)
      (with_dll k c.latches h None c.latches.dll tt)
  data_wrote (Some true) a = rw a (with_dll k c.latches h (Some value) value refl)
  data_wrote (Some false) a = rw a h

  ier_wrote : (b : Option Bool) → Agrees b (is_dlab_set c.latches) →
      LatchesHold (ier_written b value k)
      (if is_dlab_set c.latches then with_latches (record c.latches { dlm = value }) c else enable value c).latches
  ier_wrote None a =
      either (record k { dlm = None; ier = None }) _ _ (is_dlab_set c.latches)
      (record { ier = tt; lcr = h.lcr; mcr = h.mcr; scr = h.scr; dll = h.dll; dlm = tt })
      (record { ier = tt; lcr = h.lcr; mcr = h.mcr; scr = h.scr; dll = h.dll; dlm = tt })
  ier_wrote (Some true) a = rw a (with_dlm k c.latches h (Some value) value refl)
  ier_wrote (Some false) a = rw a (with_ier k c.latches h (Some _) _ refl)

  -- the bit of automatic flow control is not kept
  kept : kept_mcr c.auto_flow value ≡ bit_and value mcr_bits
  kept = ap (λ (f : Bool). kept_mcr f value) flow ∙ kept_without value

  -- what is known after a write of another register than FCR holds
  pub written : (offset : ℕ) → (offset == offsets.FCR) ≡ false →
      LatchesHold (after_write offset value k) (chip.after_write offset value c).latches
  written =
      by_register (λ n. (n == offsets.FCR) ≡ false → LatchesHold (after_write n value k) (chip.after_write n value c).latches)
      (λ e. data_wrote (dlab k) (knows_dlab k c.latches h)) (λ e. ier_wrote (dlab k) (knows_dlab k c.latches h))
      (λ e. with_lcr k c.latches h (Some value) value refl) (λ e. with_mcr k c.latches h (Some _) _ kept)
      (λ e. with_scr k c.latches h (Some value) value refl)
      (λ n o e. rw (e, o.not_data, o.not_ier, o.not_lcr, o.not_mcr, o.not_spr) h)
