-- A handler that finds as many characters waiting as the trigger level is told the receiver's interrupt, behind at most one line error.
use Rattle.uart_latency.proofs.Names.{◌≡◌, ℕ, ◌+◌, ◌-◌, ◌*◌, ◌≤◌, ◌<◌, Bool, true, false, nat_le, length, refl, sym, ◌∙◌, ap, subst, inl}
use Rattle.uart_latency.proofs.Names.{arith, if◌then◌else◌, Some, nat_tests, has_any, characters, Read, ReceivedDataReady, ChipState}
use Rattle.uart_latency.proofs.Names.{interrupt, is_thr_empty, with_thr_pending, after_read, MachineState, MachineStep, at_access}
use Rattle.uart_latency.proofs.Names.{ReceiverState, characters_of, is_data_pending, report, some_characters, Kept, kept_access, kept_step}
use Rattle.uart_latency.proofs.Names.{late_if, late_at, passing}
use Rattle.uart_spec.specs.declared.registers.interrupt_enable.TheConstants.IER
use Rattle.uart_spec.specs.declared.registers.offsets.TheConstants as offsets
use Rattle.uart_latency.proofs.{Moves.calm_read, Quick.most_if, Quick.late_most, Told.IsTold, Told.told_report, Told.then_told}
use Rattle.uart_latency.proofs.Behind.{After, IsEarlyAt, after_before, after_step, passes_before, told_before, pending_is}

-- a read of ISR leaves what waits
isr_keeps : (c : ChipState) → length (after_read offsets.ISR c).receiver.queue ≡ length c.receiver.queue
isr_keeps c = go (is_thr_empty (interrupt c))
  where
    go : (b : Bool) → length (if b then with_thr_pending false c else c).receiver.queue ≡ length c.receiver.queue
    go true = refl
    go false = refl

module _ (t d : ℕ) (r : ReceiverState) (early : d < (characters r.size - characters_of r.size r.trigger + 1) * t) where
  -- as many characters wait as the trigger level, DATA_READY is enabled, and it is no later than d
  pub record IsReached (late : ℕ) (m : MachineState) : Type 0 where
    pub after : After t d r early m.ahead late m.chip
    pub few : late ≤ d
    pub enabled : has_any m.chip.latches.ier IER.DATA_READY.0 ≡ true
    pub reached : characters_of r.size r.trigger ≤ length m.chip.receiver.queue

  pub pending : (late : ℕ) (m : MachineState) → IsReached late m → is_data_pending m.chip.fifo m.chip.receiver ≡ true
  pending late m h =
      let b = h.after.behind in
      let reached = h.reached in
      let yes : nat_le (characters_of r.size r.trigger) (length m.chip.receiver.queue) ≡ true = grind (arith, nat_tests) in
      pending_is t d r early m.chip b.fifo b.size b.trigger ∙ yes

  -- up to the next access
  to_access : (late : ℕ) (m : MachineState) → IsReached late m → late_at late m.ahead m.chip ≤ d →
      IsReached (late_at late m.ahead m.chip) (at_access m)
  to_access late m h few = record {
    after = after_before t d r early m.ahead late m.chip h.after;
    few = few;
    enabled = ap (λ (k : Kept). has_any k.latches.ier IER.DATA_READY.0) (kept_access m) ∙ h.enabled;
    reached =
        let stays = (passes_before t d r early m.ahead late m.chip h.after).stays in
        let reached = h.reached in
        omega (arith, stays, reached);
  }

  -- a read that leaves what waits
  looks : (offset value late : ℕ) (m n : MachineState) → IsReached late (at_access m) →
      length (after_read offset (at_access m).chip).receiver.queue ≡ length (at_access m).chip.receiver.queue →
      MachineStep m (Read offset value) n → IsReached (late_if (late - 0) n.chip) n
  looks offset value late m n h keeps s =
      let c = (at_access m).chip in
      let off = h.after.behind.loopback in
      let calm = calm_read offset c off in
      let next = after_step t d r early c (after_read offset c) (at_access m).ahead late 0 calm (inl refl) h.few h.after in
      let E : MachineState → Type 0 = λ o. IsEarlyAt t d r early (late_if (late - 0) o.chip) o in
      let there = subst E (sym s.0) next in
      let ier = ap (λ (k : Kept). has_any k.latches.ier IER.DATA_READY.0) (kept_access m) in
      record {
        after = there.after;
        few = there.few;
        enabled = ap (λ (k : Kept). has_any k.latches.ier IER.DATA_READY.0) (kept_step (Read offset value) m n s) ∙ (sym ier ∙ h.enabled);
        reached =
            let waits : length n.chip.receiver.queue ≡ length (after_read offset c).receiver.queue =
            ap (λ (o : MachineState). length o.chip.receiver.queue) s.0 in
            let reached = h.reached in
            omega (arith, waits, keeps, reached);
      }

  -- ISR is read, and LSR: then the receiver's interrupt is the first. There is room for what comes meanwhile, so no overrun is noted
  pub behind_line : (e b late isr line : ℕ) (m o p : MachineState) → IsReached late (at_access m) → late ≤ b → b + 2 * e ≤ d →
      MachineStep m (Read offsets.ISR isr) o → MachineStep o (Read offsets.LSR line) p → passing o.ahead ≤ e → passing p.ahead ≤ e →
      interrupt (at_access p).chip ≡ Some ReceivedDataReady
  behind_line e b late isr line m o p h found fits told look first second =
      let left = late_if (late - 0) o.chip in
      let most = most_if (late - 0) o.chip in
      let at_look = late_most o.ahead left o.chip in
      let reads = looks offsets.ISR isr late m o h (isr_keeps (at_access m).chip) told in
      let there = to_access left o reads (omega (arith, most, at_look, found, first, fits)) in
      let now = late_at left o.ahead o.chip in
      let left_then = late_if (now - 0) p.chip in
      let most_then = most_if (now - 0) p.chip in
      let at_last = late_most p.ahead left_then p.chip in
      let few : late_at left_then p.ahead p.chip ≤ d = omega (arith, most_then, at_last, most, at_look, found, first, second, fits) in
      let looked = looks offsets.LSR line now o p there refl look in
      let last = to_access left_then p looked few in
      let some : 1 ≤ length (at_access o).chip.receiver.queue =
      let one = some_characters r.size r.trigger in let reached = there.reached in omega (arith, one, reached) in
      let shown : p.chip.receiver ≡ report (at_access o).chip.receiver = ap (λ (k : MachineState). k.chip.receiver) look.0 in
      let T : ReceiverState → Type 0 = λ s. IsTold s in
      let told_then = subst T (sym shown) (told_report (at_access o).chip.receiver some) in
      let still = told_before t d r early p.ahead left_then p.chip looked.after told_then few in
      then_told (at_access p).chip still last.enabled (pending (late_at left_then p.ahead p.chip) (at_access p) last)
