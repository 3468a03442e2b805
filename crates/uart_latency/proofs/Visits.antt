-- The handler's visit ends with fewer characters waiting than the trigger level.
use Rattle.uart_latency.proofs.Names.{◌≡◌, ◌&&◌, ℕ, Bool, true, false, not, Option, Some, if◌then◌else◌, refl, sym, ◌∙◌, ap, is_some}
use Rattle.uart_latency.proofs.Names.{has_any, InterruptType, ReceiverLineStatus, ReceivedDataReady, ChipState, interrupt, MachineStep}
use Rattle.uart_latency.proofs.Names.{is_data_pending, Handles, RingDid, ring_fields, Idle, Handled, idle_is_down, RingState, ring_machine}
use Rattle.uart_latency.proofs.Names.{under, Ready, is_below_level}
use Rattle.uart_spec.specs.declared.registers.interrupt_enable.TheConstants.IER
use Rattle.uart_latency.proofs.Listening.{handles}

none_due : (c : ChipState) → is_some (interrupt c) ≡ false → has_any c.latches.ier IER.DATA_READY.0 ≡ true →
    is_data_pending c.fifo c.receiver ≡ false
none_due c none enabled = ap (λ b. b && is_data_pending c.fifo c.receiver) (sym enabled) ∙ second _ _ _ none
  where
    second : (a b : Bool) (others : Option InterruptType) →
        is_some (if a then Some ReceiverLineStatus else if b then Some ReceivedDataReady else others) ≡ false → b ≡ false
    second true b others e = absurd (cc)
    second false true others e = absurd (cc)
    second false false others e = refl

pub visit_ends : (limit : ℕ) (handled : Handled) (s t : RingState) → handled.end ≡ Idle → RingDid MachineStep (Handles limit handled) s t →
    Ready (under s) → has_any (ring_machine s).chip.latches.ier IER.DATA_READY.0 ≡ true → (ring_fields t).is_paused ≡ false →
    is_below_level t ≡ true
visit_ends limit handled s t idle did ready enabled going =
    let listens = handles limit handled (ring_fields s) did.list (ring_fields t) did.does (ring_machine s) (ring_machine t) did.path
    (record { dlab = ready.dlab; enabled = λ on. enabled }) in
    ap not (none_due (ring_machine t).chip (idle_is_down limit handled s t idle did) (listens.enabled going))
