-- Ticks outside of the schedule leave a ready state ready.
use Rattle.uart_run.proofs.Names.{◌≡◌, ℕ, zero, suc, refl, sym, ◌∙◌, ap, FifoSize, Fields, ChipState, is_dlab_set, is_loopback, ticks}
use Rattle.uart_run.proofs.Names.{MachineState, machine_of, KeepsReady, latches-ticks, same_size-ticks}
use Rattle.uart_run.proofs.SizeKept.{fits_by}

fifo-ticks : (n : ℕ) (c : ChipState) → (ticks n c).fifo ≡ c.fifo
fifo-ticks zero c = refl
fifo-ticks (suc n) c = fifo-ticks n c

pub ready_ticks : (n : ℕ) (m o : MachineState) → o ≡ record m { chip = ticks n m.chip } → KeepsReady m o
ready_ticks n m o e s t f g h r =
    let l : (machine_of t).chip.latches ≡ (machine_of s).chip.latches =
    ap (λ (x : MachineState). x.chip.latches) (g ∙ e) ∙ (latches-ticks n m.chip ∙ sym (ap (λ (x : MachineState). x.chip.latches) f)) in
    let b : (machine_of t).chip.fifo ≡ (machine_of s).chip.fifo =
    ap (λ (x : MachineState). x.chip.fifo) (g ∙ e) ∙ (fifo-ticks n m.chip ∙ sym (ap (λ (x : MachineState). x.chip.fifo) f)) in
    let held : MachineState → FifoSize = λ x. x.chip.transmitter.size in
    let size = ap held (g ∙ e) ∙ ((same_size-ticks n m.chip).transmitter ∙ sym (ap held f)) in
    record {
      dlab = ap is_dlab_set l ∙ r.dlab;
      loopback = ap is_loopback l ∙ r.loopback;
      fifo = b ∙ (r.fifo ∙ sym (ap (λ (x : Fields). x.fifo) h));
      fits = fits_by s t (ap (λ (x : Fields). x.size) h) size r.fits;
    }
