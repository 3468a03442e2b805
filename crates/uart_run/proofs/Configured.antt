-- That the registers are as configured after an `init` or an `init_with` that is done, so that `check_configured` is Ok.
use Rattle.uart_run.proofs.Names.{◌≡◌, ℕ, ◌<◌, Ok, sym, ◌∙◌, ap, subst, arith, bit_and, and_assoc, and_mask, common_steps, without}
use Rattle.uart_run.proofs.Names.{IsWithin, IsComputable, Config, Setup, Verdict, ChecksConfigured, Did, fields, backend_of, Made}
use Rattle.uart_run.proofs.Names.{DivisorOf, Inits, frame_bits, InitsWith, inner_of, Uart16550, divisor, MachineState, MachineStep}
use Rattle.uart_run.proofs.Names.{ier_bits, mcr_bits, IsSound, IsInitialised, IsSetUp, IsConfigured, latches_of, under_terminal, State}
use Rattle.uart_run.proofs.Names.{machine_of, within_any}
use Rattle.uart_spec.specs.declared.registers.line_control.TheConstants.LCR
use Rattle.uart_spec.specs.declared.registers.modem_control.TheConstants.MCR
use Rattle.uart_run.proofs.{CheckAnswers.check_found, OutputLaws.within_unlooped, initialising.Inits.frame-low}
use Rattle.uart_run.proofs.{initialising.Stored.init_stores, initialising.Stored.init_with_stores}
use Rattle.uart_run.proofs.initialising.Initialised as initialised
use Rattle.uart_run.proofs.initialising.SetUp as arranged

-- ---- the registers

-- a frame has no break
low_bits : (n : ℕ) → n < 64 → bit_and n 63 ≡ n
low_bits n h = let e = and_mask n 6 in grind (arith, common_steps, e)

frame_whole : (config : Config) → without 8 (frame_bits config) LCR.SET_BREAK.0 ≡ frame_bits config
frame_whole config =
    let n = frame_bits config in
    let low = low_bits n (frame-low config) in
    ap (λ (v : ℕ). bit_and v 191) (sym low) ∙ (and_assoc 191 n 63 ∙ low)

initialised_is_configured : (config : Config) (t : State) → IsComputable config → IsWithin config.interrupts.0 ier_bits →
    (fields (inner_of t)).config ≡ config → IsInitialised config t → IsConfigured MCR.READY.0 t
initialised_is_configured config t ok within stored i = record {
  computable = subst IsComputable (sym stored) ok;
  lcr = ap (λ (v : ℕ). without 8 v LCR.SET_BREAK.0) i.lcr ∙ (frame_whole config ∙ sym (ap frame_bits stored));
  mcr = i.mcr;
  ier = i.ier ∙ (within ∙ sym (ap (λ (c : Config). c.interrupts.0) stored));
  divisor_latch = subst (λ (c : Config). DivisorOf c (Ok (divisor (latches_of t)))) (sym stored) i.divisor_latch;
  fifo = i.knows;
}

set_up_is_configured : (setup : Setup) (config : Config) (t : State) → IsComputable config → IsWithin config.interrupts.0 ier_bits →
    IsWithin setup.outputs.0 mcr_bits → (fields (inner_of t)).config ≡ config → IsSetUp setup config t → IsConfigured setup.outputs.0 t
set_up_is_configured setup config t ok within kept stored i = record {
  computable = subst IsComputable (sym stored) ok;
  lcr = ap (λ (v : ℕ). without 8 v LCR.SET_BREAK.0) i.lcr ∙ (frame_whole config ∙ sym (ap frame_bits stored));
  mcr = i.mcr ∙ (let f = (machine_of t).chip.auto_flow in within_unlooped f setup.outputs.0 (within_any f setup.outputs.0 kept));
  ier = i.ier ∙ (within ∙ sym (ap (λ (c : Config). c.interrupts.0) stored));
  divisor_latch = subst (λ (c : Config). DivisorOf c (Ok (divisor (latches_of t)))) (sym stored) i.divisor_latch;
  fifo = i.knows;
}

-- ---- the check

check_passes : (outputs : ℕ) (before after : Uart16550 MachineState) (found : Verdict) → IsConfigured outputs (under_terminal before) →
    Made MachineStep (ChecksConfigured (fields before).config outputs found) before after → found ≡ Ok tt
check_passes outputs before after found is made =
    (check_found (under_terminal before) outputs found made.list (backend_of after) made.fits made.path).1 is

pub init_checks : (s : Uart16550 MachineState) → IsSound (backend_of s) → (config : Config) (after later : Uart16550 MachineState)
    (found : Verdict) → IsComputable config → IsWithin config.interrupts.0 ier_bits → Did MachineStep (Inits config (Ok (tt {0}))) s after →
    Made MachineStep (ChecksConfigured (fields after).config MCR.READY.0 found) after later → found ≡ Ok tt
init_checks s sound config after later found ok within did made =
    let does = did.does in
    check_passes MCR.READY.0 after later found
    (initialised_is_configured config (under_terminal after) ok within (init_stores config (fields s) (fields after) did.list does)
    (initialised.done config does.0 does.1 (fields s) did.list (backend_of s) (under_terminal after) sound does.2 does.3 did.path)) made

pub init_with_checks : (s : Uart16550 MachineState) → IsSound (backend_of s) → (setup : Setup) (config : Config)
    (after later : Uart16550 MachineState) (found : Verdict) → IsComputable config → IsWithin config.interrupts.0 ier_bits →
    IsWithin setup.outputs.0 mcr_bits → Did MachineStep (InitsWith setup config (Ok (tt {0}))) s after →
    Made MachineStep (ChecksConfigured (fields after).config setup.outputs.0 found) after later → found ≡ Ok tt
init_with_checks s sound setup config after later found ok within kept did made =
    let does = did.does in
    check_passes setup.outputs.0 after later found
    (set_up_is_configured setup config (under_terminal after) ok within kept
    (init_with_stores setup config (fields s) (fields after) did.list does)
    (arranged.done setup config does.0 does.1 (fields s) did.list (backend_of s) (under_terminal after) sound does.2 does.3 did.path)) made
