-- That lines and a break may be switched in a session.
use Rattle.uart_run.proofs.Names.{ℕ, Bool, refl, Language, Made, SetsBreak, SetsOutput, Uart16550, did_made, MachineState, MachineStep}
use Rattle.uart_run.proofs.Names.{Ready, BurstsFit, under_terminal, machine_of}
use Rattle.uart_spec.specs.declared.registers.modem_control.TheConstants.MCR
use Rattle.uart_run.proofs.{NeverSwitched.NeverEver, NeverSwitched.unwritten, SizeKept.left_ever, SizeKept.fits_after}
use Rattle.uart_run.proofs.{FrameLaws.set_output_ready, FrameLaws.set_break_ready}

-- a call that saves what it reads changes no size
switched_fits : (before after : Uart16550 MachineState) (L : Language) → (made : Made MachineStep L before after) →
    NeverEver made.list → Ready (under_terminal before) → BurstsFit (under_terminal after)
switched_fits before after L made stays ready =
    let leaves = left_ever (machine_of (under_terminal before)) made.list stays in
    fits_after (under_terminal before) (under_terminal after) made.list made.size leaves made.path ready.fits

switch_output : (output : ℕ) (on : Bool) (before after : Uart16550 MachineState) → Ready (under_terminal before) →
    Made MachineStep (SetsOutput output on) before after → Ready (under_terminal after)
switch_output output on before after ready made =
    let d = did_made made in
    set_output_ready (under_terminal before) (under_terminal after) output on d.list d.does d.path
    (switched_fits before after _ made (unwritten made.list (rw made.fits.1 (tt, (refl, tt)))) ready) ready

pub switch_rts : (on : Bool) (before after : Uart16550 MachineState) → Ready (under_terminal before) →
    Made MachineStep (SetsOutput MCR.RTS.0 on) before after → Ready (under_terminal after)
switch_rts = switch_output MCR.RTS.0

pub switch_dtr : (on : Bool) (before after : Uart16550 MachineState) → Ready (under_terminal before) →
    Made MachineStep (SetsOutput MCR.DTR.0 on) before after → Ready (under_terminal after)
switch_dtr = switch_output MCR.DTR.0

pub switch_break : (on : Bool) (before after : Uart16550 MachineState) → Ready (under_terminal before) →
    Made MachineStep (SetsBreak on) before after → Ready (under_terminal after)
switch_break on before after ready made =
    let d = did_made made in
    set_break_ready (under_terminal before) (under_terminal after) on d.list d.does d.path
    (switched_fits before after _ made (unwritten made.list (rw made.fits.1 (tt, (refl, tt)))) ready) ready
