-- Whatever a call answers, it leaves a ready state ready.
use Rattle.uart_run.proofs.Names.{[], ◌∷◌, inr, refl, Call, Answer, State, machine_of, Link, CallStep, Ready, IsSound, IsWithinSession}
use Rattle.uart_call.specs.declared.call.Call.TheVariants as call
use Rattle.uart_run.proofs.{SizeKept.fits_kept, Sessions.session_conserves, SetupLaws.frame_when_idle_ready, SetupLaws.quiesce_ready}
use Rattle.uart_run.proofs.{SetupLaws.restores, initialising.Initialised.init_ready, initialising.SetUp.init_with_ready}
use Rattle.uart_run.proofs.{loopback.TestedReady.tested_ready}
use Rattle.uart_run.proofs.FrameLaws.{set_frame_ready, attach_ready, set_break_ready, set_control_ready, set_output_ready}
use Rattle.uart_spec.specs.declared.registers.modem_control.TheConstants.MCR

-- a call within a session is a session of its own
alone : (s t : State) (call : Call) (a : Answer) → IsWithinSession s call → IsSound (machine_of s) → CallStep s call a t → Ready s → Ready t
alone s t call a within w h ready =
    let link : Link = record { before = s; call = call; answer = a; after = t } in
    (session_conserves s t (link ∷ []) w (ready, (within, tt)) (refl, h, refl)).ready

pub follows_ready : (s t : State) (call : Call) (a : Answer) → IsSound (machine_of s) → CallStep s call a t → Ready s → Ready t
follows_ready s t (call.Init config) a w h ready = init_ready s t config a w h ready
follows_ready s t (call.InitWith config setup) a w h ready = init_with_ready s t config setup a w h ready
follows_ready s t call.Attach a w h ready = attach_ready s t a h ready
follows_ready s t (call.SetBreak on) a w h ready =
    set_break_ready s t on h.did.list h.did.does h.did.path (fits_kept s t (call.SetBreak on) a h tt ready.fits) ready
follows_ready s t (call.SetModemControl outputs) a w h ready =
    set_control_ready s t outputs.0 h.did.list h.did.does h.did.path (fits_kept s t (call.SetModemControl outputs) a h tt ready.fits) ready
follows_ready s t (call.SetRts on) a w h ready =
    set_output_ready s t MCR.RTS.0 on h.did.list h.did.does h.did.path (fits_kept s t (call.SetRts on) a h tt ready.fits) ready
follows_ready s t (call.SetDtr on) a w h ready =
    set_output_ready s t MCR.DTR.0 on h.did.list h.did.does h.did.path (fits_kept s t (call.SetDtr on) a h tt ready.fits) ready
follows_ready s t (call.SetFrame config) a w h ready = set_frame_ready s t config a h ready
follows_ready s t (call.SetFrameWhenIdle config) a w h ready = frame_when_idle_ready s t config a h ready
follows_ready s t (call.Quiesce outputs fifos) a w h ready =
    quiesce_ready s t outputs.0 fifos h.did.list w h.did.does h.did.path
    (fits_kept s t (call.Quiesce outputs fifos) a h (inr ready.dlab) ready.fits) ready
follows_ready s t (call.Restore dump) a w h ready =
    (restores s t dump h.did.list w h.did.does h.did.path).ready (fits_kept s t (call.Restore dump) a h tt ready.fits)
follows_ready s t call.TestLoopback a w h ready = tested_ready s t a w h ready
follows_ready s t other a w h ready = alone s t other a tt w h ready
