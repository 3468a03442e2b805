-- What each call of a run does is built so.
use Rattle.uart_run.proofs.Names.{[], ◌∷◌, refl, Read, Call, meaning, outcome_of, doing_of, SendsShortText}
use Rattle.uart_spec.specs.declared.registers.offsets.TheConstants as offsets
use Rattle.uart_call.specs.declared.call.Call.TheVariants as call
use Rattle.uart_run.proofs.built.Words.{Kinds, Does, only, asks, among, wider, saves, sets, by_fields, among_does, wider_does}
use Rattle.uart_run.proofs.built.Receive.{ready_to_receive, try_receive, receives, receives_exact, receives_with_errors, reads_some}
use Rattle.uart_run.proofs.{built.Receive.flushes, built.Receive.answers_read, built.Init.checks_presence, built.Loopback.tests_loopback}
use Rattle.uart_run.proofs.{built.Status.changes_lcr, built.Status.changes_mcr, built.Status.dumps, built.Status.checks_configured}
use Rattle.uart_run.proofs.{built.SettingUp.sets_trigger, built.SettingUp.quiesces, built.SettingUp.restores, built.SettingUp.attaches}
use Rattle.uart_run.proofs.built.Transmit.{ready_to_send, try_sends, sends, sends_exact, writes, answers_write, sends_text}
use Rattle.uart_run.proofs.built.Status.{without_fcr, calm, takes_lsr, takes_msr, connects, reads_divisor, enables, disables, retriggers}
use Rattle.uart_run.proofs.built.SettingUp.{any, putting_back, without_lcr, inits, inits_with, sets_frame, sets_frame_when_idle}

-- six calls write FCR, three of them with LCR; of the others these read ISR or write IER. Two may change whether CTS is checked
abbrev pub kinds_of : Call → Kinds
kinds_of (call.Init config) = any
kinds_of (call.InitWith config setup) = any
kinds_of (call.Restore dump) = putting_back
kinds_of (call.SetTriggerLevel level) = without_lcr
kinds_of (call.Quiesce outputs fifos) = without_lcr
kinds_of call.TestLoopback = without_lcr
kinds_of (call.SetFrame config) = without_fcr
kinds_of (call.SetFrameWhenIdle config) = without_fcr
kinds_of call.Attach = without_fcr
kinds_of (call.CheckConfigured outputs) = without_fcr
kinds_of call.Isr = without_fcr
kinds_of call.Dump = without_fcr
kinds_of (call.Enable bits) = without_fcr
kinds_of (call.Disable bits) = without_fcr
kinds_of call.RetriggerInterrupts = without_fcr
kinds_of other = calm

pub call_does : (c : Call) (outcome : outcome_of (meaning c)) → Does (kinds_of c) (doing_of (meaning c) outcome)
call_does call.Next outcome = sets (λ f. f) (λ f. (refl, refl))
call_does (call.Init config) outcome = inits config outcome
call_does (call.InitWith config setup) outcome = inits_with setup config outcome
call_does (call.SetFrame config) outcome = sets_frame config outcome
call_does (call.SetFrameWhenIdle config) outcome = sets_frame_when_idle config outcome
call_does (call.SetTriggerLevel level) outcome = sets_trigger level outcome
call_does call.Attach outcome = attaches outcome
call_does (call.SetBreak on) outcome = saves (changes_lcr _)
call_does (call.SetModemControl outputs) outcome = saves (only _ refl)
call_does (call.SetRts on) outcome = saves (changes_mcr _)
call_does (call.SetDtr on) outcome = saves (changes_mcr _)
call_does (call.Quiesce outputs fifos) outcome = quiesces outputs.0 fifos
call_does (call.Restore dump) outcome = restores dump
call_does (call.CheckConfigured outputs) outcome = by_fields (λ f l after t. t) (λ g. saves (checks_configured g.config outputs.0 outcome))
call_does call.TestLoopback outcome = wider_does refl (tests_loopback outcome)
call_does call.CheckPresent outcome = saves (wider refl (checks_presence outcome))
call_does call.CheckConnected outcome = saves (connects outcome)
call_does call.ReadyToReceive outcome = saves (wider refl (ready_to_receive outcome))
call_does call.ReadyToSend outcome = saves (wider refl (ready_to_send outcome))
call_does call.TryReceive outcome = saves (wider refl (try_receive outcome))
call_does call.Flush outcome = saves (wider refl (flushes outcome))
call_does call.ReadReady outcome = saves (wider refl (answers_read outcome))
call_does call.WriteReady outcome = saves (wider refl (answers_write outcome))
call_does call.Ier outcome = saves (only (Read offsets.IER outcome ∷ []) refl)
call_does call.Isr outcome = saves (only (Read offsets.ISR outcome ∷ []) refl)
call_does call.Lcr outcome = saves (only (Read offsets.LCR outcome ∷ []) refl)
call_does call.Mcr outcome = saves (only (Read offsets.MCR outcome ∷ []) refl)
call_does call.Lsr outcome = takes_lsr outcome
call_does call.Msr outcome = takes_msr outcome
call_does call.PeekModem outcome = saves (only (Read offsets.MSR outcome ∷ []) refl)
call_does call.IsIdle outcome = saves (asks refl)
call_does call.Spr outcome = saves (only (Read offsets.SPR outcome ∷ []) refl)
call_does call.DllDlm outcome = saves (reads_divisor outcome.0 outcome.1)
call_does call.FifoEnabled outcome = among_does (λ f l after t. t.1) (sets (λ f. f) (λ f. (refl, refl)))
call_does call.Dump outcome = dumps outcome
call_does (call.TrySend byte) outcome = saves (wider refl (try_sends byte outcome))
call_does (call.Enable bits) outcome = enables bits.0
call_does (call.Disable bits) outcome = disables bits.0
call_does call.RetriggerInterrupts outcome = saves retriggers
call_does (call.Receive slots) outcome = saves (wider refl (receives slots outcome))
call_does (call.ReceiveExact slots) outcome = saves (wider refl (receives_exact slots outcome.0 outcome.1))
call_does (call.ReceiveWithErrors slots) outcome = saves (wider refl (receives_with_errors slots outcome))
call_does (call.Read slots) outcome = saves (wider refl (reads_some slots outcome.0 outcome.1))
call_does (call.Send bytes) outcome = saves (wider refl (sends bytes.items outcome))
call_does (call.SendExact bytes) outcome = saves (wider refl (sends_exact bytes.items outcome))
call_does (call.Write bytes) outcome = saves (wider refl (writes bytes.items outcome))
call_does (call.Text text) outcome =
    saves {L = SendsShortText text.bytes outcome} (among (λ s l t. t.1) (wider refl (sends_text text.bytes outcome)))
