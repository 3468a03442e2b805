-- What each call means leaves no choice.
use Rattle.std.proofs.Common.{ℕ, List, Result, refl, sym, ◌∙◌, inl}
use Rattle.uart_spec.specs.declared.errors.StalledError.{StalledError}
use Rattle.uart_spec.specs.declared.registers.offsets.TheConstants as offsets
use Rattle.uart_spec.specs.declared.registers.modem_control.TheConstants.MCR
use Rattle.uart_16550.specs.Choice.{LeavesNoChoice}
use Rattle.uart_16550.specs.Driver.{Saving}
use Rattle.uart_16550.specs.DriverCalls.{SavingCall, ChangingCall}
use Rattle.uart_16550.specs.Receive.{Receives, ReceivesExact, ReceivesWithErrors}
use Rattle.uart_16550.specs.Io.{Reads}
use Rattle.uart_16550.proofs.determined.Parting.{determined_so}
use Rattle.uart_16550.proofs.determined.Doings.{saving_determined}
use Rattle.uart_16550.proofs.determined.Receive.{receives_determined, receives_exact_determined, receives_with_determined}
use Rattle.uart_16550.proofs.determined.Io.{reads_determined}
use Rattle.uart_16550.proofs.determined.Calls.{saving_leaves_no_choice, changing_leaves_no_choice}
use Rattle.uart_call.specs.declared.call.Call.{Call}
use Rattle.uart_call.specs.declared.call.Call.TheVariants as call
use Rattle.uart_call.specs.Calls.{IsRunnable}
use Rattle.uart_calls.specs.Meaning.{MakesNoAccess, ShowsFifo, ChecksStored, SendsShortText, doing_of, meaning}

no_access_one : LeavesNoChoice {R = Unit {0}} (λ outcome. MakesNoAccess)
no_access_one f a b l m after after' p q = inl (refl, p.0 ∙ sym q.0, p.1 ∙ sym q.1)

shows_fifo_one : LeavesNoChoice ShowsFifo
shows_fifo_one f a b l m after after' p q = inl (p.0 ∙ sym q.0, p.1.0 ∙ sym q.1.0, p.1.1 ∙ sym q.1.1)

-- calls whose outcome has the bytes that came, and not the slots
receives_one : (n : ℕ) → LeavesNoChoice (λ bytes. Saving (Receives n bytes))
receives_one n = saving_determined (Receives n) (λ s. receives_determined s n)

receives_with_one : (n : ℕ) → LeavesNoChoice (λ items. Saving (ReceivesWithErrors n items))
receives_with_one n = saving_determined (ReceivesWithErrors n) (λ s. receives_with_determined s n)

receives_exact_one : (n : ℕ) →
    LeavesNoChoice {R = List ℕ × Result (Unit {0}) StalledError} (λ got. Saving (ReceivesExact n got.0 got.1))
receives_exact_one n =
    saving_determined (λ got. ReceivesExact n got.0 got.1)
    (λ s x y. determined_so (λ r i. (r.0 i, r.1 i)) (receives_exact_determined s n x.0 y.0 x.1 y.1))

reads_one : (n : ℕ) → LeavesNoChoice {R = List ℕ × Result ℕ StalledError} (λ got. Saving (Reads n got.0 got.1))
reads_one n =
    saving_determined (λ got. Reads n got.0 got.1)
    (λ s x y. determined_so (λ r i. (r.0 i, r.1 i)) (reads_determined s n x.0 y.0 x.1 y.1))

text_one : (text : List ℕ) → LeavesNoChoice (λ result. Saving (SendsShortText text result))
text_one text f a b l m after after' p q =
    saving_leaves_no_choice (SavingCall.write_text text) f a b l m after after' (p.0.1, p.1) (q.0.1, q.1)

checks_stored_one : (outputs : ℕ) → LeavesNoChoice (ChecksStored outputs)
checks_stored_one outputs f a b l m after after' p q =
    saving_leaves_no_choice (SavingCall.check_configured f.config outputs) f a b l m after after' p q

pub meaning_leaves_no_choice : (call : Call) → IsRunnable call → LeavesNoChoice (doing_of (meaning call))
meaning_leaves_no_choice call.Next ok = no_access_one
meaning_leaves_no_choice (call.Init config) ok = changing_leaves_no_choice (ChangingCall.init config ok)
meaning_leaves_no_choice (call.InitWith config setup) ok = changing_leaves_no_choice (ChangingCall.init_with setup config ok)
meaning_leaves_no_choice (call.SetFrame config) ok = changing_leaves_no_choice (ChangingCall.set_frame config ok)
meaning_leaves_no_choice (call.SetFrameWhenIdle config) ok = changing_leaves_no_choice (ChangingCall.set_frame_when_idle config ok)
meaning_leaves_no_choice (call.SetTriggerLevel level) ok = changing_leaves_no_choice (ChangingCall.set_trigger_level level)
meaning_leaves_no_choice call.Attach ok = changing_leaves_no_choice ChangingCall.attach
meaning_leaves_no_choice (call.SetBreak on) ok = saving_leaves_no_choice (SavingCall.set_break on)
meaning_leaves_no_choice (call.SetModemControl outputs) ok = saving_leaves_no_choice (SavingCall.set_modem_control outputs.0)
meaning_leaves_no_choice (call.SetRts on) ok = saving_leaves_no_choice (SavingCall.set_output MCR.RTS.0 on)
meaning_leaves_no_choice (call.SetDtr on) ok = saving_leaves_no_choice (SavingCall.set_output MCR.DTR.0 on)
meaning_leaves_no_choice (call.Quiesce outputs fifos) ok = changing_leaves_no_choice (ChangingCall.quiesce outputs.0 fifos)
meaning_leaves_no_choice (call.Restore dump) ok = changing_leaves_no_choice (ChangingCall.restore dump)
meaning_leaves_no_choice (call.CheckConfigured outputs) ok = checks_stored_one outputs.0
meaning_leaves_no_choice call.TestLoopback ok = changing_leaves_no_choice ChangingCall.test_loopback
meaning_leaves_no_choice call.CheckPresent ok = saving_leaves_no_choice SavingCall.check_present
meaning_leaves_no_choice call.CheckConnected ok = saving_leaves_no_choice SavingCall.check_connected
meaning_leaves_no_choice call.ReadyToReceive ok = saving_leaves_no_choice SavingCall.ready_to_receive
meaning_leaves_no_choice call.ReadyToSend ok = saving_leaves_no_choice SavingCall.ready_to_send
meaning_leaves_no_choice call.TryReceive ok = saving_leaves_no_choice SavingCall.try_receive_byte
meaning_leaves_no_choice call.Flush ok = saving_leaves_no_choice SavingCall.flush
meaning_leaves_no_choice call.ReadReady ok = saving_leaves_no_choice SavingCall.read_ready
meaning_leaves_no_choice call.WriteReady ok = saving_leaves_no_choice SavingCall.write_ready
meaning_leaves_no_choice call.Ier ok = saving_leaves_no_choice (SavingCall.read_register offsets.IER)
meaning_leaves_no_choice call.Isr ok = saving_leaves_no_choice (SavingCall.read_register offsets.ISR)
meaning_leaves_no_choice call.Lcr ok = saving_leaves_no_choice (SavingCall.read_register offsets.LCR)
meaning_leaves_no_choice call.Mcr ok = saving_leaves_no_choice (SavingCall.read_register offsets.MCR)
meaning_leaves_no_choice call.Lsr ok = changing_leaves_no_choice ChangingCall.lsr
meaning_leaves_no_choice call.Msr ok = changing_leaves_no_choice ChangingCall.msr
meaning_leaves_no_choice call.PeekModem ok = saving_leaves_no_choice (SavingCall.read_register offsets.MSR)
meaning_leaves_no_choice call.IsIdle ok = saving_leaves_no_choice SavingCall.is_idle
meaning_leaves_no_choice call.Spr ok = saving_leaves_no_choice (SavingCall.read_register offsets.SPR)
meaning_leaves_no_choice call.DllDlm ok = saving_leaves_no_choice SavingCall.dll_dlm
meaning_leaves_no_choice call.FifoEnabled ok = shows_fifo_one
meaning_leaves_no_choice call.Dump ok = changing_leaves_no_choice ChangingCall.config_register_dump
meaning_leaves_no_choice (call.TrySend byte) ok = saving_leaves_no_choice (SavingCall.try_send_byte byte)
meaning_leaves_no_choice (call.Enable bits) ok = changing_leaves_no_choice (ChangingCall.enable_interrupts bits.0)
meaning_leaves_no_choice (call.Disable bits) ok = changing_leaves_no_choice (ChangingCall.disable_interrupts bits.0)
meaning_leaves_no_choice call.RetriggerInterrupts ok = saving_leaves_no_choice SavingCall.retrigger_interrupts
meaning_leaves_no_choice (call.Receive slots) ok = receives_one slots
meaning_leaves_no_choice (call.ReceiveExact slots) ok = receives_exact_one slots
meaning_leaves_no_choice (call.ReceiveWithErrors slots) ok = receives_with_one slots
meaning_leaves_no_choice (call.Read slots) ok = reads_one slots
meaning_leaves_no_choice (call.Send bytes) ok = saving_leaves_no_choice (SavingCall.send_bytes bytes.items)
meaning_leaves_no_choice (call.SendExact bytes) ok = saving_leaves_no_choice (SavingCall.send_bytes_exact bytes.items)
meaning_leaves_no_choice (call.Write bytes) ok = saving_leaves_no_choice (SavingCall.write bytes.items)
meaning_leaves_no_choice (call.Text text) ok = text_one text.bytes
