-- The calls of a driver leave no choice.
use Rattle.std.proofs.Common.{◌≡◌, ◌++◌, refl}
use Rattle.std.specs.Prelude.{option_to_list}
use Rattle.std.specs.declared.fmt.Error.{Error}
use Rattle.uart_16550.specs.Choice.{LeavesNoChoice}
use Rattle.uart_16550.specs.Grammar.{Settings}
use Rattle.uart_16550.specs.Driver.{Saving, with_fifo_size, with_limit}
use Rattle.uart_16550.specs.DriverCalls.{SavingCall, SavingOutcome, SavingLists, ChangingCall, ChangingDoing}
use Rattle.uart_spec.specs.declared.registers.offsets.TheConstants as offsets
use Rattle.uart_spec.specs.declared.registers.line_control.TheConstants.LCR
use Rattle.uart_spec.specs.declared.registers.line_status.TheConstants.LSR
use Rattle.uart_16550.specs.Frame.{switched, unlooped}
use Rattle.uart_16550.specs.declared.driver.status.TheConstants.{UNDRIVEN}
use Rattle.uart_16550.proofs.determined.Parting.{Determined, read_determined, asks_determined, determined_so, determined_only}
use Rattle.uart_16550.proofs.determined.Frame.{modifies_determined, sets_frame_determined, attaches_determined}
use Rattle.uart_16550.proofs.determined.Doings.{no_choice, saving_determined, does_so, does_set}
use Rattle.uart_16550.proofs.determined.Receive.{ready_to_receive_determined, try_receive_determined, try_receive_with_determined}
use Rattle.uart_16550.proofs.determined.Transmit.{ready_to_send_determined, sends_determined, try_send_determined, sends_exact_determined}
use Rattle.uart_16550.proofs.determined.Transmit.{sends_burst_determined}
use Rattle.uart_16550.proofs.determined.Configured.{checks_configured_determined}
use Rattle.uart_16550.proofs.determined.Expansion.{text_determined, str_determined}
use Rattle.uart_16550.proofs.determined.Io.{receives_into_determined, exact_into_determined, reads_into_determined, writes_determined}
use Rattle.uart_16550.proofs.determined.Io.{receives_with_into_determined, receives_while_determined}
use Rattle.uart_16550.proofs.determined.Io.{flushes_determined, answers_read_determined, answers_write_determined}
use Rattle.uart_16550.proofs.determined.Status.{takes_lsr_determined, takes_msr_determined, connects_determined, divisor_determined}
use Rattle.uart_16550.proofs.determined.Status.{enables_determined, disables_determined, dumps_determined}
use Rattle.uart_16550.proofs.determined.Status.{retriggers_determined}
use Rattle.uart_16550.proofs.determined.Init.{presence_determined, inits_determined}
use Rattle.uart_16550.proofs.determined.Loopback.{tests_loopback_determined}
use Rattle.uart_16550.proofs.determined.Sizing.{finds_fifo_size_determined, enables_64_determined}
use Rattle.uart_16550.proofs.determined.Setup.{sets_trigger_determined, sets_frame_when_idle_determined, inits_with_determined}
use Rattle.uart_16550.proofs.determined.Setup.{quiesces_determined, restores_determined}
use Rattle.uart_16550.proofs.determined.Tty.{starts_determined}
use Rattle.uart_16550.proofs.determined.Waiting.{as_answered_determined, flushes_while_determined}

lists_determined : (call : SavingCall) (s : Settings) (a b : SavingOutcome call) →
    Determined (a ≡ b) (SavingLists call a s) (SavingLists call b s)
lists_determined (SavingCall.read_register register) s = read_determined register
lists_determined SavingCall.check_connected s = connects_determined s
lists_determined SavingCall.dll_dlm s = divisor_determined s
lists_determined SavingCall.check_present s = presence_determined s
lists_determined SavingCall.is_idle s = asks_determined offsets.LSR LSR.TRANSMITTER_EMPTY.0
lists_determined SavingCall.is_gone s = asks_determined offsets.MCR UNDRIVEN
lists_determined (SavingCall.check_configured config outputs) s = checks_configured_determined config outputs s
lists_determined (SavingCall.set_break on) s = modifies_determined s offsets.LCR (switched on LCR.SET_BREAK.0)
lists_determined (SavingCall.set_modem_control bits) s = λ a b. determined_so (λ t. refl) (determined_only refl)
lists_determined (SavingCall.set_output output on) s = modifies_determined s offsets.MCR (λ mcr. unlooped (switched on output mcr))
lists_determined SavingCall.retrigger_interrupts s = retriggers_determined s
lists_determined SavingCall.ready_to_receive s = ready_to_receive_determined s
lists_determined SavingCall.try_receive_byte s = try_receive_determined s
lists_determined SavingCall.try_receive_with_errors s = try_receive_with_determined s
lists_determined (SavingCall.receive_with_errors slots) s = receives_with_into_determined s slots
lists_determined SavingCall.ready_to_send s = ready_to_send_determined s
lists_determined (SavingCall.receive_bytes slots) s = receives_into_determined s slots
lists_determined (SavingCall.receive_bytes_exact slots) s = exact_into_determined s slots
lists_determined (SavingCall.try_send_byte byte) s = try_send_determined s byte
lists_determined (SavingCall.send_bytes bytes) s = sends_determined s bytes
lists_determined (SavingCall.send_burst size bytes) s = sends_burst_determined s size bytes
lists_determined (SavingCall.send_gathered urgent first second) s = sends_determined s (option_to_list urgent ++ (first ++ second))
lists_determined (SavingCall.send_bytes_exact bytes) s = sends_exact_determined s bytes
lists_determined (SavingCall.send_bytes_while bytes answers) s = as_answered_determined s bytes answers
lists_determined (SavingCall.receive_bytes_while slots answers) s = receives_while_determined s slots answers
lists_determined (SavingCall.flush_while answers) s = flushes_while_determined s answers
lists_determined (SavingCall.read slots) s = reads_into_determined s slots
lists_determined (SavingCall.write bytes) s = writes_determined s bytes
lists_determined SavingCall.flush s = flushes_determined s
lists_determined SavingCall.read_ready s = answers_read_determined s
lists_determined SavingCall.write_ready s = answers_write_determined s
lists_determined (SavingCall.write_text text) s = text_determined s text
lists_determined (SavingCall.write_str text) s = str_determined s text Error (λ x y. refl)

pub saving_leaves_no_choice : (call : SavingCall) → LeavesNoChoice (λ outcome. Saving (SavingLists call outcome))
saving_leaves_no_choice call = saving_determined (SavingLists call) (lists_determined call)

pub changing_leaves_no_choice : (call : ChangingCall) → LeavesNoChoice (ChangingDoing call)
changing_leaves_no_choice ChangingCall.lsr = no_choice takes_lsr_determined
changing_leaves_no_choice ChangingCall.msr = no_choice takes_msr_determined
changing_leaves_no_choice ChangingCall.config_register_dump = no_choice dumps_determined
changing_leaves_no_choice (ChangingCall.enable_interrupts bits) = no_choice (enables_determined bits)
changing_leaves_no_choice (ChangingCall.disable_interrupts bits) = no_choice (disables_determined bits)
changing_leaves_no_choice (ChangingCall.set_fifo_size size) = no_choice (λ f a b. does_so (λ t. refl) (does_set f (with_fifo_size size)))
changing_leaves_no_choice (ChangingCall.set_spin_limit limit) = no_choice (λ f a b. does_so (λ t. refl) (does_set f (with_limit limit)))
changing_leaves_no_choice (ChangingCall.init config computable) = no_choice (inits_determined config computable)
changing_leaves_no_choice (ChangingCall.start config computable) = no_choice (starts_determined config computable)
changing_leaves_no_choice (ChangingCall.set_frame config computable) = no_choice (sets_frame_determined config computable)
changing_leaves_no_choice (ChangingCall.set_frame_when_idle config computable) =
    no_choice (sets_frame_when_idle_determined config computable)
changing_leaves_no_choice (ChangingCall.init_with setup config computable) = no_choice (inits_with_determined setup config computable)
changing_leaves_no_choice (ChangingCall.set_trigger_level level) = no_choice (sets_trigger_determined level)
changing_leaves_no_choice (ChangingCall.quiesce outputs fifos) = no_choice (quiesces_determined outputs fifos)
changing_leaves_no_choice (ChangingCall.restore dump) = no_choice (restores_determined dump)
changing_leaves_no_choice ChangingCall.attach = no_choice attaches_determined
changing_leaves_no_choice ChangingCall.test_loopback = no_choice tests_loopback_determined
changing_leaves_no_choice ChangingCall.find_fifo_size = no_choice finds_fifo_size_determined
changing_leaves_no_choice ChangingCall.enable_64_byte_fifos = no_choice enables_64_determined
