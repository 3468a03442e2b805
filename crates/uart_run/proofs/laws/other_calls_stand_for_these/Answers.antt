use Rattle.uart_run.proofs.Asking.{writes_in_turn, sends_sized, sends_in_turn, receives_in_turn, looks_in_turn, starts_terminal}
use Rattle.uart_run.proofs.StandsFor.{receives_one, sends_parts, sends_front, writes_bytes, reads_control, checks_init}
use Rattle.uart_run.proofs.StandsFor.{checks_init_with, checks_frame, checks_frame_when_idle}
use Rattle.uart_run.proofs.laws.other_calls_stand_for_these.Goals as goal

pub returns-clause-try_receive_with_errors : goal.returns-clause-try_receive_with_errors
returns-clause-try_receive_with_errors c = receives_one

pub returns-clause-send_gathered : goal.returns-clause-send_gathered
returns-clause-send_gathered c = sends_parts

pub returns-clause-send_burst : goal.returns-clause-send_burst
returns-clause-send_burst c = sends_front

pub returns-clause-write_raw_text : goal.returns-clause-write_raw_text
returns-clause-write_raw_text c = writes_bytes

pub returns-clause-is_gone : goal.returns-clause-is_gone
returns-clause-is_gone c = reads_control

pub returns-clause-checked_init : goal.returns-clause-checked_init
returns-clause-checked_init c = checks_init

pub returns-clause-checked_init_with : goal.returns-clause-checked_init_with
returns-clause-checked_init_with c = checks_init_with

pub returns-clause-checked_set_frame : goal.returns-clause-checked_set_frame
returns-clause-checked_set_frame c = checks_frame

pub returns-clause-checked_set_frame_when_idle : goal.returns-clause-checked_set_frame_when_idle
returns-clause-checked_set_frame_when_idle c = checks_frame_when_idle

pub returns-clause-send_burst_of_any_size : goal.returns-clause-send_burst_of_any_size
returns-clause-send_burst_of_any_size c = sends_sized

pub returns-clause-send_bytes_while : goal.returns-clause-send_bytes_while
returns-clause-send_bytes_while c = sends_in_turn

pub returns-clause-receive_bytes_while : goal.returns-clause-receive_bytes_while
returns-clause-receive_bytes_while c = receives_in_turn

pub returns-clause-flush_while : goal.returns-clause-flush_while
returns-clause-flush_while c = looks_in_turn

pub returns-clause-new_with_backend : goal.returns-clause-new_with_backend
returns-clause-new_with_backend c = starts_terminal

pub returns-clause-texts_of_any_length : goal.returns-clause-texts_of_any_length
returns-clause-texts_of_any_length c = writes_in_turn
