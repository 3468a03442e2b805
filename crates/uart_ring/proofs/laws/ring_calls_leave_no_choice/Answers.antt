use Rattle.uart_ring.proofs.Choices.{queues_leave_no_choice, resumes_leave_no_choice, takes_leave_no_choice, services_leave_no_choice}
use Rattle.uart_ring.proofs.Choices.{takes_line_leaves_no_choice, takes_modem_leaves_no_choice, handles_leave_no_choice}
use Rattle.uart_ring.proofs.Choices.{retriggers_leave_no_choice}
use Rattle.uart_ring.proofs.Choices.{holds_leave_no_choice, releases_leave_no_choice, queues_urgent_leaves_no_choice}
use Rattle.uart_ring.proofs.Choices.{clears_transmit_leaves_no_choice, clears_receive_leaves_no_choice, sets_low_mark_leaves_no_choice}
use Rattle.uart_ring.proofs.Choices.{takes_low_leaves_no_choice, tries_leave_no_choice, restarts_leave_no_choice}
use Rattle.uart_ring.proofs.Choices.{adjusts_leave_no_choice}
use Rattle.uart_ring.proofs.Choices.{dumps_registers_leave_no_choice}
use Rattle.uart_ring.proofs.laws.ring_calls_leave_no_choice.Goals as goal

pub returns : goal.returns
returns c = record {
  queue = queues_leave_no_choice;
  resume_transmit = resumes_leave_no_choice;
  take = takes_leave_no_choice;
  service = services_leave_no_choice;
  handle = handles_leave_no_choice;
  retrigger = retriggers_leave_no_choice;
  take_line = takes_line_leaves_no_choice;
  take_modem = takes_modem_leaves_no_choice;
  hold_transmit = holds_leave_no_choice;
  release_transmit = releases_leave_no_choice;
  queue_urgent = queues_urgent_leaves_no_choice;
  clear_transmit = clears_transmit_leaves_no_choice;
  clear_receive = clears_receive_leaves_no_choice;
  set_low_mark = sets_low_mark_leaves_no_choice;
  take_low = takes_low_leaves_no_choice;
  try_handle = tries_leave_no_choice;
  restart = restarts_leave_no_choice;
  config_register_dump = dumps_registers_leave_no_choice;
  adjust_rts = adjusts_leave_no_choice;
}
