use Rattle.uart_ring.proofs.Arming.{queues_arm_unless_held, resumes_arm, resumes_arm_unless_held}
use Rattle.uart_ring.proofs.Arming.{queues_leave, queues_arm, takes_leave, services_leave, takes_line_leave, takes_modem_leave}
use Rattle.uart_ring.proofs.Arming.{handles_leave, retriggers_leave}
use Rattle.uart_ring.proofs.Arming.{holds_leave, releases_arm, releases_arm_unless_held, queues_urgent_arm, queues_urgent_arm_unless_held}
use Rattle.uart_ring.proofs.Arming.{clears_transmit_leave, clears_receive_leave, sets_low_mark_leave, takes_low_leave, tries_leave}
use Rattle.uart_ring.proofs.Arming.{restarts_arm}
use Rattle.uart_ring.proofs.Arming.{adjusts_leave}
use Rattle.uart_ring.proofs.Arming.{dumps_registers_arm}
use Rattle.uart_ring.proofs.laws.ring_calls_leave_armed.Goals as goal

pub returns : goal.returns
returns c = record {
  queue = queues_leave;
  queue_arms = queues_arm;
  queue_arms_unless_held = queues_arm_unless_held;
  resume_transmit = resumes_arm;
  resume_transmit_unless_held = resumes_arm_unless_held;
  take = takes_leave;
  service = services_leave;
  handle = handles_leave;
  retrigger = retriggers_leave;
  take_line = takes_line_leave;
  take_modem = takes_modem_leave;
  hold_transmit = holds_leave;
  release_transmit = releases_arm;
  release_transmit_unless_held = releases_arm_unless_held;
  queue_urgent = queues_urgent_arm;
  queue_urgent_unless_held = queues_urgent_arm_unless_held;
  clear_transmit = clears_transmit_leave;
  clear_receive = clears_receive_leave;
  set_low_mark = sets_low_mark_leave;
  take_low = takes_low_leave;
  try_handle = tries_leave;
  restart = restarts_arm;
  config_register_dump = dumps_registers_arm;
  adjust_rts = adjusts_leave;
}
