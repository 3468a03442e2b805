use Rattle.uart_ring.proofs.Bounding.{queues_size, resumes_size, takes_size, services_size, takes_line_size, takes_modem_size}
use Rattle.uart_ring.proofs.Bounding.{handles_size, retriggers_size}
use Rattle.uart_ring.proofs.Bounding.{holds_size, releases_size, queues_urgent_size, clears_transmit_size, clears_receive_size}
use Rattle.uart_ring.proofs.Bounding.{sets_low_mark_size, takes_low_size, tries_size, restarts_size}
use Rattle.uart_ring.proofs.Bounding.{adjusts_size}
use Rattle.uart_ring.proofs.Bounding.{dumps_registers_size}
use Rattle.uart_ring.proofs.laws.ring_calls_are_bounded.Goals as goal

pub returns : goal.returns
returns c = record {
  queue = queues_size;
  resume_transmit = resumes_size;
  take = takes_size;
  service = services_size;
  handle = handles_size;
  retrigger = retriggers_size;
  take_line = takes_line_size;
  take_modem = takes_modem_size;
  hold_transmit = holds_size;
  release_transmit = releases_size;
  queue_urgent = queues_urgent_size;
  clear_transmit = clears_transmit_size;
  clear_receive = clears_receive_size;
  set_low_mark = sets_low_mark_size;
  take_low = takes_low_size;
  try_handle = tries_size;
  restart = restarts_size;
  config_register_dump = dumps_registers_size;
  adjust_rts = adjusts_size;
}
