use Rattle.uart_ring.proofs.Losses.{queues_lose_nothing, takes_lose_nothing, services_lose_nothing}
use Rattle.uart_ring.proofs.Losses.{resumes_lose_nothing, takes_line_loses_nothing, takes_modem_loses_nothing}
use Rattle.uart_ring.proofs.Losses.{handles_lose_nothing, retriggers_lose_nothing}
use Rattle.uart_ring.proofs.Losses.{holds_lose_nothing, releases_lose_nothing, queues_urgent_loses_only, clears_transmit_loses_only}
use Rattle.uart_ring.proofs.Losses.{clears_receive_loses_nothing, sets_low_mark_loses_nothing, takes_low_loses_nothing}
use Rattle.uart_ring.proofs.Losses.{tries_lose_nothing, restarts_lose_nothing}
use Rattle.uart_ring.proofs.Losses.{adjusts_lose_nothing}
use Rattle.uart_ring.proofs.laws.ring_calls_lose_nothing.Goals as goal

pub returns : goal.returns
returns c = record {
  queue = queues_lose_nothing;
  resume_transmit = resumes_lose_nothing;
  take = takes_lose_nothing;
  service = services_lose_nothing;
  handle = handles_lose_nothing;
  retrigger = retriggers_lose_nothing;
  take_line = takes_line_loses_nothing;
  take_modem = takes_modem_loses_nothing;
  hold_transmit = holds_lose_nothing;
  release_transmit = releases_lose_nothing;
  queue_urgent = queues_urgent_loses_only;
  clear_transmit = clears_transmit_loses_only;
  clear_receive = clears_receive_loses_nothing;
  set_low_mark = sets_low_mark_loses_nothing;
  take_low = takes_low_loses_nothing;
  try_handle = tries_lose_nothing;
  restart = restarts_lose_nothing;
  adjust_rts = adjusts_lose_nothing;
}
