use Rattle.uart_ring_runs.proofs.SharedLines.{all_low_at_once, shared_line_has_risen, handles_in_turn}
use Rattle.uart_ring_runs.proofs.laws.shared_lines_lose_no_edge.Goals as goal

pub returns : goal.returns
returns c = record {
  all_low = all_low_at_once;
  has_risen = shared_line_has_risen;
  handle_ports = handles_in_turn;
}
