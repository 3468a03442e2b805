use Rattle.uart_ring_runs.proofs.RingEdges.{handle_loses_no_edge, retrigger_loses_no_edge, idle_is_down, try_handle_loses_no_edge}
use Rattle.uart_ring_runs.proofs.RingEdges.{stuck_is_down}
use Rattle.uart_ring_runs.proofs.laws.handles_lose_no_edge.Goals as goal

pub returns : goal.returns
returns c = record {
  handle = handle_loses_no_edge;
  retrigger = retrigger_loses_no_edge;
  idle = idle_is_down;
  try_handle = try_handle_loses_no_edge;
  stuck = stuck_is_down;
}
