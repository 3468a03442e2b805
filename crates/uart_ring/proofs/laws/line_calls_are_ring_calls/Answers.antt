use Rattle.uart_ring.proofs.Lines as lines
use Rattle.uart_ring.proofs.laws.line_calls_are_ring_calls.Goals as goal

pub returns : goal.returns
returns c = record {
  lower_loses_nothing = lines.lowers_lose_nothing;
  raise_loses_nothing = lines.raises_lose_nothing;
  armed = lines.port_leaves_armed;
  off = lines.port_leaves_off;
  lower_is_bounded = lines.lowers_size;
  raise_is_bounded = lines.raises_size;
  lower_leaves_no_choice = lines.lowers_leave_no_choice;
  raise_leaves_no_choice = lines.raises_leave_no_choice;
}
