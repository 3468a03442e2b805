use Rattle.uart_ring.proofs.Rts.{adjusts_xoff_loses_only, adjusts_xoff_leave, adjusts_xoff_size, adjusts_xoff_leave_no_choice}
use Rattle.uart_ring.proofs.laws.adjust_xoff_is_a_ring_call.Goals as goal

pub returns : goal.returns
returns c = record {
  loses_only = adjusts_xoff_loses_only;
  leaves_armed = adjusts_xoff_leave;
  is_bounded = adjusts_xoff_size;
  leaves_no_choice = adjusts_xoff_leave_no_choice;
}
