use Rattle.uart_ring.proofs.Rts.{obeys_xoff_loses_nothing, obeys_xoff_leave, obeys_xoff_size, obeys_xoff_leave_no_choice}
use Rattle.uart_ring.proofs.Rts.{obeys_xoff_holds}
use Rattle.uart_ring.proofs.laws.obey_xoff_is_a_ring_call.Goals as goal

pub returns : goal.returns
returns c = record {
  loses_nothing = obeys_xoff_loses_nothing;
  leaves_armed = obeys_xoff_leave;
  is_bounded = obeys_xoff_size;
  leaves_no_choice = obeys_xoff_leave_no_choice;
  holds = obeys_xoff_holds;
}
