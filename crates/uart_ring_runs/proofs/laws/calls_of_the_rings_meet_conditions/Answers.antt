use Rattle.uart_ring_runs.proofs.RingOwn.{own_within, own_in_turn, own_keeps_armed, own_neither}
use Rattle.uart_ring_runs.proofs.laws.calls_of_the_rings_meet_conditions.Goals as goal

pub returns : goal.returns
returns c = record { within = own_within; in_turn = own_in_turn; armed = own_keeps_armed; told = own_neither }
