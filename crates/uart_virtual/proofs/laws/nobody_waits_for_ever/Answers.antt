use Rattle.uart_virtual.proofs.Clocks.{nobody_waits, rise_given, rise_at_once, full_given, what_can_wait}
use Rattle.uart_virtual.proofs.Clocks.{given_up, clocked_stays, adds_none, look_is_enough}
use Rattle.uart_virtual.proofs.laws.nobody_waits_for_ever.Goals as goal

pub returns-clause-comes : goal.returns-clause-comes
returns-clause-comes c = nobody_waits

pub returns-clause-rise : goal.returns-clause-rise
returns-clause-rise c = rise_given

pub returns-clause-full : goal.returns-clause-full
returns-clause-full c = full_given

pub returns-clause-waits : goal.returns-clause-waits
returns-clause-waits c = what_can_wait

pub returns-clause-up : goal.returns-clause-up
returns-clause-up c = given_up

pub returns-clause-stays : goal.returns-clause-stays
returns-clause-stays c = clocked_stays

pub returns-clause-most : goal.returns-clause-most
returns-clause-most c = adds_none

pub returns-clause-at_once : goal.returns-clause-at_once
returns-clause-at_once c = rise_at_once

pub returns-clause-looked : goal.returns-clause-looked
returns-clause-looked c = look_is_enough
