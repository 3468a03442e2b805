use Rattle.uart_virtual.proofs.Stays.{line_stays, dip_signalled, a_fall_uses_one_up}
use Rattle.uart_virtual.proofs.Tells.{rise_signalled, signals_up, a_signal_covers, no_look_covers_nothing, full_signalled}
use Rattle.uart_virtual.proofs.Tells.{no_other_signals}
use Rattle.uart_virtual.proofs.laws.rises_are_signalled.Goals as goal

pub returns-clause-rise : goal.returns-clause-rise
returns-clause-rise c = rise_signalled

pub returns-clause-dip : goal.returns-clause-dip
returns-clause-dip c = dip_signalled

pub returns-clause-covers : goal.returns-clause-covers
returns-clause-covers c = a_signal_covers

pub returns-clause-used : goal.returns-clause-used
returns-clause-used c = a_fall_uses_one_up

pub returns-clause-blind : goal.returns-clause-blind
returns-clause-blind c = no_look_covers_nothing

pub returns-clause-full : goal.returns-clause-full
returns-clause-full c = full_signalled

pub returns-clause-others : goal.returns-clause-others
returns-clause-others c = no_other_signals

pub returns-clause-up : goal.returns-clause-up
returns-clause-up c = signals_up

pub returns-clause-stays : goal.returns-clause-stays
returns-clause-stays c = line_stays
